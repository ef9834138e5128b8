-- A body of whose fields each made a record, taken apart field by field: a field of the layout, a count with its run, or the end. So what was
-- read tells by what it was read.
use Rattle.std.proofs.Math.Path.{◌≡◌, refl, sym}
use Rattle.std.proofs.Common.{ap, ◌∙◌, inl, inr, arith, length-append}
use Rattle.std.specs.Prelude.{◌⊎◌, Bool, length, drop, eqb}
use Rattle.std.proofs.Math.Bool.{true, false}
use mathlib.Core.List.{List, [], ◌∷◌, ◌++◌, append_assoc, append-nil}
use Prim.Native.Nat.{ℕ, zero, suc, ◌+◌, ◌≤◌}
use Rattle.std.proofs.Math.Seq.{drop-append_seam}
use Rattle.field_rules.specs.Choice.{pick}
use Rattle.field_rules.specs.Fields.{Fields, unreadable, field}
use Rattle.field_rules.specs.declared.Field.{Field}
use Rattle.build_records.specs.Records.{stored}
use Rattle.build_records.specs.declared.Record.{Record}
use Rattle.dictionary_layout_rules.specs.Layout.{Layout}
use Rattle.dictionary_layout_rules.specs.Tree.{holds_tag}
use Rattle.build_group_rules.specs.Groups.{run, outermost, RunOutcome, walk}
use Rattle.build_group_rules.specs.Groups.{ended as ran, refused as stops}
use Rattle.build_group_rules.specs.Reading.{layout_rules, list_store}
use Rattle.build_required_rules.specs.Required.{run_lack}
use Rattle.build_required_rules.specs.Checking.{layout_demands}
use Rattle.build_required_rules.specs.declared.Lack.{Lack}
use Rattle.build_required_rules.specs.declared.Lack.TheVariants.{Missing, Complete}
use Rattle.build_parts.specs.Parts.{ended, part_record}
use Rattle.build_body_rules.specs.Body.{Body, Kind, plain, counts, other, behind_run, stored_run, and_then, next_from, with_run, body_from}
use Rattle.build_body_rules.proofs.BodyLaws.{body-plain, body_run, body-ends, body_invalid}
use Rattle.build_body_rules.proofs.BodyReading.{run_falls}
use Rattle.build_body_rules.specs.Kinds.{body_kind, checked, ran_as, run_from, body_of}
use Rattle.build_order_laws.specs.BodyStores.{walk_stores, behind_fewer, body_stores}
use Rattle.build_order_laws.specs.Follows.{Stores}
use Rattle.promise_standard.specs.GroupOwn.{stored_either}

-- a run that is stored comes last, or there are less records than that
run_either : (r : Record) (es rs : List Record) → (stored_run r es rs ≡ rs ++ (r ∷ es)) ⊎ (length (stored_run r es rs) ≤ length rs + length es)
unfolding stored_run
run_either r es [] = inl refl
run_either r es (x ∷ rs) = by_tests (eqb x.depth r.depth) (eqb x.tag r.tag) (run_either r es rs)
  where
    later : (stored_run r es rs ≡ rs ++ (r ∷ es)) ⊎ (length (stored_run r es rs) ≤ length rs + length es)
        → (x ∷ stored_run r es rs ≡ x ∷ (rs ++ (r ∷ es))) ⊎ (length (x ∷ stored_run r es rs) ≤ length (x ∷ rs) + length es)
    later (inl e) = inl (ap (λ (l : List Record). x ∷ l) e)
    later (inr l) = inr (omega arith)

    by_tests : (b c : Bool) → (stored_run r es rs ≡ rs ++ (r ∷ es)) ⊎ (length (stored_run r es rs) ≤ length rs + length es)
        → (pick b (pick c (r ∷ (es ++ behind_run rs)) (x ∷ stored_run r es rs)) (x ∷ stored_run r es rs) ≡ x ∷ (rs ++ (r ∷ es)))
        ⊎ (length (pick b (pick c (r ∷ (es ++ behind_run rs)) (x ∷ stored_run r es rs)) (x ∷ stored_run r es rs)) ≤ length (x ∷ rs) + length es)
    by_tests true true e = inr (omega (arith, length-append es (behind_run rs), behind_fewer rs))
    by_tests true false e = later e
    by_tests false c e = later e

pub same-behind : (done a b : List Record) → done ++ a ≡ done ++ b → a ≡ b
same-behind done a b e = sym (drop-append_seam done a) ∙ ap (λ (l : List Record). drop (length done) l) e ∙ drop-append_seam done b

module _ (accepts : ℕ → Bool) (layout : Layout) (trailer : List ℕ) where
  abbrev pub the_body : Body Layout
  the_body = body_of (layout_rules accepts) layout_demands trailer layout

  -- reading went on at the next field
  next-reads : (fields : Fields) (room : ℕ) (rs ss : List Record) (x : Field) (rest : Fields) (left : ℕ)
      → and_then (next_from fields room rs) (body_from the_body) ≡ ended x rest left ss
      → body_from the_body fields room rs ≡ ended x rest left ss
  unfolding next_from and_then
  next-reads (unreadable cause place) room rs ss x rest left e = let z : ◌≡◌ {A = ℕ} 0 1 = cc in absurd (omega arith)
  next-reads (field g more) zero rs ss x rest left e = let z : ◌≡◌ {A = ℕ} 0 1 = cc in absurd (omega arith)
  next-reads (field g more) (suc room) rs ss x rest left e = e

  -- a run ended and lacks nothing, and reading went on
  record Ran (inner : Layout) (tag room : ℕ) (count : Record) (fields : Fields) (rs ss : List Record) (x : Field) (rest : Fields) (left : ℕ) : Type 0 where
    next : Field
    behind : Fields
    room-left : ℕ
    entries : List Record
    walked : walk (layout_rules accepts) list_store room (run (outermost tag inner) 0 ∷ []) [] fields ≡ ran next behind room-left entries
    complete : run_lack layout_demands 4 inner tag 1 entries ≡ Complete
    goes_on : body_from the_body (field next behind) (suc room-left) (stored_run count entries rs) ≡ ended x rest left ss

  ran_reads : (inner : Layout) (tag room : ℕ) (count : Record) (fields : Fields) (rs ss : List Record) (x : Field) (rest : Fields) (left : ℕ)
      → and_then (with_run count rs (run_from (layout_rules accepts) layout_demands inner tag fields room)) (body_from the_body) ≡ ended x rest left ss
      → Ran inner tag room count fields rs ss x rest left
  unfolding run_from
  ran_reads inner tag room count fields rs ss x rest left e =
      by_outcome (walk (layout_rules accepts) list_store room (run (outermost tag inner) 0 ∷ []) [] fields) refl e
    where
      by_lack : (y : Field) (later : Fields) (here : ℕ) (es : List Record)
          → walk (layout_rules accepts) list_store room (run (outermost tag inner) 0 ∷ []) [] fields ≡ ran y later here es
          → (lack : Lack) → run_lack layout_demands 4 inner tag 1 es ≡ lack
          → and_then (with_run count rs (checked y later here es lack)) (body_from the_body) ≡ ended x rest left ss
          → Ran inner tag room count fields rs ss x rest left
      by_lack y later here es w Complete c e =
          record { next = y; behind = later; room-left = here; entries = es; walked = w; complete = c; goes_on = (unfold checked with_run and_then in e) }
      by_lack y later here es w (Missing t u) c e = let z : ◌≡◌ {A = ℕ} 0 1 = unfold checked with_run and_then in cc in absurd (omega arith)

      by_outcome : (o : RunOutcome (List Record) (List Record)) → walk (layout_rules accepts) list_store room (run (outermost tag inner) 0 ∷ []) [] fields ≡ o
          → and_then (with_run count rs (ran_as (layout_rules accepts) layout_demands inner tag o)) (body_from the_body) ≡ ended x rest left ss
          → Ran inner tag room count fields rs ss x rest left
      by_outcome (ran y later here es) w e = by_lack y later here es w (run_lack layout_demands 4 inner tag 1 es) refl (unfold ran_as in e)
      by_outcome (stops refusal es) w e = let z : ◌≡◌ {A = ℕ} 0 1 = unfold ran_as with_run and_then in cc in absurd (omega arith)

  -- what a field did, where each made a record: it ended the body; it is a field of the layout; or it is a count, and its run was read
  pub data Step (g : Field) (more : Fields) (room : ℕ) (rs new : List Record) (x : Field) (rest : Fields) (left : ℕ) : Type 0 where
    over : body_kind (layout_rules accepts) layout g.tag ≡ other → holds_tag g.tag trailer ≡ true → g ≡ x → new ≡ [] → Step g more room rs new x rest left
    took : (behind : List Record) → body_kind (layout_rules accepts) layout g.tag ≡ plain → new ≡ part_record 2 g ∷ behind
        → body_from the_body more room (rs ++ (part_record 2 g ∷ [])) ≡ ended x rest left ((rs ++ (part_record 2 g ∷ [])) ++ behind)
        → length behind + suc left ≡ room → Step g more room rs new x rest left
    counted : (inner : Layout) (y : Field) (later : Fields) (here : ℕ) (es behind : List Record) → body_kind (layout_rules accepts) layout g.tag ≡ counts inner
        → walk (layout_rules accepts) list_store room (run (outermost g.tag inner) 0 ∷ []) [] more ≡ ran y later here es
        → run_lack layout_demands 4 inner g.tag 1 es ≡ Complete → length es + suc here ≡ room
        → new ≡ part_record 2 g ∷ (es ++ behind) → body_from the_body (field y later) (suc here)
        (rs ++ (part_record 2 g ∷ es)) ≡ ended x rest left ((rs ++ (part_record 2 g ∷ es)) ++ behind) → length behind + suc left ≡ suc here
        → Step g more room rs new x rest left

  nothing-new : (rs new : List Record) → rs ≡ rs ++ new → new ≡ []
  nothing-new rs new e = sym (same-behind rs [] new (append-nil rs ∙ e))

  module _ (g : Field) (more : Fields) (room : ℕ) (rs new : List Record) (x : Field) (rest : Fields) (left : ℕ) (each : length new + left ≡ room) where
    plain_step : body_kind (layout_rules accepts) layout g.tag ≡ plain
        → body_from the_body more room (stored (part_record 2 g) rs) ≡ ended x rest left (rs ++ new) → Step g more room rs new x rest left
    plain_step k e = by_either (stored_either (part_record 2 g) rs)
      where
        s : Stores 2 more room (stored (part_record 2 g) rs) (field x rest) (suc left) (rs ++ new)
        s = body_stores (layout_rules accepts) layout_demands trailer layout more room (stored (part_record 2 g) rs) x rest left (rs ++ new) e

        by_either : (stored (part_record 2 g) rs ≡ rs ++ (part_record 2 g ∷ [])) ⊎ (length (stored (part_record 2 g) rs) ≡ length rs)
            → Step g more room rs new x rest left
        by_either (inr same) = absurd (omega (arith, s.room_is, s.at_most, length-append rs new))
        by_either (inl last) =
            let o = s.ordered (omega (arith, s.room_is, ap length last, length-append rs new, length-append rs (part_record 2 g ∷ []))) in
            let whole : rs ++ new ≡ (rs ++ (part_record 2 g ∷ [])) ++ o.new = o.appended ∙ ap (λ (l : List Record). l ++ o.new) last in
            let behind : new ≡ part_record 2 g ∷ o.new = same-behind rs new _ (whole ∙ append_assoc rs (part_record 2 g ∷ []) o.new) in
            took o.new k behind (ap (body_from the_body more room) (sym last) ∙ e ∙ ap (λ (l : List Record). ended x rest left l) whole)
            (omega (arith, ap length behind))

    run_step : (inner : Layout) → body_kind (layout_rules accepts) layout g.tag ≡ counts inner
        → Ran inner g.tag room (part_record 2 g) more rs (rs ++ new) x rest left → Step g more room rs new x rest left
    run_step inner k r = by_either (run_either (part_record 2 g) r.entries rs)
      where
        s : Stores 2 more room [] (field r.next r.behind) (suc r.room-left) r.entries
        s = walk_stores (layout_rules accepts) room (run (outermost g.tag inner) 0 ∷ []) [] more r.next r.behind r.room-left r.entries r.walked

        t : Stores 2 (field r.next r.behind) (suc r.room-left) (stored_run (part_record 2 g) r.entries rs) (field x rest) (suc left) (rs ++ new)
        t =
            body_stores (layout_rules accepts) layout_demands trailer layout (field r.next r.behind) (suc r.room-left)
            (stored_run (part_record 2 g) r.entries rs) x rest left (rs ++ new) r.goes_on

        by_either : (stored_run (part_record 2 g) r.entries rs ≡ rs ++ (part_record 2 g ∷ r.entries))
            ⊎ (length (stored_run (part_record 2 g) r.entries rs) ≤ length rs + length r.entries)
            → Step g more room rs new x rest left
        by_either (inr few) = absurd (omega (arith, s.room_is, s.at_most, t.room_is, t.at_most, length-append rs new))
        by_either (inl last) =
            let size = length-append rs (part_record 2 g ∷ r.entries) in
            let o = t.ordered (omega (arith, s.room_is, s.at_most, t.room_is, t.at_most, ap length last, length-append rs new)) in
            let whole : rs ++ new ≡ (rs ++ (part_record 2 g ∷ r.entries)) ++ o.new = o.appended ∙ ap (λ (l : List Record). l ++ o.new) last in
            let behind : new ≡ part_record 2 g ∷ (r.entries ++ o.new) = same-behind rs new _
            (whole ∙ append_assoc rs (part_record 2 g ∷ r.entries) o.new) in
            let sizes = length-append r.entries o.new in
            counted inner r.next r.behind r.room-left r.entries o.new k r.walked r.complete
            (omega (arith, s.room_is, s.at_most, t.room_is, t.at_most, ap length last, length-append rs new)) behind
            (ap (body_from the_body (field r.next r.behind) (suc r.room-left)) (sym last) ∙ r.goes_on
            ∙ ap (λ (l : List Record). ended x rest left l) whole)
            (omega (arith, s.room_is, s.at_most, t.room_is, t.at_most, ap length last, ap length behind, length-append rs new))

    pub body-step : body_from the_body (field g more) (suc room) rs ≡ ended x rest left (rs ++ new) → Step g more room rs new x rest left
    unfolding body_of
    body-step e = by_kind (body_kind (layout_rules accepts) layout g.tag) refl
      where
        by_held : (b : Bool) → holds_tag g.tag trailer ≡ b → body_kind (layout_rules accepts) layout g.tag ≡ other → Step g more room rs new x rest left
        by_held true h k =
            let d = sym (body-ends the_body (run_falls (layout_rules accepts) layout_demands) g more room rs k h) ∙ e in
            over k h (cc) (nothing-new rs new (cc))
        by_held false h k =
            let d = sym (body_invalid the_body (run_falls (layout_rules accepts) layout_demands) g more room rs k h) ∙ e in
            let z : ◌≡◌ {A = ℕ} 0 1 = cc in absurd (omega arith)

        by_kind : (k : Kind Layout) → body_kind (layout_rules accepts) layout g.tag ≡ k → Step g more room rs new x rest left
        by_kind plain k =
            plain_step k (next-reads more room (stored (part_record 2 g) rs) (rs ++ new) x rest left
            (sym (body-plain the_body (run_falls (layout_rules accepts) layout_demands) g more room rs k) ∙ e))
        by_kind (counts inner) k =
            run_step inner k (ran_reads inner g.tag room (part_record 2 g) more rs (rs ++ new) x rest left
            (sym (body_run the_body (run_falls (layout_rules accepts) layout_demands) g more room rs inner k) ∙ e))
        by_kind other k = by_held (holds_tag g.tag trailer) refl k
