-- The other way round: a body of the standard that is read as exactly its fields fits the layout. Each field did what its depth and entry
-- number say: a member outside groups is a field or a count, and the run of a count took exactly the entries of its group.
use Rattle.std.proofs.Math.Path.{◌≡◌, ap}
use Rattle.std.specs.Prelude.{refl, Bool, true, false, length}
use Rattle.std.proofs.Common.{sym, ◌∙◌, arith, length-append}
use mathlib.Core.List.{List, [], ◌∷◌, ◌++◌, append-nil}
use Prim.Native.Nat.{ℕ, suc, ◌+◌}
use Rattle.field_rules.specs.Fields.{Fields, field}
use Rattle.standard_rules.specs.Standard.{Tables, NoCount, Told, Int, members, entries, Stands}
use Rattle.field_rules.specs.declared.Field.{Field}
use Rattle.build_records.specs.declared.Record.{Record}
use Rattle.dictionary_layout_rules.specs.Layout.{Layout}
use Rattle.dictionary_layout_rules.specs.Tree.{holds_tag}
use Rattle.build_group_rules.specs.Groups.{run, outermost, entry_record, walk}
use Rattle.build_group_rules.specs.Groups.{ended as ran}
use Rattle.build_group_rules.specs.Reading.{layout_rules, list_store}
use Rattle.build_nesting_laws.specs.Entries.{formed_deep, all_map}
use Rattle.build_nesting_laws.specs.Entries.{All as AllRecords}
use Rattle.build_nesting_laws.specs.Nesting.{run_formed}
use Rattle.build_required_rules.specs.Required.{before, shallow, run_lack}
use Rattle.build_required_rules.specs.RequiredLaws.{shallow-here, shallow_not}
use Rattle.build_required_rules.specs.Checking.{layout_demands}
use Rattle.build_required_rules.specs.declared.Lack.TheVariants.{Complete}
use Rattle.build_parts.specs.Parts.{ended, part_record}
use Rattle.build_body_rules.specs.Body.{counts, other, body_from}
use Rattle.build_body_rules.specs.Kinds.{body_kind}
use Rattle.build_order_laws.specs.BodyStores.{walk_stores}
use Rattle.build_order_laws.specs.Follows.{Reaches, here as at_place, further}
use Rattle.promise_standard.specs.Reading.{ReadsAs, no_field, one_field}
use Rattle.promise_standard.specs.Groups.{numbered, records_as}
use Rattle.promise_standard.proofs.GroupSteps.{Split, reads_split, numbered_each, records_split, records_tell, tell_each}
use Rattle.promise_standard.proofs.GroupTakes.{walk-takes}
use Rattle.promise_standard.proofs.GroupOpen.{Above, Head, head_none, head_some, count_open}
use Rattle.promise_standard.proofs.GroupReading.{some-fields}
use Rattle.promise_standard.proofs.GroupExact.{group_fits}
use Rattle.promise_standard_build.specs.Fitting.{BodyFits}
use Rattle.promise_standard_build.proofs.RequiredExact.{before-append, nested-deeper, members-shallow, required_exact}
use Rattle.promise_standard_build.specs.BodySteps.{same-behind, the_body, Step, over, took, counted, body-step}

-- ===== what is read is told =====

-- as many records as fields
read_each : {T : Tables} {Here : ℕ → Type 0} {ts : List ℕ} {fs : List Told} (message : List ℕ) (s : Stands T Here (members ts) fs) (fields last : Fields)
    → ReadsAs message fields fs last → length (records_as (numbered 0 0 s) fields) ≡ length fs
read_each message s fields last reads = tell_each (records_tell message fields last _ (numbered 0 0 s) reads (numbered_each 0 0 s))

-- so many fields on, reading stands at one place
pub same_place : {message : List ℕ} {fields a b : Fields} {fs : List Told} {n : ℕ} → ReadsAs message fields fs a → Reaches fields n b → n ≡ length fs → a ≡ b
same_place no_field at_place e = refl
same_place no_field (further r) e = absurd (omega arith)
same_place (one_field tag value reads) at_place e = absurd (omega arith)
same_place (one_field tag value reads) (further r) e = same_place reads r (omega arith)

module _ (accepts : ℕ → Bool) (layout : Layout) (trailer : List ℕ) where
  -- what the rest of a body tells starts outside groups
  step-shallow : {g : Field} {more : Fields} {room : ℕ} {rs new : List Record} {x : Field} {rest : Fields} {left : ℕ}
      → Step accepts layout trailer g more room rs new x rest left → before (shallow 0) new ≡ []
  unfolding before part_record
  step-shallow (over k h same e) = rw e
  step-shallow {g = g} (took behind k e b l) = rw (e, shallow-here 0 (part_record 2 g) (omega arith))
  step-shallow {g = g} (counted inner y later left_over es behind k w c l e b l₂) = rw (e, shallow-here 0 (part_record 2 g) (omega arith))

  -- the same of a body from any field on
  body-shallow : (message : List ℕ) (fields : Fields) (hs : List Told) (room : ℕ) (rs new : List Record) (x : Field) (rest : Fields) (left : ℕ)
      → ReadsAs message fields hs (field x rest)
      → body_from (the_body accepts layout trailer) fields room rs ≡ ended x rest left (rs ++ new) → length new + suc left ≡ room → before (shallow 0) new ≡ []
  body-shallow message _ _ room rs new x rest left no_field e l =
      step-shallow (body-step accepts layout trailer x rest (length new + left) rs new x rest left refl
      (ap (λ (n : ℕ). body_from (the_body accepts layout trailer) (field x rest) n rs) (omega arith) ∙ e))
  body-shallow message _ _ room rs new x rest left (one_field {f = f} {rest = more} tag value reads) e l =
      step-shallow (body-step accepts layout trailer f more (length new + left) rs new x rest left refl
      (ap (λ (n : ℕ). body_from (the_body accepts layout trailer) (field f more) n rs) (omega arith) ∙ e))

  module _ (message : List ℕ) (T : Tables) (Here : ℕ → Type 0) (x : Field) (rest : Fields) (left : ℕ) where
    -- the records of a run that come first among those of members outside groups: there are none
    run_head : {ts : List ℕ} {fs : List Told} (s : Stands T Here (members ts) fs) (fields : Fields) (ns : List (ℕ × ℕ)) (behind : List Record)
        → ReadsAs message fields fs (field x rest)
        → records_as (numbered 0 0 s) fields ≡ records_as ns fields ++ behind → Head (Above 1) ns
    unfolding numbered records_as entry_record
    run_head s fields [] behind reads e = head_none
    run_head Stands.no_member _ (n ∷ ns) behind no_field e = let z : ◌≡◌ {A = ℕ} 0 1 = cc in absurd (omega arith)
    run_head (Stands.field _ _ s) _ (n ∷ ns) behind (one_field {f = f} tag value reads) e =
        let same : entry_record 0 0 f ≡ entry_record n.0 n.1 f = cc in head_some {n = n}
        (record { above = omega (arith, ap (λ (r : Record). r.depth) same) })
    run_head (Stands.group _ _ i g s) _ (n ∷ ns) behind (one_field {f = f} tag value reads) e =
        let same : entry_record 0 0 f ≡ entry_record n.0 n.1 f = cc in head_some {n = n}
        (record { above = omega (arith, ap (λ (r : Record). r.depth) same) })

    -- the records of a run stand in it
    run-deep : (inner : Layout) (tag : ℕ) (fields : Fields) (room : ℕ) (y : Field) (after : Fields) (here : ℕ) (es : List Record)
        → walk (layout_rules accepts) list_store room (run (outermost tag inner) 0 ∷ []) [] fields ≡ ran y after here es
        → AllRecords (λ r. shallow 0 r ≡ false) es
    run-deep inner tag fields room y after here es w =
        let r = run_formed (layout_rules accepts) [] (outermost tag inner) room fields y after here es w in
        rw r.whole (all_map (λ q d. shallow_not 0 q (omega (arith, d.deep))) (formed_deep (layout_rules accepts) r.formed))

    -- what is read as its fields: it fits, and ends at a trailer tag
    pub record BodyEnds {ts : List ℕ} {fs : List Told} (s : Stands T Here (members ts) fs) : Type 0 where
      pub fits : BodyFits accepts layout x.tag ts fs s
      pub taken_not : body_kind (layout_rules accepts) layout x.tag ≡ other
      pub ends : holds_tag x.tag trailer ≡ true

    abbrev Exactly : {ts : List ℕ} {fs : List Told} → Stands T Here (members ts) fs → Type 0
    Exactly {ts} {fs} s =
        (done : List Record) (fields : Fields) → ReadsAs message fields fs (field x rest)
        → body_from (the_body accepts layout trailer) fields (length fs + suc left) done ≡ ended x rest left (done ++ records_as (numbered 0 0 s) fields)
        → BodyEnds s

    exactly_none : Exactly Stands.no_member
    unfolding numbered records_as
    exactly_none done _ no_field e =
        by_step (body-step accepts layout trailer x rest left done [] x rest left (omega arith)
        (ap (λ (n : ℕ). body_from (the_body accepts layout trailer) (field x rest) n done) (omega arith) ∙ e))
      where
        by_step : Step accepts layout trailer x rest left done [] x rest left → BodyEnds Stands.no_member
        by_step (over k h same n) = record { fits = BodyFits.no_member; taken_not = k; ends = h }
        by_step (took behind k n b l) = let z : ◌≡◌ {A = ℕ} 0 1 = cc in absurd (omega arith)
        by_step (counted inner y later room es behind k w c l n b m) = let z : ◌≡◌ {A = ℕ} 0 1 = cc in absurd (omega arith)

    exactly_field : (t : ℕ) (v : List ℕ) {ts : List ℕ} {fs : List Told} (may : Here t) (single : NoCount T t) (s : Stands T Here (members ts) fs) → Exactly s
        → Exactly (Stands.field {t = t} {v = v} may single s)
    unfolding numbered records_as
    exactly_field t v {ts = ts} {fs = fs} may single s more done _ (one_field {f = f} {rest = later} same value reads) e =
        by_step (body-step accepts layout trailer f later (length fs + suc left) done new x rest left (omega (arith, each))
        (ap (λ (n : ℕ). body_from (the_body accepts layout trailer) (field f later) n done) (omega arith) ∙ e))
      where
        N : List Record
        N = records_as (numbered 0 0 s) later

        new : List Record
        new = entry_record 0 0 f ∷ N

        each : length N ≡ length fs
        each = read_each message s later (field x rest) reads

        by_step : Step accepts layout trailer f later (length fs + suc left) done new x rest left → BodyEnds (Stands.field {t = t} {v = v} may single s)
        by_step (over k h eq n) = let z : ◌≡◌ {A = ℕ} 0 1 = cc in absurd (omega arith)
        by_step (took behind k n b l) =
            let is : behind ≡ N = cc in
            let r = more (done ++ (part_record 2 f ∷ [])) later reads (rw is at b) in
            record { fits = BodyFits.field (ap (body_kind (layout_rules accepts) layout) (sym same) ∙ k) r.fits; taken_not = r.taken_not; ends = r.ends }
        by_step (counted inner y after room es behind k w c l n b m) =
            let w₂ = walk-takes (layout_rules accepts) (length fs + suc left) (run (outermost f.tag inner) 0 ∷ []) [] later y after room es (omega (arith, l)) w in
            let first : N ≡ es ++ behind = cc in
            absurd (count_open (layout_rules accepts) y after (outermost f.tag inner) 0 [] refl
            (run_head s later w₂.numbers behind reads (first ∙ ap (λ (q : List Record). q ++ behind) w₂.records)) w₂.taken)

    exactly_group : (t : ℕ) {d n : ℕ} {count : List ℕ} {ts : List ℕ} {gs fs : List Told} (may : Here t) (opening : T.Group t d) (i : Int count (suc n))
        (g : Stands T Here (entries t d (suc n)) gs) (s : Stands T Here (members ts) fs)
        → Exactly s → Exactly (Stands.group {t = t} {count = count} may opening i g s)
    unfolding numbered records_as
    exactly_group t {d = d} {n = n} {count = count} {ts = ts} {gs = gs} {fs = fs} may opening i g s more done _
        (one_field {f = f} {rest = later} same value reads) e =
        by_step (body-step accepts layout trailer f later (length (gs ++ fs) + suc left) done
        (entry_record 0 0 f ∷ records_as (numbered 1 0 g ++ numbered 0 0 s) later) x rest left (omega (arith, each))
        (ap (λ (n : ℕ). body_from (the_body accepts layout trailer) (field f later) n done) (omega arith) ∙ e))
      where
        cut : Split message later gs fs x rest
        cut = reads_split message x rest later gs fs reads

        behind-entries : Fields
        behind-entries = field cut.next cut.rest

        A : List Record
        A = records_as (numbered 1 0 g) later

        B : List Record
        B = records_as (numbered 0 0 s) behind-entries

        parts : records_as (numbered 1 0 g ++ numbered 0 0 s) later ≡ A ++ B
        parts = records_split message later behind-entries gs (numbered 1 0 g) (numbered 0 0 s) cut.reads_first (numbered_each 1 0 g)

        each_entry : length A ≡ length gs
        each_entry = tell_each (records_tell message later behind-entries gs (numbered 1 0 g) cut.reads_first (numbered_each 1 0 g))

        each : length (records_as (numbered 1 0 g ++ numbered 0 0 s) later) ≡ length (gs ++ fs)
        each =
            omega (
              arith,
              ap length parts,
              length-append A B,
              each_entry,
              read_each message s behind-entries (field x rest)
                  cut.reads_second,
              length-append gs fs,
            )

        -- the entries come first, deeper than what is behind them
        entries-first : before (shallow 0) (A ++ B) ≡ A
        entries-first =
            before-append (shallow 0) B (all_map (λ r h. shallow_not 0 r h) (nested-deeper 0 later g))
            ∙ ap (λ (l : List Record). A ++ l) (members-shallow message 0 0 behind-entries (field x rest) s cut.reads_second) ∙ append-nil A

        -- the run took the group's entries, up to the field behind them
        walked : (inner : Layout) (room : ℕ) (y : Field) (after : Fields) (es : List Record) → field cut.next cut.rest ≡ field y after → A ≡ es
            → length gs + suc room ≡ length (gs ++ fs) + suc left
            → walk (layout_rules accepts) list_store (length (gs ++ fs) + suc left) (run (outermost f.tag inner) 0 ∷ []) [] later ≡ ran y after room es
            → walk (layout_rules accepts) list_store (length gs + suc room) (run (outermost f.tag inner) 0 ∷ []) [] later ≡ ran cut.next cut.rest room A
        walked inner room y after es place same_entries size w =
            let p : y ≡ cut.next = cc in
            let q : after ≡ cut.rest = cc in
            rw (size, ← p, ← q, same_entries) w

        goes_on : (room : ℕ) (y : Field) (after : Fields) (es behind : List Record) → field cut.next cut.rest ≡ field y after → B ≡ behind
            → suc room ≡ length fs + suc left
            → body_from (the_body accepts layout trailer) (field y after) (suc room)
            (done ++ (part_record 2 f ∷ es)) ≡ ended x rest left ((done ++ (part_record 2 f ∷ es)) ++ behind)
            → body_from (the_body accepts layout trailer) behind-entries (length fs + suc left)
            (done ++ (part_record 2 f ∷ es)) ≡ ended x rest left ((done ++ (part_record 2 f ∷ es)) ++ B)
        goes_on room y after es behind place same-others size b =
            ap (λ (l : Fields). body_from (the_body accepts layout trailer) l (length fs + suc left) (done ++ (part_record 2 f ∷ es))) place
            ∙ ap (λ (n : ℕ). body_from (the_body accepts layout trailer) (field y after) n (done ++ (part_record 2 f ∷ es))) (sym size)
            ∙ b ∙ ap (λ (l : List Record). ended x rest left ((done ++ (part_record 2 f ∷ es)) ++ l)) (sym same-others)

        group-ends : (inner : Layout) {room : ℕ} → body_kind (layout_rules accepts) layout f.tag ≡ counts inner
            → walk (layout_rules accepts) list_store (length gs + suc room) (run (outermost f.tag inner) 0 ∷ []) [] later ≡ ran cut.next cut.rest room A
            → run_lack layout_demands 4 inner f.tag 1 A ≡ Complete → BodyEnds s → BodyEnds (Stands.group {t = t} {count = count} may opening i g s)
        group-ends inner {room} k w c r =
            let p = group_fits (layout_rules accepts) message cut.next cut.rest T Here g (outermost f.tag inner) room [] later cut.reads_first w in
            let required = (required_exact message accepts T Here g inner cut.next.tag f.tag later cut.next cut.rest p.0
            cut.reads_first).0 c in
            record {
              fits =
                  BodyFits.group (ap (body_kind (layout_rules accepts) layout) (sym same) ∙ k) (rw cut.tag_is at p.0) required
                  (rw cut.tag_is at p.1) r.fits;
              taken_not = r.taken_not;
              ends = r.ends;
            }

        by_step : Step accepts layout trailer f later (length (gs ++ fs) + suc left)
            done (entry_record 0 0 f ∷ records_as (numbered 1 0 g ++ numbered 0 0 s) later)
            x rest left → BodyEnds (Stands.group {t = t} {count = count} may opening i g s)
        by_step (over k h eq n) = let z : ◌≡◌ {A = ℕ} 0 1 = cc in absurd (omega arith)
        by_step (took behind k n b l) =
            let is : behind ≡ records_as (numbered 1 0 g ++ numbered 0 0 s) later = cc in
            let none : before (shallow 0) behind ≡ [] = body-shallow message later (gs ++ fs) (length (gs ++ fs) + suc left)
            (done ++ (part_record 2 f ∷ [])) behind x rest left reads b l in
            let empty : A ≡ [] = sym entries-first ∙ ap (before (shallow 0)) (sym parts ∙ sym is) ∙ none in
            absurd (omega (arith, ap length empty, each_entry, some-fields t d _ g refl))
        by_step (counted inner y after room es behind k w c l n b m) =
            let first : records_as (numbered 1 0 g ++ numbered 0 0 s) later ≡ es ++ behind = cc in
            let tail : before (shallow 0) behind ≡ [] = step-shallow (body-step accepts layout trailer y after room
            (done ++ (part_record 2 f ∷ es)) behind x rest left (omega (arith, m)) b) in
            let es-first : before (shallow 0) (es ++ behind) ≡ es = before-append (shallow 0) behind
            (run-deep inner f.tag later (length (gs ++ fs) + suc left) y after room es w) ∙ ap (λ (l : List Record). es ++ l) tail ∙ append-nil es in
            let same_entries : A ≡ es = sym entries-first ∙ ap (before (shallow 0)) (sym parts ∙ first) ∙ es-first in
            let same-others : B ≡ behind = same-behind es B behind (ap (λ (l : List Record). l ++ B) (sym same_entries) ∙ sym parts ∙ first) in
            let stores = walk_stores (layout_rules accepts) (length (gs ++ fs) + suc left) (run (outermost f.tag inner) 0 ∷ []) [] later y after room es w in
            let place : field cut.next cut.rest ≡ field y after = same_place cut.reads_first stores.reaches
            (omega (arith, stores.room_is, l, ap length same_entries, each_entry)) in
            group-ends inner k (walked inner room y after es place same_entries (omega (arith, l, ap length same_entries, each_entry)) w)
            (ap (run_lack layout_demands 4 inner f.tag 1) same_entries ∙ c)
            (more (done ++ (part_record 2 f ∷ es)) behind-entries cut.reads_second
            (goes_on room y after es behind place same-others
            (omega (arith, m, ap length same-others, read_each message s behind-entries (field x rest) cut.reads_second)) b))

    -- a body that is read as exactly its fields fits
    pub body_exact : {ts : List ℕ} {fs : List Told} (s : Stands T Here (members ts) fs) → Exactly s
    body_exact Stands.no_member = exactly_none
    body_exact (Stands.field {t = t} {v = v} may single s) = exactly_field t v may single s (body_exact s)
    body_exact (Stands.group {t = t} may opening i g s) = exactly_group t may opening i g s (body_exact s)
