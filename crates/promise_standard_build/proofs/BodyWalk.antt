-- The body of a message of the standard that fits its layout is read as exactly its fields: member by member, each group as its entries.
-- No tag stands twice outside groups, so every record comes last.
use Rattle.std.specs.Prelude.{◌≡◌, Bool, true, false, length, eqb}
use Rattle.std.proofs.Math.Path.{refl, ap}
use Rattle.std.proofs.Common.{sym, ◌∙◌, eqb-true}
use mathlib.Core.List.{List, [], ◌∷◌, ◌++◌, append_assoc, append-nil}
use Prim.Native.Nat.{ℕ, suc, ◌+◌}
use native.Mathlib.Omega.{arith}
use Rattle.std.proofs.Math.ListN.{length-append}
use Rattle.field_rules.specs.Choice.{pick}
use Rattle.field_rules.specs.Fields.{Fields, field}
use Rattle.standard_rules.specs.Standard.{Tables, NoCount, All, Told, Int, members, entries, Stands}
use Rattle.field_rules.specs.declared.Field.{Field}
use Rattle.build_records.specs.Records.{stored}
use Rattle.build_records.specs.declared.Record.{Record}
use Rattle.dictionary_layout_rules.specs.Layout.{Layout}
use Rattle.dictionary_layout_rules.specs.Tree.{holds_tag}
use Rattle.build_group_rules.specs.Groups.{run, outermost, entry_record, walk}
use Rattle.build_group_rules.specs.Groups.{ended as ran}
use Rattle.build_group_rules.specs.Reading.{layout_rules, list_store}
use Rattle.build_required_rules.specs.Required.{run_lack}
use Rattle.build_required_rules.specs.Checking.{layout_demands}
use Rattle.build_required_rules.specs.declared.Lack.TheVariants.{Complete}
use Rattle.build_parts.specs.Parts.{Reading, ended, part_record}
use Rattle.build_body_rules.specs.Body.{Body, plain, counts, other, behind_run, stored_run, and_then, next_from, with_run, body_from}
use Rattle.build_body_rules.proofs.BodyLaws.{body-plain, body_run, body-ends}
use Rattle.build_body_rules.proofs.BodyReading.{run_falls}
use Rattle.build_body_rules.specs.Kinds.{body_kind, checked, ran_as, run_from, body_of}
use Rattle.promise_standard.specs.Reading.{ReadsAs, no_field, one_field}
use Rattle.promise_standard.specs.Groups.{numbered, records_as, tag_behind, entries_of, Leaves, Fits}
use Rattle.promise_standard.specs.GroupOwn.{Free, free-none, free_more, Fresh, fresh_record, fresh-nested, stored-free}
use Rattle.promise_standard.proofs.GroupSteps.{reads_split, numbered_each, records_behind}
use Rattle.promise_standard.proofs.GroupReading.{group-read}
use Rattle.promise_standard_build.specs.Fitting.{HasRequired, BodyFits}
use Rattle.promise_standard_build.proofs.RequiredExact.{required_exact}

-- ===== what is new comes last =====

run-free : (r : Record) (es rs : List Record) → Free r.depth r.tag rs → stored_run r es rs ≡ rs ++ (r ∷ es)
unfolding stored_run
run-free r es _ free-none = refl
run-free r es _ (free_more {r = x} {rs = rs} h a) = by_tests (eqb x.depth r.depth) refl (eqb x.tag r.tag) refl (run-free r es rs a)
  where
    by_tests : (b : Bool) → eqb x.depth r.depth ≡ b → (c : Bool) → eqb x.tag r.tag ≡ c → stored_run r es rs ≡ rs ++ (r ∷ es)
        → pick b (pick c (r ∷ (es ++ behind_run rs)) (x ∷ stored_run r es rs)) (x ∷ stored_run r es rs) ≡ x ∷ (rs ++ (r ∷ es))
    by_tests true p true q e = absurd (h (eqb-true _ _ p) (eqb-true _ _ q))
    by_tests true p false q e = ap (λ (l : List Record). x ∷ l) e
    by_tests false p c q e = ap (λ (l : List Record). x ∷ l) e

-- the first of the tags that are still to come stands among no records
fresh-free : {t depth : ℕ} {ts : List ℕ} {done : List Record} → Fresh 0 depth (t ∷ ts) done → Free depth t done
fresh-free {t} {depth} {ts} {done} fresh = by_all fresh.free
  where
    by_all : All (λ u. Free depth u done) (t ∷ ts) → Free depth t done
    by_all (All.also p a) = p

pub fresh-stored : (r : Record) (t : ℕ) (ts : List ℕ) (done : List Record) → r.depth ≡ 0 → r.tag ≡ t → Fresh 0 0 (t ∷ ts) done
    → stored r done ≡ done ++ (r ∷ [])
fresh-stored r t ts done own same fresh = stored-free r done (rw (own, same) (fresh-free fresh))

fresh-run : (r : Record) (es : List Record) (t : ℕ) (ts : List ℕ) (done : List Record) → r.depth ≡ 0 → r.tag ≡ t → Fresh 0 0 (t ∷ ts) done
    → stored_run r es done ≡ done ++ (r ∷ es)
fresh-run r es t ts done own same fresh = run-free r es done (rw (own, same) (fresh-free fresh))

-- ===== the walk =====

module _ {message : List ℕ} where
  -- reading goes on at the field that is read next
  next-goes : (later : Fields) (fs : List Told) (x : Field) (rest : Fields) (left : ℕ) (records : List Record) (on : Fields → ℕ → List Record → Reading)
      → ReadsAs message later fs (field x rest) → and_then (next_from later (length fs + suc left) records) on ≡ on later (length fs + suc left) records
  unfolding and_then next_from
  next-goes _ _ x rest left records on no_field = let room : 0 + suc left ≡ suc left = omega arith in rw room
  next-goes _ _ x rest left records on (one_field {ts = ts} tag value more) =
      let room : suc (length ts) + suc left ≡ suc (length ts + suc left) = omega arith in rw room

module _ (accepts : ℕ → Bool) (layout : Layout) (trailer : List ℕ) where
  abbrev the_body : Body Layout
  the_body = body_of (layout_rules accepts) layout_demands trailer layout

  -- the run of a count that ended with entries to which nothing is missing
  run-goes : (inner : Layout) (f : Field) (later : Fields) (room left : ℕ) (done es : List Record) (x : Field) (rest : Fields)
      (on : Fields → ℕ → List Record → Reading) → walk (layout_rules accepts) list_store room (run (outermost f.tag inner) 0 ∷ []) [] later
      ≡ ran x rest left es
      → run_lack layout_demands 4 inner f.tag 1 es ≡ Complete → stored_run (part_record 2 f) es done ≡ done ++ (part_record 2 f ∷ es)
      → and_then (with_run (part_record 2 f) done (run_from (layout_rules accepts) layout_demands inner f.tag later room)) on ≡ on (field x rest) (suc left)
      (done ++ (part_record 2 f ∷ es))
  unfolding and_then with_run run_from ran_as checked
  run-goes inner f later room left done es x rest on reads complete last = rw (reads, complete, last)

  module _ (message : List ℕ) (T : Tables) (Here : ℕ → Type 0) (x : Field) (rest : Fields) (left : ℕ)
      (over : body_kind (layout_rules accepts) layout x.tag ≡ other) (ends : holds_tag x.tag trailer ≡ true) where
    abbrev Walked : {ts : List ℕ} {fs : List Told} → Stands T Here (members ts) fs → Type 0
    Walked {ts} {fs} s =
        (done : List Record) (fields : Fields) → Fresh 0 0 ts done → ReadsAs message fields fs (field x rest)
        → body_from the_body fields (length fs + suc left) done ≡ ended x rest left (done ++ records_as (numbered 0 0 s) fields)

    walked_no_member : Walked Stands.no_member
    unfolding numbered records_as body_of
    walked_no_member done _ fresh no_field =
        ap (λ (n : ℕ). body_from the_body (field x rest) n done) (omega arith)
        ∙ body-ends the_body (run_falls (layout_rules accepts) layout_demands) x rest left done over ends
        ∙ ap (λ (l : List Record). ended x rest left l) (sym (append-nil done))

    walked-field : (t : ℕ) (v : List ℕ) {ts : List ℕ} {fs : List Told} (may : Here t) (single : NoCount T t) (s : Stands T Here (members ts) fs)
        → body_kind (layout_rules accepts) layout t ≡ plain → Walked s → Walked (Stands.field {t = t} {v = v} may single s)
    unfolding numbered records_as body_of part_record entry_record
    walked-field t v {ts = ts} {fs = fs} may single s kind more done _ fresh (one_field {f = f} {rest = later} same value reads) =
        let r : Record = part_record 2 f in
        ap (λ (n : ℕ). body_from the_body (field f later) n done) (omega arith)
        ∙ body-plain the_body (run_falls (layout_rules accepts) layout_demands) f later (length fs + suc left) done
        (ap (body_kind (layout_rules accepts) layout) same ∙ kind)
        ∙ next-goes later fs x rest left (stored r done) (body_from the_body) reads
        ∙ ap (body_from the_body later (length fs + suc left)) (fresh-stored r t ts done refl same fresh)
        ∙ more (done ++ (r ∷ [])) later (fresh_record 0 0 t ts done r same fresh) reads
        ∙ ap (λ (l : List Record). ended x rest left l) (append_assoc done (r ∷ []) (records_as (numbered 0 0 s) later))

    walked-group : (t : ℕ) (inner : Layout) {d n : ℕ} {count : List ℕ} {ts : List ℕ} {gs fs : List Told} (may : Here t) (opening : T.Group t d)
        (i : Int count (suc n)) (g : Stands T Here (entries t d (suc n)) gs) (s : Stands T Here (members ts) fs)
        → body_kind (layout_rules accepts) layout t ≡ counts inner
        → Fits (layout_rules accepts) (entries_of inner 1) (tag_behind x.tag fs) (entries t d (suc n)) gs g → HasRequired inner g
        → Leaves (layout_rules accepts) inner (tag_behind x.tag fs) → Walked s → Walked (Stands.group {t = t} {count = count} may opening i g s)
    unfolding numbered records_as body_of part_record entry_record
    walked-group t inner {ts = ts} {gs = gs} {fs = fs} may opening i g s kind fits required leaves more done _ fresh
        (one_field {f = f} {rest = later} same value reads) =
        let r : Record = part_record 2 f in
        let cut = reads_split message x rest later gs fs reads in
        let behind : Fields = field cut.next cut.rest in
        let es : List Record = records_as (numbered 1 0 g) later in
        let size = length-append gs fs in
        let read = group-read (layout_rules accepts) message T Here g (outermost f.tag inner) (length fs + left) [] later cut.next cut.rest
        (rw cut.tag_is fits) (rw cut.tag_is leaves) cut.reads_first in
        let complete = (required_exact message accepts T Here g inner (tag_behind x.tag fs) f.tag later cut.next cut.rest fits
        cut.reads_first).1 required in
        ap (λ (n : ℕ). body_from the_body (field f later) n done) (omega arith)
        ∙ body_run the_body (run_falls (layout_rules accepts) layout_demands) f later (length gs + suc (length fs + left)) done inner
        (ap (body_kind (layout_rules accepts) layout) same ∙ kind)
        ∙ run-goes inner f later (length gs + suc (length fs + left)) (length fs + left) done es cut.next cut.rest (body_from the_body) read complete
        (fresh-run r es t ts done refl same fresh)
        ∙ ap (λ (n : ℕ). body_from the_body behind n (done ++ (r ∷ es))) (omega arith)
        ∙ ap (body_from the_body behind (length fs + suc left)) (sym (append_assoc done (r ∷ []) es))
        ∙ more ((done ++ (r ∷ [])) ++ es) behind (fresh-nested 0 0 ts (done ++ (r ∷ [])) g later (fresh_record 0 0 t ts done r same fresh)) cut.reads_second
        ∙ ap (λ (l : List Record). ended x rest left l) (records_behind message done r later behind gs (numbered 1 0 g) (numbered 0 0 s) cut.reads_first
        (numbered_each 1 0 g))

    -- a body that fits is read, and ends at the field behind it
    pub body-walk : {ts : List ℕ} {fs : List Told} {s : Stands T Here (members ts) fs} → BodyFits accepts layout x.tag ts fs s → Walked s
    body-walk BodyFits.no_member = walked_no_member
    body-walk (BodyFits.field {t = t} {v = v} {may = may} {single = single} {s = s} kind more) = walked-field t v may single s kind (body-walk more)
    body-walk (BodyFits.group {inner = inner} {t = t} {may = may} {opening = opening} {i = i} {g = g} {s = s} kind fits required leaves more) =
        walked-group t inner may opening i g s kind fits required leaves (body-walk more)
