-- A run among the records of the body: the records before it, its count the last of them, and those behind it.
use Rattle.std.specs.Prelude.{◌≡◌, refl, Bool, true, false, ℕ, zero, suc, ◌+◌, ◌-◌, ◌/◌, ◌≤◌, ◌<◌, length, get_or, set, eqb}
use Rattle.std.proofs.Math.Path.{sym, ap}
use Rattle.std.proofs.Common.{◌∙◌, length-append, length-set, length-drop, length-take, take-append-drop, drop-drop, take_at, drop_at, length-take-le, Option, Some, None}
use mathlib.Core.List.{List, [], ◌∷◌, ◌++◌, append_assoc, append-nil}
use native.Mathlib.Omega.{arith}
use Rattle.std.proofs.Math.ListN.{take, drop}
use Rattle.std.proofs.Math.Seq.{take-add}
use borrow.Author.Tests.{eq-eqb, ne_eqb}
use Rattle.field_rules.specs.Choice.{pick}
use Rattle.build_records.specs.Records.{records_of, on_records, blank, record_at, between, held_from, stored_between, removed, stored, stride}
use Rattle.build_records.proofs.WordLaws.{records_length, records_on}
use Rattle.build_records.proofs.RecordLaws.{between-on, between_past, between-end, between-parts, removed-parts, stored-held, stored-new}
use Rattle.build_records.specs.declared.Record.{Record}
use Rattle.build_parts.specs.Parts.{part_of, Kept}
use Rattle.build_parts.specs.PartLaws.{part_tail, parted, part_length, keep-held, keep-new}
use Rattle.build_body_rules.specs.Body.{behind_run, stored_run, RunEnd, Dropped, Opened}

module _ (rs : List Record) (from middle to : ℕ) (rises : from ≤ middle) (ends : middle ≤ to) where
  -- a part and the one behind it
  pub between_split : between from to rs ≡ between from middle rs ++ between middle to rs
  unfolding between
  between_split =
      let n : to - from ≡ (middle - from) + (to - middle) = omega arith in
      let m : from + (middle - from) ≡ middle = omega arith in
      ap (λ (k : ℕ). take k (drop from rs)) n
      ∙ take-add (middle - from) (to - middle) (drop from rs)
      ∙ ap (λ (l : List Record). take (middle - from) (drop from rs) ++ take (to - middle) l) (drop-drop (middle - from) from rs ∙ ap (λ (k : ℕ). drop k rs) m)

  pub split_front : middle ≤ length rs → take (middle - from) (between from to rs) ≡ between from middle rs
  split_front h = ap (take (middle - from)) between_split ∙ take_at (between from middle rs) (between middle to rs) (middle - from) (part_length rs from middle rises h)

  pub split_back : middle ≤ length rs → drop (middle - from) (between from to rs) ≡ between middle to rs
  split_back h = ap (drop (middle - from)) between_split ∙ drop_at (between from middle rs) (between middle to rs) (middle - from) (part_length rs from middle rises h)

module _ (at to : ℕ) (rs : List Record) where
  -- the run's end, record by record
  pub behind-on : at < to → at < length rs → ((record_at at rs).depth ≡ 0 → ⊥) → behind_run (between at to rs) ≡ behind_run (between (at + 1) to rs)
  unfolding behind_run
  behind-on h l d = rw (between-on at to rs h l, ne_eqb _ _ d)

  pub behind-here : at < to → at < length rs → (record_at at rs).depth ≡ 0 → behind_run (between at to rs) ≡ between at to rs
  unfolding behind_run
  behind-here h l d = rw (between-on at to rs h l, eq-eqb _ _ d)

  pub behind-end : to ≤ at → behind_run (between at to rs) ≡ between at to rs
  unfolding behind_run
  behind-end h = rw (between-end at to rs h)

shut : (entry exit : List ℕ) (place end count : ℕ) (a m b rest behind : List Record) → records_of entry ≡ a ++ (m ++ (b ++ rest)) → records_of exit ≡ a ++ (b ++ behind) → place ≡ length a → end ≡ length a + length m → count ≡ length a + (length m + length b) →
    RunEnd entry place count end → Dropped entry exit place count (count - (end - place))
unfolding part_of
shut entry exit place end count a m b rest behind was is p e c ends =
    let l = length-append a m in
    record {
      behind = ap (between place (count - (end - place))) is ∙ between-parts a b behind place (count - (end - place)) p (omega arith)
          ∙ sym (ap (between end count) (was ∙ sym (append_assoc a m (b ++ rest))) ∙ between-parts (a ++ m) b rest end count (omega arith) (omega arith))
          ∙ ends.behind;
      before = ap (between 0 place) is ∙ between-parts [] a (b ++ behind) 0 place refl (omega arith) ∙ sym (ap (between 0 place) was ∙ between-parts [] a (m ++ (b ++ rest)) 0 place refl (omega arith));
      from = omega arith;
      to = omega arith;
    }

-- the run goes, and what stands behind it moves up
pub dropped : (words : List ℕ) (place end count : ℕ) → RunEnd words place count end → count ≤ length words / stride → Dropped words (on_records (removed count place (end - place)) words) place count (count - (end - place))
dropped words place end count ends l =
    let h = ends.from in
    let g = ends.to in
    let rs : List Record = records_of words in
    let size = records_length words in
    let la = length-take-le place (records_of words) (omega arith) in
    let lm = part_length (records_of words) place end h (omega arith) in
    let lb = part_length (records_of words) end count g (omega arith) in
    let whole : rs ≡ take place rs ++ (between place end rs ++ (between end count rs ++ drop count rs)) =
    parted rs place end h ∙ ap (λ (t : List Record). take place rs ++ (between place end rs ++ t)) (part_tail rs end count g) in
    shut words (on_records (removed count place (end - place)) words) place end count (take place rs) (between place end rs) (between end count rs) (drop count rs) _ whole
    (records_on (removed count place (end - place)) words ∙ ap (removed count place (end - place)) whole
    ∙ removed-parts (take place rs) (between place end rs) (between end count rs) (drop count rs) count place (end - place) (omega arith) (omega arith) (omega arith))
    (omega arith)
    (omega arith)
    (omega arith)
    ends

-- where a count was held, its old run goes and the new one stands in its place
run-later : (x r : Record) (rs run : List Record) (at i : ℕ) → at + 1 ≤ i → stored_run r run rs ≡ take (i + 1 - (at + 1)) (stored r rs) ++ (run ++ behind_run (drop (i + 1 - (at + 1)) (stored r rs))) →
    x ∷ stored_run r run rs ≡ take (i + 1 - at) (x ∷ stored r rs) ++ (run ++ behind_run (drop (i + 1 - at) (x ∷ stored r rs)))
run-later x r rs run at i h e =
    let k : i + 1 - at ≡ suc (i + 1 - (at + 1)) = omega arith in
    rw k (ap (λ (l : List Record). x ∷ l) e)

run_step : (x r : Record) (rs run : List Record) (at i : ℕ) (d t : Bool) (later : Option ℕ) → pick d (pick t (Some at) later) later ≡ Some i → (later ≡ Some i →
    at + 1 ≤ i) → (later ≡ Some i → stored_run r run rs ≡ take (i + 1 - (at + 1)) (stored r rs) ++ (run
    ++ behind_run (drop (i + 1 - (at + 1)) (stored r rs)))) →
    pick d (pick t (r ∷ (run ++ behind_run rs)) (x ∷ stored_run r run rs)) (x ∷ stored_run r run rs) ≡ take (i + 1 - at) (pick d (pick t (r ∷ rs) (x ∷ stored r rs)) (x ∷ stored r rs)) ++ (run ++ behind_run (drop (i + 1 - at) (pick d (pick t (r ∷ rs) (x ∷ stored r rs)) (x ∷ stored r rs))))
run_step x r rs run at i true true later e from next =
    let same : at ≡ i = cc in
    let k : i + 1 - at ≡ suc zero = omega arith in
    rw k
run_step x r rs run at i true false later e from next = run-later x r rs run at i (from e) (next e)
run_step x r rs run at i false t later e from next = run-later x r rs run at i (from e) (next e)

pub run-held : (r : Record) (rs run : List Record) (at i : ℕ) → held_from at r.depth r.tag rs ≡ Some i → stored_run r run rs ≡ take (i + 1 - at) (stored r rs) ++ (run ++ behind_run (drop (i + 1 - at) (stored r rs)))
unfolding held_from stored stored_run
run-held r [] run at i e = let z : ◌≡◌ {A = ℕ} 0 1 = cc in absurd (omega arith)
run-held r (x ∷ rs) run at i e =
    run_step x r rs run at i (eqb x.depth r.depth) (eqb x.tag r.tag) (held_from (at + 1) r.depth r.tag rs) e (λ q. (stored-held r rs (at + 1) i q).from) (run-held r rs run (at + 1) i)

new-step : (x r : Record) (rs run : List Record) (at : ℕ) (d t : Bool) (later : Option ℕ) → pick d (pick t (Some at) later) later ≡ None → (later ≡ None → stored_run r run rs ≡ stored r rs ++ run) →
    pick d (pick t (r ∷ (run ++ behind_run rs)) (x ∷ stored_run r run rs)) (x ∷ stored_run r run rs) ≡ pick d (pick t (r ∷ rs) (x ∷ stored r rs)) (x ∷ stored r rs) ++ run
new-step x r rs run at true true later e next = let z : ◌≡◌ {A = ℕ} 0 1 = cc in absurd (omega arith)
new-step x r rs run at true false later e next = ap (λ (l : List Record). x ∷ l) (next e)
new-step x r rs run at false t later e next = ap (λ (l : List Record). x ∷ l) (next e)

-- a new count comes last, and its run behind it
pub run-new : (r : Record) (rs run : List Record) (at : ℕ) → held_from at r.depth r.tag rs ≡ None → stored_run r run rs ≡ stored r rs ++ run
unfolding held_from stored stored_run
run-new r [] run at e = refl
run-new r (x ∷ rs) run at e =
    new-step x r rs run at (eqb x.depth r.depth) (eqb x.tag r.tag) (held_from (at + 1) r.depth r.tag rs) e (run-new r rs run (at + 1))

module _ (entry stores exit : List ℕ) (from count : ℕ) (r : Record) where
  -- a count that is held keeps its place, and its old run goes
  pub open_held : (i after : ℕ) → from ≤ count → count < length entry / stride → length stores ≡ length entry → length exit ≡ length entry →
      held_from from r.depth r.tag (between from count (records_of entry)) ≡ Some i → stores ≡ on_records (stored_between count from count r) entry →
      Dropped stores exit (i + 1) count after → Opened entry exit from count r (record { records = after; place = i + 1 })
  unfolding part_of
  open_held i after h l same last e is gone =
      let kept : Kept entry stores from count r count = rw is (keep-held entry from count r h l i e) in
      let at = stored-held r (between from count (records_of entry)) from i e in
      let n₀ = records_length entry in
      let n₁ = records_length stores in
      let n₂ = records_length exit in
      let size = part_length (records_of entry) from count h (omega arith) in
      let begins = at.from in
      let ends = at.within in
      let front : between from (i + 1) (records_of exit) ≡ take (i + 1 - from) (stored r (between from count (records_of entry))) =
      sym (split_back (records_of exit) 0 from (i + 1) (omega arith) (omega arith) (omega arith))
      ∙ ap (drop (from - 0)) gone.before
      ∙ split_back (records_of stores) 0 from (i + 1) (omega arith) (omega arith) (omega arith)
      ∙ sym (split_front (records_of stores) from (i + 1) count (omega arith) (omega arith) (omega arith))
      ∙ ap (take (i + 1 - from)) kept.part in
      let back : between (i + 1) after (records_of exit) ≡ behind_run (drop (i + 1 - from) (stored r (between from count (records_of entry)))) =
      gone.behind ∙ ap behind_run (sym (split_back (records_of stores) from (i + 1) count (omega arith) (omega arith) (omega arith)) ∙ ap (drop (i + 1 - from)) kept.part) in
      let first : between 0 from (records_of exit) ≡ between 0 from (records_of entry) =
      sym (split_front (records_of exit) 0 from (i + 1) (omega arith) (omega arith) (omega arith))
      ∙ ap (take (from - 0)) gone.before
      ∙ split_front (records_of stores) 0 from (i + 1) (omega arith) (omega arith) (omega arith)
      ∙ kept.before in
      record {
        stores = λ run. run-held r (between from count (records_of entry)) run from i e ∙ rw (front, back);
        before = first;
        starts = omega arith;
        within = gone.from;
        by_one = omega (arith, gone.to);
      }

  -- a new count comes last
  pub open_new : from ≤ count → count < length entry / stride → held_from from r.depth r.tag (between from count (records_of entry)) ≡ None → exit ≡ on_records (stored_between count from count r) entry → Opened entry exit from count r (record { records = count + 1; place = count + 1 })
  unfolding part_of
  open_new h l e is = let kept : Kept entry exit from count r (count + 1) = rw is (keep-new entry from count r h l e) in
      record {
        stores = λ run. run-new r (between from count (records_of entry)) run from e ∙ rw (between-end (count + 1) (count + 1) (records_of exit) (omega arith), kept.part) (ap (λ (l : List Record). stored r (between from count (records_of entry)) ++ l) (sym (append-nil run)));
        before = kept.before;
        starts = omega arith;
        within = omega arith;
        by_one = omega arith;
      }

-- a held record stands in its part
pub held-within : (words : List ℕ) (from count i : ℕ) (r : Record) → from ≤ count → held_from from r.depth r.tag (between from count (records_of words)) ≡ Some i → i < count
unfolding between
held-within words from count i r h e =
    let at = stored-held r (take (count - from) (drop from (records_of words))) from i e in
    omega (arith, at.within, length-take (count - from) (drop from (records_of words)))
