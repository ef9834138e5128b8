-- Storing in the last part, and reading the next field: what later proofs cite of them.
-- The records are those before the part, the part's own, and what lies behind; a stored record changes the part alone.
use Rattle.std.proofs.Math.Path.{◌≡◌, refl, sym, ap}
use Rattle.std.proofs.Common.{◌∙◌, length-append, length-set, take-append-drop, drop-cons, drop-drop}
use mathlib.Core.List.{List, [], ◌∷◌, ◌++◌}
use Prim.Native.Nat.{ℕ, zero, suc, ◌+◌, ◌-◌, ◌/◌, ◌≤◌, ◌<◌}
use native.Mathlib.Omega.{arith}
use Rattle.std.specs.Prelude.{length, get_or, set, Some, None, Result, Ok, Err, ℕ}
use Rattle.std.proofs.Math.ListN.{take, drop, length-drop}
use Rattle.std.proofs.Math.Seq.{length-take-le}
use Rattle.field_rules.specs.declared.Mode.{Mode}
use Rattle.field_rules.specs.Field.{field_at}
use Rattle.field_rules.specs.Fields.{field, fields_from, Inside}
use Rattle.field_rules.proofs.FieldsLaws.{fields-field, step-inside}
use Rattle.field_rules.specs.declared.Cursor.{Cursor}
use Rattle.field_rules.specs.declared.Cause.{Cause}
use Rattle.field_rules.specs.declared.Field.{Field}
use Rattle.build_records.specs.Records.{records_of, on_records, blank, between, held_from, stored_between, stored, stride}
use Rattle.build_records.proofs.WordLaws.{records_length, records_on}
use Rattle.build_records.proofs.RecordLaws.{between-end, between-parts, stored-held, stored-new, stored-parts-held, stored-parts-new}
use Rattle.build_records.specs.declared.Record.{Record}
use Rattle.build_parts.specs.Parts.{part_of, Kept, next_of, Ends, Stays}
use Rattle.build_answers.specs.declared.Answer.TheVariants.{Malformed, TooManyFields}
use Rattle.build_answers.specs.declared.Answer.{Answer}
use Rattle.build_parts.specs.declared.Progress.{Progress}

module _ (rs : List Record) (from to : ℕ) (rises : from ≤ to) where
  -- the part's records, and those behind it
  pub part_tail : drop from rs ≡ between from to rs ++ drop to rs
  unfolding between
  part_tail =
      let m : from + (to - from) ≡ to = omega arith in
      sym (take-append-drop (to - from) (drop from rs)) ∙ ap (λ (l : List Record). take (to - from) (drop from rs) ++ l) (drop-drop (to - from) from rs ∙ ap (λ (k : ℕ). drop k rs) m)

  -- those before it too
  pub parted : rs ≡ take from rs ++ (between from to rs ++ drop to rs)
  parted = sym (take-append-drop from rs) ∙ ap (λ (l : List Record). take from rs ++ l) part_tail

  pub part_length : to ≤ length rs → length (between from to rs) ≡ to - from
  unfolding between
  part_length h = length-take-le (to - from) (drop from rs) (omega (arith, length-drop from rs))

module _ (entry exit : List ℕ) (from count after : ℕ) (r : Record) (before map rest behind : List Record) (was : records_of entry ≡ before ++ (map ++ rest)) (is : records_of exit ≡ before ++ (stored r map ++ behind)) (starts : from ≡ length before) where
  kept_by : count ≡ length before + length map → after ≡ length before + length (stored r map) → count ≤ after → after ≤ count + 1 → Kept entry exit from count r after
  unfolding part_of
  kept_by ends last grows one = record {
    part = ap (between from after) is ∙ between-parts before (stored r map) behind from after starts last ∙ ap (stored r) (sym (ap (between from count) was ∙ between-parts before map rest from count starts ends));
    before = ap (between 0 from) is ∙ between-parts [] before (stored r map ++ behind) 0 from refl (omega arith) ∙ sym (ap (between 0 from) was ∙ between-parts [] before (map ++ rest) 0 from refl (omega arith));
    grows = grows;
    by_one = one;
  }

module _ (words : List ℕ) (from count : ℕ) (r : Record) (rises : from ≤ count) (fits : count < length words / stride) where
  before-length : length (take from (records_of words)) ≡ from
  before-length = length-take-le from (records_of words) (omega (arith, records_length words))

  map-length : length (between from count (records_of words)) ≡ count - from
  map-length = part_length (records_of words) from count rises (omega (arith, records_length words))

  -- a new record comes last
  pub keep-new : held_from from r.depth r.tag (between from count (records_of words)) ≡ None → Kept words (on_records (stored_between count from count r) words) from count r (count + 1)
  keep-new e =
      let rs : List Record = records_of words in
      let was : rs ≡ take from rs ++ (between from count rs ++ (get_or rs count blank ∷ drop (suc count) rs)) =
      parted rs from count rises ∙ ap (λ (l : List Record). take from rs ++ (between from count rs ++ l)) (drop-cons rs count blank (omega (arith, records_length words))) in
      let size : length (stored r (between from count rs)) ≡ length (between from count rs) + 1 = ap length (stored-new r (between from count rs) from e) ∙ length-append (between from count rs) (r ∷ []) in
      kept_by words _ from count (count + 1) r (take from rs) (between from count rs) (get_or rs count blank ∷ drop (suc count) rs) (drop (suc count) rs) was
      (records_on (stored_between count from count r) words ∙ ap (stored_between count from count r) was
      ∙ stored-parts-new (take from rs) (between from count rs) [] r count from count (sym before-length) (omega (arith, before-length, map-length)) (omega arith) (get_or rs count blank) (drop (suc count) rs) e)
      (sym before-length)
      (omega (arith, before-length, map-length))
      (omega (arith, before-length, map-length))
      (omega arith)
      (omega arith)

  -- a held tag keeps its place
  pub keep-held : (i : ℕ) → held_from from r.depth r.tag (between from count (records_of words)) ≡ Some i → Kept words (on_records (stored_between count from count r) words) from count r count
  keep-held i e =
      let rs : List Record = records_of words in
      let size : length (stored r (between from count rs)) ≡ length (between from count rs) = ap length (stored-held r (between from count rs) from i e).storing ∙ length-set (between from count rs) (i - from) r in
      kept_by words _ from count count r (take from rs) (between from count rs) (drop count rs) (drop count rs) (parted rs from count rises)
      (records_on (stored_between count from count r) words ∙ ap (stored_between count from count r) (parted rs from count rises)
      ∙ stored-parts-held (take from rs) (between from count rs) [] r count from count (sym before-length) (omega (arith, before-length, map-length)) (omega arith) (drop count rs) i e)
      (sym before-length)
      (omega (arith, before-length, map-length))
      (omega (arith, before-length, map-length))
      (omega arith)
      (omega arith)

module _ (room : ℕ) (r : Result Field (Cause × ℕ)) where
  pub next-unreadable : (cause : Cause) (place : ℕ) → r ≡ Err (cause, place) → next_of room r ≡ Err (Malformed cause place)
  unfolding next_of
  next-unreadable cause place e = rw e

  module _ (f : Field) (e : r ≡ Ok f) where
    pub next-crowded : room ≡ 0 → next_of room r ≡ Err TooManyFields
    unfolding next_of
    next-crowded z = rw (e, z)

    pub next_got : (room ≡ 0 → ⊥) → next_of room r ≡ Ok f
    unfolding next_of
    next_got some = let one : room ≡ suc (room - 1) = omega arith in rw e (ap (λ (n : ℕ). next_of n (Ok f)) one)

-- a field that was read is the first of those that are left, there was room for it, and it lies in the message
pub record Taken (mode : Mode) (message : List ℕ) (c : Cursor) (room : ℕ) (f : Field) : Type 0 where
  pub fields : fields_from mode message c ≡ field f (fields_from mode message f.next)
  pub one_less : room ≡ suc (room - 1)
  pub inside : Inside message f

module _ (mode : Mode) (message : List ℕ) (c : Cursor) (f : Field) where
  pub taken : (room : ℕ) → next_of room (field_at mode message c) ≡ Ok f → Taken mode message c room f
  unfolding next_of
  taken room h = go (field_at mode message c) refl room h
    where
      go : (r : Result Field (Cause × ℕ)) → field_at mode message c ≡ r → (room : ℕ) → next_of room r ≡ Ok f → Taken mode message c room f
      go (Err (cause, place)) e room h = let z : ◌≡◌ {A = ℕ} 0 1 = cc in absurd (omega arith)
      go (Ok g) e zero h = let z : ◌≡◌ {A = ℕ} 0 1 = cc in absurd (omega arith)
      go (Ok g) e (suc room) h =
          let same : field_at mode message c ≡ Ok f = cc in
          record { fields = fields-field mode message c f same; one_less = omega arith; inside = step-inside mode message c f same }

-- before the first part there is nothing
pub none_before : (words other : List ℕ) → part_of 0 0 words ≡ part_of 0 0 other
unfolding part_of
none_before words other = between-end 0 0 (records_of words) (omega arith) ∙ sym (between-end 0 0 (records_of other) (omega arith))

module _ (message entry exit : List ℕ) (from room : ℕ) (before : part_of 0 from exit ≡ part_of 0 from entry) where
  pub stays-refused : (answer : Answer) → Stays message entry exit from room (Err answer)
  stays-refused answer = record { before = before; ends = λ f p e. let z : ◌≡◌ {A = ℕ} 0 1 = cc in absurd (omega arith) }

  pub stays_at : (f : Field) (p : Progress) → Ends message entry from room f p → Stays message entry exit from room (Ok (f, p))
  stays_at f p ends = record {
    before = before;
    ends = λ g q e.
        let both : ◌≡◌ {A = Field × Progress} (f, p) (g, q) = cc in
        let same : f ≡ g = ap (λ (read : Field × Progress). read.0) both in
        let also : p ≡ q = ap (λ (read : Field × Progress). read.1) both in
        rw (← same, ← also) ends;
  }
