-- What taking over promises: a message that is left has the records that were given, part, depth, entry number, tag and value; and records
-- that are those of a message within the limits are never refused.
use Rattle.std.proofs.Math.Path.{◌≡◌}
use Rattle.std.specs.Prelude.{refl, Bool, true, length, take, replicate, eqb, leb}
use Rattle.std.proofs.Common.{sym, ap, ◌∙◌, arith}
use Rattle.std.proofs.Math.Bool.{false}
use mathlib.Core.List.{List, [], ◌∷◌, ◌++◌}
use Prim.Native.Nat.{ℕ, zero, suc, ◌+◌, ◌-◌}
use Rattle.std.proofs.Math.Nat.{sub-zero}
use Rattle.std.proofs.Math.ListN.{length-append}
use Rattle.std.proofs.Math.Seq.{take_at}
use Rattle.field_rules.specs.Choice.{pick}
use Rattle.build_records.specs.Records.{records_of, between, value_at}
use Rattle.build_records.specs.declared.Record.{Record}
use Rattle.message_maps.specs.Rows.{Row, flat, padded, size_of, sizes, message_words}
use Rattle.message_lent_rules.specs.Lent.{is_message, row_count}
use Rattle.message_lent_rules.specs.Lent.{rows_of as rows_in}
use Rattle.message_lent_rules.specs.LentLaws.{both, message-held}
use Rattle.message_lent_rules.specs.LaidLaws.{sizes-append}
use Rattle.message_lent_rules.specs.Meaning.{message_in}
use Rattle.message_lent_rules.proofs.MeaningLaws.{means}
use Rattle.message_lent_rules.proofs.MeantLaws.{rows_back}
use Rattle.message_lent_rules.specs.Formed.{Within}
use Rattle.message_lent_rules.proofs.FormedLaws.{lent_formed}
use Rattle.message_take_over.specs.declared.Joins.{Joins}
use Rattle.message_take_over.specs.declared.Joins.TheVariants.{Open, Entry, Nowhere}
use Rattle.message_take_over.specs.declared.Taken.TheVariants.{Made, NoMessage}
use Rattle.message_take_over.specs.Taking.{joins_of, is_joined, is_next, are_next, part_heads, own_rows, record_rows, rows_behind, rows_of, values_at, laid_out}
use Rattle.message_take_over.specs.Taking.{no_records, layout_from, after, judged, taking_over}
use Rattle.message_take_over.specs.StepLaws.{next_is}
use Rattle.message_take_over.specs.Derived.{derived, given, StandFor}
use Rattle.message_take_over.specs.GoesLaws.{value_size}
use Rattle.message_take_over.proofs.MapBackLaws.{next_cons, nowhere_not}
use Rattle.message_take_over.proofs.TakenLaws.{given-derived}
use Rattle.message_take_over.proofs.KeepLaws.{stand_back}

-- the rows that are laid say how many bytes the values have
sizes-heads : (n part : ℕ) → sizes (part_heads n part) ≡ 0
unfolding part_heads sizes size_of
sizes-heads zero part = refl
sizes-heads (suc n) part = omega (arith, sizes-heads n (part + 1))

sizes-own : (j : Joins) (r : Record) → is_joined j ≡ true → sizes (own_rows j r) ≡ r.length
unfolding own_rows sizes size_of
sizes-own Open r h = omega arith
sizes-own (Entry start) r h = omega arith
sizes-own Nowhere r h = absurd (nowhere_not h)

rows_cons : (part : ℕ) (before : List Record) (r : Record) (rs : List Record)
    → rows_behind part before (r ∷ rs) ≡ (part_heads (r.part - part) part ++ own_rows (joins_of before r) r) ++ rows_behind r.part (r ∷ before) rs
unfolding rows_behind record_rows
rows_cons part before r rs = refl

sizes-behind : (bytes : List ℕ) (part used : ℕ) (before rs : List Record) → are_next (length bytes) part used before rs ≡ true
    → sizes (rows_behind part before rs) ≡ length (values_at bytes rs)
sizes-behind bytes part used before [] ok = unfold rows_behind values_at in sizes-heads (3 - part) part
sizes-behind bytes part used before (r ∷ rs) ok =
    let split = both (is_next (length bytes) part used before r) _ (sym (next_cons (length bytes) part used before r rs) ∙ ok) in
    let n = next_is (length bytes) part used before r split.0 in
    first (sizes-behind bytes r.part (used + r.length) (r ∷ before) rs split.1) (sizes-own (joins_of before r) r n.joined)
    (value_size bytes r n.inside)
  where
    first : sizes (rows_behind r.part (r ∷ before) rs) ≡ length (values_at bytes rs) → sizes (own_rows (joins_of before r) r) ≡ r.length
        → length (value_at bytes r) ≡ r.length → sizes (rows_behind part before (r ∷ rs)) ≡ length (values_at bytes (r ∷ rs))
    first e o v =
        let own = own_rows (joins_of before r) r in
        let heads = part_heads (r.part - part) part in
        let more = rows_behind r.part (r ∷ before) rs in
        let a = ap sizes (rows_cons part before r rs) in
        let b = sizes-append (heads ++ own) more in
        let c = sizes-append heads own in
        let z = sizes-heads (r.part - part) part in
        let t : length (values_at bytes (r ∷ rs)) ≡ length (value_at bytes r) + length (values_at bytes rs) = unfold values_at in
        length-append (value_at bytes r) (values_at bytes rs) in
        omega (arith, a, b, c, z, e, o, v, t)

-- the layout's words hold its rows
words_rows : (rows : List Row) → rows_in (padded message_words (length rows ∷ flat rows)) ≡ rows
unfolding rows_in row_count padded
words_rows rows =
    rw (sub-zero (length rows)) (rows_back rows 0 (length rows ∷ (flat rows ++ replicate (message_words - suc (length (flat rows))) 0))
    (replicate (message_words - suc (length (flat rows))) 0) refl)

-- a layout that is a message means what the records stand for
module _ (bytes : List ℕ) (rs : List Record) (ok : are_next (length bytes) 1 0 [] rs ≡ true) where
  abbrev words : List ℕ
  words = padded message_words (length (rows_of rs) ∷ flat (rows_of rs))

  abbrev values : List ℕ
  values = padded 8192 (values_at bytes rs)

  sizes-all : sizes (rows_of rs) ≡ length (values_at bytes rs)
  unfolding rows_of sizes size_of
  sizes-all = omega (arith, sizes-behind bytes 1 0 [] rs ok)

  pub layout_stands : is_message words values ≡ true → StandFor bytes (message_in words values) rs
  layout_stands h =
      let m = means words values (message-held words values h) in
      let r = words_rows (rows_of rs) in
      let t : take (sizes (rows_in words)) values ≡ values_at bytes rs =
      ap (λ (n : ℕ). take n values) (ap sizes r ∙ sizes-all) ∙ (unfold padded in take_at (values_at bytes rs) _ (length (values_at bytes rs)) refl) in
      stand_back bytes (message_in words values) rs ok (sym r ∙ m.rows) (sym t ∙ m.texts)

-- the message that is left has the records that were given
pub record Keeps (bytes : List ℕ) (rs : List Record) (words values : List ℕ) : Type 0 where
  pub is_message : is_message words values ≡ true
  pub within : Within (message_in words values)
  pub stand : StandFor bytes (message_in words values) rs
  pub same : derived (message_in words values) ≡ given bytes rs

keeps : (bytes : List ℕ) (rs : List Record) (words values w v : List ℕ) → judged words values (layout_from bytes rs) ≡ after Made w v → Keeps bytes rs w v
keeps bytes rs words values w v e = by_next (are_next (length bytes) 1 0 [] rs) refl (unfold layout_from in e)
  where
    new_words : List ℕ
    new_words = padded message_words (length (rows_of rs) ∷ flat (rows_of rs))

    new_values : List ℕ
    new_values = padded 8192 (values_at bytes rs)

    by_message : are_next (length bytes) 1 0 [] rs ≡ true → (b : Bool) → is_message new_words new_values ≡ b
        → pick b (after Made new_words new_values) (after NoMessage words values) ≡ after Made w v → Keeps bytes rs w v
    by_message ok true h e =
        let a : new_words ≡ w = cc in
        let b : new_values ≡ v = cc in
        let s = layout_stands bytes rs ok h in
        rw (← a, ← b) (record {
          is_message = h;
          within = lent_formed new_words new_values h;
          stand = s;
          same = sym (given-derived bytes (message_in new_words new_values) rs s);
        })
    by_message ok false h e = let z : ◌≡◌ {A = ℕ} 0 1 = cc in absurd (omega arith)

    by_next : (b : Bool) → are_next (length bytes) 1 0 [] rs ≡ b → judged words values (pick b (laid_out new_words new_values) no_records) ≡ after Made w v
        → Keeps bytes rs w v
    by_next true ok e = by_message ok (is_message new_words new_values) refl (unfold judged in e)
    by_next false ok e = let z : ◌≡◌ {A = ℕ} 0 1 = unfold judged in cc in absurd (omega arith)

-- "reading, changing and writing": where 0 is answered, what is left is a message with the records that were given
pub taken_keeps : (records : List ℕ) (count : ℕ) (bytes words values w v : List ℕ) → taking_over records count bytes words values ≡ after Made w v
    → Keeps bytes (between 0 count (records_of records)) w v
unfolding taking_over
taken_keeps records count bytes words values w v e =
    by_tests (eqb (length words) message_words) (eqb (length values) 8192) (leb count (length (records_of records))) (leb count 1024) e
  where
    by_tests : (a b c d : Bool)
        → pick a (pick b (pick c (pick d (judged words values (layout_from bytes (between 0 count (records_of records)))) (after NoMessage words values))
        (after NoMessage words values)) (after NoMessage words values)) (after NoMessage words values) ≡ after Made w v
        → Keeps bytes (between 0 count (records_of records)) w v
    by_tests true true true true e = keeps bytes (between 0 count (records_of records)) words values w v e
    by_tests true true true false e = let z : ◌≡◌ {A = ℕ} 0 1 = cc in absurd (omega arith)
    by_tests true true false d e = let z : ◌≡◌ {A = ℕ} 0 1 = cc in absurd (omega arith)
    by_tests true false c d e = let z : ◌≡◌ {A = ℕ} 0 1 = cc in absurd (omega arith)
    by_tests false b c d e = let z : ◌≡◌ {A = ℕ} 0 1 = cc in absurd (omega arith)
