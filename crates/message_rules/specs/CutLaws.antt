-- A cut of rows with their values is a change of the message. The rows before, taken out, coming back, moved up and behind are given as
-- lists; where the message that is to be left has just these, the cut judges and leaves what the rules say of that message.
use Rattle.std.specs.Prelude.{◌≡◌, Bool, true, false, ℕ, zero, suc, ◌+◌, ◌-◌, ◌*◌, ◌≤◌, ◌<◌, take, get_or, replicate, leb, ltb, eqb}
use Rattle.std.proofs.Math.Path.{refl, sym, ap}
use Rattle.std.proofs.Common.{◌∙◌, arith, length-take, length-drop, take-append-drop, take_at, drop_at, drop-cons}
use mathlib.Core.List.{List, [], ◌∷◌, ◌++◌, append_assoc, append-nil}
use Rattle.std.proofs.Math.Nat.{sub-zero}
use Rattle.std.proofs.Math.ListN.{length, drop, set, length-append}
use Rattle.field_rules.specs.Choice.{pick, pick_same}
use Rattle.message_maps.specs.Map.{Map, end, field, entry, values_in}
use Rattle.message_maps.specs.Rows.{Row, row, laid, flat, part, padded, row_at, rows_from, level_of, sizes, end_from, spliced, message_words, message_rows}
use Rattle.message_lent_rules.specs.Lent.{row_count, rows_of, is_message}
use Rattle.message_lent_rules.specs.LentLaws.{Laid, Held, message-held}
use Rattle.message_lent_rules.specs.Meaning.{Message, parts, words_of, value_bytes_of, message_in}
use Rattle.message_lent_rules.proofs.MeaningLaws.{Means, means, flat-length, flat_append, words_hold}
use Rattle.message_rules.specs.Changes.{After, after, map_words, map_values, judged_map}
use Rattle.message_rules.specs.RowChanges.{place_of, Cuttable, cut_rows, cut_size, cut_words, cut_values, changed_at}
use Rattle.message_rules.specs.LayoutLaws.{sizes-append, sizes-laid}
use Rattle.message_rules.specs.PlaceLaws.{rows_length, rows_part, part_rows, part-values, spliced-parts}
use Rattle.message_rules.specs.declared.Part.{Part}
use Rattle.message_rules.specs.declared.Part.TheVariants.{Header, Body, Trailer}
use Rattle.message_rules.specs.declared.Cut.{Cut}

-- words and values of their lengths, within their limits
pub record Sized (words values : List ℕ) : Type 0 where
  pub whole : length words ≡ message_words
  pub store : length values ≡ 8192
  pub counted : row_count words ≤ message_rows
  pub within : sizes (rows_of words) ≤ 8192

pub laid_sized : (words values : List ℕ) → Laid words values → Sized words values
laid_sized words values l = record { whole = l.whole; store = l.store; counted = l.counted; within = l.within }

-- the rows and values that a cut tells apart
pub record Cutting (words values : List ℕ) (cut : Cut) (a b c d e : List Row) (va vb vc vd ve : List ℕ) : Type 0 where
  pub laid_out : Sized words values
  pub rows : rows_of words ≡ a ++ (b ++ (c ++ (d ++ e)))
  pub texts : take (sizes (rows_of words)) values ≡ va ++ (vb ++ (vc ++ (vd ++ ve)))
  pub size-a : sizes a ≡ length va
  pub size-b : sizes b ≡ length vb
  pub size-c : sizes c ≡ length vc
  pub size_d : sizes d ≡ length vd
  pub size_e : sizes e ≡ length ve
  pub from : cut.from ≡ length a
  pub kept : cut.kept ≡ length a + length b
  pub to : cut.to ≡ length a + length b + length c
  pub until : cut.until ≡ length a + length b + length c + length d
  pub count : cut.count ≡ length a + length b + length c + length d + length e

module _ (words values : List ℕ) (cut : Cut) (a b c d e : List Row) (va vb vc vd ve : List ℕ) (k : Cutting words values cut a b c d e va vb vc vd ve) where
  rows_from_lem : rows_from (row_count words) 0 words ≡ a ++ (b ++ (c ++ (d ++ e)))
  unfolding rows_of
  rows_from_lem = ap (λ (n : ℕ). rows_from n 0 words) (sym (sub-zero (row_count words))) ∙ k.rows

  pub cut_count : row_count words ≡ length a + length b + length c + length d + length e
  cut_count = sym (rows_length (row_count words) 0 words) ∙ ap length rows_from_lem ∙ simp length-append (omega arith)

  place_is : (i : ℕ) (p q : List Row) → i ≡ length p → a ++ (b ++ (c ++ (d ++ e))) ≡ p ++ q → place_of words i ≡ sizes p
  unfolding place_of
  place_is i p q h s = ap sizes (rows_part words (row_count words) 0 i [] p q (rows_from_lem ∙ s) refl (omega arith))

  place-from : place_of words cut.from ≡ length va
  place-from = place_is cut.from a (b ++ (c ++ (d ++ e))) k.from refl ∙ k.size-a

  place_kept : place_of words cut.kept ≡ length va + length vb
  place_kept = place_is cut.kept (a ++ b) (c ++ (d ++ e)) (k.kept ∙ sym (length-append a b)) (simp append_assoc) ∙ omega (arith, sizes-append a b, k.size-a, k.size-b)

  place-to : place_of words cut.to ≡ length va + length vb + length vc
  place-to = place_is cut.to (a ++ (b ++ c)) (d ++ e) (k.to ∙ simp length-append (omega arith)) (simp append_assoc) ∙ omega (arith, sizes-append a (b ++ c), sizes-append b c, k.size-a, k.size-b, k.size-c)

  place_until : place_of words cut.until ≡ length va + length vb + length vc + length vd
  place_until = place_is cut.until (a ++ (b ++ (c ++ d))) e (k.until ∙ simp length-append (omega arith)) (simp append_assoc) ∙ omega (arith, sizes-append a (b ++ (c ++ d)), sizes-append b (c ++ d), sizes-append c d, k.size-a, k.size-b, k.size-c, k.size_d)

  place-count : place_of words cut.count ≡ length va + length vb + length vc + length vd + length ve
  place-count = place_is cut.count (a ++ (b ++ (c ++ (d ++ e)))) [] (k.count ∙ simp length-append (omega arith)) (sym (append-nil _)) ∙ omega (arith, sizes-append a (b ++ (c ++ (d ++ e))), sizes-append b (c ++ (d ++ e)), sizes-append c (d ++ e), sizes-append d e, k.size-a, k.size-b, k.size-c, k.size_d, k.size_e)

  pub cut_values_lem : (bytes : List ℕ) → cut_values cut bytes words values ≡ padded 8192 (va ++ (vd ++ (bytes ++ (vc ++ ve))))
  unfolding cut_values
  cut_values_lem bytes =
      let n = sizes (rows_of words) in
      let s : values ≡ va ++ (vb ++ (vc ++ (vd ++ (ve ++ drop n values)))) = sym (take-append-drop n values) ∙ rw k.texts (simp append_assoc) in
      ap (padded 8192)
      (spliced-parts va vb vc vd ve (drop n values) bytes values _ _ _ _ _ s place-from place_kept place-to place_until place-count)

  pub cut_words_lem : (x : List Row) → cut_words cut (flat x) (length x) words ≡ padded message_words (length (a ++ (d ++ (x ++ (c ++ e)))) ∷ flat (a ++ (d ++ (x ++ (c ++ e)))))
  unfolding cut_words
  cut_words_lem x =
      let n = row_count words in
      let t = drop (4 * n) (drop 1 words) in
      let s : words ≡ (n ∷ flat a) ++ (flat b ++ (flat c ++ (flat d ++ (flat e ++ t)))) =
      words_hold words k.laid_out.whole k.laid_out.counted ∙ ap (λ (r : List ℕ). n ∷ r) (rw (k.rows, flat_append, flat_append, flat_append, flat_append) (simp append_assoc)) in
      let r : spliced (4 * cut.from + 1) (4 * cut.to + 1) (4 * cut.kept + 1) (4 * cut.until + 1) (4 * cut.count + 1) (flat x) words ≡ n ∷ flat (a ++ (d ++ (x ++ (c ++ e)))) =
      spliced-parts (n ∷ flat a) (flat b) (flat c) (flat d) (flat e) t (flat x) words _ _ _ _ _ s
      (omega (arith, k.from, flat-length a)) (omega (arith, k.kept, flat-length a, flat-length b)) (omega (arith, k.to, flat-length a, flat-length b, flat-length c))
      (omega (arith, k.until, flat-length a, flat-length b, flat-length c, flat-length d)) (omega (arith, k.count, flat-length a, flat-length b, flat-length c, flat-length d, flat-length e))
      ∙ ap (λ (r : List ℕ). n ∷ r) (rw (flat_append, flat_append, flat_append, flat_append)) in
      let l : cut_rows cut + length x ≡ length (a ++ (d ++ (x ++ (c ++ e)))) = unfold cut_rows in simp length-append (omega (arith, k.from, k.kept, k.to, k.until, k.count)) in
      ap (λ (w : List ℕ). set (padded message_words w) 0 (cut_rows cut + length x)) r ∙ rw l (unfold padded in refl)

  pub cut_size_lem : (bytes : List ℕ) → cut_size words cut + length bytes ≡ length (va ++ (vd ++ (bytes ++ (vc ++ ve))))
  unfolding cut_size
  cut_size_lem bytes = simp length-append (omega (arith, place-from, place_kept, place-to, place_until, place-count))

  -- where a map has the rows and values that the cut leaves, the cut is judged and done as the rules say
  module _ (map : Map) (fields : ℕ) (few : fields ≤ 1024 → length (laid 0 map) ≤ message_rows) (x : List Row) (bytes : List ℕ)
      (rows : laid 0 map ≡ a ++ (d ++ (x ++ (c ++ e)))) (texts : values_in map ≡ va ++ (vd ++ (bytes ++ (vc ++ ve)))) where
    pub cut_judged : (whole : Bool) → changed_at cut (flat x) (length x) bytes whole fields words values ≡ judged_map words values whole fields map
    unfolding changed_at judged_map map_words map_values
    cut_judged whole = rw (cut_words_lem x, cut_values_lem bytes, cut_size_lem bytes, ← rows, ← texts)

    pub cut_able : Cuttable words values cut (flat x) (length x) fields
    cut_able =
        let l = k.laid_out in
        let sum : length (laid 0 map) ≡ length a + length d + length x + length c + length e = ap length rows ∙ simp length-append (omega arith) in
        record {
          whole = l.whole;
          store = l.store;
          forwards = omega (arith, k.from, k.kept);
          back = omega (arith, k.kept, k.to);
          on = omega (arith, k.to, k.until);
          last = omega (arith, k.until, k.count);
          few = omega (arith, k.count, cut_count, l.counted);
          four = flat-length x;
          room = λ h. omega (arith, few h, sum, k.from, k.kept, k.to, k.until, k.count);
          within = omega (arith, place-count, ap length k.texts, length-append va (vb ++ (vc ++ (vd ++ ve))), length-append vb (vc ++ (vd ++ ve)), length-append vc (vd ++ ve), length-append vd ve, length-take (sizes (rows_of words)) values, l.within);
        }
