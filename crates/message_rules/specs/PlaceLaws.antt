-- From words to rows: a part of the rows is what stands between two places, the parts of a message stand one behind the other, and a cut
-- of words and values is the cut of the rows and of the values that they hold.
use Rattle.std.specs.Prelude.{◌≡◌, refl, Bool, true, false, List, [], ◌∷◌, ◌++◌, ℕ, zero, suc, ◌+◌, ◌-◌, ◌*◌, ◌≤◌, ◌<◌, take, drop, set, get_or, replicate, leb, ltb, eqb}
use Rattle.std.proofs.Common.{sym, ◌∙◌, append_assoc, append-nil, arith, length-append, length-take, length-drop, take-append-drop, take_at, drop_at, drop-cons, le-leb}
use Rattle.std.proofs.Math.Path.{ap}
use Rattle.std.proofs.Math.Nat.{sub-zero}
use Rattle.std.proofs.Math.ListN.{length}
use Rattle.std.proofs.lemmas.Bool.{lt-leb}
use Rattle.field_rules.specs.Choice.{pick, pick_same}
use Rattle.message_maps.specs.Map.{Map, end, field, entry, values_in}
use Rattle.message_maps.specs.Rows.{Row, row, laid, flat, part, padded, row_at, rows_from, level_of, sizes, end_from, spliced}
use Rattle.message_lent_rules.specs.Lent.{row_count, rows_of, is_message}
use Rattle.message_lent_rules.specs.LentLaws.{Laid, Held, message-held}
use Rattle.message_lent_rules.specs.Meaning.{Message, parts, words_of, value_bytes_of, message_in}
use Rattle.message_lent_rules.proofs.MeaningLaws.{Means, means, flat-length, flat_append, rows_flat}
pub use Rattle.message_lent_rules.proofs.MeaningLaws.{rows_length}
use Rattle.message_rules.specs.Changes.{After, after}
use Rattle.message_rules.specs.RowChanges.{place_of, Cuttable, cut_rows, cut_size, cut_words, cut_values, changed_at, located_in, span_of}
use Rattle.message_rules.specs.LayoutLaws.{sizes-append, sizes-laid, end_below}
use Rattle.message_rules.specs.declared.Cut.{Cut}

pub rows_split : (a b i : ℕ) (words : List ℕ) → rows_from (a + b) i words ≡ rows_from a i words ++ rows_from b (i + a) words
unfolding rows_from
rows_split zero b i words = let e : 0 + b ≡ b = omega arith in let f : i + 0 ≡ i = omega arith in rw (e, f)
rows_split (suc a) b i words =
    let e : suc a + b ≡ suc (a + b) = omega arith in
    let f : i + 1 + a ≡ i + suc a = omega arith in
    rw e (ap (λ (r : List Row). row_at words i ∷ r) (rows_split a b (i + 1) words ∙ rw f))

-- what stands between two places
pub rows_part : (words : List ℕ) (n i j : ℕ) (p q r : List Row) → rows_from n 0 words ≡ p ++ (q ++ r) → i ≡ length p → j ≡ length p + length q
    → rows_from (j - i) i words ≡ q
rows_part words n i j p q r e f g =
    let total : n ≡ i + ((j - i) + length r) = omega (arith, rows_length n 0 words, ap length e, length-append p (q ++ r), length-append q r) in
    let z : 0 + i ≡ i = omega arith in
    let whole : rows_from i 0 words ++ (rows_from (j - i) i words ++ rows_from (length r) (i + (j - i)) words) ≡ p ++ (q ++ r) =
    sym (rw z at (rows_split i ((j - i) + length r) 0 words ∙ ap (λ (s : List Row). rows_from i 0 words ++ s) (rows_split (j - i) (length r) (0 + i) words)))
    ∙ ap (λ (k : ℕ). rows_from k 0 words) (sym total) ∙ e in
    let behind : rows_from (j - i) i words ++ rows_from (length r) (i + (j - i)) words ≡ q ++ r =
    sym (drop_at (rows_from i 0 words) _ i (rows_length i 0 words)) ∙ ap (drop i) whole ∙ drop_at p (q ++ r) i (sym f) in
    sym (take_at (rows_from (j - i) i words) _ (j - i) (rows_length (j - i) i words)) ∙ ap (take (j - i)) behind ∙ take_at q r (j - i) (omega arith)

-- from place to place by the values between
pub place-on : (words : List ℕ) (i j : ℕ) → i ≤ j → place_of words j ≡ place_of words i + sizes (rows_from (j - i) i words)
unfolding place_of
place-on words i j h =
    let e : j - 0 ≡ i + (j - i) = omega arith in
    let f : i - 0 ≡ i = omega arith in
    let z : 0 + i ≡ i = omega arith in
    rw (e, f) (ap sizes (rows_split i (j - i) 0 words) ∙ sizes-append (rows_from i 0 words) (rows_from (j - i) (0 + i) words) ∙ rw z)

pub place_grows : (words : List ℕ) (i j : ℕ) → i ≤ j → place_of words i ≤ place_of words j
place_grows words i j h = omega (arith, place-on words i j h)

-- where the parts of a message stand
pub record PartsAt (words : List ℕ) (m : Message) : Type 0 where
  pub count : row_count words ≡ length (laid 0 (parts m))
  pub total : row_count words ≡ 1 + length (laid 1 m.header) + 1 + length (laid 1 m.body) + 1 + length (laid 1 m.trailer)
  pub first : end_from 0 1 (rows_from (row_count words - 1) 1 words) ≡ 1 + length (laid 1 m.header)
  pub second : end_from 0 (1 + length (laid 1 m.header) + 1) (rows_from (row_count words - (1 + length (laid 1 m.header) + 1)) (1 + length (laid 1 m.header) + 1) words)
      ≡ 1 + length (laid 1 m.header) + 1 + length (laid 1 m.body)

-- the rows of a message, one part behind the other
pub part_rows : (m : Message) → laid 0 (parts m) ≡ row 2 0 1 0 ∷ (laid 1 m.header ++ (row 2 0 2 0 ∷ (laid 1 m.body ++ (row 2 0 3 0 ∷ (laid 1 m.trailer ++ [])))))
unfolding parts laid
part_rows m = refl

pub part-values : (m : Message) → values_in (parts m) ≡ values_in m.header ++ (values_in m.body ++ (values_in m.trailer ++ []))
unfolding parts values_in
part-values m = refl

pub parts_at : (words : List ℕ) (m : Message) → rows_of words ≡ laid 0 (parts m) → PartsAt words m
unfolding rows_of
parts_at words m e =
    let n = row_count words in
    let h = laid 1 m.header in
    let b = laid 1 m.body in
    let t = laid 1 m.trailer in
    let z : n - 0 ≡ n = sub-zero n in
    let rows : rows_from n 0 words ≡ row 2 0 1 0 ∷ (h ++ (row 2 0 2 0 ∷ (b ++ (row 2 0 3 0 ∷ (t ++ []))))) = ap (λ (k : ℕ). rows_from k 0 words) (sym z) ∙ e ∙ part_rows m in
    let count : n ≡ length (laid 0 (parts m)) = sym (rows_length n 0 words) ∙ ap (λ (k : ℕ). length (rows_from k 0 words)) (sym z) ∙ ap length e in
    let total : n ≡ 1 + length h + 1 + length b + 1 + length t =
    omega (arith, rows_length n 0 words, ap length rows, length-append h (row 2 0 2 0 ∷ (b ++ (row 2 0 3 0 ∷ (t ++ [])))), length-append b (row 2 0 3 0 ∷ (t ++ [])), length-append t []) in
    let behind_head : rows_from (n - 1) 1 words ≡ h ++ (row 2 0 2 0 ∷ (b ++ (row 2 0 3 0 ∷ (t ++ [])))) =
    rows_part words n 1 n (row 2 0 1 0 ∷ []) (h ++ (row 2 0 2 0 ∷ (b ++ (row 2 0 3 0 ∷ (t ++ []))))) [] (rows ∙ ap (λ (r : List Row). row 2 0 1 0 ∷ r) (sym (append-nil _))) refl
    (omega (arith, rows_length n 0 words, ap length rows)) in
    let front = row 2 0 1 0 ∷ (h ++ (row 2 0 2 0 ∷ [])) in
    let front_length : length front ≡ 1 + length h + 1 = omega (arith, length-append h (row 2 0 2 0 ∷ [])) in
    let rows₂ : rows_from n 0 words ≡ front ++ ((b ++ (row 2 0 3 0 ∷ (t ++ []))) ++ []) =
    rows ∙ ap (λ (r : List Row). row 2 0 1 0 ∷ r) (sym (append_assoc h (row 2 0 2 0 ∷ []) ((b ++ (row 2 0 3 0 ∷ (t ++ []))) ++ []) ∙ ap (λ (r : List Row). h ++ (row 2 0 2 0 ∷ r)) (append-nil _))) in
    let behind_body : rows_from (n - (1 + length h + 1)) (1 + length h + 1) words ≡ b ++ (row 2 0 3 0 ∷ (t ++ [])) =
    rows_part words n (1 + length h + 1) n front (b ++ (row 2 0 3 0 ∷ (t ++ []))) [] rows₂ (sym front_length) (omega (arith, length-append b (row 2 0 3 0 ∷ (t ++ [])), length-append t [])) in
    record {
      count = count;
      total = total;
      first = ap (end_from 0 1) behind_head ∙ end_below 0 m.header 1 1 _ (omega arith) ∙ (unfold end_from level_of in refl);
      second = ap (end_from 0 (1 + length h + 1)) behind_body ∙ end_below 0 m.body 1 (1 + length h + 1) _ (omega arith) ∙ (unfold end_from level_of in refl);
    }

-- a part of a list that stands in the middle
part-middle : (p q r s : List ℕ) (i j : ℕ) → s ≡ p ++ (q ++ r) → i ≡ length p → j ≡ length p + length q → part i j s ≡ q
unfolding part
part-middle p q r s i j e f g =
    rw (e, drop_at p (q ++ r) i (sym f)) (take_at q r (j - i) (omega arith))

-- a splice of what stands one behind the other
pub spliced-parts : (a b c d e t new s : List ℕ) (from kept to until used : ℕ) → s ≡ a ++ (b ++ (c ++ (d ++ (e ++ t))))
    → from ≡ length a → kept ≡ length a + length b → to ≡ length a + length b + length c → until ≡ length a + length b + length c + length d
    → used ≡ length a + length b + length c + length d + length e
    → spliced from to kept until used new s ≡ a ++ (d ++ (new ++ (c ++ e)))
unfolding spliced
spliced-parts a b c d e t new s from kept to until used w f k o u n =
    let one = part-middle [] a (b ++ (c ++ (d ++ (e ++ t)))) s 0 from w refl (omega arith) in
    let two = part-middle (a ++ (b ++ c)) d (e ++ t) s to until (w ∙ simp append_assoc) (simp length-append (omega arith)) (simp length-append (omega arith)) in
    let three = part-middle (a ++ b) c (d ++ (e ++ t)) s kept to (w ∙ simp append_assoc) (simp length-append (omega arith)) (simp length-append (omega arith)) in
    let four = part-middle (a ++ (b ++ (c ++ d))) e t s until used (w ∙ simp append_assoc) (simp length-append (omega arith)) (simp length-append (omega arith)) in
    rw (one, two, three, four)
