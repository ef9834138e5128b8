-- Inserting the rows of a run and raising them where they stand is inserting them raised: a cut leaves what stands before them, the rows
-- themselves and what stands behind, and raising changes the level in each.
use Rattle.std.proofs.Math.Path.{◌≡◌, refl, ap}
use Rattle.std.proofs.Common.{sym, ◌∙◌, arith, get_or-append-add}
use Rattle.std.specs.Prelude.{Bool, drop}
use Rattle.std.proofs.Math.Bool.{true, false}
use mathlib.Core.List.{List, [], ◌∷◌, ◌++◌, append_assoc}
use Prim.Native.Nat.{ℕ, suc, ◌+◌, ◌-◌, ◌*◌, ◌≤◌, ◌<◌}
use Rattle.std.proofs.Math.Nat.{sub_self}
use Rattle.std.proofs.Math.ListN.{length, get_or, take, set, replicate, length-append, length-take, length-drop}
use Rattle.std.proofs.Math.Seq.{set_at}
use Rattle.std.proofs.Math.Dec.{leb}
use Rattle.std.proofs.Math.Decide.{dec_le}
use borrow.Author.Tests.{leb-true}
use Rattle.field_rules.specs.Choice.{pick}
use Rattle.message_maps.specs.Rows.{Row, row, flat, part, padded, spliced, level_of, message_words, message_rows}
use Rattle.message_lent_rules.specs.Lent.{row_count, rows_of}
use Rattle.message_lent_rules.specs.LentLaws.{both}
use Rattle.message_lent_rules.proofs.MeaningLaws.{flat-length, rows_flat}
use Rattle.message_rules.specs.Changes.{after}
use Rattle.message_rules.specs.RowChanges.{Cuttable, cut_rows, cut_size, cut_words, cut_values, changed_at}
use Rattle.message_rules.specs.declared.Cut.{Cut}
use Rattle.message_rules.specs.declared.Change.{Change}
use Rattle.message_rules.specs.declared.Change.TheVariants.{Made, NotStorable, NoRun, TooManyFields}
use Rattle.message_hung_rows.specs.Hanging.{raised, raised_from, within}

pub raised-length : (rows : List Row) → length (raised rows) ≡ length rows
unfolding raised
raised-length [] = refl
raised-length (row k l t x ∷ rows) = ap suc (raised-length rows)

raised-flat : (rows : List Row) → length (flat (raised rows)) ≡ length (flat rows)
raised-flat rows = omega (arith, flat-length (raised rows), flat-length rows, raised-length rows)

-- rows between other words
module _ (behind : List ℕ) where
  pub raised_rows : (rows : List Row) (before : List ℕ) (i : ℕ) → length before ≡ 4 * i + 1
      → raised_from (length rows) i (before ++ (flat rows ++ behind)) ≡ before ++ (flat (raised rows) ++ behind)
  unfolding raised raised_from flat
  raised_rows [] before i e = refl
  raised_rows (row k l t x ∷ rows) before i e =
      let front = before ++ (k ∷ []) in
      let rest = t ∷ x ∷ (flat rows ++ behind) in
      let n : length front ≡ 4 * i + 2 = simp length-append (omega arith) in
      let same : before ++ (k ∷ l ∷ rest) ≡ front ++ (l ∷ rest) = simp append_assoc in
      let level : get_or (before ++ (k ∷ l ∷ rest)) (4 * i + 2) 0 ≡ l =
      ap (λ (s : List ℕ). get_or s (4 * i + 2) 0) same ∙ (let z : 4 * i + 2 ≡ length front + 0 = omega (arith, n) in
      rw z (get_or-append-add front (l ∷ rest) 0 0)) in
      let put : set (before ++ (k ∷ l ∷ rest)) (4 * i + 2) (l + 1) ≡ (before ++ (k ∷ (l + 1) ∷ t ∷ x ∷ [])) ++ (flat rows ++ behind) =
      ap (λ (s : List ℕ). set s (4 * i + 2) (l + 1)) same ∙ set_at front l rest (l + 1) (4 * i + 2) n ∙ simp append_assoc in
      ap (λ (v : ℕ). raised_from (length rows) (i + 1) (set (before ++ (k ∷ l ∷ rest)) (4 * i + 2) (v + 1))) level
      ∙ ap (raised_from (length rows) (i + 1)) put
      ∙ raised_rows rows (before ++ (k ∷ (l + 1) ∷ t ∷ x ∷ [])) (i + 1) (simp length-append (omega arith))
      ∙ simp append_assoc

  pub low_rows : (bound : ℕ) (rows : List Row) (before : List ℕ) (i j : ℕ) → within bound rows ≡ true → length before ≡ 4 * i + 1 → i ≤ j
      → j < i + length rows → get_or (before ++ (flat rows ++ behind)) (4 * j + 2) 0 ≤ bound
  unfolding within flat level_of
  low_rows bound [] before i j w e a b = absurd (omega arith)
  low_rows bound (row k l t x ∷ rows) before i j w e a b =
      by_place (dec_le (suc i) j) (λ p. low_rows bound rows (before ++ (k ∷ l ∷ t ∷ x ∷ [])) (i + 1) j (both (leb l bound) (within bound rows) w).1
      (simp length-append (omega arith)) (omega arith) (omega arith))
    where
      here : j ≡ i → get_or (before ++ (k ∷ l ∷ t ∷ x ∷ (flat rows ++ behind))) (4 * j + 2) 0 ≡ l
      here q =
          let front = before ++ (k ∷ []) in
          let rest = t ∷ x ∷ (flat rows ++ behind) in
          let z : 4 * j + 2 ≡ length front + 0 = simp length-append (omega arith) in
          let same : before ++ (k ∷ l ∷ rest) ≡ front ++ (l ∷ rest) = simp append_assoc in
          ap (λ (s : List ℕ). get_or s (4 * j + 2) 0) same ∙ rw z (get_or-append-add front (l ∷ rest) 0 0)

      by_place : Dec (suc i ≤ j) → (suc i ≤ j → get_or ((before ++ (k ∷ l ∷ t ∷ x ∷ [])) ++ (flat rows ++ behind)) (4 * j + 2) 0 ≤ bound)
          → get_or (before ++ (k ∷ l ∷ t ∷ x ∷ (flat rows ++ behind))) (4 * j + 2) 0 ≤ bound
      by_place (yes p) again =
          let same : (before ++ (k ∷ l ∷ t ∷ x ∷ [])) ++ (flat rows ++ behind) ≡ before ++ (k ∷ l ∷ t ∷ x ∷ (flat rows ++ behind)) = simp append_assoc in
          rw same at (again p)
      by_place (no p) again = let small = leb-true l bound (both (leb l bound) (within bound rows) w).0 in omega (arith, here (omega arith))

regroup : (k : ℕ) (head rows tail zeros : List ℕ) → k ∷ ((head ++ (rows ++ tail)) ++ zeros) ≡ (k ∷ head) ++ (rows ++ (tail ++ zeros))
regroup k head rows tail zeros =
    ap (λ (l : List ℕ). k ∷ l) (append_assoc head (rows ++ tail) zeros ∙ ap (λ (l : List ℕ). head ++ l) (append_assoc rows tail zeros))

padded-set : (k w : ℕ) (s : List ℕ) → set (padded message_words (w ∷ s)) 0 k ≡ k ∷ (s ++ replicate (message_words - suc (length s)) 0)
unfolding padded
padded-set k w s = refl

spliced-plain : (w : ℕ) (s rows : List ℕ) (from to used : ℕ)
    → spliced (4 * from + 1) to to to used rows (w ∷ s) ≡ w ∷ (take (4 * from) s ++ (rows ++ part to used (w ∷ s)))
unfolding spliced part
spliced-plain w s rows from to used =
    let one : 4 * from + 1 - 0 ≡ suc (4 * from) = omega arith in
    rw (one, sub_self)

-- what a cut that moves nothing leaves
module _ (words : List ℕ) (cut : Cut) where
  unfoldable front : ℕ → List ℕ
  front n = (cut_rows cut + n) ∷ take (4 * cut.from) (drop 1 words)

  unfoldable back : ℕ → List ℕ
  back size =
      part (4 * cut.to + 1) (4 * cut.count + 1) words
      ++ replicate (message_words - (1 + length (take (4 * cut.from) (drop 1 words)) + (size + length (part (4 * cut.to + 1) (4 * cut.count + 1) words)))) 0

  module _ (kept : cut.kept ≡ cut.to) (until : cut.until ≡ cut.to) where
    cut_shape : (rows : List ℕ) (n : ℕ) → 0 < length words → cut_words cut rows n words ≡ front n ++ (rows ++ back (length rows))
    unfolding front back cut_words
    cut_shape rows n some = by_words words some
      where
        by_words : (s : List ℕ) → 0 < length s
            → cut_words cut rows n s ≡ ((cut_rows cut + n) ∷ take (4 * cut.from) (drop 1 s)) ++ (rows ++ (part (4 * cut.to + 1) (4 * cut.count + 1) s
            ++ replicate (message_words - (1 + length (take (4 * cut.from) (drop 1 s))
            + (length rows + length (part (4 * cut.to + 1) (4 * cut.count + 1) s)))) 0))
        by_words [] h = absurd (omega arith)
        by_words (w ∷ s) h =
            let tail = part (4 * cut.to + 1) (4 * cut.count + 1) (w ∷ s) in
            let head = take (4 * cut.from) s in
            let size : suc (length (head ++ (rows ++ tail))) ≡ 1 + length head + (length rows + length tail) = simp length-append (omega arith) in
            let r : spliced (4 * cut.from + 1) (4 * cut.to + 1) (4 * cut.kept + 1) (4 * cut.until + 1) (4 * cut.count + 1) rows (w ∷ s)
            ≡ w ∷ (head ++ (rows ++ tail)) =
            rw (kept, until) (spliced-plain w s rows cut.from (4 * cut.to + 1) (4 * cut.count + 1)) in
            ap (λ (l : List ℕ). set (padded message_words l) 0 (cut_rows cut + n)) r
            ∙ padded-set (cut_rows cut + n) w (head ++ (rows ++ tail))
            ∙ ap (λ (m : ℕ). (cut_rows cut + n) ∷ ((head ++ (rows ++ tail)) ++ replicate (message_words - m) 0)) size
            ∙ regroup (cut_rows cut + n) head rows tail (replicate (message_words - (1 + length head + (length rows + length tail))) 0)

    -- raising what is inserted is inserting it raised
    module _ (rows : List Row) (whole : length words ≡ message_words) (few : cut.from ≤ message_rows) where
      front_length : (n : ℕ) → length (front n) ≡ 4 * cut.from + 1
      unfolding front
      front_length n = omega (arith, length-take (4 * cut.from) (drop 1 words), length-drop 1 words)

      pub raise_cut : (n : ℕ) → raised_from (length rows) cut.from (cut_words cut (flat rows) n words) ≡ cut_words cut (flat (raised rows)) n words
      raise_cut n =
          ap (raised_from (length rows) cut.from) (cut_shape (flat rows) n (omega arith))
          ∙ raised_rows (back (length (flat rows))) rows (front n) cut.from (front_length n)
          ∙ sym (cut_shape (flat (raised rows)) n (omega arith) ∙ ap (λ (k : ℕ). front n ++ (flat (raised rows) ++ back k)) (raised-flat rows))

      pub low_cut : (bound n j : ℕ) → within bound rows ≡ true → cut.from ≤ j → j < cut.from + length rows
          → get_or (cut_words cut (flat rows) n words) (4 * j + 2) 0 ≤ bound
      low_cut bound n j w a b =
          rw (cut_shape (flat rows) n (omega arith)) (low_rows (back (length (flat rows))) bound rows (front n) cut.from j w (front_length n) a b)

-- a cut asks nothing of the rows that it inserts but their number
pub cut_others : (words values : List ℕ) (cut : Cut) (rows others : List ℕ) (added fields : ℕ) → length others ≡ 4 * added
    → Cuttable words values cut rows added fields → Cuttable words values cut others added fields
cut_others words values cut rows others added fields e c =
    record {
      whole = c.whole;
      store = c.store;
      forwards = c.forwards;
      back = c.back;
      on = c.on;
      last = c.last;
      few = c.few;
      four = e;
      room = c.room;
      within = c.within;
    }

-- what is refused is refused whatever rows are inserted
module _ (words values : List ℕ) (cut : Cut) (added : ℕ) (bytes : List ℕ) (whole : Bool) (fields : ℕ) (rows others w v : List ℕ) where
  pub refused-same : (r : Change) → (r ≡ Made → ⊥) → after r w v ≡ changed_at cut rows added bytes whole fields words values
      → after r w v ≡ changed_at cut others added bytes whole fields words values
  unfolding changed_at
  refused-same r other e = by_tests (leb (cut_size words cut + length bytes) 8192) whole (leb fields 1024) e
    where
      by_tests : (a b c : Bool)
          → after r w v ≡ pick a (pick b (pick c (after Made (cut_words cut rows added words) (cut_values cut bytes words values))
          (after TooManyFields words values)) (after NoRun words values)) (after NotStorable words values)
          → after r w v ≡ pick a (pick b (pick c (after Made (cut_words cut others added words) (cut_values cut bytes words values))
          (after TooManyFields words values)) (after NoRun words values)) (after NotStorable words values)
      by_tests true true true e = absurd (other (cc))
      by_tests true true false e = e
      by_tests true false c e = e
      by_tests false b c e = e

  -- and what is made inserts them
  pub made-others : after Made w v ≡ changed_at cut rows added bytes whole fields words values
      → (w ≡ cut_words cut rows added words) × (after Made (cut_words cut others added words) v ≡ changed_at cut others added bytes whole fields words values)
      × (fields ≤ 1024)
  unfolding changed_at
  made-others e = by_tests (leb (cut_size words cut + length bytes) 8192) whole (leb fields 1024) refl e
    where
      by_tests : (a b c : Bool) → leb fields 1024 ≡ c
          → after Made w v ≡ pick a (pick b (pick c (after Made (cut_words cut rows added words) (cut_values cut bytes words values))
          (after TooManyFields words values)) (after NoRun words values)) (after NotStorable words values)
          → (w ≡ cut_words cut rows added words)
          × (after Made (cut_words cut others added words) v
          ≡ pick a (pick b (pick c (after Made (cut_words cut others added words) (cut_values cut bytes words values)) (after TooManyFields words values))
          (after NoRun words values)) (after NotStorable words values)) × (fields ≤ 1024)
      by_tests true true true f e =
          (cc, let q : v ≡ cut_values cut bytes words values = cc in ap (after Made (cut_words cut others added words)) q, leb-true _ _ f)
      by_tests true true false f e = let z : ◌≡◌ {A = ℕ} 0 1 = cc in absurd (omega arith)
      by_tests true false c f e = let z : ◌≡◌ {A = ℕ} 0 1 = cc in absurd (omega arith)
      by_tests false b c f e = let z : ◌≡◌ {A = ℕ} 0 1 = cc in absurd (omega arith)

-- the rows that a run's words hold
pub run_rows : (run_words : List ℕ) (count size : ℕ) → length run_words ≡ message_words → row_count run_words ≤ message_rows → count ≡ row_count run_words
    → size ≡ 4 * count + 1 → take (size - 1) (drop 1 run_words) ≡ flat (rows_of run_words)
unfolding rows_of
run_rows run_words count size whole few c e =
    let z : row_count run_words - 0 ≡ row_count run_words = omega arith in
    let n : size - 1 ≡ 4 * row_count run_words = omega arith in
    rw (z, n) (sym (rows_flat (row_count run_words) 0 run_words (omega arith)))
