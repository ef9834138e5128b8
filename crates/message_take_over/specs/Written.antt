-- What is written in front of lent words or bytes, and zeros behind it: of a message only what is used is copied.
-- The words that were laid are zero behind their rows, so that what is left in the lent ones is the same as all of them.
use Rattle.std.specs.Prelude.{◌≡◌, List, ◌∷◌, ◌++◌, ℕ, ◌+◌, ◌-◌, ◌*◌, ◌≤◌, get_or, drop, replicate}
use Rattle.std.proofs.Math.Path.{sym, ap}
use Rattle.std.proofs.Common.{◌∙◌, append_assoc, append-nil, arith, length-append, length-take, length-drop, drop_of_length-le, drop-drop, take_at}
use Rattle.std.proofs.Math.Nat.{sub-zero}
use Rattle.std.proofs.Math.ListN.{length, take}
use Rattle.std.proofs.lemmas.List.{length-replicate}
use Rattle.std.proofs.Math.Seq.{length-take-le}
use borrow.Rule.Slice.PartMut.{put_mid, mid_of}
use Rattle.field_rules.specs.Decimal.{written_at}
use Rattle.field_rules.proofs.DecimalLaws.{written_fits, written-length}
use Rattle.message_maps.specs.Rows.{Row, flat, padded, part, message_words, message_rows}
use Rattle.message_maps.specs.RowsLaws.{padded-length}
use Rattle.message_lent_rules.proofs.MeaningLaws.{flat-length}

-- a part that was copied over, or filled
pub written_part : (at k : ℕ) (old new copied : List ℕ) → copied ≡ new → length new ≡ k → at + k ≤ length old → put_mid at k old copied ≡ written_at at new old
written_part at k old new copied e n room = rw e (sym (written_fits at new old (omega arith) ∙ rw (n, drop-drop k at old)))

-- zeros from a place to the end
pub filled-behind : (n used : ℕ) (old filled : List ℕ) → length old ≡ n → used ≤ n → filled ≡ replicate (length (mid_of used (length old - used) old)) 0
    → put_mid used (length old - used) old filled ≡ written_at used (replicate (n - used) 0) old
filled-behind n used old filled whole h e =
    let most : length (mid_of used (length old - used) old) ≡ n - used = simp (length-take, length-drop) (omega arith) in
    written_part used (length old - used) old (replicate (n - used) 0) filled
    (e ∙ ap (λ (k : ℕ). replicate {A = ℕ} k 0) most) (length-replicate (n - used) 0 ∙ omega arith) (omega arith)

-- what was written behind the used ones, with them
pub written_behind : (used behind : ℕ) (new old written : List ℕ) → behind ≡ used + length new → behind ≤ length old → written ≡ written_at used new old → take behind written ≡ take used old ++ new
written_behind used behind new old written e h w =
    let front : length (take used old) ≡ used = length-take-le used old (omega arith) in
    let parts : written ≡ (take used old ++ new) ++ drop (used + length new) old = w ∙ written_fits used new old (omega arith) ∙ sym (append_assoc (take used old) new _) in
    rw parts (take_at (take used old ++ new) (drop (used + length new) old) behind (simp length-append (omega arith)))

-- zeros behind the used ones
pub cleared-behind : (n used : ℕ) (old cleared : List ℕ) → length old ≡ n → used ≤ n → cleared ≡ written_at used (replicate (n - used) 0) old → cleared ≡ padded n (take used old)
unfolding padded
cleared-behind n used old cleared whole h e =
    let front : length (take used old) ≡ used = length-take-le used old (omega arith) in
    let zeros : length (replicate {A = ℕ} (n - used) 0) ≡ n - used = length-replicate (n - used) 0 in
    e ∙ written_fits used (replicate (n - used) 0) old (omega arith)
    ∙ rw (drop_of_length-le old {i = used + length (replicate {A = ℕ} (n - used) 0)} (omega arith), append-nil (replicate {A = ℕ} (n - used) 0), front)

-- words with nothing behind the rows that the first one counts
pub record BlankBehind (words : List ℕ) : Type 0 where
  pub few : get_or words 0 0 ≤ message_rows
  pub blank : words ≡ padded message_words (take (4 * get_or words 0 0 + 1) words)

module _ (new : List ℕ) (b : BlankBehind new) where
  pub blank-whole : length new ≡ message_words
  blank-whole =
      let most : length (take (4 * get_or new 0 0 + 1) new) ≤ 4 * get_or new 0 0 + 1 = simp length-take (omega arith) in
      ap length b.blank ∙ padded-length message_words (take (4 * get_or new 0 0 + 1) new) (omega (arith, b.few))

  pub rows_put : (used : ℕ) (old copied filled : List ℕ) → used ≡ 4 * get_or new 0 0 + 1 → length old ≡ message_words → copied ≡ take used new
      → filled ≡ replicate (length (mid_of used (length (copied ++ drop used old) - used) (copied ++ drop used old))) 0
      → put_mid used (length (copied ++ drop used old) - used) (copied ++ drop used old) filled ≡ new
  rows_put used old copied filled u whole e f =
      let front : length copied ≡ used = ap length e ∙ length-take-le used new (omega (arith, blank-whole, b.few)) in
      let size : length (copied ++ drop used old) ≡ message_words = simp (length-append, length-drop) (omega (arith, b.few)) in
      cleared-behind message_words used (copied ++ drop used old) _ size (omega (arith, b.few))
      (filled-behind message_words used (copied ++ drop used old) filled size (omega (arith, b.few)) f)
      ∙ ap (padded message_words) (take_at copied (drop used old) used front ∙ e ∙ ap (λ (n : ℕ). take n new) u) ∙ sym b.blank

  pub rows_copied : (old copied cleared : List ℕ) → length old ≡ message_words → copied ≡ written_at 0 (part 0 (4 * get_or new 0 0 + 1) new) old
      → cleared ≡ written_at (4 * get_or new 0 0 + 1) (replicate (message_words - (4 * get_or new 0 0 + 1)) 0) copied → cleared ≡ new
  rows_copied old copied cleared whole e f =
      let used : ℕ = 4 * get_or new 0 0 + 1 in
      let front : part 0 used new ≡ take used new = unfold part in rw sub-zero in
      let size : length (part 0 used new) ≡ used = ap length front ∙ length-take-le used new (omega (arith, blank-whole, b.few)) in
      let kept : take used copied ≡ take used new = written_behind 0 used (part 0 used new) old copied (omega arith) (omega (arith, b.few)) e ∙ front in
      let all : length copied ≡ message_words = ap length e ∙ written-length 0 (part 0 used new) old ∙ whole in
      cleared-behind message_words used copied cleared all (omega (arith, b.few)) f ∙ ap (padded message_words) kept ∙ sym b.blank

-- as they are laid
pub laid-blank : (rows : List Row) (words : List ℕ) → words ≡ padded message_words (length rows ∷ flat rows) → get_or words 0 0 ≤ message_rows → BlankBehind words
unfolding padded
laid-blank rows words e few =
    let count : get_or words 0 0 ≡ length rows = ap (λ (w : List ℕ). get_or w 0 0) e in
    let front : take (4 * length rows + 1) words ≡ length rows ∷ flat rows = rw e (take_at (length rows ∷ flat rows) _ (4 * length rows + 1) (omega (arith, flat-length rows))) in
    record { few = few; blank = rw (count, front) e }
