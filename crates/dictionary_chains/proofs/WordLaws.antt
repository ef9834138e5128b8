-- The laws of the words: where heads and entries lie, and what is written of an entry changes no other word.
use Rattle.std.specs.Prelude.{◌≡◌, Bool, take}
use Rattle.std.proofs.Math.Path.{refl, sym}
use Rattle.std.proofs.Common.{ap, ◌∙◌, length-take-le}
use Rattle.std.proofs.Math.Bool.{true, false}
use mathlib.Core.List.{List, [], ◌∷◌, ◌++◌, append_assoc}
use Prim.Native.Nat.{ℕ, suc, ◌+◌, ◌-◌, ◌%◌, ◌≤◌, ◌<◌}
use native.Mathlib.Omega.{arith}
use Rattle.std.proofs.Math.ListN.{length, get_or, set, drop, length-set}
use Rattle.std.proofs.lemmas.List.Edits.{sets-eq}
use Rattle.std.proofs.Math.Seq.{get_or-append-add, get_or-set_same, get_or-set_other}
use Rattle.std.proofs.Math.Dec.{eqb}
use borrow.Author.Tests.{eqb-true, eqb-false}
use Rattle.dictionary_chains.specs.Chain.{head_words, entry_start, key_room, number_at, key_of, rank_of, head_of, word_at, entry_at, branch_of, written, branched}
use Rattle.dictionary_chains.specs.declared.Table.{Table}
use Rattle.dictionary_chains.specs.declared.Table.TheVariants.{Tags, Components, MsgTypes}
use Rattle.dictionary_chains.specs.declared.Entry.{Entry}

rank_small : (table : Table) → rank_of table ≤ 2
unfolding rank_of
rank_small Tags = omega arith
rank_small Components = omega arith
rank_small MsgTypes = omega arith

rank_apart : (t u : Table) → rank_of t ≡ rank_of u → t ≡ u
unfolding rank_of
rank_apart Tags Tags h = refl
rank_apart Tags Components h = absurd (omega arith)
rank_apart Tags MsgTypes h = absurd (omega arith)
rank_apart Components Tags h = absurd (omega arith)
rank_apart Components Components h = refl
rank_apart Components MsgTypes h = absurd (omega arith)
rank_apart MsgTypes Tags h = absurd (omega arith)
rank_apart MsgTypes Components h = absurd (omega arith)
rank_apart MsgTypes MsgTypes h = refl

pub head_small : (table : Table) (key : ℕ) → head_of table key < head_words
unfolding head_of
head_small table key = omega (arith, rank_small table)

pub head_table : (t u : Table) (k l : ℕ) → head_of t k ≡ head_of u l → t ≡ u
unfolding head_of
head_table t u k l h = rank_apart t u (omega arith)

pub head_slot : (t u : Table) (k l : ℕ) → head_of t k ≡ head_of u l → k % 2048 ≡ l % 2048
unfolding head_of
head_slot t u k l h = omega arith

-- a key that is made of words is one of its table
pub key_small : (table : Table) (e : Entry) → e.first < 65536 → e.second < 65536 → e.third < 65536 → e.fourth < 65536
    → key_of table e < key_room table
unfolding key_of key_room
key_small Tags e first second third fourth = omega arith
key_small Components e first second third fourth = omega arith
key_small MsgTypes e first second third fourth = omega arith

module _ (index : List ℕ) (number : ℕ) (e : Entry) where
  pub written-length : length (written index number e) ≡ length index
  unfolding written
  written-length = simp length-set

  pub written-other : (i : ℕ) → ((k : ℕ) → 2 ≤ k → k < 6 → i ≡ entry_start number + k → ⊥) → get_or (written index number e) i 0 ≡ get_or index i 0
  unfolding written
  written-other i apart =
      let once = set index (entry_start number + 2) e.first in
      let twice = set once (entry_start number + 3) e.second in
      let thrice = set twice (entry_start number + 4) e.third in
      get_or-set_other thrice (entry_start number + 5) i e.fourth 0 (apart 5 (omega arith) (omega arith))
      ∙ get_or-set_other twice (entry_start number + 4) i e.third 0 (apart 4 (omega arith) (omega arith))
      ∙ get_or-set_other once (entry_start number + 3) i e.second 0 (apart 3 (omega arith) (omega arith))
      ∙ get_or-set_other index (entry_start number + 2) i e.first 0 (apart 2 (omega arith) (omega arith))

  abbrev words : List ℕ
  words = e.first ∷ e.second ∷ e.third ∷ e.fourth ∷ []

  -- the words of an entry, as a part of the array
  written-part : entry_start number + 6 ≤ length index
      → written index number e ≡ take (entry_start number + 2) index ++ (words ++ drop (entry_start number + 6) index)
  unfolding written
  written-part h =
      let at = entry_start number + 2 in
      let a : entry_start number + 3 ≡ suc at = omega arith in
      let b : entry_start number + 4 ≡ suc (suc at) = omega arith in
      let c : entry_start number + 5 ≡ suc (suc (suc at)) = omega arith in
      let d : entry_start number + 6 ≡ at + 4 = omega arith in
      rw (a, b, c, d) (sets-eq words index at (omega arith) ∙ append_assoc (take at index) words (drop (at + 4) index))

  pub written_entry : entry_start number + 6 ≤ length index → number ≡ number_at e.place → entry_at (written index number e) number ≡ e
  unfolding entry_at word_at number_at
  written_entry h own =
      let place : number - 4 ≡ e.place = omega arith in
      rw (place, word 0 (entry_start number + 2) (omega arith), word 1 (entry_start number + 3) (omega arith))
      (rw (word 2 (entry_start number + 4) (omega arith), word 3 (entry_start number + 5) (omega arith)))
    where
      word : (k i : ℕ) → i ≡ entry_start number + 2 + k → get_or (written index number e) i 0 ≡ get_or (words ++ drop (entry_start number + 6) index) k 0
      word k i q =
          let size : entry_start number + 2 ≡ length (take (entry_start number + 2) index) = sym (length-take-le (entry_start number + 2) index (omega arith)) in
          rw (written-part h, q)
          (ap (λ (n : ℕ). get_or (take (entry_start number + 2) index ++ (words ++ drop (entry_start number + 6) index)) (n + k) 0) size
          ∙ get_or-append-add (take (entry_start number + 2) index) (words ++ drop (entry_start number + 6) index) k 0)

-- a new entry behind the word that leads to it
module _ (index : List ℕ) (cell number : ℕ) (behind : cell < entry_start number) where
  pub branched-length : length (branched index cell number) ≡ length index
  unfolding branched
  branched-length = simp length-set

  pub branched_cell : cell < length index → get_or (branched index cell number) cell 0 ≡ number
  unfolding branched
  branched_cell h = get_or-set_same (set (set index (entry_start number) 0) (entry_start number + 1) 0) cell number 0 (simp length-set h)

  pub branched-other : (i : ℕ) → (i ≡ cell → ⊥) → ((k : ℕ) → k < 2 → i ≡ entry_start number + k → ⊥) → get_or (branched index cell number) i 0 ≡ get_or index i 0
  unfolding branched
  branched-other i n apart =
      get_or-set_other (set (set index (entry_start number) 0) (entry_start number + 1) 0) cell i number 0 n
      ∙ get_or-set_other (set index (entry_start number) 0) (entry_start number + 1) i 0 0 (apart 1 (omega arith))
      ∙ get_or-set_other index (entry_start number) i 0 0 (λ q. apart 0 (omega arith) (omega arith))

  -- it has no branches yet
  pub branched_branch : (rest : ℕ) → entry_start number + 2 ≤ length index → get_or (branched index cell number) (branch_of number rest) 0 ≡ 0
  unfolding branched branch_of
  branched_branch rest h =
      let first = set index (entry_start number) 0 in
      get_or-set_other (set first (entry_start number + 1) 0) cell (entry_start number + rest % 2) number 0 (λ q. omega arith)
      ∙ go (eqb (rest % 2) 1) refl
    where
      go : (t : Bool) → eqb (rest % 2) 1 ≡ t → get_or (set (set index (entry_start number) 0) (entry_start number + 1) 0) (entry_start number + rest % 2) 0 ≡ 0
      go true q =
          let bit : rest % 2 ≡ 1 = eqb-true (rest % 2) 1 q in
          rw bit (get_or-set_same (set index (entry_start number) 0) (entry_start number + 1) 0 0 (simp length-set (omega arith)))
      go false q =
          let other = eqb-false (rest % 2) 1 q in
          let bit : entry_start number + rest % 2 ≡ entry_start number = omega arith in
          rw bit
          (get_or-set_other (set index (entry_start number) 0) (entry_start number + 1) (entry_start number) 0 0 (λ s. omega arith)
          ∙ get_or-set_same index (entry_start number) 0 0 (omega arith))
