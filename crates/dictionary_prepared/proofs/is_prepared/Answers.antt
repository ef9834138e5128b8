-- `is_prepared` meets its contract: each test that fails answers false, and the last one is the answer.
use Rattle.std.proofs.Common.{◌≡◌, ◌≤◌, true, false, length, get_or, ℕ, sym, ◌∙◌, arith, eqb-true}
use borrow.Author.Tests.{leb-true}
use Rattle.std.proofs.lemmas.Bool.{eqb-false}
use Rattle.dictionary_prepared.specs.Memory.{first_stamp, second_stamp, head_words, is_prepared}
use Rattle.dictionary_prepared.proofs.MemoryLaws.{few_words, other-first, other-second, by_length}
use Rattle.dictionary_prepared.proofs.is_prepared.Goals as goal
use Rattle.dictionary_prepared.proofs.is_prepared.Goals.{Joined-memory-eq-FIRST_STAMP, then-memory-ge-HEAD, else-memory-ge-HEAD, then-memory-eq-FIRST_STAMP, else-memory-eq-FIRST_STAMP}

refuses : {A : Type 0} → false ≡ true → A
refuses h = let z : ◌≡◌ {A = ℕ} 0 1 = cc in absurd (omega arith)

-- the length and the first word
first : (c : Joined-memory-eq-FIRST_STAMP) → let memory = c.args.memory.now in
    (c.if-memory-ge-HEAD.value ≡ true → (head_words ≤ length memory) × (get_or memory 0 0 ≡ first_stamp))
    × (c.if-memory-ge-HEAD.value ≡ false → is_prepared c.args.copy.now memory ≡ false)
first c =
    elim c.if-memory-ge-HEAD.branch [
      | then-memory-ge-HEAD w ↦ (
        (λ t. (w.if-memory-ge-HEAD.true, eqb-true _ _ (sym w.value-is ∙ t))),
        (λ f. other-first _ _ w.if-memory-ge-HEAD.true (eqb-false _ _ (sym w.value-is ∙ f))),
      )
      | else-memory-ge-HEAD w ↦ (
        (λ t. absurd (omega (arith, leb-true _ _ (sym w.value-is ∙ t), w.if-memory-ge-HEAD.false))),
        (λ f. few_words _ _ w.if-memory-ge-HEAD.false),
      )
    ]

-- and the second
both : (c : Joined-memory-eq-FIRST_STAMP) → let memory = c.args.memory.now in
    (c.if-memory-eq-FIRST_STAMP.value ≡ true → (head_words ≤ length memory) × (get_or memory 0 0 ≡ first_stamp) × (get_or memory 1 0 ≡ second_stamp))
    × (c.if-memory-eq-FIRST_STAMP.value ≡ false → is_prepared c.args.copy.now memory ≡ false)
both c =
    elim c.if-memory-eq-FIRST_STAMP.branch [
      | then-memory-eq-FIRST_STAMP w ↦
          let one = (first c).0 w.if-memory-eq-FIRST_STAMP.true in (
            (λ t. (one.0, one.1, eqb-true _ _ (sym w.value-is ∙ t))),
            (λ f. other-second _ _ one.0 one.1 (eqb-false _ _ (sym w.value-is ∙ f))),
          )
      | else-memory-eq-FIRST_STAMP w ↦ (
        (λ t. refuses (sym w.if-memory-eq-FIRST_STAMP.false ∙ sym w.value-is ∙ t)),
        (λ f. (first c).1 w.if-memory-eq-FIRST_STAMP.false),
      )
    ]

pub returns-then-memory-eq-SECOND_STAMP : goal.returns-then-memory-eq-SECOND_STAMP
returns-then-memory-eq-SECOND_STAMP c =
    let facts = (both (goal.at.returns-then-memory-eq-SECOND_STAMP c).Joined-memory-eq-FIRST_STAMP).0 c.if-memory-eq-SECOND_STAMP.true in
    rw c.from.ensures (sym (by_length _ _ facts.0 facts.1 facts.2))

pub returns-else-memory-eq-SECOND_STAMP : goal.returns-else-memory-eq-SECOND_STAMP
returns-else-memory-eq-SECOND_STAMP c =
    let none = c.if-memory-eq-SECOND_STAMP.false in
    none ∙ sym ((both (goal.at.returns-else-memory-eq-SECOND_STAMP c).Joined-memory-eq-FIRST_STAMP).1 none)
