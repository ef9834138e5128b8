-- What a call leaves, whatever it answers: where it answers 0, what is said of it; where it answers 27, everything as it was, and why; and
-- everything as it was where it answers anything else.
use Rattle.std.specs.Prelude.{◌≡◌, refl, Bool, true, false, List, ℕ, ◌≤◌, length, leb, eqb}
use Rattle.std.proofs.Common.{arith, leb-true}
use Rattle.std.proofs.lemmas.Bool.{eqb-false}
use Rattle.field_rules.specs.Choice.{pick}
use Rattle.message_maps.specs.Rows.{message_words}
use Rattle.message_rules.specs.Changes.{After, after, judged_by, of_store}
use Rattle.message_rules.specs.declared.Change.{Change}
use Rattle.message_rules.specs.declared.Change.TheVariants.{Made, NoMessage, NotStorable, NoRun, TooManyFields}

pub data Answered (none : Type 0) (said : List ℕ → List ℕ → Type 0) (words values : List ℕ) : After → Type 0 where
  made-with : (w v : List ℕ) → said w v → Answered none said words values (after Made w v)
  none_lent : none → Answered none said words values (after NoMessage words values)
  refused_by : (r : Change) → (r ≡ Made → ⊥) → (r ≡ NoMessage → ⊥) → Answered none said words values (after r words values)

-- two outcomes that are the same answer and leave the same
same_answer : {a b : Change} {w v x y : List ℕ} → after a w v ≡ after b x y → a ≡ b
same_answer e = cc

same_left : {a b : Change} {w v x y : List ℕ} → after a w v ≡ after b x y → (w ≡ x) × (v ≡ y)
same_left e = (cc, cc)

module _ {none : Type 0} {said : List ℕ → List ℕ → Type 0} {words values : List ℕ} where
  -- where 0 is answered
  pub said_of-made : {o : After} → Answered none said words values o → (w v : List ℕ) → o ≡ after Made w v → said w v
  said_of-made (made-with x y s) w v e = let q = same_left e in rw (← q.0, ← q.1) s
  said_of-made (none_lent n) w v e = let z : ◌≡◌ {A = ℕ} 0 1 = cc in absurd (omega arith)
  said_of-made (refused_by r made found) w v e = absurd (made (same_answer e))

  -- what held before, and holds of what is made, holds after whatever is answered
  pub kept_by_all : {o : After} → Answered none said words values o → (kept : List ℕ → List ℕ → Type 0) → ((w v : List ℕ) → said w v → kept w v) → kept words values → (r : Change) (w v : List ℕ) → o ≡ after r w v → kept w v
  kept_by_all (made-with x y s) kept made before r w v e = let q = same_left e in rw (← q.0, ← q.1) (made x y s)
  kept_by_all (none_lent n) kept made before r w v e = let q = same_left e in rw (← q.0, ← q.1) before
  kept_by_all (refused_by s a b) kept made before r w v e = let q = same_left e in rw (← q.0, ← q.1) before

  -- why 27 is answered
  pub why_none : {o : After} → Answered none said words values o → (w v : List ℕ) → o ≡ after NoMessage w v → none
  why_none (made-with x y s) w v e = let z : ◌≡◌ {A = ℕ} 0 1 = cc in absurd (omega arith)
  why_none (none_lent n) w v e = n
  why_none (refused_by r made found) w v e = absurd (found (same_answer e))

  -- the ways in which calls are made of tests
  pub answered_by : (b : Bool) {x y : After} → (b ≡ true → Answered none said words values x) → (b ≡ false → Answered none said words values y) → Answered none said words values (pick b x y)
  answered_by true is fails = is refl
  answered_by false is fails = fails refl

  pub not_storable : Answered none said words values (after NotStorable words values)
  not_storable = refused_by NotStorable (λ e. let z : ◌≡◌ {A = ℕ} 0 1 = cc in omega arith) (λ e. let z : ◌≡◌ {A = ℕ} 0 1 = cc in omega arith)

  pub no_run : Answered none said words values (after NoRun words values)
  no_run = refused_by NoRun (λ e. let z : ◌≡◌ {A = ℕ} 0 1 = cc in omega arith) (λ e. let z : ◌≡◌ {A = ℕ} 0 1 = cc in omega arith)

  too_many : Answered none said words values (after TooManyFields words values)
  too_many = refused_by TooManyFields (λ e. let z : ◌≡◌ {A = ℕ} 0 1 = cc in omega arith) (λ e. let z : ◌≡◌ {A = ℕ} 0 1 = cc in omega arith)

  -- "judged by what it would leave: 41, 42, 21"
  pub answered-judged : (size : ℕ) (whole : Bool) (fields : ℕ) (left_words left_values : List ℕ) → (size ≤ 8192 → whole ≡ true → fields ≤ 1024 → said left_words left_values)
      → Answered none said words values (judged_by words values size whole fields left_words left_values)
  answered-judged size whole fields left_words left_values made =
      answered_by (leb size 8192)
      (λ small. answered_by whole
      (λ is_whole. answered_by (leb fields 1024) (λ few. made-with left_words left_values (made (leb-true _ _ small) is_whole (leb-true _ _ few))) (λ many. too_many))
      (λ mixed. no_run))
      (λ large. not_storable)

-- other lengths than those of a message
unfoldable pub NotLent : List ℕ → List ℕ → Type 0
NotLent words values = length words ≡ message_words → length values ≡ 8192 → ⊥

pub answered-store : {said : List ℕ → List ℕ → Type 0} {words values : List ℕ} {then : After} → Answered (NotLent words values) said words values then → Answered (NotLent words values) said words values (of_store words values then)
unfolding of_store NotLent
answered-store {words = words} {values = values} next =
    answered_by (eqb (length words) message_words)
    (λ long. answered_by (eqb (length values) 8192) (λ store. next) (λ other. none_lent (λ w v. eqb-false _ _ other v)))
    (λ other. none_lent (λ w v. eqb-false _ _ other w))
