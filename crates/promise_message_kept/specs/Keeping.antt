-- What is promised of each call, and how it follows from what a call answers in every case.
use Rattle.std.specs.Prelude.{◌≡◌, refl, Bool, true, List, ℕ}
use Rattle.std.proofs.Common.{arith}
use Rattle.message_rules.specs.Changes.{After, number_of_change}
use Rattle.message_rules.specs.Answered.{Answered, made-with, none_lent, refused_by}
use Rattle.message_rules.specs.declared.Change.{Change}
use Rattle.message_rules.specs.declared.Change.TheVariants.{Made, NoMessage, NotStorable, NoRun, TooManyFields}
use Rattle.promise_message_kept.specs.Calls.{Outcome, changed}

-- of a call on words and values that may be what is tested for: a message, or a draft
pub record Keeps (is : List ℕ → List ℕ → Bool) (zeroed : List ℕ → List ℕ → Type 0) (fit : Type 0) (words values : List ℕ) (o : Outcome) : Type 0 where
  -- where it answers 0, one is left
  pub made : o.answer ≡ 0 → is o.words o.values ≡ true
  -- one that was lent is left, whatever it answers
  pub kept : is words values ≡ true → is o.words o.values ≡ true
  -- and it doesn't answer 27 where one was lent
  pub taken : is words values ≡ true → fit → o.answer ≡ 27 → ⊥
  -- where it answers 0, zeros stand behind the rows and behind the values
  pub zeros : o.answer ≡ 0 → zeroed o.words o.values

-- what is refused leaves everything as it was
pub refused_keeps : {is : List ℕ → List ℕ → Bool} {zeroed : List ℕ → List ℕ → Type 0} {fit : Type 0} {words values : List ℕ} (answer : ℕ) → (answer ≡ 0 → ⊥) → (is words values ≡ true → fit → answer ≡ 27 → ⊥)
    → Keeps is zeroed fit words values (record { answer = answer; words = words; values = values })
refused_keeps answer refused lent = record { made = λ e. absurd (refused e); kept = λ h. h; taken = lent; zeros = λ e. absurd (refused e) }

-- what is made is left, with zeros behind
pub made_keeps : {is : List ℕ → List ℕ → Bool} {zeroed : List ℕ → List ℕ → Type 0} {fit : Type 0} {words values : List ℕ} (w v : List ℕ) → is w v ≡ true → zeroed w v
    → Keeps is zeroed fit words values (record { answer = 0; words = w; values = v })
made_keeps w v left zeros = record { made = λ e. left; kept = λ h. left; taken = λ h f e. omega arith; zeros = λ e. zeros }

pub number-made : (r : Change) → number_of_change r ≡ 0 → r ≡ Made
unfolding number_of_change
number-made Made e = refl
number-made NoMessage e = absurd (omega arith)
number-made NotStorable e = absurd (omega arith)
number-made NoRun e = absurd (omega arith)
number-made TooManyFields e = absurd (omega arith)

number-none : (r : Change) → number_of_change r ≡ 27 → r ≡ NoMessage
unfolding number_of_change
number-none Made e = absurd (omega arith)
number-none NoMessage e = refl
number-none NotStorable e = absurd (omega arith)
number-none NoRun e = absurd (omega arith)
number-none TooManyFields e = absurd (omega arith)

pub change_keeps : {none : Type 0} {said : List ℕ → List ℕ → Type 0} {words values : List ℕ} {o : After} (is : List ℕ → List ℕ → Bool) (zeroed : List ℕ → List ℕ → Type 0) (fit : Type 0)
    → Answered none said words values o → ((w v : List ℕ) → said w v → (is w v ≡ true) × zeroed w v) → (is words values ≡ true → fit → none → ⊥)
    → Keeps is zeroed fit words values (changed o)
unfolding changed number_of_change
change_keeps is zeroed fit (made-with w v s) left lent = let l = left w v s in made_keeps w v l.0 l.1
change_keeps is zeroed fit (none_lent n) left lent = refused_keeps 27 (λ e. omega arith) (λ h f e. lent h f n)
change_keeps is zeroed fit (refused_by r made found) left lent = refused_keeps (number_of_change r) (λ e. made (number-made r e)) (λ h f e. found (number-none r e))
