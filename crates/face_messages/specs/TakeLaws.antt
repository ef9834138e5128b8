-- How many of the lent records are read, and what a taking over tells.
use Rattle.std.specs.Prelude.{ℕ, ◌≤◌, ◌<◌, ◌≡◌, refl, List}
use Rattle.std.proofs.Common.{ap, ◌∙◌, lt-ltb, le-ltb}
use Rattle.message_take_over.specs.declared.Taken.{Taken}
use Rattle.message_take_over.specs.Taking.{AfterTaking, after, number_of_taken}
use Rattle.face_told.specs.Told.{taking_number, taken_words, taken_values}
use Rattle.face_messages.specs.Lent.{read_count}

pub read_past : (lent count : ℕ) → lent < count → 0 ≡ read_count lent count
unfolding read_count
read_past lent count h = rw (lt-ltb lent count h) refl

pub read-over : (lent count : ℕ) → count ≤ lent → 1024 < count → 0 ≡ read_count lent count
unfolding read_count
read-over lent count h over = rw (le-ltb lent count h, lt-ltb 1024 count over) refl

pub read_all : (lent count : ℕ) → count ≤ lent → count ≤ 1024 → count ≡ read_count lent count
unfolding read_count
read_all lent count h under = rw (le-ltb lent count h, le-ltb 1024 count under) refl

-- what a taking over tells follows from its outcome
pub took_number : (k : Taken) (words values : List ℕ) (o : AfterTaking) (n : ℕ) → after k words values ≡ o → n ≡ number_of_taken k → n ≡ taking_number o
unfolding taking_number
took_number k words values o n e h = h ∙ ap taking_number e

pub took_words : (k : Taken) (words values : List ℕ) (o : AfterTaking) → after k words values ≡ o → words ≡ taken_words o
unfolding taken_words
took_words k words values o e = ap taken_words e

pub took_values : (k : Taken) (words values : List ℕ) (o : AfterTaking) → after k words values ≡ o → values ≡ taken_values o
unfolding taken_values
took_values k words values o e = ap taken_values e
