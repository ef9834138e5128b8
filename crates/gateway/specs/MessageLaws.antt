-- What a call on a lent message tells follows from its outcome.
use Rattle.std.specs.Prelude.{ℕ, ◌≡◌, List}
use Rattle.std.proofs.Common.{ap, ◌∙◌}
use Rattle.message_rules.specs.declared.Part.{Part}
use Rattle.message_rules.specs.declared.Change.{Change}
use Rattle.message_rules.specs.Changes.{After, after, number_of_change, storing, removing}
use Rattle.message_rules.specs.Runs.{hanging}
use Rattle.encode_rules.specs.declared.Encoding.{Encoding}
use Rattle.encode_rules.specs.Encode.{Left, left, number_of_encoding, length_of_encoding}
use Rattle.face_told.specs.Told.{told, change_number, changed_words, changed_values, encoding_number, encoding_length, left_words, left_values, left_output}

-- the part by its number
pub storing_in : (p q : Part) (tag : ℕ) (value words values : List ℕ) (a : After) → p ≡ q → a ≡ storing p tag value words values
    → a ≡ storing q tag value words values
storing_in p q tag value words values a e h = h ∙ ap (λ (x : Part). storing x tag value words values) e

pub removing_in : (p q : Part) (tag : ℕ) (words values : List ℕ) (a : After) → p ≡ q → a ≡ removing p tag words values → a ≡ removing q tag words values
removing_in p q tag words values a e h = h ∙ ap (λ (x : Part). removing x tag words values) e

pub hanging_in : (p q : Part) (run_words run_values words values : List ℕ) (a : After) → p ≡ q → a ≡ hanging p run_words run_values words values
    → a ≡ hanging q run_words run_values words values
hanging_in p q run_words run_values words values a e h = h ∙ ap (λ (x : Part). hanging x run_words run_values words values) e

-- a change: its number, what it leaves of words and values, and no values in `out`
pub change_told : (k : Change) (words values : List ℕ) (o : After) (n : ℕ) (out : List ℕ) → after k words values ≡ o
    → (n ≡ number_of_change k) × (out ≡ told 0 (0, 0))
    → (n ≡ change_number o) × ((words ≡ changed_words o) × ((values ≡ changed_values o) × (out ≡ told 0 (0, 0))))
unfolding change_number changed_words changed_values
change_told k words values o n out e t = (t.0 ∙ ap change_number e, (ap changed_words e, (ap changed_values e, t.1)))

-- an encoding: its number, what it leaves, and its length in `out`
pub encoding-told : (k : Encoding) (words values output : List ℕ) (o : Left) (n : ℕ) (out : List ℕ) → left k words values output ≡ o
    → (n ≡ number_of_encoding k) × (out ≡ told 0 (length_of_encoding k, 0))
    → (n ≡ encoding_number o) × ((words ≡ left_words o) × ((values ≡ left_values o) × ((output ≡ left_output o) × (out ≡ told 0 (encoding_length o, 0)))))
unfolding encoding_number encoding_length left_words left_values left_output
encoding-told k words values output o n out e t =
    (t.0 ∙ ap encoding_number e, (ap left_words e, (ap left_values e, (ap left_output e, t.1 ∙ ap (λ (x : Left). told 0 (encoding_length x, 0)) e))))
