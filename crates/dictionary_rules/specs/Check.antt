-- The check of a flat dictionary: "Dictionary: 30, then record by record, checks in number order".
use Rattle.std.specs.Prelude.{ℕ, Bool, List, [], ◌∷◌, ◌++◌, length, drop, replicate, ltb, Result, Ok, Err}
use Rattle.dictionary_chains.specs.Chain.{head_words}
use Rattle.field_rules.specs.Choice.{pick}
use Rattle.dictionary_rules.specs.Records.{Records, ends, bad, whole, records_from}
use Rattle.dictionary_rules.specs.Step.{step_of, at_end}
use Rattle.dictionary_rules.specs.declared.Checked.{Checked}
use Rattle.dictionary_rules.specs.declared.Checked.TheVariants.{Passes, TooLong, BadRecord, NoComponent, UnknownTag, EmptyGroup, TooDeep, Twice, TooManyItems}
use Rattle.dictionary_rules.specs.declared.State.{State}
use Rattle.dictionary_rules.specs.declared.State.TheVariants.{TopLevel}
use Rattle.dictionary_rules.specs.declared.Note.{Note}
use Rattle.dictionary_rules.specs.Names.{Looks, Names, looks_in, named, no_names}
use Rattle.dictionary_rules.specs.Index.{looks_at, noted}

-- the answer, and what the records made known until then
pub data CheckOutcome (S : Type 0) : Type 0 where
  outcome : Checked → S → CheckOutcome S

unfoldable pub on_step : {S : Type 0} → S → Result (State × Note) Checked → (State → Note → CheckOutcome S) → CheckOutcome S
on_step store (Err checked) goes = outcome checked store
on_step store (Ok (state, note)) goes = goes state note

-- record by record, with a store that takes notes and is looked up in
unfoldable pub walked : {S : Type 0} → (S → Looks) → (S → Note → S) → Records → State → S → CheckOutcome S
walked looks noted (ends size) state store = outcome (at_end (looks store) state size) store
walked looks noted (bad place) state store = outcome (BadRecord place) store
walked looks noted (whole place r rest) state store =
    on_step store (step_of (looks store) state place r) (λ state₁ note. walked looks noted rest state₁ (noted store note))

-- "30: dictionary over 60,000 bytes"
unfoldable pub too_long : List ℕ → Bool
too_long dictionary = ltb 60000 (length dictionary)

-- the answer to a dictionary, and what it names
unfoldable pub read_of : List ℕ → CheckOutcome Names
read_of dictionary =
    pick (too_long dictionary) (outcome TooLong no_names) (walked looks_in named (records_from dictionary 0) TopLevel no_names)

unfoldable pub answer_of : {S : Type 0} → CheckOutcome S → Checked
answer_of (outcome checked store) = checked

unfoldable pub store_of : {S : Type 0} → CheckOutcome S → S
store_of (outcome checked store) = store

unfoldable pub check_of : List ℕ → Checked
check_of dictionary = answer_of (read_of dictionary)

-- the answer to a dictionary, and what the lent index holds then; it holds nothing before the first record
unfoldable pub prepared_of : List ℕ → List ℕ → CheckOutcome (List ℕ)
prepared_of dictionary index =
    pick (too_long dictionary) (outcome TooLong index) (walked looks_at noted (records_from dictionary 0) TopLevel (replicate head_words 0 ++ drop head_words index))

-- "Numbers returned"
unfoldable pub number_of_check : Checked → ℕ
number_of_check Passes = 0
number_of_check TooLong = 30
number_of_check (BadRecord place) = 31
number_of_check (NoComponent number) = 32
number_of_check (UnknownTag tag) = 33
number_of_check (EmptyGroup tag) = 34
number_of_check (TooDeep place) = 35
number_of_check (Twice place) = 36
number_of_check (TooManyItems place) = 37

-- the value that an answer returns: none, "place 60,000", or what it holds
unfoldable pub values_of_check : Checked → List ℕ
values_of_check Passes = []
values_of_check TooLong = 60000 ∷ []
values_of_check (BadRecord place) = place ∷ []
values_of_check (NoComponent number) = number ∷ []
values_of_check (UnknownTag tag) = tag ∷ []
values_of_check (EmptyGroup tag) = tag ∷ []
values_of_check (TooDeep place) = place ∷ []
values_of_check (Twice place) = place ∷ []
values_of_check (TooManyItems place) = place ∷ []
