-- "Numbers returned": the rules' number and values for each answer to a message.
use Rattle.std.specs.Prelude.{ℕ, List, [], ◌∷◌, eqb, get_or}
use Rattle.field_rules.specs.Choice.{pick}
use Rattle.dictionary_rules.specs.Check.{number_of_check, values_of_check}
use Rattle.build_integrity_rules.specs.Integrity.{number_of_reason}
use Rattle.build_answers.specs.declared.Answer.{Answer}
use Rattle.build_answers.specs.declared.Answer.TheVariants.{Valid, InvalidField, InvalidOrderInGroup, InvalidMsgType, RequiredFieldMissing, Malformed, Garbled, TooLong, TooManyFields, InvalidSeparator, TooFewRecords, NotPrepared, BadDictionary}

unfoldable pub number_of : Answer → ℕ
number_of Valid = 0
number_of (InvalidField tag) = 1
number_of (InvalidOrderInGroup tag group) = 2
number_of (InvalidMsgType place length) = 3
number_of (RequiredFieldMissing tag group) = 4
number_of (Malformed cause place) = 10
number_of (Garbled reason) = number_of_reason reason
number_of TooLong = 20
number_of TooManyFields = 21
number_of InvalidSeparator = 22
number_of TooFewRecords = 23
number_of NotPrepared = 27
number_of (BadDictionary checked) = number_of_check checked

-- "tag"; "tag, group tag"; "place, length of its value"; what the dictionary's check returns; 0 where there is none
unfoldable pub values_of : Answer → ℕ × ℕ
values_of Valid = (0, 0)
values_of (InvalidField tag) = (tag, 0)
values_of (InvalidOrderInGroup tag group) = (tag, group)
values_of (InvalidMsgType place length) = (place, length)
values_of (RequiredFieldMissing tag group) = (tag, group)
values_of (Malformed cause place) = (0, 0)
values_of (Garbled reason) = (0, 0)
values_of TooLong = (0, 0)
values_of TooManyFields = (0, 0)
values_of InvalidSeparator = (0, 0)
values_of TooFewRecords = (0, 0)
values_of NotPrepared = (0, 0)
values_of (BadDictionary checked) = (get_or (values_of_check checked) 0 0, 0)

-- for worked examples: the values where there are any
unfoldable pub listed : Answer → List ℕ
listed answer = pick (eqb (values_of answer).0 0) [] ((values_of answer).0 ∷ (values_of answer).1 ∷ [])
