-- Worked examples of prepared memory, one table to a definition, each under one statement that antt computes. A wrong definition is refused
-- here, whatever code is proved against it.
use Rattle.std.specs.Prelude.{◌≡◌, refl, true, false, List, [], ◌∷◌, ◌++◌, map, ℕ, ◌/◌, ◌%◌, take, replicate}
use Rattle.field_rules.specs.Text.{bytes}
use Rattle.dictionary_rules.specs.Records.{records_from, records_within}
use Rattle.dictionary_rules.specs.Step.{present, at_end}
use Rattle.dictionary_rules.specs.Names.{component_in, looks_in, no_names}
use Rattle.dictionary_rules.specs.Check.{walked, too_long, read_of, answer_of, check_of, number_of_check, values_of_check}
use Rattle.dictionary_rules.specs.declared.Checked.{Checked}
use Rattle.dictionary_rules.specs.declared.Checked.TheVariants.{Passes, TooLong, BadRecord, NoComponent, UnknownTag, EmptyGroup, TooDeep, Twice, TooManyItems}
use Rattle.dictionary_prepared.specs.declared.Preparing.{Preparing}
use Rattle.dictionary_prepared.specs.declared.Preparing.TheVariants.{Ready, NoRoom, Refused}
use Rattle.dictionary_prepared.specs.Memory.{first_stamp, second_stamp, head_words, head_for, memory_for, is_prepared, records_in, index_in}
use Rattle.dictionary_prepared.specs.Memory.{Preparation, prepared, by_check, preparation, number_of_preparing, value_of_preparing}

abbrev low_first : List ℕ → List ℕ
low_first [] = []
low_first (word ∷ words) = word % 256 ∷ word / 256 ∷ low_first words

-- "the stamp": as bytes, low byte first, it is a text
stamp : low_first (first_stamp ∷ second_stamp ∷ []) ≡ bytes "FIX2"
stamp = refl

words : head_words ≡ 96157
words = refl

-- the stamp, the length, the index
head : head_for 8 (5 ∷ 6 ∷ []) ≡ 18758 ∷ 12888 ∷ 8 ∷ 5 ∷ 6 ∷ []
unfolding head_for
head = refl

-- any words are read: so many bytes of the copy, fewer where it is shorter; and what stands behind the front
read_records : map (records_in (7 ∷ 8 ∷ 9 ∷ [])) ((0 ∷ 0 ∷ 2 ∷ 5 ∷ []) ∷ (0 ∷ 0 ∷ 0 ∷ []) ∷ (0 ∷ 0 ∷ 4 ∷ []) ∷ (1 ∷ 2 ∷ []) ∷ [] ∷ [])
    ≡ (7 ∷ 8 ∷ []) ∷ [] ∷ (7 ∷ 8 ∷ 9 ∷ []) ∷ [] ∷ [] ∷ []
unfolding records_in
read_records = refl

read-index : map index_in ((0 ∷ 0 ∷ 2 ∷ 5 ∷ 6 ∷ []) ∷ (0 ∷ 0 ∷ 2 ∷ []) ∷ [] ∷ []) ≡ (5 ∷ 6 ∷ []) ∷ [] ∷ [] ∷ []
unfolding index_in
read-index = refl

-- so many words of zeros behind a front
abbrev memory : List ℕ → ℕ → List ℕ
memory front count = front ++ replicate count 0

-- prepared: a copy as long as it says, or longer; more words than are used
standing : map (is_prepared (7 ∷ 8 ∷ [])) (memory (18758 ∷ 12888 ∷ 2 ∷ []) 96154 ∷ memory (18758 ∷ 12888 ∷ 0 ∷ []) 96154
    ∷ memory (18758 ∷ 12888 ∷ 1 ∷ []) 96155 ∷ [])
    ≡ true ∷ true ∷ true ∷ []
unfolding is_prepared
standing = refl

-- not prepared: a word too few; another first word; another second word; a copy that is shorter; zeros; nothing
fallen : map (is_prepared (7 ∷ 8 ∷ [])) (memory (18758 ∷ 12888 ∷ 2 ∷ []) 96153 ∷ memory (18759 ∷ 12888 ∷ 2 ∷ []) 96154
    ∷ memory (18758 ∷ 12889 ∷ 2 ∷ []) 96154 ∷ memory (18758 ∷ 12888 ∷ 3 ∷ []) 96154 ∷ memory [] 96157 ∷ [] ∷ [])
    ≡ false ∷ false ∷ false ∷ false ∷ false ∷ false ∷ []
unfolding is_prepared
fallen = refl

-- header and trailer, both empty
abbrev least : List ℕ
least = 2 ∷ 0 ∷ 0 ∷ 7 ∷ 2 ∷ 1 ∷ 0 ∷ 7 ∷ []

-- the number, the copy, and the first words of the memory
abbrev told : Preparation → ℕ × List ℕ × List ℕ
told (prepared p copy words) = (number_of_preparing p, copy, take 3 words)

-- what passes is copied and headed; what is refused leaves both
checked : map (λ (c : Checked). told (by_check least (replicate 10 9) (replicate 96157 5) c)) (Passes ∷ Twice 3 ∷ [])
    ≡ (0, least ++ (9 ∷ 9 ∷ []), 18758 ∷ 12888 ∷ 8 ∷ []) ∷ (36, replicate 10 9, 5 ∷ 5 ∷ 5 ∷ []) ∷ []
unfolding by_check memory_for head_for number_of_preparing number_of_check
checked = refl

-- a dictionary, the copy, and the memory's length
abbrev Row : Type 0
Row = List ℕ × List ℕ × ℕ

-- "less than the dictionary's length and a fixed head is 23, before 30 to 37": the empty dictionary is refused by 32
answered : map (λ (row : Row). told (preparation row.0 row.1 (replicate row.2 5)))
    (([], [], 96156) ∷ (least, replicate 8 9, 96156) ∷ (least, replicate 7 9, 96157) ∷ ([], [], 96157) ∷ [])
    ≡ (23, [], 5 ∷ 5 ∷ 5 ∷ []) ∷ (23, replicate 8 9, 5 ∷ 5 ∷ 5 ∷ []) ∷ (23, replicate 7 9, 5 ∷ 5 ∷ 5 ∷ []) ∷ (32, [], 5 ∷ 5 ∷ 5 ∷ []) ∷ []
unfolding preparation by_check number_of_preparing number_of_check check_of read_of answer_of too_long walked records_from records_within at_end present looks_in component_in no_names
answered = refl

-- "Numbers returned", and the value with each
abbrev answers : List Preparing
answers =
    Ready ∷ NoRoom ∷ Refused TooLong ∷ Refused (BadRecord 5) ∷ Refused (NoComponent 300) ∷ Refused (UnknownTag 4294967295) ∷ Refused (EmptyGroup 78)
    ∷ Refused (TooDeep 32) ∷ Refused (Twice 8) ∷ Refused (TooManyItems 147) ∷ []

numbers : map number_of_preparing answers ≡ 0 ∷ 23 ∷ 30 ∷ 31 ∷ 32 ∷ 33 ∷ 34 ∷ 35 ∷ 36 ∷ 37 ∷ []
unfolding number_of_preparing number_of_check
numbers = refl

values : map value_of_preparing answers ≡ 0 ∷ 0 ∷ 60000 ∷ 5 ∷ 300 ∷ 4294967295 ∷ 78 ∷ 32 ∷ 8 ∷ 147 ∷ []
unfolding value_of_preparing values_of_check
values = refl
