-- Prepared memory. The caller lends bytes for a copy of the dictionary's records and words for what they name and for tables; `prepare` fills both or
-- neither. Every content of both is an input of what reads through them: what a build sees there is `records_in`, `index_in` and `tables_in`, for any
-- content, and where the stamp or a length is wrong it sees nothing.
use Rattle.std.specs.Prelude.{ℕ, ◌+◌, List, ◌∷◌, ◌++◌, Bool, false, length, take, drop, get_or, replicate, eqb, leb, ltb}
use Rattle.field_rules.specs.Choice.{pick}
use Rattle.dictionary_chains.specs.Chain.{index_words}
use Rattle.dictionary_rules.specs.Check.{check_of, prepared_of, store_of, number_of_check, values_of_check}
use Rattle.dictionary_rules.specs.declared.Checked.{Checked}
use Rattle.dictionary_directory.specs.Directory.{lay_tables}
use Rattle.dictionary_prepared.specs.declared.Preparing.{Preparing}
use Rattle.dictionary_prepared.specs.declared.Preparing.TheVariants.{Ready, NoRoom, Refused}

-- the stamp: as bytes, low byte first, `FIX2`
abbrev pub first_stamp : ℕ
first_stamp = 18758

abbrev pub second_stamp : ℕ
second_stamp = 12888

-- the words in front of the index: the stamp, and the dictionary's length
abbrev pub front : ℕ
front = 3

-- words of memory at the least
abbrev pub head_words : ℕ
head_words = front + index_words

-- the head of prepared memory
unfoldable pub head_for : ℕ → List ℕ → List ℕ
head_for size index = first_stamp ∷ second_stamp ∷ size ∷ index

-- a dictionary was prepared there, as far as the stamp and the lengths tell
unfoldable pub is_prepared : List ℕ → List ℕ → Bool
is_prepared copy memory =
    pick (ltb (length memory) head_words) false
    (pick (eqb (get_or memory 0 0) first_stamp)
    (pick (eqb (get_or memory 1 0) second_stamp) (leb (get_or memory 2 0) (length copy)) false) false)

-- what is read through memory of any content: so many bytes of the copy, and the words behind the front
unfoldable pub records_in : List ℕ → List ℕ → List ℕ
records_in copy memory = take (get_or memory 2 0) copy

unfoldable pub index_in : List ℕ → List ℕ
index_in memory = take index_words (drop front memory)

-- and what stands behind the index
unfoldable pub tables_in : List ℕ → List ℕ
tables_in memory = drop head_words memory

-- the index that the check of a dictionary leaves
abbrev pub index_for : List ℕ → List ℕ
index_for dictionary = store_of (prepared_of dictionary (replicate index_words 0))

-- "The size of the memory changes the time and never an answer": tables are laid behind the head while there is room
unfoldable pub memory_for : List ℕ → List ℕ → List ℕ
memory_for dictionary memory = head_for (length dictionary) (index_for dictionary) ++ lay_tables dictionary (index_for dictionary) (drop head_words memory)

-- the answer, and what is left in the copy and in the memory
pub data Preparation : Type 0 where
  prepared : Preparing → List ℕ → List ℕ → Preparation

-- "on a refusal the memory is as it was"
unfoldable pub by_check : List ℕ → List ℕ → List ℕ → Checked → Preparation
by_check dictionary copy memory checked =
    pick (eqb (number_of_check checked) 0)
    (prepared Ready (dictionary ++ drop (length dictionary) copy) (memory_for dictionary memory))
    (prepared (Refused checked) copy memory)

-- "less than the dictionary's length and a fixed head is 23, before 30 to 37"
unfoldable pub preparation : List ℕ → List ℕ → List ℕ → Preparation
preparation dictionary copy memory =
    pick (ltb (length memory) head_words) (prepared NoRoom copy memory)
    (pick (ltb (length copy) (length dictionary)) (prepared NoRoom copy memory) (by_check dictionary copy memory (check_of dictionary)))

-- the answer, the copy and the memory, each by itself
unfoldable pub preparing_of : Preparation → Preparing
preparing_of (prepared preparing copy memory) = preparing

unfoldable pub copy_of : Preparation → List ℕ
copy_of (prepared preparing copy memory) = copy

unfoldable pub memory_of : Preparation → List ℕ
memory_of (prepared preparing copy memory) = memory

unfoldable pub number_of_preparing : Preparing → ℕ
number_of_preparing Ready = 0
number_of_preparing NoRoom = 23
number_of_preparing (Refused checked) = number_of_check checked

unfoldable pub value_of_preparing : Preparing → ℕ
value_of_preparing Ready = 0
value_of_preparing NoRoom = 0
value_of_preparing (Refused checked) = get_or (values_of_check checked) 0 0
