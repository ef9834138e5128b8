-- The index: three heads tables of 2,048 words, then entries of six words: its two branches, and four words of its table. An entry's
-- number says the place of its record. Keys that share a head hang in one tree, which branches by the bits of what is left of them.
-- Entry 0 is none.
use Rattle.std.specs.Prelude.{ℕ, zero, suc, ◌+◌, ◌-◌, ◌*◌, ◌/◌, ◌%◌, Bool, false, List, get_or, set, eqb, leb, ltb}
use Rattle.field_rules.specs.Choice.{pick}
use Rattle.dictionary_chains.specs.declared.Table.{Table}
use Rattle.dictionary_chains.specs.declared.Table.TheVariants.{Tags, Components, MsgTypes}
use Rattle.dictionary_chains.specs.declared.Entry.{Entry}
use Rattle.dictionary_chains.specs.declared.Way.{Way}

-- words of heads, of all three tables
abbrev pub head_words : ℕ
head_words = 6144

-- an entry of a number starts here: six words behind that of a number four below
abbrev pub entry_start : ℕ → ℕ
entry_start number = head_words + number + number / 2

-- an entry is numbered by its record's place: no two top_level records start within four bytes, so no two entries share a word, nor one with entry 0
unfoldable pub number_at : ℕ → ℕ
number_at place = place + 4

-- numbers are below this: places are below 60,000
abbrev pub entry_room : ℕ
entry_room = 60004

-- words of an index
abbrev pub index_words : ℕ
index_words = 96154

-- a tag is two words, a component's number one, a MsgType four, low word first
unfoldable pub key_of : Table → Entry → ℕ
key_of Tags e = e.first + 65536 * e.second
key_of Components e = e.first
key_of MsgTypes e = e.first + 65536 * e.second + 4294967296 * (e.third + 65536 * e.fourth)

unfoldable pub rank_of : Table → ℕ
rank_of Tags = 0
rank_of Components = 1
rank_of MsgTypes = 2

-- the word that leads to the tree of a key
unfoldable pub head_of : Table → ℕ → ℕ
head_of table key = 2048 * rank_of table + key % 2048

unfoldable pub word_at : List ℕ → ℕ → ℕ → ℕ
word_at index number k = get_or index (entry_start number + k) 0

unfoldable pub entry_at : List ℕ → ℕ → Entry
entry_at index number =
    record {
      place = number - 4;
      first = word_at index number 2;
      second = word_at index number 3;
      third = word_at index number 4;
      fourth = word_at index number 5;
    }

-- the entry that a word leads to, `entry_room` where it leads to none: its link must rise above the entry that the word belongs to,
-- `low`, so every way ends
unfoldable pub link_at : List ℕ → ℕ → ℕ → ℕ
link_at index low cell = pick (leb (get_or index cell 0) low) entry_room (get_or index cell 0)

-- the branch that what is left of a key takes
unfoldable pub branch_of : ℕ → ℕ → ℕ
branch_of number rest = entry_start number + rest % 2

-- where a way ends: the word that leads on from there, and the number of the entry with the key, or 0
abbrev pub ends : ℕ → ℕ → Way
ends cell number = record { cell = cell; number = number }

-- keys of a table are below this: a tag has 32 bits, a component's number 16, a MsgType 64
unfoldable pub key_room : Table → ℕ
key_room Tags = 4294967296
key_room Components = 65536
key_room MsgTypes = 18446744073709551616

-- eleven bits of a key choose its head, and each of the others a turn
unfoldable pub most_turns : Table → ℕ
most_turns Tags = 21
most_turns Components = 5
most_turns MsgTypes = 53

-- keys of a table that share a head and took so many turns together are the same: an entry with another key was never entered there
unfoldable pub strayed : Table → ℕ → ℕ → ℕ → Bool
strayed table turns met key = pick (leb (most_turns table) turns) (pick (ltb met (key_room table)) (ltb key (key_room table)) false) false

-- from a link on that is come to after so many turns, looking at so many entries at most
unfoldable pub climbed : ℕ → Table → List ℕ → ℕ → ℕ → ℕ → ℕ → ℕ → Way
climbed zero table index key turns cell rest link = ends cell 0
climbed (suc looks) table index key turns cell rest link =
    pick (ltb link entry_room)
    (pick (eqb (key_of table (entry_at index link)) key) (ends cell link)
    (pick (strayed table turns (key_of table (entry_at index link)) key) (ends cell 0)
    (climbed looks table index key (suc turns) (branch_of link rest) (rest / 2) (link_at index link (branch_of link rest)))))
    (ends cell 0)

-- no way passes more entries than there are
unfoldable pub followed : Table → List ℕ → ℕ → ℕ → ℕ → ℕ → ℕ → Way
followed table index key turns cell rest link = climbed entry_room table index key turns cell rest link

unfoldable pub way_of : Table → List ℕ → ℕ → Way
way_of table index key = followed table index key 0 (head_of table key) (key / 2048) (link_at index 0 (head_of table key))

-- the number of the entry with a key, and 0 where there is none
unfoldable pub found : Table → List ℕ → ℕ → ℕ
found table index key = (way_of table index key).number

-- what an entry holds beside its branches
unfoldable pub written : List ℕ → ℕ → Entry → List ℕ
written index number e =
    set (set (set (set index (entry_start number + 2) e.first) (entry_start number + 3) e.second) (entry_start number + 4) e.third)
    (entry_start number + 5) e.fourth

-- a word leads to a new entry, that has no branches yet
unfoldable pub branched : List ℕ → ℕ → ℕ → List ℕ
branched index cell number = set (set (set index (entry_start number) 0) (entry_start number + 1) 0) cell number

-- a key that was entered before keeps its entry as it is
unfoldable pub entered_at : List ℕ → Way → Entry → List ℕ
entered_at index way e =
    pick (eqb way.number 0)
    (written (branched index way.cell (number_at e.place)) (number_at e.place) e)
    index

unfoldable pub entered : Table → List ℕ → Entry → List ℕ
entered table index e = pick (leb 60000 e.place) index (entered_at index (way_of table index (key_of table e)) e)
