-- The tables of a dictionary's messages and of the tags of its header and trailer, laid one behind the other with a directory in front, so that one
-- look leads from the place of a message's record to its table. What stands in the words is not trusted: a block is taken for the place that it says.
use Rattle.std.specs.Prelude.{◌≡◌, ℕ, ◌+◌, ◌*◌, ◌/◌, List, [], ◌∷◌, ◌++◌, Bool, true, false, length, get_or, take, drop, set, replicate, eqb, leb, ltb, Option, Some, None}
use Rattle.field_rules.specs.Choice.{pick}
use Rattle.dictionary_layout_rules.specs.Layout.{Layout}
use Rattle.dictionary_layout_rules.specs.RowsLayout.{layout_in}
use Rattle.dictionary_tables_rules.specs.Laid.{table_size, table_of}
use Rattle.dictionary_tables_rules.specs.Tags.{fields_of}
use Rattle.dictionary_rules.specs.Records.{Records, ends, bad, whole, records_from}
use Rattle.dictionary_rules.specs.declared.Record.{Record}
use Rattle.dictionary_rules.specs.declared.Record.TheVariants.{KnownTag, OpensComponent, OpensMessage, FieldItem, ComponentItem, OpensGroup, Closes}
use Rattle.dictionary_meaning_rules.specs.MessageTable.{Tabling, tabling, placed_table}
use Rattle.dictionary_meaning_rules.specs.PlainTags.{Listing, listing, plain_tags}
use Rattle.dictionary_meaning_rules.specs.declared.MessageTable.TheVariants.{Rows, NoMessage, Unprepared}

-- bytes of the longest dictionary
abbrev pub longest : ℕ
longest = 60000

-- a word to each four bytes of a dictionary: the record that opens a message has nine, so no two messages share a word. Behind them stand one for the
-- header's tags and one for the trailer's, and then as many as make a whole stride
abbrev pub directory_words : ℕ
directory_words = 15008

-- blocks start at each eighth word, so that a word of the directory can say where
abbrev pub block_stride : ℕ
block_stride = 8

-- the word that leads to the tags of the header, which is component 0, or to those of the trailer, which is component 1
abbrev pub tags_slot : ℕ → ℕ
tags_slot number = 15000 + number

-- the place that their block says, at which no record of a dictionary stands
abbrev pub tags_place : ℕ → ℕ
tags_place number = longest + number

-- a block: how many words its table has, the place of the message's record, the table
unfoldable pub block_of : ℕ → Layout → List ℕ
block_of place layout = table_size layout ∷ place ∷ table_of layout

-- where a word of the directory says that a block starts
unfoldable pub block_at : List ℕ → ℕ → ℕ
block_at tables slot = block_stride * get_or tables slot 0

-- the table of the block at a word, if the block says the place and lies in the words; the first word is the directory's and starts none
unfoldable pub kept_in : List ℕ → ℕ → ℕ → Option (ℕ × ℕ)
kept_in tables place block =
    pick (eqb block 0) None
    (pick (ltb (length tables) (block + 2)) None
    (pick (eqb (get_or tables (block + 1) 0) place)
    (pick (ltb (length tables) (block + 2 + get_or tables block 0)) None (Some ((block + 2), (get_or tables block 0))))
    None))

-- the table of the message whose record stands at a place
unfoldable pub kept_at : List ℕ → ℕ → Option (ℕ × ℕ)
kept_at tables place =
    pick (ltb (length tables) directory_words) None
    (pick (leb longest place) None
    (kept_in tables place (block_at tables (place / 4))))

-- the table of the header's tags or of the trailer's
unfoldable pub tags_at : List ℕ → ℕ → Option (ℕ × ℕ)
tags_at tables number =
    pick (ltb (length tables) directory_words) None
    (pick (ltb 1 number) None
    (kept_in tables (tags_place number) (block_at tables (tags_slot number))))

-- the words of a table
unfoldable pub table_in : List ℕ → Option (ℕ × ℕ) → List ℕ
table_in tables (Some (from, size)) = take size (drop from tables)
table_in tables None = []

-- the words so far, and the first free one
pub data Filling : Type 0 where
  filling : List ℕ → ℕ → Filling

unfoldable pub words_of : Filling → List ℕ
words_of (filling tables free) = tables

-- the first word from one on at which a block may start
unfoldable pub next_block : ℕ → ℕ
next_block word = block_stride * ((word + 7) / block_stride)

-- the block is written over the first free words, and a word of the directory leads to it
unfoldable pub with_block : ℕ → ℕ → Layout → List ℕ → ℕ → List ℕ
with_block slot place layout tables free =
    set (take free tables ++ (block_of place layout ++ drop (free + 2 + table_size layout) tables)) slot (free / block_stride)

-- a table of so many words has room behind the others, and a word of the directory can lead to its block
unfoldable pub room_for : ℕ → ℕ → ℕ → Bool
room_for words free size = pick (ltb (free / block_stride) 65536) (leb (free + 2 + size) words) false

-- "laid while there is room": a block that doesn't fit, or that no word of the directory can lead to, is left out
unfoldable pub put_block : ℕ → ℕ → Layout → List ℕ → ℕ → Filling
put_block slot place layout tables free =
    pick (room_for (length tables) free (table_size layout))
    (filling (with_block slot place layout tables free) (next_block (free + 2 + table_size layout)))
    (filling tables free)

-- the tags that were listed, or none
unfoldable pub listed_tags : Listing → List ℕ
listed_tags (listing (Some count) tags) = take count tags
listed_tags (listing None tags) = []

-- "the plain field items directly in components 0 and 1"
unfoldable pub tags_listed : List ℕ → List ℕ → ℕ → List ℕ
tags_listed d index number = listed_tags (plain_tags d index number (replicate 1024 0))

-- the tags of a component, as a layout of plain fields
unfoldable pub lay_listed : List ℕ → List ℕ → ℕ → Filling → Filling
lay_listed d index number (filling tables free) =
    put_block (tags_slot number) (tags_place number) (fields_of (tags_listed d index number)) tables free

-- rows of a message, if there are some
unfoldable pub put_rows : ℕ → Tabling → List ℕ → ℕ → Filling
put_rows place (tabling (Rows count) rows) tables free = put_block (place / 4) place (layout_in rows count) tables free
put_rows place (tabling NoMessage rows) tables free = filling tables free
put_rows place (tabling Unprepared rows) tables free = filling tables free

-- the message whose record stands at a place
unfoldable pub lay_message : List ℕ → List ℕ → ℕ → Filling → Filling
lay_message d index place (filling tables free) =
    pick (leb longest place) (filling tables free) (put_rows place (placed_table d index (Some place) (replicate 4096 0)) tables free)

unfoldable pub is_message : Record → Bool
is_message (OpensMessage msg_type) = true
is_message (KnownTag tag) = false
is_message (OpensComponent number) = false
is_message (FieldItem tag required) = false
is_message (ComponentItem required number) = false
is_message (OpensGroup tag required) = false
is_message Closes = false

-- the places of the records that open a message, in their order; a record that can't be read ends them
unfoldable pub messages_among : Records → List ℕ
messages_among (ends size) = []
messages_among (bad place) = []
messages_among (whole place r rest) = pick (is_message r) (place ∷ messages_among rest) (messages_among rest)

-- of the records from a place on
unfoldable pub messages_from : List ℕ → ℕ → List ℕ
messages_from d at = messages_among (records_from d at)

-- one message after the other
unfoldable pub lay_messages : List ℕ → List ℕ → List ℕ → Filling → Filling
lay_messages d index [] sofar = sofar
lay_messages d index (place ∷ places) sofar = lay_messages d index places (lay_message d index place sofar)

-- a directory that leads nowhere
unfoldable pub clear_directory : List ℕ → List ℕ
clear_directory tables = replicate directory_words 0 ++ drop directory_words tables

-- the header's tags behind the directory, then the trailer's, then all messages of a dictionary
unfoldable pub lay_tables : List ℕ → List ℕ → List ℕ → List ℕ
lay_tables d index tables =
    pick (ltb (length tables) directory_words) tables
    (words_of (lay_messages d index (messages_from d 0) (lay_listed d index 1 (lay_listed d index 0 (filling (clear_directory tables) directory_words)))))

-- ===== a table by itself =====

-- words of the largest table: nine, and 14 to each of 1,024 items
abbrev pub table_words : ℕ
table_words = 14345

-- words of the largest table of tags
abbrev pub tag_words : ℕ
tag_words = 5249

-- how many words the table has that is laid by itself
unfoldable pub laid_alone : Tabling → Option (ℕ × ℕ)
laid_alone (tabling (Rows count) rows) = Some (0, (table_size (layout_in rows count)))
laid_alone (tabling NoMessage rows) = None
laid_alone (tabling Unprepared rows) = None

-- and what it leaves of the words that it is laid over
unfoldable pub laid_over : Tabling → List ℕ → List ℕ
laid_over (tabling (Rows count) rows) table = table_of (layout_in rows count) ++ drop (table_size (layout_in rows count)) table
laid_over (tabling NoMessage rows) table = table
laid_over (tabling Unprepared rows) table = table

-- a table stands in the first of words that were used before: what lies behind it is left open
abbrev pub LaidFirst : Tabling → List ℕ → Type 0
LaidFirst told words = (before : List ℕ) × (length before ≡ table_words) × (words ≡ laid_over told before)
