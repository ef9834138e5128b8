-- Taking over what a build answered: from records and the bytes that they point into to a lent message, or 27 where they are none.
-- "Records .. stand in part and map order, each count followed by its entries. .. A record holds part (1 header, 2 body, 3 trailer), depth,
-- entry number (both 0 outside groups, else from 1), tag, and place and length of the value."
use Rattle.std.specs.Prelude.{ℕ, zero, suc, ◌+◌, ◌-◌, Bool, true, false, List, [], ◌∷◌, ◌++◌, length, eqb, leb, Option, Some, None}
use Rattle.field_rules.specs.Choice.{pick}
use Rattle.build_records.specs.Records.{records_of, record_at, between, value_at}
use Rattle.build_records.specs.declared.Record.{Record}
use Rattle.message_maps.specs.Rows.{Row, row, flat, padded, message_words}
use Rattle.message_lent_rules.specs.Lent.{is_message}
use Rattle.message_take_over.specs.declared.Taken.{Taken}
use Rattle.message_take_over.specs.declared.Taken.TheVariants.{Made, NoMessage}
use Rattle.message_take_over.specs.declared.Joins.{Joins}
use Rattle.message_take_over.specs.declared.Joins.TheVariants.{Open, Entry, Nowhere}

-- The rules' number for each answer
unfoldable pub number_of_taken : Taken → ℕ
number_of_taken Made = 0
number_of_taken NoMessage = 27

-- the records before an index, the nearest first
unfoldable pub records_before : ℕ → List Record → List Record
records_before zero rs = []
records_before (suc i) rs = record_at i rs ∷ records_before i rs

-- the nearest that stands no deeper than a depth
unfoldable pub nearest_in : ℕ → List Record → Option Record
nearest_in depth [] = None
nearest_in depth (r ∷ before) = pick (leb r.depth depth) (Some r) (nearest_in depth before)

-- a new entry belongs to the run on the count that was read last
unfoldable pub on_count : Option Record → Joins
on_count None = Nowhere
on_count (Some count) = Entry count.tag

-- behind a record of the same depth: in the same entry, or first in the next one of the run
unfoldable pub joins_in_run : List Record → ℕ → Record → Joins
joins_in_run before number r =
    pick (eqb r.number number) Open
    (pick (eqb r.number (number + 1)) (on_count (nearest_in (r.depth - 1) before)) Nowhere)

-- behind a record that is one depth higher: first in the first entry of the run that hangs on it
unfoldable pub joins_on_count : Record → Record → Joins
joins_on_count count r = pick (eqb r.depth (count.depth + 1)) (pick (eqb r.number 1) (Entry count.tag) Nowhere) Nowhere

unfoldable pub joins_behind : List Record → Record → Option Record → Joins
joins_behind before r None = Nowhere
joins_behind before r (Some q) =
    pick (eqb q.part r.part) (pick (eqb q.depth r.depth) (joins_in_run before q.number r) (joins_on_count q r)) Nowhere

-- where a record belongs, by those before it; depth 0 is the part's own map
unfoldable pub joins_of : List Record → Record → Joins
joins_of before r = pick (eqb r.depth 0) (pick (eqb r.number 0) Open Nowhere) (joins_behind before r (nearest_in r.depth before))

unfoldable pub is_joined : Joins → Bool
is_joined Open = true
is_joined (Entry start) = true
is_joined Nowhere = false

-- the value lies in bytes of a size, and "8,192 bytes" of values are not passed
unfoldable pub has_room : ℕ → ℕ → Record → Bool
has_room size used r = pick (leb (r.place + r.length) size) (leb (used + r.length) 8192) false

-- a record may come next: no part before the one that is open, nor a fourth; room for its value; a map that it belongs in
unfoldable pub is_next : ℕ → ℕ → ℕ → List Record → Record → Bool
is_next size part used before r =
    pick (leb part r.part)
    (pick (leb r.part 3) (pick (has_room size used r) (is_joined (joins_of before r)) false) false)
    false

unfoldable pub are_next : ℕ → ℕ → ℕ → List Record → List Record → Bool
are_next size part used before [] = true
are_next size part used before (r ∷ rs) =
    pick (is_next size part used before r) (are_next size r.part (used + r.length) (r ∷ before) rs) false

-- so many heads, of the parts behind one
unfoldable pub part_heads : ℕ → ℕ → List Row
part_heads zero part = []
part_heads (suc n) part = row 2 0 (part + 1) 0 ∷ part_heads n (part + 1)

-- an entry's head has the run's start tag, and for a delimiter the tag of its first record
unfoldable pub own_rows : Joins → Record → List Row
own_rows Open r = row 1 (r.depth + 1) r.tag r.length ∷ []
own_rows (Entry start) r = row 2 r.depth start r.tag ∷ row 1 (r.depth + 1) r.tag r.length ∷ []
own_rows Nowhere r = []

-- the rows of a record: the heads that are new, and its own
unfoldable pub record_rows : ℕ → Joins → Record → List Row
record_rows part joined r = part_heads (r.part - part) part ++ own_rows joined r

unfoldable pub rows_behind : ℕ → List Record → List Record → List Row
rows_behind part before [] = part_heads (3 - part) part
rows_behind part before (r ∷ rs) = record_rows part (joins_of before r) r ++ rows_behind r.part (r ∷ before) rs

unfoldable pub rows_of : List Record → List Row
rows_of rs = row 2 0 1 0 ∷ rows_behind 1 [] rs

unfoldable pub values_at : List ℕ → List Record → List ℕ
values_at bytes [] = []
values_at bytes (r ∷ rs) = value_at bytes r ++ values_at bytes rs

-- words and values, where each record may come next
pub data Layout : Type 0 where
  laid_out : List ℕ → List ℕ → Layout
  no_records : Layout

unfoldable pub layout_from : List ℕ → List Record → Layout
layout_from bytes rs =
    pick (are_next (length bytes) 1 0 [] rs)
    (laid_out (padded message_words (length (rows_of rs) ∷ flat (rows_of rs))) (padded 8192 (values_at bytes rs)))
    no_records

-- what the call answers, and what it leaves of words and values
pub data AfterTaking : Type 0 where
  after : Taken → List ℕ → List ℕ → AfterTaking

-- "27 .. message breaking module 2"; what is refused leaves everything as it was
unfoldable pub judged : List ℕ → List ℕ → Layout → AfterTaking
judged words values no_records = after NoMessage words values
judged words values (laid_out new_words new_values) = pick (is_message new_words new_values) (after Made new_words new_values) (after NoMessage words values)

-- no more records than there are, and no more than 1,024 fields
unfoldable pub taking_over : List ℕ → ℕ → List ℕ → List ℕ → List ℕ → AfterTaking
taking_over records count bytes words values =
    pick (eqb (length words) message_words)
    (pick (eqb (length values) 8192)
    (pick (leb count (length (records_of records)))
    (pick (leb count 1024) (judged words values (layout_from bytes (between 0 count (records_of records)))) (after NoMessage words values))
    (after NoMessage words values))
    (after NoMessage words values))
    (after NoMessage words values)
