-- A built message is its records. They are laid out as six words each, one behind the other; what a function does to the words is told
-- by what it does to the list of records, and words that make no whole record stay.
use Rattle.std.specs.Prelude.{ℕ, zero, suc, ◌+◌, ◌-◌, List, [], ◌∷◌, ◌++◌, length, get_or, take, drop, set, eqb, ltb, leb, Option, Some, None}
use Rattle.field_rules.specs.Choice.{pick}
use Rattle.build_records.specs.declared.Record.{Record}

-- words to a record
abbrev pub stride : ℕ
stride = 6

-- the most records that reading may make: 1,024 fields, and the field that is one too many
abbrev pub record_room : ℕ
record_room = 1025

-- words for all of them
abbrev pub record_words : ℕ
record_words = 6150

-- "a record holds part (1 header, 2 body, 3 trailer), depth, entry number .., tag, and place and length of the value"
unfoldable pub laid : List Record → List ℕ
laid [] = []
laid (r ∷ rs) = r.part ∷ r.depth ∷ r.number ∷ r.tag ∷ r.place ∷ r.length ∷ laid rs

-- the records that words hold
unfoldable pub records_of : List ℕ → List Record
records_of (a ∷ b ∷ c ∷ d ∷ e ∷ f ∷ ws) = record { part = a; depth = b; number = c; tag = d; place = e; length = f } ∷ records_of ws
records_of (a ∷ b ∷ c ∷ d ∷ e ∷ []) = []
records_of (a ∷ b ∷ c ∷ d ∷ []) = []
records_of (a ∷ b ∷ c ∷ []) = []
records_of (a ∷ b ∷ []) = []
records_of (a ∷ []) = []
records_of [] = []

-- words at the end that make no whole record
unfoldable pub leftover : List ℕ → List ℕ
leftover (a ∷ b ∷ c ∷ d ∷ e ∷ f ∷ ws) = leftover ws
leftover (a ∷ b ∷ c ∷ d ∷ e ∷ []) = a ∷ b ∷ c ∷ d ∷ e ∷ []
leftover (a ∷ b ∷ c ∷ d ∷ []) = a ∷ b ∷ c ∷ d ∷ []
leftover (a ∷ b ∷ c ∷ []) = a ∷ b ∷ c ∷ []
leftover (a ∷ b ∷ []) = a ∷ b ∷ []
leftover (a ∷ []) = a ∷ []
leftover [] = []

-- a change of the records, as a change of the words that hold them
unfoldable pub on_records : (List Record → List Record) → List ℕ → List ℕ
on_records change words = laid (change (records_of words)) ++ leftover words

abbrev pub blank : Record
blank = record { part = 0; depth = 0; number = 0; tag = 0; place = 0; length = 0 }

-- behind the records there are only blank ones
unfoldable pub record_at : ℕ → List Record → Record
record_at i rs = get_or rs i blank

-- "storing a held tag replaces the value and keeps the position"
unfoldable pub replaced : ℕ → Record → List Record → List Record
replaced i r rs = set rs i r

-- a record comes first, and so many move one to the right, over the one behind them
unfoldable pub pushed : ℕ → Record → List Record → List Record
pushed k r [] = []
pushed zero r (x ∷ rs) = r ∷ rs
pushed (suc k) r (x ∷ rs) = r ∷ pushed k x rs

-- a record comes in before record i of n, where there is room
unfoldable pub inserted : ℕ → ℕ → Record → List Record → List Record
inserted n i r rs = pick (leb i n) (pick (ltb n (length rs)) (take i rs ++ pushed (n - i) r (drop i rs)) rs) rs

-- so many records move k to the left
unfoldable pub pulled : ℕ → ℕ → List Record → List Record
pulled zero k rs = rs
pulled (suc m) k [] = []
pulled (suc m) k (x ∷ rs) = record_at k (x ∷ rs) ∷ pulled m k rs

-- "removing keeps order": k records from record i of n on go, and what lies past the others stays
unfoldable pub removed : ℕ → ℕ → ℕ → List Record → List Record
removed n i k rs = pick (leb n (length rs)) (pick (leb k n) (take i rs ++ pulled (n - k - i) k (drop i rs)) rs) rs

-- the records from one index to another
unfoldable pub between : ℕ → ℕ → List Record → List Record
between from to rs = take (to - from) (drop from rs)

-- the first record of a depth and a tag, where the first of all stands at a place
unfoldable pub held_from : ℕ → ℕ → ℕ → List Record → Option ℕ
held_from at depth tag [] = None
held_from at depth tag (r ∷ rs) = pick (eqb r.depth depth) (pick (eqb r.tag tag) (Some at) (held_from (at + 1) depth tag rs)) (held_from (at + 1) depth tag rs)

-- a record where one is held already, or put in where none is
unfoldable pub stored_at : ℕ → ℕ → Record → Option ℕ → List Record → List Record
stored_at n to r (Some i) rs = replaced i r rs
stored_at n to r None rs = inserted n to r rs

-- a map's records stand from one index to another: a record of a depth and tag that they hold is replaced, a new one comes behind them
unfoldable pub stored_between : ℕ → ℕ → ℕ → Record → List Record → List Record
stored_between n from to r rs = stored_at n to r (held_from from r.depth r.tag (between from to rs)) rs

-- "Fields in order of first storing; storing a held tag replaces the value and keeps the position": the same for the map's own records
unfoldable pub stored : Record → List Record → List Record
stored r [] = r ∷ []
stored r (x ∷ rs) = pick (eqb x.depth r.depth) (pick (eqb x.tag r.tag) (r ∷ rs) (x ∷ stored r rs)) (x ∷ stored r rs)

-- the bytes of a record's value
unfoldable pub value_at : List ℕ → Record → List ℕ
value_at bytes r = take r.length (drop r.place bytes)
