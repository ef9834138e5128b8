-- The flat dictionary's records (RULES.md, Flat dictionary): "Each record is one byte of kind, then the body. Numbers low byte first."
use Rattle.std.specs.Prelude.{ℕ, ◌+◌, ◌*◌, List, [], ◌∷◌, Bool, true, false, length, take, drop, get_or, eqb, ltb, Option, Some, None}
use Rattle.field_rules.specs.Choice.{pick}
use Rattle.dictionary_rules.specs.declared.Record.{Record}
use Rattle.dictionary_rules.specs.declared.Record.TheVariants.{KnownTag, OpensComponent, OpensMessage, FieldItem, ComponentItem, OpensGroup, Closes}
use Rattle.dictionary_rules.specs.declared.RecordRead.{RecordRead}
use Rattle.dictionary_rules.specs.declared.RecordRead.TheVariants.{Whole, Bad, End}

-- "Numbers low byte first"
unfoldable pub low_first : List ℕ → ℕ
low_first [] = 0
low_first (b ∷ s) = b + 256 * low_first s

-- "Kinds (body length): 1 (4) .. 2 (2) .. 3 (8) .. 4 (5) .. 5 (3) .. 6 (5) .. 7 (0)"
unfoldable pub record_body_length : ℕ → ℕ
record_body_length kind =
    pick (eqb kind 1) 4
    (pick (eqb kind 2) 2
    (pick (eqb kind 3) 8
    (pick (eqb kind 4) 5
    (pick (eqb kind 5) 3
    (pick (eqb kind 6) 5
    0)))))

-- a tag is not 0
unfoldable pub with_tag : ℕ → Record → Option Record
with_tag tag r = pick (eqb tag 0) None (Some r)

-- "required 0 or 1"
unfoldable pub with_mark : ℕ → Option Record → Option Record
with_mark mark body = pick (ltb 1 mark) None body

-- no byte but zero comes after a zero; `ended` says whether one has come
unfoldable pub zero_filled : Bool → List ℕ → Bool
zero_filled ended [] = true
zero_filled ended (b ∷ s) = pick (eqb b 0) (zero_filled true s) (pick ended false (zero_filled false s))

-- "1 (4) a known tag"
unfoldable pub known_tag : List ℕ → Option Record
known_tag body = with_tag (low_first (take 4 body)) (KnownTag (low_first (take 4 body)))

-- "2 (2) component opens: its number"
unfoldable pub opens_component : List ℕ → Option Record
opens_component body = Some (OpensComponent (low_first (take 2 body)))

-- "3 (8) message opens: MsgType of 1 to 8 bytes, zero-filled"
unfoldable pub opens_message : List ℕ → Option Record
opens_message body =
    pick (eqb (get_or body 0 0) 0) None (pick (zero_filled false body) (Some (OpensMessage (low_first (take 8 body)))) None)

-- "4 (5) field item: tag, required 0 or 1"
unfoldable pub field_item_lem : List ℕ → Option Record
field_item_lem body = with_mark (get_or body 4 0) (with_tag (low_first (take 4 body)) (FieldItem (low_first (take 4 body)) (eqb (get_or body 4 0) 1)))

-- "5 (3) component item: number, required"
unfoldable pub component_item_lem : List ℕ → Option Record
component_item_lem body = with_mark (get_or body 2 0) (Some (ComponentItem (eqb (get_or body 2 0) 1) (low_first (take 2 body))))

-- "6 (5) group opens: tag, required"
unfoldable pub opens_group : List ℕ → Option Record
opens_group body = with_mark (get_or body 4 0) (with_tag (low_first (take 4 body)) (OpensGroup (low_first (take 4 body)) (eqb (get_or body 4 0) 1)))

-- "7 (0) closes the innermost open thing"; any other kind is bad
unfoldable pub record_body : ℕ → List ℕ → Option Record
record_body kind body =
    pick (eqb kind 1) (known_tag body)
    (pick (eqb kind 2) (opens_component body)
    (pick (eqb kind 3) (opens_message body)
    (pick (eqb kind 4) (field_item_lem body)
    (pick (eqb kind 5) (component_item_lem body)
    (pick (eqb kind 6) (opens_group body)
    (pick (eqb kind 7) (Some Closes) None))))))

-- a record whose body is good is whole
unfoldable pub with_body : ℕ → Option Record → RecordRead
with_body next None = Bad
with_body next (Some r) = Whole r next

-- a body that the dictionary's end cuts is bad
unfoldable pub with_kind : ℕ → ℕ → List ℕ → RecordRead
with_kind place kind rest =
    pick (ltb (length rest) (record_body_length kind)) Bad (with_body (place + 1 + record_body_length kind) (record_body kind (take (record_body_length kind) rest)))

-- the record at the start of what is left of the dictionary from a place on
unfoldable pub record_from : ℕ → List ℕ → RecordRead
record_from place [] = End
record_from place (kind ∷ rest) = with_kind place kind rest

-- the record that starts at a place of the dictionary
unfoldable pub record_at : List ℕ → ℕ → RecordRead
record_at dictionary place = record_from place (drop place dictionary)
