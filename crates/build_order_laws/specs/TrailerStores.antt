-- The trailer as it is read: each field up to the first tag 10, or until none can be read, is stored. All its records stand outside
-- groups.
use Rattle.std.proofs.Math.Path.{◌≡◌}
use Rattle.std.specs.Prelude.{refl, Bool, true, false, List, ℕ, zero, suc, eqb, Option, Some, None}
use Rattle.std.proofs.Common.{arith, eqb-true}
use Rattle.field_rules.specs.Choice.{pick}
use Rattle.field_rules.specs.Fields.{Fields, unreadable, field}
use Rattle.field_rules.specs.declared.Cause.{Cause}
use Rattle.field_rules.specs.declared.Field.{Field}
use Rattle.build_records.specs.Records.{stored}
use Rattle.build_records.specs.declared.Record.{Record}
use Rattle.build_nesting_laws.specs.Entries.{All, all-stored}
use Rattle.build_nesting_laws.specs.Formed.{Own}
use Rattle.build_parts.specs.Parts.{part_record}
use Rattle.build_parts.specs.Trailer.{Trailer, stopped, unstopped, crowded, trailer_from}
use Rattle.message_read_laws.specs.PartReading.{own-field}
use Rattle.build_order_laws.specs.Follows.{Stores}
use Rattle.build_order_laws.specs.Counted.{trailer_fields}
use Rattle.build_order_laws.specs.StoresLaws.{stores_none, stores_then, stores_field}

-- where the trailer stops: at a field with tag 10, or where no field can be read
pub data Last : Option Field → Fields → Type 0 where
  at-stop : {f : Field} {rest : Fields} → f.tag ≡ 10 → Last (Some f) (field f rest)
  at_end : {cause : Cause} {place : ℕ} → Last None (unreadable cause place)

-- a trailer that was read, with what stopped it
unfoldable pub trailer_at : Option Field → List Record → Trailer
trailer_at (Some f) rs = stopped f rs
trailer_at None rs = unstopped rs

pub record TrailerStores (fields : Fields) (room : ℕ) (rs : List Record) (stop : Option Field) (ts : List Record) : Type 0 where
  pub last : Fields
  pub is_last : Last stop last
  pub left : ℕ
  pub stores : Stores 3 fields room rs last (suc left) ts
  pub counted : stores.read ≡ trailer_fields fields

pub not_crowded : (stop : Option Field) (ts : List Record) → crowded ≡ trailer_at stop ts → ⊥
unfolding trailer_at
not_crowded (Some f) ts e = let z : ◌≡◌ {A = ℕ} 0 1 = cc in omega arith
not_crowded None ts e = let z : ◌≡◌ {A = ℕ} 0 1 = cc in omega arith

-- a field more was read before
one-before : {g : Field} {more : Fields} {room : ℕ} {rs : List Record} {stop : Option Field} {ts : List Record} → eqb g.tag 10 ≡ false → TrailerStores more room (stored (part_record 3 g) rs) stop ts → TrailerStores (field g more) (suc room) rs stop ts
unfolding trailer_fields
one-before {g} {more} {room} {rs} {stop} {ts} other t =
    let s : Stores 3 (field g more) (suc room) rs t.last (suc t.left) ts = stores_then stores_field t.stores in
    record { last = t.last; is_last = t.is_last; left = t.left; stores = s; counted = rw other (omega (arith, t.counted, t.stores.room_is, s.room_is)) }

stops-here : {g : Field} {more : Fields} {room : ℕ} {rs : List Record} (stop : Option Field) {ts : List Record} → eqb g.tag 10 ≡ true → stopped g rs ≡ trailer_at stop ts → TrailerStores (field g more) (suc room) rs stop ts
unfolding trailer_at trailer_fields
stops-here {g} {more} {room} {rs} (Some f) {ts} ten e =
    let a : g ≡ f = cc in
    let d : rs ≡ ts = cc in
    let s : Stores 3 (field g more) (suc room) rs (field g more) (suc room) rs = stores_none in
    rw (← a, ← d) (record { last = field g more; is_last = at-stop (eqb-true _ _ ten); left = room; stores = s; counted = rw ten (omega (arith, s.room_is)) })
stops-here None ten e = let z : ◌≡◌ {A = ℕ} 0 1 = cc in absurd (omega arith)

ends-here : {cause : Cause} {place : ℕ} {room : ℕ} {rs : List Record} (stop : Option Field) {ts : List Record} → unstopped rs ≡ trailer_at stop ts → TrailerStores (unreadable cause place) (suc room) rs stop ts
unfolding trailer_at trailer_fields
ends-here (Some f) e = let z : ◌≡◌ {A = ℕ} 0 1 = cc in absurd (omega arith)
ends-here {cause} {place} {room} {rs} None {ts} e =
    let d : rs ≡ ts = cc in
    let s : Stores 3 (unreadable cause place) (suc room) rs (unreadable cause place) (suc room) rs = stores_none in
    rw (← d) (record { last = unreadable cause place; is_last = at_end; left = room; stores = s; counted = omega (arith, s.room_is) })

pub trailer_stores : (fields : Fields) (room : ℕ) (rs : List Record) (stop : Option Field) (ts : List Record) → trailer_from fields room rs ≡ trailer_at stop ts → TrailerStores fields room rs stop ts
unfolding trailer_from
trailer_stores (unreadable cause place) zero rs stop ts e = absurd (not_crowded stop ts e)
trailer_stores (unreadable cause place) (suc room) rs stop ts e = ends-here stop e
trailer_stores (field g more) zero rs stop ts e = absurd (not_crowded stop ts e)
trailer_stores (field g more) (suc room) rs stop ts e = by_tag (eqb g.tag 10) refl e (λ q. trailer_stores more room (stored (part_record 3 g) rs) stop ts q)
  where
    by_tag : (b : Bool) → eqb g.tag 10 ≡ b → pick b (stopped g rs) (trailer_from more room (stored (part_record 3 g) rs)) ≡ trailer_at stop ts
        → (trailer_from more room (stored (part_record 3 g) rs) ≡ trailer_at stop ts → TrailerStores more room (stored (part_record 3 g) rs) stop ts) → TrailerStores (field g more) (suc room) rs stop ts
    by_tag true ten q later = stops-here stop ten q
    by_tag false other q later = one-before other (later q)

-- the records are those that it was read with
module _ (rs ts : List Record) where
  pub stopped-with : (f : Field) (stop : Option Field) → stopped f rs ≡ trailer_at stop ts → rs ≡ ts
  unfolding trailer_at
  stopped-with f (Some g) e = cc
  stopped-with f None e = let z : ◌≡◌ {A = ℕ} 0 1 = cc in absurd (omega arith)

  pub unstopped-with : (stop : Option Field) → unstopped rs ≡ trailer_at stop ts → rs ≡ ts
  unfolding trailer_at
  unstopped-with (Some g) e = let z : ◌≡◌ {A = ℕ} 0 1 = cc in absurd (omega arith)
  unstopped-with None e = cc

-- "depth, entry number (both 0 outside groups)"
pub trailer-own : (fields : Fields) (room : ℕ) (rs : List Record) (stop : Option Field) (ts : List Record) → trailer_from fields room rs ≡ trailer_at stop ts → All (Own 0 0) rs → All (Own 0 0) ts
unfolding trailer_from
trailer-own (unreadable cause place) zero rs stop ts e a = absurd (not_crowded stop ts e)
trailer-own (unreadable cause place) (suc room) rs stop ts e a = let d = unstopped-with rs ts stop e in rw (← d) a
trailer-own (field g more) zero rs stop ts e a = absurd (not_crowded stop ts e)
trailer-own (field g more) (suc room) rs stop ts e a = by_tag (eqb g.tag 10) e (λ q. trailer-own more room (stored (part_record 3 g) rs) stop ts q (all-stored _ (part_record 3 g) (own-field 3 g) a))
  where
    by_tag : (b : Bool) → pick b (stopped g rs) (trailer_from more room (stored (part_record 3 g) rs)) ≡ trailer_at stop ts → (trailer_from more room (stored (part_record 3 g) rs) ≡ trailer_at stop ts → All (Own 0 0) ts) → All (Own 0 0) ts
    by_tag true q later = let d = stopped-with rs ts g stop q in rw (← d) a
    by_tag false q later = later q
