-- Storing field by field: what was read and stored in two goes was read and stored, and each way to keep a record adds one at the most,
-- last of all where it adds one.
use Rattle.std.specs.Prelude.{◌≡◌, refl, Bool, true, false, List, [], ◌∷◌, ◌++◌, ℕ, suc, ◌+◌, ◌≤◌, length, take, drop, eqb}
use Rattle.std.proofs.Common.{sym, ap, ◌∙◌, append_assoc, append-nil, arith, length-append, take-append-drop}
use Rattle.field_rules.specs.Choice.{pick}
use Rattle.field_rules.specs.Fields.{Fields, field}
use Rattle.field_rules.specs.declared.Field.{Field}
use Rattle.build_records.specs.Records.{stored}
use Rattle.build_records.specs.declared.Record.{Record}
use Rattle.build_group_rules.specs.Reading.{joined_list}
use Rattle.build_parts.specs.Parts.{part_record}
use Rattle.message_read_laws.specs.Counting.{Of}
use Rattle.message_read_laws.specs.PartReading.{of_field}
use Rattle.build_order_laws.specs.Follows.{Follows, no_field, one_field, Reaches, here, further, Ordered, Stores}

pub follows_then : {part : ℕ} {fields middle last : Fields} {rs ss : List Record} → Follows part fields rs middle → Follows part middle ss last → Follows part fields (rs ++ ss) last
follows_then no_field b = b
follows_then (one_field r o a) b = one_field r o (follows_then a b)

counted_as : {fields last : Fields} {n m : ℕ} → n ≡ m → Reaches fields n last → Reaches fields m last
counted_as e r = rw (← e) r

pub reaches_then : {fields middle last : Fields} {n m : ℕ} → Reaches fields n middle → Reaches middle m last → Reaches fields (n + m) last
reaches_then here b = counted_as (omega arith) b
reaches_then (further a) b = counted_as (omega arith) (further (reaches_then a b))

-- nothing was read
pub stores_none : {part : ℕ} {fields : Fields} {room : ℕ} {rs : List Record} → Stores part fields room rs fields room rs
stores_none {rs = rs} =
    record { read = 0; reaches = here; room_is = omega arith; at_most = omega arith; ordered = λ e. record { new = []; appended = sym (append-nil rs); follows = no_field } }

pub stores_same : {part : ℕ} {f g : Field} {rest more : Fields} {room left : ℕ} {rs ss : List Record} → f ≡ g → rest ≡ more → room ≡ left → rs ≡ ss → Stores part (field f rest) (suc room) rs (field g more) (suc left) ss
stores_same a b c d = rw (← a, ← b, ← c, ← d) stores_none

-- reading went on
pub stores_then : {part : ℕ} {fields middle last : Fields} {room left end : ℕ} {rs ss ts : List Record} → Stores part fields room rs middle left ss → Stores part middle left ss last end ts → Stores part fields room rs last end ts
stores_then {part} {fields} {middle} {last} {rs = rs} {ss = ss} {ts = ts} a b =
    record {
      read = a.read + b.read;
      reaches = reaches_then a.reaches b.reaches;
      room_is = omega (arith, a.room_is, b.room_is);
      at_most = omega (arith, a.at_most, b.at_most);
      ordered = λ e. both (a.ordered (omega (arith, a.at_most, b.at_most))) (b.ordered (omega (arith, a.at_most, b.at_most)));
    }
  where
    both : Ordered part fields rs middle ss → Ordered part middle ss last ts → Ordered part fields rs last ts
    both o p =
        record { new = o.new ++ p.new; appended = p.appended ∙ ap (λ (l : List Record). l ++ p.new) o.appended ∙ append_assoc rs o.new p.new; follows = follows_then o.follows p.follows }

-- records are kept behind others: no more than those, and where each of them stands anew, they stand last
pub record Keeps (new rs ss : List Record) : Type 0 where
  pub no_more : length ss ≤ length rs + length new
  pub last : length ss ≡ length rs + length new → ss ≡ rs ++ new

pub keeps_last : (r : Record) (rs : List Record) → Keeps (r ∷ []) rs (rs ++ (r ∷ []))
keeps_last r rs = record { no_more = omega (arith, length-append rs (r ∷ [])); last = λ e. refl }

pub keeps_stored : (r : Record) (rs : List Record) → Keeps (r ∷ []) rs (stored r rs)
unfolding stored
keeps_stored r [] = record { no_more = omega arith; last = λ e. refl }
keeps_stored r (x ∷ rs) = by_tests (eqb x.depth r.depth) (eqb x.tag r.tag) (keeps_stored r rs)
  where
    later : Keeps (r ∷ []) rs (stored r rs) → Keeps (r ∷ []) (x ∷ rs) (x ∷ stored r rs)
    later k = record { no_more = omega (arith, k.no_more); last = λ e. ap (λ (l : List Record). x ∷ l) (k.last (omega arith)) }

    by_tests : (d t : Bool) → Keeps (r ∷ []) rs (stored r rs) → Keeps (r ∷ []) (x ∷ rs) (pick d (pick t (r ∷ rs) (x ∷ stored r rs)) (x ∷ stored r rs))
    by_tests true true k = record { no_more = omega arith; last = λ e. absurd (omega arith) }
    by_tests true false k = later k
    by_tests false t k = later k

pub keeps_joined : (start : ℕ) (r : Record) (rs : List Record) → Keeps (r ∷ []) rs (joined_list start r rs)
unfolding joined_list
keeps_joined start r rs =
    let before = take start rs in
    let own = drop start rs in
    let k = keeps_stored r own in
    let whole : before ++ own ≡ rs = take-append-drop start rs in
    let n = ap length whole in
    let a = length-append before own in
    let b = length-append before (stored r own) in
    record {
      no_more = omega (arith, n, a, b, k.no_more);
      last = λ e. ap (λ (l : List Record). before ++ l) (k.last (omega (arith, n, a, b, k.no_more))) ∙ sym (append_assoc before own (r ∷ [])) ∙ ap (λ (l : List Record). l ++ (r ∷ [])) whole;
    }

-- a field was read and its record kept
pub stores_kept : {part : ℕ} {f : Field} {rest : Fields} {room : ℕ} {rs ss : List Record} (r : Record) → Of part f r → Keeps (r ∷ []) rs ss → Stores part (field f rest) (suc room) rs rest room ss
stores_kept r o k =
    record { read = 1; reaches = further here; room_is = omega arith; at_most = omega (arith, k.no_more); ordered = λ e. record { new = r ∷ []; appended = k.last (omega arith); follows = one_field r o no_field } }

-- a field was stored in a part's own map
pub stores_field : {part : ℕ} {f : Field} {rest : Fields} {room : ℕ} {rs : List Record} → Stores part (field f rest) (suc room) rs rest room (stored (part_record part f) rs)
stores_field {part} {f} {rs = rs} = stores_kept (part_record part f) (of_field part f) (keeps_stored (part_record part f) rs)
