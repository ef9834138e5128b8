-- Fields that are read one behind the other start at rising places. So the fields counted up to the one that stopped the trailer are those
-- that were read up to it: none before it starts where it does.
use Rattle.std.specs.Prelude.{◌≡◌, refl, List, ℕ, zero, suc, ◌≤◌, Option}
use Rattle.std.proofs.Common.{ap, arith, eq-eqb, ne_eqb}
use Rattle.field_rules.specs.declared.Mode.{Mode}
use Rattle.field_rules.specs.Field.{start_at}
use Rattle.field_rules.specs.Fields.{Fields, unreadable, field, fields_from}
use Rattle.field_rules.proofs.FieldsLaws.{step-lies, by_fields}
use Rattle.field_rules.specs.declared.Cause.{Cause}
use Rattle.field_rules.specs.declared.Cursor.{Cursor}
use Rattle.field_rules.specs.declared.Field.{Field}
use Rattle.build_order_laws.specs.Counted.{counted_to, counted_all, counted_fields, fields_counted}
use Rattle.build_order_laws.specs.Follows.{Reaches, here, further}
use Rattle.build_order_laws.specs.TrailerStores.{Last, at-stop, at_end}

-- each field starts at a place or behind it, and those behind it further on
data Rising : ℕ → Fields → Type 0 where
  rising_end : {place at : ℕ} {cause : Cause} → Rising place (unreadable cause at)
  rising_field : {place : ℕ} {f : Field} {rest : Fields} → place ≤ f.first → Rising (suc f.first) rest → Rising place (field f rest)

rising_from : {place before : ℕ} {fields : Fields} → before ≤ place → Rising place fields → Rising before fields
rising_from h rising_end = rising_end
rising_from {place} {before} h (rising_field {f = f} p r) = rising_field {place = before} {f = f} (omega arith) r

fields_rising : (mode : Mode) (message : List ℕ) (c : Cursor) → Rising c.at (fields_from mode message c)
fields_rising mode message =
    by_fields mode message (λ c fields. Rising c.at fields) (λ c cause place e. rising_end)
    (λ c f e later. let l = step-lies mode message c f e in rising_field {place = c.at} {f = f} (omega (arith, l.starts)) (rising_from (omega (arith, l.starts, l.falls)) later))

reached-behind : {place n : ℕ} {fields rest : Fields} {f : Field} → Rising place fields → Reaches fields n (field f rest) → place ≤ f.first
reached-behind {n = n} {rest = rest} {f = f} (rising_end {place = place} {at = at} {cause = cause}) x4 = elim x4 [ ]
reached-behind (rising_field p r) here = p
reached-behind (rising_field p r) (further a) = omega (arith, p, reached-behind r a)

counted_to_lem : {place n : ℕ} {fields rest : Fields} {f : Field} → Rising place fields → Reaches fields n (field f rest) → counted_to f.first fields ≡ suc n
unfolding counted_to
counted_to_lem {n = n} {rest = rest} {f = f} (rising_end {place = place} {at = at} {cause = cause}) x4 = elim x4 [ ]
counted_to_lem {f = f} (rising_field p r) here = rw (eq-eqb f.first f.first refl)
counted_to_lem {f = f} (rising_field {f = g} p r) (further a) = let l = reached-behind r a in rw (ne_eqb g.first f.first (λ e. omega arith)) (ap suc (counted_to_lem r a))

counted_all_lem : {n place : ℕ} {fields : Fields} {cause : Cause} → Reaches fields n (unreadable cause place) → counted_all fields ≡ suc n
unfolding counted_all
counted_all_lem here = refl
counted_all_lem (further a) = ap suc (counted_all_lem a)

-- "Counted are the fields read in sequence, the 10 that stops the trailer included; where none stops it, the verified 10 counts last."
pub counted-read : (mode : Mode) (message : List ℕ) {n : ℕ} {stop : Option Field} {last : Fields} → Reaches (fields_from mode message (start_at 0)) n last → Last stop last → fields_counted mode message stop ≡ suc n
unfolding fields_counted counted_fields
counted-read mode message r (at-stop ten) = counted_to_lem (fields_rising mode message (start_at 0)) r
counted-read mode message r at_end = counted_all_lem r
