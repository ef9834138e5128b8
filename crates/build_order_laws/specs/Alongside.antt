-- Two readings of fields with the same tags, one beside the other: where one ended the other ends too.
-- Whatever is read, a group, the header or the body: how it is said that reading ended is a parameter.
use Rattle.std.specs.Prelude.{◌≡◌, refl, List, ℕ, suc, ◌+◌}
use Rattle.std.proofs.Common.{arith}
use Rattle.field_rules.specs.Fields.{Fields}
use Rattle.field_rules.specs.declared.Field.{Field}
use Rattle.build_records.specs.declared.Record.{Record}
use Rattle.build_order_laws.specs.Agree.{Agree, Similar}

-- of n agreeing fields, with some room, one reading ended at a field f, with the fields behind it, the room left and its records; the
-- other's outcome is to end at a field of that tag, with the same room and records alike, and as many fields agree behind it as weren't read
pub record Alongside {O : Type 0} (ended : Field → Fields → ℕ → List Record → O) (outcome : O) (n room : ℕ) (f : Field) (rest : Fields) (room₁ : ℕ) (rs₁ : List Record) : Type 0 where
  pub found : Field
  pub behind : Fields
  pub kept : List Record
  pub is : outcome ≡ ended found behind room₁ kept
  pub tag : f.tag ≡ found.tag
  pub similar : Similar rs₁ kept
  pub left : ℕ
  pub counted : n + room₁ ≡ room + left
  pub agree : Agree left rest behind

-- one field more was read before
pub one_more : {O : Type 0} (ended : Field → Fields → ℕ → List Record → O) {outcome : O} {n room : ℕ} {f : Field} {rest : Fields} {room₁ : ℕ} {rs₁ : List Record}
    → Alongside ended outcome n room f rest room₁ rs₁ → Alongside ended outcome (suc n) (suc room) f rest room₁ rs₁
one_more ended w = record { found = w.found; behind = w.behind; kept = w.kept; is = w.is; tag = w.tag; similar = w.similar; left = w.left; counted = omega (arith, w.counted); agree = w.agree }

-- both ended at the first field
pub at_first : {O : Type 0} (ended : Field → Fields → ℕ → List Record → O) {n : ℕ} (f g : Field) {rest behind : Fields} (room : ℕ) {rs qs : List Record} → f.tag ≡ g.tag → Agree n rest behind → Similar rs qs
    → Alongside ended (ended g behind room qs) (suc n) (suc room) f rest room rs
at_first ended {n} f g {rest} {behind} room {rs} {qs} t a s = record { found = g; behind = behind; kept = qs; is = refl; tag = t; similar = s; left = n; counted = omega arith; agree = a }

-- another outcome that is the same
pub alongside_same : {O : Type 0} (ended : Field → Fields → ℕ → List Record → O) {outcome : O} (other : O) {n room : ℕ} {f : Field} {rest : Fields} {room₁ : ℕ} {rs₁ : List Record}
    → (w : Alongside ended outcome n room f rest room₁ rs₁) → other ≡ ended w.found w.behind room₁ w.kept → Alongside ended other n room f rest room₁ rs₁
alongside_same ended other w e = record { found = w.found; behind = w.behind; kept = w.kept; is = e; tag = w.tag; similar = w.similar; left = w.left; counted = w.counted; agree = w.agree }
