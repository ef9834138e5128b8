-- The value that is lost is the earlier one. Fields stand one behind the other in a message, so where a part took two with the same tag, the one
-- record that it holds under the tag is of the later or of one that was read still later, and the earlier has none.
use Rattle.std.specs.Prelude.{◌≡◌}
use mathlib.Core.List.{List, [], ◌∷◌, ◌++◌}
use Prim.Native.Nat.{ℕ, suc, ◌≤◌, ◌<◌}
use Rattle.field_rules.specs.Fields.{Fields, unreadable, field}
use Rattle.field_rules.specs.declared.Cause.{Cause}
use Rattle.field_rules.specs.declared.Field.{Field}
use Rattle.build_records.specs.declared.Record.{Record}
use Rattle.build_parts.specs.Parts.{part_record}

-- ===== fields stand one behind the other =====

pub data Rising : ℕ → Fields → Type 0 where
  rising_end : {at place : ℕ} {cause : Cause} → Rising at (unreadable cause place)
  rising_field : {at : ℕ} {f : Field} {rest : Fields} → at ≤ f.place → Rising (suc f.place) rest → Rising at (field f rest)

-- ===== of two fields with a tag, the later is held =====

-- two fields with the same tag, one before the other
pub record Repeats (fs : List Field) (earlier later : Field) : Type 0 where
  pub before : List Field
  pub between : List Field
  pub after : List Field
  pub is : fs ≡ before ++ (earlier ∷ (between ++ (later ∷ after)))
  pub same_tag : earlier.tag ≡ later.tag

-- the one record of a part under a tag: of a field that was read behind the earlier, and not before the later
pub record LaterHeld (part : ℕ) (earlier later : Field) (rs : List Record) : Type 0 where
  pub last : Field
  pub only : rs ≡ part_record part last ∷ []
  pub tagged : last.tag ≡ later.tag
  pub behind : earlier.place < last.place
  pub not_before : later.place ≤ last.place
