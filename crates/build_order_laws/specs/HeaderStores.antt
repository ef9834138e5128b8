-- The header as it is read: each field that is taken is stored, up to the first whose tag is no header tag. All its records stand outside
-- groups.
use Rattle.std.specs.Prelude.{◌≡◌, Bool, true, false, List, ℕ, zero, suc}
use Rattle.std.proofs.Common.{arith}
use Rattle.field_rules.specs.Choice.{pick}
use Rattle.field_rules.specs.Fields.{Fields, unreadable, field}
use Rattle.field_rules.specs.declared.Field.{Field}
use Rattle.dictionary_layout_rules.specs.Tree.{holds_tag}
use Rattle.build_records.specs.Records.{stored}
use Rattle.build_records.specs.declared.Record.{Record}
use Rattle.build_nesting_laws.specs.Entries.{All, all-stored}
use Rattle.build_nesting_laws.specs.Formed.{Own}
use Rattle.build_parts.specs.Parts.{ended, part_record}
use Rattle.build_parts.specs.Header.{header_from}
use Rattle.message_read_laws.specs.PartReading.{own-field}
use Rattle.build_order_laws.specs.Follows.{Stores}
use Rattle.build_order_laws.specs.StoresLaws.{stores_same, stores_then, stores_field}

pub header_stores : (tags : List ℕ) (fields : Fields) (room : ℕ) (rs : List Record) (f : Field) (rest : Fields) (room₁ : ℕ) (rs₁ : List Record)
    → header_from tags fields room rs ≡ ended f rest room₁ rs₁ → Stores 1 fields room rs (field f rest) (suc room₁) rs₁
unfolding header_from
header_stores tags (unreadable cause place) room rs f rest room₁ rs₁ e = let z : ◌≡◌ {A = ℕ} 0 1 = cc in absurd (omega arith)
header_stores tags (field g more) zero rs f rest room₁ rs₁ e = let z : ◌≡◌ {A = ℕ} 0 1 = cc in absurd (omega arith)
header_stores tags (field g more) (suc room) rs f rest room₁ rs₁ e =
    by_tag (holds_tag g.tag tags) e (λ q. header_stores tags more room (stored (part_record 1 g) rs) f rest room₁ rs₁ q)
  where
    by_tag : (b : Bool) → pick b (header_from tags more room (stored (part_record 1 g) rs)) (ended g more room rs) ≡ ended f rest room₁ rs₁
        → (header_from tags more room (stored (part_record 1 g) rs) ≡ ended f rest room₁ rs₁
        → Stores 1 more room (stored (part_record 1 g) rs) (field f rest) (suc room₁) rs₁)
        → Stores 1 (field g more) (suc room) rs (field f rest) (suc room₁) rs₁
    by_tag true e later = stores_then stores_field (later e)
    by_tag false e later = stores_same (cc) (cc) (cc) (cc)

-- "depth, entry number (both 0 outside groups)"
pub header-own : (tags : List ℕ) (fields : Fields) (room : ℕ) (rs : List Record) (f : Field) (rest : Fields) (room₁ : ℕ) (rs₁ : List Record)
    → header_from tags fields room rs ≡ ended f rest room₁ rs₁ → All (Own 0 0) rs → All (Own 0 0) rs₁
unfolding header_from
header-own tags (unreadable cause place) room rs f rest room₁ rs₁ e a = let z : ◌≡◌ {A = ℕ} 0 1 = cc in absurd (omega arith)
header-own tags (field g more) zero rs f rest room₁ rs₁ e a = let z : ◌≡◌ {A = ℕ} 0 1 = cc in absurd (omega arith)
header-own tags (field g more) (suc room) rs f rest room₁ rs₁ e a =
    by_tag (holds_tag g.tag tags) e (λ q. header-own tags more room (stored (part_record 1 g) rs) f rest room₁ rs₁ q
    (all-stored _ (part_record 1 g) (own-field 1 g) a))
  where
    by_tag : (b : Bool) → pick b (header_from tags more room (stored (part_record 1 g) rs)) (ended g more room rs) ≡ ended f rest room₁ rs₁
        → (header_from tags more room (stored (part_record 1 g) rs) ≡ ended f rest room₁ rs₁ → All (Own 0 0) rs₁) → All (Own 0 0) rs₁
    by_tag true e later = later e
    by_tag false e later = let d : rs ≡ rs₁ = cc in rw (← d) a
