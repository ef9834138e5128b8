-- What a tag is to the body, by what the table answers: one law for each way.
use Rattle.std.specs.Prelude.{◌≡◌, Bool, true, false, List, ℕ, Some, None}
use Rattle.build_config.specs.declared.Config.{Config}
use Rattle.dictionary_tables_rules.specs.Table.{item_of}
use Rattle.dictionary_tables_rules.proofs.Tabled.{place_of, group_of_item}
use Rattle.build_group_rules.specs.Reading.{accepted, table_rules}
use Rattle.build_group_rules.proofs.ReadingLaws.{opened-none, opened_some}
use Rattle.build_body_rules.specs.Body.{plain, counts, other}
use Rattle.build_body_rules.specs.Kinds.{group_kind, placed_kind, body_kind}

module _ (config : Config) (table : List ℕ) (known : ℕ → Bool) (level tag : ℕ) where
  module _ (e : item_of table level tag ≡ None) where
    pub kind_user : accepted config known tag ≡ true → body_kind (table_rules config table known) level tag ≡ plain
    unfolding body_kind placed_kind table_rules place_of
    kind_user h = rw (e, h)

    pub kind_other : accepted config known tag ≡ false → body_kind (table_rules config table known) level tag ≡ other
    unfolding body_kind placed_kind table_rules place_of
    kind_other h = rw (e, h)

  module _ (position inner : ℕ) (e : item_of table level tag ≡ Some (position, inner)) where
    pub kind_plain : inner ≡ 0 → body_kind (table_rules config table known) level tag ≡ plain
    unfolding body_kind placed_kind table_rules place_of group_of_item group_kind
    kind_plain h = rw (e, e, opened-none inner h)

    pub kind_counts : (inner ≡ 0 → ⊥) → body_kind (table_rules config table known) level tag ≡ counts inner
    unfolding body_kind placed_kind table_rules place_of group_of_item group_kind
    kind_counts h = rw (e, e, opened_some inner h)
