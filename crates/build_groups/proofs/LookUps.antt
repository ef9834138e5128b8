-- Each way that looking a tag up goes: one law for each return of `accepted`, `opens` and `kind_of`.
use mathlib.Core.Path.{◌≡◌, refl}
use mathlib.Core.Bool.{Bool, true, false, not}
use mathlib.Core.List.{List}
use Prim.Native.Nat.{ℕ, ◌≤◌, ◌<◌}
use lib.Dec.{eqb}
use borrow.Author.Tests.{le-leb, lt-leb, lt-ltb, le-ltb}
use Rattle.field_rules.specs.Choice.{pick, pick_same}
use Rattle.build_config.specs.declared.Config.{Config}
use Rattle.dictionary_tables_rules.specs.Table.{item_of, delimiter_at}
use Rattle.dictionary_tables_rules.proofs.Tabled.{place_of, group_of_item}
use Rattle.build_group_rules.specs.Groups.{is_delimiter, opens, plain, count, joins, wrong, ends, counting, declared, entry_kind}
use Rattle.build_group_rules.specs.Reading.{accepted, table_rules, opens_at, kind_at}
use Rattle.build_group_rules.proofs.ReadingLaws.{opened-none, opened_some}
use Rattle.build_group_rules.specs.declared.Group.{Group}
use Rattle.std.proofs.Common.{Some, None}

module _ (config : Config) (known : ℕ → Bool) (tag : ℕ) where
  pub validated : config.validate ≡ true → accepted config known tag ≡ false
  unfolding accepted
  validated v = rw v

  pub not_user_defined : tag < 5000 → accepted config known tag ≡ false
  unfolding accepted
  not_user_defined h = rw (lt-ltb _ _ h) (pick_same config.validate false)

  pub unknown : config.validate ≡ false → 5000 ≤ tag → accepted config known tag ≡ not (known tag)
  unfolding accepted
  unknown v h = rw (v, le-ltb _ _ h) (turned (known tag))
    where
      turned : (b : Bool) → pick b false true ≡ not b
      turned true = refl
      turned false = refl

module _ (table : List ℕ) (level tag : ℕ) where
  pub no_delimiter : delimiter_at table level ≡ None → opens_at table level tag ≡ false
  unfolding opens_at is_delimiter
  no_delimiter e = rw e

  pub one_delimiter : (delimiter : ℕ) → delimiter_at table level ≡ Some delimiter → opens_at table level tag ≡ eqb delimiter tag
  unfolding opens_at is_delimiter
  one_delimiter delimiter e = rw e

-- the delimiter test is the rules' own
pub opens-table : (config : Config) (table : List ℕ) (known : ℕ → Bool) (level tag : ℕ) → opens (table_rules config table known) level tag ≡ opens_at table level tag
unfolding opens table_rules opens_at
opens-table config table known level tag = refl

module _ (config : Config) (table : List ℕ) (known : ℕ → Bool) (group : Group) (last tag : ℕ) where
  pub kind_delimiter : opens_at table group.level tag ≡ true → kind_at config table known group last tag ≡ ends
  unfolding kind_at entry_kind opens table_rules opens_at
  kind_delimiter o = rw o

  module _ (o : opens_at table group.level tag ≡ false) where
    pub kind_user : item_of table group.level tag ≡ None → accepted config known tag ≡ true → kind_at config table known group last tag ≡ joins
    unfolding kind_at entry_kind opens table_rules opens_at declared place_of
    kind_user p a = rw (o, p, a)

    pub kind_other : item_of table group.level tag ≡ None → accepted config known tag ≡ false → kind_at config table known group last tag ≡ ends
    unfolding kind_at entry_kind opens table_rules opens_at declared place_of
    kind_other p a = rw (o, p, a)

    module _ (position inner : ℕ) (p : item_of table group.level tag ≡ Some (position, inner)) where
      pub kind_wrong : position ≤ last → kind_at config table known group last tag ≡ wrong
      unfolding kind_at entry_kind opens table_rules opens_at declared place_of
      kind_wrong h = rw (o, p, le-leb _ _ h)

      module _ (h : last < position) where
        pub kind_plain : inner ≡ 0 → kind_at config table known group last tag ≡ plain position
        unfolding kind_at entry_kind opens table_rules opens_at declared place_of group_of_item counting
        kind_plain z = rw (o, p, lt-leb _ _ h, p, opened-none inner z)

        module _ (some : inner ≡ 0 → ⊥) where
          pub kind_count : group.depth < 4 → kind_at config table known group last tag ≡ count inner position
          unfolding kind_at entry_kind opens table_rules opens_at declared place_of group_of_item counting
          kind_count d = rw (o, p, lt-leb _ _ h, p, opened_some inner some, lt-ltb _ _ d)

          pub kind_deep : 4 ≤ group.depth → kind_at config table known group last tag ≡ plain position
          unfolding kind_at entry_kind opens table_rules opens_at declared place_of group_of_item counting
          kind_deep d = rw (o, p, lt-leb _ _ h, p, opened_some inner some, le-ltb _ _ d)
