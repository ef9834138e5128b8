-- "Header and trailer tags are the plain field items directly in components 0 and 1": listing them from a component's records. Items of
-- a component within are not looked at, and what lies in a group is passed over.
use Rattle.std.specs.Prelude.{ℕ, zero, suc, ◌+◌, ◌-◌, List, length, set, eqb, leb, Option, Some, None}
use Rattle.field_rules.specs.Choice.{pick}
use Rattle.dictionary_rules.specs.Record.{record_at}
use Rattle.dictionary_rules.specs.declared.Record.{Record}
use Rattle.dictionary_rules.specs.declared.Record.TheVariants.{KnownTag, OpensComponent, OpensMessage, FieldItem, ComponentItem, OpensGroup, Closes}
use Rattle.dictionary_rules.specs.declared.RecordRead.{RecordRead}
use Rattle.dictionary_rules.specs.declared.RecordRead.TheVariants.{Whole, Bad, End}
use Rattle.dictionary_rules.specs.Index.{component_at}
use Rattle.dictionary_rules.specs.declared.Component.{Component}

-- the answer, and what the list holds then
pub data Listing : Type 0 where
  listing : Option ℕ → List ℕ → Listing

-- a step at a place, with so many groups open and so many tags listed
abbrev pub TagStep : Type 0
TagStep = ℕ → ℕ → ℕ → List ℕ → Listing

unfoldable pub tag_on : TagStep → ℕ → ℕ → List ℕ → Record → ℕ → Listing
tag_on rest groups count tags (FieldItem tag required) next =
    pick (eqb groups 0)
    (pick (leb 1024 count) (listing None tags) (rest next groups (count + 1) (set tags count tag)))
    (rest next groups count tags)
tag_on rest groups count tags (ComponentItem required number) next = rest next groups count tags
tag_on rest groups count tags (OpensGroup tag required) next = rest next (groups + 1) count tags
tag_on rest groups count tags Closes next = pick (eqb groups 0) (listing (Some count) tags) (rest next (groups - 1) count tags)
tag_on rest groups count tags (KnownTag tag) next = listing None tags
tag_on rest groups count tags (OpensComponent number) next = listing None tags
tag_on rest groups count tags (OpensMessage msg_type) next = listing None tags

unfoldable pub tag_read : TagStep → ℕ → ℕ → List ℕ → RecordRead → Listing
tag_read rest groups count tags (Whole r next) = tag_on rest groups count tags r next
tag_read rest groups count tags Bad = listing None tags
tag_read rest groups count tags End = listing None tags

-- places rise, so the fuel is what lies before the end
unfoldable pub tags_within : ℕ → List ℕ → TagStep
tags_within zero dictionary at groups count tags = listing None tags
tags_within (suc fuel) dictionary at groups count tags = tag_read (tags_within fuel dictionary) groups count tags (record_at dictionary at)

unfoldable pub tags_from : List ℕ → TagStep
tags_from dictionary at groups count tags = tags_within (length dictionary - at) dictionary at groups count tags

unfoldable pub component_tags : List ℕ → Option Component → List ℕ → Listing
component_tags dictionary None tags = listing None tags
component_tags dictionary (Some c) tags = tags_from dictionary (c.place + 3) 0 0 tags

unfoldable pub plain_tags : List ℕ → List ℕ → ℕ → List ℕ → Listing
plain_tags dictionary index number tags = component_tags dictionary (component_at index number) tags
