-- The check as the code does it: levels are looked up in a table, and four may be open.
use Rattle.std.specs.Prelude.{ℕ, ◌+◌, ◌-◌, List, [], ◌∷◌, Bool, eqb}
use Rattle.field_rules.specs.Choice.{pick}
use Rattle.build_answers.specs.declared.Answer.{Answer}
use Rattle.build_answers.specs.declared.Answer.TheVariants.{Valid, RequiredFieldMissing}
use Rattle.dictionary_layout_rules.specs.Layout.{Layout, group_of, delimiter_of_lem, required_tags}
use Rattle.dictionary_tables_rules.specs.Table.{item_of, required_of}
use Rattle.dictionary_tables_rules.proofs.Tabled.{group_of_item}
use Rattle.build_records.specs.declared.Record.{Record}
use Rattle.build_group_rules.specs.Groups.{is_delimiter}
use Rattle.build_group_rules.specs.Reading.{opens_at, opened_by, opened_as}
use Rattle.build_group_rules.specs.declared.Group.{Group}
use Rattle.build_required_rules.specs.Required.{Demands, fields_lack, opens_entry, entry_lack, run_lack}
use Rattle.build_required_rules.specs.declared.Lack.{Lack}
use Rattle.build_required_rules.specs.declared.Lack.TheVariants.{Missing, Complete}

-- "the first lack gives 4"
unfoldable pub answer_of_lack : Lack → Answer
answer_of_lack Complete = Valid
answer_of_lack (Missing tag group) = RequiredFieldMissing tag group

-- levels looked up in a table
unfoldable pub table_demands : List ℕ → Demands ℕ
table_demands table = record { opens = opens_at table; required = required_of table; group = λ level tag. opened_by (group_of_item (item_of table level tag)) }

-- levels that are layouts
unfoldable pub layout_demands : Demands Layout
layout_demands = record { opens = λ layout tag. is_delimiter (delimiter_of_lem layout) tag; required = required_tags; group = λ layout tag. opened_as (group_of tag layout) }

unfoldable pub starts_at : List ℕ → Group → Record → Bool
starts_at table group r = opens_entry (table_demands table) group.level group.depth r

-- where the level of the run starts that hangs on a record, 0 where none does
unfoldable pub count_at : List ℕ → Group → Record → ℕ
count_at table group r = pick (eqb r.depth group.depth) (group_of_item (item_of table group.level r.tag)) 0

-- where the first record of a kind stands, or the end
unfoldable pub end_from : (Record → Bool) → ℕ → List Record → ℕ
end_from test at [] = at
end_from test at (r ∷ rs) = pick (test r) at (end_from test (at + 1) rs)

unfoldable pub lack_of_fields : List ℕ → Group → List Record → Lack
lack_of_fields table group entry = fields_lack ((table_demands table).required group.level) group.tag group.depth entry

-- a run at a depth, and an entry of it
unfoldable pub lack_of_run : List ℕ → Group → List Record → Lack
lack_of_run table group rs = run_lack (table_demands table) (5 - group.depth) group.level group.tag group.depth rs

unfoldable pub lack_of_entry : List ℕ → Group → List Record → Lack
lack_of_entry table group entry =
    entry_lack (table_demands table) (λ level tag rs. run_lack (table_demands table) (4 - group.depth) level tag (group.depth + 1) rs) group.level group.tag group.depth entry
