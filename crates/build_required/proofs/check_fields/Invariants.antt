-- `check_fields` meets its contract. The loop's invariant: the required tags from the link on have the outcome of all of them.
-- The measure is how many they are.
use mathlib.Core.Path.{◌≡◌}
use lib.ListN.{length}
use Rattle.dictionary_tables_rules.specs.Table.{required_from}
use Rattle.build_records.specs.Records.{records_of, between}
use Rattle.build_required_rules.specs.Required.{fields_lack}
use Rattle.build_required_rules.specs.Checking.{lack_of_fields}
use Rattle.build_required.proofs.check_fields.Given as goal

abbrev pub invariant-loop-tag : goal.invariant-loop-tag
invariant-loop-tag l = lack_of_fields l.table l.group (between l.from l.to (records_of l.words))
    ≡ fields_lack (required_from l.table l.group.level l.link) l.group.tag l.group.depth (between l.from l.to (records_of l.words))

abbrev pub decreases-loop-tag : goal.decreases-loop-tag
decreases-loop-tag l = length (required_from l.table l.group.level l.link)
