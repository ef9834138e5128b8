-- `list_tags` meets its contract: what is left from the record that is looked at has the outcome of the whole; each way cites its law.
-- No more groups are open than bytes were passed, so their number fits.
use mathlib.Core.Path.{◌≡◌}
use Prim.Native.Nat.{◌-◌, ◌≤◌}
use lib.ListN.{length}
use Rattle.dictionary_meaning_rules.specs.PlainTags.{tags_from}
use Rattle.dictionary_flattening.proofs.tags.list_tags.Given as goal

abbrev pub invariant-loop-record : goal.invariant-loop-record
invariant-loop-record l = (l.count ≤ 1024) × (l.groups ≤ l.at) × (length l.tags ≡ length l.initial.tags) × (tags_from l.dictionary l.from 0 0 l.initial.tags ≡ tags_from l.dictionary l.at l.groups l.count l.tags)

abbrev pub decreases-loop-record : goal.decreases-loop-record
decreases-loop-record l = length l.dictionary - l.at
