-- `untagged` meets its contract: `=` is the one that is found from the place on, and the text before it is no tag.
use mathlib.Core.Path.{sym, ap, ◌∙◌}
use Rattle.field_tagvalue.specs.Tagged.{or_zero, tagged_at}
use Rattle.field_tagvalue.proofs.untagged.Goals as goal
use Rattle.std.proofs.Common.{Option, Some, ℕ}

pub returns-in_default : goal.returns-in_default
unfolding tagged_at
returns-in_default c = rw (c.requires.rest_value ∙ sym c.find_from.ensures ∙ c.in_default.is)

pub returns : goal.returns
unfolding tagged_at or_zero
returns c = let found = c.requires.rest_value ∙ sym c.find_from.ensures ∙ c.in-Some.is in
    rw found (sym (ap (λ (n : Option ℕ). Some (c.in-Some.equals, (or_zero n))) (c.requires.by_index _ found)))
