-- Passing records: what is left of the walk, from another place on, has the outcome of the whole.
-- A record that nothing refuses is passed, and so a row of known tags or of field items, one after the other.
use Rattle.std.specs.Prelude.{◌≡◌, List, ℕ, ◌+◌, ◌≤◌, length}
use Rattle.dictionary_rules.specs.Records.{records_from}
use Rattle.dictionary_rules.specs.Index.{looks_at, noted}
use Rattle.dictionary_rules.specs.Step.{grown}
use Rattle.dictionary_rules.specs.Check.{walked}
use Rattle.dictionary_rules.specs.declared.Held.TheVariants.{Several}
use Rattle.dictionary_rules.specs.declared.Open.{Open}
use Rattle.dictionary_rules.specs.declared.State.{State}

-- what is open, with one field item more
abbrev pub with_field : Open → Open
with_field o = grown o (o.items + 1) o.depth Several o.groups

-- from a place, a state and an index the walk comes to another place, with the state and the index that it has there
pub record Passed (d : List ℕ) (from : ℕ) (before : State) (index : List ℕ) (to : ℕ) (after : State) (left : List ℕ) : Type 0 where
  pub onward : from ≤ to
  pub within : to ≤ length d
  pub same : walked looks_at noted (records_from d from) before index ≡ walked looks_at noted (records_from d to) after left
