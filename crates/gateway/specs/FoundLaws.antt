-- What a look-up tells follows from what was found.
use Rattle.std.specs.Prelude.{ℕ, ◌≡◌, List}
use Rattle.std.proofs.Common.{ap, ◌∙◌}
use Rattle.message_rules.specs.declared.Part.{Part}
use Rattle.message_rules.specs.declared.FoundValue.{FoundValue}
use Rattle.message_rules.specs.declared.FoundMap.{FoundMap}
use Rattle.message_rules.specs.LookUps.{number_of_value, number_of_map, part_found}
use Rattle.face_told.specs.Told.{told_map, told_value}

pub part_in : (p q : Part) (words values : List ℕ) (found : FoundMap) → p ≡ q → found ≡ part_found p words values → found ≡ part_found q words values
part_in p q words values found e h = h ∙ ap (λ (x : Part). part_found x words values) e

pub map-number : (k o : FoundMap) (n : ℕ) → k ≡ o → n ≡ number_of_map k → n ≡ number_of_map o
map-number k o n e h = h ∙ ap number_of_map e

pub map_out : (k o : FoundMap) (out : List ℕ) → k ≡ o → out ≡ told_map k → out ≡ told_map o
map_out k o out e h = h ∙ ap told_map e

pub value_number : (k o : FoundValue) (n : ℕ) → k ≡ o → n ≡ number_of_value k → n ≡ number_of_value o
value_number k o n e h = h ∙ ap number_of_value e

pub value_out : (k o : FoundValue) (out : List ℕ) → k ≡ o → out ≡ told_value k → out ≡ told_value o
value_out k o out e h = h ∙ ap told_value e
