-- Worked examples of this crate's definitions, one table under one statement, which antt computes.
-- A wrong definition is refused here, whatever law is proved of it.
use Rattle.std.specs.Prelude.{◌≡◌, refl, Bool, true, false, List, [], ◌∷◌}
use Rattle.message_maps.specs.Map.{Map, end, field, entry, joined, holds, without_field, leading, past_leading, run_on, without_run, stored, hung_on_count, hung_alone, hung}
use Rattle.message_lent_rules.specs.Formed.{stands, goes_on, is_formed, is_run}

-- an entry of group 78 with delimiter 79; P6 with two of them behind their count
allocation : Map → Map
allocation rest = entry 78 79 (field 79 (65 ∷ []) end) rest

order : Map
order = field 38 (54 ∷ []) (field 78 (50 ∷ []) (allocation (allocation (field 58 [] end))))

-- formed: nothing; a field; a run behind its count, and one without; an entry without fields; a nested run on a tag that stands outside
formed : is_formed end ∷ is_formed (field 38 [] end) ∷ is_formed order ∷ is_formed (allocation (allocation (field 38 [] end))) ∷ is_formed (entry 78 79 end end) ∷ is_formed (entry 78 79 (entry 78 79 end end) end) ∷ [] ≡ true ∷ true ∷ true ∷ true ∷ true ∷ true ∷ []
unfolding is_formed stands goes_on past_leading order allocation
formed = refl

-- not formed: tag 0 as a field, a start tag, a delimiter; a tag twice
tags : is_formed (field 0 [] end) ∷ is_formed (entry 0 79 end end) ∷ is_formed (entry 78 0 end end) ∷ is_formed (field 38 [] (field 58 [] (field 38 [] end))) ∷ [] ≡ false ∷ false ∷ false ∷ false ∷ []
unfolding is_formed stands goes_on past_leading
tags = refl

-- not formed: a run away from its count; a count behind its run; two runs; two delimiters; an entry that isn't formed
runs : is_formed (field 78 [] (field 38 [] (allocation end))) ∷ is_formed (allocation (field 78 [] end)) ∷ is_formed (allocation (field 38 [] (allocation end))) ∷ is_formed (allocation (entry 78 80 end end)) ∷ is_formed (entry 78 79 (field 0 [] end) end) ∷ [] ≡ false ∷ false ∷ false ∷ false ∷ false ∷ []
unfolding is_formed stands goes_on past_leading allocation
runs = refl

-- the run of a removed count stays, and the count takes it along when it is stored again
removed : without_field 78 order ∷ stored 78 [] (without_field 78 order) ∷ [] ≡ field 38 (54 ∷ []) (allocation (allocation (field 58 [] end))) ∷ field 38 (54 ∷ []) (field 58 [] (field 78 [] (allocation (allocation end)))) ∷ []
unfolding without_field stored holds joined without_run run_on leading past_leading order allocation
removed = refl

-- a second run replaces the first, behind its count or where it stood
replaced : hung 78 (allocation end) order ∷ hung 78 (allocation end) (without_field 78 order) ∷ [] ≡ field 38 (54 ∷ []) (field 78 (50 ∷ []) (allocation (field 58 [] end))) ∷ field 38 (54 ∷ []) (allocation (field 58 [] end)) ∷ []
unfolding without_field hung holds hung_on_count hung_alone joined past_leading order allocation
replaced = refl

-- "run empty, or of mixed start or delimiter tags": an empty one has no mixed tags
wholes : is_run 78 79 end ∷ is_run 78 79 (allocation (allocation end)) ∷ is_run 78 79 (allocation (entry 78 80 end end)) ∷ is_run 78 79 (allocation (entry 539 79 end end)) ∷ is_run 78 79 (field 78 [] (allocation end)) ∷ [] ≡ true ∷ true ∷ false ∷ false ∷ false ∷ []
unfolding is_run allocation
wholes = refl
