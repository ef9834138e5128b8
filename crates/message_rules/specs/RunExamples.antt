-- Worked examples of this crate's definitions, one table under one statement, which antt computes.
-- A wrong definition is refused here, whatever code is proved against it.
use Rattle.std.specs.Prelude.{◌≡◌, refl, List, [], ◌∷◌, Bool, true, false, ℕ}
use Rattle.field_rules.specs.Text.{bytes}
use Rattle.message_maps.specs.Map.{Map, end, field, entry, joined, holds, holds_any, replaced, leading, past_leading, run_on, without_run, stored, hung_on_count, hung_alone, hung, field_count}
use Rattle.message_lent_rules.specs.Formed.{is_run}
use Rattle.message_rules.specs.Runs.{is_empty, in_last, has_untagged, is_whole, hung_run}

-- two entries, made one after the other: 78 79=A 80=5, 79=B with a nested run 539 524=p
one : Map
one = in_last (stored 80 (bytes "5")) (in_last (stored 79 (bytes "A")) (entry 78 79 end end))

nested : Map
nested = in_last (stored 524 (bytes "p")) (entry 539 524 end end)

two : Map
two = in_last (hung_run nested) (in_last (stored 79 (bytes "B")) (joined one (entry 78 79 end end)))

made : two ∷ [] ≡ entry 78 79 (field 79 (bytes "A") (field 80 (bytes "5") end)) (entry 78 79 (field 79 (bytes "B") (entry 539 524 (field 524 (bytes "p") end) end)) end) ∷ []
unfolding two nested one in_last is_empty hung_run stored holds replaced joined without_run run_on leading past_leading hung hung_on_count hung_alone
made = refl

-- behind its count a run stands, and takes the place of the one before; without its count it comes last
body : Map
body = field 78 (bytes "1") (entry 78 79 (field 79 (bytes "old") end) (field 58 (bytes "x") end))

hangs : hung_run one body ∷ hung_run nested body ∷ hung_run end body ∷ []
    ≡ field 78 (bytes "1") (entry 78 79 (field 79 (bytes "A") (field 80 (bytes "5") end)) (field 58 (bytes "x") end))
    ∷ field 78 (bytes "1") (entry 78 79 (field 79 (bytes "old") end) (field 58 (bytes "x") (entry 539 524 (field 524 (bytes "p") end) end)))
    ∷ body
    ∷ []
unfolding body nested one in_last is_empty hung_run stored holds replaced joined without_run run_on leading past_leading hung hung_on_count hung_alone
hangs = refl

-- an empty run is none, nor is one of two start tags or of two delimiters; a tag 0 is seen in any entry
judged : is_whole end ∷ is_whole two ∷ is_whole (joined one nested) ∷ is_whole (joined one (entry 78 80 end end)) ∷ has_untagged two ∷ has_untagged (joined one (entry 78 0 end end)) ∷ has_untagged (entry 0 79 end end) ∷ []
    ≡ false ∷ true ∷ false ∷ false ∷ false ∷ true ∷ true ∷ []
unfolding two nested one in_last is_empty hung_run stored holds replaced joined without_run run_on leading past_leading hung hung_on_count hung_alone is_whole is_run has_untagged
judged = refl

-- an entry without any field counts as one, and its first field makes it no more
counts : field_count (entry 78 79 end end) ∷ field_count one ∷ field_count two ∷ [] ≡ 1 ∷ 2 ∷ 4 ∷ []
unfolding two nested one in_last is_empty hung_run stored holds replaced joined without_run run_on leading past_leading hung hung_on_count hung_alone field_count holds_any
counts = refl
