-- Runs that are made before they are hung. A draft is a run in a message's own layout, words and value bytes: its top level holds entries
-- only, with the start and delimiter tags that they were made with. It may be empty or mixed; that is judged where it is hung.
use Rattle.std.specs.Prelude.{ℕ, zero, suc, ◌+◌, Bool, true, false, List, [], ◌∷◌, length, eqb, leb}
use Rattle.field_rules.specs.Choice.{pick}
use Rattle.message_maps.specs.Rows.{Row, level_of}
use Rattle.message_maps.specs.Map.{Map, end, field, entry, joined, stored, hung, field_count}
use Rattle.message_lent_rules.specs.Lent.{rows_of, fields_in, is_laid}
use Rattle.message_lent_rules.specs.Meaning.{Message, open_in, outermost}
use Rattle.message_lent_rules.specs.Formed.{is_run}
use Rattle.message_rules.specs.Changes.{After, after, of_store, of_message, part_of, with_part, map_words, map_values, judged_map, judged}
use Rattle.message_rules.specs.declared.Part.{Part}
use Rattle.message_rules.specs.declared.Change.TheVariants.{Made, NoMessage, NotStorable, NoRun, TooManyFields}

-- "27 first": a draft is laid out as a message is, and within its limits; an entry without any field counts as one
unfoldable pub is_draft : List ℕ → List ℕ → Bool
is_draft words values = pick (is_laid words values) (leb (fields_in 0 (rows_of words)) 1024) false

-- the run that is lent, where it is one
unfoldable pub run_in : List ℕ → List ℕ → Map
run_in words values = outermost (open_in (rows_of words) values)

-- what a call on a draft leaves is judged as a message is
unfoldable pub judged_run : List ℕ → List ℕ → Bool → Map → After
judged_run words values whole run = judged_map words values whole (field_count run) run

unfoldable pub of_draft : List ℕ → List ℕ → After → (Map → After) → After
of_draft words values refused then = pick (is_draft words values) (then (run_in words values)) refused

-- a draft without any entry
unfoldable pub starting : List ℕ → List ℕ → After
starting words values = of_store words values (after Made (map_words end) (map_values end))

-- an entry is added last
unfoldable pub entering : ℕ → ℕ → List ℕ → List ℕ → After
entering start delimiter words values =
    of_draft words values (after NoMessage words values) (λ run.
    judged_run words values true (joined run (entry start delimiter end end)))

-- what is done to the map of a run's last entry
unfoldable pub is_empty : Map → Bool
is_empty end = true
is_empty (field t v rest) = false
is_empty (entry s d own rest) = false

unfoldable pub in_last : (Map → Map) → Map → Map
in_last change end = end
in_last change (field t v rest) = field t v (in_last change rest)
in_last change (entry s d own rest) = pick (is_empty rest) (entry s d (change own) rest) (entry s d own (in_last change rest))

-- where the own rows of the last entry start, 0 where there is none
unfoldable pub last_from : ℕ → ℕ → List Row → ℕ
last_from start i [] = start
last_from start i (r ∷ rows) = pick (eqb (level_of r) 0) (last_from (i + 1) (i + 1) rows) (last_from start (i + 1) rows)

-- a field is stored in the last entry; "run empty" where there is none, behind "41": a value over the limit fits in no draft
unfoldable pub storing_last : ℕ → List ℕ → List ℕ → List ℕ → After
storing_last tag value words values =
    of_draft words values (after NoMessage words values) (λ run.
    pick (eqb tag 0) (after NotStorable words values)
    (pick (leb (length value) 8192)
    (pick (is_empty run) (after NoRun words values) (judged_run words values true (in_last (stored tag value) run)))
    (after NotStorable words values)))

-- "a run's start and delimiter tags count as stored for tag 0"
unfoldable pub has_untagged : Map → Bool
has_untagged end = false
has_untagged (field t v rest) = has_untagged rest
has_untagged (entry s d own rest) = pick (eqb s 0) true (pick (eqb d 0) true (has_untagged rest))

-- "run empty, or of mixed start or delimiter tags"
unfoldable pub is_whole : Map → Bool
is_whole end = false
is_whole (field t v rest) = false
is_whole (entry s d own rest) = is_run s d rest

-- "A run that is mixed or empty is judged as if it replaced the run of its first entry's start tag."
unfoldable pub hung_run : Map → Map → Map
hung_run end m = m
hung_run (field t v rest) m = m
hung_run (entry s d own rest) m = hung s (entry s d own rest) m

-- a run is hung in the last entry of another
unfoldable pub hanging_last : List ℕ → List ℕ → List ℕ → List ℕ → After
hanging_last run_words run_values words values =
    of_draft words values (after NoMessage words values) (λ outer.
    of_draft run_words run_values (after NoMessage words values) (λ run.
    pick (has_untagged run) (after NotStorable words values)
    (pick (is_empty outer) (after NoRun words values) (judged_run words values (is_whole run) (in_last (hung_run run) outer)))))

-- a run is hung on a part of a message
unfoldable pub hanging : Part → List ℕ → List ℕ → List ℕ → List ℕ → After
hanging part run_words run_values words values =
    of_message words values (λ m.
    of_draft run_words run_values (after NoMessage words values) (λ run.
    pick (has_untagged run) (after NotStorable words values)
    (judged words values (is_whole run) (with_part part (hung_run run (part_of part m)) m))))
