-- P6 to P10 as far as groups go, from the field behind the count on, and the corners of each rule: tables under statements that antt
-- computes. A wrong definition is refused here, whatever code is proved against it.
use Rattle.std.specs.Prelude.{◌≡◌, refl, List, [], ◌∷◌, map, Bool, true, false, ℕ, ◌-◌, eqb}
use Prim.Native.String.{String}
use Rattle.field_rules.specs.Computing.{reading-fields}
use Rattle.field_rules.specs.Text.{bytes}
use Rattle.field_rules.specs.Field.{separated_by, start_at}
use Rattle.build_config.specs.Settings.{validating}
use Rattle.field_rules.specs.Fields.{fields_from}
use Rattle.dictionary_layout_rules.specs.Layout.{Layout, end, field, group, first_of, position_from, position_in, group_since, group_of, delimiter_of_lem}
use Rattle.build_records.specs.Records.{stored}
use Rattle.build_records.specs.declared.Record.{Record}
use Rattle.build_answers.specs.Answer.{number_of, values_of, listed}
use Rattle.build_group_rules.specs.Groups.{is_delimiter, opens, counting, declared, entry_kind, run, outermost, in_entry_lem, decide, entry_record, RunOutcome, ended, refused, moved, walk}
use Rattle.build_group_rules.specs.Reading.{answer_of, accepted, opened_as, layout_rules, joined_list, list_store}

-- what is told of a run: 0, the tag that ended it and the room left, and for each record its depth, entry number, tag and place; or the
-- refusal's number and values
abbrev RunTold : Type 0
RunTold = ℕ × (List ℕ) × (List (ℕ × ℕ × ℕ × ℕ))

unfoldable run_told : RunOutcome (List Record) (List Record) → RunTold
run_told (ended f rest room rs) = (0, f.tag ∷ room ∷ [], map (λ (r : Record). (r.depth, r.number, r.tag, r.place)) rs)
run_told (refused refusal rs) = (number_of (answer_of refusal), listed (answer_of refusal), [])

-- "group 78 (79 and 80 required; group 539 with 524 required, 525)"
abbrev allocations : Layout
allocations = field 79 true (field 80 true (group 539 false (field 524 true (field 525 false end)) end))

-- the fields behind `78=..|`, of which so many may be read; 5002 is known, and stands in no layout
unfoldable reading : Bool → Layout → ℕ → String → RunTold
reading validate layout room text =
    run_told (walk (layout_rules (accepted (validating validate) (λ (tag : ℕ). eqb tag 5002))) list_store room (run (outermost 78 layout) 0 ∷ []) [] (fields_from (separated_by 1) (bytes text) (start_at 0)))

abbrev strict : List (String × RunTold)
strict =
    ("79=A|80=5|10=000|", (0, 10 ∷ 97 ∷ [], (1, 1, 79, 3) ∷ (1, 1, 80, 8) ∷ []))
    ∷ ("58=x|10=000|", (2, 58 ∷ 78 ∷ [], []))
    ∷ ("79=A|58=x|10=000|", (0, 58 ∷ 98 ∷ [], (1, 1, 79, 3) ∷ []))
    ∷ ("79=A|80=5|80=6|10=000|", (2, 80 ∷ 78 ∷ [], []))
    ∷ ("79=A|80=5|539=0|10=000|", (2, 10 ∷ 539 ∷ [], []))
    ∷ ("79=A|539=1|524=p|525=q|524=r|79=B|80=7|10=000|", (0, 10 ∷ 92 ∷ [], (1, 1, 79, 3) ∷ (1, 1, 539, 9) ∷ (2, 1, 524, 15) ∷ (2, 1, 525, 21) ∷ (2, 2, 524, 27) ∷ (1, 2, 79, 32) ∷ (1, 2, 80, 37) ∷ []))
    ∷ ("79=A|539=1|525=q|10=000|", (2, 525 ∷ 539 ∷ [], []))
    ∷ ("79=A|539=1|524=p|80=5|10=000|", (2, 80 ∷ 78 ∷ [], []))
    ∷ ("79=A|5001=x|10=000|", (0, 5001 ∷ 98 ∷ [], (1, 1, 79, 3) ∷ []))
    ∷ ("5001=x|79=A|10=000|", (2, 5001 ∷ 78 ∷ [], []))
    ∷ ("79=A|80", (10, [], []))
    ∷ ("", (10, [], []))
    ∷ ("79=A|", (10, [], []))
    ∷ []

groups_read : map (λ row. reading true allocations 100 row.0) strict ≡ map (λ row. row.1) strict
unfolding reading run_told answer_of number_of values_of listed layout_rules opened_as accepted joined_list list_store walk moved decide in_entry_lem entry_kind declared counting opens is_delimiter entry_record position_in position_from first_of group_of group_since delimiter_of_lem stored reading-fields
groups_read = refl

-- validation off: a user tag joins the innermost open entry, twice it replaces the value and keeps the position; right after a count it
-- is out of order; a known one ends the run
abbrev lenient : List (String × RunTold)
lenient =
    ("79=A|5001=x|80=5|5001=yy|10=000|", (0, 10 ∷ 95 ∷ [], (1, 1, 79, 3) ∷ (1, 1, 5001, 22) ∷ (1, 1, 80, 15) ∷ []))
    ∷ ("79=A|539=1|524=p|5001=x|10=000|", (0, 10 ∷ 95 ∷ [], (1, 1, 79, 3) ∷ (1, 1, 539, 9) ∷ (2, 1, 524, 15) ∷ (2, 1, 5001, 22) ∷ []))
    ∷ ("79=A|5001=x|539=1|524=p|5001=z|79=B|5001=w|10=000|", (0, 10 ∷ 92 ∷ [], (1, 1, 79, 3) ∷ (1, 1, 5001, 10) ∷ (1, 1, 539, 16) ∷ (2, 1, 524, 22) ∷ (2, 1, 5001, 29) ∷ (1, 2, 79, 34) ∷ (1, 2, 5001, 41) ∷ []))
    ∷ ("5001=x|79=A|10=000|", (2, 5001 ∷ 78 ∷ [], []))
    ∷ ("79=A|5002=x|10=000|", (0, 5002 ∷ 98 ∷ [], (1, 1, 79, 3) ∷ []))
    ∷ ("79=A|4999=x|10=000|", (0, 4999 ∷ 98 ∷ [], (1, 1, 79, 3) ∷ []))
    ∷ []

user-tags : map (λ row. reading false allocations 100 row.0) lenient ≡ map (λ row. row.1) lenient
unfolding reading run_told answer_of number_of values_of listed layout_rules opened_as accepted joined_list list_store walk moved decide in_entry_lem entry_kind declared counting opens is_delimiter entry_record position_in position_from first_of group_of group_since delimiter_of_lem stored reading-fields
user-tags = refl

-- 21 comes before any other verdict on a field, 10 before 21: a field that can't be read is none
abbrev narrow : List ((ℕ × String) × RunTold)
narrow =
    ((3, "79=A|80=5|10=000|"), (0, 10 ∷ 0 ∷ [], (1, 1, 79, 3) ∷ (1, 1, 80, 8) ∷ []))
    ∷ ((2, "79=A|80=5|10=000|"), (21, [], []))
    ∷ ((2, "79=A|80=5|80=6|10=000|"), (21, [], []))
    ∷ ((0, "58=x|10=000|"), (21, [], []))
    ∷ ((1, "79=A|x"), (10, [], []))
    ∷ ((0, ""), (10, [], []))
    ∷ []

rooms : map (λ row. reading false allocations row.0.0 row.0.1) narrow ≡ map (λ row. row.1) narrow
unfolding reading run_told answer_of number_of values_of listed layout_rules opened_as accepted joined_list list_store walk moved decide in_entry_lem entry_kind declared counting opens is_delimiter entry_record position_in position_from first_of group_of group_since delimiter_of_lem stored reading-fields
rooms = refl

-- a delimiter that is itself a group tag is stored plain
abbrev delimiter_is_count : Layout
delimiter_is_count = group 79 false (field 80 false end) (field 81 false end)

-- 80 stands twice: its position is the first. 79 stands twice: each delimiter opens an entry
abbrev twice : Layout
twice = field 79 false (field 80 false (field 81 false (field 80 false (field 79 false end))))

-- five groups, each in the one before: the fifth count is stored plain
abbrev deep : Layout
deep = field 1 false (group 2 false (field 3 false (group 4 false (field 5 false (group 6 false (field 7 false (group 8 false (field 9 false end) end)) end)) end)) end)

abbrev odd : List ((Layout × String) × RunTold)
odd =
    ((delimiter_is_count, "79=1|81=x|79=2|10=000|"), (0, 10 ∷ 96 ∷ [], (1, 1, 79, 3) ∷ (1, 1, 81, 8) ∷ (1, 2, 79, 13) ∷ []))
    ∷ ((delimiter_is_count, "79=1|80=x|10=000|"), (0, 80 ∷ 98 ∷ [], (1, 1, 79, 3) ∷ []))
    ∷ ((twice, "79=A|80=1|81=2|80=3|10=000|"), (2, 80 ∷ 78 ∷ [], []))
    ∷ ((twice, "79=A|81=2|80=3|10=000|"), (2, 80 ∷ 78 ∷ [], []))
    ∷ ((twice, "79=A|80=1|79=B|10=000|"), (0, 10 ∷ 96 ∷ [], (1, 1, 79, 3) ∷ (1, 1, 80, 8) ∷ (1, 2, 79, 13) ∷ []))
    ∷ ((deep, "1=a|2=1|3=b|4=1|5=c|6=1|7=d|8=1|9=e|10=000|"), (0, 9 ∷ 91 ∷ [], (1, 1, 1, 2) ∷ (1, 1, 2, 6) ∷ (2, 1, 3, 10) ∷ (2, 1, 4, 14) ∷ (3, 1, 5, 18) ∷ (3, 1, 6, 22) ∷ (4, 1, 7, 26) ∷ (4, 1, 8, 30) ∷ []))
    ∷ ((end, "79=A|10=000|"), (2, 79 ∷ 78 ∷ [], []))
    ∷ []

odd_layouts : map (λ row. reading true row.0.0 100 row.0.1) odd ≡ map (λ row. row.1) odd
unfolding reading run_told answer_of number_of values_of listed layout_rules opened_as accepted joined_list list_store walk moved decide in_entry_lem entry_kind declared counting opens is_delimiter entry_record position_in position_from first_of group_of group_since delimiter_of_lem stored reading-fields
odd_layouts = refl
