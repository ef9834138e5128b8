-- A group of the standard that fits its layout, with the depth and entry number of each field; and for each condition of what fits the
-- smallest group of the standard without it, which is read otherwise.
use Rattle.std.specs.Prelude.{◌≡◌, refl, List, [], ◌∷◌, map, Bool, true, false, ℕ, ◌-◌, eqb}
use Rattle.std.proofs.Common.{inl, arith}
use Prim.Native.String.{String}
use Rattle.promise_standard.specs.Reading.{standard_mode}
use Rattle.field_rules.specs.Computing.{reading-fields}
use Rattle.field_rules.specs.Text.{bytes}
use Rattle.field_rules.specs.Number.{worth}
use Rattle.field_rules.specs.Field.{start_at}
use Rattle.field_rules.specs.Fields.{fields_from}
use Rattle.standard_rules.specs.Standard.{Body, Told, told, entries, Stands}
use Rattle.standard_rules.proofs.Samples.{Sample, no_count, in_body_lem, once, of-group, int}
use Rattle.dictionary_layout_rules.specs.Layout.{Layout, end, field, group, first_of, position_from, position_in, group_since, group_of, delimiter_of_lem}
use Rattle.build_records.specs.Records.{stored}
use Rattle.build_records.specs.declared.Record.{Record}
use Rattle.build_answers.specs.Answer.{number_of}
use Rattle.build_group_rules.specs.Groups.{is_delimiter, opens, counting, declared, entry_kind, run, outermost, in_entry_lem, decide, entry_record, RunOutcome, ended, refused, moved, walk}
use Rattle.build_group_rules.specs.Reading.{answer_of, opened_as, layout_rules, joined_list, list_store}
use Rattle.promise_standard.specs.Groups.{numbered, tag_behind, entries_of, Leaves, Rises, Fits}

-- no tag is taken that the layout lacks, or 5001 is
abbrev strict : ℕ → Bool
strict tag = false

abbrev lenient : ℕ → Bool
lenient tag = eqb tag 5001

-- "group 78 (79 and 80 required; group 539 with 524 required, 525)"
abbrev nested_parties : Layout
nested_parties = field 524 true (field 525 false end)

abbrev allocations : Layout
allocations = field 79 true (field 80 true (group 539 false nested_parties end))

-- "79=A|80=5|539=2|524=p|525=q|524=r|79=B|80=7|"
abbrev fields : List Told
fields = told 79 (65 ∷ []) ∷ told 80 (53 ∷ []) ∷ told 539 (50 ∷ []) ∷ told 524 (112 ∷ []) ∷ told 525 (113 ∷ []) ∷ told 524 (114 ∷ []) ∷ told 79 (66 ∷ []) ∷ told 80 (55 ∷ []) ∷ []

abbrev parties : Stands Sample (Body Sample) (entries 539 524 2) (told 524 (112 ∷ []) ∷ told 525 (113 ∷ []) ∷ told 524 (114 ∷ []) ∷ [])
parties =
    Stands.entry (Stands.field (in_body_lem 524 refl refl) (no_count 524 refl) (Stands.field (in_body_lem 525 refl refl) (no_count 525 refl) Stands.no_member)) (of-group 539 (524 ∷ 525 ∷ []) refl) (once (524 ∷ 525 ∷ []) refl)
    (Stands.entry (Stands.field (in_body_lem 524 refl refl) (no_count 524 refl) Stands.no_member) (of-group 539 (524 ∷ []) refl) (once (524 ∷ []) refl) Stands.no_entry)

abbrev allocated : Stands Sample (Body Sample) (entries 78 79 2) fields
allocated =
    Stands.entry
    (Stands.field (in_body_lem 79 refl refl) (no_count 79 refl)
    (Stands.field (in_body_lem 80 refl refl) (no_count 80 refl)
    (Stands.group (in_body_lem 539 refl refl) refl (int (50 ∷ []) 2 refl) parties Stands.no_member)))
    (of-group 78 (79 ∷ 80 ∷ 539 ∷ []) refl) (once (79 ∷ 80 ∷ 539 ∷ []) refl)
    (Stands.entry (Stands.field (in_body_lem 79 refl refl) (no_count 79 refl) (Stands.field (in_body_lem 80 refl refl) (no_count 80 refl) Stands.no_member)) (of-group 78 (79 ∷ 80 ∷ []) refl) (once (79 ∷ 80 ∷ []) refl) Stands.no_entry)

quantity_rises : Rises (layout_rules strict) allocations 0 1 80
unfolding layout_rules opens is_delimiter position_in position_from first_of delimiter_of_lem
quantity_rises = record { no_delimiter = refl; placed = refl; rises = omega arith }

count_rises : Rises (layout_rules strict) allocations 1 2 539
unfolding layout_rules opens is_delimiter position_in position_from first_of delimiter_of_lem
count_rises = record { no_delimiter = refl; placed = refl; rises = omega arith }

source_rises : Rises (layout_rules strict) nested_parties 0 1 525
unfolding layout_rules opens is_delimiter position_in position_from first_of delimiter_of_lem
source_rises = record { no_delimiter = refl; placed = refl; rises = omega arith }

-- behind it stands 10
allocated_fits : Fits (layout_rules strict) (entries_of allocations 1) 10 (entries 78 79 2) fields allocated
unfolding layout_rules opens is_delimiter position_in position_from first_of group_of group_since delimiter_of_lem opened_as tag_behind
allocated_fits =
    let inner : Fits (layout_rules strict) (entries_of nested_parties 2) 79 _ _ parties = Fits.starts refl (Fits.plain source_rises (inl refl) Fits.no_member) (Fits.starts refl Fits.no_member Fits.no_entry) in
    let leaves : Leaves (layout_rules strict) nested_parties 79 = record { no_delimiter = refl; no_position = refl; not_accepted = refl } in
    Fits.starts refl (Fits.plain quantity_rises (inl refl) (Fits.nested {depth = 1} count_rises refl (omega arith) leaves inner Fits.no_member)) (Fits.starts refl (Fits.plain quantity_rises (inl refl) Fits.no_member) Fits.no_entry)

allocated-leaves : Leaves (layout_rules strict) allocations 10
unfolding layout_rules opens is_delimiter position_in position_from first_of delimiter_of_lem
allocated-leaves = record { no_delimiter = refl; no_position = refl; not_accepted = refl }

allocated-numbered : numbered 1 0 allocated ≡ (1, 1) ∷ (1, 1) ∷ (1, 1) ∷ (2, 1) ∷ (2, 1) ∷ (2, 2) ∷ (1, 2) ∷ (1, 2) ∷ []
unfolding numbered
allocated-numbered = refl

-- ===== what does not fit =====

-- 0, the tag that ended the run, and for each record its depth, entry number and tag; or the refusal's number
abbrev Reading : Type 0
Reading = ℕ × ℕ × (List (ℕ × ℕ × ℕ))

unfoldable shown : RunOutcome (List Record) (List Record) → Reading
shown (ended f rest room rs) = (0, f.tag, map (λ (r : Record). (r.depth, r.number, r.tag)) rs)
shown (refused refusal rs) = (number_of (answer_of refusal), 0, [])

unfoldable reading : (ℕ → Bool) → Layout → String → Reading
reading accepts layout text =
    shown (walk (layout_rules accepts) list_store 100 (run (outermost 78 layout) 0 ∷ []) [] (fields_from standard_mode (bytes text) (start_at 0)))

abbrev one : Layout
one = field 79 false end

abbrev pair : Layout
pair = field 79 false (field 80 false end)

abbrev nesting : Layout
nesting = field 79 false (group 539 false (field 524 false end) end)

-- 80 is declared in the nested level and in the outer one
abbrev shared : Layout
shared = field 79 false (group 539 false (field 524 false (field 80 false end)) (field 80 false end))

-- five groups, each in the one before
abbrev deep : Layout
deep = field 1 false (group 2 false (field 3 false (group 4 false (field 5 false (group 6 false (field 7 false (group 11 false (field 12 false end) end)) end)) end)) end)

-- the fields of one entry in the standard's structure, up to the last one, which stands behind the group
abbrev unfit : List ((Layout × String) × Reading)
unfit =
    -- it starts with another tag than the delimiter
    ((pair, "80=A|10=0|"), (2, 0, []))
    -- its delimiter is a group: "a delimiter that is itself a group tag is stored plain"
    ∷ ((group 79 false (field 80 false end) end, "79=1|80=A|10=0|"), (0, 80, (1, 1, 79) ∷ []))
    -- a member does not rise in position
    ∷ ((field 79 false (field 80 false (field 81 false end)), "79=A|81=B|80=C|10=0|"), (2, 0, []))
    -- a member is not declared
    ∷ ((one, "79=A|80=B|10=0|"), (0, 80, (1, 1, 79) ∷ []))
    -- a field is a group of the layout
    ∷ ((nesting, "79=A|539=0|10=0|"), (2, 0, []))
    -- a group is a field of the layout
    ∷ ((pair, "79=A|80=1|81=B|10=0|"), (0, 81, (1, 1, 79) ∷ (1, 1, 80) ∷ []))
    -- a fifth level: 12 is the entry of the group 11
    ∷ ((deep, "1=a|2=1|3=b|4=1|5=c|6=1|7=d|11=1|12=e|10=0|"), (0, 12, (1, 1, 1) ∷ (1, 1, 2) ∷ (2, 1, 3) ∷ (2, 1, 4) ∷ (3, 1, 5) ∷ (3, 1, 6) ∷ (4, 1, 7) ∷ (4, 1, 11) ∷ []))
    -- the nested group takes the tag behind it, which the standard's structure has in the outer entry
    ∷ ((shared, "79=A|539=1|524=B|80=C|10=0|"), (0, 10, (1, 1, 79) ∷ (1, 1, 539) ∷ (2, 1, 524) ∷ (2, 1, 80) ∷ []))
    -- the group takes the tag behind it, which the standard's structure has outside: the delimiter; a declared tag
    ∷ ((one, "79=A|79=B|10=0|"), (0, 10, (1, 1, 79) ∷ (1, 2, 79) ∷ []))
    ∷ ((pair, "79=A|80=B|10=0|"), (0, 10, (1, 1, 79) ∷ (1, 1, 80) ∷ []))
    ∷ []

unfit-read : map (λ row. reading strict row.0.0 row.0.1) unfit ≡ map (λ row. row.1) unfit
unfolding reading shown answer_of number_of layout_rules opened_as joined_list list_store walk moved decide in_entry_lem entry_kind declared counting opens is_delimiter entry_record position_in position_from first_of group_of group_since delimiter_of_lem stored reading-fields
unfit-read = refl

-- validation off: an unknown user tag behind the group joins its entry, and behind a nested group that group's entry
abbrev user : List ((Layout × String) × Reading)
user =
    ((one, "79=A|5001=B|10=0|"), (0, 10, (1, 1, 79) ∷ (1, 1, 5001) ∷ []))
    ∷ ((nesting, "79=A|539=1|524=B|5001=C|10=0|"), (0, 10, (1, 1, 79) ∷ (1, 1, 539) ∷ (2, 1, 524) ∷ (2, 1, 5001) ∷ []))
    ∷ []

user-read : map (λ row. reading lenient row.0.0 row.0.1) user ≡ map (λ row. row.1) user
unfolding reading shown answer_of number_of layout_rules opened_as joined_list list_store walk moved decide in_entry_lem entry_kind declared counting opens is_delimiter entry_record position_in position_from first_of group_of group_since delimiter_of_lem stored reading-fields
user-read = refl
