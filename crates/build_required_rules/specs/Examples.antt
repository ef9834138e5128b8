-- P6 and P8, and the order of the check, from the field behind the count on: a table under one statement that antt computes. The same over runs
-- that are written out as trees.
use Rattle.std.specs.Prelude.{◌≡◌, refl, List, [], ◌∷◌, map, true, false, ℕ}
use Prim.Native.String.{String}
use Rattle.build_config.specs.Settings.{validating}
use Rattle.field_rules.specs.Computing.{reading-fields}
use Rattle.field_rules.specs.Text.{bytes}
use Rattle.field_rules.specs.Field.{start_at, separated_by}
use Rattle.field_rules.specs.Fields.{fields_from}
use Rattle.dictionary_layout_rules.specs.Layout.{Layout, end, field, group, first_of, position_from, position_in, group_since, group_of, delimiter_of_lem, required_tags}
use Rattle.dictionary_layout_rules.specs.Tree.{holds_tag}
use Rattle.build_records.specs.Records.{stored}
use Rattle.build_records.specs.declared.Record.{Record}
use Rattle.build_answers.specs.Answer.{number_of, values_of, listed}
use Rattle.build_group_rules.specs.Groups.{is_delimiter, opens, counting, declared, entry_kind, run, outermost, in_entry_lem, decide, entry_record, RunOutcome, ended, refused}
use Rattle.build_group_rules.specs.Groups.{moved, walk}
use Rattle.build_group_rules.specs.Reading.{answer_of, accepted, opened_as, layout_rules, joined_list, list_store}
use Rattle.build_required_rules.specs.Required.{or_else, has, fields_lack, before, shallow, run_lacks, nested_lack, entries_lack, opens_entry, entry_lack}
use Rattle.build_required_rules.specs.Required.{run_lack}
use Rattle.build_required_rules.specs.Tree.{Run, no_entry, entry, Entry, no_field, field as own, holds, own_lacks, by_level, run_lacks as lacks_of, first_lack}
use Rattle.build_required_rules.specs.Tree.{tree_lack, laid}
use Rattle.build_required_rules.specs.Checking.{answer_of_lack, layout_demands}
use Rattle.build_required_rules.specs.declared.Lack.{Lack}

abbrev Told : Type 0
Told = ℕ × (List ℕ)

unfoldable answer : Lack → Told
answer lack = (number_of (answer_of_lack lack), listed (answer_of_lack lack))

-- "After a body group ends": what was read is checked, a refusal stands
unfoldable checked : Layout → RunOutcome (List Record) (List Record) → Told
checked layout (ended f rest room rs) = answer (run_lack layout_demands 4 layout 78 1 rs)
checked layout (refused refusal rs) = (number_of (answer_of refusal), listed (answer_of refusal))

-- the run of 78, from the field behind its count on
unfoldable run_in : Layout → String → RunOutcome (List Record) (List Record)
run_in layout text =
    let rules = layout_rules (accepted (validating false) (λ (tag : ℕ). false)) in
    walk rules list_store 100 (run (outermost 78 layout) 0 ∷ []) [] (fields_from (separated_by 1) (bytes text) (start_at 0))

unfoldable verdict : Layout → String → Told
verdict layout text = checked layout (run_in layout text)

-- "group 78 (79 and 80 required; group 539 with 524 required, 525)"
abbrev allocations : Layout
allocations = field 79 true (field 80 true (group 539 false (field 524 true (field 525 false end)) end))

-- a group with two groups in it, each of which asks for a field; 85 is required behind them, and 79 at its second place only
abbrev two : Layout
two =
    field 79 false
    (group 81 false (field 82 false (field 83 true end)) (group 91 false (field 92 false (field 93 true end)) (field 79 true (field 85 true end))))

abbrev table : List ((Layout × String) × Told)
table =
    ((allocations, "79=A|80=5|10=000|"), (0, []))
    ∷ ((allocations, "79=A|58=x|10=000|"), (4, 80 ∷ 78 ∷ []))
    ∷ ((allocations, "79=A|80=5|80=6|10=000|"), (2, 80 ∷ 78 ∷ []))
    ∷ ((allocations, "79=A|80=5|79=B|10=000|"), (4, 80 ∷ 78 ∷ []))
    ∷ ((allocations, "79=A|539=1|524=p|10=000|"), (4, 80 ∷ 78 ∷ []))
    ∷ ((allocations, "79=A|539=1|525=p|10=000|"), (2, 525 ∷ 539 ∷ []))
    ∷ ((allocations, "79=A|5001=x|80=5|5001=y|10=000|"), (0, []))
    ∷ ((two, "79=A|81=1|82=x|91=1|92=y|85=z|10=000|"), (4, 83 ∷ 81 ∷ []))
    ∷ ((two, "79=A|81=1|82=x|83=x|91=1|92=y|85=z|10=000|"), (4, 93 ∷ 91 ∷ []))
    ∷ ((two, "79=A|81=1|82=x|83=x|82=x|91=1|92=y|85=z|10=000|"), (4, 83 ∷ 81 ∷ []))
    ∷ ((two, "79=A|81=1|82=x|91=1|92=y|10=000|"), (4, 85 ∷ 78 ∷ []))
    ∷ ((two, "79=A|81=1|82=x|83=x|85=z|79=B|10=000|"), (4, 85 ∷ 78 ∷ []))
    ∷ ((two, "79=A|91=1|92=y|85=z|79=B|10=000|"), (4, 93 ∷ 91 ∷ []))
    ∷ ((two, "79=A|85=z|79=B|85=z|10=000|"), (0, []))
    ∷ []

all_hold : map (λ row. verdict row.0.0 row.0.1) table ≡ map (λ row. row.1) table
unfolding verdict run_in checked answer answer_of_lack number_of values_of listed answer_of layout_demands run_lack entry_lack opens_entry entries_lack nested_lack
    run_lacks shallow before fields_lack has or_else required_tags layout_rules opened_as accepted joined_list list_store walk moved decide in_entry_lem entry_kind
    declared counting opens is_delimiter entry_record position_in position_from first_of group_of group_since delimiter_of_lem holds_tag stored reading-fields
all_hold = refl

-- a field of a depth, an entry and a tag, wherever its value stands
unfoldable placed : ℕ → ℕ → ℕ → Record
placed depth number tag = record { part = 2; depth = depth; number = number; tag = tag; place = 0; length = 0 }

-- in an entry: a field on which no run hangs, and a count with its run
unfoldable plain : ℕ → ℕ → ℕ → Entry → Entry
plain depth number tag later = own (placed depth number tag) no_entry later

unfoldable count : ℕ → ℕ → ℕ → Run → Entry → Entry
count depth number tag hanging later = own (placed depth number tag) hanging later

-- where a record stands, and its tag
unfoldable standing : Record → ℕ × ℕ × ℕ
standing r = (r.depth, r.number, r.tag)

unfoldable kept : RunOutcome (List Record) (List Record) → List Record
kept (ended f rest room rs) = rs
kept (refused refusal rs) = []

-- a text, its run of 78 as a tree, all that the run lacks in the order of the rule, and the answer
record Written : Type 0 where
  layout : Layout
  text : String
  tree : Run
  lacks : List (ℕ × ℕ)
  answers : Told

-- the nested run of the first entry lacks 83, the second entry itself lacks 85: the first entry is judged first, with its runs
abbrev nested_of_first : Written
nested_of_first =
    record {
      layout = two;
      text = "79=A|81=1|82=x|85=z|79=B|10=000|";
      tree =
          entry (plain 1 1 79 (count 1 1 81 (entry (plain 2 1 82 no_field) no_entry) (plain 1 1 85 no_field)))
          (entry (plain 1 2 79 no_field) no_entry);
      lacks = (83, 81) ∷ (85, 78) ∷ [];
      answers = (4, 83 ∷ 81 ∷ []);
    }

-- in the message the runs stand before the place of 85: still the entry's own fields are judged before its runs
abbrev own_before_nested : Written
own_before_nested =
    record {
      layout = two;
      text = "79=A|81=1|82=x|91=1|92=y|10=000|";
      tree =
          entry
          (plain 1 1 79
          (count 1 1 81 (entry (plain 2 1 82 no_field) no_entry)
          (count 1 1 91 (entry (plain 2 1 92 no_field) no_entry) no_field)))
          no_entry;
      lacks = (85, 78) ∷ (83, 81) ∷ (93, 91) ∷ [];
      answers = (4, 85 ∷ 78 ∷ []);
    }

-- entries of a nested run one after the other: the second of 81 lacks 83
abbrev second_nested : Written
second_nested =
    record {
      layout = two;
      text = "79=A|81=2|82=x|83=x|82=y|85=z|10=000|";
      tree =
          entry
          (plain 1 1 79
          (count 1 1 81 (entry (plain 2 1 82 (plain 2 1 83 no_field)) (entry (plain 2 2 82 no_field) no_entry))
          (plain 1 1 85 no_field)))
          no_entry;
      lacks = (83, 81) ∷ [];
      answers = (4, 83 ∷ 81 ∷ []);
    }

-- 86 comes before 85 in the layout
abbrev ordered : Layout
ordered = field 79 true (field 86 true (field 85 true end))

-- "in layout order": both are lacked, and 86 comes first; a user tag changes nothing
abbrev layout_order : Written
layout_order =
    record {
      layout = ordered;
      text = "79=A|5001=x|10=000|";
      tree = entry (plain 1 1 79 (plain 1 1 5001 no_field)) no_entry;
      lacks = (86, 78) ∷ (85, 78) ∷ [];
      answers = (4, 86 ∷ 78 ∷ []);
    }

abbrev whole : Written
whole =
    record {
      layout = ordered;
      text = "79=A|86=x|85=y|10=000|";
      tree = entry (plain 1 1 79 (plain 1 1 86 (plain 1 1 85 no_field))) no_entry;
      lacks = [];
      answers = (0, []);
    }

abbrev trees : List Written
trees = nested_of_first ∷ own_before_nested ∷ second_nested ∷ layout_order ∷ whole ∷ []

-- what is read in the text is the tree laid out
trees-laid : map (λ row. map standing (kept (run_in row.layout row.text))) trees ≡ map (λ row. map standing (laid row.tree)) trees
unfolding run_in kept standing placed plain count laid layout_rules opened_as accepted joined_list list_store walk moved decide in_entry_lem entry_kind declared counting opens is_delimiter entry_record position_in position_from first_of group_of group_since delimiter_of_lem holds_tag stored reading-fields
trees-laid = refl

trees_lack : map (λ row. lacks_of layout_demands row.tree row.layout 78) trees ≡ map (λ row. row.lacks) trees
unfolding lacks_of by_level own_lacks holds placed plain count layout_demands opened_as group_of group_since required_tags holds_tag
trees_lack = refl

-- the tree's answer, and that of the records laid
trees-answered : map (λ row. answer (tree_lack layout_demands row.layout 78 row.tree)) trees ≡ map (λ row. row.answers) trees
unfolding tree_lack first_lack lacks_of by_level own_lacks holds placed plain count answer answer_of_lack number_of values_of listed layout_demands opened_as group_of group_since required_tags holds_tag
trees-answered = refl

laid-answered : map (λ row. answer (run_lack layout_demands 4 row.layout 78 1 (laid row.tree))) trees ≡ map (λ row. row.answers) trees
unfolding laid placed plain count answer answer_of_lack number_of values_of listed layout_demands run_lack entry_lack opens_entry entries_lack nested_lack run_lacks shallow before fields_lack has or_else opened_as is_delimiter first_of group_of group_since delimiter_of_lem required_tags holds_tag
laid-answered = refl
