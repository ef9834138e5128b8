-- Worked examples of the check: one table of dictionaries with the number and the values that the rules give, under one statement that
-- antt computes. A wrong definition is refused here, whatever code is proved against it.
use Rattle.std.specs.Prelude.{◌≡◌, refl, List, [], ◌∷◌, ◌++◌, map, ℕ, ◌+◌, ◌/◌, ◌%◌, take, replicate}
use Prim.Native.String.{String}
use Rattle.std.proofs.Common.{arith}
use Rattle.std.proofs.lemmas.List.{length-replicate}
use Rattle.field_rules.specs.Text.{bytes}
use Rattle.dictionary_rules.specs.Record.{low_first, record_body_length, with_tag, with_mark, zero_filled, known_tag, opens_component, opens_message, field_item_lem}
use Rattle.dictionary_rules.specs.Record.{component_item_lem, opens_group, record_body, with_body, with_kind, record_from, record_at}
use Rattle.dictionary_rules.specs.Records.{followed_by, records_within, records_from}
use Rattle.dictionary_rules.specs.Step.{depth_of, opened, opens, deeper, grown, held_also, held_with, stands_for, at_top_lem, inside, closed_before, known_before}
use Rattle.dictionary_rules.specs.Step.{not_empty, not_too_deep, once_component, once_message, not_too_many, on_tag, on_component, on_message, on_field, on_item}
use Rattle.dictionary_rules.specs.Step.{on_group, closes_owner, closes_group, closes_innermost, on_close, step_of, present, at_end}
use Rattle.dictionary_rules.specs.Check.{on_step, walked, too_long, read_of, answer_of, check_of, number_of_check, values_of_check}
use Rattle.dictionary_rules.proofs.Prepared.{check_long}
use Rattle.dictionary_rules.specs.declared.Checked.TheVariants.{TooLong}
use Rattle.dictionary_rules.specs.Names.{is_known, component_in, message_in, looks_in, named, no_names}

-- the records of a dictionary; a plain item is not required, one with `!` is
abbrev number : ℕ → List ℕ
number n = n % 256 ∷ n / 256 ∷ []

abbrev tag_bytes : ℕ → List ℕ
tag_bytes t = t % 256 ∷ t / 256 % 256 ∷ t / 65536 % 256 ∷ t / 16777216 ∷ []

abbrev tag : ℕ → List ℕ
tag t = 1 ∷ tag_bytes t

abbrev component : ℕ → List ℕ
component n = 2 ∷ number n

abbrev message : String → List ℕ
message text = 3 ∷ take 8 (bytes text ++ (0 ∷ 0 ∷ 0 ∷ 0 ∷ 0 ∷ 0 ∷ 0 ∷ 0 ∷ []))

abbrev field : ℕ → List ℕ
field t = 4 ∷ (tag_bytes t ++ (0 ∷ []))

abbrev field! : ℕ → List ℕ
field! t = 4 ∷ (tag_bytes t ++ (1 ∷ []))

abbrev item : ℕ → List ℕ
item n = 5 ∷ (number n ++ (0 ∷ []))

abbrev group : ℕ → List ℕ
group t = 6 ∷ (tag_bytes t ++ (0 ∷ []))

abbrev close : List ℕ
close = 7 ∷ []

abbrev joined : List (List ℕ) → List ℕ
joined [] = []
joined (r ∷ rs) = r ++ joined rs

-- the least dictionary: header and trailer, both empty; 8 bytes
abbrev least : List ℕ
least = joined (component 0 ∷ close ∷ component 1 ∷ close ∷ [])

-- the dictionary of the rules' examples: "header 8 9 35 34 49; trailer 93 89 10; message `0` with 112; message `D` with 38, group 78 (79 and
-- 80 required; group 539 with 524 required, 525), 58"
abbrev pub examples : List ℕ
examples =
    joined (
    tag 8 ∷ tag 9 ∷ tag 35 ∷ tag 34 ∷ tag 49 ∷ tag 93 ∷ tag 89 ∷ tag 10 ∷ tag 112 ∷ tag 38 ∷ tag 78 ∷ tag 79 ∷ tag 80 ∷ tag 539 ∷ tag 524 ∷ tag 525 ∷ tag 58
    ∷ component 0 ∷ field 8 ∷ field 9 ∷ field 35 ∷ field 34 ∷ field 49 ∷ close
    ∷ component 1 ∷ field 93 ∷ field 89 ∷ field 10 ∷ close
    ∷ message "0" ∷ field 112 ∷ close
    ∷ message "D" ∷ field 38
    ∷ group 78 ∷ field! 79 ∷ field! 80 ∷ group 539 ∷ field! 524 ∷ field 525 ∷ close ∷ close
    ∷ field 58 ∷ close
    ∷ [])

-- components of 2, 4, 8 .. 1,024 items, numbered 1 to 10: each holds the one before twice; 5 + 16 + 9 * 12 = 129 bytes
abbrev doubled : ℕ → List ℕ
doubled n = joined (component (n + 1) ∷ item n ∷ item n ∷ close ∷ [])

abbrev thousand : List ℕ
thousand =
    joined (tag 8 ∷ component 1 ∷ field 8 ∷ field 8 ∷ close ∷ doubled 1 ∷ doubled 2 ∷ doubled 3 ∷ doubled 4 ∷ doubled 5 ∷ doubled 6 ∷ doubled 7 ∷ doubled 8
    ∷ doubled 9 ∷ [])

-- four groups, one in the other, from inside a component of a dictionary that knows tag 8
abbrev four : List ℕ
four = joined (group 8 ∷ group 8 ∷ group 8 ∷ group 8 ∷ [])

-- a dictionary, the number and the values
abbrev Row : Type 0
Row = List ℕ × ℕ × List ℕ

abbrev table : List Row
table =
    -- passes: the least; the rules'; a repeated 1; four deep; a use in the same and in a later component; MsgTypes that differ in length
    (least, 0, [])
    ∷ (examples, 0, [])
    ∷ (joined (tag 8 ∷ tag 8 ∷ least ∷ []), 0, [])
    ∷ (joined (tag 8 ∷ component 5 ∷ four ∷ field 8 ∷ close ∷ close ∷ close ∷ close ∷ close ∷ least ∷ []), 0, [])
    ∷ (joined (component 5 ∷ close ∷ component 6 ∷ item 5 ∷ item 5 ∷ close ∷ least ∷ []), 0, [])
    ∷ (joined (message "D" ∷ close ∷ message "DD" ∷ close ∷ message "ABCDEFGH" ∷ close ∷ least ∷ []), 0, [])
    -- 31: bad kinds; a cut record; tag 0; a bad mark; bad MsgTypes
    ∷ (0 ∷ [], 31, 0 ∷ [])
    ∷ (8 ∷ [], 31, 0 ∷ [])
    ∷ (joined (least ∷ (1 ∷ 8 ∷ 0 ∷ 0 ∷ []) ∷ []), 31, 8 ∷ [])
    ∷ (joined (tag 8 ∷ tag 0 ∷ []), 31, 5 ∷ [])
    ∷ (joined (tag 8 ∷ component 0 ∷ field 0 ∷ []), 31, 8 ∷ [])
    ∷ (joined (tag 8 ∷ component 0 ∷ (4 ∷ (tag_bytes 8 ++ (2 ∷ []))) ∷ []), 31, 8 ∷ [])
    ∷ (joined (component 5 ∷ close ∷ component 0 ∷ (5 ∷ 5 ∷ 0 ∷ 2 ∷ []) ∷ []), 31, 7 ∷ [])
    ∷ (message "", 31, 0 ∷ [])
    ∷ (3 ∷ 68 ∷ 0 ∷ 69 ∷ 0 ∷ 0 ∷ 0 ∷ 0 ∷ 0 ∷ [], 31, 0 ∷ [])
    -- 31: 1 to 3 inside something open, 4 to 7 at top level
    ∷ (joined (component 0 ∷ tag 8 ∷ []), 31, 3 ∷ [])
    ∷ (joined (component 0 ∷ component 1 ∷ []), 31, 3 ∷ [])
    ∷ (joined (component 0 ∷ message "D" ∷ []), 31, 3 ∷ [])
    ∷ (joined (tag 8 ∷ field 8 ∷ []), 31, 5 ∷ [])
    ∷ (joined (component 5 ∷ close ∷ item 5 ∷ []), 31, 4 ∷ [])
    ∷ (joined (tag 8 ∷ group 8 ∷ []), 31, 5 ∷ [])
    ∷ (close, 31, 0 ∷ [])
    -- 31: left open, at the length; a cut last record wins over that
    ∷ (component 0, 31, 3 ∷ [])
    ∷ (joined (component 0 ∷ (4 ∷ 8 ∷ []) ∷ []), 31, 3 ∷ [])
    -- 32: components 0 and 1 at the end; missing; used before its close
    ∷ ([], 32, 0 ∷ [])
    ∷ (joined (component 0 ∷ close ∷ []), 32, 1 ∷ [])
    ∷ (joined (component 1 ∷ close ∷ []), 32, 0 ∷ [])
    ∷ (joined (component 5 ∷ item 300 ∷ []), 32, 300 ∷ [])
    ∷ (joined (component 5 ∷ item 5 ∷ []), 32, 5 ∷ [])
    -- 33: an item's and a group's tag, and a tag that is known only later
    ∷ (joined (component 5 ∷ field 4294967295 ∷ []), 33, 4294967295 ∷ [])
    ∷ (joined (component 5 ∷ group 78 ∷ []), 33, 78 ∷ [])
    ∷ (joined (component 5 ∷ field 8 ∷ close ∷ tag 8 ∷ []), 33, 8 ∷ [])
    -- 34: an empty group; one that holds only an empty component
    ∷ (joined (tag 78 ∷ component 5 ∷ group 78 ∷ close ∷ []), 34, 78 ∷ [])
    ∷ (joined (tag 78 ∷ component 9 ∷ close ∷ component 5 ∷ group 78 ∷ item 9 ∷ close ∷ []), 34, 78 ∷ [])
    -- 35: five groups; four groups and a component of depth one; three and a component of depth two
    ∷ (joined (tag 8 ∷ component 5 ∷ four ∷ group 8 ∷ []), 35, 32 ∷ [])
    ∷ (joined (tag 8 ∷ component 9 ∷ group 8 ∷ field 8 ∷ close ∷ close ∷ message "D" ∷ four ∷ item 9 ∷ []), 35, 55 ∷ [])
    ∷ (
      joined (tag 8 ∷ component 9 ∷ group 8 ∷ group 8 ∷ field 8 ∷ close ∷ close ∷ close ∷ component 5 ∷ group 8 ∷ group 8 ∷ group 8 ∷ item 9 ∷ []),
      35,
      50 ∷ [],
    )
    -- 35: the deepest group counts, also where one less deep comes after it
    ∷ (
      joined (tag 8 ∷ component 9 ∷ group 8 ∷ group 8 ∷ field 8 ∷ close ∷ close ∷ group 8 ∷ field 8 ∷ close ∷ close ∷ component 5 ∷ group 8 ∷ group 8
          ∷ group 8 ∷ item 9 ∷ []),
      35,
      63 ∷ [],
    )
    -- 36: a component's number, a MsgType
    ∷ (joined (least ∷ component 0 ∷ []), 36, 8 ∷ [])
    ∷ (joined (message "D" ∷ close ∷ message "D" ∷ []), 36, 10 ∷ [])
    -- 37: 1,024 items pass; one more does not, as a field, as a group, or in a component
    ∷ (joined (thousand ∷ message "D" ∷ item 10 ∷ close ∷ component 0 ∷ close ∷ []), 0, [])
    ∷ (joined (thousand ∷ message "D" ∷ item 10 ∷ field 8 ∷ []), 37, 142 ∷ [])
    ∷ (joined (thousand ∷ message "D" ∷ item 10 ∷ group 8 ∷ []), 37, 142 ∷ [])
    ∷ (joined (thousand ∷ message "D" ∷ field 8 ∷ item 10 ∷ []), 37, 144 ∷ [])
    -- in number order, where two meet at one record: 31 before 33, 32 before 35, 33 before 35 and 37, 35 before 37 at an item and at a group
    ∷ (field 8, 31, 0 ∷ [])
    ∷ (joined (tag 8 ∷ component 5 ∷ four ∷ item 300 ∷ []), 32, 300 ∷ [])
    ∷ (joined (tag 8 ∷ component 5 ∷ four ∷ group 9 ∷ []), 33, 9 ∷ [])
    ∷ (joined (thousand ∷ message "D" ∷ item 10 ∷ field 9 ∷ []), 33, 9 ∷ [])
    ∷ (joined (thousand ∷ message "D" ∷ item 10 ∷ []), 31, 142 ∷ [])
    ∷ (joined (thousand ∷ component 11 ∷ group 8 ∷ item 9 ∷ close ∷ close ∷ message "D" ∷ four ∷ item 9 ∷ item 11 ∷ []), 35, 181 ∷ [])
    ∷ (joined (thousand ∷ message "D" ∷ four ∷ item 9 ∷ item 8 ∷ item 7 ∷ item 6 ∷ item 5 ∷ item 4 ∷ item 3 ∷ item 2 ∷ group 8 ∷ []), 35, 194 ∷ [])
    ∷ []

answers : map (λ (row : Row). number_of_check (check_of row.0) ∷ values_of_check (check_of row.0)) table ≡ map (λ (row : Row). row.1 ∷ row.2) table
unfolding check_of number_of_check values_of_check read_of answer_of too_long walked on_step is_known component_in message_in looks_in named no_names step_of on_tag
    on_component on_message on_field on_item on_group on_close closes_innermost closes_group closes_owner at_top_lem inside closed_before known_before not_empty not_too_deep
    not_too_many once_component once_message stands_for held_with held_also grown opens opened deeper depth_of present at_end records_from records_within followed_by
    record_at record_from with_kind with_body record_body known_tag opens_component opens_message field_item_lem component_item_lem opens_group with_tag with_mark zero_filled
    record_body_length low_first
answers = refl

pub examples_pass : number_of_check (check_of examples) ≡ 0
unfolding check_of number_of_check read_of answer_of too_long walked on_step is_known component_in message_in looks_in named no_names step_of on_tag on_component on_message
    on_field on_item on_group on_close closes_innermost closes_group closes_owner at_top_lem inside closed_before known_before not_empty not_too_deep not_too_many once_component
    once_message stands_for held_with held_also grown opens opened deeper depth_of present at_end records_from records_within followed_by record_at record_from with_kind
    with_body record_body known_tag opens_component opens_message field_item_lem component_item_lem opens_group with_tag with_mark zero_filled record_body_length low_first
examples_pass = refl

-- 30: one byte over 60,000, whatever it holds
over_long : check_of (replicate 60001 0) ≡ TooLong
over_long = check_long (replicate 60001 0) (rw (length-replicate {A = ℕ} 60001 0) (omega arith))

too_long_returns : (number_of_check TooLong ≡ 30) × (values_of_check TooLong ≡ 60000 ∷ [])
unfolding number_of_check values_of_check
too_long_returns = (refl, refl)
