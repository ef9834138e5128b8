-- The tags that a run of a group is refused with fit in 32 bits: of fields that were read, of counts, and of the dictionary where a required
-- field lacks.
use Rattle.std.specs.Prelude.{ℕ, zero, suc, ◌+◌, ◌<◌, ◌^◌, ◌≡◌, Bool, true, false, List, [], ◌∷◌, ◌++◌, length, take, drop, eqb}
use Rattle.std.proofs.Common.{sym, arith, take-append-drop}
use Rattle.field_rules.specs.Choice.{pick}
use Rattle.field_rules.specs.Fields.{Fields, unreadable, field, fields_from, Each, each_field}
use Rattle.field_rules.proofs.FieldsLaws.{each_read}
use Rattle.field_rules.proofs.SpelledLaws.{spells}
use Rattle.field_rules.specs.declared.Mode.{Mode}
use Rattle.field_rules.specs.declared.Cursor.{Cursor}
use Rattle.field_rules.specs.declared.Field.{Field}
use Rattle.dictionary_layout_rules.specs.Layout.{Layout, Group, none as no_group, entries, group_of}
use Rattle.build_records.specs.declared.Record.{Record}
use Rattle.build_group_rules.specs.Groups.{Rules, Opened, none, opened, OpenGroup, OpenEntry, Frame, run, entry, Kind, plain, count, joins, wrong, ends, entry_kind, opens, Move, adds, joins_at, disorders, leaves, in_entry_lem, decide, entry_record, RunOutcome, moved, walk}
use Rattle.build_group_rules.specs.Groups.{ended as ran, refused as stops}
use Rattle.build_group_rules.specs.Reading.{joined_list, list_store, opened_as}
use Rattle.build_group_rules.specs.declared.Refusal.{Refusal}
use Rattle.build_group_rules.specs.declared.Refusal.TheVariants.{Malformed, TooManyFields, InvalidOrderInGroup}
use Rattle.build_required_rules.specs.Required.{or_else, has, fields_lack, before, shallow, run_lacks, nested_lack, entries_lack, entry_lack, run_lack}
use Rattle.build_required_rules.specs.Checking.{layout_demands}
use Rattle.build_required_rules.specs.declared.Lack.{Lack}
use Rattle.build_required_rules.specs.declared.Lack.TheVariants.{Missing, Complete}
use Rattle.build_nesting_laws.specs.Entries.{All, all_none, all_more, all_append, all-stored}
use Rattle.message_read_laws.specs.ShapeLaws.{all_left, all_right}
use Rattle.encode_rewriting_laws.proofs.PlainLaws.{tag-text}
use Rattle.promise_told.specs.LayoutNumbers.{Every, every_none, every_more, LayoutSmall, TagSmall, required_small, GroupSmall, group_of_small}

-- ===== the fields that are read =====

abbrev pub FieldTagSmall : Field → Type 0
FieldTagSmall f = f.tag < 2 ^ 32

pub fields_small : (mode : Mode) (message : List ℕ) (c : Cursor) → Each FieldTagSmall (fields_from mode message c)
fields_small mode message =
    each_read mode message FieldTagSmall
    (λ c f e. omega (arith, (tag-text (spells mode message c f e).text f.tag (spells mode message c f e).is_tag).digits.most))

pub first_small : {f : Field} {rest : Fields} → Each FieldTagSmall (field f rest) → f.tag < 2 ^ 32
first_small (each_field p e) = p

pub rest_small : {f : Field} {rest : Fields} → Each FieldTagSmall (field f rest) → Each FieldTagSmall rest
rest_small (each_field p e) = e

abbrev pub RecordTagSmall : Record → Type 0
RecordTagSmall r = r.tag < 2 ^ 32

-- ===== a run =====

-- what is open, with the tags of the counts that opened it
pub data StackSmall {L : Type 0} : List (Frame L) → Type 0 where
  nothing_open : StackSmall []
  run_open : {group : OpenGroup L} {number : ℕ} {below : List (Frame L)} → group.tag < 2 ^ 32 → StackSmall below
      → StackSmall (run group number ∷ below)
  entry_open : {group : OpenGroup L} {own : OpenEntry} {below : List (Frame L)} → group.tag < 2 ^ 32 → StackSmall below
      → StackSmall (entry group own ∷ below)

abbrev MoveSmall : {L : Type 0} → Move L → Type 0
MoveSmall (adds stack numbers) = StackSmall stack
MoveSmall (joins_at stack start numbers) = StackSmall stack
MoveSmall (disorders group) = group < 2 ^ 32
MoveSmall leaves = Unit {0}

move_pick : {L : Type 0} (b : Bool) (x y : Move L) → MoveSmall x → MoveSmall y → MoveSmall (pick b x y)
move_pick true x y p q = p
move_pick false x y p q = q

in_entry_small : {L : Type 0} (group : OpenGroup L) (own : OpenEntry) (below : List (Frame L)) (tag : ℕ) (otherwise : Move L) (k : Kind L)
    → group.tag < 2 ^ 32 → tag < 2 ^ 32 → StackSmall below → MoveSmall otherwise
    → MoveSmall (in_entry_lem group own below tag otherwise k)
unfolding in_entry_lem
in_entry_small group own below tag otherwise (plain position) g t s o = entry_open g s
in_entry_small group own below tag otherwise (count inner position) g t s o = run_open t (entry_open g s)
in_entry_small group own below tag otherwise joins g t s o = entry_open g s
in_entry_small group own below tag otherwise wrong g t s o = g
in_entry_small group own below tag otherwise ends g t s o = o

decide_small : {L : Type 0} (rules : Rules L) (here : ℕ) (stack : List (Frame L)) (tag : ℕ) → tag < 2 ^ 32 → StackSmall stack
    → MoveSmall (decide rules here stack tag)
unfolding decide
decide_small rules here [] tag t s = tt
decide_small rules here (run group number ∷ below) tag t (run_open g s) =
    move_pick (opens rules group.level tag) _ _ (entry_open g (run_open g s)) (move_pick (eqb number 0) _ _ g (decide_small rules here below tag t s))
decide_small rules here (entry group own ∷ below) tag t (entry_open g s) =
    in_entry_small group own below tag (decide rules here below tag) (entry_kind rules group.level group.depth own.last tag) g t s
    (decide_small rules here below tag t s)

abbrev pub RefusalSmall : Refusal → Type 0
RefusalSmall (Malformed cause place) = Unit {0}
RefusalSmall TooManyFields = Unit {0}
RefusalSmall (InvalidOrderInGroup tag group) = (tag < 2 ^ 32) × (group < 2 ^ 32)

-- how a run ends: at a field, with the records of its entries, or refused
abbrev pub RunSmall : RunOutcome (List Record) (List Record) → Type 0
RunSmall (ran f rest room rs) = Each FieldTagSmall (field f rest) × All RecordTagSmall rs
RunSmall (stops refusal rs) = RefusalSmall refusal

joined_small : (start : ℕ) (r : Record) (rs : List Record) → RecordTagSmall r → All RecordTagSmall rs → All RecordTagSmall (joined_list start r rs)
unfolding joined_list
joined_small start r rs p a =
    let whole : take start rs ++ drop start rs ≡ rs = take-append-drop start rs in
    all_append _ (all_left (take start rs) (drop start rs) (rw (sym whole) at a))
    (all-stored _ r p (all_right (take start rs) (drop start rs) (rw (sym whole) at a)))

pub walk_small : {L : Type 0} (rules : Rules L) (room : ℕ) (stack : List (Frame L)) (rs : List Record) (fields : Fields) → StackSmall stack
    → All RecordTagSmall rs → Each FieldTagSmall fields
    → RunSmall (walk rules list_store room stack rs fields)
unfolding walk list_store
walk_small rules room stack rs (unreadable cause place) s a e = tt
walk_small rules zero stack rs (field f rest) s a e = tt
walk_small {L} rules (suc room) stack rs (field f rest) s a e =
    by_move (decide rules (length rs) stack f.tag) (decide_small rules (length rs) stack f.tag (first_small e) s)
    (λ stack₁ rs₁ s₁ a₁. walk_small rules room stack₁ rs₁ rest s₁ a₁ (rest_small e))
  where
    added : (depth number : ℕ) → RecordTagSmall (entry_record depth number f)
    added depth number = unfold entry_record in first_small e

    by_move : (move : Move L) → MoveSmall move
        → ((stack₁ : List (Frame L)) (rs₁ : List Record) → StackSmall stack₁ → All RecordTagSmall rs₁ → RunSmall (walk rules list_store room stack₁ rs₁ rest))
        → RunSmall (moved list_store room rs f rest (λ stack₁ rs₁. walk rules list_store room stack₁ rs₁ rest) move)
    by_move (adds stack₁ numbers) m on = unfold moved in on stack₁ _ m (all_append _ a (all_more (added numbers.depth numbers.number) all_none))
    by_move (joins_at stack₁ start numbers) m on =
        unfold moved in on stack₁ _ m (joined_small start (entry_record numbers.depth numbers.number f) rs (added numbers.depth numbers.number) a)
    by_move (disorders group) m on = unfold moved in (first_small e, m)
    by_move leaves m on = unfold moved in (e, a)

-- ===== the required check =====

abbrev pub LackSmall : Lack → Type 0
LackSmall (Missing tag group) = (tag < 2 ^ 32) × (group < 2 ^ 32)
LackSmall Complete = Unit {0}

else_small : (a b : Lack) → LackSmall a → LackSmall b → LackSmall (or_else a b)
unfolding or_else
else_small (Missing tag group) b p q = p
else_small Complete b p q = q

lack_pick : (t : Bool) (a b : Lack) → LackSmall a → LackSmall b → LackSmall (pick t a b)
lack_pick true a b p q = p
lack_pick false a b p q = q

fields_lack_lem : {tags : List ℕ} (group depth : ℕ) (rs : List Record) → group < 2 ^ 32 → Every TagSmall tags → LackSmall (fields_lack tags group depth rs)
unfolding fields_lack
fields_lack_lem group depth rs g every_none = tt
fields_lack_lem group depth rs g (every_more {x = tag} p s) = lack_pick (has depth tag rs) _ _ (fields_lack_lem group depth rs g s) (p, g)

before_small : (test : Record → Bool) (rs : List Record) → All RecordTagSmall rs → All RecordTagSmall (before test rs)
unfolding before
before_small test [] a = all_none
before_small test (r ∷ rs) (all_more p a) = by_test (test r) (before_small test rs a)
  where
    by_test : (b : Bool) → All RecordTagSmall (before test rs) → All RecordTagSmall (pick b [] (r ∷ before test rs))
    by_test true later = all_none
    by_test false later = all_more p later

-- a lack in each run of a layout, of a count's tag and of its records, is small
abbrev pub RunsSmall : (Layout → ℕ → List Record → Lack) → Type 0
RunsSmall nested =
    (layout : Layout) (group : ℕ) (rs : List Record) → LayoutSmall layout → group < 2 ^ 32 → All RecordTagSmall rs → LackSmall (nested layout group rs)

abbrev pub OpenedSmall : Opened Layout → Type 0
OpenedSmall none = Unit {0}
OpenedSmall (opened layout) = LayoutSmall layout

pub opened_small : (g : Group) → GroupSmall g → OpenedSmall (opened_as g)
unfolding opened_as
opened_small no_group p = tt
opened_small (entries layout) p = p

nested_small : (nested : Layout → ℕ → List Record → Lack) → RunsSmall nested → (groups : ℕ → Opened Layout) → ((tag : ℕ) → OpenedSmall (groups tag))
    → (depth : ℕ) (rs : List Record) → All RecordTagSmall rs
    → LackSmall (nested_lack nested groups depth rs)
unfolding nested_lack
nested_small nested n groups g depth [] a = tt
nested_small nested n groups g depth (r ∷ rs) (all_more p a) =
    lack_pick (eqb r.depth depth) _ _ (else_small _ _ (run_lacks_lem (groups r.tag) (g r.tag)) (nested_small nested n groups g depth rs a))
    (nested_small nested n groups g depth rs a)
  where
    run_lacks_lem : (o : Opened Layout) → OpenedSmall o → LackSmall (run_lacks nested o r.tag (before (shallow depth) rs))
    run_lacks_lem none q = unfold run_lacks in tt
    run_lacks_lem (opened layout) q = unfold run_lacks in n layout r.tag _ q p (before_small (shallow depth) rs a)

entries_small : (check : List Record → Lack) → ((rs : List Record) → All RecordTagSmall rs → LackSmall (check rs))
    → (test : Record → Bool) (rs : List Record) → All RecordTagSmall rs
    → LackSmall (entries_lack check test rs)
unfolding entries_lack
entries_small check c test [] a = tt
entries_small check c test (r ∷ rs) (all_more p a) =
    lack_pick (test r) _ _ (else_small _ _ (c _ (all_more p (before_small test rs a))) (entries_small check c test rs a)) (entries_small check c test rs a)

pub run_small : (levels depth : ℕ) → RunsSmall (λ layout group rs. run_lack layout_demands levels layout group depth rs)
unfolding run_lack entry_lack layout_demands
run_small zero depth layout group rs l g a = tt
run_small (suc levels) depth layout group rs l g a =
    entries_small _
    (λ es b.
    else_small _ _ (fields_lack_lem group depth es g (required_small l))
    (nested_small _ (run_small levels (depth + 1)) (λ tag. opened_as (group_of tag layout))
    (λ tag. opened_small (group_of tag layout) (group_of_small tag l)) depth es b)) _ rs a
