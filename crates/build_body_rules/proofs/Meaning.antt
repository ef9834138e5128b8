-- What the body's contract means in the rules' terms: reading a body through a table is reading it through the layout that the table holds.
-- The body looks at nothing but the kind of a tag, the run of a count and the trailer's tags; where these are alike, the readings are the same.
use Rattle.std.specs.Prelude.{◌≡◌, Bool}
use Rattle.std.proofs.Math.Path.{refl, ap}
use Rattle.std.proofs.Common.{◌∙◌, Option, Some, None, ℕ}
use Rattle.std.proofs.Math.Bool.{true, false}
use mathlib.Core.List.{List, []}
use Prim.Native.Nat.{ℕ, zero, suc}
use Rattle.build_config.specs.declared.Config.{Config}
use Rattle.field_rules.specs.Choice.{pick}
use Rattle.field_rules.specs.Fields.{Fields, unreadable, field}
use Rattle.field_rules.specs.declared.Field.{Field}
use Rattle.dictionary_layout_rules.specs.Layout.{Layout}
use Rattle.dictionary_tables_rules.proofs.Tabled.{Tabled}
use Rattle.build_records.specs.Records.{stored}
use Rattle.build_records.specs.declared.Record.{Record}
use Rattle.build_group_rules.proofs.Alike.{OpenedAlike, none_alike, opened_alike, RulesAlike}
use Rattle.build_group_rules.specs.Groups.{Opened, Rules, outermost, RunOutcome}
use Rattle.build_group_rules.specs.Groups.{ended as ran, refused as stops}
use Rattle.build_group_rules.proofs.Meaning.{rules_alike, table-reads}
use Rattle.build_group_rules.specs.Reading.{accepted, table_rules, layout_rules, list_store}
use Rattle.build_required_rules.specs.Checking.{table_demands, layout_demands}
use Rattle.build_required_rules.proofs.Meaning.{table_checks}
use Rattle.build_parts.specs.Parts.{Reading, ended, refused, part_record}
use Rattle.build_body_rules.specs.Body.{Kind, plain, counts, other, Body, and_then, next_from, with_run, takes, body_within, body_from}
use Rattle.build_body_rules.specs.Kinds.{group_kind, placed_kind, body_kind, checked, ran_as, run_from, body_of}

-- how reading goes on matters only by what it comes to
then_same : (r : Reading) (on off : Fields → ℕ → List Record → Reading) → ((fields : Fields) (room : ℕ) (records : List Record) → on fields room records ≡ off fields room records) → and_then r on ≡ and_then r off
unfolding and_then
then_same (ended f rest room records) on off same = same (field f rest) (suc room) records
then_same (refused answer) on off same = refl

module _ {L M : Type 0} (Same : L → M → Type 0) where
  -- a tag is the same to two bodies, the levels of a count being the same
  data KindAlike : Kind L → Kind M → Type 0 where
    plain_alike : KindAlike plain plain
    counts_alike : {l : L} {m : M} → Same l m → KindAlike (counts l) (counts m)
    other_alike : KindAlike other other

  -- every tag is the same to two bodies, every run comes to the same, and the same tags may follow
  record BodyAlike (body : Body L) (another : Body M) : Type 0 where
    kinds : (tag : ℕ) → KindAlike (body.kind tag) (another.kind tag)
    runs : (l : L) (m : M) → Same l m → (tag : ℕ) (rest : Fields) (room : ℕ) → body.run l tag rest room ≡ another.run m tag rest room
    trailers : body.trailer ≡ another.trailer

  group_alike : {o : Opened L} {p : Opened M} → OpenedAlike Same o p → KindAlike (group_kind o) (group_kind p)
  unfolding group_kind
  group_alike none_alike = plain_alike
  group_alike (opened_alike s) = counts_alike s

  -- rules that answer alike give a tag the same kind
  module _ (rules : Rules L) (others : Rules M) (alike : RulesAlike Same rules others) (l : L) (m : M) (s : Same l m) (tag : ℕ) where
    placed_alike : (p : Option ℕ) → KindAlike (placed_kind rules l tag p) (placed_kind others m tag p)
    unfolding placed_kind
    placed_alike (Some position) = group_alike (alike.groups l m s tag)
    placed_alike None = rw (alike.accepting tag) (go (others.accepts tag))
      where
        go : (b : Bool) → KindAlike (pick b plain other) (pick b plain other)
        go true = plain_alike
        go false = other_alike

    kind_alike : KindAlike (body_kind rules l tag) (body_kind others m tag)
    unfolding body_kind
    kind_alike = rw (alike.positions l m s tag) (placed_alike (others.position m tag))

  module _ (body : Body L) (another : Body M) (alike : BodyAlike body another) where
    takes_same : (on off : Fields → ℕ → List Record → Reading) → ((fields : Fields) (room : ℕ) (records : List Record) → on fields room records ≡ off fields room records) →
        (f : Field) (rest : Fields) (room : ℕ) (records : List Record) {k : Kind L} {j : Kind M} → KindAlike k j → takes body on f rest room records k ≡ takes another off f rest room records j
    unfolding takes
    takes_same on off same f rest room records plain_alike = then_same (next_from rest room (stored (part_record 2 f) records)) on off same
    takes_same on off same f rest room records (counts_alike {l} {m} s) =
        ap (λ (r : Reading). and_then (with_run (part_record 2 f) records r) on) (alike.runs l m s f.tag rest room) ∙ then_same (with_run (part_record 2 f) records (another.run m f.tag rest room)) on off same
    takes_same on off same f rest room records other_alike = rw alike.trailers

    within_same : (turns : ℕ) (fields : Fields) (room : ℕ) (records : List Record) → body_within body turns fields room records ≡ body_within another turns fields room records
    unfolding body_within
    within_same zero fields room records = refl
    within_same (suc turns) (unreadable cause place) room records = refl
    within_same (suc turns) (field f rest) zero records = refl
    within_same (suc turns) (field f rest) (suc room) records = takes_same (body_within body turns) (body_within another turns) (within_same turns) f rest room records (alike.kinds f.tag)

-- a run that was read from a table and checked with it is the run of the layout, checked with that
module _ (config : Config) (table : List ℕ) (known has : ℕ → Bool) (same : (tag : ℕ) → known tag ≡ has tag) (level : ℕ) (layout : Layout) (t : Tabled table level layout) (tag : ℕ) where
  checks_same : (o : RunOutcome (List Record) (List Record)) → ran_as (table_rules config table known) (table_demands table) level tag o ≡ ran_as (layout_rules (accepted config has)) layout_demands layout tag o
  unfolding ran_as
  checks_same (ran f rest room entries) = ap (checked f rest room entries) (table_checks table 4 level layout t tag 1 entries)
  checks_same (stops refusal entries) = refl

  run-same : (rest : Fields) (room : ℕ) → run_from (table_rules config table known) (table_demands table) level tag rest room ≡ run_from (layout_rules (accepted config has)) layout_demands layout tag rest room
  unfolding run_from
  run-same rest room =
      ap (ran_as (table_rules config table known) (table_demands table) level tag) (table-reads list_store config table known has same (outermost tag level) layout t room 0 [] rest) ∙ checks_same _

-- reading a body through a table is reading it through the layout that the table holds
pub body_means : (config : Config) (table : List ℕ) (known has : ℕ → Bool) → ((tag : ℕ) → known tag ≡ has tag) →
    (level : ℕ) (layout : Layout) → Tabled table level layout → (trailer_tags_lem : List ℕ) (fields : Fields) (room : ℕ) (records : List Record) →
    body_from (body_of (table_rules config table known) (table_demands table) trailer_tags_lem level) fields room records
    ≡ body_from (body_of (layout_rules (accepted config has)) layout_demands trailer_tags_lem layout) fields room records
unfolding body_from body_of
body_means config table known has same level layout t trailer_tags_lem fields room records =
    within_same (Tabled table) _ _
    (record { kinds = kind_alike (Tabled table) _ _ (rules_alike config table known has same) level layout t; runs = run-same config table known has same; trailers = refl })
    (suc room)
    fields
    room
    records
