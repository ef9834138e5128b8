-- What a tag is to the body of a message with a layout, and what the run of a count comes to there.
use Rattle.std.specs.Prelude.{ℕ, List, [], ◌∷◌, Bool, true, false, Option, Some, None}
use Rattle.field_rules.specs.Choice.{pick}
use Rattle.field_rules.specs.Fields.{Fields}
use Rattle.field_rules.specs.declared.Field.{Field}
use Rattle.build_records.specs.declared.Record.{Record}
use Rattle.build_group_rules.specs.Groups.{Opened, none, opened, Rules, run, outermost, RunOutcome, walk}
use Rattle.build_group_rules.specs.Groups.{ended as ran, refused as stops}
use Rattle.build_group_rules.specs.Reading.{list_store, answer_of}
use Rattle.build_required_rules.specs.Required.{Demands, run_lack}
use Rattle.build_required_rules.specs.declared.Lack.{Lack}
use Rattle.build_required_rules.specs.declared.Lack.TheVariants.{Missing, Complete}
use Rattle.build_answers.specs.declared.Answer.TheVariants.{RequiredFieldMissing}
use Rattle.build_body_rules.specs.declared.BodyKind.{BodyKind}
use Rattle.build_body_rules.specs.declared.BodyKind.TheVariants.{Plain, Counts, Other}
use Rattle.build_body_rules.specs.Body.{Kind, plain, counts, other, Body}
use Rattle.build_parts.specs.Parts.{Reading, ended, refused}

-- what the code's kinds mean
unfoldable pub meant_by : BodyKind → Kind ℕ
meant_by Plain = plain
meant_by (Counts inner) = counts inner
meant_by Other = other

unfoldable pub group_kind : {L : Type 0} → Opened L → Kind L
group_kind none = plain
group_kind (opened inner) = counts inner

module _ {L : Type 0} (rules : Rules L) (level : L) where
  -- "with validation off, tags of 5000 and above that the dictionary lacks"
  unfoldable pub placed_kind : ℕ → Option ℕ → Kind L
  placed_kind tag (Some position) = group_kind (rules.group level tag)
  placed_kind tag None = pick (rules.accepts tag) plain other

  unfoldable pub body_kind : ℕ → Kind L
  body_kind tag = placed_kind tag (rules.position level tag)

-- "the first lack gives 4"
unfoldable pub checked : Field → Fields → ℕ → List Record → Lack → Reading
checked f rest room entries Complete = ended f rest room entries
checked f rest room entries (Missing tag group) = refused (RequiredFieldMissing tag group)

module _ {L : Type 0} (rules : Rules L) (demands : Demands L) where
  -- "After a body group ends: for each entry its required fields in layout order, then its nested runs." Four levels may be open.
  -- `RunTree` says the same over the run's tree.
  unfoldable pub ran_as : L → ℕ → RunOutcome (List Record) (List Record) → Reading
  ran_as inner tag (ran f rest room entries) = checked f rest room entries (run_lack demands 4 inner tag 1 entries)
  ran_as inner tag (stops refusal entries) = refused (answer_of refusal)

  -- the run of a count
  unfoldable pub run_from : L → ℕ → Fields → ℕ → Reading
  run_from inner tag rest room = ran_as inner tag (walk rules list_store room (run (outermost tag inner) 0 ∷ []) [] rest)

  -- the body of a message with a layout
  unfoldable pub body_of : List ℕ → L → Body L
  body_of trailer_tags_lem level = record { kind = body_kind rules level; run = run_from; trailer = trailer_tags_lem }
