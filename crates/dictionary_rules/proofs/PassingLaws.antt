-- Laws of what specs/Passing.antt defines.
use Rattle.std.specs.Prelude.{◌≡◌, Bool, true, List, ℕ, ◌≤◌, ◌<◌, length}
use Rattle.std.proofs.Math.Path.{refl}
use Rattle.std.proofs.Common.{◌∙◌, arith, Ok}
use Rattle.std.proofs.Math.Bool.{false}
use Rattle.field_rules.specs.Choice.{pick}
use Rattle.dictionary_rules.specs.Record.{record_at}
use Rattle.dictionary_rules.specs.RecordsLaws.{record_falls}
use Rattle.dictionary_rules.specs.Index.{tag_at, looks_at, noted}
use Rattle.dictionary_rules.specs.Agreement.{known_again}
use Rattle.dictionary_rules.specs.Step.{at_top_lem, on_tag, step_of}
use Rattle.dictionary_rules.specs.StepLaws.{looks_known, field-goes}
use Rattle.dictionary_rules.specs.CheckLaws.{walk-goes}
use Rattle.dictionary_rules.specs.declared.Record.{Record}
use Rattle.dictionary_rules.specs.declared.Record.TheVariants.{KnownTag, FieldItem}
use Rattle.dictionary_rules.specs.declared.RecordRead.TheVariants.{Whole}
use Rattle.dictionary_rules.specs.declared.Open.{Open}
use Rattle.dictionary_rules.specs.declared.State.{State}
use Rattle.dictionary_rules.specs.declared.State.TheVariants.{TopLevel, Inside}
use Rattle.dictionary_rules.specs.declared.Note.{Note}
use Rattle.dictionary_rules.specs.declared.Note.TheVariants.{Unchanged, KnowsTag}
use Rattle.dictionary_rules.specs.Passing.{Passed, with_field}

pub passed_none : {d : List ℕ} {at : ℕ} {state : State} {index : List ℕ} → at ≤ length d → Passed d at state index at state index
passed_none h = record { onward = omega arith; within = h; same = refl }

pub passed_on : {d : List ℕ} {from at to : ℕ} {before here after : State} {index now left : List ℕ}
    → Passed d from before index at here now → Passed d at here now to after left → Passed d from before index to after left
passed_on p q = record { onward = omega arith; within = q.within; same = p.same ∙ q.same }

module _ {d : List ℕ} {at next : ℕ} {index : List ℕ} where
  pub passed-step : {state after : State} {r : Record} {note : Note} → record_at d at ≡ Whole r next
      → step_of (looks_at index) state at r ≡ Ok (after, note) → Passed d at state index next after (noted index note)
  passed-step h e =
      let f = record_falls d at _ next h in
      record { onward = omega arith; within = f.1; same = walk-goes looks_at noted d at _ index _ next _ _ h e }

  -- a known tag; one that was known before changes nothing
  pub passed-tag : {tag : ℕ} → record_at d at ≡ Whole (KnownTag tag) next
      → Passed d at TopLevel index next TopLevel (noted index (KnowsTag at tag))
  passed-tag {tag} h = go (tag_at index tag) refl (passed-step h step)
    where
      step : step_of (looks_at index) TopLevel at (KnownTag tag) ≡ Ok (TopLevel, (pick (tag_at index tag) Unchanged (KnowsTag at tag)))
      step = unfold step_of on_tag at_top_lem looks_at in refl

      go : (known : Bool) → tag_at index tag ≡ known → Passed d at TopLevel index next TopLevel (noted index (pick known Unchanged (KnowsTag at tag)))
          → Passed d at TopLevel index next TopLevel (noted index (KnowsTag at tag))
      go true e p = rw (known_again index at tag e) (unfold noted in p)
      go false e p = p

  -- a field item, whose tag is known and that is not one too many
  pub passed-field : {tag : ℕ} {required : Bool} (o : Open) → record_at d at ≡ Whole (FieldItem tag required) next → tag_at index tag ≡ true → o.items < 1024
      → Passed d at (Inside o) index next (Inside (with_field o)) index
  unfolding noted step_of
  passed-field {tag} o h known few =
      passed-step h (field-goes (looks_at index) (Inside o) o refl at tag (looks_known index tag ∙ known) (omega arith))
