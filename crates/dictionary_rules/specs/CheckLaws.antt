-- The laws of the check: one turn of the code's loop is one record, whatever store it takes notes in.
use Rattle.std.specs.Prelude.{◌≡◌, List, ℕ, length, Ok, Err}
use Rattle.dictionary_rules.specs.Record.{record_at}
use Rattle.dictionary_rules.specs.Records.{records_from}
use Rattle.dictionary_rules.specs.RecordsLaws.{records_end, records_bad, records_whole}
use Rattle.dictionary_rules.specs.declared.Record.{Record}
use Rattle.dictionary_rules.specs.declared.RecordRead.TheVariants.{Whole, Bad, End}
use Rattle.dictionary_rules.specs.Step.{step_of, at_end}
use Rattle.dictionary_rules.specs.Check.{outcome, on_step, walked}
use Rattle.dictionary_rules.specs.declared.Checked.{Checked}
use Rattle.dictionary_rules.specs.declared.Checked.TheVariants.{BadRecord}
use Rattle.dictionary_rules.specs.declared.State.{State}
use Rattle.dictionary_rules.specs.declared.Note.{Note}
use Rattle.dictionary_rules.specs.Names.{Looks}

module _ {S : Type 0} (looks : S → Looks) (noted : S → Note → S) (d : List ℕ) (at : ℕ) (state : State) (store : S) where
  pub walk_end : record_at d at ≡ End → walked looks noted (records_from d at) state store ≡ outcome (at_end (looks store) state (length d)) store
  unfolding walked
  walk_end h = rw (records_end d at h)

  pub walk-bad : record_at d at ≡ Bad → walked looks noted (records_from d at) state store ≡ outcome (BadRecord at) store
  unfolding walked
  walk-bad h = rw (records_bad d at h)

  pub walk-refuses : (r : Record) (next : ℕ) (checked : Checked) → record_at d at ≡ Whole r next → step_of (looks store) state at r ≡ Err checked → walked looks noted (records_from d at) state store ≡ outcome checked store
  unfolding walked on_step
  walk-refuses r next checked h e = rw (records_whole d at r next h, e)

  pub walk-goes : (r : Record) (next : ℕ) (after : State) (note : Note) → record_at d at ≡ Whole r next → step_of (looks store) state at r ≡ Ok (after, note) → walked looks noted (records_from d at) state store ≡ walked looks noted (records_from d next) after (noted store note)
  unfolding walked on_step
  walk-goes r next after note h e = rw (records_whole d at r next h, e)
