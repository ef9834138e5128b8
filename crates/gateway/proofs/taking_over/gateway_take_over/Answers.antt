-- The words that lent records are put into are theirs, and as many are read as taking over looks at.
use Rattle.std.proofs.Common.{ℕ, ◌≡◌, ◌∙◌, ◌≤◌, ap, sym, subst, length}
use Rattle.face_told.specs.Told.{taking_number, taken_words, taken_values}
use Rattle.face_messages.specs.Lent.{put_fields}
use Rattle.gateway.specs.TakingLaws.{read-within, read_most, taken_from}
use Rattle.gateway.proofs.taking_over.gateway_take_over.Goals as goal

pub lay-requires : goal.lay-requires
lay-requires c = subst (λ (n : ℕ). n ≤ length c.args.records.now) (sym c.read_count-read.ensures) (read-within (length c.args.records.now) c.args.count)

pub take_over-requires : goal.take_over-requires
take_over-requires c = subst (λ (n : ℕ). n ≤ 1024) (sym c.read_count-read.ensures) (read_most (length c.args.records.now) c.args.count)

pub returns : goal.returns
returns c =
    let laid = c.lay.ensures ∙ ap (put_fields c.args.records.now c.read_count-read.result) c.blank_words-laid.ensures in
    let e = taken_from c.args.records.now c.args.count c.read_count-read.result c.lay.new.words c.args.message.now c.args.words.now c.args.values.now
    c.read_count-read.ensures laid in (
      c.take_over.ensures.0 ∙ ap taking_number e,
      c.take_over.ensures.1 ∙ ap taken_words e,
      c.take_over.ensures.2 ∙ ap taken_values e,
      c.take_over.ensures.3,
    )
