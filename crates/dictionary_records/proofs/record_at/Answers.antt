-- `record_at` meets its contract: each return cites the law of its way.
use mathlib.Core.Path.{◌≡◌, sym, ap, ◌∙◌}
use Prim.Native.Nat.{ℕ, ◌+◌, ◌≤◌, ◌-◌}
use native.Mathlib.Nat.{add-sub_cancel_left}
use lib.ListN.{length, get_or, take, drop}
use Rattle.dictionary_rules.specs.Record.{record_body_length, record_body}
use Rattle.dictionary_rules.specs.declared.RecordRead.TheVariants.{Whole}
use Rattle.dictionary_rules.specs.RecordLaws.{at_end, at_cut, at-wrong, at-whole}
use Rattle.dictionary_records.proofs.record_at.Goals as goal

pub returns-then-dictionary-place : goal.returns-then-dictionary-place
returns-then-dictionary-place c = sym (at_end _ _ c.if-dictionary-place.true)

pub returns-then-dictionary-start : goal.returns-then-dictionary-start
returns-then-dictionary-start c = sym (at_cut _ _ c.if-dictionary-place.false (rw c.body_length-size.ensures at c.if-dictionary-start.true))

pub returns-in_default : goal.returns-in_default
returns-in_default c =
    let body-read : let kind = get_or c.args.dictionary.now c.args.place 0 in
    c.body_of.result ≡ record_body kind (take (record_body_length kind) (drop (c.args.place + 1) c.args.dictionary.now)) = rw (add-sub_cancel_left, c.body_length-size.ensures) at c.body_of.ensures in
    let fits : record_body_length (get_or c.args.dictionary.now c.args.place 0) ≤ length c.args.dictionary.now - (c.args.place + 1) = rw c.body_length-size.ensures at c.if-dictionary-start.false in
    sym (at-wrong _ _ c.if-dictionary-place.false (fits) (sym (body-read) ∙ c.in_default.is))

pub returns : goal.returns
returns c =
    let body-read : let kind = get_or c.args.dictionary.now c.args.place 0 in
    c.body_of.result ≡ record_body kind (take (record_body_length kind) (drop (c.args.place + 1) c.args.dictionary.now)) = rw (add-sub_cancel_left, c.body_length-size.ensures) at c.body_of.ensures in
    let fits : record_body_length (get_or c.args.dictionary.now c.args.place 0) ≤ length c.args.dictionary.now - (c.args.place + 1) = rw c.body_length-size.ensures at c.if-dictionary-start.false in
    sym (at-whole _ _ _ c.if-dictionary-place.false (fits) (sym (body-read) ∙ c.in-Some.is) ∙ ap (λ (n : ℕ). Whole c.in-Some.read (c.args.place + 1 + n)) (sym c.body_length-size.ensures))
