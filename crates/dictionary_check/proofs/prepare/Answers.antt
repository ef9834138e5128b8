-- `prepare` meets its contract: the walk over a cleared index is the prepared check, and it answers as the check does.
use mathlib.Core.Path.{◌≡◌, sym, ap, ◌∙◌}
use native.Mathlib.Omega.{arith}
use Rattle.dictionary_rules.specs.Check.{outcome, answer_of}
use Rattle.dictionary_rules.specs.Check.{prepared_of}
use Rattle.dictionary_rules.proofs.Prepared.{prepared_long, prepared-short, prepared-answer, check_long}
use Rattle.dictionary_check.proofs.prepare.Goals as goal
use Rattle.dictionary_check.proofs.prepare.Goals.{After-walk}

prepared : (c : After-walk) → outcome c.walk.result c.walk.new.index ≡ prepared_of c.args.dictionary.now c.args.index.now
prepared c = rw c.clear.ensures at c.walk.ensures ∙ sym (prepared-short _ _ c.if-dictionary-gt60000.false)

pub returns-then-dictionary-gt60000 : goal.returns-then-dictionary-gt60000
returns-then-dictionary-gt60000 c = record { index_after = sym (prepared_long _ _ c.if-dictionary-gt60000.true); value = sym (check_long _ c.if-dictionary-gt60000.true) }

pub returns : goal.returns
returns c = record { index_after = prepared c; value = unfold answer_of in ap answer_of (prepared c) ∙ prepared-answer c.args.dictionary.now c.args.index.now (omega arith) }
