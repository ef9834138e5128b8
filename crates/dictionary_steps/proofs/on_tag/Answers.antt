-- `on_tag` meets its contract: a known tag changes nothing.
use mathlib.Core.Path.{sym, ◌∙◌}
use Rattle.dictionary_rules.specs.Step.{on_tag, at_top_lem}
use Rattle.dictionary_rules.specs.Index.{looks_at}
use Rattle.dictionary_steps.proofs.on_tag.Goals as goal

pub returns-in_default : goal.returns-in_default
unfolding on_tag at_top_lem
returns-in_default c = rw c.in_default.is

pub returns-then-tag_known : goal.returns-then-tag_known
unfolding on_tag at_top_lem looks_at
returns-then-tag_known c = rw (c.in-TopLevel.is, sym c.tag_known.ensures ∙ c.if-tag_known.true)

pub returns : goal.returns
unfolding on_tag at_top_lem looks_at
returns c = rw (c.in-TopLevel.is, sym c.tag_known.ensures ∙ c.if-tag_known.false)
