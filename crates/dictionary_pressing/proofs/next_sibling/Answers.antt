-- `next_sibling` meets its contract: the link that was read rises, or the level stops.
use mathlib.Core.Path.{sym, ◌∙◌}
use native.Mathlib.Omega.{arith}
use Rattle.dictionary_layout_rules.proofs.TableLaws.{sibling_link, sibling_stop}
use Rattle.dictionary_pressing.proofs.next_sibling.Goals as goal

pub returns-then-at-link : goal.returns-then-at-link
returns-then-at-link c = c.from-link.ensures ∙ sym (sibling_link _ _ _ (omega (arith, c.if-at-link.true, c.from-link.ensures)))

pub returns : goal.returns
returns c = sym (sibling_stop _ _ _ (omega (arith, c.if-at-link.false, c.from-link.ensures)))
