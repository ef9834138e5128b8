-- `link_at` meets its contract: a link that doesn't rise leads to no entry.
use mathlib.Core.Path.{sym, ◌∙◌}
use native.Mathlib.Omega.{arith}
use Rattle.dictionary_chains.proofs.WayLaws.{link-none, link-some}
use Rattle.dictionary_chains.proofs.link_at.Goals as goal

pub returns-then-link-low : goal.returns-then-link-low
returns-then-link-low c = sym (link-none _ _ _ (omega (arith, c.from-link.ensures)))

pub returns : goal.returns
returns c = c.from-link.ensures ∙ sym (link-some _ _ _ (omega (arith, c.from-link.ensures)))
