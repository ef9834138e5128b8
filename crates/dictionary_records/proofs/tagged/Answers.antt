-- `tagged` meets its contract: a tag is not 0.
use borrow.Author.Tests.{eq-eqb, ne_eqb}
use Rattle.dictionary_rules.specs.Record.{with_tag}
use Rattle.dictionary_records.proofs.tagged.Goals as goal

pub returns-then-tag-eq0 : goal.returns-then-tag-eq0
unfolding with_tag
returns-then-tag-eq0 c = rw (eq-eqb _ _ c.if-tag-eq0.true)

pub returns : goal.returns
unfolding with_tag
returns c = rw (ne_eqb _ _ c.if-tag-eq0.false)
