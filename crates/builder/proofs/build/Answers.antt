-- `build` meets its contract: what is refused first is the answer; else what was read is shown.
use mathlib.Core.Path.{sym, ap, ◌∙◌}
use native.Mathlib.Omega.{arith}
use Rattle.builder.specs.Build.{built_told, untouched, shown, build_of}
use Rattle.builder.proofs.ReadingLaws.{judged-refuses, judged-reads, reads_short}
use Rattle.builder.proofs.build.Goals as goal

pub returns-then-number_of-ne0 : goal.returns-then-number_of-ne0
unfolding built_told untouched build_of
returns-then-number_of-ne0 c = rw c.untouched.ensures (sym (judged-refuses _ _ _ _ _ _ c.refused_first-first.ensures _ c.number_of.ensures c.if-number_of-ne0.true))

-- a message that is read is short
pub read_checked-read-requires : goal.read_checked-read-requires
read_checked-read-requires c = (omega (arith, reads_short _ _ _ _ c.refused_first-first.ensures (sym c.number_of.ensures ∙ c.if-number_of-ne0.false)), omega arith)

pub returns : goal.returns
unfolding build_of
returns c = c.show.ensures ∙ ap (shown _) c.read_checked-read.ensures.words_after ∙ sym (judged-reads _ _ _ _ _ _ c.refused_first-first.ensures _ c.number_of.ensures c.if-number_of-ne0.false)
