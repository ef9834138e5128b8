-- `word_of` meets its contract: each return is the way that the definition takes.
use Rattle.std.proofs.Common.{lt-ltb, le-ltb}
use Rattle.dictionary_flattening.specs.Leaps.{leap_word}
use Rattle.dictionary_flattening.proofs.empty.word_of.Goals as goal
use Rattle.dictionary_flattening.proofs.empty.word_of.Goals.{then-at-ge65536-via-then-at-ge65536, then-at-ge65536-via-else-at-ge65536+then-at-ge4}

pub returns-then-at-ge65536 : goal.returns-then-at-ge65536
unfolding leap_word
returns-then-at-ge65536 c =
    elim c.then-at-ge65536.branch [
      | then-at-ge65536-via-then-at-ge65536 w ↦ rw (le-ltb _ _ w.if-at-ge65536.true)
      | then-at-ge65536-via-else-at-ge65536+then-at-ge4 w ↦ rw (lt-ltb _ _ w.if-at-ge65536.false, le-ltb _ _ w.if-at-ge4.true)
    ]

pub returns : goal.returns
unfolding leap_word
returns c = rw (lt-ltb _ _ c.if-at-ge65536.false, lt-ltb _ _ c.if-at-ge4.false)
