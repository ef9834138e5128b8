-- `keep` meets its contract: each return is the way that the definition takes.
use Prim.Native.Nat.{◌≤◌, ◌<◌}
use native.Mathlib.Omega.{arith}
use borrow.Author.Tests.{lt-ltb, le-ltb}
use Rattle.dictionary_flattening.specs.Leaps.{leap_words, leap_word, leap_kept}
use Rattle.dictionary_flattening.proofs.empty.keep.Goals as goal

pub returns-then-word-ge-LEAPS : goal.returns-then-word-ge-LEAPS
unfolding leap_kept
returns-then-word-ge-LEAPS c = let none : leap_words ≤ leap_word c.args.from = omega (arith, c.if-word-ge-LEAPS.true, c.word_of-word.ensures) in
    rw (le-ltb _ _ none)

pub returns-then-to-ge65536 : goal.returns-then-to-ge65536
unfolding leap_kept
returns-then-to-ge65536 c =
    let has : leap_word c.args.from < leap_words = omega (arith, c.if-word-ge-LEAPS.false, c.word_of-word.ensures) in
    rw (lt-ltb _ _ (has), le-ltb _ _ c.if-to-ge65536.true)

pub returns : goal.returns
unfolding leap_kept
returns c =
    let has : leap_word c.args.from < leap_words = omega (arith, c.if-word-ge-LEAPS.false, c.word_of-word.ensures) in
    rw (lt-ltb _ _ (has), lt-ltb _ _ c.if-to-ge65536.false, c.word_of-word.ensures)
