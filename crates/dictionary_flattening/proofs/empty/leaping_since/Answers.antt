-- `leaping_since` meets its contract: each return is the way that the definition takes.
use Prim.Native.Nat.{◌≤◌, ◌<◌}
use native.Mathlib.Omega.{arith}
use borrow.Author.Tests.{lt-ltb, le-ltb}
use Rattle.dictionary_flattening.specs.Leaps.{leap_words, leap_word, leaping_since}
use Rattle.dictionary_flattening.proofs.empty.leaping_since.Goals as goal

pub returns-then-word_of-ge-LEAPS : goal.returns-then-word_of-ge-LEAPS
unfolding leaping_since
returns-then-word_of-ge-LEAPS c = let none : leap_words ≤ leap_word c.args.since = omega (arith, c.if-word_of-ge-LEAPS.true, c.word_of.ensures) in
    rw (le-ltb _ _ none)

pub returns : goal.returns
unfolding leaping_since
returns c = let has : leap_word c.args.since < leap_words = omega (arith, c.if-word_of-ge-LEAPS.false, c.word_of.ensures) in
    rw (lt-ltb _ _ has)
