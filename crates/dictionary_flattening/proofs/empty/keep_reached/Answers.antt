-- `keep_reached` meets its contract: each return is the way that the definition takes.
use mathlib.Core.Path.{refl}
use Prim.Native.Nat.{◌≤◌, ◌<◌}
use native.Mathlib.Omega.{arith}
use borrow.Author.Tests.{lt-ltb, le-ltb}
use Rattle.dictionary_flattening.specs.Leaps.{leap_words, leap_word, reached_leaps, reached_since}
use Rattle.dictionary_flattening.proofs.empty.keep_reached.Goals as goal

pub returns-then-word_of-ge-LEAPS : goal.returns-then-word_of-ge-LEAPS
unfolding reached_leaps reached_since
returns-then-word_of-ge-LEAPS c = let none : leap_words ≤ leap_word c.args.at = omega (arith, c.if-word_of-ge-LEAPS.true, c.word_of.ensures) in
    rw (le-ltb _ _ none) (refl, refl)

pub returns : goal.returns
unfolding reached_leaps reached_since
returns c = let has : leap_word c.args.at < leap_words = omega (arith, c.if-word_of-ge-LEAPS.false, c.word_of.ensures) in
    rw (lt-ltb _ _ has) (c.keep.ensures, refl)
