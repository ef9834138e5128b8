-- `known_from` meets its contract: a place without a word is none of the words, and past them stands nothing.
use mathlib.Core.Path.{sym, ◌∙◌}
use Prim.Native.Nat.{◌≤◌}
use native.Mathlib.Omega.{arith}
use lib.ListN.{length, get_or-eq_default}
use Rattle.dictionary_flattening.specs.Leaps.{leap_word, leap_from}
use Rattle.dictionary_flattening.proofs.empty.known_from.Goals as goal

pub returns-then-word-ge-LEAPS : goal.returns-then-word-ge-LEAPS
unfolding leap_from
returns-then-word-ge-LEAPS c = let beyond : length c.args.leaps.now ≤ leap_word c.args.at = omega (arith, c.if-word-ge-LEAPS.true, c.word_of-word.ensures, c.requires) in
    sym (get_or-eq_default c.args.leaps.now 0 {n = leap_word c.args.at} beyond)

pub returns : goal.returns
unfolding leap_from
returns c = c.from.ensures ∙ rw c.word_of-word.ensures
