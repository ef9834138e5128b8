-- `lay_tables` meets its contract. The invariant: laying the messages that are left into the words so far is laying all of them.
use mathlib.Core.Path.{◌≡◌}
use Prim.Native.Nat.{◌-◌, ◌≤◌}
use lib.ListN.{length}
use Rattle.dictionary_directory.specs.Directory.{directory_words, filling, messages_from, lay_messages}
use Rattle.dictionary_directory.proofs.lay_tables.Given as goal

abbrev pub invariant-loop-read : goal.invariant-loop-read
invariant-loop-read l = (directory_words ≤ length l.initial.tables) × (length l.tables ≡ length l.initial.tables)
    × (lay_messages l.dictionary l.index (messages_from l.dictionary 0) (filling l.initial.tables l.initial.free) ≡
    lay_messages l.dictionary l.index (messages_from l.dictionary l.at) (filling l.tables l.free))

abbrev pub decreases-loop-read : goal.decreases-loop-read
decreases-loop-read l = length l.dictionary - l.at
