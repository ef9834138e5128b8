-- `press_tags` meets its contract. The invariant: the tags that are left go to the words from the slot on, and that makes what the whole makes.
-- Each item lies in the table of the tags, and the words are enough for that.
use Rattle.dictionary_pressing.specs.Tags.{Putting}
use Rattle.dictionary_pressing.proofs.press_tags.Given as goal

abbrev pub invariant-loop-next : goal.invariant-loop-next
invariant-loop-next l = Putting l.tags l.initial.table l.table l.slot l.next
