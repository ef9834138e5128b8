-- Rows of items that stand for nothing. A component may hold thousands of them and be used a thousand times, so what was passed once is
-- kept in words: from a place on, laying comes to the same as from a later one. Answers know nothing of it.
use Rattle.std.proofs.Math.Path.{◌≡◌}
use Rattle.std.specs.Prelude.{List, ℕ, ◌+◌, ◌*◌, ◌/◌, ◌%◌, ◌≤◌, ◌<◌, length, set, Option}
use Rattle.std.proofs.Math.ListN.{get_or}
use Rattle.std.proofs.Math.Dec.{ltb}
use Rattle.field_rules.specs.Choice.{pick}
use Rattle.dictionary_meaning_rules.specs.Laying.{Step, items_from}
use Rattle.dictionary_meaning_rules.proofs.LayingLaws.{Advancing}
use Rattle.dictionary_rules.specs.declared.Component.{Component}

-- only items that stand for nothing lie between: whatever lays what lies within, laying from the one place on is laying from the other on
pub record Leads (bytes : List ℕ) (components : ℕ → Option Component) (from to : ℕ) : Type 0 where
  pub onward : from ≤ to
  pub within : from < to → to ≤ length bytes
  pub same : (inner : Step) → Advancing (length bytes) inner → (row : ℕ) (table : List ℕ) → items_from inner bytes components from row table ≡
      items_from inner bytes components to row table

-- words of leaps
abbrev pub leap_words : ℕ
leap_words = 4096

-- items of four bytes follow each other in four ways, and of each way every sixteenth place has a word
abbrev pub slot : ℕ → ℕ
slot at = 1024 * (at % 64) + at / 64

-- the word of a place, and none of them where the place has none
unfoldable pub leap_word : ℕ → ℕ
leap_word at = pick (ltb at 65536) (pick (ltb (at % 64) 4) (slot at) leap_words) leap_words

-- how far the leaps say that one may go from a place
unfoldable pub leap_from : List ℕ → ℕ → ℕ
leap_from leaps at = get_or leaps (leap_word at) 0

-- what they say is so
pub record Leaps (bytes : List ℕ) (components : ℕ → Option Component) (leaps : List ℕ) : Type 0 where
  pub size : length leaps ≡ leap_words
  pub told : (at : ℕ) → at < leap_from leaps at → Leads bytes components at (leap_from leaps at)

-- a place that has a word is told how far one may go
unfoldable pub leap_kept : List ℕ → ℕ → ℕ → List ℕ
leap_kept leaps from to = pick (ltb (leap_word from) leap_words) (pick (ltb to 65536) (set leaps (leap_word from) to) leaps) leaps

-- at a place that has a word, the leap from the one before is kept, and the next one starts
unfoldable pub reached_leaps : List ℕ → ℕ → ℕ → List ℕ
reached_leaps leaps since at = pick (ltb (leap_word at) leap_words) (leap_kept leaps since at) leaps

unfoldable pub reached_since : ℕ → ℕ → ℕ
reached_since since at = pick (ltb (leap_word at) leap_words) at since

-- leaps one after the other are one, from the first place on that has a word
unfoldable pub leaping_since : ℕ → ℕ → ℕ
leaping_since since at = pick (ltb (leap_word since) leap_words) since at
