-- What a build and the take-over of what it built leave, one call after the other: theorems 1, 2, 3 (b) and 5 speak of this message, and at the
-- exports of what `Calls` (promise_exported_messages) has of the same calls.
use Rattle.std.specs.Prelude.{◌≡◌, List, ℕ}
use Rattle.builder.specs.Build.{BuildOutcome}
use Rattle.message_lent_rules.specs.Meaning.{Message, words_of, value_bytes_of}
use Rattle.message_take_over.specs.Taking.{after, taking_over}
use Rattle.message_take_over.specs.declared.Taken.TheVariants.{Made}

pub record BuiltTaken (message : List ℕ) (built : BuildOutcome) (words values : List ℕ) : Type 0 where
  pub taken : Message
  pub takes-over : taking_over built.words built.records message words values ≡ after Made (words_of taken) (value_bytes_of taken)
