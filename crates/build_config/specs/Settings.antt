-- A settings word: bit 0 is validation, and no other bit means anything.
use Rattle.std.specs.Prelude.{ℕ, ◌%◌, Bool, eqb}
use Rattle.field_rules.specs.Field.{separated_by}
use Rattle.build_config.specs.declared.Config.{Config}

unfoldable pub validates : ℕ → Bool
validates settings = eqb (settings % 2) 1

-- the word, beside the separator
unfoldable pub config_of : ℕ → ℕ → Config
config_of settings separator = record { mode = separated_by separator; validate = validates settings }

-- for worked examples: separator 0x01, validation on or off, and nothing else asked for
abbrev pub validating : Bool → Config
validating validate = record { mode = separated_by 1; validate = validate }
