-- A test as it is stored: 1 or 0.
use mathlib.Core.Path.{◌≡◌, refl}
use mathlib.Core.Bool.{Bool, true, false}
use mir.Val.{bool_byte}
use Rattle.dictionary_layout_rules.specs.Table.{mark}

pub stored-mark : (b : Bool) → bool_byte b ≡ mark b
unfolding mark
stored-mark true = refl
stored-mark false = refl
