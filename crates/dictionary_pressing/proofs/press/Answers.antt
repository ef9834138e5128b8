-- `press` meets its contract: the table is a level from its first word on, of whichever layout the rows are said to hold.
use mathlib.Core.Path.{ap, ◌∙◌}
use Rattle.dictionary_layout_rules.specs.Layout.{Layout}
use Rattle.dictionary_pressing.specs.Pressing.{pressed}
use Rattle.dictionary_pressing.specs.Sizing.{pressable_level, pressable_as, pressed-table}
use Rattle.dictionary_pressing.proofs.press.Goals as goal

pub press_level-requires : goal.press_level-requires
press_level-requires c = pressable_level _ _ _ c.requires c.requires.layout c.requires.tabled

pub returns : goal.returns
returns c = λ layout t. (c.press_level.ensures (pressable_level _ _ _ c.requires layout t)).words
    ∙ ap (λ (l : Layout). pressed 0 l c.args.table.now) (pressable_as _ _ _ c.requires layout t) ∙ pressed-table layout c.args.table.now
