-- `lay_rows` meets its contract: the heads of parts, and then what the record adds of its own.
use mathlib.Core.Path.{◌∙◌}
use native.Mathlib.Omega.{arith}
use Rattle.message_take_over.specs.StepLaws.{lays_open, lays_entry, lays_nowhere}
use Rattle.message_take_over.proofs.lay_rows.Goals as goal

pub open_parts-opened-requires : goal.open_parts-opened-requires
open_parts-opened-requires c = (omega arith, omega arith, omega arith, omega arith)

pub put_row-requires : goal.put_row-requires
put_row-requires c = (omega (arith, c.open_parts-opened.ensures.value), omega (arith, c.open_parts-opened.ensures.adds.whole))

pub shape_of-words-in-Open : goal.shape_of-words-in-Open
shape_of-words-in-Open c = c.put_row.ensures.whole ∙ c.open_parts-opened.ensures.adds.whole

pub returns-in-Open : goal.returns-in-Open
returns-in-Open c = lays_open _ _ _ c.in-Open.is c.open_parts-opened.ensures.adds c.put_row.ensures

pub put_row-headed-requires : goal.put_row-headed-requires
put_row-headed-requires c = (omega (arith, c.open_parts-opened.ensures.value), omega (arith, c.open_parts-opened.ensures.adds.whole))

pub put_row-requires-in-Entry : goal.put_row-requires-in-Entry
put_row-requires-in-Entry c = (omega (arith, c.put_row-headed.ensures.counts, c.open_parts-opened.ensures.value), omega (arith, c.put_row-headed.ensures.whole, c.open_parts-opened.ensures.adds.whole))

pub shape_of-words-in-Entry : goal.shape_of-words-in-Entry
shape_of-words-in-Entry c = c.put_row-in-Entry.ensures.whole ∙ c.put_row-headed.ensures.whole ∙ c.open_parts-opened.ensures.adds.whole

pub returns-in-Entry : goal.returns-in-Entry
returns-in-Entry c = lays_entry _ _ _ _ c.in-Entry.is c.open_parts-opened.ensures.adds c.put_row-headed.ensures c.put_row-in-Entry.ensures

pub shape_of-words-in-Nowhere : goal.shape_of-words-in-Nowhere
shape_of-words-in-Nowhere c = c.open_parts-opened.ensures.adds.whole

pub returns-in-Nowhere : goal.returns-in-Nowhere
returns-in-Nowhere c = lays_nowhere _ _ _ c.in-Nowhere.is c.open_parts-opened.ensures.adds
