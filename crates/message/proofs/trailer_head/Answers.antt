-- `trailer_head` meets its contract: behind the body's head its rows end at the next.
use mathlib.Core.Path.{◌∙◌}
use native.Mathlib.Omega.{arith}
use Rattle.message_rules.specs.StoreLaws.{heads-of}
use Rattle.message.proofs.trailer_head.Goals as goal

pub overflow_add-body : goal.overflow_add-body
overflow_add-body c = let h = heads-of _ _ c.requires in omega (arith, h.past_body, h.last, h.few, c.body_head-body.ensures)

pub row_count-requires : goal.row_count-requires
row_count-requires c = (heads-of _ _ c.requires).whole

pub end_of-requires : goal.end_of-requires
end_of-requires c = let h = heads-of _ _ c.requires in
    (omega (arith, h.past_body, h.last, c.row_count.ensures, c.body_head-body.ensures), omega (arith, h.few, c.row_count.ensures), h.whole)

pub returns : goal.returns
returns c = rw (c.row_count.ensures, c.body_head-body.ensures) at c.end_of.ensures
    ∙ (heads-of _ _ c.requires).trailer
