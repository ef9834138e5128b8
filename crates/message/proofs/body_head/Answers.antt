-- `body_head` meets its contract: the header's rows end at the next head.
use mathlib.Core.Path.{◌∙◌}
use native.Mathlib.Omega.{arith}
use Rattle.message_rules.specs.StoreLaws.{heads-of}
use Rattle.message.proofs.body_head.Goals as goal

pub row_count-requires : goal.row_count-requires
row_count-requires c = (heads-of _ _ c.requires).whole

pub end_of-requires : goal.end_of-requires
end_of-requires c = let h = heads-of _ _ c.requires in
    (omega (arith, h.past_header, h.past_body, h.last, c.row_count.ensures), omega (arith, h.few, c.row_count.ensures), h.whole)

pub returns : goal.returns
returns c = rw c.row_count.ensures at c.end_of.ensures ∙ (heads-of _ _ c.requires).body
