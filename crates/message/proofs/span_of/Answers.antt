-- `span_of` meets its contract: a part stands behind its head, up to the next one or the end.
use native.Mathlib.Omega.{arith}
use Rattle.message_rules.specs.RowChanges.{body_head, trailer_head, span_of}
use Rattle.message_rules.specs.StoreLaws.{heads-of}
use Rattle.message.proofs.span_of.Goals as goal

pub row_count-count-requires : goal.row_count-count-requires
row_count-count-requires c = (heads-of _ _ c.requires).whole

pub returns-in-Header : goal.returns-in-Header
unfolding span_of body_head
returns-in-Header c = rw (c.in-Header.is, c.body_head.ensures, c.row_count-count.ensures, (heads-of _ _ c.requires).count)

pub overflow_add-result : goal.overflow_add-result
overflow_add-result c = let h = heads-of _ _ c.requires in omega (arith, h.past_body, h.last, h.few, c.body_head-in-Body.ensures)

pub returns-in-Body : goal.returns-in-Body
unfolding span_of body_head trailer_head
returns-in-Body c = rw (c.in-Body.is, c.body_head-in-Body.ensures, c.trailer_head.ensures, c.row_count-count.ensures, (heads-of _ _ c.requires).count)

pub overflow_add-result-in-Trailer : goal.overflow_add-result-in-Trailer
overflow_add-result-in-Trailer c = let h = heads-of _ _ c.requires in omega (arith, h.last, h.few, c.trailer_head-in-Trailer.ensures)

pub returns-in-Trailer : goal.returns-in-Trailer
unfolding span_of trailer_head
returns-in-Trailer c = rw (c.in-Trailer.is, c.trailer_head-in-Trailer.ensures, c.row_count-count.ensures, (heads-of _ _ c.requires).count)
