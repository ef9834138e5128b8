-- `splice` meets its contract: the halves that change places and the moves leave the spliced list, and zeros behind it.
use mathlib.Core.Path.{refl, ap, ◌∙◌}
use native.Mathlib.Omega.{arith}
use Rattle.std.proofs.Common.{rules, ◌≤◌, ◌<◌, ◌+◌, ◌-◌, length}
use borrow.Rule.Slice.PartMut.{put_mid}
use Rattle.message_maps.specs.SpliceLaws.{parts_spliced, swapped-halves, put, put-same, over}
use Rattle.message_maps.proofs.splice.Goals as goal

pub returns : goal.returns
returns g c =
    let a = c.args in
    let s = c.args.cells.now in
    let back = c.max-back.result in
    let first : (c.args.from ≤ c.max-back.result) × (c.args.kept ≤ c.max-back.result) × (c.max-back.result ≤ c.args.to) × (c.args.kept < c.max-back.result → c.max-back.result ≤ c.args.from) =
    search rules in
    parts_spliced a.zero g.row.N a.from a.to a.kept a.end a.used back c.clear_end-stop.result a.blank a.new.now s
    c.requires.from_le_to c.requires.cells_value first _ _ _ _ _ _ _ _ _ _ refl refl refl refl c.clear_end-stop.ensures
    (ap (put_mid back (a.end - back) s) c.rotate_left.ensures.after ∙ swapped-halves back a.to a.end s first.2 (omega arith) (omega arith))
    c.move_part.ensures
    c.move_part-2.ensures
    (put (a.from + (a.end - a.to)) _ _ _ (omega (arith, ap length c.copy_from_slice.ensures.after)) ∙ ap (λ x. over (a.from + (a.end - a.to)) x c.move_part-2.new.cells) c.copy_from_slice.ensures.after)
    c.copy_within.ensures.after
    (put-same _ _ a.zero _ _ c.clear_end-stop.ensures.0 (omega (arith, c.clear_end-stop.ensures.1, c.requires.from_le_to.5)) (c.fill.ensures.after c.requires.plain.1))
