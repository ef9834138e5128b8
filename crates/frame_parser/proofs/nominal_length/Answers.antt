use Rattle.std.proofs.Common.{◌≡◌, get_or, sym, ◌∙◌, arith}
use Rattle.frame_parser_rules.specs.Announced.{digit_of}
use Rattle.frame_parser_rules.specs.AnnouncedLaws.{nominal-step, nominal-end}
use Rattle.frame_parser.proofs.nominal_length.Goals as goal

pub loop-byte-preserved : goal.loop-byte-preserved
unfolding digit_of
loop-byte-preserved c = let text = c.args.text.now in
    let i = c.loop-byte.byte-index in
    let digit : c.from.result ≡ digit_of (get_or text i 0) = omega (arith, c.type_inv.text i, c.from.ensures) in
    rw (digit, c.ten_times.ensures) (c.loop-byte.invariant ∙ nominal-step text i c.loop-byte.n c.loop-byte-test.true)

pub returns : goal.returns
returns c = sym (c.loop-byte.invariant ∙ nominal-end _ _ _ c.loop-byte-test.false)
