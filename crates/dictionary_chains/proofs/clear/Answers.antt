-- `clear` meets its contract: the heads are filled with zero, and what stands behind them stays.
use Rattle.std.proofs.Common.{◌≡◌, ◌++◌, length, take, drop, replicate, ap, ◌∙◌, arith, length-take}
use Rattle.dictionary_chains.specs.Chain.{head_words}
use Rattle.dictionary_chains.proofs.clear.Goals as goal

pub slice_bounds-fill-end-2 : goal.slice_bounds-fill-end-2
slice_bounds-fill-end-2 c = simp length-take (omega arith)

pub returns : goal.returns
returns c =
    let heads : length (take head_words c.args.index.now) ≡ head_words = simp length-take (omega arith) in
    let filled : c.fill.new.self ≡ replicate head_words 0 = c.fill.ensures.after (λ y h. h) ∙ ap (λ n. replicate n 0) heads in
    ap (λ words. words ++ drop head_words c.args.index.now) filled
