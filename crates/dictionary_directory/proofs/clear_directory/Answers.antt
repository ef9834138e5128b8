-- `clear_directory` meets its contract: its words are filled with zero, and those behind them stay.
use Rattle.std.proofs.Common.{◌≡◌, ◌++◌, drop, replicate, sym, ap, ◌∙◌, length-take-le}
use Rattle.dictionary_directory.specs.Directory.{directory_words, clear_directory}
use Rattle.dictionary_directory.proofs.clear_directory.Goals as goal

pub slice_bounds-fill-end-2 : goal.slice_bounds-fill-end-2
slice_bounds-fill-end-2 c = sym (length-take-le directory_words c.args.tables.now c.requires)

pub returns : goal.returns
unfolding clear_directory
returns c =
    let filled : c.fill.new.self ≡ replicate directory_words 0 = c.fill.ensures.after (λ y h. h) ∙ ap (λ n. replicate n 0) (length-take-le directory_words c.args.tables.now c.requires) in
    ap (λ words. words ++ drop directory_words c.args.tables.now) filled
