-- `enter` meets its contract: a key that was entered before changes nothing, and for a new one the word where its way ended leads to it.
use mathlib.Core.Path.{◌≡◌, sym, ap, ◌∙◌}
use Prim.Native.Nat.{◌<◌}
use native.Mathlib.Omega.{arith}
use lib.ListN.{length-set}
use Rattle.dictionary_chains.specs.Chain.{index_words, key_of, way_of, branched, number_at}
use Rattle.dictionary_chains.proofs.WordLaws.{key_small}
use Rattle.dictionary_chains.proofs.ChainLaws.{way_small, entered-late, entered-new, entered_again}
use Rattle.dictionary_chains.proofs.enter.Goals as goal

pub returns-then-place-ge60000 : goal.returns-then-place-ge60000
returns-then-place-ge60000 c = sym (entered-late _ _ _ (omega (arith, c.from-place.ensures)))

-- the entry's key is made of words, so it is one of the table
pub way_of-way-requires : goal.way_of-way-requires
way_of-way-requires c = (
  c.requires,
  omega (arith, c.key_of.ensures, key_small c.args.table c.args.entry (omega arith) (omega arith) (omega arith) (omega arith)),
)

pub returns-then-way-ne0 : goal.returns-then-way-ne0
returns-then-way-ne0 c =
    let way : way_of c.args.table c.args.index.now (key_of c.args.table c.args.entry) ≡ c.way_of-way.result = ap (way_of c.args.table c.args.index.now) (sym c.key_of.ensures) ∙ sym c.way_of-way.ensures in
    sym (entered_again _ _ _ _ (way) c.if-way-ne0.true)

pub bounds-index-at-2 : goal.bounds-index-at-2
bounds-index-at-2 c = simp length-set (omega arith)

pub offset_bounds-index-cell : goal.offset_bounds-index-cell
offset_bounds-index-cell c =
    let way : way_of c.args.table c.args.index.now (key_of c.args.table c.args.entry) ≡ c.way_of-way.result = ap (way_of c.args.table c.args.index.now) (sym c.key_of.ensures) ∙ sym c.way_of-way.ensures in
    let cell-small : c.way_of-way.result.cell < index_words = rw (way) at (way_small c.args.table c.args.index.now (key_of c.args.table c.args.entry)) in
    omega (arith, cell-small)

pub bounds-index-cell : goal.bounds-index-cell
bounds-index-cell c =
    let way : way_of c.args.table c.args.index.now (key_of c.args.table c.args.entry) ≡ c.way_of-way.result = ap (way_of c.args.table c.args.index.now) (sym c.key_of.ensures) ∙ sym c.way_of-way.ensures in
    let cell-small : c.way_of-way.result.cell < index_words = rw (way) at (way_small c.args.table c.args.index.now (key_of c.args.table c.args.entry)) in
    simp length-set (omega (arith, cell-small))

pub write-requires : goal.write-requires
write-requires c = (simp length-set c.requires, omega arith)

pub shape_of-index : goal.shape_of-index
shape_of-index c = c.write.auto.index ∙ simp length-set

pub returns : goal.returns
unfolding branched number_at
returns c =
    let way : way_of c.args.table c.args.index.now (key_of c.args.table c.args.entry) ≡ c.way_of-way.result = ap (way_of c.args.table c.args.index.now) (sym c.key_of.ensures) ∙ sym c.way_of-way.ensures in
    c.write.ensures
    ∙ sym (entered-new c.args.table c.args.index.now c.args.entry (omega (arith, c.from-place.ensures))
    c.way_of-way.result (way) (omega (arith, c.if-way-ne0.false))
    ∙ rw c.from-place.ensures)
