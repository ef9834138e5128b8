-- `put_links` meets its contract: four stores.
use native.Mathlib.Omega.{arith}
use lib.ListN.{length-set}
use mathlib.Core.Path.{refl}
use Rattle.dictionary_pressing.specs.Linking.{links_put}
use Rattle.dictionary_pressing.proofs.put_links.Goals as goal

pub bounds-table-at-2 : goal.bounds-table-at-2
bounds-table-at-2 c = simp length-set (omega arith)

pub bounds-table-at-3 : goal.bounds-table-at-3
bounds-table-at-3 c = simp length-set (omega arith)

pub bounds-table-head : goal.bounds-table-head
bounds-table-head c = simp length-set (omega arith)

pub shape_of-table : goal.shape_of-table
shape_of-table c = simp length-set

pub returns : goal.returns
unfolding links_put
returns c = refl
