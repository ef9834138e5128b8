-- `tag_known` meets its contract: an entry is found, or none is.
use Rattle.std.proofs.Common.{◌≡◌, refl, ℕ, List, Bool, true, false, not, eqb, arith}
use Rattle.dictionary_chains.specs.Chain.{key_room, found}
use Rattle.dictionary_chains.specs.declared.Table.TheVariants.{Tags}
use Rattle.dictionary_rules.specs.Index.{tag_at}
use Rattle.dictionary_names.proofs.tag_known.Goals as goal

-- the key is of 32 bits, as a tag's must be
pub find-requires : goal.find-requires
unfolding key_room
find-requires c = (c.requires, omega (arith, c.from.ensures))

known : (index : List ℕ) (tag : ℕ) (none : Bool) → eqb (found Tags index tag) 0 ≡ none → not (eqb (found Tags index tag) 0) ≡ tag_at index tag
unfolding tag_at
known index tag true e = rw e
known index tag false e = rw e

pub returns : goal.returns
returns c = rw (c.find.ensures, c.from.ensures) (known c.args.index.now c.args.tag _ refl)
