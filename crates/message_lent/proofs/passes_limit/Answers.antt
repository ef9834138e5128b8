-- `passes_limit` meets its contract: rows that are few enough have fields that are few enough.
use mathlib.Core.Path.{sym}
use mathlib.Core.List.{List}
use Prim.Native.Nat.{ℕ, ◌-◌, ◌≤◌}
use native.Mathlib.Omega.{arith}
use borrow.Author.Tests.{le-ltb}
use Rattle.message_maps.specs.Rows.{rows_from}
use Rattle.message_lent_rules.specs.Lent.{fields_in}
use Rattle.message_lent_rules.specs.LentLaws.{fields-few}
use Rattle.message_lent_rules.proofs.MeaningLaws.{rows_length}
use Rattle.message_lent.proofs.passes_limit.Goals as goal

-- no row stores more than one field
few : (words : List ℕ) (count : ℕ) → fields_in 1 (rows_from (count - 0) 0 words) ≤ count
few words count = omega (arith, fields-few 1 (rows_from (count - 0) 0 words), rows_length (count - 0) 0 words)

pub returns-then-count-more-le1024 : goal.returns-then-count-more-le1024
returns-then-count-more-le1024 c = sym (le-ltb 1024 _ (omega (arith, few c.args.words.now c.args.count, c.if-count-more-le1024.true)))

pub returns : goal.returns
returns c = rw c.fields_in.ensures

pub overflow_add-result : goal.overflow_add-result
overflow_add-result c = omega (arith, c.fields_in.ensures, few c.args.words.now c.args.count, c.requires.0, c.requires.1)
