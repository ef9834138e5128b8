-- `write_items` meets its contract. The invariant: what is left to write, on what is written so far, is the whole.
use mathlib.Core.Bool.{false}
use Prim.Native.Nat.{◌-◌}
use lib.ListN.{drop}
use Rattle.message_maps.specs.Rows.{rows_from}
use Rattle.message_rules.specs.RowChanges.{place_of}
use Rattle.encode_rows.specs.Writing.{rows_text}
use Rattle.encode_rows.specs.WritingLaws.{Going}
use Rattle.encode_rows.proofs.write_items.Given as goal

abbrev pub invariant-loop-i : goal.invariant-loop-i
invariant-loop-i l = Going l.words l.values l.to l.which l.separator (rows_text l.which l.separator false (rows_from (l.to - l.from) l.from l.words) (drop (place_of l.words l.from) l.values))
    l.initial.output l.at l.output l.next l.place l.on l.i
