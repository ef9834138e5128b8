-- `lay_message` meets its contract: rows that were made hold a layout, and its block is put; else nothing is laid.
use mathlib.Core.Path.{◌≡◌, sym}
use Prim.Native.Nat.{ℕ}
use native.Mathlib.Omega.{arith}
use lib.ListN.{replicate, length-replicate}
use Rattle.dictionary_meaning_rules.specs.MessageTable.{tabling, placed_table}
use Rattle.dictionary_meaning_rules.proofs.LaidLayoutLaws.{placed_layout}
use Rattle.dictionary_meaning_rules.specs.declared.MessageTable.TheVariants.{Rows}
use Rattle.dictionary_directory.proofs.LayingFacts.{message-beyond, message_rows}
use Rattle.dictionary_directory.proofs.Arms.{made_as, unlaid}
use Rattle.dictionary_directory.proofs.lay_message.Goals as goal
use Rattle.dictionary_directory.proofs.lay_message.Goals.{In-Rows}
use Rattle.std.proofs.Common.{Some}

pub returns-then-place-ge-LONGEST : goal.returns-then-place-ge-LONGEST
returns-then-place-ge-LONGEST c = sym (message-beyond _ _ _ _ _ c.if-place-ge-LONGEST.true)

pub returns-in_default : goal.returns-in_default
returns-in_default c = sym (unlaid _ _ _ _ _ c.if-place-ge-LONGEST.false _ _ c.placed_table.ensures c.in_default.not-Rows)

made-here : (c : In-Rows) → tabling (Rows c.in-Rows.count) c.placed_table.new.table ≡
    placed_table c.args.dictionary.now c.args.index.now (Some c.args.place) (replicate 4096 0)
made-here c = made_as c.placed_table.ensures c.in-Rows.is

pub put_block-requires : goal.put_block-requires
put_block-requires c = (c.requires.1, c.if-place-ge-LONGEST.false, placed_layout _ _ _ _ _ _ (omega (arith, length-replicate {A = ℕ} 4096 0)) (made-here (goal.at.put_block-requires c).In-Rows))

pub returns : goal.returns
returns c = message_rows _ _ _ _ _ c.if-place-ge-LONGEST.false _ _ (made-here (goal.at.returns c).In-Rows) c.put_block.ensures
