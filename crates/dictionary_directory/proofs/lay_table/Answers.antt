-- `lay_table` meets its contract: rows that were made hold a layout, which is pressed over the first words; else nothing is laid.
use mathlib.Core.Path.{◌≡◌, refl, sym, ap, ◌∙◌}
use mathlib.Core.List.{◌++◌}
use Prim.Native.Nat.{ℕ}
use native.Mathlib.Omega.{arith}
use lib.ListN.{length, take, drop, replicate, length-append, length-drop, length-replicate}
use lib.Seq.{length-take-le}
use Rattle.dictionary_meaning_rules.proofs.Kept.{table_kept}
use Rattle.dictionary_meaning_rules.specs.LaidLayout.{LaidAs}
use Rattle.dictionary_meaning_rules.proofs.LaidLayoutLaws.{placed_layout}
use Rattle.dictionary_meaning_rules.specs.MessageTable.{tabling, placed_table}
use Rattle.dictionary_meaning_rules.specs.declared.MessageTable.TheVariants.{Rows}
use Rattle.dictionary_directory.specs.Directory.{table_words}
use Rattle.dictionary_directory.proofs.LayingFacts.{alone_rows, over_rows}
use Rattle.dictionary_directory.proofs.LayingFacts.{held_tabled, held-few, held_fits, held_pressable}
use Rattle.dictionary_directory.proofs.Arms.{made_as, unlaid_alone}
use Rattle.dictionary_directory.proofs.lay_table.Goals as goal
use Rattle.dictionary_directory.proofs.lay_table.Goals.{In-Rows}
use Rattle.std.proofs.Common.{Some}

pub returns-in_default : goal.returns-in_default
returns-in_default c =
    let long : length c.args.table.now ≡ table_words = ap length c.requires.1 ∙ length-replicate {A = ℕ} table_words 0 in
    let used : length (c.placed_table.new.leaps ++ drop 4096 c.args.table.now) ≡ table_words = let table = c.args.table.now in
    let n = long in
    let first : length c.placed_table.new.leaps ≡ 4096 = c.placed_table.auto.leaps ∙ length-take-le 4096 table (omega arith) in
    length-append c.placed_table.new.leaps (drop 4096 table) ∙ omega (arith, length-drop 4096 table) in
    let u = unlaid_alone _ _ c.placed_table.ensures c.in_default.not-Rows _ in record { value = u.0; laid_first = (_, used, u.1) }

pub slice_bounds-placed_table-end : goal.slice_bounds-placed_table-end
slice_bounds-placed_table-end c =
    let long : length c.args.table.now ≡ table_words = ap length c.requires.1 ∙ length-replicate {A = ℕ} table_words 0 in
    omega (arith, long)

pub slice_bounds-placed_table-end-2 : goal.slice_bounds-placed_table-end-2
slice_bounds-placed_table-end-2 c =
    let long : length c.args.table.now ≡ table_words = ap length c.requires.1 ∙ length-replicate {A = ℕ} table_words 0 in
    sym (length-take-le 4096 c.args.table.now (omega (arith, long)))

pub placed_table-requires : goal.placed_table-requires
placed_table-requires c = (c.requires.0, ap (take 4096) c.requires.1 ∙ refl)

-- the rows that were made, and that they hold a layout
made-here : (c : In-Rows) → tabling (Rows c.in-Rows.count) c.placed_table.new.table ≡ placed_table c.args.dictionary.now c.args.index.now
    (Some c.args.opening) (replicate 4096 0)
made-here c = made_as c.placed_table.ensures c.in-Rows.is

holds : (c : In-Rows) → LaidAs c.placed_table.new.table c.in-Rows.count
holds c = placed_layout _ _ _ _ _ _ (omega (arith, length-replicate {A = ℕ} 4096 0)) (made-here c)

pub slice_bounds-rows-end : goal.slice_bounds-rows-end
slice_bounds-rows-end c = table_kept _ _ _ _ _ _ c.placed_table.ensures

pub press-requires : goal.press-requires
press-requires c =
    let long : length c.args.table.now ≡ table_words = ap length c.requires.1 ∙ length-replicate {A = ℕ} table_words 0 in
    let used : length (c.placed_table.new.leaps ++ drop 4096 c.args.table.now) ≡ table_words = let table = c.args.table.now in
    let n = long in
    let first : length c.placed_table.new.leaps ≡ 4096 = c.placed_table.auto.leaps ∙ length-take-le 4096 table (omega arith) in
    length-append c.placed_table.new.leaps (drop 4096 table) ∙ omega (arith, length-drop 4096 table) in
    held_pressable _ _ (holds (goal.at.press-requires c).In-Rows) _ (omega (arith, held_fits _ _ (holds (goal.at.press-requires c).In-Rows), used))

pub returns : goal.returns
returns c =
    let long : length c.args.table.now ≡ table_words = ap length c.requires.1 ∙ length-replicate {A = ℕ} table_words 0 in
    let used : length (c.placed_table.new.leaps ++ drop 4096 c.args.table.now) ≡ table_words = let table = c.args.table.now in
    let n = long in
    let first : length c.placed_table.new.leaps ≡ 4096 = c.placed_table.auto.leaps ∙ length-take-le 4096 table (omega arith) in
    length-append c.placed_table.new.leaps (drop 4096 table) ∙ omega (arith, length-drop 4096 table) in
    record { value = alone_rows _ _ (made-here (goal.at.returns c).In-Rows) _ (c.table_size.ensures _ (held_tabled _ _ (holds (goal.at.returns c).In-Rows)) (held-few _ _ (holds (goal.at.returns c).In-Rows))); laid_first = (_, used, over_rows _ _ (made-here (goal.at.returns c).In-Rows) _ _ (c.press.ensures _ (held_tabled _ _ (holds (goal.at.returns c).In-Rows)))) }
