-- `placed_table` meets its contract: it lays the items from behind the record that opens the message, and what stands for nothing there is
-- passed. Blank words tell of no leap.
use mathlib.Core.Path.{◌≡◌, sym, ap, ◌∙◌}
use Prim.Native.Nat.{ℕ, ◌+◌}
use native.Mathlib.Omega.{arith}
use Rattle.dictionary_rules.specs.Index.{component_at}
use Rattle.dictionary_meaning_rules.specs.Laying.{laying, lay_items}
use Rattle.dictionary_meaning_rules.specs.MessageTable.{most_calls, as_table, placed_table}
use Rattle.dictionary_flattening.proofs.LeapsLaws.{leaps_none, leads_items}
use Rattle.dictionary_flattening.proofs.Arms.{laid_as}
use Rattle.dictionary_flattening.proofs.placed_table.Goals as goal

pub pass-items-requires : goal.pass-items-requires
pass-items-requires c = (c.requires.0, rw c.requires.1 leaps_none)

pub lay_items-requires : goal.lay_items-requires
lay_items-requires c = (c.requires.0, omega arith, c.pass-items.ensures.leaps)

pub returns-in_default : goal.returns-in_default
unfolding placed_table as_table
returns-in_default c =
    let laid-here : laying c.lay_items.result c.lay_items.new.table ≡ lay_items most_calls c.args.dictionary.now (component_at c.args.index.now)
    (c.args.opening + 9) 0 c.args.table.now = let behind : c.from.result + 9 ≡ c.args.opening + 9 = rw c.from.ensures in
    c.lay_items.ensures.table_after ∙ sym (leads_items c.pass-items.ensures.leads most_calls 0 c.args.table.now (λ z. absurd (omega arith)))
    ∙ ap (λ (n : ℕ). lay_items most_calls c.args.dictionary.now (component_at c.args.index.now) n 0 c.args.table.now) behind in
    rw (laid_as (laid-here) c.in_default.is)

pub returns : goal.returns
unfolding placed_table as_table
returns c =
    let laid-here : laying c.lay_items.result c.lay_items.new.table ≡ lay_items most_calls c.args.dictionary.now (component_at c.args.index.now)
    (c.args.opening + 9) 0 c.args.table.now = let behind : c.from.result + 9 ≡ c.args.opening + 9 = rw c.from.ensures in
    c.lay_items.ensures.table_after ∙ sym (leads_items c.pass-items.ensures.leads most_calls 0 c.args.table.now (λ z. absurd (omega arith)))
    ∙ ap (λ (n : ℕ). lay_items most_calls c.args.dictionary.now (component_at c.args.index.now) n 0 c.args.table.now) behind in
    rw (laid_as (laid-here) c.in-Some.is)
