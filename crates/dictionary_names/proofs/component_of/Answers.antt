-- `component_of` meets its contract: an entry that is found holds the component.
use mathlib.Core.Path.{◌≡◌, sym, ap, ◌∙◌}
use Prim.Native.Nat.{ℕ}
use borrow.Author.Rules.{rules}
use Rattle.dictionary_chains.specs.Chain.{key_room, found}
use Rattle.dictionary_chains.proofs.ChainLaws.{found_small}
use Rattle.dictionary_chains.specs.declared.Table.TheVariants.{Components}
use Rattle.dictionary_rules.specs.Index.{component_of}
use Rattle.dictionary_rules.specs.IndexLaws.{component_missing, component-closed}
use Rattle.dictionary_names.proofs.component_of.Goals as goal

-- the key is of 16 bits, as a component's must be
pub find-at-requires : goal.find-at-requires
unfolding key_room
find-at-requires c = search rules

pub returns-then-at-eq0 : goal.returns-then-at-eq0
returns-then-at-eq0 c =
    let at_of : found Components c.args.index.now c.args.number ≡ c.find-at.result = ap (λ (k : ℕ). found Components c.args.index.now k) (sym c.from.ensures) ∙ sym c.find-at.ensures in
    sym (component_missing _ _ (at_of ∙ c.if-at-eq0.true))

pub entry_at-entry-requires : goal.entry_at-entry-requires
entry_at-entry-requires c =
    let at_of : found Components c.args.index.now c.args.number ≡ c.find-at.result = ap (λ (k : ℕ). found Components c.args.index.now k) (sym c.from.ensures) ∙ sym c.find-at.ensures in
    (c.requires, rw (sym (at_of)) (found_small Components _ _))

pub returns : goal.returns
returns c =
    let at_of : found Components c.args.index.now c.args.number ≡ c.find-at.result = ap (λ (k : ℕ). found Components c.args.index.now k) (sym c.from.ensures) ∙ sym c.find-at.ensures in
    sym (component-closed _ _ _ (at_of) c.if-at-eq0.false ∙ unfold component_of in rw c.entry_at-entry.ensures)
