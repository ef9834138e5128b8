-- A dictionary that passes, with the index that its check left: each message that the index finds is laid as the layout that the tree has
-- for it, each component means what the tree says, and the tree has no other message.
use Rattle.std.proofs.Math.Path.{◌≡◌, refl, sym}
use Rattle.std.proofs.Common.{◌∙◌, arith, Some, None}
use Rattle.std.specs.Prelude.{Bool, List, [], ℕ, length}
use Rattle.std.proofs.Math.Bool.{true, false}
use Rattle.dictionary_chains.specs.Chain.{index_words}
use Rattle.field_rules.specs.Choice.{pick}
use Rattle.dictionary_layout_rules.specs.Layout.{Layout}
use Rattle.dictionary_layout_rules.specs.Tree.{no_message, laid_out}
use Rattle.dictionary_layout_rules.specs.Tree.{layout_of as layout_in_tree}
use Rattle.dictionary_rules.specs.Records.{records_from}
use Rattle.dictionary_rules.specs.Check.{CheckOutcome, outcome, walked, too_long, read_of, answer_of, store_of, check_of}
use Rattle.dictionary_rules.specs.Names.{looks_in, named, no_names, message_in}
use Rattle.dictionary_rules.specs.Index.{component_at, message_at}
use Rattle.dictionary_rules.specs.Check.{prepared_of}
use Rattle.dictionary_rules.specs.Agreement.{Agrees}
use Rattle.dictionary_rules.proofs.Prepared.{prepared_names}
use Rattle.dictionary_rules.specs.declared.Checked.{Checked}
use Rattle.dictionary_rules.specs.declared.Checked.TheVariants.{Passes, TooLong}
use Rattle.dictionary_rules.specs.declared.Component.{Component}
use Rattle.dictionary_rules.specs.declared.State.TheVariants.{TopLevel}
use Rattle.dictionary_meaning_rules.specs.Meaning.{declarations_of, defined_after, nodes_of, meaning_of, dictionary_of}
use Rattle.dictionary_meaning_rules.specs.MsgType.{name_of}
use Rattle.dictionary_meaning_rules.proofs.MsgTypeText.{Bytes}
use Rattle.dictionary_meaning_rules.proofs.Named.{standard}
use Rattle.dictionary_meaning_rules.proofs.Passing.{KnownAs}
use Rattle.dictionary_meaning_rules.proofs.TreeBounds.{passes_kept}
use Rattle.dictionary_meaning_rules.proofs.Tables.{MessageAs, Meant, meant}

whole-outcome : {S : Type 0} (x : CheckOutcome S) (checked : Checked) → answer_of x ≡ checked → x ≡ outcome checked (store_of x)
unfolding answer_of store_of
whole-outcome (outcome answer store) checked e = rw e

module _ (d : List ℕ) (passes : check_of d ≡ Passes) where
  pub short : too_long d ≡ false
  unfolding check_of read_of answer_of
  short = go (too_long d) refl passes
    where
      go : (t : Bool) → too_long d ≡ t → answer_of (pick t (outcome TooLong no_names) (walked looks_in named (records_from d 0) TopLevel no_names)) ≡ Passes → too_long d ≡ false
      go true e q = let z : ◌≡◌ {A = ℕ} 0 1 = cc in absurd (omega arith)
      go false e q = e

  pub reads_passing : walked looks_in named (records_from d 0) TopLevel no_names ≡ outcome Passes (store_of (read_of d))
  unfolding check_of
  reads_passing = sym whole ∙ whole-outcome (read_of d) Passes passes
    where
      whole : read_of d ≡ walked looks_in named (records_from d 0) TopLevel no_names
      whole = unfold read_of in rw short

  module _ (index : List ℕ) (size : length index ≡ index_words) where
    -- the index that the check leaves
    abbrev pub made : List ℕ
    made = store_of (prepared_of d index)

    pub agreeing : (b : ℕ) × Agrees made (store_of (read_of d)) b
    agreeing = prepared_names d index size short

    pub dictionary-meant : Meant d (component_at made) (store_of (read_of d)) no_names [] (declarations_of (records_from d 0))
    dictionary-meant =
        meant d (component_at made) (store_of (read_of d)) (λ number c e. agreeing.1.components number ∙ e) (records_from d 0) 0 refl reads_passing (passes_kept d passes)

    -- a message that the index finds by its number is laid as the layout that the tree has for its bytes
    pub message-laid : Bytes d → (value : List ℕ) → Bytes value → (msg_type place : ℕ) → name_of value ≡ Some msg_type → message_at made msg_type ≡ Some place →
        (layout : Layout) × (layout_in_tree (dictionary_of d) value ≡ laid_out layout) × MessageAs d (component_at made) place layout
    unfolding layout_in_tree dictionary_of meaning_of
    message-laid bytes value text msg_type place name e =
        dictionary-meant.messages bytes value text msg_type place name (sym (agreeing.1.messages msg_type) ∙ e) (unfold no_names message_in in refl)

    -- and one that it doesn't find, or that has no number, is none of the tree's
    pub message-none : Bytes d → (value : List ℕ) → ((msg_type : ℕ) → name_of value ≡ Some msg_type → message_at made msg_type ≡ None) →
        layout_in_tree (dictionary_of d) value ≡ no_message
    unfolding layout_in_tree dictionary_of meaning_of
    message-none bytes value e = dictionary-meant.others bytes value (λ msg_type name. sym (agreeing.1.messages msg_type) ∙ e msg_type name)

    -- a component means what it is laid as
    pub component-laid : (number : ℕ) (c : Component) → component_at made number ≡ Some c → KnownAs d (component_at made) number c (nodes_of (defined_after [] (declarations_of (records_from d 0))) number)
    component-laid number c e = dictionary-meant.known number c (sym (agreeing.1.components number) ∙ e)

    -- components 0 and 1 are there
    pub standard_there : ((c : Component) × (component_at made 0 ≡ Some c)) × ((c : Component) × (component_at made 1 ≡ Some c))
    standard_there =
        let s = standard d (store_of (read_of d)) (records_from d 0) 0 no_names refl reads_passing in
        ((s.header.0, agreeing.1.components 0 ∙ s.header.1), (s.trailer.0, agreeing.1.components 1 ∙ s.trailer.1))
