-- The index and the names of a dictionary agree: every look-up of the one answers as the other does, from the first record to the
-- last, so the check over the index is the check, and what it leaves in the index is what the dictionary names.
use Rattle.std.specs.Prelude.{◌≡◌, Bool, List, ◌++◌, ℕ, ◌+◌, ◌≤◌, ◌<◌, length, drop, replicate, Some, None}
use Rattle.std.proofs.Math.Path.{refl, sym}
use Rattle.std.proofs.Common.{ap, ◌∙◌, arith, length-append, length-drop}
use Rattle.std.proofs.Math.Bool.{true, false}
use Rattle.std.proofs.lemmas.List.{length-replicate}
use Rattle.std.proofs.Math.Dec.{eqb}
use borrow.Author.Tests.{eqb-true, eqb-false}
use Rattle.field_rules.specs.Choice.{pick}
use Rattle.dictionary_chains.specs.Chain.{head_words, index_words, key_of, entry_at, way_of, found, entered, number_at}
use Rattle.dictionary_chains.proofs.ChainLaws.{entered_again, enter_length, enter_bounded, enter_known, enter_found, enter_elsewhere, clear_bounded, clear_found}
use Rattle.dictionary_chains.proofs.TreeLaws.{Bounded}
use Rattle.dictionary_chains.specs.declared.Table.{Table}
use Rattle.dictionary_chains.specs.declared.Table.TheVariants.{Tags, Components, MsgTypes}
use Rattle.dictionary_chains.specs.declared.Entry.{Entry}
use Rattle.dictionary_rules.specs.Index.{tag_entry, component_entry, message_entry, component_of, tag_at, component_at, message_at, noted}
use Rattle.dictionary_rules.specs.IndexLaws.{tag_unknown, tag-known, component_missing, component-closed, missing_new, message-nowhere, message-placed, nowhere-new}
use Rattle.dictionary_rules.specs.declared.Component.{Component}
use Rattle.dictionary_rules.specs.declared.Note.TheVariants.{KnowsTag, ClosesComponent, NamesMessage}
use Rattle.dictionary_rules.specs.Names.{Names, is_known, component_in, message_in, named, no_names}

-- the index answers as the names do, and no entry is newer than b
pub record Agrees (index : List ℕ) (names : Names) (b : ℕ) : Type 0 where
  pub size : length index ≡ index_words
  pub bound : Bounded index b
  pub tags : (tag : ℕ) → tag_at index tag ≡ is_known names.tags tag
  pub components : (number : ℕ) → component_at index number ≡ component_in names.components number
  pub messages : (msg_type : ℕ) → message_at index msg_type ≡ message_in names.messages msg_type

tag_key : (place tag : ℕ) → key_of Tags (tag_entry place tag) ≡ tag
unfolding key_of tag_entry
tag_key place tag = omega arith

-- a tag that is known is not entered anew
pub known_again : (index : List ℕ) (place tag : ℕ) → tag_at index tag ≡ true → noted index (KnowsTag place tag) ≡ index
unfolding noted found
known_again index place tag known = entered_again Tags index (tag_entry place tag) _ refl some
  where
    some : (way_of Tags index (key_of Tags (tag_entry place tag))).number ≡ 0 → ⊥
    some none =
        let unknown : tag_at index tag ≡ false = tag_unknown index tag (rw (tag_key place tag) at none) in
        let z : ◌≡◌ {A = ℕ} 0 1 = cc in
        omega arith

component_key : (c : Component) → key_of Components (component_entry c) ≡ c.number
unfolding key_of component_entry
component_key c = refl

message_key : (place msg_type : ℕ) → key_of MsgTypes (message_entry place msg_type) ≡ msg_type
unfolding key_of message_entry
message_key place msg_type = omega arith

whole-component : (c : Component) → component_of (component_entry c) ≡ c
unfolding component_of component_entry
whole-component c = refl

-- an entry changes no answer but its own
module _ (table : Table) (index : List ℕ) (e : Entry) (b : ℕ) (size : length index ≡ index_words) (bound : Bounded index b) (early : e.place < 60000) (newer : b + 4 ≤ number_at e.place) where
  other_tag : (tag : ℕ) → (Tags ≡ table → tag ≡ key_of table e → ⊥) → tag_at (entered table index e) tag ≡ tag_at index tag
  unfolding tag_at
  other_tag tag apart = rw (enter_elsewhere table index e b size bound early newer Tags tag apart).0

  other-component : (number : ℕ) → (Components ≡ table → number ≡ key_of table e → ⊥) → component_at (entered table index e) number ≡ component_at index number
  unfolding component_at
  other-component number apart =
      let same = enter_elsewhere table index e b size bound early newer Components number apart in
      rw (same.0, same.1)

  other-message : (msg_type : ℕ) → (MsgTypes ≡ table → msg_type ≡ key_of table e → ⊥) → message_at (entered table index e) msg_type ≡ message_at index msg_type
  unfolding message_at
  other-message msg_type apart =
      let same = enter_elsewhere table index e b size bound early newer MsgTypes msg_type apart in
      rw (same.0, same.1)

  -- what is found under its key is the entry, where the key is new
  module _ (key : ℕ) (same : key ≡ key_of table e) where
    own-known : found table (entered table index e) key ≡ 0 → ⊥
    own-known = rw same (enter_known table index e b size bound early newer)

    own-entry : found table index key ≡ 0 → entry_at (entered table index e) (found table (entered table index e) key) ≡ e
    own-entry new = rw same (enter_found table index e b size bound early newer (rw same at new))

not_components : Tags ≡ Components → ⊥
not_components q = let z : ◌≡◌ {A = ℕ} 0 1 = cc in omega arith

not_messages : Tags ≡ MsgTypes → ⊥
not_messages q = let z : ◌≡◌ {A = ℕ} 0 1 = cc in omega arith

components_messages : Components ≡ MsgTypes → ⊥
components_messages q = let z : ◌≡◌ {A = ℕ} 0 1 = cc in omega arith

module _ (index : List ℕ) (names : Names) (b : ℕ) (a : Agrees index names b) where
  pub knows-tag : (place tag : ℕ) → place < 60000 → b + 4 ≤ number_at place → Agrees (noted index (KnowsTag place tag)) (named names (KnowsTag place tag)) (number_at place)
  unfolding noted named tag_entry is_known
  knows-tag place tag early newer =
      let e = tag_entry place tag in
      record {
        size = enter_length Tags index e b a.size a.bound early newer;
        bound = enter_bounded Tags index e b a.size a.bound early newer;
        tags = λ t. go t (eqb t tag) refl;
        components = λ n. other-component Tags index e b a.size a.bound early newer n (λ q k. not_components (sym q)) ∙ a.components n;
        messages = λ m. other-message Tags index e b a.size a.bound early newer m (λ q k. not_messages (sym q)) ∙ a.messages m;
      }
    where
      go : (t : ℕ) (s : Bool) → eqb t tag ≡ s → tag_at (entered Tags index (tag_entry place tag)) t ≡ pick s true (is_known names.tags t)
      go t true q =
          tag-known _ t _ refl (own-known Tags index (tag_entry place tag) b a.size a.bound early newer t (eqb-true t tag q ∙ sym (tag_key place tag)))
      go t false q =
          other_tag Tags index (tag_entry place tag) b a.size a.bound early newer t (λ r k. eqb-false t tag q (k ∙ tag_key place tag)) ∙ a.tags t

  pub closes-component : (c : Component) → c.place < 60000 → b + 4 ≤ number_at c.place → component_in names.components c.number ≡ None
      → Agrees (noted index (ClosesComponent c)) (named names (ClosesComponent c)) (number_at c.place)
  unfolding noted named component_entry component_in
  closes-component c early newer missing =
      let e = component_entry c in
      record {
        size = enter_length Components index e b a.size a.bound early newer;
        bound = enter_bounded Components index e b a.size a.bound early newer;
        tags = λ t. other_tag Components index e b a.size a.bound early newer t (λ q k. not_components q) ∙ a.tags t;
        components = λ n. go n (eqb n c.number) refl;
        messages = λ m. other-message Components index e b a.size a.bound early newer m (λ q k. components_messages (sym q)) ∙ a.messages m;
      }
    where
      new : (n : ℕ) → n ≡ c.number → found Components index n ≡ 0
      new n e = rw e (missing_new index c.number (a.components c.number ∙ missing))

      whole : component_of (component_entry c) ≡ c
      whole = whole-component c

      go : (n : ℕ) (s : Bool) → eqb n c.number ≡ s → component_at (entered Components index (component_entry c)) n ≡ pick s (Some c) (component_in names.components n)
      go n true q =
          let same = eqb-true n c.number q ∙ sym (component_key c) in
          component-closed _ n _ refl (own-known Components index (component_entry c) b a.size a.bound early newer n same)
          ∙ ap (λ (x : Entry). Some (component_of x))
          (own-entry Components index (component_entry c) b a.size a.bound early newer n same (new n (eqb-true n c.number q)))
          ∙ ap Some whole
      go n false q =
          other-component Components index (component_entry c) b a.size a.bound early newer n (λ r k. eqb-false n c.number q (k ∙ component_key c)) ∙ a.components n

  pub names_message : (place msg_type : ℕ) → place < 60000 → b + 4 ≤ number_at place → message_in names.messages msg_type ≡ None
      → Agrees (noted index (NamesMessage place msg_type)) (named names (NamesMessage place msg_type)) (number_at place)
  unfolding noted named message_entry message_in
  names_message place msg_type early newer nowhere =
      let e = message_entry place msg_type in
      record {
        size = enter_length MsgTypes index e b a.size a.bound early newer;
        bound = enter_bounded MsgTypes index e b a.size a.bound early newer;
        tags = λ t. other_tag MsgTypes index e b a.size a.bound early newer t (λ q k. not_messages q) ∙ a.tags t;
        components = λ n. other-component MsgTypes index e b a.size a.bound early newer n (λ q k. components_messages q) ∙ a.components n;
        messages = λ m. go m (eqb m msg_type) refl;
      }
    where
      new : (m : ℕ) → m ≡ msg_type → found MsgTypes index m ≡ 0
      new m e = rw e (nowhere-new index msg_type (a.messages msg_type ∙ nowhere))

      go : (m : ℕ) (s : Bool) → eqb m msg_type ≡ s → message_at (entered MsgTypes index (message_entry place msg_type)) m ≡ pick s (Some place) (message_in names.messages m)
      go m true q =
          let same = eqb-true m msg_type q ∙ sym (message_key place msg_type) in
          message-placed _ m _ refl (own-known MsgTypes index (message_entry place msg_type) b a.size a.bound early newer m same)
          ∙ ap (λ (x : Entry). Some x.place)
          (own-entry MsgTypes index (message_entry place msg_type) b a.size a.bound early newer m same (new m (eqb-true m msg_type q)))
      go m false q =
          other-message MsgTypes index (message_entry place msg_type) b a.size a.bound early newer m (λ r k. eqb-false m msg_type q (k ∙ message_key place msg_type)) ∙ a.messages m

-- a cleared index agrees with no names
pub clear_agrees : (index : List ℕ) → length index ≡ index_words → Agrees (replicate head_words 0 ++ drop head_words index) no_names 0
unfolding no_names is_known component_in message_in
clear_agrees index h =
    record {
      size = rw (length-append, length-replicate, length-drop) (omega arith);
      bound = clear_bounded (drop head_words index);
      tags = λ t. tag_unknown _ t (clear_found (drop head_words index) Tags t);
      components = λ n. component_missing _ n (clear_found (drop head_words index) Components n);
      messages = λ m. message-nowhere _ m (clear_found (drop head_words index) MsgTypes m);
    }
