-- A dictionary that passes the check has tables for each of its messages, and they mean the layouts of its tree.
use Rattle.std.proofs.Math.Path.{◌≡◌, refl, ap, subst}
use Rattle.std.proofs.Common.{sym, ◌∙◌, eq-eqb, ne_eqb, eqb-true, Option, Some, None}
use Rattle.std.specs.Prelude.{Bool, true, false, List, [], ◌∷◌, ℕ, zero, suc, ◌+◌, ◌-◌, ◌≤◌, ◌<◌, eqb}
use native.Mathlib.Omega.{arith}
use Rattle.std.proofs.lemmas.Bool.{eqb-false}
use Rattle.field_rules.specs.Choice.{pick}
use Rattle.dictionary_layout_rules.specs.Layout.{Layout, items}
use Rattle.dictionary_layout_rules.specs.Tree.{no_message, laid_out, message_of, same_bytes}
use Rattle.dictionary_layout_rules.specs.Measures.{NoEmptyGroup, Bounded}
use Rattle.dictionary_rules.specs.Records.{Records, ends, bad, whole, records_from}
use Rattle.dictionary_rules.specs.RecordsLaws.{record_lies}
use Rattle.dictionary_rules.specs.RecordsLaws.{size_of as bytes_of}
use Rattle.dictionary_rules.specs.declared.Record.TheVariants.{KnownTag, OpensComponent, OpensMessage, FieldItem, ComponentItem, OpensGroup, Closes}
use Rattle.dictionary_rules.specs.Step.{opens, stands_for}
use Rattle.dictionary_rules.specs.Names.{Names, component_in, named, no_names}
use Rattle.dictionary_rules.specs.declared.Component.{Component}
use Rattle.dictionary_rules.specs.declared.Owner.{Owner}
use Rattle.dictionary_rules.specs.declared.Owner.TheVariants.{OfComponent, OfMessage}
use Rattle.dictionary_rules.specs.declared.Open.{Open}
use Rattle.dictionary_rules.specs.declared.State.TheVariants.{TopLevel}
use Rattle.dictionary_rules.specs.declared.Note.TheVariants.{ClosesComponent, NamesMessage}
use Rattle.dictionary_meaning_rules.specs.Laying.{laying, lay_items}
use Rattle.dictionary_meaning_rules.specs.MessageTable.{most_calls}
use Rattle.dictionary_meaning_rules.proofs.LayingLaws.{lay_down}
use Rattle.dictionary_meaning_rules.specs.Meaning.{Items, Declaration, known_tag, component, message, Defined, nodes_of, expanded, defined_by, defined_after, msg_type_bytes, message_in, messages_from, size_of, declarations_of}
use Rattle.dictionary_meaning_rules.proofs.Written.{written}
use Rattle.dictionary_meaning_rules.proofs.Layable.{Reads, flat, lay_level, room-any}
use Rattle.dictionary_meaning_rules.proofs.Bodies.{declared-end, declared-tag, declared-component, declared-message}
use Rattle.dictionary_meaning_rules.proofs.Counted.{count_agrees}
use Rattle.dictionary_meaning_rules.specs.Steps.{Passing, note_of, tag-goes, component-opens, message-opens, field-stops, item-stops, group-stops, close-stops, bad-stops, end_passes}
use Rattle.dictionary_meaning_rules.proofs.Inside.{next_of, look_in, Closing, closes-inside}
use Rattle.dictionary_meaning_rules.proofs.Named.{place_in, Kept, kept, component-new, component_old, message-new, message_old}
use Rattle.dictionary_meaning_rules.proofs.Passing.{KnownAs, Known, agrees_known, lay_known, OneLevel, one_level_of, closed_lays}
use Rattle.dictionary_meaning_rules.proofs.TreeBounds.{KeptFrom, kept-tag, kept-component, kept-message}
use Rattle.dictionary_meaning_rules.specs.MsgType.{name_of}
use Rattle.dictionary_meaning_rules.proofs.MsgTypeText.{Bytes, NameNumber, same-named, named-same}
use Rattle.dictionary_meaning_rules.proofs.MsgTypeRecords.{message-number}

-- a message that opens at a place is laid as a layout, from the first row on, whatever the table holds
pub record MessageAs (bytes : List ℕ) (components : ℕ → Option Component) (place : ℕ) (layout : Layout) : Type 0 where
  pub limit : items layout ≤ 1024
  pub laid : (table : List ℕ) → (after : ℕ) × (lay_items most_calls bytes components (place + 9) 0 table ≡ laying (Some (after, (items layout))) (written 0 layout table))

-- what declarations mean, after those that made the names so far
pub record Meant (bytes : List ℕ) (components : ℕ → Option Component) (final names : Names) (defined : List Defined) (declarations : List Declaration) : Type 0 where
  pub known : Known bytes components final (defined_after defined declarations)
  pub messages : Bytes bytes → (value : List ℕ) → Bytes value → (msg_type place : ℕ) → name_of value ≡ Some msg_type → place_in final msg_type ≡ Some place →
      place_in names msg_type ≡ None →
      (layout : Layout) × (message_of value (messages_from defined declarations) ≡ laid_out layout) × MessageAs bytes components place layout
  pub others : Bytes bytes → (value : List ℕ) → ((msg_type : ℕ) → name_of value ≡ Some msg_type → place_in final msg_type ≡ None) →
      message_of value (messages_from defined declarations) ≡ no_message

module _ (defined : List Defined) (d : Defined) where
  defined_new : (number : ℕ) → number ≡ d.number → nodes_of (d ∷ defined) number ≡ d.nodes
  unfolding nodes_of
  defined_new number e = rw (eq-eqb _ _ e)

  defined_old : (number : ℕ) → (number ≡ d.number → ⊥) → nodes_of (d ∷ defined) number ≡ nodes_of defined number
  unfolding nodes_of
  defined_old number e = rw (ne_eqb _ _ e)

-- one more component is known
known_more : (bytes : List ℕ) (components : ℕ → Option Component) (names : Names) (defined : List Defined) (c : Component) (level : Items) → Known bytes components names defined → KnownAs bytes components c.number c (expanded defined level) → Known bytes components (named names (ClosesComponent c)) (defined_by defined (component c.number level))
unfolding defined_by
known_more bytes components names defined c level known new number d e = go (eqb number c.number) refl
  where
    go : (t : Bool) → eqb number c.number ≡ t → KnownAs bytes components number d (nodes_of (record { number = c.number; nodes = expanded defined level } ∷ defined) number)
    go true q =
        let same : number ≡ c.number = eqb-true _ _ q in
        let found = component-new names c number same in
        let comp : c ≡ d = cc in
        rw (← comp, defined_new defined (record { number = c.number; nodes = expanded defined level }) number same, same) new
    go false q =
        let other = eqb-false _ _ q in
        rw (defined_old defined (record { number = c.number; nodes = expanded defined level }) number other) (known number d (sym (component_old names c number other) ∙ e))

module _ (bytes : List ℕ) (components : ℕ → Option Component) (final : Names) (sure : (number : ℕ) (c : Component) → look_in final number ≡ Some c → components number ≡ Some c) where
  -- a component that opens at a place and closes
  component-known : (names : Names) (defined : List Defined) (number place at : ℕ) (rs : Records) → Known bytes components names defined →
      look_in names number ≡ None → at ≡ place + 3 → (c : Closing bytes final names at rs (opens (OfComponent number) place)) →
      (o : OneLevel bytes names at rs c.after c.rest c.last) → NoEmptyGroup (flat defined o.level) →
      Kept (named names (note_of c.last c.last.owner)) final →
      Known bytes components (named names (note_of c.last c.last.owner)) (defined_by defined (component number o.level))
  unfolding opens note_of
  component-known names defined number place at rs known missing next c o filled keeps =
      let closing : Component = record { number = number; place = c.last.place; items = c.last.items; depth = c.last.depth; stands = stands_for number c.last.held } in
      let note : note_of c.last c.last.owner ≡ ClosesComponent closing = ap (note_of c.last) c.owner in
      let keeps : Kept (named names (ClosesComponent closing)) final = rw note at keeps in
      let looked : components number ≡ Some closing = sure number closing (keeps.components number closing (component-new names closing number refl)) in
      let count : c.last.items ≡ items (flat defined o.level) = o.count ∙ count_agrees (look_in names) defined (agrees_known bytes components names defined known o.resolved) in
      let stands : c.last.place + 3 ≡ at = omega (arith, c.place) in
      rw note (known_more bytes components names defined closing o.level known (record {
        count = count;
        lays = closed_lays bytes components names defined known number closing looked at c.after o.level o.reads o.resolved filled count (ap (stands_for number) o.held) stands;
        limit = o.limit;
        looked = looked;
        own = record { level = o.level; after = c.after; before = defined; reads = subst (λ (x : ℕ). Reads bytes x o.level c.after) (sym stands) o.reads; same = refl };
      }))

  -- a message that opens at a place and closes
  message-known : (names : Names) (defined : List Defined) (place at : ℕ) (rs : Records) → Known bytes components names defined →
      at ≡ place + 9 → (c : Closing bytes final names at rs (opens OfMessage place)) → (o : OneLevel bytes names at rs c.after c.rest c.last) →
      Bounded (flat defined o.level) → MessageAs bytes components place (flat defined o.level)
  message-known names defined place at rs known next c o b =
      let all = lay_known bytes components names defined known o.resolved b.filled in
      let room = room-any defined (most_calls - 1) o.level (omega (arith, b.few, b.shallow)) in
      let reads : Reads bytes (place + 9) o.level c.after = subst (λ (x : ℕ). Reads bytes x o.level c.after) next o.reads in
      record {
        limit = b.few;
        laid = λ table. (
          c.after,
          lay_down bytes components (place + 9) 0 table most_calls (λ z. absurd (omega arith))
              ∙ lay_level bytes components defined reads all (most_calls - 1) room 0 table (omega (arith, b.few))
              ∙ ap (λ (n : ℕ). laying (Some (c.after, n)) (written 0 (flat defined o.level) table)) (omega arith),
        );
      }

  abbrev Here : Names → List Defined → Records → Type 0
  Here names defined rs = Meant bytes components final names defined (declarations_of rs)

  -- what comes after one declaration decides
  tag-meant : (names later : Names) (defined : List Defined) (tag : ℕ) (declarations : List Declaration) → later.messages ≡ names.messages → Meant bytes components final later defined declarations → Meant bytes components final names defined (known_tag tag ∷ declarations)
  unfolding defined_after defined_by messages_from message_in
  tag-meant names later defined tag declarations e m =
      record { known = m.known; messages = λ b v t k p w q n. m.messages b v t k p w q (rw e n); others = m.others }

  component-meant : (names later : Names) (defined : List Defined) (number : ℕ) (level : Items) (declarations : List Declaration) → later.messages ≡ names.messages → Meant bytes components final later (defined_by defined (component number level)) declarations → Meant bytes components final names defined (component number level ∷ declarations)
  unfolding defined_after messages_from message_in
  component-meant names later defined number level declarations e m =
      record { known = m.known; messages = λ b v t k p w q n. m.messages b v t k p w q (rw e n); others = m.others }

  -- a value is looked up by its bytes in the tree and by its number in the names, and finds this message in both or in neither
  message-meant : (names later : Names) (defined : List Defined) (place msg_type : ℕ) (level : Items) (declarations : List Declaration) →
      (Bytes bytes → NameNumber msg_type) → later.messages ≡ (named names (NamesMessage place msg_type)).messages → Kept later final →
      MessageAs bytes components place (flat defined level) → Meant bytes components final later defined declarations →
      Meant bytes components final names defined (message (msg_type_bytes msg_type) level ∷ declarations)
  unfolding defined_after defined_by messages_from message_in message_of
  message-meant names later defined place msg_type level declarations number e keeps laid m =
      record {
        known = m.known;
        messages = λ b value text wanted there w q n. found b value text wanted there w q n (same_bytes (msg_type_bytes msg_type) value) refl;
        others = λ b value q. missing b value q (same_bytes (msg_type_bytes msg_type) value) refl;
      }
    where
      here : place_in final msg_type ≡ Some place
      here = keeps.messages msg_type place (rw e (message-new names place msg_type))

      found : (b : Bytes bytes) (value : List ℕ) → Bytes value → (wanted there : ℕ) → name_of value ≡ Some wanted → place_in final wanted ≡ Some there →
          place_in names wanted ≡ None → (t : Bool) → same_bytes (msg_type_bytes msg_type) value ≡ t →
          (layout : Layout) × (pick t (laid_out (flat defined level)) (message_of value (messages_from defined declarations)) ≡ laid_out layout)
          × MessageAs bytes components there layout
      found b value text wanted there w q n true t =
          let name = same-named msg_type (number b) value t in
          let same : msg_type ≡ wanted = cc in
          let found : place_in final wanted ≡ Some place = rw same at here in
          let at_place : place ≡ there = cc in
          (flat defined level, refl, rw at_place at laid)
      found b value text wanted there w q n false t =
          m.messages b value text wanted there w q (rw e (message_old names place msg_type wanted other ∙ n))
        where
          other : wanted ≡ msg_type → ⊥
          other z = let same = named-same msg_type value text (w ∙ ap Some z) in let clash : ◌≡◌ {A = ℕ} 0 1 = cc in omega arith

      missing : (b : Bytes bytes) (value : List ℕ) → ((wanted : ℕ) → name_of value ≡ Some wanted → place_in final wanted ≡ None) → (t : Bool) →
          same_bytes (msg_type_bytes msg_type) value ≡ t → pick t (laid_out (flat defined level)) (message_of value (messages_from defined declarations)) ≡ no_message
      missing b value q true t =
          let nowhere = q msg_type (same-named msg_type (number b) value t) in
          let placed = here in
          let z : ◌≡◌ {A = ℕ} 0 1 = cc in absurd (omega arith)
      missing b value q false t = m.others b value q

  end-meant : (names : Names) (defined : List Defined) → names ≡ final → Known bytes components names defined → Meant bytes components final names defined []
  unfolding defined_after messages_from message_of
  end-meant names defined same known =
      record {
        known = subst (λ (n : Names). Known bytes components n defined) same known;
        messages = λ b value text wanted there w q n. absurd (clash wanted there q (subst (λ (x : Names). place_in x wanted ≡ None) same n));
        others = λ b value q. refl;
      }
    where
      clash : (wanted there : ℕ) → place_in final wanted ≡ Some there → place_in final wanted ≡ None → ⊥
      clash wanted there q n = let z : ◌≡◌ {A = ℕ} 0 1 = cc in omega arith

  -- the same components are known under names that hold them
  known_as : (names later : Names) (defined : List Defined) → later.components ≡ names.components → Known bytes components names defined → Known bytes components later defined
  known_as names later defined e known number c q = known number c (sym (ap (λ (l : List Component). component_in l number) e) ∙ q)

  note_messages : (names : Names) (o : Open) (owner : Owner) → (named names (note_of o owner)).messages ≡ names.messages
  unfolding note_of named
  note_messages names o (OfComponent number) = refl
  note_messages names o OfMessage = refl

  note_components : (names : Names) (o : Open) → o.owner ≡ OfMessage → (named names (note_of o o.owner)).components ≡ names.components
  unfolding note_of named
  note_components names o e = rw e

  meant-step : (rs : Records) (at : ℕ) (names : Names) (defined : List Defined) →
      ((fewer : Records) (there : ℕ) (later : Names) (more : List Defined) → size_of fewer < size_of rs → records_from bytes there ≡ fewer → Passing final fewer TopLevel later → Known bytes components later more → KeptFrom more (declarations_of fewer) → Here later more fewer) →
      records_from bytes at ≡ rs → Passing final rs TopLevel names → Known bytes components names defined → KeptFrom defined (declarations_of rs) →
      Here names defined rs
  unfolding size_of bytes_of
  meant-step (ends size) at names defined again e p known bounds = rw (declared-end size) (end-meant names defined (end_passes final names size p).0 known)
  meant-step (bad place) at names defined again e p known bounds = bad-stops final names place TopLevel p
  meant-step (whole place (FieldItem tag required) rest) at names defined again e p known bounds = field-stops final place rest names tag required p
  meant-step (whole place (ComponentItem required number) rest) at names defined again e p known bounds = item-stops final place rest names number required p
  meant-step (whole place (OpensGroup tag required) rest) at names defined again e p known bounds = group-stops final place rest names tag required p
  meant-step (whole place Closes rest) at names defined again e p known bounds = close-stops final place rest names p
  meant-step (whole place (KnownTag tag) rest) at names defined again e p known bounds =
      let n = next_of bytes at place (KnownTag tag) rest e in
      let g = tag-goes final place rest names tag p in
      let d = declared-tag place rest tag in
      rw d (tag-meant names g.later defined tag (declarations_of rest) g.messages
      (again rest n.next g.later defined (omega arith) n.there g.passes (known_as names g.later defined g.components known)
      (kept-tag defined (declarations_of rest) tag (rw d at bounds))))
  meant-step (whole place (OpensComponent number) rest) at names defined again e p known bounds =
      let n = next_of bytes at place (OpensComponent number) rest e in
      let g = component-opens final place rest names number p in
      let lies = record_lies bytes at (OpensComponent number) n.next n.read in
      let c = closes-inside bytes final names rest n.next (opens (OfComponent number) place) n.there g.1 in
      let later : Names = named names (note_of c.last c.last.owner) in
      let o = one_level_of bytes final names n.next rest (OfComponent number) place n.there c in
      let level : Items = o.level in
      let d = declared-component place rest number o.holds in
      let b = kept-component defined (declarations_of c.rest) number level (rw d at bounds) in
      rw d (component-meant names later defined number level (declarations_of c.rest) (note_messages names c.last c.last.owner)
      (again c.rest c.after later (defined_by defined (component number level)) (omega (arith, c.fewer)) c.there c.passes
      (component-known names defined number place n.next rest known g.0 (omega (arith, lies.behind, n.here)) c o b.0.filled
      (kept bytes final c.rest c.after later c.there c.passes))
      b.1))
  meant-step (whole place (OpensMessage msg_type) rest) at names defined again e p known bounds =
      let n = next_of bytes at place (OpensMessage msg_type) rest e in
      let g = message-opens final place rest names msg_type p in
      let lies = record_lies bytes at (OpensMessage msg_type) n.next n.read in
      let named_here : Names = named names (NamesMessage place msg_type) in
      let known-here : Known bytes components named_here defined = known_as names named_here defined (unfold named in refl) known in
      let c = closes-inside bytes final named_here rest n.next (opens OfMessage place) n.there g.1 in
      let later : Names = named named_here (note_of c.last c.last.owner) in
      let o = one_level_of bytes final named_here n.next rest OfMessage place n.there c in
      let level : Items = o.level in
      let d = declared-message place rest msg_type o.holds in
      let b = kept-message defined (declarations_of c.rest) (msg_type_bytes msg_type) level (rw d at bounds) in
      rw d (message-meant names later defined place msg_type level (declarations_of c.rest) (λ text. message-number bytes at msg_type n.next text n.read)
      (note_messages named_here c.last c.last.owner) (kept bytes final c.rest c.after later c.there c.passes)
      (message-known named_here defined place n.next rest known-here (omega (arith, lies.behind, n.here)) c o b.0)
      (again c.rest c.after later defined (omega (arith, c.fewer)) c.there c.passes
      (known_as named_here later defined (note_components named_here c.last (unfold opens in c.owner)) known-here) b.1))

  meant-within : (fuel : ℕ) (rs : Records) (at : ℕ) (names : Names) (defined : List Defined) → size_of rs < fuel → records_from bytes at ≡ rs →
      Passing final rs TopLevel names → Known bytes components names defined → KeptFrom defined (declarations_of rs) → Here names defined rs
  meant-within zero rs at names defined h e p known bounds = absurd (omega arith)
  meant-within (suc fuel) rs at names defined h e p known bounds =
      meant-step rs at names defined (λ fewer there later more l q w k b. meant-within fuel fewer there later more (omega arith) q w k b) e p known bounds

  pub meant : (rs : Records) (at : ℕ) → records_from bytes at ≡ rs → Passing final rs TopLevel no_names → KeptFrom [] (declarations_of rs) →
      Meant bytes components final no_names [] (declarations_of rs)
  meant rs at e p bounds =
      meant-within (suc (size_of rs)) rs at no_names [] (omega arith) e p (λ number c q. nothing_yet number c q) bounds
    where
      nothing_yet : (number : ℕ) (c : Component) → look_in no_names number ≡ Some c → KnownAs bytes components number c (nodes_of [] number)
      nothing_yet number c q = let none : look_in no_names number ≡ None = (unfold no_names component_in in refl) in let z : ◌≡◌ {A = ℕ} 0 1 = cc in absurd (omega arith)
