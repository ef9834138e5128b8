-- The names that a passing check collects only grow: a component or a message, once named, is found again in the end.
use Rattle.std.proofs.Math.Path.{◌≡◌, refl}
use Rattle.std.proofs.Common.{sym, ap, ◌∙◌, eq-eqb, ne_eqb, Option, Some, None}
use Rattle.std.specs.Prelude.{List, ℕ, zero, suc, ◌<◌}
use native.Mathlib.Omega.{arith}
use Rattle.dictionary_rules.specs.Records.{Records, ends, bad, whole, records_from}
use Rattle.dictionary_rules.specs.declared.Record.TheVariants.{KnownTag, OpensComponent, OpensMessage, FieldItem, ComponentItem, OpensGroup, Closes}
use Rattle.dictionary_rules.specs.Step.{opens}
use Rattle.dictionary_rules.specs.Names.{Names, component_in, message_in, named}
use Rattle.dictionary_rules.specs.declared.Component.{Component}
use Rattle.dictionary_rules.specs.declared.Owner.TheVariants.{OfComponent, OfMessage}
use Rattle.dictionary_rules.specs.declared.Open.{Open}
use Rattle.dictionary_rules.specs.declared.State.TheVariants.{TopLevel}
use Rattle.dictionary_rules.specs.declared.Note.TheVariants.{ClosesComponent, NamesMessage}
use Rattle.dictionary_meaning_rules.specs.Steps.{Passing, note_of, tag-goes, component-opens, message-opens, field-stops, item-stops, group-stops, close-stops, bad-stops, end_passes}
use Rattle.dictionary_meaning_rules.specs.Meaning.{size_of}
use Rattle.dictionary_meaning_rules.proofs.Inside.{next_of, look_in, closes-inside}

abbrev pub place_in : Names → ℕ → Option ℕ
place_in names = message_in names.messages

-- what is named stays named
pub record Kept (names later : Names) : Type 0 where
  pub components : (number : ℕ) (c : Component) → look_in names number ≡ Some c → look_in later number ≡ Some c
  pub messages : (msg_type place : ℕ) → place_in names msg_type ≡ Some place → place_in later msg_type ≡ Some place

kept_then : {a b c : Names} → Kept a b → Kept b c → Kept a c
kept_then p q = record { components = λ n d e. q.components n d (p.components n d e); messages = λ m l e. q.messages m l (p.messages m l e) }

kept_same : {a b : Names} → b.components ≡ a.components → b.messages ≡ a.messages → Kept a b
kept_same c m = record { components = λ n d e. rw c e; messages = λ k l e. rw m e }

-- a component that was missing, and a message that was nowhere, hide none
module _ (names : Names) where
  pub component-new : (c : Component) (number : ℕ) → number ≡ c.number → look_in (named names (ClosesComponent c)) number ≡ Some c
  unfolding named component_in
  component-new c number e = rw (eq-eqb _ _ e)

  pub component_old : (c : Component) (number : ℕ) → (number ≡ c.number → ⊥) → look_in (named names (ClosesComponent c)) number ≡ look_in names number
  unfolding named component_in
  component_old c number e = rw (ne_eqb _ _ e)

  pub message-new : (place msg_type : ℕ) → place_in (named names (NamesMessage place msg_type)) msg_type ≡ Some place
  unfolding named message_in
  message-new place msg_type = rw (eq-eqb msg_type msg_type refl)

  pub message_old : (place msg_type other : ℕ) → (other ≡ msg_type → ⊥) → place_in (named names (NamesMessage place msg_type)) other ≡ place_in names other
  unfolding named message_in
  message_old place msg_type other e = rw (ne_eqb _ _ e)

  kept-component : (c : Component) → look_in names c.number ≡ None → Kept names (named names (ClosesComponent c))
  kept-component c m =
      record {
        components = λ n d e. component_old c n (λ same. absurd (clash n d e same)) ∙ e;
        messages = λ k l e. unfold named in e;
      }
    where
      clash : (n : ℕ) (d : Component) → look_in names n ≡ Some d → n ≡ c.number → ⊥
      clash n d e same = let q : look_in names n ≡ None = rw same m in let z : ◌≡◌ {A = ℕ} 0 1 = cc in omega arith

  kept-message : (place msg_type : ℕ) → place_in names msg_type ≡ None → Kept names (named names (NamesMessage place msg_type))
  kept-message place msg_type m =
      record {
        components = λ n d e. unfold named in e;
        messages = λ k l e. message_old place msg_type k (λ same. absurd (clash k l e same)) ∙ e;
      }
    where
      clash : (k l : ℕ) → place_in names k ≡ Some l → k ≡ msg_type → ⊥
      clash k l e same = let q : place_in names k ≡ None = rw same m in let z : ◌≡◌ {A = ℕ} 0 1 = cc in omega arith

  -- what closes is kept: a component under a number that was missing, or a message
  kept_closing : (o : Open) (number : ℕ) → o.owner ≡ OfComponent number → look_in names number ≡ None → Kept names (named names (note_of o o.owner))
  unfolding note_of
  kept_closing o number e m = rw e (kept-component _ m)

  kept-over : (o : Open) → o.owner ≡ OfMessage → Kept names (named names (note_of o o.owner))
  unfolding note_of named
  kept-over o e = rw e (kept_same refl refl)

-- by the records at top level, if it holds for fewer records
kept_step : (bytes : List ℕ) (final : Names) (rs : Records) (at : ℕ) (names : Names) → ((fewer : Records) (there : ℕ) (later : Names) → size_of fewer < size_of rs → records_from bytes there ≡ fewer → Passing final fewer TopLevel later → Kept later final) → records_from bytes at ≡ rs → Passing final rs TopLevel names → Kept names final
unfolding size_of opens
kept_step bytes final (ends size) at names again e p = let w = end_passes final names size p in kept_same (ap (λ (n : Names). n.components) (sym w.0)) (ap (λ (n : Names). n.messages) (sym w.0))
kept_step bytes final (bad place) at names again e p = bad-stops final names place TopLevel p
kept_step bytes final (whole place (FieldItem tag required) rest) at names again e p = field-stops final place rest names tag required p
kept_step bytes final (whole place (ComponentItem required number) rest) at names again e p = item-stops final place rest names number required p
kept_step bytes final (whole place (OpensGroup tag required) rest) at names again e p = group-stops final place rest names tag required p
kept_step bytes final (whole place Closes rest) at names again e p = close-stops final place rest names p
kept_step bytes final (whole place (KnownTag tag) rest) at names again e p =
    let n = next_of bytes at place (KnownTag tag) rest e in
    let g = tag-goes final place rest names tag p in
    kept_then (kept_same g.components g.messages) (again rest n.next g.later (omega arith) n.there g.passes)
kept_step bytes final (whole place (OpensComponent number) rest) at names again e p =
    let n = next_of bytes at place (OpensComponent number) rest e in
    let g = component-opens final place rest names number p in
    let c = closes-inside bytes final names rest n.next (opens (OfComponent number) place) n.there g.1 in
    kept_then (kept_closing names c.last number c.owner g.0) (again c.rest c.after (named names (note_of c.last c.last.owner)) (omega (arith, c.fewer)) c.there c.passes)
kept_step bytes final (whole place (OpensMessage msg_type) rest) at names again e p =
    let n = next_of bytes at place (OpensMessage msg_type) rest e in
    let g = message-opens final place rest names msg_type p in
    let later : Names = named names (NamesMessage place msg_type) in
    let c = closes-inside bytes final later rest n.next (opens OfMessage place) n.there g.1 in
    kept_then (kept-message names place msg_type g.0)
    (kept_then (kept-over later c.last c.owner) (again c.rest c.after (named later (note_of c.last c.last.owner)) (omega (arith, c.fewer)) c.there c.passes))

kept-within : (bytes : List ℕ) (final : Names) (fuel : ℕ) (rs : Records) (at : ℕ) (names : Names) → size_of rs < fuel → records_from bytes at ≡ rs → Passing final rs TopLevel names → Kept names final
kept-within bytes final zero rs at names h e p = absurd (omega arith)
kept-within bytes final (suc fuel) rs at names h e p = kept_step bytes final rs at names (λ fewer there later l q w. kept-within bytes final fuel fewer there later (omega arith) q w) e p

pub kept : (bytes : List ℕ) (final : Names) (rs : Records) (at : ℕ) (names : Names) → records_from bytes at ≡ rs → Passing final rs TopLevel names → Kept names final
kept bytes final rs at names e p = kept-within bytes final (suc (size_of rs)) rs at names (omega arith) e p

-- at the end components 0 and 1 are among the names
pub record Standard (final : Names) : Type 0 where
  pub header : (c : Component) × (look_in final 0 ≡ Some c)
  pub trailer : (c : Component) × (look_in final 1 ≡ Some c)

standard_step : (bytes : List ℕ) (final : Names) (rs : Records) (at : ℕ) (names : Names) → ((fewer : Records) (there : ℕ) (later : Names) → size_of fewer < size_of rs → records_from bytes there ≡ fewer → Passing final fewer TopLevel later → Standard final) → records_from bytes at ≡ rs → Passing final rs TopLevel names → Standard final
unfolding size_of
standard_step bytes final (ends size) at names again e p =
    let w = end_passes final names size p in
    record { header = (w.1.0, ap (λ (n : Names). look_in n 0) (sym w.0) ∙ w.1.1); trailer = (w.2.0, ap (λ (n : Names). look_in n 1) (sym w.0) ∙ w.2.1) }
standard_step bytes final (bad place) at names again e p = bad-stops final names place TopLevel p
standard_step bytes final (whole place (FieldItem tag required) rest) at names again e p = field-stops final place rest names tag required p
standard_step bytes final (whole place (ComponentItem required number) rest) at names again e p = item-stops final place rest names number required p
standard_step bytes final (whole place (OpensGroup tag required) rest) at names again e p = group-stops final place rest names tag required p
standard_step bytes final (whole place Closes rest) at names again e p = close-stops final place rest names p
standard_step bytes final (whole place (KnownTag tag) rest) at names again e p =
    let n = next_of bytes at place (KnownTag tag) rest e in
    let g = tag-goes final place rest names tag p in
    again rest n.next g.later (omega arith) n.there g.passes
standard_step bytes final (whole place (OpensComponent number) rest) at names again e p =
    let n = next_of bytes at place (OpensComponent number) rest e in
    let g = component-opens final place rest names number p in
    let c = closes-inside bytes final names rest n.next (opens (OfComponent number) place) n.there g.1 in
    again c.rest c.after (named names (note_of c.last c.last.owner)) (omega (arith, c.fewer)) c.there c.passes
standard_step bytes final (whole place (OpensMessage msg_type) rest) at names again e p =
    let n = next_of bytes at place (OpensMessage msg_type) rest e in
    let g = message-opens final place rest names msg_type p in
    let later : Names = named names (NamesMessage place msg_type) in
    let c = closes-inside bytes final later rest n.next (opens OfMessage place) n.there g.1 in
    again c.rest c.after (named later (note_of c.last c.last.owner)) (omega (arith, c.fewer)) c.there c.passes

standard_within : (bytes : List ℕ) (final : Names) (fuel : ℕ) (rs : Records) (at : ℕ) (names : Names) → size_of rs < fuel → records_from bytes at ≡ rs → Passing final rs TopLevel names → Standard final
standard_within bytes final zero rs at names h e p = absurd (omega arith)
standard_within bytes final (suc fuel) rs at names h e p = standard_step bytes final rs at names (λ fewer there later l q w. standard_within bytes final fuel fewer there later (omega arith) q w) e p

pub standard : (bytes : List ℕ) (final : Names) (rs : Records) (at : ℕ) (names : Names) → records_from bytes at ≡ rs → Passing final rs TopLevel names → Standard final
standard bytes final rs at names e p = standard_within bytes final (suc (size_of rs)) rs at names (omega arith) e p
