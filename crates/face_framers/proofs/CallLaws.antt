-- What a framer's call leaves and tells, from the state as it was lent.
use Rattle.std.specs.Prelude.{ℕ, ◌≡◌, List}
use Rattle.std.proofs.Common.{ap, ◌∙◌}
use Rattle.frame_parser_rules.specs.declared.State.{State}
use Rattle.frame_parser_rules.specs.declared.Outcome.{Outcome}
use Rattle.frame_parser_rules.specs.Framer.{length_returned, pushed, pushed_store, finished, taken, taken_store, taken_output}
use Rattle.frame_hunter_rules.specs.declared.State.{State as Hunter}
use Rattle.frame_hunter_rules.specs.declared.Reply.{Reply}
use Rattle.frame_hunter_rules.specs.declared.Taken.{Taken}
use Rattle.frame_hunter_rules.specs.Bytes.{pushed as hunter_pushed, finished as hunter_finished, took_from, Pushes, Finishes, Takes}
use Rattle.face_told.specs.Told.{told}
use Rattle.face_framers.specs.declared.PortedState.{PortedState}
use Rattle.face_framers.specs.declared.PortedReply.{PortedReply}
use Rattle.face_framers.specs.declared.HunterState.{HunterState}
use Rattle.face_framers.specs.declared.HunterReply.{HunterReply}
use Rattle.face_framers.specs.States.{ported_told, hunter_told}

-- a call of the ported framer from the state that was lent
pub pushed-from : (s t : State) (store chunk : List ℕ) (o : Outcome) → s ≡ t → o ≡ pushed s store chunk → o ≡ pushed t store chunk
pushed-from s t store chunk o e h = h ∙ ap (λ (x : State). pushed x store chunk) e

pub pushed_store-from : (s t : State) (store chunk left : List ℕ) → s ≡ t → left ≡ pushed_store s store chunk → left ≡ pushed_store t store chunk
pushed_store-from s t store chunk left e h = h ∙ ap (λ (x : State). pushed_store x store chunk) e

pub finished_from : (s t : State) (store : List ℕ) (o : Outcome) → s ≡ t → o ≡ finished s store → o ≡ finished t store
finished_from s t store o e h = h ∙ ap (λ (x : State). finished x store) e

pub taken_from : (s t : State) (store output : List ℕ) (o : Outcome) → s ≡ t → o ≡ taken s store output → o ≡ taken t store output
taken_from s t store output o e h = h ∙ ap (λ (x : State). taken x store output) e

pub taken_store-from : (s t : State) (store output left : List ℕ) → s ≡ t → left ≡ taken_store s store output → left ≡ taken_store t store output
taken_store-from s t store output left e h = h ∙ ap (λ (x : State). taken_store x store output) e

pub taken_output-from : (s t : State) (store output left : List ℕ) → s ≡ t → left ≡ taken_output s store output → left ≡ taken_output t store output
taken_output-from s t store output left e h = h ∙ ap (λ (x : State). taken_output x store output) e

pub ported_tells : (lent : PortedState) (o o' : Outcome) (r : PortedReply) → o ≡ o' → r ≡ ported_told lent o.state o.answer → r ≡ ported_told lent o'.state o'.answer
ported_tells lent o o' r e h = h ∙ ap (λ (x : Outcome). ported_told lent x.state x.answer) e

pub ported-length : (o o' : Outcome) (n : ℕ) (out : List ℕ) → o ≡ o' → n ≡ length_returned o.answer → out ≡ told 0 (n, 0) → out ≡ told 0 (length_returned o'.answer, 0)
ported-length o o' n out e h t = t ∙ ap (λ (x : ℕ). told 0 (x, 0)) (h ∙ ap (λ (x : Outcome). length_returned x.answer) e)

-- a call of the hunting framer from the state that was lent
pub pushes_from : (s t : Hunter) (store chunk : List ℕ) (r : Reply) (left : List ℕ) → s ≡ t → Pushes s store chunk r left → Pushes t store chunk r left
pushes_from s t store chunk r left e h = record {
  reply_is = h.reply_is ∙ ap (λ (x : Hunter). (hunter_pushed x store chunk).reply) e;
  store_is = h.store_is ∙ ap (λ (x : Hunter). (hunter_pushed x store chunk).store) e;
}

pub finishes_from : (s t : Hunter) (store : List ℕ) (r : Reply) → s ≡ t → Finishes s store r → Finishes t store r
finishes_from s t store r e h = record { reply_is = h.reply_is ∙ ap (λ (x : Hunter). (hunter_finished x store).reply) e }

pub takes-from : (s t : Hunter) (store output : List ℕ) (r : Taken) (left written : List ℕ) → s ≡ t → Takes s store output r left written → Takes t store output r left written
takes-from s t store output r left written e h = record {
  taken_is = h.taken_is ∙ ap (λ (x : Hunter). (took_from x store output).taken) e;
  store_is = h.store_is ∙ ap (λ (x : Hunter). (took_from x store output).store) e;
  output_is = h.output_is ∙ ap (λ (x : Hunter). (took_from x store output).output) e;
}

pub hunter_tells : (lent : HunterState) (o o' : Reply) (r : HunterReply) → o ≡ o' → r ≡ hunter_told lent o.state o.answer → r ≡ hunter_told lent o'.state o'.answer
hunter_tells lent o o' r e h = h ∙ ap (λ (x : Reply). hunter_told lent x.state x.answer) e

pub hunter_took : (lent : HunterState) (o o' : Taken) (r : HunterReply) → o ≡ o' → r ≡ hunter_told lent o.state o.answer → r ≡ hunter_told lent o'.state o'.answer
hunter_took lent o o' r e h = h ∙ ap (λ (x : Taken). hunter_told lent x.state x.answer) e

pub hunter-length : (o o' : Taken) (out : List ℕ) → o ≡ o' → out ≡ told 0 (o.length, 0) → out ≡ told 0 (o'.length, 0)
hunter-length o o' out e h = h ∙ ap (λ (x : Taken). told 0 (x.length, 0)) e
