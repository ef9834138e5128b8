-- Every run of the ported framer's core can be made through the exports, so the calling rule over them can always be kept, too.
use Rattle.std.specs.Prelude.{◌≡◌, refl, false, List, ◌∷◌, ℕ, suc, take}
use Rattle.std.proofs.Math.Path.{sym, ap}
use Rattle.std.proofs.Common.{◌∙◌, subst, arith}
use Rattle.frame_parser_rules.specs.Framer.{number_of_parser, length_returned, pushed, pushed_store, take_answer, taken, taken_store, taken_output}
use Rattle.frame_parser_rules.specs.Stream.{Pushes, Takes, Drained, Run}
use Rattle.frame_parser_rules.specs.Stream as core
use Rattle.frame_parser_rules.specs.declared.State.{State}
use Rattle.frame_parser_rules.specs.declared.Outcome.{Outcome}
use Rattle.face_told.specs.Told.{told}
use Rattle.face_framers.specs.States.{ported_out, ported_fresh}
use Rattle.face_framers.proofs.StateLaws.{ported-kept, ported_plain_lem, ported-zeros}
use Rattle.face_framers.specs.declared.PortedState.{PortedState}
use Rattle.face_framers.proofs.Exports.{PortedPush, PortedTake}
use Rattle.promise_exported_framers.specs.ToldLength.{length_told}
use Rattle.promise_exported_framers.specs.PortedRule.{PortedTakenAll, last-take, next-take, PortedCalls, after_reset, after-chunk}
use Rattle.promise_exported_framers.specs.PortedAnswers.{length_small}

-- the state that calls leave from a reset on: its marks are 0 or 1
abbrev pub ported_plain : State → PortedState
ported_plain s = ported_out ported_fresh s

-- ---- each call of the core as a call of its export

module _ (s : State) (store : List ℕ) where
  push_exported : (c : List ℕ) (after : State) (left : List ℕ) → Pushes s store c after left →
      PortedPush (ported_plain s) store c 0 (ported_plain after) left (told 0 (0, 0))
  unfolding number_of_parser
  push_exported c after left p = record {
    answered = sym (ap (λ (o : Outcome). number_of_parser o.answer) p.answers) ∙ ap (λ (x : State). number_of_parser (pushed x store c).answer) (sym (ported-kept ported_fresh s));
    state-left = sym (ap (λ (o : Outcome). ported_plain o.state) p.answers) ∙ ap (λ (x : State). ported_plain (pushed x store c).state) (sym (ported-kept ported_fresh s)) ∙ sym (ported_plain_lem s _);
    store-left = p.leaves ∙ ap (λ (x : State). pushed_store x store c) (sym (ported-kept ported_fresh s));
    out_left = refl;
  }

  module _ (n : ℕ) (handed : List ℕ) (after : State) (left : List ℕ) (t : Takes s store n handed after left) where
    take_exported : PortedTake (ported_plain s) store t.output 0 (ported_plain after) left (taken_output s store t.output) (told 0 (n, 0))
    unfolding number_of_parser length_returned
    take_exported = record {
      answered = sym (ap (λ (o : Outcome). number_of_parser o.answer) t.answers) ∙ ap (λ (x : State). number_of_parser (taken x store t.output).answer) (sym (ported-kept ported_fresh s));
      state-left = sym (ap (λ (o : Outcome). ported_plain o.state) t.answers) ∙ ap (λ (x : State). ported_plain (taken x store t.output).state) (sym (ported-kept ported_fresh s)) ∙ sym (ported_plain_lem s _);
      store-left = t.leaves ∙ ap (λ (x : State). taken_store x store t.output) (sym (ported-kept ported_fresh s));
      output_left = ap (λ (x : State). taken_output x store t.output) (sym (ported-kept ported_fresh s));
      out_left = sym (ap (λ (o : Outcome). told 0 (length_returned o.answer, 0)) t.answers) ∙ ap (λ (x : State). told 0 (length_returned (taken x store t.output).answer, 0)) (sym (ported-kept ported_fresh s));
    }

    -- its length is told
    told-length : length_told (told 0 (n, 0)) ≡ n
    unfolding told taken length_returned
    told-length =
        let e : length_returned (take_answer s store t.output) ≡ n = ap (λ (o : Outcome). length_returned o.answer) t.answers in
        omega (arith, length_small s store t.output)

-- ---- a run of them

taken-all_exported : {s z : State} {store store'' : List ℕ} {messages : List (List ℕ)} → Drained s store messages z store'' →
    PortedTakenAll (ported_plain s) store messages (ported_plain z) store''
taken-all_exported (core.dry {state = s} {after = z} {store = store} {left = left} {handed = handed} t) =
    last-take (take_exported s store 0 handed z left t) refl (told-length s store 0 handed z left t)
taken-all_exported (core.more {state = s} {between = y} {after = z} {store = store} {moved = moved} {left = left} {message = message} {messages = messages} {n = n} t d) =
    let e = told-length s store (suc n) message y moved t in
    subst (λ (m : List ℕ). PortedTakenAll (ported_plain s) store (m ∷ messages) (ported_plain z) left) (ap (λ (k : ℕ). take k (taken_output s store t.output)) e ∙ sym t.hands)
    (next-take (take_exported s store (suc n) message y moved t) refl (omega (arith, e)) (taken-all_exported d))

-- A RUN OF THE CORE IS A SEQUENCE OF CALLS OF THE EXPORTS
pub run_exported : {given : List ℕ} {messages : List (List ℕ)} {s : State} {store : List ℕ} → Run given messages s store →
    PortedCalls false given messages (ported_plain s) store
run_exported (core.begins size) = after_reset {out = told 0 (0, 0)} {r = 0} size (record { answered = refl; state-left = ported-zeros; out_left = refl })
run_exported (core.chunk {state = s} {between = y} {store = store} {filled = filled} c run small p d) =
    after-chunk c (run_exported run) small (push_exported s store c y filled p) refl (taken-all_exported d)
