-- Further takes of the ported framer and calls in vain change nothing at the exports, not a byte of the lent state.
use Rattle.std.specs.Prelude.{◌≡◌, Bool, List, ℕ, ◌≤◌, length}
use Rattle.std.proofs.Common.{sym, ap, ◌∙◌}
use Rattle.frame_parser_rules.specs.declared.State.{State}
use Rattle.face_framers.specs.States.{ported_in, ported_out}
use Rattle.face_framers.proofs.StateLaws.{ported_as_it_was}
use Rattle.face_framers.specs.declared.PortedState.{PortedState}
use Rattle.face_framers.proofs.Exports.{PortedTake}
use Rattle.promise_exported_framers.specs.PortedRule.{PortedRefused, refused_push, refused_take, refused_end, PortedCalls}
use Rattle.promise_exported_framers.specs.PortedAnswers.{take-nothing}
use Rattle.promise_exported_framers.proofs.PortedLaws.{reads, refused-leaves, is_run_lem, is_quiet}

-- what means the same is the same, byte for byte
as_lent : {s z : PortedState} {t : State} → z ≡ ported_out s t → t ≡ ported_in s → z ≡ s
as_lent {s = s} e q = e ∙ ap (ported_out s) q ∙ ported_as_it_was s

refused_over : {s z : PortedState} {store store' : List ℕ} → PortedRefused s store z store' → z ≡ ported_out s (ported_in z)
refused_over {s = s} {z = z} (refused_push around p v) = p.state-left ∙ ap (ported_out s) (reads s z _ p.state-left)
refused_over {s = s} {z = z} (refused_take around p v) = p.state-left ∙ ap (ported_out s) (reads s z _ p.state-left)
refused_over {s = s} {z = z} (refused_end p v) = p.state-left ∙ ap (ported_out s) (reads s z _ p.state-left)

-- A FURTHER TAKE LEAVES STATE, STORE AND OUTPUT
pub ported-take_again : {over : Bool} {given : List ℕ} {messages : List (List ℕ)} {s z : PortedState} {store store' output output' out : List ℕ} {r : ℕ} →
    PortedCalls over given messages s store → 8192 ≤ length output → PortedTake s store output r z store' output' out → (z ≡ s) × (store' ≡ store) × (output' ≡ output)
ported-take_again {s = s} {store = store} {output = output} calls long p =
    let n = take-nothing (ported_in s) store output (is_quiet (is_run_lem calls) output long) in
    (as_lent p.state-left n.state_is, p.store-left ∙ n.store_is, p.output_left ∙ n.output_is)

-- A CALL IN VAIN LEAVES STATE AND STORE, whatever calls came before it
pub ported_in_vain : {s z : PortedState} {store store' : List ℕ} → PortedRefused s store z store' → (z ≡ s) × (store' ≡ store)
ported_in_vain c = let k = refused-leaves c in (as_lent (refused_over c) k.0, k.1)
