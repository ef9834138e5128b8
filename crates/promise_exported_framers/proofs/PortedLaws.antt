-- Calls of the exports are a run of the ported framer's core, on the states that are read from the lent ones. The end, further takes and calls
-- in vain are no part of the run: they leave the bytes that are held.
use Rattle.std.specs.Prelude.{◌≡◌, refl, Bool, true, false, List, [], ◌++◌, ℕ, suc, ◌-◌, ◌≤◌, ◌<◌, length, take}
use Rattle.std.proofs.Common.{sym, ap, ◌∙◌, subst, arith}
use Rattle.frame_parser_rules.specs.Framer.{number_of_parser, length_returned, where_accepted, answers_with, fresh, held, pushed, with_end, finished, ready_answer, take_answer, taken}
use Rattle.frame_parser_rules.proofs.FramerLaws.{take_judges, end-changes_no_take}
use Rattle.frame_parser_rules.proofs.FramingLaws.{Running, running_usable, nothing_ready}
use Rattle.frame_parser_rules.specs.Stream.{Pushes, Takes, Drained, dry, more, Run}
use Rattle.frame_parser_rules.specs.Stream as core
use Rattle.frame_parser_rules.specs.declared.State.{State}
use Rattle.frame_parser_rules.specs.declared.Answer.{Answer}
use Rattle.frame_parser_rules.specs.declared.Answer.TheVariants.{Accepted, Message}
use Rattle.frame_parser_rules.specs.declared.Outcome.{Outcome}
use Rattle.frame_hunter_rules.specs.Calls.{InVain}
use Rattle.face_told.specs.Told.{told}
use Rattle.face_framers.specs.States.{ported_in, ported_out}
use Rattle.face_framers.proofs.StateLaws.{ported-kept, ported_fresh_lem}
use Rattle.face_framers.specs.declared.PortedState.{PortedState}
use Rattle.face_framers.proofs.Exports.{PortedPush, PortedTake}
use Rattle.promise_exported_framers.specs.ToldLength.{length_told}
use Rattle.promise_exported_framers.specs.PortedRule.{PortedRefused, refused_push, refused_take, refused_end, PortedTakenAll, last-take, next-take, after-refusal, PortedCalls, after_reset, after-chunk, after-end, take_again, call_in_vain}
use Rattle.promise_exported_framers.specs.PortedAnswers.{push_done, end-done, take_done, length_small, push_in_vain, end_in_vain, take_in_vain, take-nothing, take_alike}

-- the state that the next call reads is the one that the call left
pub reads : (lent z : PortedState) (s : State) → z ≡ ported_out lent s → s ≡ ported_in z
reads lent z s e = sym (ap ported_in e ∙ ported-kept lent s)

-- ---- each export's call is the core's

push_accepts : (s : State) (store c : List ℕ) (n : ℕ) → n ≡ number_of_parser (pushed s store c).answer → n ≡ 0 →
    pushed s store c ≡ answers_with (pushed s store c).state Accepted
unfolding pushed
push_accepts s store c n e z = ap (λ (a : Answer). answers_with (pushed s store c).state a) (push_done s store c (sym e ∙ z))

pub push_is : (s : PortedState) (store c : List ℕ) (r : ℕ) (z : PortedState) (store' out : List ℕ) → PortedPush s store c r z store' out → r ≡ 0 →
    Pushes (ported_in s) store c (ported_in z) store'
push_is s store c r z store' out p e = record {
  answers = push_accepts (ported_in s) store c r p.answered e ∙ ap (λ (x : State). answers_with x Accepted) (reads _ z _ p.state-left);
  leaves = p.store-left;
}

-- THE LENGTH IS TOLD UNCUT: a message has at most 8,192 bytes
pub length-uncut : (s : PortedState) (store output : List ℕ) (r : ℕ) (z : PortedState) (store' output' out : List ℕ) →
    PortedTake s store output r z store' output' out →
    length_told out ≡ length_returned (take_answer (ported_in s) store output)
unfolding told taken
length-uncut s store output r z store' output' out p = rw p.out_left (omega (arith, length_small (ported_in s) store output))

take_hands : (s : State) (store output : List ℕ) (n : ℕ) → n ≡ number_of_parser (taken s store output).answer → n ≡ 0 →
    taken s store output ≡ answers_with (taken s store output).state (Message (length_returned (take_answer s store output)))
unfolding taken
take_hands s store output n e z = ap (λ (a : Answer). answers_with (taken s store output).state a) (take_done s store output (sym e ∙ z))

pub take_is : (s : PortedState) (store output : List ℕ) (r : ℕ) (z : PortedState) (store' output' out : List ℕ) →
    PortedTake s store output r z store' output' out → r ≡ 0 →
    Takes (ported_in s) store (length_told out) (take (length_told out) output') (ported_in z) store'
take_is s store output r z store' output' out p e = record {
  output = output;
  answers = take_hands (ported_in s) store output r p.answered e
      ∙ ap (λ (n : ℕ). answers_with (taken (ported_in s) store output).state (Message n)) (sym (length-uncut s store output r z store' output' out p))
      ∙ ap (λ (x : State). answers_with x (Message (length_told out))) (reads _ z _ p.state-left);
  leaves = p.store-left;
  hands = ap (take (length_told out)) p.output_left;
}

-- ---- calls in vain

-- A CALL IN VAIN CHANGES NOTHING, whatever was lent as the store
pub refused-leaves : {s z : PortedState} {store store' : List ℕ} → PortedRefused s store z store' → (ported_in z ≡ ported_in s) × (store' ≡ store)
refused-leaves (refused_push {s = s} {z = z} {place = place} {chunk = chunk} around p v) =
    let k = push_in_vain (ported_in s) place chunk (subst InVain p.answered v) in (sym (reads _ z _ p.state-left) ∙ k.0, ap around (p.store-left ∙ k.1))
refused-leaves (refused_take {s = s} {z = z} {place = place} {output = output} around p v) =
    let k = take_in_vain (ported_in s) place output (subst InVain p.answered v) in (sym (reads _ z _ p.state-left) ∙ k.state_is, ap around (p.store-left ∙ k.store_is))
refused-leaves (refused_end {s = s} {z = z} {place = place} p v) =
    (sym (reads _ z _ p.state-left) ∙ end_in_vain (ported_in s) place (subst InVain p.answered v), refl)

-- ---- all that is ready is taken

some : (n : ℕ) → 0 < n → n ≡ suc (n - 1)
some n h = omega arith

taken-all_is : {s z : PortedState} {store store'' : List ℕ} {messages : List (List ℕ)} → PortedTakenAll s store messages z store'' →
    Drained (ported_in s) store messages (ported_in z) store''
taken-all_is (last-take {s = s} {z = z} {store = store} {store' = store'} {output = output} {output' = output'} {out = out} {r = r} p e n) =
    dry (subst (λ (k : ℕ). Takes (ported_in s) store k (take k output') (ported_in z) store') n (take_is s store output r z store' output' out p e))
taken-all_is (next-take {s = s} {y = y} {z = z} {store = store} {store' = store'} {store'' = store''} {output = output} {output' = output'} {out = out} {r = r} {messages = messages} p e n rest) =
    more {n = length_told out - 1} (subst (λ (k : ℕ). Takes (ported_in s) store k (take (length_told out) output') (ported_in y) store') (some (length_told out) n) (take_is s store output r y store' output' out p e)) (taken-all_is rest)
taken-all_is (after-refusal {s = s} {y = y} {z = z} {store = store} {store' = store'} {store'' = store''} {messages = messages} c rest) =
    let k = refused-leaves c in
    subst (λ (x : State). Drained x store messages (ported_in z) store'') k.0
    (subst (λ (x : List ℕ). Drained (ported_in y) x messages (ported_in z) store'') k.1 (taken-all_is rest))

-- ---- after a run nothing is ready

abbrev pub Quiet : State → List ℕ → Type 0
Quiet state store = (output : List ℕ) → 8192 ≤ length output → take_answer state store output ≡ Message 0

taken-answer : (state : State) (store output : List ℕ) (after : State) → taken state store output ≡ answers_with after (Message 0) →
    take_answer state store output ≡ Message 0
unfolding taken
taken-answer state store output after e = ap (λ (o : Outcome). o.answer) e

last_quiet : {state after : State} {store left handed : List ℕ} → Takes state store 0 handed after left → Quiet after left
last_quiet {state} {after} {store} {left} t output long =
    let a = taken-answer state store t.output after t.answers in
    let n = take-nothing state store t.output a in
    let s : after ≡ state = sym (ap (λ (o : Outcome). o.state) t.answers) ∙ n.state_is in
    let l : left ≡ store = t.leaves ∙ n.store_is in
    rw (s, l) (take_alike state store t.output output 0 a long)

drained_quiet : {state after : State} {store left : List ℕ} {messages : List (List ℕ)} → Drained state store messages after left → Quiet after left
drained_quiet (dry t) = last_quiet t
drained_quiet (more t d) = drained_quiet d

fresh_quiet : (store : List ℕ) → length store ≡ 16384 → Quiet fresh store
unfolding fresh held ready_answer
fresh_quiet store size output long =
    let r : Running fresh store = record { size = size; within = omega arith; going = refl; unmarked = refl } in
    take_judges fresh store output (running_usable r) long refl ∙ ap ready_answer (nothing_ready r [] refl)

pub run_quiet : {given : List ℕ} {messages : List (List ℕ)} {state : State} {store : List ℕ} → Run given messages state store → Quiet state store
run_quiet (core.begins {store = store} size) = fresh_quiet store size
run_quiet (core.chunk c run small p d) = drained_quiet d

-- ---- a sequence of calls is a run

-- what the end leaves of the state of a run
abbrev pub at_end : Bool → State → State
at_end true s = with_end s
at_end false s = s

pub record IsRun (over : Bool) (given : List ℕ) (messages : List (List ℕ)) (s : State) (store : List ℕ) : Type 0 where
  pub going : State
  pub run : Run given messages going store
  pub state_is : s ≡ at_end over going

end-marks : (s : State) (store : List ℕ) (n : ℕ) → n ≡ number_of_parser (finished s store).answer → n ≡ 0 → (finished s store).state ≡ with_end s
unfolding finished where_accepted number_of_parser
end-marks s store n e z = rw (end-done s store (sym e ∙ z)) refl

-- "Its end changes no take."
end_quiet : (over : Bool) (s : State) (store : List ℕ) → Quiet s store → Quiet (at_end over s) store
end_quiet true s store q = λ output long. (end-changes_no_take s store output).0 ∙ q output long
end_quiet false s store q = q

pub is_quiet : {over : Bool} {given : List ℕ} {messages : List (List ℕ)} {s : State} {store : List ℕ} → IsRun over given messages s store → Quiet s store
is_quiet {over} {given} {messages} {s} {store} i = λ output long. rw i.state_is (end_quiet over i.going store (run_quiet i.run) output long)

same-run : {over : Bool} {given : List ℕ} {messages : List (List ℕ)} {s z : State} {store store' : List ℕ} → z ≡ s → store' ≡ store →
    IsRun over given messages s store → IsRun over given messages z store'
same-run e l i = rw (e, l) i

-- A SEQUENCE OF CALLS OF THE EXPORTS IS A RUN OF THE CORE
pub is_run_lem : {over : Bool} {given : List ℕ} {messages : List (List ℕ)} {s : PortedState} {store : List ℕ} → PortedCalls over given messages s store →
    IsRun over given messages (ported_in s) store
is_run_lem (after_reset {s = s} size p) = record { going = fresh; run = core.begins size; state_is = ap ported_in p.state-left ∙ ported_fresh_lem }
is_run_lem (after-chunk {given = given} {messages = messages} {new = new} {s = s} {y = y} {z = z} {store = store} {store' = store'} {store'' = store''} {out = out} {r = r} c calls small p e all) = go (is_run_lem calls)
  where
    go : IsRun false given messages (ported_in s) store → IsRun false (given ++ c) (messages ++ new) (ported_in z) store''
    go i = record {
      going = ported_in z;
      run = core.chunk c (subst (λ (x : State). Run given messages x store) (sym i.state_is) i.run) small (push_is s store c r y store' out p e) (taken-all_is all);
      state_is = refl;
    }
is_run_lem (after-end {given = given} {messages = messages} {s = s} {z = z} {store = store} {r = r} calls p e) = go (is_run_lem calls)
  where
    go : IsRun false given messages (ported_in s) store → IsRun true given messages (ported_in z) store
    go i = record { going = i.going; run = i.run; state_is = sym (reads _ z _ p.state-left) ∙ end-marks (ported_in s) store r p.answered e ∙ ap with_end i.state_is }
is_run_lem (take_again {s = s} {z = z} {store = store} {output = output} calls long p) =
    let i = is_run_lem calls in
    let n = take-nothing (ported_in s) store output (is_quiet i output long) in
    same-run (sym (reads _ z _ p.state-left) ∙ n.state_is) (p.store-left ∙ n.store_is) i
is_run_lem (call_in_vain calls c) = let k = refused-leaves c in same-run k.0 k.1 (is_run_lem calls)
