-- The framing at the exports: what frame_parser_rules shows of the core holds of the calls that a caller in another language makes.
use Rattle.std.specs.Prelude.{◌≡◌, refl, Bool, true, false, List, ◌∷◌, ◌++◌, ℕ, ◌≤◌, ◌<◌, length, take}
use Rattle.std.proofs.Common.{sym, ap, ◌∙◌, subst, arith}
use Rattle.frame_parser_rules.specs.Framer.{number_of_parser, length_returned, held, push_answer, pushed, with_end, take_answer, taken}
use Rattle.frame_parser_rules.specs.Stream.{Each, joined, Fits}
use Rattle.frame_parser_rules.proofs.Framing.{framing, framing-whole, framing-goes_on}
use Rattle.frame_parser_rules.specs.declared.State.{State}
use Rattle.frame_parser_rules.specs.declared.Answer.TheVariants.{Accepted, Message}
use Rattle.face_framers.specs.States.{ported_in}
use Rattle.face_framers.specs.declared.PortedState.{PortedState}
use Rattle.standard_rules.specs.Standard.{Tables}
use Rattle.face_framers.proofs.Exports.{PortedPush, PortedTake}
use Rattle.promise_exported_framers.specs.ToldLength.{length_told}
use Rattle.promise_exported_framers.specs.PortedRule.{PortedCalls}
use Rattle.promise_exported_framers.proofs.PortedLaws.{length-uncut, at_end, is_run_lem, is_quiet}
use Rattle.promise_exported_framers.proofs.PortedExist.{ported_plain, run_exported}

-- the messages that came out, when the bytes `given` have arrived of the messages `all`: `Framed`, in the numbers that the exports answer
pub record FramedExported (over : Bool) (given : List ℕ) (all messages : List (List ℕ)) (state : PortedState) (store : List ℕ) : Type 0 where
  pub left : List (List ℕ)
  -- message by message, in order
  pub in_order : all ≡ messages ++ left
  -- no byte is lost: what did not come out yet is held
  pub none_lost : given ≡ joined messages ++ take state.used store
  -- and it is less than the next message: what has arrived whole has come out
  pub at_once : (next : List ℕ) (later : List (List ℕ)) → left ≡ next ∷ later → length (take state.used store) < length next
  -- while the stream goes on, 25 never is answered, whatever the next chunk of at most 8,192 bytes is; nor is any other refusal
  pub never_full : over ≡ false → (c : List ℕ) (r : ℕ) (z : PortedState) (store' out : List ℕ) → length c ≤ 8192 → PortedPush state store c r z store' out →
      r ≡ 0
  -- and a further take answers 0, with the length 0
  pub nothing-more : (output : List ℕ) (r : ℕ) (z : PortedState) (store' output' out : List ℕ) → 8192 ≤ length output →
      PortedTake state store output r z store' output' out → (r ≡ 0) × (length_told out ≡ 0)

-- the bytes held are the first of the store, as many as the lent state says
held_is : (over : Bool) (s : PortedState) (store : List ℕ) (going : State) → ported_in s ≡ at_end over going → held going store ≡ take s.used store
unfolding ported_in held with_end
held_is true s store going e = ap (λ (x : State). take x.used store) (sym e)
held_is false s store going e = ap (λ (x : State). take x.used store) (sym e)

push_answered : (s : PortedState) (store c : List ℕ) (r : ℕ) (z : PortedState) (store' out : List ℕ) → PortedPush s store c r z store' out →
    push_answer (ported_in s) store c ≡ Accepted → r ≡ 0
unfolding pushed number_of_parser
push_answered s store c r z store' out p e = p.answered ∙ ap number_of_parser e

take-answered : (s : PortedState) (store output : List ℕ) (r : ℕ) (z : PortedState) (store' output' out : List ℕ) →
    PortedTake s store output r z store' output' out →
    take_answer (ported_in s) store output ≡ Message 0 → (r ≡ 0) × (length_told out ≡ 0)
unfolding taken number_of_parser length_returned
take-answered s store output r z store' output' out p e = (p.answered ∙ ap number_of_parser e, length-uncut s store output r z store' output' out p ∙ ap length_returned e)

opened : (over : Bool) (going : State) → over ≡ false → at_end over going ≡ going
opened true going e = let z : ◌≡◌ {A = ℕ} 0 1 = cc in absurd (omega arith)
opened false going e = refl

-- THE FRAMING AT THE EXPORTS, while the stream goes on: `given` has arrived of the messages `all`, and `rest` is to come
pub framing_exported : {T : Tables} {over : Bool} {given : List ℕ} {messages : List (List ℕ)} {state : PortedState} {store : List ℕ} (rest : List ℕ) (all : List (List ℕ)) →
    PortedCalls over given messages state store → Each (Fits T) all → given ++ rest ≡ joined all → FramedExported over given all messages state store
framing_exported {over = over} {given = given} {messages = messages} {state = state} {store = store} rest all calls fit flows =
    let i = is_run_lem calls in
    let f = framing rest all i.run fit flows in
    let h = held_is over state store i.going i.state_is in
    record {
      left = f.left;
      in_order = f.in_order;
      none_lost = f.none_lost ∙ ap (λ (l : List ℕ). joined messages ++ l) h;
      at_once = λ next later e. subst (λ (l : List ℕ). length l < length next) h (f.at_once next later e);
      never_full = λ o c r z store' out small p.
          push_answered state store c r z store' out p (ap (λ (x : State). push_answer x store c) (i.state_is ∙ opened over i.going o) ∙ f.never_full c small);
      nothing-more = λ output r z store' output' out long p. take-answered state store output r z store' output' out p (is_quiet i output long);
    }

-- THE FRAMING AT THE EXPORTS of a stream that has arrived whole: just its messages came out
pub framing-whole_exported : {T : Tables} {over : Bool} {messages : List (List ℕ)} {state : PortedState} {store : List ℕ} (all : List (List ℕ)) →
    PortedCalls over (joined all) messages state store → Each (Fits T) all → messages ≡ all
framing-whole_exported all calls fit = framing-whole all (is_run_lem calls).run fit

-- a sequence of calls with one chunk more
pub record FurtherExported (given c : List ℕ) (messages : List (List ℕ)) : Type 0 where
  pub new : List (List ℕ)
  pub state : PortedState
  pub store : List ℕ
  pub calls : PortedCalls false (given ++ c) (messages ++ new) state store

-- THE FRAMING AT THE EXPORTS goes on: the next chunk is accepted, and takes with an output that is long enough come to a 0
pub framing-goes_on_exported : {T : Tables} {given : List ℕ} {messages : List (List ℕ)} {state : PortedState} {store : List ℕ} (c rest output : List ℕ) (all : List (List ℕ)) →
    PortedCalls false given messages state store → Each (Fits T) all → given ++ (c ++ rest) ≡ joined all → length c ≤ 8192 → 8192 ≤ length output → FurtherExported given c messages
framing-goes_on_exported c rest output all calls fit flows small long =
    let g = framing-goes_on c rest output all (is_run_lem calls).run fit flows small long in
    record { new = g.new; state = ported_plain g.state; store = g.store; calls = run_exported g.run }
