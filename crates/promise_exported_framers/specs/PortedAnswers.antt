-- What the ported framer's number tells of its call, on the core: 0 is a chunk that was accepted, an end that was told, or a length; a call in
-- vain leaves all as it was, and so does a take that hands out nothing.
use Rattle.std.specs.Prelude.{◌≡◌, refl, Bool, true, false, List, ℕ, ◌+◌, ◌≤◌, leb, ltb, length, take, Option, Some, None}
use Rattle.std.proofs.Common.{ap, arith, take-append-drop, length-take-le, le-ltb, ne_eqb}
use Rattle.field_rules.specs.Choice.{pick}
use Rattle.frame_parser_rules.specs.Announced.{announced_in}
use Rattle.frame_parser_rules.specs.AnnouncedLaws.{announced_limit}
use Rattle.frame_parser_rules.specs.Framer.{number_of_parser, length_returned, where_accepted, held, unusable, push_answer, pushed, pushed_store, end_answer}
use Rattle.frame_parser_rules.specs.Framer.{finished, ready_of, ready_answer, take_answer, take_state, taken, moved_to_front, taken_store, taken_output}
use Rattle.frame_parser_rules.proofs.FramerLaws.{usable_is, ready_in}
use Rattle.frame_parser_rules.specs.declared.State.{State}
use Rattle.frame_parser_rules.specs.declared.Answer.{Answer}
use Rattle.frame_parser_rules.specs.declared.Answer.TheVariants.{Accepted, Message, OverLong, ShortOutput, StoreFull, AfterEnd, BadStore}
use Rattle.frame_hunter_rules.specs.Calls.{InVain, output_short, after_the_end, bad-store}
use Rattle.frame_hunter_rules.proofs.InVainLaws.{not_done}

-- ---- answered 0

pub push_done : (state : State) (store chunk : List ℕ) → number_of_parser (push_answer state store chunk) ≡ 0 → push_answer state store chunk ≡ Accepted
unfolding push_answer number_of_parser
push_done state store chunk = by_tests (unusable state.used store) state.ended state.over (leb (state.used + length chunk) 16384)
  where
    by_tests : (u e o l : Bool) → number_of_parser (pick u BadStore (pick e AfterEnd (pick o OverLong (pick l Accepted StoreFull)))) ≡ 0 →
        pick u BadStore (pick e AfterEnd (pick o OverLong (pick l Accepted StoreFull))) ≡ Accepted
    by_tests true e o l h = absurd (omega arith)
    by_tests false true o l h = absurd (omega arith)
    by_tests false false true l h = absurd (omega arith)
    by_tests false false false true h = refl
    by_tests false false false false h = absurd (omega arith)

pub end-done : (state : State) (store : List ℕ) → number_of_parser (end_answer state store) ≡ 0 → end_answer state store ≡ Accepted
unfolding end_answer number_of_parser
end-done state store = by_tests (unusable state.used store) state.ended state.over
  where
    by_tests : (u e o : Bool) → number_of_parser (pick u BadStore (pick e AfterEnd (pick o OverLong Accepted))) ≡ 0 →
        pick u BadStore (pick e AfterEnd (pick o OverLong Accepted)) ≡ Accepted
    by_tests true e o h = absurd (omega arith)
    by_tests false true o h = absurd (omega arith)
    by_tests false false true h = absurd (omega arith)
    by_tests false false false h = refl

-- a take that is answered 0 is answered with a length
pub take_done : (state : State) (store output : List ℕ) → number_of_parser (take_answer state store output) ≡ 0 →
    take_answer state store output ≡ Message (length_returned (take_answer state store output))
unfolding take_answer ready_answer number_of_parser length_returned
take_done state store output =
    by_tests (unusable state.used store) (ltb (length output) 8192) state.over (ready_of state.used (announced_in (held state store)))
  where
    by_tests : (u l o : Bool) (r : Option ℕ) → number_of_parser (pick u BadStore (pick l ShortOutput (pick o OverLong (ready_answer r)))) ≡ 0 →
        pick u BadStore (pick l ShortOutput (pick o OverLong (ready_answer r)))
        ≡ Message (length_returned (pick u BadStore (pick l ShortOutput (pick o OverLong (ready_answer r)))))
    by_tests true l o r h = absurd (omega arith)
    by_tests false true o r h = absurd (omega arith)
    by_tests false false true r h = absurd (omega arith)
    by_tests false false false (Some n) h = refl
    by_tests false false false None h = absurd (omega arith)

-- A LENGTH IS AT MOST 8,192, whatever state, store and output are
pub length_small : (state : State) (store output : List ℕ) → length_returned (take_answer state store output) ≤ 8192
unfolding take_answer ready_answer length_returned
length_small state store output =
    by_tests (unusable state.used store) (ltb (length output) 8192) state.over (ready_of state.used (announced_in (held state store)))
    (λ n h. (ready_in state.used n (announced_in (held state store)) (announced_limit (held state store)) h).1)
  where
    by_tests : (u l o : Bool) (r : Option ℕ) → ((n : ℕ) → r ≡ Some n → n ≤ 8192) →
        length_returned (pick u BadStore (pick l ShortOutput (pick o OverLong (ready_answer r)))) ≤ 8192
    by_tests true l o r h = omega arith
    by_tests false true o r h = omega arith
    by_tests false false true r h = omega arith
    by_tests false false false (Some n) h = h n refl
    by_tests false false false None h = omega arith

-- ---- calls in vain

stays : {A : Type 0} (answer : Answer) (changed same : A) → InVain (number_of_parser answer) → where_accepted answer changed same ≡ same
unfolding where_accepted
stays answer changed same v = rw (ne_eqb (number_of_parser answer) 0 (λ e. omega (arith, not_done v)))

pub push_in_vain : (state : State) (store chunk : List ℕ) → InVain (number_of_parser (pushed state store chunk).answer) →
    ((pushed state store chunk).state ≡ state) × (pushed_store state store chunk ≡ store)
unfolding pushed pushed_store
push_in_vain state store chunk v = (stays _ _ _ v, stays _ _ _ v)

pub end_in_vain : (state : State) (store : List ℕ) → InVain (number_of_parser (finished state store).answer) → (finished state store).state ≡ state
unfolding finished
end_in_vain state store v = stays _ _ _ v

state-stays : (state : State) (answer : Answer) (n : ℕ) → n ≡ number_of_parser answer → InVain n → take_state state answer ≡ state
unfolding take_state number_of_parser
state-stays state Accepted n e v = refl
state-stays state (Message m) n e v = absurd (omega (arith, not_done v))
state-stays state OverLong n e output_short = absurd (omega arith)
state-stays state OverLong n e after_the_end = absurd (omega arith)
state-stays state OverLong n e bad-store = absurd (omega arith)
state-stays state ShortOutput n e v = refl
state-stays state StoreFull n e v = refl
state-stays state AfterEnd n e v = refl
state-stays state BadStore n e v = refl

-- a take that leaves all as it was
pub record Nothing (state : State) (store output : List ℕ) : Type 0 where
  pub state_is : (taken state store output).state ≡ state
  pub store_is : taken_store state store output ≡ store
  pub output_is : taken_output state store output ≡ output

pub take_in_vain : (state : State) (store output : List ℕ) → InVain (number_of_parser (taken state store output).answer) → Nothing state store output
unfolding taken taken_store taken_output
take_in_vain state store output v = record { state_is = state-stays state _ _ refl v; store_is = stays _ _ _ v; output_is = stays _ _ _ v }

-- ---- a take that hands out nothing

take_usable : (state : State) (store output : List ℕ) (n : ℕ) → take_answer state store output ≡ Message n → unusable state.used store ≡ false
unfolding take_answer
take_usable state store output n e = by_test (unusable state.used store) refl e
  where
    by_test : (u : Bool) → unusable state.used store ≡ u →
        pick u BadStore (pick (ltb (length output) 8192) ShortOutput
        (pick state.over OverLong (ready_answer (ready_of state.used (announced_in (held state store)))))) ≡ Message n
        → unusable state.used store ≡ false
    by_test true h k = let z : ◌≡◌ {A = ℕ} 0 1 = cc in absurd (omega arith)
    by_test false h k = h

pub take-nothing : (state : State) (store output : List ℕ) → take_answer state store output ≡ Message 0 → Nothing state store output
unfolding taken taken_store taken_output take_state where_accepted number_of_parser length_returned moved_to_front held
take-nothing state store output e =
    let u = usable_is state.used store (take_usable state store output 0 e) in
    let n : length (take state.used store) ≡ state.used = length-take-le state.used store (omega (arith, u)) in
    record {
      state_is = rw e (ap (λ (k : ℕ). record { used = k; ended = state.ended; over = state.over }) (omega arith));
      store_is = rw (e, n) (take-append-drop state.used store);
      output_is = rw e refl;
    }

-- a further take with an output that is long enough is answered alike
pub take_alike : (state : State) (store output other : List ℕ) (n : ℕ) → take_answer state store output ≡ Message n → 8192 ≤ length other →
    take_answer state store other ≡ Message n
unfolding take_answer
take_alike state store output other n e long =
    by_tests (unusable state.used store) (ltb (length output) 8192) state.over (ready_answer (ready_of state.used (announced_in (held state store))))
    (ltb (length other) 8192) (le-ltb (length other) 8192 long) e
  where
    by_tests : (u l o : Bool) (a : Answer) (k : Bool) → k ≡ false → pick u BadStore (pick l ShortOutput (pick o OverLong a)) ≡ Message n →
        pick u BadStore (pick k ShortOutput (pick o OverLong a)) ≡ Message n
    by_tests true l o a k f h = cc
    by_tests false true o a k f h = cc
    by_tests false false o a k f h = rw f h
