-- The laws of the framer's calls: one for each answer, with what it leaves.
-- Each says it the way round that a function's contract asks for.
use Rattle.std.proofs.Math.Path.{◌≡◌, refl, sym, ap}
use Rattle.std.proofs.Common.{◌∙◌, arith, take-append-drop, length-take-le, Some, None}
use Rattle.std.specs.Prelude.{Bool, List, ℕ, ◌+◌, ◌≤◌, ◌<◌, length, take, drop, leb, ltb}
use Rattle.std.proofs.Math.Bool.{true, false}
use Rattle.std.proofs.Math.Dec.{eqb}
use borrow.Author.Tests.{eq-eqb, ne_eqb, eqb-true, le-leb, lt-leb, leb-true, lt-ltb, le-ltb, ltb-false}
use Rattle.field_rules.specs.Choice.{pick}
use Rattle.field_rules.specs.Decimal.{written_at}
use Rattle.frame_parser_rules.specs.Announced.{announced_in}
use Rattle.frame_parser_rules.specs.Framer.{number_of_parser, length_returned, where_accepted, answers_with, only_mark, held, unusable, push_answer, with_chunk, pushed, pushed_store, end_answer, with_end, finished, ready_of, ready_answer, take_answer, take_state, taken, moved_to_front, taken_store, taken_output}
use Rattle.frame_parser_rules.specs.declared.Announced.{Announced}
use Rattle.frame_parser_rules.specs.declared.Announced.TheVariants.{Ends, Over, Unknown}
use Rattle.frame_parser_rules.specs.declared.State.{State}
use Rattle.frame_parser_rules.specs.declared.Answer.{Answer}
use Rattle.frame_parser_rules.specs.declared.Answer.TheVariants.{Accepted, Message, OverLong, ShortOutput, StoreFull, AfterEnd, BadStore}
use Rattle.frame_parser_rules.specs.declared.Outcome.{Outcome}

-- ===== 27 =====

module _ (used : ℕ) (store : List ℕ) where
  pub wrong_size : (length store ≡ 16384 → ⊥) → unusable used store ≡ true
  unfolding unusable
  wrong_size h = rw (ne_eqb _ _ h)

  pub right_size : length store ≡ 16384 → unusable used store ≡ ltb 16384 used
  unfolding unusable
  right_size h = rw (eq-eqb _ _ h)

  pub usable : length store ≡ 16384 → used ≤ 16384 → unusable used store ≡ false
  usable h u = right_size h ∙ le-ltb _ _ u

  pub usable_is : unusable used store ≡ false → (length store ≡ 16384) × (used ≤ 16384)
  unfolding unusable
  usable_is h = by_test (eqb (length store) 16384) refl h
    where
      by_test : (b : Bool) → eqb (length store) 16384 ≡ b → pick b (ltb 16384 used) true ≡ false → (length store ≡ 16384) × (used ≤ 16384)
      by_test true e f = (eqb-true _ _ e, ltb-false _ _ f)
      by_test false e f = let z : ◌≡◌ {A = ℕ} 0 1 = cc in absurd (omega arith)

-- ===== a chunk =====

module _ (state : State) (store chunk : List ℕ) where
  -- a chunk was answered so, and left the store so
  abbrev pub PushGives : Outcome → List ℕ → Type 0
  PushGives outcome after = (outcome ≡ pushed state store chunk) × (after ≡ pushed_store state store chunk)

  pub push_bad : unusable state.used store ≡ true → PushGives (answers_with state BadStore) store
  unfolding pushed pushed_store push_answer where_accepted number_of_parser
  push_bad u = (rw u, rw u)

  module _ (u : unusable state.used store ≡ false) where
    pub push_ended : state.ended ≡ true → PushGives (answers_with state AfterEnd) store
    unfolding pushed pushed_store push_answer where_accepted number_of_parser
    push_ended e = (rw (u, e), rw (u, e))

    module _ (e : state.ended ≡ false) where
      pub push_over : state.over ≡ true → PushGives (answers_with state OverLong) store
      unfolding pushed pushed_store push_answer where_accepted number_of_parser
      push_over o = (rw (u, e, o), rw (u, e, o))

      module _ (o : state.over ≡ false) where
        pub push_full : 16384 < state.used + length chunk → PushGives (answers_with state StoreFull) store
        unfolding pushed pushed_store push_answer where_accepted number_of_parser
        push_full l = (rw (u, e, o, lt-leb _ _ l), rw (u, e, o, lt-leb _ _ l))

        pub push_accepted : state.used + length chunk ≤ 16384 → PushGives (answers_with (with_chunk state chunk) Accepted) (written_at state.used chunk store)
        unfolding pushed pushed_store push_answer where_accepted number_of_parser
        push_accepted l = (rw (u, e, o, le-leb _ _ l), rw (u, e, o, le-leb _ _ l))

-- ===== the end =====

module _ (state : State) (store : List ℕ) where
  pub end-bad : unusable state.used store ≡ true → answers_with state BadStore ≡ finished state store
  unfolding finished end_answer where_accepted number_of_parser
  end-bad u = rw u

  module _ (u : unusable state.used store ≡ false) where
    pub end-ended : state.ended ≡ true → answers_with state AfterEnd ≡ finished state store
    unfolding finished end_answer where_accepted number_of_parser
    end-ended e = rw (u, e)

    pub end-over : state.ended ≡ false → state.over ≡ true → answers_with state OverLong ≡ finished state store
    unfolding finished end_answer where_accepted number_of_parser
    end-over e o = rw (u, e, o)

    pub end-accepted : state.ended ≡ false → state.over ≡ false → answers_with (with_end state) Accepted ≡ finished state store
    unfolding finished end_answer where_accepted number_of_parser
    end-accepted e o = rw (u, e, o)

-- ===== what is ready =====

module _ (used end : ℕ) where
  pub ready_whole : end ≤ used → ready_of used (Ends end) ≡ Some end
  unfolding ready_of
  ready_whole h = rw (le-leb _ _ h)

  pub ready_short : used < end → ready_of used (Ends end) ≡ Some 0
  unfolding ready_of
  ready_short h = rw (lt-leb _ _ h)

-- what is ready lies in the bytes held and within the limit
pub ready_in : (used n : ℕ) (announced : Announced) → ((end : ℕ) → announced ≡ Ends end → end ≤ 8192) → ready_of used announced ≡ Some n → (n ≤ used) × (n ≤ 8192)
unfolding ready_of
ready_in used n (Ends end) within h = by_test (leb end used) refl h
  where
    by_test : (b : Bool) → leb end used ≡ b → Some (pick b end 0) ≡ Some n → (n ≤ used) × (n ≤ 8192)
    by_test true e l = let same : end ≡ n = cc in (omega (arith, leb-true end used e), omega (arith, within end refl))
    by_test false e l = let same : 0 ≡ n = cc in (omega arith, omega arith)
ready_in used n Over within h = let z : ◌≡◌ {A = ℕ} 0 1 = cc in absurd (omega arith)
ready_in used n Unknown within h = let same : 0 ≡ n = cc in (omega arith, omega arith)

-- ===== a take =====

-- a message of no bytes changes nothing
nothing_used : (state : State) → take_state state (Message 0) ≡ state
unfolding take_state
nothing_used state =
    ap (λ (used : ℕ). record { used = used; ended = state.ended; over = state.over }) (omega arith)

nothing-moved : (state : State) (store : List ℕ) → unusable state.used store ≡ false → moved_to_front (drop 0 (held state store)) store ≡ store
unfolding moved_to_front held
nothing-moved state store u =
    let whole = usable_is state.used store u in
    rw (length-take-le state.used store (omega (arith, whole))) (take-append-drop state.used store)

-- and writes nothing
nothing_written : (state : State) (store output : List ℕ) → moved_to_front (take 0 (held state store)) output ≡ output
unfolding moved_to_front
nothing_written state store output = refl

module _ (state : State) (store output : List ℕ) where
  -- a take was answered so, and left store and output so
  abbrev pub TakeGives : Outcome → List ℕ → List ℕ → Type 0
  TakeGives outcome after written =
      (outcome ≡ taken state store output)
      × (after ≡ taken_store state store output)
      × (written ≡ taken_output state store output)

  -- the answer decides all
  pub take_gives : (answer : Answer) → take_answer state store output ≡ answer
      → TakeGives (answers_with (take_state state answer) answer) (where_accepted answer (moved_to_front (drop (length_returned answer) (held state store)) store) store) (where_accepted answer (moved_to_front (take (length_returned answer) (held state store)) output) output)
  unfolding taken taken_store taken_output
  take_gives answer e = (rw e, rw e, rw e)

  pub take-bad : unusable state.used store ≡ true → TakeGives (answers_with state BadStore) store output
  unfolding take_answer take_state where_accepted number_of_parser
  take-bad u = take_gives BadStore (rw u)

  module _ (u : unusable state.used store ≡ false) where
    pub take_short : length output < 8192 → TakeGives (answers_with state ShortOutput) store output
    unfolding take_answer take_state where_accepted number_of_parser
    take_short l = take_gives ShortOutput (rw (u, lt-ltb _ _ l))

    module _ (l : 8192 ≤ length output) where
      pub take-marked : state.over ≡ true → TakeGives (answers_with only_mark OverLong) store output
      unfolding take_answer take_state where_accepted number_of_parser
      take-marked o = take_gives OverLong (rw (u, le-ltb _ _ l, o))

      module _ (o : state.over ≡ false) where
        pub take_judges : take_answer state store output ≡ ready_answer (ready_of state.used (announced_in (held state store)))
        unfolding take_answer
        take_judges = rw (u, le-ltb _ _ l, o)

        pub take-over : ready_of state.used (announced_in (held state store)) ≡ None → TakeGives (answers_with only_mark OverLong) store output
        unfolding take_state where_accepted number_of_parser ready_answer
        take-over r = take_gives OverLong (take_judges ∙ ap ready_answer r)

        pub take-message : (n : ℕ) → ready_of state.used (announced_in (held state store)) ≡ Some n → TakeGives (answers_with (take_state state (Message n)) (Message n)) (moved_to_front (drop n (held state store)) store) (moved_to_front (take n (held state store)) output)
        unfolding where_accepted number_of_parser length_returned ready_answer
        take-message n r = take_gives (Message n) (take_judges ∙ ap ready_answer r)

        -- no message is ready: state, store and output stay
        pub take_none : ready_of state.used (announced_in (held state store)) ≡ Some 0 → TakeGives (answers_with state (Message 0)) store output
        take_none r =
            let all = take-message 0 r in (
              ap (λ (s : State). answers_with s (Message 0)) (sym (nothing_used state)) ∙ all.0,
              sym (nothing-moved state store u) ∙ all.1,
              sym (nothing_written state store output) ∙ all.2,
            )

-- ===== the end and the mark =====

-- "Its end changes no take."
pub end-changes_no_take : (state : State) (store output : List ℕ)
    → (take_answer (with_end state) store output ≡ take_answer state store output)
    × (taken_store (with_end state) store output ≡ taken_store state store output)
    × (taken_output (with_end state) store output ≡ taken_output state store output)
unfolding with_end take_answer taken_store taken_output held
end-changes_no_take state store output = (refl, refl, refl)

-- "from then on every call but reset gives 20, in the orders above"
module _ (store : List ℕ) (size : length store ≡ 16384) where
  marked_usable : unusable only_mark.used store ≡ false
  unfolding only_mark
  marked_usable = usable 0 store size (omega arith)

  pub marked_push : (chunk : List ℕ) → pushed only_mark store chunk ≡ answers_with only_mark OverLong
  unfolding only_mark
  marked_push chunk = sym (push_over only_mark store chunk marked_usable refl refl).0

  pub marked-end : finished only_mark store ≡ answers_with only_mark OverLong
  unfolding only_mark
  marked-end = sym (end-over only_mark store marked_usable refl refl)

  pub marked-take : (output : List ℕ) → 8192 ≤ length output → taken only_mark store output ≡ answers_with only_mark OverLong
  unfolding only_mark
  marked-take output long = sym (take-marked only_mark store output marked_usable long refl).0
