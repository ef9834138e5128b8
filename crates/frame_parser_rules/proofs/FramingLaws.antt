-- One call on a stream of whole messages. What a state needs to be in the midst of such a stream is a record; a chunk and a take keep
-- it, and a take hands out the next message as soon as it is whole.
use Rattle.std.specs.Prelude.{◌≡◌, refl, Bool, true, false, ℕ, ◌+◌, ◌-◌, ◌≤◌, ◌<◌, ltb}
use Rattle.std.proofs.Common.{sym, ◌∙◌, arith, length-drop, ltb-true, ltb-false, Some}
use Rattle.std.proofs.Math.Path.{ap}
use Rattle.std.proofs.Math.Logic.{⊎_elim}
use mathlib.Core.List.{List, [], ◌∷◌, ◌++◌, append_assoc}
use Rattle.std.proofs.Math.ListN.{length, take, drop, length-append}
use Rattle.std.proofs.Math.Seq.{length-take-le, take_at, drop-append_seam}
use Rattle.std.proofs.lemmas.List.{drop-append-le}
use Rattle.standard_rules.specs.Standard.{Tables}
use Rattle.field_rules.specs.Decimal.{written_at}
use Rattle.field_rules.proofs.DecimalLaws.{written_fits, written-length}
use Rattle.frame_parser_rules.specs.Announced.{announced_in, with_first, value_from, with_equals, find_from}
use Rattle.field_rules.specs.Find.{find_in}
use Rattle.frame_parser_rules.specs.Framer.{answers_with, held, unusable, with_chunk, pushed, pushed_store, ready_of, take_state, taken, moved_to_front, taken_output}
use Rattle.frame_parser_rules.proofs.FramerLaws.{usable, push_accepted, take_short, take-message, ready_whole, ready_short}
use Rattle.frame_parser_rules.proofs.MessageLaws.{head_announced, whole_announced}
use Rattle.frame_parser_rules.specs.Stream.{Fits, Takes}
use Rattle.frame_parser_rules.specs.declared.State.{State}
use Rattle.frame_parser_rules.specs.declared.Answer.TheVariants.{Accepted, Message, ShortOutput}
use Rattle.frame_parser_rules.specs.declared.Outcome.{Outcome}

-- what a state and a store are while a run goes on: no end, no mark, and a used length that fits
pub record Running (state : State) (store : List ℕ) : Type 0 where
  pub size : length store ≡ 16384
  pub within : state.used ≤ 16384
  pub going : state.ended ≡ false
  pub unmarked : state.over ≡ false

module _ {state : State} {store : List ℕ} (r : Running state store) where
  pub running_usable : unusable state.used store ≡ false
  running_usable = usable state.used store r.size r.within

  pub held-length : length (held state store) ≡ state.used
  unfolding held
  held-length = length-take-le state.used store (omega (arith, r.size, r.within))

-- ===== a chunk =====

module _ {state : State} {store : List ℕ} (r : Running state store) (c : List ℕ) (room : state.used + length c ≤ 16384) where
  pub chunk-accepted : (answers_with (with_chunk state c) Accepted ≡ pushed state store c) × (written_at state.used c store ≡ pushed_store state store c)
  chunk-accepted = push_accepted state store c (running_usable r) r.going r.unmarked room

  pub chunk-runs : Running (with_chunk state c) (written_at state.used c store)
  unfolding with_chunk
  chunk-runs =
      record {
        size = written-length state.used c store ∙ r.size;
        within = room;
        going = r.going;
        unmarked = r.unmarked;
      }

  pub chunk-held : held (with_chunk state c) (written_at state.used c store) ≡ held state store ++ c
  unfolding held with_chunk
  chunk-held =
      rw (written_fits state.used c store (omega (arith, r.size)), ← append_assoc)
      (take_at (take state.used store ++ c) _ (state.used + length c) (simp length-append (omega (arith, held-size))))
    where
      held-size : length (take state.used store) ≡ state.used
      held-size = length-take-le state.used store (omega (arith, r.size, r.within))

-- ===== a take =====

module _ {state : State} {store : List ℕ} (r : Running state store) where
  pub enough_output : (output : List ℕ) (n : ℕ) (after : State) → taken state store output ≡ answers_with after (Message n) → 8192 ≤ length output
  enough_output output n after h = by_test (ltb (length output) 8192) refl
    where
      by_test : (b : Bool) → ltb (length output) 8192 ≡ b → 8192 ≤ length output
      by_test true e =
          let short = take_short state store output (running_usable r) (ltb-true (length output) 8192 e) in
          let clash : answers_with state ShortOutput ≡ answers_with after (Message n) = short.0 ∙ h in
          let answers : ShortOutput ≡ Message n = ap (λ (o : Outcome). o.answer) clash in
          let z : ◌≡◌ {A = ℕ} 0 1 = cc in absurd (omega arith)
      by_test false e = ltb-false (length output) 8192 e

  -- what a take does when n bytes are ready
  module _ (n : ℕ) (ready : ready_of state.used (announced_in (held state store)) ≡ Some n) (enough : n ≤ state.used) where
    left-size : length (drop n (held state store)) ≡ state.used - n
    left-size = length-drop n (held state store) ∙ omega (arith, held-length r)

    pub take_runs : Running (take_state state (Message n)) (moved_to_front (drop n (held state store)) store)
    unfolding take_state moved_to_front
    take_runs =
        record {
          size = simp (length-append, length-drop) (omega (arith, left-size, held-length r, r.size, r.within));
          within = omega (arith, r.within);
          going = r.going;
          unmarked = r.unmarked;
        }

    pub take-held : held (take_state state (Message n)) (moved_to_front (drop n (held state store)) store) ≡ drop n (held state store)
    unfolding take_state moved_to_front held
    take-held = in_front (state.used - n) (drop n (held state store)) store left-size
      where
        in_front : (k : ℕ) (front store : List ℕ) → length front ≡ k → take k (front ++ drop (length front) store) ≡ front
        in_front k front store e = take_at front (drop (length front) store) k e

    pub take_hands : (output : List ℕ) → take n (moved_to_front (take n (held state store)) output) ≡ take n (held state store)
    unfolding moved_to_front
    take_hands output =
        take_at (take n (held state store)) _ n (length-take-le n (held state store) (omega (arith, held-length r)))

    pub take_does : (output : List ℕ) → 8192 ≤ length output → Takes state store n (take n (held state store)) (take_state state (Message n)) (moved_to_front (drop n (held state store)) store)
    take_does output long =
        let law = take-message state store output (running_usable r) long r.unmarked n ready in
        record {
          output = output;
          answers = sym law.0;
          leaves = law.1;
          hands = sym (take_hands output) ∙ ap (take n) law.2;
        }

    -- and every take does just that
    pub take_did : (k : ℕ) (handed : List ℕ) (after : State) (left : List ℕ) → Takes state store k handed after left
        → (n ≡ k) × (after ≡ take_state state (Message n)) × (left ≡ moved_to_front (drop n (held state store)) store) × (handed ≡ take n (held state store))
    take_did k handed after left t =
        let long = enough_output t.output k after t.answers in
        let law = take-message state store t.output (running_usable r) long r.unmarked n ready in
        let same : answers_with (take_state state (Message n)) (Message n) ≡ answers_with after (Message k) = law.0 ∙ t.answers in
        let answers : Message n ≡ Message k = ap (λ (o : Outcome). o.answer) same in
        let length_is_lem : n ≡ k = cc in (
          length_is_lem,
          sym (ap (λ (o : Outcome). o.state) same),
          t.leaves ∙ sym law.1,
          t.hands ∙ ap (λ (m : ℕ). take m (taken_output state store t.output)) (sym length_is_lem) ∙ ap (take n) (sym law.2) ∙ take_hands t.output,
        )

-- ===== what is ready of a stream of whole messages =====

empty_ready : (used : ℕ) → ready_of used (announced_in []) ≡ Some 0
unfolding ready_of announced_in with_first value_from with_equals find_from find_in
empty_ready used = refl

module _ {state : State} {store : List ℕ} (r : Running state store) where
  pub nothing_ready : (rest : List ℕ) → held state store ++ rest ≡ [] → ready_of state.used (announced_in (held state store)) ≡ Some 0
  nothing_ready rest stream = rw (no_bytes (held state store) stream) (empty_ready state.used)
    where
      no_bytes : (bytes : List ℕ) → bytes ++ rest ≡ [] → bytes ≡ []
      no_bytes [] e = refl
      no_bytes (x ∷ bytes) e = let z : ◌≡◌ {A = ℕ} 0 1 = cc in absurd (omega arith)

  module _ {T : Tables} (message rest more : List ℕ) (fits : Fits T message) (stream : held state store ++ rest ≡ message ++ more) where
    pub whole_ready : length message ≤ state.used → ready_of state.used (announced_in (held state store)) ≡ Some (length message)
    whole_ready arrived =
        let there : length message ≤ length (held state store) = omega (arith, held-length r) in
        ap (ready_of state.used) (whole_announced message fits.message fits.size (held state store) rest more stream there)
        ∙ ready_whole state.used (length message) arrived

    pub part_not_ready : state.used < length message → ready_of state.used (announced_in (held state store)) ≡ Some 0
    unfolding ready_of
    part_not_ready missing =
        ⊎_elim (λ unknown. ap (ready_of state.used) unknown)
        (λ known. ap (ready_of state.used) known ∙ ready_short state.used (length message) missing)
        (head_announced message fits.message fits.size (held state store) rest more stream)

    -- behind the message the stream goes on
    pub stream_behind : length message ≤ state.used → drop (length message) (held state store) ++ rest ≡ more
    stream_behind arrived =
        let there : length message ≤ length (held state store) = omega (arith, held-length r) in
        sym (drop-append-le (length message) (held state store) rest there)
        ∙ ap (drop (length message)) stream
        ∙ drop-append_seam message more
