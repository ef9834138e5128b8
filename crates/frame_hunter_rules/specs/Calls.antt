-- The calling rule of demand 3 over bytes: a sequence of calls, each linked to the next by the contract of the function that is called.
use Rattle.std.specs.Prelude.{◌≡◌, Bool, true, false, List, [], ◌∷◌, ◌++◌, ℕ, ◌≤◌, ◌<◌, length, take}
use Rattle.frame_verdict_rules.specs.Frame.{frame_most}
use Rattle.frame_hunter_rules.specs.Hunt.{store_size}
use Rattle.frame_hunter_rules.specs.Bytes.{number_of_hunter, Pushes, Finishes, Takes, fresh_state}
use Rattle.frame_hunter_rules.specs.declared.State.{State}
use Rattle.frame_hunter_rules.specs.declared.Reply.{Reply}
use Rattle.frame_hunter_rules.specs.declared.Taken.{Taken}

-- the numbers of a call that a caller may make in vain: "an output under 8,192 bytes at any take", "a chunk or an end after the end",
-- "the store isn't 16,384 bytes". 25 is none of them: it says that a chunk is missing from the stream.
pub data InVain : ℕ → Type 0 where
  output_short : InVain 23
  after_the_end : InVain 26
  bad-store : InVain 27

-- A call in vain takes the state and the caller's store to what it leaves of them. What was lent as the store may be the store itself, a
-- part of it or bytes elsewhere: `around` puts it back where it stands.
pub data Refused : State → List ℕ → State → List ℕ → Type 0 where
  refused_push : {s : State} {place place' chunk : List ℕ} {r : Reply} (around : List ℕ → List ℕ) → Pushes s place chunk r place' →
      InVain (number_of_hunter r.answer) → Refused s (around place) r.state (around place')
  refused_take : {s : State} {place place' output output' : List ℕ} {r : Taken} (around : List ℕ → List ℕ) → Takes s place output r place' output' →
      InVain (number_of_hunter r.answer) → Refused s (around place) r.state (around place')
  refused_end : {s : State} {store place : List ℕ} {r : Reply} → Finishes s place r → InVain (number_of_hunter r.answer) → Refused s store r.state store

-- "all that is ready being taken": takes, each with an output of its own, until one answers 0. `frames` are the first bytes of each
-- output, as many as the take answered.
pub data TakenAll : State → List ℕ → List (List ℕ) → State → List ℕ → Type 0 where
  last-take : {s : State} {store store' output output' : List ℕ} {r : Taken} → frame_most ≤ length output → Takes s store output r store' output' →
      r.length ≡ 0 → TakenAll s store [] r.state store'
  next-take : {s z : State} {store store' store'' output output' : List ℕ} {r : Taken} {frames : List (List ℕ)} → frame_most ≤ length output →
      Takes s store output r store' output' → 0 < r.length →
      TakenAll r.state store' frames z store'' → TakenAll s store (take r.length output' ∷ frames) z store''
  after-refusal : {s y z : State} {store store' store'' : List ℕ} {frames : List (List ℕ)} → Refused s store y store' → TakenAll y store' frames z store'' →
      TakenAll s store frames z store''

-- `Calls over stream frames s store`: "begins with a reset, has none after it, and hands store and state on as each call left them". The
-- stream was given in chunks of at most 8,192 bytes, all that is ready being taken after each, and, where `over`, after the end. Further
-- takes, and calls in vain, may be made at any place.
pub data Calls : Bool → List ℕ → List (List ℕ) → State → List ℕ → Type 0 where
  after_reset : {s : State} {store : List ℕ} → length store ≡ store_size → s ≡ fresh_state → Calls false [] [] s store
  after-chunk : {stream : List ℕ} {frames more : List (List ℕ)} {s z : State} {store store' store'' : List ℕ} {r : Reply} (chunk : List ℕ) →
      Calls false stream frames s store → length chunk ≤ frame_most →
      Pushes s store chunk r store' → TakenAll r.state store' more z store'' → Calls false (stream ++ chunk) (frames ++ more) z store''
  after-end : {stream : List ℕ} {frames more : List (List ℕ)} {s z : State} {store store'' : List ℕ} {r : Reply} → Calls false stream frames s store →
      Finishes s store r → TakenAll r.state store more z store'' → Calls true stream (frames ++ more) z store''
  take_again : {over : Bool} {stream : List ℕ} {frames : List (List ℕ)} {s : State} {store store' output output' : List ℕ} {r : Taken} →
      Calls over stream frames s store →
      frame_most ≤ length output → Takes s store output r store' output' → Calls over stream frames r.state store'
  call_in_vain : {over : Bool} {stream : List ℕ} {frames : List (List ℕ)} {s z : State} {store store' : List ℕ} → Calls over stream frames s store →
      Refused s store z store' → Calls over stream frames z store'
