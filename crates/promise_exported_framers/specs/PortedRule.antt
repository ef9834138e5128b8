-- The calling rule of the framing over the exports: the rule of frame_parser_rules, in what a caller in another language sees, with the end,
-- further takes and calls in vain besides. Answers are numbers, a message's length stands in the four words, and the lent state is handed
-- on as each call left it.
use Rattle.std.specs.Prelude.{◌≡◌, Bool, true, false, List, [], ◌∷◌, ◌++◌, ℕ, ◌≤◌, ◌<◌, length, take}
use Rattle.frame_hunter_rules.specs.Calls.{InVain}
use Rattle.face_framers.specs.declared.PortedState.{PortedState}
use Rattle.face_framers.proofs.Exports.{PortedPush, PortedEnd, PortedTake, PortedReset}
use Rattle.promise_exported_framers.specs.ToldLength.{length_told}

-- a call that answers 23, 26 or 27. What was lent as the store may be the store itself, a part of it or bytes elsewhere: `around` puts it
-- back where it stands.
pub data PortedRefused : PortedState → List ℕ → PortedState → List ℕ → Type 0 where
  refused_push : {s z : PortedState} {place place' chunk out : List ℕ} {r : ℕ} (around : List ℕ → List ℕ) →
      PortedPush s place chunk r z place' out → InVain r → PortedRefused s (around place) z (around place')
  refused_take : {s z : PortedState} {place place' output output' out : List ℕ} {r : ℕ} (around : List ℕ → List ℕ) →
      PortedTake s place output r z place' output' out → InVain r → PortedRefused s (around place) z (around place')
  refused_end : {s z : PortedState} {store place out : List ℕ} {r : ℕ} → PortedEnd s place r z out → InVain r → PortedRefused s store z store

-- all that is ready is taken: takes, each answered 0, until one tells the length 0
pub data PortedTakenAll : PortedState → List ℕ → List (List ℕ) → PortedState → List ℕ → Type 0 where
  last-take : {s z : PortedState} {store store' output output' out : List ℕ} {r : ℕ} →
      PortedTake s store output r z store' output' out → r ≡ 0 → length_told out ≡ 0 → PortedTakenAll s store [] z store'
  next-take : {s y z : PortedState} {store store' store'' output output' out : List ℕ} {r : ℕ} {messages : List (List ℕ)} →
      PortedTake s store output r y store' output' out → r ≡ 0 → 0 < length_told out →
      PortedTakenAll y store' messages z store'' → PortedTakenAll s store (take (length_told out) output' ∷ messages) z store''
  after-refusal : {s y z : PortedState} {store store' store'' : List ℕ} {messages : List (List ℕ)} → PortedRefused s store y store' →
      PortedTakenAll y store' messages z store'' → PortedTakenAll s store messages z store''

-- `PortedCalls over given messages s store`: since a reset the bytes `given` came in chunks of at most 8,192 bytes, each answered 0, all that
-- is ready being taken after each, and, where `over`, the end was told. Further takes, and calls in vain, may be made at any place.
pub data PortedCalls : Bool → List ℕ → List (List ℕ) → PortedState → List ℕ → Type 0 where
  after_reset : {s : PortedState} {store out : List ℕ} {r : ℕ} → length store ≡ 16384 → PortedReset r s out → PortedCalls false [] [] s store
  after-chunk : {given : List ℕ} {messages new : List (List ℕ)} {s y z : PortedState} {store store' store'' out : List ℕ} {r : ℕ} (chunk : List ℕ) →
      PortedCalls false given messages s store → length chunk ≤ 8192 → PortedPush s store chunk r y store' out → r ≡ 0 →
      PortedTakenAll y store' new z store'' → PortedCalls false (given ++ chunk) (messages ++ new) z store''
  after-end : {given : List ℕ} {messages : List (List ℕ)} {s z : PortedState} {store out : List ℕ} {r : ℕ} →
      PortedCalls false given messages s store → PortedEnd s store r z out → r ≡ 0 → PortedCalls true given messages z store
  take_again : {over : Bool} {given : List ℕ} {messages : List (List ℕ)} {s z : PortedState} {store store' output output' out : List ℕ} {r : ℕ} →
      PortedCalls over given messages s store → 8192 ≤ length output → PortedTake s store output r z store' output' out → PortedCalls over given messages z store'
  call_in_vain : {over : Bool} {given : List ℕ} {messages : List (List ℕ)} {s z : PortedState} {store store' : List ℕ} →
      PortedCalls over given messages s store → PortedRefused s store z store' → PortedCalls over given messages z store'
