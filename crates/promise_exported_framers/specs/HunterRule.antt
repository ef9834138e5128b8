-- The calling rule of demand 3 over the exports: the rule of frame_hunter_rules, in what a caller in another language sees. Answers are
-- numbers, a frame's length stands in the four words, and the lent state is handed on as each call left it.
use Rattle.std.specs.Prelude.{◌≡◌, Bool, true, false, List, [], ◌∷◌, ◌++◌, ℕ, ◌≤◌, ◌<◌, length, take}
use Rattle.frame_verdict_rules.specs.Frame.{frame_most}
use Rattle.frame_hunter_rules.specs.Hunt.{store_size}
use Rattle.frame_hunter_rules.specs.Calls.{InVain}
use Rattle.face_framers.specs.declared.HunterState.{HunterState}
use Rattle.face_framers.proofs.Exports.{HunterPush, HunterEnd, HunterTake, HunterReset}
use Rattle.promise_exported_framers.specs.ToldLength.{length_told}

-- a call that answers 23, 26 or 27. What was lent as the store may be the store itself, a part of it or bytes elsewhere: `around` puts it
-- back where it stands.
pub data HunterRefused : HunterState → List ℕ → HunterState → List ℕ → Type 0 where
  refused_push : {s z : HunterState} {place place' chunk out : List ℕ} {r : ℕ} (around : List ℕ → List ℕ) →
      HunterPush s place chunk r z place' out → InVain r → HunterRefused s (around place) z (around place')
  refused_take : {s z : HunterState} {place place' output output' out : List ℕ} {r : ℕ} (around : List ℕ → List ℕ) →
      HunterTake s place output r z place' output' out → InVain r → HunterRefused s (around place) z (around place')
  refused_end : {s z : HunterState} {store place out : List ℕ} {r : ℕ} → HunterEnd s place r z out → InVain r → HunterRefused s store z store

-- "all that is ready being taken": takes until one tells the length 0. `frames` are the first bytes of each output, as many as were told.
pub data HunterTakenAll : HunterState → List ℕ → List (List ℕ) → HunterState → List ℕ → Type 0 where
  last-take : {s z : HunterState} {store store' output output' out : List ℕ} {r : ℕ} → frame_most ≤ length output →
      HunterTake s store output r z store' output' out → length_told out ≡ 0 → HunterTakenAll s store [] z store'
  next-take : {s y z : HunterState} {store store' store'' output output' out : List ℕ} {r : ℕ} {frames : List (List ℕ)} → frame_most ≤ length output →
      HunterTake s store output r y store' output' out → 0 < length_told out →
      HunterTakenAll y store' frames z store'' → HunterTakenAll s store (take (length_told out) output' ∷ frames) z store''
  after-refusal : {s y z : HunterState} {store store' store'' : List ℕ} {frames : List (List ℕ)} → HunterRefused s store y store' →
      HunterTakenAll y store' frames z store'' → HunterTakenAll s store frames z store''

-- `HunterCalls over stream frames s store`: a reset, and then chunks of at most 8,192 bytes, all that is ready being taken after each, and,
-- where `over`, after the end. Further takes, and calls in vain, may be made at any place.
pub data HunterCalls : Bool → List ℕ → List (List ℕ) → HunterState → List ℕ → Type 0 where
  after_reset : {s : HunterState} {store out : List ℕ} {r : ℕ} → length store ≡ store_size → HunterReset r s out → HunterCalls false [] [] s store
  after-chunk : {stream : List ℕ} {frames more : List (List ℕ)} {s y z : HunterState} {store store' store'' out : List ℕ} {r : ℕ} (chunk : List ℕ) →
      HunterCalls false stream frames s store → length chunk ≤ frame_most →
      HunterPush s store chunk r y store' out → HunterTakenAll y store' more z store'' → HunterCalls false (stream ++ chunk) (frames ++ more) z store''
  after-end : {stream : List ℕ} {frames more : List (List ℕ)} {s y z : HunterState} {store store'' out : List ℕ} {r : ℕ} →
      HunterCalls false stream frames s store → HunterEnd s store r y out → HunterTakenAll y store more z store'' → HunterCalls true stream (frames ++ more) z store''
  take_again : {over : Bool} {stream : List ℕ} {frames : List (List ℕ)} {s z : HunterState} {store store' output output' out : List ℕ} {r : ℕ} →
      HunterCalls over stream frames s store → frame_most ≤ length output → HunterTake s store output r z store' output' out → HunterCalls over stream frames z store'
  call_in_vain : {over : Bool} {stream : List ℕ} {frames : List (List ℕ)} {s z : HunterState} {store store' : List ℕ} →
      HunterCalls over stream frames s store → HunterRefused s store z store' → HunterCalls over stream frames z store'
