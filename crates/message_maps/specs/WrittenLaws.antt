-- Zeros, copies and splices in the words of `written_at`: where something is written the rest is as it was, and parts that are written
-- one behind the other, or moved in place one after the other, are the spliced list with zeros behind.
use Rattle.std.specs.Prelude.{◌≡◌, refl, Bool, true, false, get_or, set}
use Rattle.std.proofs.Common.{sym, ◌∙◌, drop_of_length-le, drop_at, take-take, length-drop, drop-cons, take-suc, add-one}
use Rattle.std.proofs.Math.Path.{ap}
use mathlib.Core.List.{List, [], ◌++◌, append_assoc, append-nil}
use Prim.Native.Nat.{ℕ, ◌+◌, ◌-◌, ◌≤◌, ◌<◌}
use native.Mathlib.Omega.{arith}
use Rattle.std.proofs.Math.Nat.{sub-zero}
use Rattle.std.proofs.Math.ListN.{length, take, drop, replicate, length-append, length-take, length-replicate, replicate-append-replicate}
use Rattle.std.proofs.Math.Seq.{take_at, length-take-le, take-length}
use Rattle.std.proofs.lemmas.List.{take-append-le, set_at}
use Rattle.field_rules.specs.Decimal.{written_at}
use Rattle.field_rules.proofs.DecimalLaws.{written_fits, written-length, written_copied}
use Rattle.message_maps.specs.Rows.{padded, part, spliced}
use Rattle.message_maps.specs.RowsLaws.{padded-length, part_length, part-all, drop-same, written_next}
use Rattle.message_maps.specs.SpliceLaws.{drop-further, zeros-behind, part_same, part-front, part_none, shifted}

-- what is written behind what stands in front of zeros
pub padded-none : (n : ℕ) → padded n [] ≡ replicate n 0
unfolding padded
padded-none n = rw sub-zero

-- one word more is copied
pub copy-one : (source target : List ℕ) (i : ℕ) → i < length source → i < length target
    → set (take i source ++ drop i target) i (get_or source i 0) ≡ take (i + 1) source ++ drop (i + 1) target
copy-one source target i h k =
    rw (drop-cons target i 0 k, add-one, take-suc source i 0 h, append_assoc)
    (set_at (take i source) _ _ _ i (length-take-le i source (omega arith)))

-- what `copy` leaves of `&mut output[at..]`, put back, is what writing the source says
pub part-written : (at from to : ℕ) (source output copied : List ℕ) → from ≤ to → to ≤ length source → at + (to - from) ≤ length output
    → copied ≡ take (length (take (to - from) (drop from source))) (take (to - from) (drop from source))
    ++ drop (length (take (to - from) (drop from source))) (take (length output - at) (drop at output))
    → take at output ++ (copied ++ drop (length output - at) (drop at output)) ≡ written_at at (part from to source) output
unfolding part
part-written at from to source output copied h k room e =
    written_copied at (take (to - from) (drop from source)) output copied
    (omega (arith, length-take (to - from) (drop from source), length-drop from source)) e

pub drop-zeros : (k m : ℕ) → drop m (replicate {A = ℕ} k 0) ≡ replicate (k - m) 0
drop-zeros k m = drop-same {A = ℕ} 0 k m

-- the five parts one behind the other, and all copied back
module _ (n from to kept until used : ℕ) (new s : List ℕ)
    (a : from ≤ to) (b : kept ≤ to) (c : to ≤ until) (d : until ≤ used) (e : used ≤ n) (whole : length s ≡ n)
    (room : from + (until - to) + length new + (to - kept) + (used - until) ≤ n) where
  pub splice_done : (first second third fourth : ℕ) (zeros one two three four five last : List ℕ) → zeros ≡ replicate n 0
      → first ≡ 0 + (from - 0) → one ≡ written_at 0 (part 0 from s) zeros
      → second ≡ first + (until - to) → two ≡ written_at first (part to until s) one
      → third ≡ second + (length new - 0) → three ≡ written_at second (part 0 (length new) new) two
      → fourth ≡ third + (to - kept) → four ≡ written_at third (part kept to s) three
      → five ≡ written_at fourth (part until used s) four
      → last ≡ take (length five) five ++ drop (length five) s
      → last ≡ padded n (spliced from to kept until used new s)
  unfolding spliced
  splice_done first second third fourth zeros one two three four five last z f₁ e₁ f₂ e₂ f₃ e₃ f₄ e₄ e₅ e₆ =
      let p = part 0 from s in
      let q = part to until s in
      let r = part kept to s in
      let t = part until used s in
      let lp : length p ≡ from = part_length 0 from s (omega arith) (omega arith) ∙ sub-zero from in
      let lq : length q ≡ until - to = part_length to until s c (omega arith) in
      let lr : length r ≡ to - kept = part_length kept to s b (omega arith) in
      let lt : length t ≡ used - until = part_length until used s d (omega arith) in
      let same : part 0 (length new) new ≡ new = part-all new in
      let o₁ : one ≡ padded n p = e₁ ∙ ap (written_at 0 p) (z ∙ sym (padded-none n)) ∙ written_next n 0 [] p refl (omega arith) in
      let o₂ : two ≡ padded n (p ++ q) = e₂ ∙ ap (written_at first q) o₁ ∙ written_next n first p q (omega arith) (omega arith) in
      let l₂ : length (p ++ q) ≡ from + (until - to) = simp length-append (omega arith) in
      let o₃ : three ≡ padded n ((p ++ q) ++ new) =
      e₃ ∙ rw same (ap (written_at second new) o₂) ∙ written_next n second (p ++ q) new (omega arith) (omega arith) in
      let l₃ : length ((p ++ q) ++ new) ≡ from + (until - to) + length new = simp length-append (omega arith) in
      let o₄ : four ≡ padded n (((p ++ q) ++ new) ++ r) =
      e₄ ∙ ap (written_at third r) o₃ ∙ written_next n third ((p ++ q) ++ new) r (omega arith) (omega arith) in
      let l₄ : length (((p ++ q) ++ new) ++ r) ≡ from + (until - to) + length new + (to - kept) = simp length-append (omega arith) in
      let o₅ : five ≡ padded n ((((p ++ q) ++ new) ++ r) ++ t) =
      e₅ ∙ ap (written_at fourth t) o₄ ∙ written_next n fourth (((p ++ q) ++ new) ++ r) t (omega arith) (omega arith) in
      let l₅ : length five ≡ n = ap length o₅ ∙ padded-length n _ (simp length-append (omega arith)) in
      e₆ ∙ rw (take-length five, drop_of_length-le s {i = length five} (omega arith), append-nil) (o₅ ∙ simp append_assoc)

-- where something is written, the rest is as it was
module _ (at : ℕ) (mid s : List ℕ) (room : at + length mid ≤ length s) where
  front_length : length (take at s) ≡ at
  front_length = length-take-le at s (omega arith)

  written-before : (k : ℕ) → k ≤ at → take k (written_at at mid s) ≡ take k s
  written-before k h =
      rw (written_fits at mid s room, take-append-le k (take at s) (mid ++ drop (at + length mid) s) (omega (arith, front_length)))
      (take-take k at s h)

  written_from : drop at (written_at at mid s) ≡ mid ++ drop (at + length mid) s
  written_from = rw (written_fits at mid s room) (drop_at (take at s) (mid ++ drop (at + length mid) s) at front_length)

  written_head : written_at at mid s ≡ (take at s ++ mid) ++ drop (at + length mid) s
  written_head = rw (written_fits at mid s room, append_assoc)

  head_length : length (take at s ++ mid) ≡ at + length mid
  head_length = simp length-append (omega (arith, front_length))

  written_up_to : take (at + length mid) (written_at at mid s) ≡ take at s ++ mid
  written_up_to = rw written_head (take_at (take at s ++ mid) (drop (at + length mid) s) (at + length mid) head_length)

  written_behind : (k : ℕ) → at + length mid ≤ k → drop k (written_at at mid s) ≡ drop k s
  written_behind k h =
      let end : ℕ = at + length mid in
      let here : drop end (written_at at mid s) ≡ drop end s = rw written_head (drop_at (take at s ++ mid) (drop end s) end head_length) in
      drop-further end k (written_at at mid s) (drop end s) h here ∙ sym (drop-further end k s (drop end s) h refl)

-- they are the spliced list, and zeros stand behind them
module _ (n from to kept until used next behind all stop : ℕ) (blank : Bool) (new s : List ℕ)
    (pre : (from ≤ to) × (kept ≤ to) × (to ≤ until) × (until ≤ used) × (used ≤ n) × (length s ≡ n)
    × (from + (until - to) + length new + (to - kept) + (used - until) ≤ n))
    (known : blank ≡ true → drop used s ≡ replicate (n - used) 0) (none : to ≤ kept)
    (p₁ : next ≡ from + (until - to)) (p₂ : behind ≡ next + length new) (p₃ : all ≡ behind + (used - until))
    (far : (all ≤ stop) × (stop ≤ n) × (blank ≡ true → used ≤ stop) × (blank ≡ false → stop ≡ n)) where
  moved_length : length (part to until s) ≡ until - to
  moved_length = part_length to until s pre.2 (omega arith)

  rest-length : length (part until used s) ≡ used - until
  rest-length = part_length until used s pre.3 (omega arith)

  shifted-length : length (shifted from to until used new s) ≡ all
  unfolding shifted
  shifted-length = simp length-append (omega (arith, moved_length, rest-length, length-take-le from s (omega arith)))

  shifted_is : spliced from to kept until used new s ≡ shifted from to until used new s
  unfolding spliced shifted
  shifted_is = rw (part-front from s, part_none kept to s none, append_assoc)

  pub shift_done : (one two three last : List ℕ)
      → one ≡ written_at from (part to until s) s
      → two ≡ written_at behind (part until used one) one
      → three ≡ written_at next (part 0 (length new) new) two
      → last ≡ written_at all (replicate (stop - all) 0) three
      → last ≡ padded n (spliced from to kept until used new s)
  unfolding padded shifted
  shift_done one two three last e₁ e₂ e₃ e₄ =
      let q = part to until s in
      let t = part until used s in
      let z : List ℕ = replicate (stop - all) 0 in
      let lz : length z ≡ stop - all = length-replicate (stop - all) 0 in
      let l₁ : length one ≡ n = ap length e₁ ∙ written-length from q s ∙ pre.5 in
      let past : (k : ℕ) → next ≤ k → drop k one ≡ drop k s =
      λ k h. rw e₁ (written_behind from q s (omega (arith, moved_length)) k (omega (arith, moved_length))) in
      let o₂ : two ≡ written_at behind t one = e₂ ∙ ap (λ (x : List ℕ). written_at behind x one) (part_same until used one s (past until (omega arith))) in
      let r₂ : behind + length t ≤ length one = omega (arith, rest-length) in
      let l₂ : length two ≡ n = ap length o₂ ∙ written-length behind t one ∙ l₁ in
      let o₃ : three ≡ written_at next new two = e₃ ∙ ap (λ (x : List ℕ). written_at next x two) (part-all new) in
      let r₃ : next + length new ≤ length two = omega arith in
      let l₃ : length three ≡ n = ap length o₃ ∙ written-length next new two ∙ l₂ in
      let front : take next two ≡ take from s ++ q =
      ap (take next) o₂
      ∙ written-before behind t one r₂ next (omega arith)
      ∙ (let k : next ≡ from + length q = omega (arith, moved_length) in rw (e₁, k) (written_up_to from q s (omega (arith, moved_length)))) in
      let rest : drop (next + length new) two ≡ t ++ drop all s =
      (let k : behind + length t ≡ all = omega (arith, rest-length) in
      rw (o₂, ← p₂) (written_from behind t one r₂ ∙ rw (k, past all (omega arith)))) in
      let o₄ : three ≡ shifted from to until used new s ++ drop all s = o₃ ∙ written_fits next new two r₃ ∙ rw (front, rest) (simp append_assoc) in
      let tail : drop stop three ≡ replicate (n - stop) 0 =
      ap (drop stop) o₃
      ∙ written_behind next new two r₃ stop (omega arith)
      ∙ ap (drop stop) o₂
      ∙ written_behind behind t one r₂ stop (omega (arith, rest-length))
      ∙ past stop (omega arith)
      ∙ zeros-behind 0 n used stop blank s pre.5 far.1 known far.2 far.3 in
      let k₁ : all + length z ≡ stop = omega arith in
      let k₂ : stop - all + (n - stop) ≡ n - all = omega arith in
      e₄
      ∙ written_fits all z three (omega arith)
      ∙ rw (k₁, tail, shifted_is, shifted-length, ← k₂, ← replicate-append-replicate {A = ℕ} (stop - all) (n - stop) 0)
      (ap (λ (x : List ℕ). x ++ (z ++ replicate (n - stop) 0)) (ap (take all) o₄ ∙ take_at (shifted from to until used new s) (drop all s) all shifted-length))
