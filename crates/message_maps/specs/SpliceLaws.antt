-- A splice in place, over any limit: what comes back changes places with what followed it, that moves down, the rest makes room, what is new goes
-- into the gap, and zeros stand behind. Each move reads only what the moves before it left alone, so that the whole is the spliced list.
use Rattle.std.specs.Prelude.{◌≡◌, refl, Bool, true, false, leb, ltb}
use Rattle.std.specs.List.{copy_within}
use Rattle.std.proofs.Common.{sym, ◌∙◌, drop_of_length-le, drop_at, take-take, drop-drop, length-drop, length-take, leb-true, leb-false, ltb-true, ltb-false}
use Rattle.std.proofs.Math.Path.{ap}
use mathlib.Core.List.{List, [], ◌++◌, append_assoc}
use Prim.Native.Nat.{ℕ, ◌+◌, ◌-◌, ◌≤◌, ◌<◌}
use native.Mathlib.Omega.{arith}
use borrow.Rule.Slice.PartMut.{put_mid, mid_of}
use Rattle.std.proofs.Math.Nat.{sub-zero}
use Rattle.std.proofs.Math.ListN.{length, take, drop, replicate, length-append, length-replicate, replicate-append-replicate, take-append-drop}
use Rattle.std.proofs.Math.Seq.{take_at, length-take-le, take-add, take-append-add, drop-append_seam}
use Rattle.std.proofs.lemmas.List.{take-append-le, drop-take}
use Rattle.message_maps.specs.Rows.{part, spliced}
use Rattle.message_maps.specs.RowsLaws.{part_length, drop-same}

-- a list written over another from a place on
unfoldable pub over : {A : Type 0} → ℕ → List A → List A → List A
over at mid s = take at s ++ (mid ++ drop (at + length mid) s)

-- lists that are the same from a place on are the same from any later one on
pub drop-further : {A : Type 0} (m k : ℕ) (s t : List A) → m ≤ k → drop m s ≡ t → drop k s ≡ drop (k - m) t
drop-further m k s t h same =
    let e : m + (k - m) ≡ k = omega arith in
    ap (λ (j : ℕ). drop j s) (sym e) ∙ sym (drop-drop (k - m) m s) ∙ ap (drop (k - m)) same

-- where something is written, the rest is as it was
module _ {A : Type 0} (at : ℕ) (mid s : List A) (room : at + length mid ≤ length s) where
  front_length : length (take at s) ≡ at
  front_length = length-take-le at s (omega arith)

  over-length : length (over at mid s) ≡ length s
  unfolding over
  over-length = simp (length-append, length-take, length-drop) (omega arith)

  over-before : (k : ℕ) → k ≤ at → take k (over at mid s) ≡ take k s
  unfolding over
  over-before k h =
      take-append-le k (take at s) (mid ++ drop (at + length mid) s) (omega (arith, front_length)) ∙ take-take k at s h

  over_is : over at mid s ≡ take at s ++ (mid ++ drop (at + length mid) s)
  unfolding over
  over_is = refl

  over_from : drop at (over at mid s) ≡ mid ++ drop (at + length mid) s
  unfolding over
  over_from = drop_at (take at s) (mid ++ drop (at + length mid) s) at front_length

  over_head : over at mid s ≡ (take at s ++ mid) ++ drop (at + length mid) s
  unfolding over
  over_head = rw append_assoc

  head_length : length (take at s ++ mid) ≡ at + length mid
  head_length = simp length-append (omega (arith, front_length))

  over_up_to : take (at + length mid) (over at mid s) ≡ take at s ++ mid
  over_up_to = rw over_head (take_at (take at s ++ mid) (drop (at + length mid) s) (at + length mid) head_length)

  over_behind : (k : ℕ) → at + length mid ≤ k → drop k (over at mid s) ≡ drop k s
  over_behind k h =
      let end : ℕ = at + length mid in
      let here : drop end (over at mid s) ≡ drop end s = rw over_head (drop_at (take at s ++ mid) (drop end s) end head_length) in
      drop-further end k (over at mid s) (drop end s) h here ∙ sym (drop-further end k s (drop end s) h refl)

-- a second list written behind a first
over_over : {A : Type 0} (at next : ℕ) (mid more s : List A) → next ≡ at + length mid → next + length more ≤ length s
    → over next more (over at mid s) ≡ over at (mid ++ more) s
over_over {A = A} at next mid more s e room =
    let r : at + length mid ≤ length s = omega arith in
    let l : length (over at mid s) ≡ length s = over-length at mid s r in
    let n : at + length mid + length more ≡ at + length (mid ++ more) = simp length-append (omega arith) in
    over_is next more (over at mid s) (omega arith)
    ∙ rw (e, over_up_to at mid s r, over_behind at mid s r (at + length mid + length more) (omega arith), n, append_assoc)
    (sym (over_is at (mid ++ more) s (omega (arith, n)) ∙ ap (λ (x : List A). take at s ++ x) (append_assoc mid more (drop (at + length (mid ++ more)) s))))

-- what the library's moves leave
module _ {A : Type 0} where
  pub moved : (from to at : ℕ) (s : List A) → from ≤ to → to ≤ length s → copy_within s from to at ≡ over at (part from to s) s
  unfolding over part
  moved from to at s h k = let e : length (take (to - from) (drop from s)) ≡ to - from = unfold part in part_length from to s h k in rw (e, append_assoc)

  part-rest : (from to : ℕ) (s : List A) → from ≤ to → part from to s ++ drop to s ≡ drop from s
  unfolding part
  part-rest from to s h =
      let d : from + (to - from) ≡ to = omega arith in
      rw (ap (λ (j : ℕ). drop j s) (sym d) ∙ sym (drop-drop (to - from) from s)) (take-append-drop (to - from) (drop from s))

  -- a part that is moved to where it stands leaves all as it was
  pub moved-nowhere : (from to at : ℕ) (s : List A) → from ≤ to → to ≤ length s → at ≡ from → copy_within s from to at ≡ s
  moved-nowhere from to at s h k e =
      let n : length (part from to s) ≡ to - from = part_length from to s h k in
      let m : from + length (part from to s) ≡ to = omega (arith, n) in
      rw e (moved from to from s h k ∙ over_is from (part from to s) s (omega arith) ∙ rw (m, part-rest from to s h) (take-append-drop from s))

  pub put : (at k : ℕ) (s mid : List A) → length mid ≡ k → put_mid at k s mid ≡ over at mid s
  unfolding over
  put at k s mid e = rw (e, ← drop-drop k at s)

  pub put-same : (at end : ℕ) (x : A) (s filled : List A) → at ≤ end → end ≤ length s → filled ≡ replicate (length (mid_of at (end - at) s)) x
      → put_mid at (end - at) s filled ≡ over at (replicate (end - at) x) s
  put-same at end x s filled h k e =
      let n : length (mid_of at (end - at) s) ≡ end - at = simp (length-take, length-drop) (omega arith) in
      let is : filled ≡ replicate (end - at) x = e ∙ ap (λ (j : ℕ). replicate j x) n in
      rw is (put at (end - at) s (replicate (end - at) x) (length-replicate (end - at) x))

  second-half : (all one back to until : ℕ) (s : List A) → all ≡ one + (until - to) → back + one ≡ to → drop one (mid_of back all s) ≡ part to until s
  unfolding part
  second-half all one back to until s n m =
      ap (λ (x : ℕ). drop one (take x (drop back s))) n
      ∙ drop-take one (until - to) (drop back s)
      ∙ ap (take (until - to)) (drop-drop one back s ∙ ap (λ (x : ℕ). drop x s) m)

  first-half : (all back to : ℕ) (s : List A) → to - back ≤ all → take (to - back) (mid_of back all s) ≡ part back to s
  unfolding part
  first-half all back to s h = take-take (to - back) all (drop back s) h

  -- a part whose two halves have changed places
  pub swapped-halves : (back to until : ℕ) (s : List A) → back ≤ to → to ≤ until → until ≤ length s
      → put_mid back (until - back) s (drop (to - back) (mid_of back (until - back) s) ++ take (to - back) (mid_of back (until - back) s))
      ≡ over back (part to until s ++ part back to s) s
  swapped-halves back to until s h k room =
      let n : until - back ≡ (to - back) + (until - to) = omega arith in
      let m : back + (to - back) ≡ to = omega arith in
      let second : drop (to - back) (mid_of back (until - back) s) ≡ part to until s = second-half (until - back) (to - back) back to until s n m in
      let one : take (to - back) (mid_of back (until - back) s) ≡ part back to s = first-half (until - back) back to s (omega arith) in
      rw (second, one)
      (put back (until - back) s (part to until s ++ part back to s)
      (simp length-append (omega (arith, part_length to until s k room, part_length back to s h (omega arith)))))

-- what is read of a list depends on nothing in front of it, and on nothing behind it
module _ {A : Type 0} (from to : ℕ) (s t : List A) where
  pub part_same : drop from s ≡ drop from t → part from to s ≡ part from to t
  unfolding part
  part_same e = ap (take (to - from)) e

  part_before : take to s ≡ take to t → part from to s ≡ part from to t
  unfolding part
  part_before e = by_test (leb from to) refl
    where
      by_test : (b : Bool) → leb from to ≡ b → take (to - from) (drop from s) ≡ take (to - from) (drop from t)
      by_test true h =
          let n : from + (to - from) ≡ to = omega (arith, leb-true _ _ h) in
          sym (drop-take from (to - from) s) ∙ ap (drop from) (rw n e) ∙ drop-take from (to - from) t
      by_test false h = let z : to - from ≡ 0 = omega (arith, leb-false _ _ h) in rw z

pub part-front : {A : Type 0} (from : ℕ) (s : List A) → part 0 from s ≡ take from s
unfolding part
part-front from s = rw sub-zero

pub part_none : {A : Type 0} (from to : ℕ) (s : List A) → to ≤ from → part from to s ≡ []
unfolding part
part_none from to s h = let e : to - from ≡ 0 = omega arith in rw e

part-two : {A : Type 0} (from mid to : ℕ) (s : List A) → from ≤ mid → mid ≤ to → part from mid s ++ part mid to s ≡ part from to s
unfolding part
part-two from mid to s h k =
    let n : (mid - from) + (to - mid) ≡ to - from = omega arith in
    let m : from + (mid - from) ≡ mid = omega arith in
    rw (← n, take-add (mid - from) (to - mid) (drop from s), drop-drop, m)

-- all behind the place where the clearing stops is zero: it stops past all that was used where the rest is known to be, else at the limit
pub zeros-behind : {A : Type 0} (z : A) (n used stop : ℕ) (blank : Bool) (s : List A) → length s ≡ n → stop ≤ n
    → (blank ≡ true → drop used s ≡ replicate (n - used) z) → (blank ≡ true → used ≤ stop) → (blank ≡ false → stop ≡ n) → drop stop s ≡ replicate (n - stop) z
zeros-behind z n used stop true s whole within known far all =
    let past : used ≤ stop = far refl in
    let e : n - used - (stop - used) ≡ n - stop = omega arith in
    drop-further used stop s _ past (known refl) ∙ drop-same z (n - used) (stop - used) ∙ ap (λ (k : ℕ). replicate k z) e
zeros-behind z n used stop false s whole within known far all =
    let e : stop ≡ n = all refl in
    let none : n - stop ≡ 0 = omega arith in
    drop_of_length-le s {i = stop} (omega arith) ∙ rw none

-- the four parts in their places
unfoldable pub shifted : {A : Type 0} (from to until used : ℕ) (new s : List A) → List A
shifted from to until used new s = (take from s ++ part to until s) ++ (new ++ part until used s)

-- the part from `from` to `to` gone, and zeros behind; what comes back already stands behind `until`
module _ {A : Type 0} (z : A) (n from to until used next behind all stop : ℕ) (blank : Bool) (new s : List A)
    (pre : (from ≤ to) × (to ≤ until) × (until ≤ used) × (used ≤ n) × (length s ≡ n) × (from + (until - to) + length new + (used - until) ≤ n))
    (known : blank ≡ true → drop used s ≡ replicate (n - used) z)
    (p₁ : next ≡ from + (until - to)) (p₂ : behind ≡ next + length new) (p₃ : all ≡ behind + (used - until))
    (far : (all ≤ stop) × (stop ≤ n) × (blank ≡ true → used ≤ stop) × (blank ≡ false → stop ≡ n)) where
  moved_length : length (part to until s) ≡ until - to
  moved_length = part_length to until s pre.1 (omega arith)

  rest-length : length (part until used s) ≡ used - until
  rest-length = part_length until used s pre.2 (omega arith)

  shifted-length : length (shifted from to until used new s) ≡ all
  unfolding shifted
  shifted-length = simp length-append (omega (arith, moved_length, rest-length, length-take-le from s (omega arith)))

  parts_shifted : (one two three last : List A)
      → one ≡ over from (part to until s) s
      → two ≡ over behind (part until used one) one
      → three ≡ over next new two
      → last ≡ over all (replicate (stop - all) z) three
      → last ≡ shifted from to until used new s ++ replicate (n - all) z
  unfolding shifted
  parts_shifted one two three last e₁ e₂ e₃ e₄ =
      let q = part to until s in
      let t = part until used s in
      let zs : List A = replicate (stop - all) z in
      let lz : length zs ≡ stop - all = length-replicate (stop - all) z in
      let l₁ : length one ≡ n = ap length e₁ ∙ over-length from q s (omega (arith, moved_length)) ∙ pre.4 in
      let past : (k : ℕ) → next ≤ k → drop k one ≡ drop k s = λ k h. rw e₁ (over_behind from q s (omega (arith, moved_length)) k (omega (arith, moved_length))) in
      let o₂ : two ≡ over behind t one = e₂ ∙ ap (λ (x : List A). over behind x one) (part_same until used one s (past until (omega arith))) in
      let r₂ : behind + length t ≤ length one = omega (arith, rest-length) in
      let l₂ : length two ≡ n = ap length o₂ ∙ over-length behind t one r₂ ∙ l₁ in
      let r₃ : next + length new ≤ length two = omega arith in
      let l₃ : length three ≡ n = ap length e₃ ∙ over-length next new two r₃ ∙ l₂ in
      let front : take next two ≡ take from s ++ q =
      ap (take next) o₂
      ∙ over-before behind t one r₂ next (omega arith)
      ∙ (let k : next ≡ from + length q = omega (arith, moved_length) in rw (e₁, k) (over_up_to from q s (omega (arith, moved_length)))) in
      let rest : drop (next + length new) two ≡ t ++ drop all s =
      (let k : behind + length t ≡ all = omega (arith, rest-length) in
      rw (o₂, ← p₂) (over_from behind t one r₂ ∙ rw (k, past all (omega arith)))) in
      let o₄ : three ≡ shifted from to until used new s ++ drop all s = e₃ ∙ over_is next new two r₃ ∙ rw (front, rest) (simp append_assoc) in
      let tail : drop stop three ≡ replicate (n - stop) z =
      ap (drop stop) e₃
      ∙ over_behind next new two r₃ stop (omega arith)
      ∙ ap (drop stop) o₂
      ∙ over_behind behind t one r₂ stop (omega (arith, rest-length))
      ∙ past stop (omega arith)
      ∙ zeros-behind z n used stop blank s pre.4 far.1 known far.2 far.3 in
      let k₁ : all + length zs ≡ stop = omega arith in
      let k₂ : stop - all + (n - stop) ≡ n - all = omega arith in
      e₄
      ∙ over_is all zs three (omega arith)
      ∙ rw (k₁, tail, ← k₂, ← replicate-append-replicate (stop - all) (n - stop) z)
      (ap (λ (x : List A). x ++ (zs ++ replicate (n - stop) z)) (ap (take all) o₄ ∙ take_at (shifted from to until used new s) (drop all s) all shifted-length))

-- the whole: turned, what comes back stands behind what followed it
module _ {A : Type 0} (z : A) (n from to kept until used back stop : ℕ) (blank : Bool) (new s : List A)
    (pre : (from ≤ to) × (kept ≤ to) × (to ≤ until) × (until ≤ used) × (used ≤ n) × (length s ≡ n) × (from + (until - to) + length new + (to - kept) + (used - until) ≤ n))
    (known : blank ≡ true → drop used s ≡ replicate (n - used) z)
    (first : (from ≤ back) × (kept ≤ back) × (back ≤ to) × (kept < back → back ≤ from)) where
  abbrev pub middle : ℕ
  middle = back + (until - to)

  abbrev pub turned : List A
  turned = over back (part to until s ++ part back to s) s

  moved-size : length (part to until s) ≡ until - to
  moved-size = part_length to until s pre.2 (omega arith)

  back-size : length (part back to s) ≡ to - back
  back-size = part_length back to s first.2 (omega arith)

  turned-room : back + length (part to until s ++ part back to s) ≤ length s
  turned-room = simp length-append (omega (arith, moved-size, back-size))

  turned-end : back + length (part to until s ++ part back to s) ≡ until
  turned-end = simp length-append (omega (arith, moved-size, back-size))

  turned-length : length turned ≡ n
  turned-length = over-length back (part to until s ++ part back to s) s turned-room ∙ pre.5

  turned_from : drop back turned ≡ part to until s ++ (part back to s ++ drop until s)
  turned_from = over_from back (part to until s ++ part back to s) s turned-room ∙ rw (turned-end, append_assoc)

  turned-front : take from turned ≡ take from s
  turned-front = over-before back (part to until s ++ part back to s) s turned-room from first.0

  turned-known : blank ≡ true → drop used turned ≡ replicate (n - used) z
  turned-known b = over_behind back (part to until s ++ part back to s) s turned-room used (omega (arith, turned-end)) ∙ known b

  followed : part back middle turned ≡ part to until s
  unfolding part
  followed =
      let e : middle - back ≡ length (part to until s) = omega (arith, moved-size) in
      rw turned_from (rw e (take_at (part to until s) (part back to s ++ drop until s) (length (part to until s)) refl))

  came-back : part middle used turned ≡ part back to s ++ part until used s
  unfolding part
  came-back =
      let b = part back to s in
      let e : used - middle ≡ length b + (used - until) = omega (arith, back-size) in
      let d : drop middle turned ≡ b ++ drop until s =
      (let m : middle ≡ back + length (part to until s) = omega (arith, moved-size) in
      rw m (sym (drop-drop (length (part to until s)) back turned)) ∙ ap (drop (length (part to until s))) turned_from ∙ drop-append_seam (part to until s) (b ++ drop until s)) in
      rw (d, e) (take-append-add b (drop until s) (used - until))

  -- what is kept from before `from` stands there still, after each move
  kept-two : (three : List A) → take from three ≡ take from s → part kept back three ++ part back to s ≡ part kept to s
  kept-two three e = by_test (ltb kept back) refl
    where
      by_test : (b : Bool) → ltb kept back ≡ b → part kept back three ++ part back to s ≡ part kept to s
      by_test true h =
          let here : back ≡ from = omega (arith, first.3 (ltb-true _ _ h)) in
          rw (part_before kept back three s (rw here e)) (part-two kept back to s first.1 first.2)
      by_test false h =
          let here : kept ≡ back = omega (arith, ltb-false _ _ h) in
          rw (part_none kept back three (ltb-false _ _ h), here)

  whole-is : (k : List A) → k ++ part back to s ≡ part kept to s
      → shifted from back middle used (new ++ k) turned ≡ spliced from to kept until used new s
  unfolding shifted spliced
  whole-is k e = rw (turned-front, followed, came-back, part-front from s, ← e) (simp append_assoc)

  pub parts_spliced : (next again behind all : ℕ) (swapped one two three four last : List A)
      → next ≡ from + (until - to) → again ≡ next + length new → behind ≡ again + (back - kept) → all ≡ behind + (used - middle)
      → (all ≤ stop) × (stop ≤ n) × (blank ≡ true → used ≤ stop) × (blank ≡ false → stop ≡ n)
      → swapped ≡ turned
      → one ≡ copy_within swapped back middle from
      → two ≡ copy_within one middle used behind
      → three ≡ over next new two
      → four ≡ copy_within three kept back again
      → last ≡ over all (replicate (stop - all) z) four
      → last ≡ spliced from to kept until used new s ++ replicate (n - length (spliced from to kept until used new s)) z
  parts_spliced next again behind all swapped one two three four last p₁ p₂ p₃ p₄ far e₀ e₁ e₂ e₃ e₄ e₅ =
      let k = part kept back three in
      let lq : length (part back middle turned) ≡ until - to = part_length back middle turned (omega arith) (omega (arith, turned-length)) ∙ omega arith in
      let o₁ : one ≡ over from (part back middle turned) turned =
      e₁ ∙ ap (λ (x : List A). copy_within x back middle from) e₀ ∙ moved back middle from turned (omega arith) (omega (arith, turned-length)) in
      let r₁ : from + length (part back middle turned) ≤ length turned = omega (arith, turned-length) in
      let l₁ : length one ≡ n = ap length o₁ ∙ over-length from (part back middle turned) turned r₁ ∙ turned-length in
      let lt : length (part middle used one) ≡ used - middle = part_length middle used one (omega arith) (omega arith) in
      let o₂ : two ≡ over behind (part middle used one) one = e₂ ∙ moved middle used behind one (omega arith) (omega arith) in
      let r₂ : behind + length (part middle used one) ≤ length one = omega arith in
      let l₂ : length two ≡ n = ap length o₂ ∙ over-length behind (part middle used one) one r₂ ∙ l₁ in
      let r₃ : next + length new ≤ length two = omega arith in
      let l₃ : length three ≡ n = ap length e₃ ∙ over-length next new two r₃ ∙ l₂ in
      let lk : length k ≡ back - kept = part_length kept back three first.1 (omega arith) in
      let front : take from three ≡ take from s =
      ap (take from) e₃
      ∙ over-before next new two r₃ from (omega arith)
      ∙ ap (take from) o₂
      ∙ over-before behind (part middle used one) one r₂ from (omega arith)
      ∙ ap (take from) o₁
      ∙ over-before from (part back middle turned) turned r₁ from (omega arith)
      ∙ turned-front in
      let o₄ : four ≡ over next (new ++ k) two =
      e₄ ∙ moved kept back again three first.1 (omega arith) ∙ ap (over again k) e₃ ∙ over_over next again new k two p₂ (omega arith) in
      let ln : length (new ++ k) ≡ length new + (back - kept) = simp length-append (omega arith) in
      let pre₂ : (from ≤ back) × (back ≤ middle) × (middle ≤ used) × (used ≤ n) × (length turned ≡ n) × (from + (middle - back) + length (new ++ k) + (used - middle) ≤ n) =
      (omega arith, omega arith, omega arith, omega arith, turned-length, omega arith) in
      let q₁ : next ≡ from + (middle - back) = omega arith in
      let q₂ : behind ≡ next + length (new ++ k) = omega arith in
      let is : shifted from back middle used (new ++ k) turned ≡ spliced from to kept until used new s =
      whole-is k (kept-two three front) in
      let size : length (shifted from back middle used (new ++ k) turned) ≡ all =
      shifted-length z n from back middle used next behind all stop blank (new ++ k) turned pre₂ turned-known q₁ q₂ p₄ far in
      parts_shifted z n from back middle used next behind all stop blank (new ++ k) turned pre₂ turned-known q₁ q₂ p₄ far one two four last o₁ o₂ o₄ e₅
      ∙ rw (← size, is)
