-- A part of a list moved within the list, or a part cleared, one place a turn. A record says what holds at each turn, with laws for
-- its start, a turn and its end. Moving down goes forward and moving up backward, so that what is still to be moved is as it was.
use Rattle.std.specs.Prelude.{◌≡◌, refl, List, [], ◌∷◌, ◌++◌, ℕ, suc, ◌+◌, ◌-◌, ◌≤◌, ◌<◌, length, get_or, take, drop, set, replicate}
use Rattle.std.proofs.Common.{sym, ap, ◌∙◌, append_assoc, arith, add-one, add-zero, length-set, take-append-drop, take-suc}
use Rattle.std.proofs.Common.{drop-cons, drop-drop, length-take-le, get_or-append-add, get_or-take, get_or-drop}
use Rattle.std.proofs.lemmas.List.{length-replicate, get_or-replicate, set_at}
use Rattle.std.proofs.Math.ListN.{get_or-append}
use Rattle.std.proofs.Math.Seq.{paste, paste-zero, paste-suc, take-length, drop-length, length_paste_head}
use Rattle.field_rules.specs.Decimal.{written_at}
use Rattle.field_rules.proofs.DecimalLaws.{written_fits}
use Rattle.message_maps.specs.Rows.{part}
use Rattle.message_maps.specs.RowsLaws.{part_length}

-- the first `i` of `s` are written at `at`, forward
pub record Forward (at : ℕ) (s entry : List ℕ) (i : ℕ) (now : List ℕ) : Type 0 where
  pub reach : i ≤ length s
  pub is : now ≡ paste entry at s i
  pub whole : length now ≡ length entry

-- all of `s` but the first `left` are written at `at`, backward
pub record Backward (at : ℕ) (s entry : List ℕ) (left : ℕ) (now : List ℕ) : Type 0 where
  pub reach : left ≤ length s
  pub is : now ≡ take (at + left) entry ++ (drop left s ++ drop (at + length s) entry)
  pub whole : length now ≡ length entry

module _ (at : ℕ) (s entry : List ℕ) where
  pub forward_start : Forward at s entry 0 entry
  forward_start = record { reach = omega arith; is = paste-zero entry at s; whole = refl }

  module _ (room : at + length s ≤ length entry) where
    forward_on : (i v : ℕ) (now : List ℕ) → Forward at s entry i now → i < length s → v ≡ get_or s i 0 → Forward at s entry (i + 1) (set now (at + i) v)
    forward_on i v now f h e =
        record { reach = omega arith; is = rw (f.is, e, add-one) (paste-suc entry at s i 0 (omega arith) h); whole = simp length-set f.whole }

    forward_done : (i : ℕ) (now : List ℕ) → Forward at s entry i now → length s ≤ i → now ≡ written_at at s entry
    forward_done i now f h =
        let e : i ≡ length s = omega (arith, f.reach) in
        f.is ∙ rw (e, take-length s, append_assoc) (sym (written_fits at s entry room))

    backward_start : (left : ℕ) → left ≡ length s → Backward at s entry left entry
    backward_start left e =
        record { reach = omega arith; is = rw (e, drop-length s) (sym (take-append-drop (at + length s) entry)); whole = refl }

    backward_on : (left v : ℕ) (now : List ℕ) → Backward at s entry left now → 0 < left → v ≡ get_or s (left - 1) 0
        → Backward at s entry (left - 1) (set now (at + (left - 1)) v)
    backward_on left v now b h e =
        let place : ℕ = at + (left - 1) in
        let more : List ℕ = drop left s ++ drop (at + length s) entry in
        let l : at + left ≡ suc place = omega arith in
        let k : suc (left - 1) ≡ left = omega arith in
        let last : take (at + left) entry ≡ take place entry ++ (get_or entry place 0 ∷ []) = rw l (take-suc entry place 0 (omega (arith, b.reach))) in
        let first : drop (left - 1) s ≡ v ∷ drop left s = drop-cons s (left - 1) 0 (omega (arith, b.reach)) ∙ rw (k, e) in
        record {
          reach = omega (arith, b.reach);
          is =
              ap (λ (t : List ℕ). set t place v) (b.is ∙ ap (λ (t : List ℕ). t ++ more) last ∙ append_assoc (take place entry) (get_or entry place 0 ∷ []) more)
              ∙ set_at (take place entry) (get_or entry place 0) more v place (length-take-le place entry (omega (arith, b.reach)))
              ∙ ap (λ (t : List ℕ). take place entry ++ (t ++ drop (at + length s) entry)) (sym first);
          whole = simp length-set b.whole;
        }

    backward_done : (left : ℕ) (now : List ℕ) → Backward at s entry left now → left ≤ 0 → now ≡ written_at at s entry
    backward_done left now b h =
        let e : left ≡ 0 = omega arith in
        b.is ∙ rw (e, add-zero) (sym (written_fits at s entry room))

-- a part moved within its list: what a turn reads lies past what is written by then, or, moving up, in front of it
module _ (from to at : ℕ) (entry : List ℕ) (order : from ≤ to) (inside : to ≤ length entry) (room : at + (to - from) ≤ length entry) where
  size : length (part from to entry) ≡ to - from
  size = part_length from to entry order inside

  part_at : (i : ℕ) → i < to - from → get_or (part from to entry) i 0 ≡ get_or entry (from + i) 0
  unfolding part
  part_at i h = rw (get_or-take (to - from) (drop from entry) i 0 h, get_or-drop)

  pub down_on : at ≤ from → (i : ℕ) (now : List ℕ) → Forward at (part from to entry) entry i now → i < to - from
      → Forward at (part from to entry) entry (i + 1) (set now (at + i) (get_or now (from + i) 0))
  down_on below i now f h =
      let s : List ℕ = part from to entry in
      let written : List ℕ = take at entry ++ take i s in
      let n : length written ≡ at + i = length_paste_head entry at s i (omega arith) f.reach in
      let here : from + i ≡ length written + (from - at) = omega arith in
      let there : at + i + (from - at) ≡ from + i = omega arith in
      let reads : get_or now (from + i) 0 ≡ get_or s i 0 =
      rw (f.is, here, get_or-append-add written (drop (at + i) entry) (from - at) 0, get_or-drop, there) (sym (part_at i h)) in
      forward_on at s entry (omega (arith, size)) i _ now f (omega (arith, size)) reads

  pub down_done : (i : ℕ) (now : List ℕ) → Forward at (part from to entry) entry i now → to - from ≤ i → now ≡ written_at at (part from to entry) entry
  down_done i now f h = forward_done at _ entry (omega (arith, size)) i now f (omega (arith, size))

  pub up_start : Backward at (part from to entry) entry (to - from) entry
  up_start = backward_start at _ entry (omega (arith, size)) (to - from) (sym size)

  pub up_on : from ≤ at → (left : ℕ) (now : List ℕ) → Backward at (part from to entry) entry left now → 0 < left
      → Backward at (part from to entry) entry (left - 1) (set now (at + (left - 1)) (get_or now (from + (left - 1)) 0))
  up_on above left now b h =
      let s : List ℕ = part from to entry in
      let bound : left ≤ to - from = omega (arith, b.reach, size) in
      let n : length (take (at + left) entry) ≡ at + left = length-take-le (at + left) entry (omega arith) in
      let reads : get_or now (from + (left - 1)) 0 ≡ get_or s (left - 1) 0 =
      rw (
        b.is,
        get_or-append (take (at + left) entry) (drop left s ++ drop (at + length s) entry) 0 (from + (left - 1)) (omega arith),
        get_or-take (at + left) entry (from + (left - 1)) 0 (omega arith),
      )
      (sym (part_at (left - 1) (omega arith))) in
      backward_on at s entry (omega (arith, size)) left _ now b h reads

  pub up_done : (left : ℕ) (now : List ℕ) → Backward at (part from to entry) entry left now → left ≤ 0 → now ≡ written_at at (part from to entry) entry
  up_done left now b h = backward_done at _ entry (omega (arith, size)) left now b h

-- moved to where it stands, it stays
pub move_none : (from to at : ℕ) (entry : List ℕ) → from ≤ to → to ≤ length entry → at ≡ from → entry ≡ written_at at (part from to entry) entry
unfolding part
move_none from to at entry order inside here =
    let n : length (take (to - from) (drop from entry)) ≡ to - from = part_length from to entry order inside in
    rw here
    (sym
    (written_fits from (take (to - from) (drop from entry)) entry (omega arith)
    ∙ rw (n, ← drop-drop (to - from) from entry, take-append-drop, take-append-drop)))

-- zeros written over a part
module _ (from to : ℕ) (entry : List ℕ) (order : from ≤ to) (inside : to ≤ length entry) where
  zeros : length (replicate {A = ℕ} (to - from) 0) ≡ to - from
  zeros = length-replicate {A = ℕ} (to - from) 0

  pub clear_on : (i : ℕ) (now : List ℕ) → Forward from (replicate (to - from) 0) entry i now → i < to - from
      → Forward from (replicate (to - from) 0) entry (i + 1) (set now (from + i) 0)
  clear_on i now f h = forward_on from _ entry (omega (arith, zeros)) i 0 now f (omega (arith, zeros)) (sym (get_or-replicate (to - from) i 0 0 h))

  pub clear_done : (i : ℕ) (now : List ℕ) → Forward from (replicate (to - from) 0) entry i now → to - from ≤ i
      → now ≡ written_at from (replicate (to - from) 0) entry
  clear_done i now f h = forward_done from _ entry (omega (arith, zeros)) i now f (omega (arith, zeros))
