-- What stays where nothing is moved, what copies leave, and the hunt from a place, as the loop of `hunt` meets it.
use Rattle.std.proofs.Common.{◌≡◌, ℕ, suc, ◌+◌, ◌-◌, ◌<◌, ◌≤◌, Bool, List, [], ◌∷◌, ◌++◌, length, get_or, take, drop, sym, ap, ◌∙◌, append-nil, add-one, arith, length-drop, take-append-drop, drop_of_length-le, length-take-le, drop-cons, drop-drop}
use lib.Seq.{take-length}
use Rattle.field_rules.proofs.FindLaws.{rest_part}
use Rattle.frame_hunter_rules.specs.Hunt.{act_on, hunt_from}
use Rattle.frame_hunter_rules.proofs.TakeLaws.{first-none, first_hand, first_pass, first-stop}
use Rattle.frame_verdict_rules.specs.declared.Verdict.{Verdict}
use Rattle.frame_hunter_rules.specs.declared.Act.TheVariants.{Hand, Pass, Stop}
use Rattle.frame_hunter_rules.specs.declared.Hunted.{Hunted}

-- ---- keep

-- nothing is moved where the bytes stand at the front already
pub at_front : (s : List ℕ) (from to : ℕ) → from ≡ 0 → s ≡ take (to - from) (drop from s) ++ drop (to - from) s
at_front s from to e = rw e (sym (take-append-drop (to - 0) s))

-- ---- push and take

-- a chunk that was copied into the part of the store behind the bytes held
pub put-behind : (store chunk part : List ℕ) (used : ℕ) → part ≡ take (length chunk) chunk ++ drop (length chunk) (take (length store - used) (drop used store)) →
    take used store ++ (part ++ drop (length store - used) (drop used store)) ≡ take used store ++ (chunk ++ drop (used + length chunk) store)
put-behind store chunk part used e =
    let z : drop (length store - used) (drop used store) ≡ [] = drop_of_length-le (drop used store) {i = length store - used} (omega (arith, length-drop used store)) in
    let q : part ≡ chunk ++ drop (used + length chunk) store = rw (take-length chunk, rest_part store used, drop-drop (length chunk) used store) at e in
    ap (λ (x : List ℕ). take used store ++ (part ++ x)) z ∙ ap (λ (x : List ℕ). take used store ++ x) (append-nil part ∙ q)

-- a part of n bytes that was copied to the front of the output
pub part_length : (store : List ℕ) (k n : ℕ) → k + n ≤ length store → length (take (k + n - k) (drop k store)) ≡ n
part_length store k n h = let m : k + n - k ≡ n = omega arith in rw m (length-take-le n (drop k store) (omega (arith, length-drop k store)))

pub put_first : (store output out' : List ℕ) (k n : ℕ) → k + n ≤ length store →
    out' ≡ take (length (take (k + n - k) (drop k store))) (take (k + n - k) (drop k store)) ++ drop (length (take (k + n - k) (drop k store))) output → out' ≡ take n (drop k store) ++ drop n output
put_first store output out' k n h e = let m : k + n - k ≡ n = omega arith in rw (take-length, part_length store k n h, m) at e

-- ---- hunt

-- a hunt that went on after it passed i places
unfoldable pub behind : ℕ → Hunted → Hunted
behind i h = record { passed = i + h.passed; length = h.length }

hunted_at : (i k n : ℕ) → i ≡ k → ◌≡◌ {A = Hunted} (record { passed = i; length = n }) (record { passed = k; length = n })
hunted_at i k n e = rw e

module _ (judge : List ℕ → Verdict) (e : Bool) (s : List ℕ) (i : ℕ) where
  pub hunt_start : hunt_from judge e s ≡ behind 0 (hunt_from judge e s)
  unfolding behind
  hunt_start = hunted_at _ _ _ (omega arith)

  pub hunt_hand : (n : ℕ) → i < length s → act_on e (judge (drop i s)) ≡ Hand n → behind i (hunt_from judge e (drop i s)) ≡ record { passed = i; length = n }
  unfolding behind
  hunt_hand n h p = let q : act_on e (judge (get_or s i 0 ∷ drop (suc i) s)) ≡ Hand n = rw (drop-cons s i 0 h) at p in
      rw (drop-cons s i 0 h, first_hand judge e _ _ n q) (hunted_at _ _ n (omega arith))

  pub hunt_stop : i < length s → act_on e (judge (drop i s)) ≡ Stop → behind i (hunt_from judge e (drop i s)) ≡ record { passed = i; length = 0 }
  unfolding behind
  hunt_stop h p = let q : act_on e (judge (get_or s i 0 ∷ drop (suc i) s)) ≡ Stop = rw (drop-cons s i 0 h) at p in
      rw (drop-cons s i 0 h, first-stop judge e _ _ q) (hunted_at _ _ 0 (omega arith))

  pub hunt_pass : i < length s → act_on e (judge (drop i s)) ≡ Pass → behind i (hunt_from judge e (drop i s)) ≡ behind (i + 1) (hunt_from judge e (drop (i + 1) s))
  unfolding behind
  hunt_pass h p = let q : act_on e (judge (get_or s i 0 ∷ drop (suc i) s)) ≡ Pass = rw (drop-cons s i 0 h) at p in
      rw (add-one, drop-cons s i 0 h, first_pass judge e _ _ q) (hunted_at _ _ _ (omega arith))

  pub hunt_end : length s ≤ i → behind i (hunt_from judge e (drop i s)) ≡ record { passed = i; length = 0 }
  unfolding behind
  hunt_end h = rw (drop_of_length-le s h, first-none judge e) (hunted_at _ _ 0 (omega arith))
