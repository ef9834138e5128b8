-- Bytes moved to the front at once, and what a copy leaves of an output, as the definition says it.
use Rattle.std.proofs.Common.{◌≡◌, ℕ, ◌+◌, ◌-◌, ◌≤◌, List, ◌++◌, length, take, drop, ap, ◌∙◌, zero-add, arith, length-drop, length-take-le, take-take, take-add, drop_at}
use lib.Seq.{take-length}
use Rattle.frame_parser_rules.specs.Framer.{moved_to_front}

-- what lies between two places, taken either way
pub between : (entry : List ℕ) (first end : ℕ) → first ≤ end → end ≤ length entry → drop first (take end entry) ≡ take (end - first) (drop first entry)
between entry first end order within =
    let sum : end ≡ first + (end - first) = omega arith in
    ap (λ (k : ℕ). drop first (take k entry)) sum
    ∙ rw (take-add first (end - first) entry)
    (drop_at (take first entry) (take (end - first) (drop first entry)) first (length-take-le first entry (omega arith)))

pub moved_all : (entry : List ℕ) (first end : ℕ) → first ≤ end → end ≤ length entry
    → take (end - first) (drop first entry) ++ drop (0 + (end - first)) entry ≡ moved_to_front (drop first (take end entry)) entry
unfolding moved_to_front
moved_all entry first end order within =
    rw (between entry first end order within, length-take-le (end - first) (drop first entry) (omega (arith, length-drop first entry)), zero-add)

-- what the kit's `copy` leaves of an output
pub copied_front : (store output : List ℕ) (n used : ℕ) → n ≤ used → n ≤ length store → take (length (take n store)) (take n store) ++ drop (length (take n store)) output ≡ moved_to_front (take n (take used store)) output
unfolding moved_to_front
copied_front store output n used order within = rw (take-take n used store order, take-length)
