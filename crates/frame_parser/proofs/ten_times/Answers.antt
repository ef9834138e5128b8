-- `ten_times` meets its contract: twice, four times and eight times the number, each wrapped, and then the eightfold and the twofold.
-- Wrapping on the way changes nothing.
use Rattle.std.proofs.Common.{◌≡◌, ℕ, ◌+◌, ◌*◌, ◌%◌, ◌^◌, refl, ap, ◌∙◌, arith}
use native.Mathlib.Nat.{mod-add-mod, add-mod-mod}
use Rattle.frame_parser.proofs.ten_times.Goals as goal

tenfold : (n two four eight ten : ℕ) → two ≡ (n + n) % 2 ^ 64 → four ≡ (two + two) % 2 ^ 64 → eight ≡ (four + four) % 2 ^ 64
    → ten ≡ (eight + two) % 2 ^ 64 → ten ≡ n * 10 % 2 ^ 64
tenfold n two four eight ten a b c d = d ∙ rw (c, b, a) (simp (mod-add-mod, add-mod-mod) (ap (λ (k : ℕ). k % 2 ^ 64) (omega arith)))

pub returns : goal.returns
returns c = tenfold c.args.n _ _ _ _ refl refl refl refl
