-- Digits from the highest down: a number is kept as a fraction with a point behind the first digit that is ahead, in parts of 2 ^ 32.
-- Its whole part is that digit, and ten times what stands behind the point is the fraction for the next one.
use Rattle.std.specs.Prelude.{ℕ, ◌+◌, ◌*◌, ◌^◌, ◌<◌, ◌≤◌}

-- what one is in such a fraction
abbrev pub one : ℕ
one = 4294967296

-- `left` digits are ahead, those of `rest`, with zeros before them where it has fewer: the fraction is rest / 10 ^ (left - 1), rounded up by
-- less than one in the last digit is worth. It is said ten times as large, so that it has a meaning where no digit is ahead.
pub record Ahead (rest left fraction : ℕ) : Type 0 where
  pub digits : rest < 10 ^ left
  pub low : 10 * one * rest ≤ fraction * 10 ^ left
  pub high : fraction * 10 ^ left < 10 * one * (rest + 1)
