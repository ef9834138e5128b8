-- 22: "separator `=` or a digit". Such a byte cannot end a value, as it may stand in a tag's text or end it; building and encoding
-- both refuse it by this definition. One law for each way that the code goes.
use Rattle.std.specs.Prelude.{◌≡◌, Bool, true, false, ℕ, ◌≤◌, ◌<◌, eqb, leb}
use borrow.Author.Tests.{eq-eqb, ne_eqb, lt-leb, le-leb}
use Rattle.field_rules.specs.Choice.{pick}
use Rattle.field_rules.specs.Number.{is_digit}

unfoldable pub is_refused_separator : ℕ → Bool
is_refused_separator separator = pick (eqb separator 61) true (is_digit separator)

module _ (separator : ℕ) where
  pub separator-equals : separator ≡ 61 → is_refused_separator separator ≡ true
  unfolding is_refused_separator
  separator-equals e = rw (eq-eqb separator 61 e)

  pub separator-low : (separator ≡ 61 → ⊥) → separator < 48 → is_refused_separator separator ≡ false
  unfolding is_refused_separator is_digit
  separator-low e h = rw (ne_eqb separator 61 e, lt-leb 48 separator h)

  pub separator_digit : (separator ≡ 61 → ⊥) → 48 ≤ separator → is_refused_separator separator ≡ leb separator 57
  unfolding is_refused_separator is_digit
  separator_digit e h = rw (ne_eqb separator 61 e, le-leb 48 separator h)
