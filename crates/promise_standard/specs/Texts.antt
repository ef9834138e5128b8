-- Texts of the standard and texts of the rules: the same digits, the same sums, one text for a tag number.
use Rattle.std.specs.Prelude.{◌≡◌, refl, Bool, true, false, List, [], ◌∷◌, ◌++◌, ◌≢◌, ℕ, ◌+◌, ◌≤◌, length, get_or, leb}
use Rattle.std.proofs.Common.{sym, ap, ◌∙◌, arith}
use Rattle.field_rules.specs.Number.{all_digits, worth}
use Rattle.field_rules.specs.CheckSum.{sum_of}
use Rattle.field_rules.specs.Decimal.{decimal}
use Rattle.field_rules.proofs.DecimalLaws.{decimal_unique, all_digits-first}
use Rattle.standard_rules.specs.Standard as standard
use Rattle.standard_rules.specs.Standard.{All, Digit, NotDelimiter, TagNum, Int, Value, total}
use Rattle.standard_rules.proofs.FieldReads.{digits_all, worth-same}

pub sum_same : (s : List ℕ) → sum_of s ≡ total s
unfolding sum_of
sum_same [] = refl
sum_same (x ∷ s) = ap (λ (n : ℕ). x + n) (sum_same s)

-- a tag number has one text: its digits
pub tag-text : (text : List ℕ) (tag : ℕ) → TagNum text tag → text ≡ decimal tag
tag-text text tag t =
    decimal_unique text tag t.int.some (digits_all text t.int.digits)
    (λ e. t.no_leading_zero (sym (ap (λ (l : List ℕ). get_or l 0 0) t.starts) ∙ e))
    (worth-same 0 text ∙ t.int.worth)

pub all_digits_lem : (text : List ℕ) → all_digits text ≡ true → All Digit text
all_digits_lem [] h = All.none
all_digits_lem (x ∷ text) h = let f = all_digits-first x text h in All.also (f.0, f.1) (all_digits_lem text f.2)

-- digits are an int of the standard
pub digits_int : (text : List ℕ) (n : ℕ) → 1 ≤ length text → all_digits text ≡ true → worth 0 text ≡ n → Int text n
digits_int text n some digits w = record { some = some; digits = all_digits_lem text digits; worth = sym (worth-same 0 text) ∙ w }

-- a digit is no delimiter, so an int is a value
not_delimiter : (x : ℕ) → 48 ≤ x → x ≢ 1
not_delimiter x l e = omega arith

pub digits_plain : (text : List ℕ) → All Digit text → All NotDelimiter text
digits_plain [] All.none = All.none
digits_plain (x ∷ text) (All.also d a) = All.also (not_delimiter x d.0) (digits_plain text a)

pub int_value : (text : List ℕ) (n : ℕ) → Int text n → Value text
int_value text n i = record { some = i.some; plain = digits_plain text i.digits }
