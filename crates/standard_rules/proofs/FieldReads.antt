-- The reader against the standard, as far as one field goes: a field of the standard is read with its tag and value.
-- Its text has the digits, the `=` and the delimiter just where reading looks for them.
use Rattle.std.specs.Prelude.{◌≡◌, refl, true, List, [], ◌∷◌, ◌++◌, ◌≢◌, ℕ, ◌+◌, ◌*◌, ◌-◌, ◌≤◌, length, drop}
use Rattle.std.proofs.Common.{ap, ◌∙◌, arith, le-leb, Some, Ok}
use Rattle.std.proofs.Math.Seq.{drop-append_seam}
use Rattle.field_rules.specs.Number.{is_digit, all_digits, worth, number_in, tag_of}
use Rattle.field_rules.proofs.NumberLaws.{worth-least, number_good, tag_good}
use Rattle.field_rules.proofs.FindLaws.{Absent}
use Rattle.field_rules.proofs.FindLaws as find
use Rattle.field_rules.specs.Field.{separated_by, start_at, field_at, value_of}
use Rattle.field_rules.proofs.FieldTextLaws.{Spelled, spelt, spelled-read, bytes-size}
use Rattle.field_rules.proofs.FieldsLaws.{step_value}
use Rattle.standard_rules.specs.Standard as standard
use Rattle.standard_rules.specs.Standard.{All, Digit, SOH}
use Rattle.field_rules.specs.declared.Mode.{Mode}
use Rattle.field_rules.specs.declared.Cursor.{Cursor}
use Rattle.field_rules.specs.declared.Field.{Field}

pub digits_all : (text : List ℕ) → All Digit text → all_digits text ≡ true
unfolding all_digits is_digit
digits_all [] All.none = refl
digits_all (x ∷ text) (All.also d a) = rw (le-leb _ _ d.0, le-leb _ _ d.1) (digits_all text a)

pub worth-same : (n : ℕ) (text : List ℕ) → worth n text ≡ standard.worth_after n text
unfolding worth
worth-same n [] = refl
worth-same n (d ∷ text) = worth-same (n * 10 + (d - 48)) text

pub absent_all : {b : ℕ} {P : ℕ → Type 0} (s : List ℕ) → ((x : ℕ) → P x → x ≢ b) → All P s → Absent b s
absent_all [] h All.none = find.none
absent_all (x ∷ s) h (All.also p a) = find.also (h x p) (absent_all s h a)

-- an int of the standard is a number of the rules, where it is not too large
pub int_read : (text : List ℕ) (n : ℕ) → standard.Int text n → n ≤ 4294967295 → number_in text ≡ Some n
int_read text n i h = number_good text n (λ e. omega (arith, i.some)) (digits_all text i.digits) (worth-same 0 text ∙ i.worth) h

not_nothing : (d : ℕ) (ds : List ℕ) → d ≢ 48 → All Digit (d ∷ ds) → 1 ≤ standard.worth_after 0 (d ∷ ds)
not_nothing d ds n (All.also digit a) =
    let first : (d ≡ 48) → ⊥ = n in
    omega (arith, digit.0, worth-least ds (0 * 10 + (d - 48)), worth-same (0 * 10 + (d - 48)) ds)

-- a tag number of the standard is a tag of the rules, where it is not too large
pub tag_read : (text : List ℕ) (tag : ℕ) → standard.TagNum text tag → tag ≤ 4294967295 → tag_of text ≡ Some tag
tag_read text tag t h =
    tag_good text tag (int_read text tag t.int h)
    (λ e. omega (
      arith,
      t.int.worth,
      not_nothing t.highest t.others t.no_leading_zero (rw t.starts at t.int.digits),
      ap (standard.worth_after 0) t.starts,
    ))

-- a field that was read at a place, with its tag, its value and where it ends
pub record ReadAs (mode : Mode) (message : List ℕ) (at tag : ℕ) (value : List ℕ) (next : ℕ) : Type 0 where
  pub got : Field
  pub reads : field_at mode message (start_at at) ≡ Ok got
  pub starts : got.first ≡ at
  pub tag_is : got.tag ≡ tag
  pub value_is : value_of message got ≡ value
  pub next_is : got.next ≡ start_at next

-- THE STANDARD, one field: wherever it stands in a message, a field of the standard is read with its tag and value, and reading goes
-- on right behind it. The standard sets no limit to tags; the rules do.
pub standard_field : (tag : ℕ) (value bytes before rest : List ℕ) → standard.Field tag value bytes → tag ≤ 4294967295
    → ReadAs (separated_by SOH) (before ++ (bytes ++ rest)) (length before) tag value (length before + length bytes)
unfolding field_at
standard_field tag value bytes before rest s h =
    let text : List ℕ = s.text in
    let f : Field = spelt (length before) tag text value in
    let c : Cursor = start_at (length before) in
    let message : List ℕ = before ++ (bytes ++ rest) in
    let here : drop (length before) message ≡ bytes ++ rest = drop-append_seam before (bytes ++ rest) in
    let w : Spelled (separated_by SOH) (length before) (drop (length before) message) f = record {
      text = text;
      value = value;
      rest = rest;
      whole = here ∙ ap (λ (l : List ℕ). l ++ rest) s.whole;
      is_tag = tag_read text tag s.is_tag h;
      no_equals-before = absent_all text (λ x d e. omega (arith, d)) s.is_tag.int.digits;
      no_separator-before = absent_all value (λ x d. d) s.is_value.plain;
      is = refl;
    } in
    record {
      got = f;
      reads = spelled-read (separated_by SOH) (length before) (drop (length before) message) f w;
      starts = refl;
      tag_is = refl;
      value_is = step_value (separated_by SOH) message c f w;
      next_is = ap (λ (n : ℕ). start_at n) (omega (arith, ap length s.whole, bytes-size SOH text value));
    }
