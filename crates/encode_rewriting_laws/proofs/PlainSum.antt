-- The last seven bytes of a message whose CheckSum has three digits: they are `10=`, the digits of the sum of all before, and the
-- separator, since no other tag text worth 10 leaves room for the digits.
use Rattle.std.specs.Prelude.{◌≡◌, refl, Bool, true, false, List, [], ◌∷◌, ◌++◌, ℕ, suc, ◌+◌, ◌-◌, ◌/◌, ◌%◌, ◌≤◌, get_or, take, drop, eqb}
use Rattle.std.proofs.Common.{sym, ◌∙◌, append-nil, arith, length-append, length-drop, get_or-drop, Some, Ok}
use Rattle.std.proofs.Math.Path.{ap}
use Rattle.std.proofs.Math.ListN.{length}
use borrow.Author.Tests.{eqb-true}
use Rattle.field_rules.specs.declared.Mode.{Mode}
use Rattle.field_rules.specs.Choice.{pick}
use Rattle.field_rules.specs.CheckSum.{sum_of, checksum_of, checksum_digits}
use Rattle.field_rules.specs.Number.{is_digit, all_digits, worth}
use Rattle.field_rules.proofs.NumberLaws.{number_good, checksum_three}
use Rattle.field_rules.proofs.DecimalLaws.{all_digits-first}
use Rattle.field_rules.specs.Field.{start_at, field_at, field_bytes, value_of}
use Rattle.field_rules.proofs.FieldTextLaws.{bytes-size}
use Rattle.field_rules.proofs.FieldsLaws.{step-lies}
use Rattle.field_rules.specs.declared.Field.{Field}
use Rattle.build_integrity_rules.specs.Integrity.{sum_agrees}
use Rattle.build_integrity_rules.proofs.IntegrityLaws.{sum_is_lem}
use Rattle.encode_rules.specs.Encoding.{sum_digits}
use Rattle.encode_rewriting_laws.specs.Plain.{three_digits}
use Rattle.encode_rewriting_laws.proofs.PlainLaws.{Digits, tag-text}
use Rattle.field_rules.proofs.SpelledLaws.{spells, value_is, value_stands, value_size}

-- three digits are those of the number that they are worth
record Three (s : List ℕ) (n : ℕ) : Type 0 where
  digits : s ≡ checksum_digits n
  small : n ≤ 4294967295

three_worth : (s : List ℕ) (n : ℕ) → length s ≡ 3 → all_digits s ≡ true → worth 0 s ≡ n → Three s n
unfolding worth checksum_digits
three_worth [] n three digits w = absurd (omega (arith, three))
three_worth (x ∷ []) n three digits w = absurd (omega (arith, three))
three_worth (x ∷ y ∷ []) n three digits w = absurd (omega (arith, three))
three_worth (x ∷ y ∷ z ∷ []) n three digits w =
    let (x-low, x-high, after) = all_digits-first x (y ∷ z ∷ []) digits in
    let (y-low, y-high, last) = all_digits-first y (z ∷ []) after in
    let (z-low, z-high, end) = all_digits-first z [] last in
    let x-is : x ≡ 48 + n / 100 = omega (arith, w) in
    let y-is : y ≡ 48 + n / 10 % 10 = omega (arith, w) in
    let z-is : z ≡ 48 + n % 10 = omega (arith, w) in
    record { digits = cc; small = omega (arith, w) }
three_worth (x ∷ y ∷ z ∷ u ∷ s) n three digits w = absurd (omega (arith, three))

-- two bytes at the most that are worth 10
ten_text : (text : List ℕ) → Digits text 10 → length text ≤ 2 → text ≡ 49 ∷ 48 ∷ []
unfolding worth
ten_text [] d few = absurd (omega (arith, d.some))
ten_text (x ∷ []) d few =
    let first = all_digits-first x [] d.digits in
    absurd (omega (arith, first.0, first.1, d.worths))
ten_text (x ∷ y ∷ []) d few =
    let first = all_digits-first x (y ∷ []) d.digits in
    let second = all_digits-first y [] first.2 in
    let x-is : x ≡ 49 = omega (arith, d.worths, first.0, first.1, second.0, second.1) in
    let y-is : y ≡ 48 = omega (arith, d.worths, first.0, first.1, second.0, second.1) in
    cc
ten_text (x ∷ y ∷ z ∷ text) d few = absurd (omega (arith, few))

three_bytes : (v rest : List ℕ) → length v ≡ 3 → is_digit (get_or (v ++ rest) 0 0) ≡ true → is_digit (get_or (v ++ rest) 1 0) ≡ true
    → is_digit (get_or (v ++ rest) 2 0) ≡ true → all_digits v ≡ true
unfolding all_digits
three_bytes [] rest three a b c = absurd (omega (arith, three))
three_bytes (x ∷ []) rest three a b c = absurd (omega (arith, three))
three_bytes (x ∷ y ∷ []) rest three a b c = absurd (omega (arith, three))
three_bytes (x ∷ y ∷ z ∷ []) rest three a b c = rw (a, b, c)
three_bytes (x ∷ y ∷ z ∷ u ∷ v) rest three a b c = absurd (omega (arith, three))

all_three : (a b c : Bool) → pick a (pick b c false) false ≡ true → (a ≡ true) × (b ≡ true) × (c ≡ true)
all_three true true true e = (refl, refl, refl)
all_three true true false e = let z : ◌≡◌ {A = ℕ} 0 1 = cc in absurd (omega arith)
all_three true false c e = let z : ◌≡◌ {A = ℕ} 0 1 = cc in absurd (omega arith)
all_three false b c e = let z : ◌≡◌ {A = ℕ} 0 1 = cc in absurd (omega arith)

-- "three digits", of a field whose value stands before other bytes
three_digits_lem : (message : List ℕ) (f : Field) (value rest : List ℕ) → drop f.place message ≡ value ++ rest → length value ≡ f.length
    → three_digits message f ≡ true → (length value ≡ 3) × (all_digits value ≡ true)
unfolding three_digits
three_digits_lem message f value rest stands size three = by_size (eqb f.length 3) refl three
  where
    byte : (place i : ℕ) → place ≡ f.place + i → get_or message place 0 ≡ get_or (value ++ rest) i 0
    byte place i at = ap (λ (n : ℕ). get_or message n 0) at ∙ sym (get_or-drop f.place message i 0) ∙ ap (λ (l : List ℕ). get_or l i 0) stands

    digit : (place i : ℕ) → place ≡ f.place + i → is_digit (get_or message place 0) ≡ true → is_digit (get_or (value ++ rest) i 0) ≡ true
    digit place i at is = ap is_digit (sym (byte place i at)) ∙ is

    by_size : (b : Bool) → eqb f.length 3 ≡ b
        → pick b (pick (is_digit (get_or message f.place 0))
        (pick (is_digit (get_or message (suc f.place) 0)) (is_digit (get_or message (suc (suc f.place)) 0)) false) false) false ≡ true
        → (length value ≡ 3) × (all_digits value ≡ true)
    by_size true is e =
        let all =
        all_three (is_digit (get_or message f.place 0)) (is_digit (get_or message (suc f.place) 0)) (is_digit (get_or message (suc (suc f.place)) 0)) e in
        let three : length value ≡ 3 = size ∙ eqb-true f.length 3 is in (
          three,
          three_bytes value rest three (digit f.place 0 (omega arith) all.0) (digit (suc f.place) 1 (omega arith) all.1)
              (digit (suc (suc f.place)) 2 (omega arith) all.2),
        )
    by_size false is e = let z : ◌≡◌ {A = ℕ} 0 1 = cc in absurd (omega arith)

no_bytes : (s : List ℕ) → length s ≡ 0 → s ≡ []
no_bytes [] e = refl
no_bytes (x ∷ s) e = absurd (omega (arith, e))

-- three digits are compared
three_reads : (s : List ℕ) → length s ≡ 3 → all_digits s ≡ true → checksum_of s ≡ Some (worth 0 s)
three_reads s three digits =
    checksum_three s three ∙ number_good s (worth 0 s) (λ e. omega (arith, e, three)) digits refl (three_worth s (worth 0 s) three digits refl).small

module _ (mode : Mode) (message : List ℕ) (f : Field) (long : 7 ≤ length message) (read : field_at mode message (start_at (length message - 7)) ≡ Ok f)
    (ten : f.tag ≡ 10) (right : sum_agrees message f ≡ true)
    (three : three_digits message f ≡ true) where
  -- the value is the sum's digits
  sum_value : value_of message f ≡ sum_digits (take (length message - 7) message)
  unfolding sum_digits
  sum_value =
      let value = value_of message f in
      let digits = three_digits_lem message f value _ (value_stands mode message _ f read) (value_size mode message _ f read) three in
      let same : worth 0 value ≡ sum_of (take f.first message) % 256 =
      eqb-true _ _ (sym (sum_is_lem message f (worth 0 value) (three_reads value digits.0 digits.1)) ∙ right) in
      let first : f.first ≡ length message - 7 = (step-lies mode message _ f read).starts in
      (three_worth value (worth 0 value) digits.0 digits.1 refl).digits ∙ ap checksum_digits (same ∙ ap (λ (n : ℕ). sum_of (take n message) % 256) first)

  pub last_seven : drop (length message - 7) message ≡ 49 ∷ 48 ∷ 61 ∷ (sum_digits (take (length message - 7) message) ++ (mode.separator ∷ []))
  last_seven =
      let w = spells mode message (start_at (length message - 7)) f read in
      let digits = three_digits_lem message f (value_of message f) _ (value_stands mode message _ f read) (value_size mode message _ f read) three in
      let value = value_is mode message (start_at (length message - 7)) f read in
      let size : 7 ≡ length w.text + 1 + length w.value + 1 + length w.rest =
      omega (
        arith,
        long,
        length-drop (length message - 7) message,
        ap length w.whole,
        length-append (field_bytes mode.separator w.text w.value) w.rest,
        bytes-size mode.separator w.text w.value,
      ) in
      let text : Digits w.text 10 = (tag-text w.text 10 (w.is_tag ∙ ap Some ten)).digits in
      let text_is : w.text ≡ 49 ∷ 48 ∷ [] = ten_text w.text text (omega (arith, size, digits.0, ap length value)) in
      let none : w.rest ≡ [] = no_bytes w.rest (omega (arith, size, digits.0, ap length value, ap length text_is)) in
      w.whole
      ∙ ap (λ (l : List ℕ). field_bytes mode.separator w.text w.value ++ l) none
      ∙ append-nil (field_bytes mode.separator w.text w.value)
      ∙ ap (λ (l : List ℕ). field_bytes mode.separator l w.value) text_is
      ∙ ap (λ (l : List ℕ). field_bytes mode.separator (49 ∷ 48 ∷ []) l) (sym value ∙ sum_value)
