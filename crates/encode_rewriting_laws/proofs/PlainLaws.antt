-- What plain says of a text: digits without leading zeros are the digits of the number that they are worth, so a tag's text, a BodyLength
-- and a CheckSum are told by their numbers.
use Rattle.std.specs.Prelude.{◌≡◌, refl, ◌⊎◌, Bool, true, false, List, [], ◌∷◌, ◌++◌, ℕ, ◌+◌, ◌≤◌, length, get_or, drop, eqb, leb}
use Rattle.std.proofs.Common.{sym, ap, ◌∙◌, inl, inr, arith, get_or-drop, eqb-true, leb-true, Option, Some, None}
use Rattle.std.proofs.lemmas.Bool.{eqb-false}
use Rattle.field_rules.specs.Choice.{pick}
use Rattle.field_rules.specs.Number.{all_digits, worth, number_in, non_zero, tag_of}
use Rattle.field_rules.specs.Decimal.{decimal}
use Rattle.field_rules.proofs.DecimalLaws.{all_digits-first, decimal_small, decimal_unique}
use Rattle.encode_rewriting_laws.specs.Plain.{is_plain}

-- "one or more digits", worth a number
pub record Digits (text : List ℕ) (n : ℕ) : Type 0 where
  pub some : 1 ≤ length text
  pub digits : all_digits text ≡ true
  pub worths : worth 0 text ≡ n
  pub most : n ≤ 4294967295

pub number_digits : (text : List ℕ) (n : ℕ) → number_in text ≡ Some n → Digits text n
unfolding number_in
number_digits text n e = by_tests (eqb (length text) 0) (all_digits text) (leb (worth 0 text) 4294967295) refl refl refl e
  where
    by_tests : (a b c : Bool) → eqb (length text) 0 ≡ a → all_digits text ≡ b → leb (worth 0 text) 4294967295 ≡ c
        → pick a None (pick b (pick c (Some (worth 0 text)) None) None) ≡ Some n → Digits text n
    by_tests true b c a-is b-is c-is e = let z : ◌≡◌ {A = ℕ} 0 1 = cc in absurd (omega arith)
    by_tests false false c a-is b-is c-is e = let z : ◌≡◌ {A = ℕ} 0 1 = cc in absurd (omega arith)
    by_tests false true false a-is b-is c-is e = let z : ◌≡◌ {A = ℕ} 0 1 = cc in absurd (omega arith)
    by_tests false true true a-is b-is c-is e =
        let some : length text ≡ 0 → ⊥ = eqb-false _ _ a-is in
        let worths : worth 0 text ≡ n = cc in
        let most : worth 0 text ≤ 4294967295 = leb-true _ _ c-is in
        record { some = omega (arith, some); digits = b-is; worths = worths; most = omega arith }

-- "the tag text, one or more digits worth 1 to 4,294,967,295"
pub record TagText (text : List ℕ) (tag : ℕ) : Type 0 where
  pub digits : Digits text tag
  pub least : 1 ≤ tag

pub tag-text : (text : List ℕ) (tag : ℕ) → tag_of text ≡ Some tag → TagText text tag
unfolding tag_of non_zero
tag-text text tag e = by_number (number_in text) refl e
  where
    by_test : (n : ℕ) (b : Bool) → eqb n 0 ≡ b → number_in text ≡ Some n → pick b None (Some n) ≡ Some tag → TagText text tag
    by_test n true b-is number e = let z : ◌≡◌ {A = ℕ} 0 1 = cc in absurd (omega arith)
    by_test n false b-is number e =
        let same : n ≡ tag = cc in
        let least : n ≡ 0 → ⊥ = eqb-false _ _ b-is in
        record { digits = number_digits text tag (number ∙ ap Some same); least = omega (arith, least) }

    by_number : (r : Option ℕ) → number_in text ≡ r → non_zero r ≡ Some tag → TagText text tag
    by_number None number e = let z : ◌≡◌ {A = ℕ} 0 1 = cc in absurd (omega arith)
    by_number (Some n) number e = by_test n (eqb n 0) refl number e

-- one digit, or no leading zero
pub Leads : List ℕ → Type 0
Leads text = (length text ≡ 1) ⊎ (get_or text 0 0 ≡ 48 → ⊥)

pub plain_digits : (text : List ℕ) (n : ℕ) → Digits text n → Leads text → text ≡ decimal n
unfolding Leads worth
plain_digits [] n d (inl one) = absurd (omega (arith, one))
plain_digits [] n d (inr lead) = absurd (omega (arith, d.some))
plain_digits (x ∷ []) n d (inl one) =
    let first = all_digits-first x [] d.digits in
    let byte : x ≡ 48 + n = omega (arith, first.0, d.worths) in
    ap (λ (y : ℕ). y ∷ []) byte ∙ sym (decimal_small n (omega (arith, byte, first.1)))
plain_digits (x ∷ y ∷ text) n d (inl one) = absurd (omega (arith, one))
plain_digits (x ∷ text) n d (inr lead) = decimal_unique (x ∷ text) n d.some d.digits lead d.worths

-- what stands at a place starts with a text: plain there is plain of the text
pub plain_leads : (message : List ℕ) (place : ℕ) (text rest : List ℕ) → 1 ≤ length text → drop place message ≡ text ++ rest → is_plain message place (length text) ≡ true → Leads text
unfolding is_plain Leads
plain_leads message place text rest some stands plain = by_size (eqb (length text) 1) refl plain
  where
    byte : (text : List ℕ) → 1 ≤ length text → get_or (text ++ rest) 0 0 ≡ get_or text 0 0
    byte [] some = absurd (omega arith)
    byte (x ∷ text) some = refl

    same : get_or message place 0 ≡ get_or text 0 0
    same = sym (get_or-drop place message 0 0 ∙ ap (λ (n : ℕ). get_or message n 0) (omega arith)) ∙ ap (λ (l : List ℕ). get_or l 0 0) stands ∙ byte text some

    by_lead : (b : Bool) → eqb (get_or message place 0) 48 ≡ b → pick b false true ≡ true → Leads text
    by_lead true b-is e = let z : ◌≡◌ {A = ℕ} 0 1 = cc in absurd (omega arith)
    by_lead false b-is e = inr (λ lead. eqb-false _ _ b-is (same ∙ lead))

    by_size : (b : Bool) → eqb (length text) 1 ≡ b → pick b true (pick (eqb (get_or message place 0) 48) false true) ≡ true → Leads text
    by_size true b-is e = inl (eqb-true _ _ b-is)
    by_size false b-is e = by_lead (eqb (get_or message place 0) 48) refl e
