-- Sample tables, an excerpt of FIX's, and tests that prove by computing what closed texts are.
use Rattle.std.specs.Prelude.{◌≡◌, refl, Bool, true, false, not, ◌&&◌, List, [], ◌∷◌, ◌++◌, ◌≢◌, ℕ, ◌+◌, ◌-◌, ◌%◌, length, take, drop, eqb, leb}
use Rattle.std.proofs.Common.{sym, ap, ◌∙◌, arith, eqb-true, leb-true}
use Rattle.std.proofs.Math.Bool.{and-eq-true_iff}
use Prim.Native.String.{String}
use Rattle.std.proofs.lemmas.Bool.{eqb-false, not-true}
use Rattle.field_rules.specs.Choice.{pick}
use Rattle.standard_rules.specs.Standard.{Tables, NoData, NoCount, Body, All, Digit, NotDelimiter, worth_after, Int, TagNum, Value, Field, DataField, Distinct, placed, Once, total}
use Rattle.field_rules.specs.Text.{bytes}
use Rattle.standard_rules.specs.Reading.{Beside, nothing, just, Lookup}
use Rattle.standard_rules.proofs.StandardLaws.{one_of, Only}
use Rattle.standard_rules.proofs.WritingLaws.{upto}

-- ===== tables =====

-- RawDataLength and RawData, SignatureLength and Signature
abbrev pub length_of : ℕ → Beside
length_of t = pick (eqb t 96) (just 95) (pick (eqb t 89) (just 93) nothing)

-- NoAllocs and AllocAccount, NoNestedPartyIDs and NestedPartyID, NoHops and HopCompID
abbrev pub delimiter_of : ℕ → Beside
delimiter_of c = pick (eqb c 78) (just 79) (pick (eqb c 539) (just 524) (pick (eqb c 627) (just 628) nothing))

abbrev pub header_tags : List ℕ
header_tags = 8 ∷ 9 ∷ 35 ∷ 34 ∷ 49 ∷ 56 ∷ 627 ∷ 628 ∷ []

abbrev pub trailer_tags : List ℕ
trailer_tags = 93 ∷ 89 ∷ 10 ∷ []

-- what their entries have
abbrev pub members_of : ℕ → List ℕ
members_of c = pick (eqb c 78) (79 ∷ 80 ∷ 539 ∷ []) (pick (eqb c 539) (524 ∷ 525 ∷ []) (pick (eqb c 627) (628 ∷ []) []))

-- what stands in entries alone
abbrev pub inner-tags : List ℕ
inner-tags = 79 ∷ 80 ∷ 539 ∷ 524 ∷ 525 ∷ 628 ∷ []

abbrev pub Sample : Tables
Sample = record {
  Pair = λ l t. length_of t ≡ just l;
  Group = λ c d. delimiter_of c ≡ just d;
  Member = λ c t. one_of (members_of c) t ≡ true;
  Outside = λ t. one_of inner-tags t ≡ false;
  Header = λ t. one_of header_tags t ≡ true;
  Trailer = λ t. one_of trailer_tags t ≡ true;
}

pub never : {b : Beside} {n : ℕ} → b ≡ nothing → b ≡ just n → ⊥
never p q = let z : ◌≡◌ {A = ℕ} 0 1 = cc in absurd (omega arith)

pub apart : {b : Bool} → b ≡ false → b ≡ true → ⊥
apart p q = let z : ◌≡◌ {A = ℕ} 0 1 = cc in absurd (omega arith)

pub no_data : (t : ℕ) → length_of t ≡ nothing → NoData Sample t
no_data t e = record { no_length = λ l p. absurd (never e p) }

pub no_count : (t : ℕ) → delimiter_of t ≡ nothing → NoCount Sample t
no_count t e = record { no_delimiter = λ d p. absurd (never e p) }

pub lookup : Lookup Sample length_of
lookup = record {
  none = λ t n. found t n (length_of t) refl;
  some = λ l t p. p;
  lengths = λ l t p. of_length l t (eqb t 96) (eqb t 89) p;
  eight = no_data 8 refl;
  nine = no_data 9 refl;
  ten = no_data 10 refl;
}
  where
    found : (t : ℕ) → NoData Sample t → (b : Beside) → length_of t ≡ b → length_of t ≡ nothing
    found t n nothing e = e
    found t n (just l) e = absurd (n.no_length l e)

    from-just : (l k : ℕ) → length_of k ≡ nothing → just k ≡ just l → NoData Sample l
    from-just l k e p = no_data l (ap length_of (sym (let same : k ≡ l = cc in same)) ∙ e)

    of_length : (l t : ℕ) (a b : Bool) → pick a (just 95) (pick b (just 93) nothing) ≡ just l → NoData Sample l
    of_length l t true b p = from-just l 95 refl p
    of_length l t false true p = from-just l 93 refl p
    of_length l t false false p = absurd (never refl p)

-- a tag that is in no group's entries
pub no_member : (t : ℕ) → one_of (79 ∷ 80 ∷ 539 ∷ []) t ≡ false → one_of (524 ∷ 525 ∷ []) t ≡ false → one_of (628 ∷ []) t ≡ false → (c : ℕ)
    → Sample.Member c t → ⊥
no_member t e f g c = by (eqb c 78) (eqb c 539) (eqb c 627)
  where
    by : (p q r : Bool) → one_of (pick p (79 ∷ 80 ∷ 539 ∷ []) (pick q (524 ∷ 525 ∷ []) (pick r (628 ∷ []) []))) t ≡ true → ⊥
    by true q r h = apart e h
    by false true r h = apart f h
    by false false true h = apart g h
    by false false false h = apart refl h

-- a tag that is in the entries of 78 alone
pub only_allocations : (t : ℕ) → one_of (524 ∷ 525 ∷ []) t ≡ false → one_of (628 ∷ []) t ≡ false → Only Sample 78 t
only_allocations t e f k = by (eqb k 78) (eqb k 539) (eqb k 627) refl
  where
    by : (p q r : Bool) → eqb k 78 ≡ p → one_of (pick p (79 ∷ 80 ∷ 539 ∷ []) (pick q (524 ∷ 525 ∷ []) (pick r (628 ∷ []) []))) t ≡ true → k ≡ 78
    by true q r is h = eqb-true k 78 is
    by false true r is h = absurd (apart e h)
    by false false true is h = absurd (apart f h)
    by false false false is h = absurd (apart refl h)

pub in_body_lem : (t : ℕ) → one_of header_tags t ≡ false → one_of trailer_tags t ≡ false → Body Sample t
in_body_lem t e f = record { no_header = λ p. absurd (apart e p); no_trailer = λ p. absurd (apart f p) }

-- ===== tests =====

abbrev digits_test : List ℕ → Bool
digits_test [] = true
digits_test (x ∷ s) = (leb 48 x && leb x 57) && digits_test s

abbrev plain_test : List ℕ → Bool
plain_test [] = true
plain_test (x ∷ s) = not (eqb x 1) && plain_test s

abbrev first_test : List ℕ → Bool
first_test [] = false
first_test (x ∷ s) = not (eqb x 48)

abbrev absent_test : ℕ → List ℕ → Bool
absent_test x [] = true
absent_test x (y ∷ ys) = not (eqb y x) && absent_test x ys

abbrev pub distinct_test : List ℕ → Bool
distinct_test [] = true
distinct_test (x ∷ xs) = absent_test x xs && distinct_test xs

digits : (s : List ℕ) → digits_test s ≡ true → All Digit s
digits [] e = All.none
digits (x ∷ s) e =
    let b = (and-eq-true_iff (leb 48 x && leb x 57) (digits_test s)).0 e in
    let c = (and-eq-true_iff (leb 48 x) (leb x 57)).0 b.0 in
    All.also (leb-true 48 x c.0, leb-true x 57 c.1) (digits s b.1)

plain : (s : List ℕ) → plain_test s ≡ true → All NotDelimiter s
plain [] e = All.none
plain (x ∷ s) e =
    let b = (and-eq-true_iff (not (eqb x 1)) (plain_test s)).0 e in
    All.also (eqb-false x 1 (not-true (eqb x 1) b.0)) (plain s b.1)

absent : (x : ℕ) (s : List ℕ) → absent_test x s ≡ true → All (λ y. y ≢ x) s
absent x [] e = All.none
absent x (y ∷ s) e =
    let b = (and-eq-true_iff (not (eqb y x)) (absent_test x s)).0 e in
    All.also (eqb-false y x (not-true (eqb y x) b.0)) (absent x s b.1)

distinct : (s : List ℕ) → distinct_test s ≡ true → Distinct s
distinct [] e = Distinct.empty
distinct (x ∷ s) e =
    let b = (and-eq-true_iff (absent_test x s) (distinct_test s)).0 e in
    Distinct.fresh (absent x s b.0) (distinct s b.1)

pub once : (tags : List ℕ) → distinct_test (placed ++ tags) ≡ true → Once tags
once tags e = record { distinct = distinct _ e }

abbrev group_test : ℕ → List ℕ → Bool
group_test c [] = true
group_test c (t ∷ ts) = one_of (members_of c) t && group_test c ts

pub of-group : (c : ℕ) (ts : List ℕ) → group_test c ts ≡ true → All (Sample.Member c) ts
of-group c [] e = All.none
of-group c (t ∷ ts) e = let b = (and-eq-true_iff (one_of (members_of c) t) (group_test c ts)).0 e in All.also b.0 (of-group c ts b.1)

abbrev pub outside_test : List ℕ → Bool
outside_test [] = true
outside_test (t ∷ ts) = not (one_of inner-tags t) && outside_test ts

pub outside : (ts : List ℕ) → outside_test ts ≡ true → All Sample.Outside ts
outside [] e = All.none
outside (t ∷ ts) e =
    let b = (and-eq-true_iff (not (one_of inner-tags t)) (outside_test ts)).0 e in
    All.also (not-true (one_of inner-tags t) b.0) (outside ts b.1)

abbrev pub int_test : List ℕ → ℕ → Bool
int_test s n = (leb 1 (length s) && digits_test s) && eqb (worth_after 0 s) n

pub int : (s : List ℕ) (n : ℕ) → int_test s n ≡ true → Int s n
int s n e =
    let b = (and-eq-true_iff (leb 1 (length s) && digits_test s) (eqb (worth_after 0 s) n)).0 e in
    let c = (and-eq-true_iff (leb 1 (length s)) (digits_test s)).0 b.0 in
    record { some = leb-true 1 (length s) c.0; digits = digits s c.1; worth = eqb-true (worth_after 0 s) n b.1 }

abbrev pub tag_test : List ℕ → ℕ → Bool
tag_test s t = first_test s && int_test s t

pub tag_num : (s : List ℕ) (t : ℕ) → tag_test s t ≡ true → TagNum s t
tag_num [] t e = absurd (apart refl e)
tag_num (x ∷ s) t e =
    let b = (and-eq-true_iff (not (eqb x 48)) (int_test (x ∷ s) t)).0 e in
    record { highest = x; others = s; starts = refl; no_leading_zero = λ z. absurd (eqb-false x 48 (not-true (eqb x 48) b.0) z); int = int (x ∷ s) t b.1 }

abbrev pub value_test : List ℕ → Bool
value_test v = leb 1 (length v) && plain_test v

pub value : (v : List ℕ) → value_test v ≡ true → Value v
value v e =
    let b = (and-eq-true_iff (leb 1 (length v)) (plain_test v)).0 e in
    record { some = omega (arith, leb-true 1 (length v) b.0); plain = plain v b.1 }

abbrev pub written : List ℕ → List ℕ → List ℕ
written text v = text ++ (61 ∷ (v ++ (1 ∷ [])))

pub a-field : (t : ℕ) (text v : String) → (tag_test (bytes text) t && value_test (bytes v)) ≡ true → Field t (bytes v) (written (bytes text) (bytes v))
a-field t text v e =
    let b = (and-eq-true_iff (tag_test (bytes text) t) (value_test (bytes v))).0 e in
    record { text = bytes text; is_tag = tag_num (bytes text) t b.0; is_value = value (bytes v) b.1; whole = refl }

pub a_data : (l t : ℕ) (length-text count text v : String) → (tag_test (bytes length-text) l && value_test (bytes count)) ≡ true
    → int_test (bytes count) (length (bytes v)) ≡ true → (tag_test (bytes text) t && leb 1 (length (bytes v))) ≡ true
    → DataField l (bytes count) t (bytes v) (written (bytes length-text) (bytes count) ++ written (bytes text) (bytes v))
a_data l t length-text count text v e f g =
    let b = (and-eq-true_iff (tag_test (bytes text) t) (leb 1 (length (bytes v)))).0 g in
    record {
      length-bytes = written (bytes length-text) (bytes count);
      text = bytes text;
      length-field = a-field l length-text count e;
      counts = int (bytes count) (length (bytes v)) f;
      is_tag = tag_num (bytes text) t b.0;
      some = leb-true 1 (length (bytes v)) b.1;
      whole = refl;
    }

-- ===== the frame of a text that starts `8=F|9=` =====

-- BodyLength is right
abbrev length_test : String → Bool
length_test s = let v = upto 1 (drop 6 (bytes s)) in eqb (worth_after 0 v) (length (bytes s) - (length v + 14))

-- CheckSum is right
abbrev sum_test : String → Bool
sum_test s = let n = length (bytes s) in eqb (worth_after 0 (take 3 (drop (n - 4) (bytes s)))) (total (take (n - 7) (bytes s)) % 256)

abbrev pub lengths_right : List String → Bool
lengths_right [] = true
lengths_right (s ∷ ss) = length_test s && lengths_right ss

abbrev pub sums_right : List String → Bool
sums_right [] = true
sums_right (s ∷ ss) = sum_test s && sums_right ss

abbrev pub framed : List String → Bool
framed ss = lengths_right ss && sums_right ss
