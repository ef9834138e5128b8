-- What the standard rules out by how a text is written: a field's tag text, its value and its delimiter; BodyLength and CheckSum, which
-- the bytes alone determine.
use Rattle.std.specs.Prelude.{◌≡◌, refl, Bool, List, [], ◌∷◌, ◌++◌, ◌≢◌, ℕ, suc, ◌+◌, ◌*◌, ◌-◌, ◌%◌, ◌≤◌, length, take, drop, eqb}
use Rattle.std.proofs.Common.{sym, ap, ◌∙◌, subst, append_assoc, arith, length-append, ne_eqb}
use Rattle.std.proofs.Math.Seq.{drop-append_seam, drop-append-add, take-append_seam}
use Rattle.field_rules.specs.Choice.{pick}
use Rattle.field_rules.proofs.NumberLaws.{worth-least}
use Rattle.standard_rules.specs.Standard.{Tables, All, Digit, SOH, Int, TagNum, Value, Field, DataField, Told, told, Fields, total, Message}
use Rattle.standard_rules.specs.Reading.{Beside, Lookup, regroup, regroup₂, reading, listed, message-fields, fields_are}
use Rattle.standard_rules.proofs.FieldReads.{worth-same}

-- ===== each field =====

-- the bytes before the first b
abbrev pub upto : ℕ → List ℕ → List ℕ
upto b [] = []
upto b (x ∷ s) = pick (eqb x b) [] (x ∷ upto b s)

upto-equals : (text rest : List ℕ) → All Digit text → upto 61 (text ++ (61 ∷ rest)) ≡ text
upto-equals _ rest All.none = refl
upto-equals _ rest (All.also {x = x} {xs = text} d a) =
    ap (λ (b : Bool). pick b [] (x ∷ upto 61 (text ++ (61 ∷ rest)))) (ne_eqb x 61 (λ e. omega (arith, d)))
    ∙ ap (λ (s : List ℕ). x ∷ s) (upto-equals text rest a)

-- no length tag has it for its data
abbrev pub NoLength : Tables → ℕ → Type 0
NoLength T t = (l : ℕ) → T.Pair l t → ⊥

-- at the start of s a field stands that tells f: what is before `=` is a tag number; the value is a value, unless it is data; and the
-- delimiter stands behind it
pub record StartsWith (T : Tables) (f : Told) (s : List ℕ) : Type 0 where
  pub is_tag : TagNum (upto 61 s) f.tag
  pub is_value : NoLength T f.tag → Value f.value
  pub ends : take 1 (drop (length (upto 61 s) + suc (length f.value)) s) ≡ SOH ∷ []

-- what is behind that field
abbrev pub beyond : Told → List ℕ → List ℕ
beyond f s = drop (length (upto 61 s) + suc (length f.value + 1)) s

-- a text starts with each of the fields, one behind the other, and ends with the last
abbrev pub Written : Tables → List Told → List ℕ → Type 0
Written T [] s = s ≡ []
Written T (f ∷ fs) s = StartsWith T f s × Written T fs (beyond f s)

module _ {T : Tables} where
  step : (t : ℕ) (text v rest : List ℕ) (fs : List Told) → TagNum text t → (NoLength T t → Value v) → Written T fs rest
      → Written T (told t v ∷ fs) (text ++ (61 ∷ (v ++ (1 ∷ rest))))
  step t text v rest fs is_tag is_value more =
      let s : List ℕ = text ++ (61 ∷ (v ++ (1 ∷ rest))) in
      let before : upto 61 s ≡ text = upto-equals text (v ++ (1 ∷ rest)) is_tag.int.digits in
      let closing : drop (length (upto 61 s) + suc (length v)) s ≡ 1 ∷ rest =
      ap (λ (a : List ℕ). drop (length a + suc (length v)) s) before
      ∙ drop-append-add text (61 ∷ (v ++ (1 ∷ rest))) (suc (length v)) ∙ drop-append_seam v (1 ∷ rest) in
      let behind : beyond (told t v) s ≡ rest =
      ap (λ (a : List ℕ). drop (length a + suc (length v + 1)) s) before
      ∙ drop-append-add text (61 ∷ (v ++ (1 ∷ rest))) (suc (length v + 1)) ∙ drop-append-add v (1 ∷ rest) 1 in (
        record { is_tag = subst (λ (a : List ℕ). TagNum a t) (sym before) is_tag; is_value = is_value; ends = ap (take 1) closing },
        subst (Written T fs) (sym behind) more,
      )

  field_step : (t : ℕ) (v bytes rest : List ℕ) (fs : List Told) → Field t v bytes → Written T fs rest → Written T (told t v ∷ fs) (bytes ++ rest)
  field_step t v bytes rest fs f more =
      subst (Written T (told t v ∷ fs)) (sym (ap (λ (b : List ℕ). b ++ rest) f.whole ∙ regroup f.text v rest))
      (step t f.text v rest fs f.is_tag (λ n. f.is_value) more)

  data_step : (l t : ℕ) (count v bytes rest : List ℕ) (fs : List Told) → T.Pair l t → DataField l count t v bytes → Written T fs rest
      → Written T (told l count ∷ (told t v ∷ fs)) (bytes ++ rest)
  data_step l t count v bytes rest fs p d more =
      subst (Written T (told l count ∷ (told t v ∷ fs))) (sym (ap (λ (b : List ℕ). b ++ rest) d.whole ∙ regroup₂ d.length-bytes d.text v rest))
      (field_step l count d.length-bytes (d.text ++ (61 ∷ (v ++ (1 ∷ rest)))) (told t v ∷ fs) d.length-field
      (step t d.text v rest fs d.is_tag (λ n. absurd (n l p)) more))

  -- fields are written one behind the other
  pub fields-written : {fs : List Told} {bytes : List ℕ} → Fields T fs bytes → Written T fs bytes
  fields-written Fields.no_field = refl
  fields-written (Fields.plain {t = t} {v = v} {bytes = b} {rest = rest} {fs = fs} f n more) = field_step t v b rest fs f (fields-written more)
  fields-written (Fields.paired {l = l} {t = t} {count = count} {v = v} {bytes = b} {rest = rest} {fs = fs} p d more) =
      data_step l t count v b rest fs p d (fields-written more)

-- and so are those of a message
pub message-written : {T : Tables} {length_of : ℕ → Beside} (L : Lookup T length_of) {bytes : List ℕ} → Message T bytes
    → Written T (listed (reading length_of bytes)) bytes
message-written {T = T} L {bytes = bytes} m = subst (λ (fs : List Told). Written T fs bytes) (fields_are L m) (fields-written (message-fields L m))

-- ===== BodyLength and CheckSum =====

-- a tag number's first digit is 1 to 9
starting_digit : (d : ℕ) (ds : List ℕ) (t : ℕ) → TagNum (d ∷ ds) t → (49 ≤ d) × (d ≤ 57)
starting_digit d ds t n = of n.int.digits (λ e. n.no_leading_zero (let same : d ≡ n.highest = cc n.starts in sym same ∙ e))
  where
    of : All Digit (d ∷ ds) → d ≢ 48 → (49 ≤ d) × (d ≤ 57)
    of (All.also digit _) no_zero = let first : (d ≡ 48) → ⊥ = no_zero in (omega (arith, digit), omega (arith, digit))

-- up to 9 it has one digit, and 10 has two
one_digit : (text : List ℕ) (t : ℕ) → TagNum text t → t ≤ 9 → length text ≡ 1
one_digit [] t n l = absurd (omega (arith, n.int.some))
one_digit (d ∷ []) t n l = refl
one_digit (d ∷ (e ∷ ds)) t n l =
    let next : ℕ = (0 * 10 + (d - 48)) * 10 + (e - 48) in
    absurd (omega (arith, starting_digit d (e ∷ ds) t n, n.int.worth, worth-least ds next, worth-same next ds))

two_digits : (text : List ℕ) → TagNum text 10 → length text ≡ 2
two_digits [] n = absurd (omega (arith, n.int.some))
two_digits (d ∷ []) n = absurd (omega (arith, starting_digit d [] 10 n, n.int.worth))
two_digits (d ∷ (e ∷ [])) n = refl
two_digits (d ∷ (e ∷ (c ∷ ds))) n =
    let next : ℕ = ((0 * 10 + (d - 48)) * 10 + (e - 48)) * 10 + (c - 48) in
    absurd (omega (arith, starting_digit d (e ∷ (c ∷ ds)) 10 n, n.int.worth, worth-least ds next, worth-same next ds))

field-size : {t : ℕ} {v bytes : List ℕ} (f : Field t v bytes) → length bytes ≡ length f.text + (length v + 2)
field-size {v = v} f = omega (arith, ap length f.whole, length-append f.text (61 ∷ (v ++ (1 ∷ []))), length-append v (1 ∷ []))

module _ {T : Tables} {bytes : List ℕ} (m : Message T bytes) where
  -- `10=` and a delimiter are four bytes
  last-size : length m.last ≡ length m.check-sum + 4
  last-size = omega (arith, field-size m.last_is, two_digits m.last_is.text m.last_is.is_tag)

  parts : bytes ≡ (m.first ++ (m.second ++ m.counted)) ++ m.last
  parts = m.whole ∙ simp append_assoc

  before_last : m.first ++ (m.second ++ m.counted) ≡ take (length bytes - (length m.check-sum + 4)) bytes
  before_last =
      let before : List ℕ = m.first ++ (m.second ++ m.counted) in
      let sizes : length before ≡ length bytes - (length m.check-sum + 4) = omega (arith, ap length parts, length-append before m.last, last-size) in
      sym (ap (λ (n : ℕ). take n bytes) (sym sizes) ∙ ap (take (length before)) parts ∙ take-append_seam before m.last)

  -- THE CHECKSUM is that of all bytes before its field
  pub sum_of-bytes : (sum : List ℕ) → m.check-sum ≡ sum → Int sum (total (take (length bytes - (length sum + 4)) bytes) % 256)
  sum_of-bytes sum is =
      subst (λ (v : List ℕ). Int v (total (take (length bytes - (length v + 4)) bytes) % 256)) is
      (subst (λ (b : List ℕ). Int m.check-sum (total b % 256)) before_last m.sum_is_lem)

  -- THE BODYLENGTH is what is left of the bytes: `8=`, `9=`, `10=` and their delimiters are ten, beside three values
  pub length_of-bytes : Int m.body_length (length bytes - (length m.begin_string + (length m.body_length + (length m.check-sum + 10))))
  length_of-bytes =
      subst (Int m.body_length)
      (omega (
        arith,
        ap length m.whole,
        length-append m.first (m.second ++ (m.counted ++ m.last)),
        length-append m.second (m.counted ++ m.last),
        length-append m.counted m.last,
        last-size,
        field-size m.first_is,
        one_digit m.first_is.text 8 m.first_is.is_tag (omega arith),
        field-size m.second_is,
        one_digit m.second_is.text 9 m.second_is.is_tag (omega arith),
      ))
      m.length_is_lem
