-- The hunting framer against the standard. A message of the standard, of the sizes that a frame has, is a frame: its tags have one text each,
-- and its counted bytes start with MsgType and end with a delimiter. A frame agrees with the standard in what it looks at.
use Rattle.std.specs.Prelude.{◌≡◌, refl, true, ◌≢◌, ℕ, ◌+◌, ◌-◌, ◌*◌, ◌%◌, ◌≤◌, length}
use Rattle.std.proofs.Math.Path.{sym, ap}
use Rattle.std.proofs.Common.{◌∙◌, arith, length-append}
use mathlib.Core.List.{List, [], ◌∷◌, ◌++◌, append_assoc, append-nil}
use Rattle.field_rules.specs.CheckSum.{sum_of}
use Rattle.field_rules.specs.Decimal.{decimal, decimal_within}
use Rattle.standard_rules.specs.Standard as standard
use Rattle.standard_rules.specs.Standard.{Tables, Message, Told, told, Int, TagNum, SOH, total}
use Rattle.standard_rules.specs.Reading.{others}
use Rattle.standard_rules.proofs.FieldReads.{digits_all, worth-same}
use Rattle.frame_verdict_rules.specs.Frame.{IsFrame, IsBeginString, NoSeparator, separator, begin_tag, length_tag, type_tag, sum_tag, lead}
use Rattle.frame_verdict_rules.specs.Frame as frame
use Rattle.promise_standard.specs.Texts.{sum_same, tag-text, digits_int, digits_plain}

without : (text : List ℕ) → standard.All standard.NotDelimiter text → frame.All NoSeparator text
without [] standard.All.none = frame.All.all_none
without (x ∷ text) (standard.All.also p a) = frame.All.all_more p (without text a)

delimited : (text : List ℕ) → frame.All NoSeparator text → standard.All standard.NotDelimiter text
delimited [] frame.All.all_none = standard.All.none
delimited (x ∷ text) (frame.All.all_more p a) = standard.All.also p (delimited text a)

-- a field with the digits of its tag
field_bytes : (tag : ℕ) (value bytes : List ℕ) → standard.Field tag value bytes → bytes ≡ decimal tag ++ (61 ∷ (value ++ (1 ∷ [])))
field_bytes tag value bytes f = f.whole ∙ ap (λ (t : List ℕ). t ++ (61 ∷ (value ++ (1 ∷ [])))) (tag-text f.text tag f.is_tag)

-- bytes that end with a delimiter
abbrev EndsDelimited : List ℕ → Type 0
EndsDelimited s = (u : List ℕ) × (s ≡ u ++ (1 ∷ []))

ends-behind : (a b : List ℕ) → EndsDelimited b → EndsDelimited (a ++ b)
ends-behind a b e = (a ++ e.0, ap (λ (l : List ℕ). a ++ l) e.1 ∙ sym (append_assoc a e.0 (1 ∷ [])))

field-ends : (text value : List ℕ) → EndsDelimited (text ++ (61 ∷ (value ++ (1 ∷ []))))
field-ends text value = (text ++ (61 ∷ value), sym (append_assoc text (61 ∷ value) (1 ∷ [])))

-- fields of the standard, if any, end with a delimiter
module _ {T : Tables} where
  fields-end : (f : Told) (fs : List Told) (bytes : List ℕ) → standard.Fields T (f ∷ fs) bytes → EndsDelimited bytes
  fields-end f fs bytes s = ended (f ∷ fs) bytes s (λ e. let z : ◌≡◌ {A = ℕ} 0 1 = cc in omega arith)
    where
      nothing : (fs : List Told) (rest : List ℕ) → standard.Fields T fs rest → fs ≡ [] → rest ≡ []
      nothing _ _ standard.Fields.no_field e = refl
      nothing _ _ (standard.Fields.plain p n s) e = let z : ◌≡◌ {A = ℕ} 0 1 = cc in absurd (omega arith)
      nothing _ _ (standard.Fields.paired p d s) e = let z : ◌≡◌ {A = ℕ} 0 1 = cc in absurd (omega arith)

      behind : (fs : List Told) (a rest : List ℕ) → standard.Fields T fs rest → EndsDelimited a → ((fs ≡ [] → ⊥) → EndsDelimited rest) → EndsDelimited (a ++ rest)
      behind [] a rest s e more = let n = nothing [] rest s refl in (e.0, rw n (append_nil_of a e.0 e.1))
        where
          append_nil_of : (a u : List ℕ) → a ≡ u ++ (1 ∷ []) → a ++ [] ≡ u ++ (1 ∷ [])
          append_nil_of a u e = append-nil a ∙ e
      behind (f ∷ fs) a rest s e more = ends-behind a rest (more (λ x. let z : ◌≡◌ {A = ℕ} 0 1 = cc in omega arith))

      ended : (fs : List Told) (bytes : List ℕ) → standard.Fields T fs bytes → (fs ≡ [] → ⊥) → EndsDelimited bytes
      ended _ _ standard.Fields.no_field n = absurd (n refl)
      ended _ _ (standard.Fields.plain {v = v} {bytes = bytes} {rest = rest} {fs = fs} p x s) n = behind fs bytes rest s (rw p.whole (field-ends p.text v)) (λ k. ended fs rest s k)
      ended _ _ (standard.Fields.paired {v = v} {bytes = bytes} {rest = rest} {fs = fs} p d s) n = behind fs bytes rest s (rw d.whole (ends-behind d.length-bytes (d.text ++ (61 ∷ (v ++ (1 ∷ [])))) (field-ends d.text v))) (λ k. ended fs rest s k)

  -- the first of them starts with the digits of its tag and `=`
  fields-start : (tag : ℕ) (value : List ℕ) (fs : List Told) (bytes : List ℕ) → standard.Fields T (told tag value ∷ fs) bytes → (u : List ℕ) × (bytes ≡ decimal tag ++ (61 ∷ u))
  fields-start tag value fs bytes s = started (told tag value ∷ fs) bytes s refl
    where
      opened : (t : ℕ) (v a rest : List ℕ) → t ≡ tag → a ≡ decimal t ++ (61 ∷ (v ++ (1 ∷ []))) → (u : List ℕ) × (a ++ rest ≡ decimal tag ++ (61 ∷ u))
      opened t v a rest e w = ((v ++ (1 ∷ [])) ++ rest, ap (λ (l : List ℕ). l ++ rest) w ∙ rw e (append_assoc (decimal tag) (61 ∷ (v ++ (1 ∷ []))) rest))

      started : (gs : List Told) (bytes : List ℕ) → standard.Fields T gs bytes → gs ≡ told tag value ∷ fs → (u : List ℕ) × (bytes ≡ decimal tag ++ (61 ∷ u))
      started _ _ standard.Fields.no_field e = let z : ◌≡◌ {A = ℕ} 0 1 = cc in absurd (omega arith)
      started _ _ (standard.Fields.plain {t = t} {v = v} {bytes = bytes} {rest = rest} p x s) e =
          let same : told t v ≡ told tag value = cc in
          opened t v bytes rest (ap (λ (f : Told). f.tag) same) (field_bytes t v bytes p)
      started _ _ (standard.Fields.paired {l = l} {count = count} {v = v} {bytes = bytes} {rest = rest} p d s) e =
          let same : told l count ≡ told tag value = cc in
          let tail : List ℕ = d.text ++ (61 ∷ (v ++ (1 ∷ []))) in
          let o = opened l count d.length-bytes (tail ++ rest) (ap (λ (f : Told). f.tag) same) (field_bytes l count d.length-bytes d.length-field) in
          (o.0, ap (λ (x : List ℕ). x ++ rest) d.whole ∙ append_assoc d.length-bytes tail rest ∙ o.1)

  -- "a message of the standard with a BeginString of 1 to 16 bytes, at most five BodyLength digits and at most 8,192 bytes is a frame"
  pub message_frame : (bytes : List ℕ) (m : Message T bytes) → length m.begin_string ≤ 16 → length m.body_length ≤ 5 → length bytes ≤ 8192 → IsFrame bytes
  unfolding decimal decimal_within
  message_frame bytes m begin-small digits-few small =
      let first : m.first ≡ 56 ∷ 61 ∷ (m.begin_string ++ (1 ∷ [])) = field_bytes 8 m.begin_string m.first m.first_is in
      let second : m.second ≡ 57 ∷ 61 ∷ (m.body_length ++ (1 ∷ [])) = field_bytes 9 m.body_length m.second m.second_is in
      let last : m.last ≡ 49 ∷ 48 ∷ 61 ∷ (m.check-sum ++ (1 ∷ [])) = field_bytes 10 m.check-sum m.last m.last_is in
      let head : m.first ++ m.second ≡ lead m.begin_string m.body_length = rw (first, second) (ap (λ (l : List ℕ). 56 ∷ 61 ∷ l) (append_assoc m.begin_string (1 ∷ []) (57 ∷ 61 ∷ (m.body_length ++ (1 ∷ []))))) in
      let summed : m.first ++ (m.second ++ m.counted) ≡ lead m.begin_string m.body_length ++ m.counted = sym (append_assoc m.first m.second m.counted) ∙ ap (λ (l : List ℕ). l ++ m.counted) head in
      record {
        begin = m.begin_string;
        digits = m.body_length;
        body = m.counted;
        sum = m.check-sum;
        whole = m.whole ∙ regroup m.first m.second m.counted m.last ∙ rw (summed, last);
        begins = record { least = m.first_is.is_value.some; most = begin-small; clean = without m.begin_string m.first_is.is_value.plain };
        digits_least = m.length_is_lem.some;
        digits_most = digits-few;
        digits_are = digits_all m.body_length m.length_is_lem.digits;
        announced = worth-same 0 m.body_length ∙ m.length_is_lem.worth;
        body-starts = fields-start 35 m.msg_type (others m) m.counted m.counted_is;
        body-ends = fields-end (told 35 m.msg_type) (others m) m.counted m.counted_is;
        sum-size = m.three_digits_lem;
        sum_digits = digits_all m.check-sum m.sum_is_lem.digits;
        sum_is_lem = worth-same 0 m.check-sum ∙ m.sum_is_lem.worth ∙ ap (λ (n : ℕ). n % 256) (sym (sum_same (m.first ++ (m.second ++ m.counted)))) ∙ ap (λ (l : List ℕ). sum_of l % 256) summed;
        small = small;
      }
    where
      regroup : (a b c d : List ℕ) → a ++ (b ++ (c ++ d)) ≡ (a ++ (b ++ c)) ++ d
      regroup a b c d = simp append_assoc

-- what a frame and the standard agree in: the first three tags, BodyLength and CheckSum
pub record Agrees (bytes : List ℕ) : Type 0 where
  pub begin_string : List ℕ
  pub body_length : List ℕ
  pub check-sum : List ℕ
  pub first : List ℕ
  pub second : List ℕ
  pub counted : List ℕ
  pub last : List ℕ
  pub whole : bytes ≡ first ++ (second ++ (counted ++ last))
  pub first_is : standard.Field 8 begin_string first
  pub second_is : standard.Field 9 body_length second
  pub third_starts : (text u : List ℕ) × TagNum text 35 × (counted ≡ text ++ (61 ∷ u))
  pub last_is : standard.Field 10 check-sum last
  pub length_is_lem : Int body_length (length counted)
  pub sum_is_lem : Int check-sum (total (first ++ (second ++ counted)) % 256)
  pub three_digits_lem : length check-sum ≡ 3

one_digit_tag : (d : ℕ) → d ≢ 48 → 48 ≤ d → d ≤ 57 → TagNum (d ∷ []) (d - 48)
one_digit_tag d n l h = record { highest = d; others = []; starts = refl; no_leading_zero = n; int = record { some = omega arith; digits = standard.All.also (l, h) standard.All.none; worth = omega arith } }

two_digit_tag : (d e tag : ℕ) → d ≢ 48 → 48 ≤ d → d ≤ 57 → 48 ≤ e → e ≤ 57 → (d - 48) * 10 + (e - 48) ≡ tag → TagNum (d ∷ e ∷ []) tag
two_digit_tag d e tag n l h k j w =
    record { highest = d; others = e ∷ []; starts = refl; no_leading_zero = n; int = record { some = omega arith; digits = standard.All.also (l, h) (standard.All.also (k, j) standard.All.none); worth = omega (arith, w) } }

-- "a frame agrees with the standard in its first three tags, BodyLength and CheckSum"
pub frame_agrees : (bytes : List ℕ) → IsFrame bytes → Agrees bytes
frame_agrees bytes f =
    let first : List ℕ = 56 ∷ 61 ∷ (f.begin ++ (1 ∷ [])) in
    let second : List ℕ = 57 ∷ 61 ∷ (f.digits ++ (1 ∷ [])) in
    let last : List ℕ = 49 ∷ 48 ∷ 61 ∷ (f.sum ++ (1 ∷ [])) in
    let head : lead f.begin f.digits ≡ first ++ second = sym (ap (λ (l : List ℕ). 56 ∷ 61 ∷ l) (append_assoc f.begin (1 ∷ []) second)) in
    let length_is_lem : Int f.digits (length f.body) = digits_int f.digits (length f.body) f.digits_least f.digits_are f.announced in
    let summed : lead f.begin f.digits ++ f.body ≡ first ++ (second ++ f.body) = ap (λ (l : List ℕ). l ++ f.body) head ∙ append_assoc first second f.body in
    let sum_is_lem : Int f.sum (total (first ++ (second ++ f.body)) % 256) =
    digits_int f.sum (total (first ++ (second ++ f.body)) % 256) (omega (arith, f.sum-size)) f.sum_digits (f.sum_is_lem ∙ ap (λ (l : List ℕ). sum_of l % 256) summed ∙ ap (λ (n : ℕ). n % 256) (sum_same (first ++ (second ++ f.body)))) in
    record {
      begin_string = f.begin;
      body_length = f.digits;
      check-sum = f.sum;
      first = first;
      second = second;
      counted = f.body;
      last = last;
      whole = f.whole ∙ ap (λ (l : List ℕ). l ++ last) summed ∙ regroup first second f.body last;
      first_is = record { text = 56 ∷ []; is_tag = one_digit_tag 56 (λ e. omega arith) (omega arith) (omega arith); is_value = record { some = f.begins.least; plain = delimited f.begin f.begins.clean }; whole = refl };
      second_is = record { text = 57 ∷ []; is_tag = one_digit_tag 57 (λ e. omega arith) (omega arith) (omega arith); is_value = record { some = f.digits_least; plain = digits_plain f.digits length_is_lem.digits }; whole = refl };
      third_starts = (51 ∷ 53 ∷ [], f.body-starts.0, two_digit_tag 51 53 35 (λ e. omega arith) (omega arith) (omega arith) (omega arith) (omega arith) refl, f.body-starts.1);
      last_is = record { text = 49 ∷ 48 ∷ []; is_tag = two_digit_tag 49 48 10 (λ e. omega arith) (omega arith) (omega arith) (omega arith) (omega arith) refl; is_value = record { some = omega (arith, f.sum-size); plain = digits_plain f.sum sum_is_lem.digits }; whole = refl };
      length_is_lem = length_is_lem;
      sum_is_lem = sum_is_lem;
      three_digits_lem = f.sum-size;
    }
  where
    regroup : (a b c d : List ℕ) → (a ++ (b ++ c)) ++ d ≡ a ++ (b ++ (c ++ d))
    regroup a b c d = simp append_assoc
