-- A message of the standard announces its own length, whatever follows it; what has arrived of it announces that or nothing yet.
-- BodyLength counts what stands between its own field and the CheckSum's, which is seven bytes long.
use Rattle.std.specs.Prelude.{◌≡◌, refl, ◌⊎◌, get_or, take, drop}
use Rattle.std.proofs.Common.{sym, ◌∙◌, inl, inr, ⊎_elim, arith, length-append, take-append-drop, drop_at, Some}
use Rattle.std.proofs.Math.Path.{ap}
use mathlib.Core.List.{List, [], ◌∷◌, ◌++◌, append_assoc}
use Prim.Native.Nat.{ℕ, ◌+◌, ◌-◌, ◌≤◌}
use Rattle.std.proofs.Math.ListN.{length}
use Rattle.std.proofs.lemmas.List.{take-append-le}
use Rattle.std.proofs.Math.Seq.{take-append_seam}
use Rattle.field_rules.specs.Decimal.{decimal, decimal_within}
use Rattle.field_rules.proofs.DecimalLaws.{decimal_unique}
use Rattle.standard_rules.specs.Standard as standard
use Rattle.standard_rules.specs.Standard.{Tables, Message, SOH, equals}
use Rattle.standard_rules.proofs.FieldReads.{digits_all, worth-same, absent_all}
use Rattle.frame_parser_rules.specs.Announced.{nominal, find_from, value_from, message_end, limited, announced_in}
use Rattle.frame_parser_rules.specs.AnnouncedLaws.{nominal-worth, from-joins, value_between, announced_second, announced_stays, limit_ends}
use Rattle.frame_parser_rules.specs.declared.Announced.TheVariants.{Ends, Unknown}

-- the value of a field of the standard, as it is found behind bytes that were passed
pub record FoundValue (value bytes passed rest : List ℕ) : Type 0 where
  pub first : ℕ
  pub last : ℕ
  pub found : value_from (length passed) (passed ++ (bytes ++ rest)) ≡ Some (first, last)
  pub text : take (last - first) (drop first (passed ++ (bytes ++ rest))) ≡ value
  pub next : last + 1 ≡ length passed + length bytes

pub field_value : (tag : ℕ) (value bytes passed rest : List ℕ) → standard.Field tag value bytes → FoundValue value bytes passed rest
field_value tag value bytes passed rest field =
    let text : List ℕ = field.text in
    let at : ℕ = length passed in
    let head : List ℕ = passed ++ (text ++ (equals ∷ [])) in
    let whole : passed ++ (bytes ++ rest) ≡ passed ++ (text ++ (equals ∷ (value ++ (SOH ∷ rest)))) =
    rw field.whole (simp append_assoc) in
    let split : passed ++ (bytes ++ rest) ≡ head ++ (value ++ (SOH ∷ rest)) = whole ∙ simp append_assoc in
    let size : length head ≡ at + length text + 1 = simp length-append (omega arith) in
    let total : length bytes ≡ length text + length value + 2 = ap length field.whole ∙ simp length-append (omega arith) in
    record {
      first = at + length text + 1;
      last = at + length text + 1 + length value;
      found = rw split
          (value_between at (head ++ (value ++ (SOH ∷ rest))) (at + length text) (at + length text + 1 + length value)
          (sym (ap (λ (held : List ℕ). find_from 61 at held) (sym whole ∙ split)) ∙ from-joins 61 at passed text (value ++ (SOH ∷ rest)) refl (absent_all text (λ x d e. omega (arith, d)) field.is_tag.int.digits))
          (from-joins 1 (at + length text + 1) head value rest size (absent_all value (λ x d. d) field.is_value.plain)));
      text = rw (split, drop_at head (value ++ (SOH ∷ rest)) (at + length text + 1) size) (value_first (at + length text + 1) value (SOH ∷ rest));
      next = omega (arith, total);
    }
  where
    value_first : (k : ℕ) (value rest : List ℕ) → take (k + length value - k) (value ++ rest) ≡ value
    value_first k value rest =
        let count : k + length value - k ≡ length value = omega arith in rw count (take-append_seam value rest)

-- tag 10 has two digits, and the CheckSum three
two_digits : (text : List ℕ) → standard.TagNum text 10 → length text ≡ 2
unfolding decimal decimal_within
two_digits text tag =
    ap length
    (decimal_unique text 10 tag.int.some (digits_all text tag.int.digits)
    (λ e. tag.no_leading_zero (sym (ap (λ (l : List ℕ). get_or l 0 0) tag.starts) ∙ e))
    (worth-same 0 text ∙ tag.int.worth))

pub seven_bytes : (value bytes : List ℕ) → standard.Field 10 value bytes → length value ≡ 3 → length bytes ≡ 7
seven_bytes value bytes field three =
    ap length field.whole ∙ simp length-append (omega (arith, two_digits field.text field.is_tag))

module _ {T : Tables} (message : List ℕ) (m : Message T message) (fits : length message ≤ 8192) where
  sizes : length message ≡ length m.first + length m.second + length m.counted + 7
  sizes =
      ap length m.whole
      ∙ simp length-append (omega (arith, seven_bytes m.check-sum m.last m.last_is m.three_digits_lem))

  pub message-some : 1 ≤ length message
  message-some = omega (arith, sizes)

  body_length-number : nominal 0 m.body_length ≡ length m.counted
  body_length-number =
      let int = m.length_is_lem in
      let worth-is = worth-same 0 m.body_length ∙ int.worth in
      nominal-worth m.body_length 0 (digits_all m.body_length int.digits) (omega (arith, worth-is, sizes)) ∙ worth-is

  -- a whole message is announced by its length
  pub message_announced : (more : List ℕ) → announced_in (message ++ more) ≡ Ends (length message)
  unfolding message_end
  message_announced more =
      let tail : List ℕ = m.counted ++ (m.last ++ more) in
      let whole : message ++ more ≡ m.first ++ (m.second ++ tail) =
      ap (λ (l : List ℕ). l ++ more) m.whole ∙ simp append_assoc in
      let begin = field_value 8 m.begin_string m.first [] (m.second ++ tail) m.first_is in
      let body = field_value 9 m.body_length m.second m.first tail m.second_is in
      let second : value_from (begin.last + 1) (m.first ++ (m.second ++ tail)) ≡ Some (body.first, body.last) =
      ap (λ (at : ℕ). value_from at (m.first ++ (m.second ++ tail))) (omega (arith, begin.next)) ∙ body.found in
      let end : body.last + 1 + nominal 0 m.body_length + 7 ≡ length message = omega (arith, body.next, body_length-number, sizes) in
      rw whole (announced_second _ _ _ begin.found _ _ second)
      ∙ ap (λ (t : List ℕ). limited (message_end body.last (nominal 0 t))) body.text
      ∙ ap limited end
      ∙ limit_ends (length message) fits

  module _ (held rest more : List ℕ) (stream : held ++ rest ≡ message ++ more) where
    -- what has arrived announces the message's length, or nothing yet
    pub head_announced : (announced_in held ≡ Unknown) ⊎ (announced_in held ≡ Ends (length message))
    head_announced =
        ⊎_elim inl (λ same. inr (sym same ∙ ap announced_in stream ∙ message_announced more)) (announced_stays held rest)

    module _ (arrived : length message ≤ length held) where
      pub front-message : take (length message) held ≡ message
      front-message =
          sym (take-append-le (length message) held rest arrived)
          ∙ ap (take (length message)) stream
          ∙ take-append_seam message more

      pub whole_announced : announced_in held ≡ Ends (length message)
      whole_announced =
          let parts : held ≡ message ++ drop (length message) held =
          sym (take-append-drop (length message) held) ∙ ap (λ (l : List ℕ). l ++ drop (length message) held) front-message in
          ap announced_in parts ∙ message_announced (drop (length message) held)
