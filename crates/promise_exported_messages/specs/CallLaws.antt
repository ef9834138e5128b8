-- Calls one after the other come to what the definitions of their cores say one after the other: take-over counts what the build told and reads
-- what it left, and encode takes what take-over left.
use Rattle.std.specs.Prelude.{ℕ, ◌%◌, ◌^◌, ◌≤◌, ◌≡◌, refl, List, [], ◌∷◌, length, get_or, take, replicate}
use Rattle.std.proofs.Common.{sym, ap, ◌∙◌, arith}
use Rattle.build_config.specs.Settings.{config_of}
use Rattle.build_records.specs.Records.{record_words}
use Rattle.build_records.specs.declared.Record.{Record}
use Rattle.build_answers.specs.Answer.{number_of, values_of}
use Rattle.build_answers.specs.declared.Answer.TheVariants.{Valid}
use Rattle.builder.specs.Build.{words_with, build_of}
use Rattle.message_take_over.specs.Taking.{after, taking_over, number_of_taken}
use Rattle.message_take_over.specs.declared.Taken.TheVariants.{Made}
use Rattle.encode_rules.specs.Encode.{Left, left, encoding_of, number_of_encoding, length_of_encoding}
use Rattle.encode_rules.specs.declared.Encoding.{Encoding}
use Rattle.encode_rules.specs.declared.Encoding.TheVariants.{Written, TooLong, NoRoom}
use Rattle.face_told.specs.Told.{told, taking_number, taken_words, taken_values, encoding_number, encoding_length, left_words, left_values, left_output}
use Rattle.face_messages.specs.declared.FieldRecord.{FieldRecord}
use Rattle.face_messages.specs.Lent.{built_from, records_from, words_lent}
use Rattle.promise_records.proofs.Uncut.{few_records}
use Rattle.promise_exported_messages.specs.Exports.{Builds, TakesOver, Encodes, Calls}
use Rattle.promise_exported_messages.specs.LentWords.{taken_alike, records_shown}
use Rattle.promise_exported_messages.specs.Numbers.{answered_valid}

-- the setting that a separator and a settings word make has that separator
pub same-separator : (settings separator : ℕ) → (config_of settings separator).mode.separator ≡ separator
unfolding config_of
same-separator settings separator = refl

-- a build of what the caller gives is one over blank words
pub from-blank : (message : List ℕ) (separator settings : ℕ) (dictionary : List ℕ) (lent : ℕ)
    → built_from message separator settings dictionary lent ≡ build_of message (config_of settings separator) dictionary lent (replicate record_words 0)
unfolding built_from
from-blank message separator settings dictionary lent = refl

pub number_valid : number_of Valid ≡ 0
unfolding number_of
number_valid = refl

-- a word of 32 bits tells a small number as it is
pub first-told : (n : ℕ) (values : ℕ × ℕ) → n ≤ 8192 → get_or (told n values) 0 0 ≡ n
unfolding told
first-told n values small = omega arith

length_told : (n : ℕ) → n ≤ 8192 → told 0 (n, 0) ≡ 0 ∷ n ∷ 0 ∷ 0 ∷ []
unfolding told
length_told n small = let e : n % 2 ^ 32 ≡ n = omega arith in rw e refl

module _ {message : List ℕ} {separator settings : ℕ} {dictionary : List ℕ} {records : List FieldRecord} where
  -- a build that answered 0
  module _ {number : ℕ} {records_left : List FieldRecord} {out : List ℕ} (b : Builds message separator settings dictionary records number records_left out)
    where
      pub built_valid : number ≡ 0 → (build_of message (config_of settings separator) dictionary (length records) (replicate record_words 0)).answer ≡ Valid
      built_valid z = unfold built_from in answered_valid message separator settings dictionary (length records) (sym b.answers ∙ z)

      pub count-told : get_or out 0 0 ≡ (built_from message separator settings dictionary (length records)).records
      count-told =
          ap (λ (l : List ℕ). get_or l 0 0) b.tells ∙ first-told (built_from message separator settings dictionary (length records)).records _
          (omega (arith, few_records message separator settings dictionary (length records)))

      -- what take-over makes of the records that it left
      pub taking_is : (words values : List ℕ) → taking_over (words_lent records_left) (get_or out 0 0) message words values
          ≡ taking_over (build_of message (config_of settings separator) dictionary (length records) (replicate record_words 0)).words
          (build_of message (config_of settings separator) dictionary (length records) (replicate record_words 0)).records message words values
      taking_is words values = rw (b.fills, count-told) (unfold built_from in taken_alike message separator settings dictionary records message words values)

      pub counted_as : {n : ℕ} → (build_of message (config_of settings separator) dictionary (length records) (replicate record_words 0)).records ≡ n
          → get_or out 0 0 ≡ n
      counted_as e = unfold built_from in (count-told ∙ e)

      -- the records that it showed, where it read what some bytes hold
      pub records_are : (rs : List Record)
          → (build_of message (config_of settings separator) dictionary (length records) (replicate record_words 0)).words ≡ words_with rs
          → (build_of message (config_of settings separator) dictionary (length records) (replicate record_words 0)).records ≡ length rs
          → records_from (take (get_or out 0 0) records_left) ≡ rs
      records_are rs words count =
          rw (b.fills, count-told) (unfold built_from in records_shown message separator settings dictionary records rs (unfold built_from in words)
          (unfold built_from in count))

-- a taking over that made a message
pub record Taken (number : ℕ) (words_left values_left words values : List ℕ) : Type 0 where
  pub made : number ≡ 0
  pub words_are : words_left ≡ words
  pub values_are : values_left ≡ values

pub taken_made : {records : List FieldRecord} {count : ℕ} {message words values : List ℕ} {number : ℕ} {words_left values_left out : List ℕ}
    → TakesOver records count message words values number words_left values_left out
    → (w v : List ℕ) → taking_over (words_lent records) count message words values ≡ after Made w v → Taken number words_left values_left w v
unfolding taking_number taken_words taken_values number_of_taken
taken_made t w v e =
    record { made = t.answers ∙ ap taking_number e; words_are = t.leaves-words ∙ ap taken_words e; values_are = t.leaves-values ∙ ap taken_values e }

-- the same of what was left before
pub encoding_as : {s r : ℕ} {w v x y : List ℕ} (output : List ℕ) → s ≡ r → w ≡ x → v ≡ y → encoding_of r w v output ≡ encoding_of s x y output
encoding_as output a b c = rw (a, b, c) refl

-- an encoding: its number, what is left, and the length that is told
pub record Encoded (encoding : Encoding) (number : ℕ) (words_left values_left output_left out words values output : List ℕ) : Type 0 where
  pub number_is : number ≡ number_of_encoding encoding
  pub words_are : words_left ≡ words
  pub values_are : values_left ≡ values
  pub output_is : output_left ≡ output
  pub out_is : out ≡ told 0 (length_of_encoding encoding, 0)

pub encoded_so : {words values output : List ℕ} {separator number : ℕ} {words_left values_left output_left out : List ℕ}
    → Encodes words values output separator number words_left values_left output_left out
    → (encoding : Encoding) (w v o : List ℕ) → encoding_of separator words values output ≡ left encoding w v o
    → Encoded encoding number words_left values_left output_left out w v o
unfolding encoding_number encoding_length left_words left_values left_output
encoded_so e encoding w v o is =
    record {
      number_is = e.answers ∙ ap encoding_number is;
      words_are = e.leaves-words ∙ ap left_words is;
      values_are = e.leaves-values ∙ ap left_values is;
      output_is = e.leaves_output ∙ ap left_output is;
      out_is = e.tells ∙ ap (λ (l : Left). told 0 (encoding_length l, 0)) is;
    }

-- of one that was written
pub number-written : (size : ℕ) → number_of_encoding (Written size) ≡ 0
unfolding number_of_encoding
number-written size = refl

pub length-written : (size : ℕ) → size ≤ 8192 → told 0 (length_of_encoding (Written size), 0) ≡ 0 ∷ size ∷ 0 ∷ 0 ∷ []
unfolding length_of_encoding
length-written size small = length_told size small

-- of one that passed 8,192 bytes
pub number_too_long : number_of_encoding TooLong ≡ 20
unfolding number_of_encoding
number_too_long = refl

pub length_too_long : told 0 (length_of_encoding TooLong, 0) ≡ 0 ∷ 0 ∷ 0 ∷ 0 ∷ []
unfolding length_of_encoding told
length_too_long = refl

-- a valid build tells its records and no values
pub counts-told : {message : List ℕ} {separator settings : ℕ} {dictionary : List ℕ} {records : List FieldRecord} {number : ℕ} {records_left : List FieldRecord}
    {out : List ℕ} (b : Builds message separator settings dictionary records number records_left out)
    → (built_from message separator settings dictionary (length records)).answer ≡ Valid → out ≡ get_or out 0 0 ∷ 0 ∷ 0 ∷ 0 ∷ []
unfolding told values_of
counts-told b valid = rw (b.tells, valid) refl

-- of one that the output has no room for
pub number_no_room : number_of_encoding NoRoom ≡ 23
unfolding number_of_encoding
number_no_room = refl

pub length_no_room : told 0 (length_of_encoding NoRoom, 0) ≡ 0 ∷ 0 ∷ 0 ∷ 0 ∷ []
unfolding length_of_encoding told
length_no_room = refl

-- the calls can always be made, whatever is given and lent
pub can_call : (message : List ℕ) (separator settings : ℕ) (dictionary : List ℕ) (records : List FieldRecord) (words values output : List ℕ)
    → Calls message separator settings dictionary records words values output
can_call message separator settings dictionary records words values output =
    record {
      built = _;
      built_records = _;
      built_out = _;
      builds = record { answers = refl; fills = refl; tells = refl };
      taken = _;
      taken_words = _;
      taken_values = _;
      taken_out = _;
      takes-over = record { answers = refl; leaves-words = refl; leaves-values = refl; tells = refl };
      encoded = _;
      encoded-words = _;
      encoded-values = _;
      encoded_output = _;
      encoded_out = _;
      encodes = record { answers = refl; leaves-words = refl; leaves-values = refl; leaves_output = refl; tells = refl };
    }
