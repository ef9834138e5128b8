-- What the exports of `gateway` ensure, word for word as crates/gateway/src says it: the number answered, what is left of all that was lent,
-- and the four words of `out`. And calls of them one after the other, each on what the one before left.
use Rattle.std.specs.Prelude.{ℕ, ◌≡◌, List, length, get_or}
use Rattle.build_answers.specs.Answer.{number_of, values_of}
use Rattle.message_take_over.specs.Taking.{taking_over}
use Rattle.encode_rules.specs.Encode.{encoding_of}
use Rattle.face_told.specs.Told.{told, taking_number, taken_words, taken_values, encoding_number, encoding_length, left_words, left_values, left_output}
use Rattle.face_messages.specs.declared.FieldRecord.{FieldRecord}
use Rattle.face_messages.specs.Lent.{built_from, built_over, records_lent, words_lent}
use Rattle.dictionary_prepared.specs.Memory.{preparation, preparing_of, copy_of, memory_of, number_of_preparing, value_of_preparing}

-- `gateway_build`
pub record Builds (message : List ℕ) (separator settings : ℕ) (dictionary : List ℕ) (records : List FieldRecord) (number : ℕ) (records_left : List FieldRecord) (out : List ℕ) : Type 0 where
  pub answers : number ≡ number_of (built_from message separator settings dictionary (length records)).answer
  pub fills : records_left ≡ records_lent (built_from message separator settings dictionary (length records)) records
  pub tells : out ≡ told (built_from message separator settings dictionary (length records)).records (values_of (built_from message separator settings dictionary (length records)).answer)

-- `gateway_prepare`
pub record Prepares (dictionary copy memory : List ℕ) (number : ℕ) (copy_left memory_left out : List ℕ) : Type 0 where
  pub answers : number ≡ number_of_preparing (preparing_of (preparation dictionary copy memory))
  pub leaves-copy : copy_left ≡ copy_of (preparation dictionary copy memory)
  pub leaves-memory : memory_left ≡ memory_of (preparation dictionary copy memory)
  pub tells : out ≡ told 0 (value_of_preparing (preparing_of (preparation dictionary copy memory)), 0)

-- `gateway_build_prepared`
pub record BuildsPrepared (message : List ℕ) (separator settings : ℕ) (copy memory : List ℕ) (records : List FieldRecord) (number : ℕ) (records_left : List FieldRecord) (out : List ℕ) : Type 0 where
  pub answers : number ≡ number_of (built_over message separator settings copy memory (length records)).answer
  pub fills : records_left ≡ records_lent (built_over message separator settings copy memory (length records)) records
  pub tells : out ≡ told (built_over message separator settings copy memory (length records)).records (values_of (built_over message separator settings copy memory (length records)).answer)

-- `gateway_take_over`
pub record TakesOver (records : List FieldRecord) (count : ℕ) (message words values : List ℕ) (number : ℕ) (words_left values_left out : List ℕ) : Type 0 where
  pub answers : number ≡ taking_number (taking_over (words_lent records) count message words values)
  pub leaves-words : words_left ≡ taken_words (taking_over (words_lent records) count message words values)
  pub leaves-values : values_left ≡ taken_values (taking_over (words_lent records) count message words values)
  pub tells : out ≡ told 0 (0, 0)

-- `gateway_encode`
pub record Encodes (words values output : List ℕ) (separator number : ℕ) (words_left values_left output_left out : List ℕ) : Type 0 where
  pub answers : number ≡ encoding_number (encoding_of separator words values output)
  pub leaves-words : words_left ≡ left_words (encoding_of separator words values output)
  pub leaves-values : values_left ≡ left_values (encoding_of separator words values output)
  pub leaves_output : output_left ≡ left_output (encoding_of separator words values output)
  pub tells : out ≡ told 0 (encoding_length (encoding_of separator words values output), 0)

-- A build, take-over of as many records as it told, from the records that it filled, and an encode of what take-over left, with the same separator
pub record Calls (message : List ℕ) (separator settings : ℕ) (dictionary : List ℕ) (records : List FieldRecord) (words values output : List ℕ) : Type 0 where
  pub built : ℕ
  pub built_records : List FieldRecord
  pub built_out : List ℕ
  pub builds : Builds message separator settings dictionary records built built_records built_out
  pub taken : ℕ
  pub taken_words : List ℕ
  pub taken_values : List ℕ
  pub taken_out : List ℕ
  pub takes-over : TakesOver built_records (get_or built_out 0 0) message words values taken taken_words taken_values taken_out
  pub encoded : ℕ
  pub encoded-words : List ℕ
  pub encoded-values : List ℕ
  pub encoded_output : List ℕ
  pub encoded_out : List ℕ
  pub encodes : Encodes taken_words taken_values output separator encoded encoded-words encoded-values encoded_output encoded_out
