-- "Clean and repeat-free": which messages come back.
use Rattle.std.specs.Prelude.{ℕ, ◌-◌, ◌≡◌, refl, List, Bool, true, false, ◌↔◌, length, Some}
use Rattle.std.proofs.Common.{arith}
use Rattle.build_config.specs.declared.Config.{Config}
use Rattle.field_rules.specs.Field.{start_at}
use Rattle.field_rules.specs.Fields.{fields_from}
use Rattle.field_rules.specs.declared.Field.{Field}
use Rattle.dictionary_layout_rules.specs.Tree.{Dictionary, header_tags_lem, holds_tag}
use Rattle.build_answers.specs.declared.Answer.TheVariants.{Valid}
use Rattle.build_rules.specs.Message.{message_read}
use Rattle.build_order_laws.specs.Counted.{fields_counted}
use Rattle.build_order_laws.specs.Twice.{stored_twice}
use Rattle.build_order_laws.proofs.TwiceMessage.{once_all, twice_fewer}
use Rattle.encode_rewriting_laws.specs.Plain.{plain_tags, plain_length, three_digits}

module _ (dictionary : Dictionary) (config : Config) (message : List ℕ) where
  -- "built with 0, with 8, 9 and 35 among the dictionary's header tags, no tag stored twice in one map"
  pub record RepeatFree : Type 0 where
    pub valid : (message_read dictionary config message).answer ≡ Valid
    pub holds-begin_string : holds_tag 8 (header_tags_lem dictionary) ≡ true
    pub holds-body_length : holds_tag 9 (header_tags_lem dictionary) ≡ true
    pub holds_msg_type : holds_tag 35 (header_tags_lem dictionary) ≡ true
    -- each field that was counted has a record of its own
    pub none-twice : length (message_read dictionary config message).records ≡ fields_counted config.mode message (message_read dictionary config message).stop

  -- Field by field along the readers, it is the same: no field found its tag in its map already.
  pub none-twice_iff : (message_read dictionary config message).answer ≡ Valid
      → (length (message_read dictionary config message).records ≡ fields_counted config.mode message (message_read dictionary config message).stop) ↔ (stored_twice dictionary config message ≡ false)
  none-twice_iff a = (λ all. by_test (stored_twice dictionary config message) refl all, λ once. once_all dictionary config message a once)
    where
      by_test : (b : Bool) → stored_twice dictionary config message ≡ b → length (message_read dictionary config message).records ≡ fields_counted config.mode message (message_read dictionary config message).stop
          → b ≡ false
      by_test true twice all = absurd (omega (arith, all, twice_fewer dictionary config message a twice))
      by_test false once all = refl

module _ (dictionary : Dictionary) (config : Config) (message : List ℕ) where
  -- "repeat-free ..; tags and BodyLength without leading zeros; CheckSum three digits; the trailer stops at the field that starts at length
  -- minus 7"
  pub record Clean : Type 0 where
    pub repeat-free : RepeatFree dictionary config message
    pub stop : Field
    pub stops : (message_read dictionary config message).stop ≡ Some stop
    pub at_checksum : stop.first ≡ length message - 7
    pub tags-plain : plain_tags message stop.first (fields_from config.mode message (start_at 0)) ≡ true
    pub length-plain : plain_length message (fields_from config.mode message (start_at 0)) ≡ true
    pub three_digits_lem : three_digits message stop ≡ true
