-- "so is an encoding with separator 0x01": a message whose maps conform, and whose tags don't repeat across parts, is written as a message of
-- the standard. Encoding sets BodyLength and CheckSum itself, so what the message holds under 9 and 10 may be anything.
use Rattle.std.specs.Prelude.{◌≡◌, true, false, List, ◌++◌, ℕ, ◌+◌}
use Rattle.standard_rules.specs.Standard.{Tables, Body, NoData, All, placed}
use Rattle.standard_rules.proofs.StandardLaws.{one_of}
use Rattle.message_maps.specs.Map.{Map, holds, without_field, some, value_under}
use Rattle.message_lent_rules.specs.Meaning.{Message}
use Rattle.message_lent_rules.specs.Formed.{Formed}
use Rattle.encoder.specs.FoundLaws.{hangs}
use Rattle.promise_standard_encodings.specs.EncodedMaps.{fields, Conforms, tags_of}
use Rattle.promise_standard_encodings.specs.EncodedHeader.{others_of}

-- no tag is held by both
abbrev pub Apart : Map → Map → Type 0
Apart a b = (tag : ℕ) → holds tag a ≡ true → holds tag b ≡ false

-- what encoding asks for: a message of RULES.md, Field maps, and not "a header without 8 or 35"
pub record Complete (m : Message) : Type 0 where
  pub formed : Formed m
  pub begin_string : holds 8 m.header ≡ true
  pub msg_type : holds 35 m.header ≡ true

-- What is asked of all that encoding doesn't set itself, for FIX's tables: each part has tags of its own and conforms; 8 and 35 have values;
-- "no run on the header's 8 or 9", nor on its 35; 8, 9, 35 and 10 stand in no other place; no tag stands in header and trailer; a tag outside
-- groups may stand there.
pub record Conformant (T : Tables) (IsValue : List ℕ → Type 0) (m : Message) : Type 0 where
  pub header : Conforms T IsValue T.Header fields (others_of m.header)
  pub body : Conforms T IsValue (Body T) fields m.body
  pub trailer : Conforms T IsValue T.Trailer fields (without_field 10 m.trailer)
  pub begin_string : (value : List ℕ) → value_under 8 m.header ≡ some value → IsValue value
  pub msg_type : (value : List ℕ) → value_under 35 m.header ≡ some value → IsValue value
  pub msg_type_no_data : NoData T 35
  pub begin_string-alone : hangs 8 m.header ≡ false
  pub body_length-alone : hangs 9 m.header ≡ false
  pub msg_type-alone : hangs 35 m.header ≡ false
  pub check-sum_in_header : holds 10 m.header ≡ false
  pub placed_in_body : (tag : ℕ) → one_of placed tag ≡ true → holds tag m.body ≡ false
  pub placed_in_trailer : (tag : ℕ) → one_of placed tag ≡ true → holds tag (without_field 10 m.trailer) ≡ false
  pub header-trailer : Apart (others_of m.header) (without_field 10 m.trailer)
  pub outside_groups : All T.Outside (tags_of (others_of m.header) ++ (tags_of m.body ++ tags_of (without_field 10 m.trailer)))
