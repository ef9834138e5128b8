-- Worked examples of this crate's definitions, one table under one statement, which antt computes.
-- A wrong definition is refused here, whatever code is proved against it.
use Rattle.std.specs.Prelude.{◌≡◌, refl, List, [], ◌∷◌, ◌++◌, Bool, true, false, ℕ, length}
use Rattle.field_rules.specs.Text.{bytes}
use Rattle.field_rules.specs.Decimal.{decimal, decimal_within}
use Rattle.field_rules.specs.CheckSum.{sum_of, checksum_digits}
use Rattle.message_maps.specs.Map.{Map, end, field, entry, joined, holds, holds_any, replaced, without_field, leading, past_leading, run_on, without_run, stored}
use Rattle.message_maps.specs.Map.{hung_on_count, hung_alone, hung, Looked, none, some, value_under, field_count, values_in}
use Rattle.message_lent_rules.specs.Meaning.{Message}
use Rattle.encode_rules.specs.Encoding.{text, text_under, is_first, is_rest, header_text, message_text, bytes_of, dropped, body_length, measured, sum_digits}
use Rattle.encode_rules.specs.Encoding.{summed, encoding, encoded_message}

-- P1 as a caller makes it: a header with 8 and 35
heartbeat : Message
heartbeat = record { header = stored 35 (bytes "0") (stored 8 (bytes "FIX.4.4") end); body = end; trailer = end }

-- a header with 35 before 8, and a held 9; a body whose count of two entries, one with a nested run, follows a field; a trailer with 10 first
order : Message
order =
    record {
      header = field 35 (bytes "D") (field 9 (bytes "0") (field 34 (bytes "2") (field 8 (bytes "FIX.4.4") end)));
      body =
          field 38 (bytes "600") (field 78 (bytes "2")
          (entry 78 79 (field 79 (bytes "A") (field 539 (bytes "1") (entry 539 524 (field 524 (bytes "p") end) end)))
          (entry 78 79 (field 79 (bytes "B") end) end)));
      trailer = field 10 (bytes "000") (field 93 (bytes "1") end);
    }

encodings : encoding 1 heartbeat ∷ encoding 1 order ∷ []
    ≡ bytes "8=FIX.4.4|9=5|35=0|10=163|" ∷ bytes "8=FIX.4.4|9=49|35=D|34=2|38=600|78=2|79=A|539=1|524=p|79=B|93=1|10=247|" ∷ []
unfolding heartbeat order encoding summed sum_digits message_text header_text text_under text is_first is_rest measured dropped body_length bytes_of without_field
    stored holds replaced joined without_run run_on decimal decimal_within sum_of checksum_digits
encodings = refl

-- the new 10 stands last, a held 9 keeps its place, a missing one comes last in the header
left : encoded_message 1 heartbeat ∷ encoded_message 1 order ∷ []
    ≡ record { header = field 8 (bytes "FIX.4.4") (field 35 (bytes "0") (field 9 (bytes "5") end)); body = end; trailer = field 10 (bytes "163") end }
    ∷ record {
      header = field 35 (bytes "D") (field 9 (bytes "49") (field 34 (bytes "2") (field 8 (bytes "FIX.4.4") end)));
      body = order.body;
      trailer = field 93 (bytes "1") (field 10 (bytes "247") end);
    } ∷ []
unfolding heartbeat order encoded_message encoding summed sum_digits message_text header_text text_under text is_first is_rest measured dropped body_length bytes_of
    without_field stored holds replaced joined without_run run_on decimal decimal_within sum_of checksum_digits
left = refl
