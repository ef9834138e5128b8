-- The framing says something: P1 is a message of the standard that fits, so there is a run that takes it in and hands it out.
-- Its digits, values and tags are told by tests that antt computes.
use Rattle.std.specs.Prelude.{◌≡◌, refl, List, [], ◌∷◌, ℕ, replicate}
use Rattle.std.proofs.Common.{arith}
use Rattle.std.proofs.lemmas.List.{length-replicate}
use Rattle.field_rules.specs.Text.{bytes}
use Rattle.standard_rules.specs.Standard.{Fields, Stands}
use Rattle.standard_rules.proofs.Samples.{Sample, no_data, a-field, int, once, outside}
use Rattle.frame_parser_rules.specs.Stream.{Fits, begins}
use Rattle.frame_parser_rules.specs.Stream as stream
use Rattle.frame_parser_rules.proofs.Framing.{Further, framing-goes_on, framing-whole}

abbrev sample : List ℕ
sample = bytes "8=FIX.4.4|9=5|35=0|10=163|"

pub sample_fits : Fits Sample sample
sample_fits =
    record {
      message = record {
        begin_string = bytes "FIX.4.4";
        body_length = bytes "5";
        msg_type = bytes "0";
        header = [];
        body = [];
        trailer = [];
        check-sum = bytes "163";
        first = bytes "8=FIX.4.4|";
        second = bytes "9=5|";
        counted = bytes "35=0|";
        last = bytes "10=163|";
        header_tags = [];
        body-tags = [];
        trailer_tags = [];
        whole = refl;
        first_is = a-field 8 "8" "FIX.4.4" refl;
        second_is = a-field 9 "9" "5" refl;
        counted_is = Fields.plain (a-field 35 "35" "0" refl) (no_data 35 refl) Fields.no_field;
        last_is = a-field 10 "10" "163" refl;
        length_is_lem = int (bytes "5") 5 refl;
        sum_is_lem = int (bytes "163") 163 refl;
        three_digits_lem = refl;
        header_is = Stands.no_member;
        body_is = Stands.no_member;
        trailer_is = Stands.no_member;
        no_tag-twice = once [] refl;
        outside_groups = outside [] refl;
      };
      size = omega arith;
    }

-- P1 in one chunk
pub sample-run : Further [] sample []
sample-run =
    framing-goes_on sample [] (replicate 8192 0) (sample ∷ []) (begins {store = replicate 16384 0} (length-replicate {A = ℕ} 16384 0)) (stream.also sample_fits stream.none) refl (omega arith) (omega (arith, length-replicate {A = ℕ} 8192 0))

-- comes out, and nothing else
pub sample_out : sample-run.new ≡ sample ∷ []
sample_out = framing-whole (sample ∷ []) sample-run.run (stream.also sample_fits stream.none)
