-- Messages of the standard: a plain order, an order with a group in a group, and data that hold the delimiter. In quotation marks: a row
-- of the table "From the standard" of docs/DIFFERENCES.md.
use Rattle.std.specs.Prelude.{◌≡◌, refl, true, ◌&&◌, List, [], ◌∷◌, ◌++◌, ℕ, ◌%◌, length}
use Prim.Native.String.{String}
use Rattle.std.proofs.Common.{arith}
use Rattle.standard_rules.specs.Standard.{Body, Told, told, Fields, placed, members, entries, Stands, total, Message}
use Rattle.standard_rules.specs.Reading.{nothing}
use Rattle.standard_rules.proofs.StandardLaws.{one_of}
use Rattle.field_rules.specs.Text.{bytes}
use Rattle.standard_rules.proofs.Samples.{length_of, delimiter_of, header_tags, trailer_tags, Sample, no_data, no_count, in_body_lem, tag_test, value_test, int_test, distinct_test, once, outside_test, outside, int, written, a-field, a_data, of-group}

-- ===== pieces, each with its tests =====

then_field : (t : ℕ) (text v : String) {fs : List Told} {rest : List ℕ} → (tag_test (bytes text) t && value_test (bytes v)) ≡ true
    → length_of t ≡ nothing → Fields Sample fs rest → Fields Sample (told t (bytes v) ∷ fs) (written (bytes text) (bytes v) ++ rest)
then_field t text v e n more = Fields.plain (a-field t text v e) (no_data t n) more

in_header_lem : (t : ℕ) (v : List ℕ) {ts : List ℕ} {fs : List Told} → one_of header_tags t ≡ true → delimiter_of t ≡ nothing
    → Stands Sample Sample.Header (members ts) fs → Stands Sample Sample.Header (members (t ∷ ts)) (told t v ∷ fs)
in_header_lem t v h n more = Stands.field h (no_count t n) more

member : (t : ℕ) (v : List ℕ) {ts : List ℕ} {fs : List Told} → Body Sample t → delimiter_of t ≡ nothing → Stands Sample (Body Sample) (members ts) fs
    → Stands Sample (Body Sample) (members (t ∷ ts)) (told t v ∷ fs)
member t v b n more = Stands.field b (no_count t n) more

made : (length-text type sum : String) (header body trailer : List Told) (hs bs ts : List ℕ) (counted : List ℕ)
    → Fields Sample (told 35 (bytes type) ∷ (header ++ (body ++ trailer))) counted
    → Stands Sample Sample.Header (members hs) header → Stands Sample (Body Sample) (members bs) body → Stands Sample Sample.Trailer (members ts) trailer
    → value_test (bytes length-text) ≡ true → value_test (bytes sum) ≡ true → int_test (bytes length-text) (length counted) ≡ true
    → int_test (bytes sum) (total (written (bytes "8") (bytes "F") ++ (written (bytes "9") (bytes length-text) ++ counted)) % 256) ≡ true
    → length (bytes sum) ≡ 3
    → distinct_test (placed ++ (hs ++ (bs ++ ts))) ≡ true → outside_test (hs ++ (bs ++ ts)) ≡ true
    → Message Sample (written (bytes "8") (bytes "F") ++ (written (bytes "9") (bytes length-text) ++ (counted ++ written (bytes "10") (bytes sum))))
made length-text type sum header body trailer hs bs ts counted fields h b t v₁ v₂ i₁ i₂ three o i = record {
  begin_string = bytes "F";
  body_length = bytes length-text;
  msg_type = bytes type;
  header = header;
  body = body;
  trailer = trailer;
  check-sum = bytes sum;
  first = written (bytes "8") (bytes "F");
  second = written (bytes "9") (bytes length-text);
  counted = counted;
  last = written (bytes "10") (bytes sum);
  header_tags = hs;
  body-tags = bs;
  trailer_tags = ts;
  whole = refl;
  first_is = a-field 8 "8" "F" refl;
  second_is = a-field 9 "9" length-text v₁;
  counted_is = fields;
  last_is = a-field 10 "10" sum v₂;
  length_is_lem = int (bytes length-text) (length counted) i₁;
  sum_is_lem = int (bytes sum) _ i₂;
  three_digits_lem = omega (arith, three);
  header_is = h;
  body_is = b;
  trailer_is = t;
  no_tag-twice = once (hs ++ (bs ++ ts)) o;
  outside_groups = outside (hs ++ (bs ++ ts)) i;
}

-- ===== a plain order =====

pub order : Message Sample (bytes "8=F|9=30|35=D|49=S|56=T|34=2|38=1|58=x|10=079|")
order =
    made "30" "D" "079"
    (told 49 (bytes "S") ∷ told 56 (bytes "T") ∷ told 34 (bytes "2") ∷ []) (told 38 (bytes "1") ∷ told 58 (bytes "x") ∷ []) []
    (49 ∷ 56 ∷ 34 ∷ []) (38 ∷ 58 ∷ []) [] (bytes "35=D|49=S|56=T|34=2|38=1|58=x|")
    (then_field 35 "35" "D" refl refl (then_field 49 "49" "S" refl refl (then_field 56 "56" "T" refl refl
    (then_field 34 "34" "2" refl refl (then_field 38 "38" "1" refl refl (then_field 58 "58" "x" refl refl Fields.no_field))))))
    (in_header_lem 49 _ refl refl (in_header_lem 56 _ refl refl (in_header_lem 34 _ refl refl Stands.no_member)))
    (member 38 _ (in_body_lem 38 refl refl) refl (member 58 _ (in_body_lem 58 refl refl) refl Stands.no_member))
    Stands.no_member
    refl refl refl refl refl refl refl

-- ===== two entries, a group in the first =====

parties : Stands Sample (Body Sample) (entries 539 524 1) (told 524 (bytes "P") ∷ told 525 (bytes "D") ∷ [])
parties =
    Stands.entry {fs = told 524 (bytes "P") ∷ told 525 (bytes "D") ∷ []} {gs = []}
    (member 524 _ (in_body_lem 524 refl refl) refl (member 525 _ (in_body_lem 525 refl refl) refl Stands.no_member))
    (of-group 539 (524 ∷ 525 ∷ []) refl) (once (524 ∷ 525 ∷ []) refl) Stands.no_entry

first_entry : Stands Sample (Body Sample) (members (79 ∷ 80 ∷ 539 ∷ []))
    (told 79 (bytes "A") ∷ told 80 (bytes "5") ∷ told 539 (bytes "1") ∷ told 524 (bytes "P") ∷ told 525 (bytes "D") ∷ [])
first_entry =
    member 79 _ (in_body_lem 79 refl refl) refl (member 80 _ (in_body_lem 80 refl refl) refl
    (Stands.group {t = 539} {d = 524} {n = 0} {gs = told 524 (bytes "P") ∷ told 525 (bytes "D") ∷ []}
    (in_body_lem 539 refl refl) refl (int (bytes "1") 1 refl) parties Stands.no_member))

allocations : Stands Sample (Body Sample) (entries 78 79 2)
    (told 79 (bytes "A") ∷ told 80 (bytes "5") ∷ told 539 (bytes "1") ∷ told 524 (bytes "P") ∷ told 525 (bytes "D")
    ∷ told 79 (bytes "B") ∷ told 80 (bytes "7") ∷ [])
allocations =
    Stands.entry {fs = told 79 (bytes "A") ∷ told 80 (bytes "5") ∷ told 539 (bytes "1") ∷ told 524 (bytes "P") ∷ told 525 (bytes "D") ∷ []}
    first_entry (of-group 78 (79 ∷ 80 ∷ 539 ∷ []) refl) (once (79 ∷ 80 ∷ 539 ∷ []) refl)
    (Stands.entry {fs = told 79 (bytes "B") ∷ told 80 (bytes "7") ∷ []} {gs = []}
    (member 79 _ (in_body_lem 79 refl refl) refl (member 80 _ (in_body_lem 80 refl refl) refl Stands.no_member))
    (of-group 78 (79 ∷ 80 ∷ []) refl) (once (79 ∷ 80 ∷ []) refl) Stands.no_entry)

pub groups : Message Sample (bytes "8=F|9=59|35=D|34=2|78=2|79=A|80=5|539=1|524=P|525=D|79=B|80=7|38=12|10=059|")
groups =
    made "59" "D" "059"
    (told 34 (bytes "2") ∷ [])
    (told 78 (bytes "2") ∷ told 79 (bytes "A") ∷ told 80 (bytes "5") ∷ told 539 (bytes "1") ∷ told 524 (bytes "P") ∷ told 525 (bytes "D")
    ∷ told 79 (bytes "B") ∷ told 80 (bytes "7") ∷ told 38 (bytes "12") ∷ []) []
    (34 ∷ []) (78 ∷ 38 ∷ []) [] (bytes "35=D|34=2|78=2|79=A|80=5|539=1|524=P|525=D|79=B|80=7|38=12|")
    (then_field 35 "35" "D" refl refl (then_field 34 "34" "2" refl refl (then_field 78 "78" "2" refl refl (then_field 79 "79" "A" refl refl
    (then_field 80 "80" "5" refl refl (then_field 539 "539" "1" refl refl
    (then_field 524 "524" "P" refl refl (then_field 525 "525" "D" refl refl (then_field 79 "79" "B" refl refl
    (then_field 80 "80" "7" refl refl (then_field 38 "38" "12" refl refl Fields.no_field)))))))))))
    (in_header_lem 34 _ refl refl Stands.no_member)
    (Stands.group {t = 78} {d = 79} {n = 1}
    {gs = told 79 (bytes "A") ∷ told 80 (bytes "5") ∷ told 539 (bytes "1") ∷ told 524 (bytes "P") ∷ told 525 (bytes "D")
    ∷ told 79 (bytes "B") ∷ told 80 (bytes "7") ∷ []}
    (in_body_lem 78 refl refl) refl (int (bytes "2") 2 refl) allocations
    (member 38 _ (in_body_lem 38 refl refl) refl Stands.no_member))
    Stands.no_member
    refl refl refl refl refl refl refl

-- ===== data in the body and in the trailer, with delimiters in the values =====

pub holds_delimiter : Message Sample (bytes "8=F|9=38|35=D|34=2|95=3|96=a|b|58=x|93=2|89=|||10=095|")
holds_delimiter =
    made "38" "D" "095"
    (told 34 (bytes "2") ∷ []) (told 95 (bytes "3") ∷ told 96 (bytes "a|b") ∷ told 58 (bytes "x") ∷ []) (told 93 (bytes "2") ∷ told 89 (bytes "||") ∷ [])
    (34 ∷ []) (95 ∷ 96 ∷ 58 ∷ []) (93 ∷ 89 ∷ []) (bytes "35=D|34=2|95=3|96=a|b|58=x|93=2|89=|||")
    (then_field 35 "35" "D" refl refl (then_field 34 "34" "2" refl refl (Fields.paired {l = 95} {t = 96} refl (a_data 95 96 "95" "3" "96" "a|b" refl refl refl)
    (then_field 58 "58" "x" refl refl (Fields.paired {l = 93} {t = 89} refl (a_data 93 89 "93" "2" "89" "||" refl refl refl) Fields.no_field)))))
    (in_header_lem 34 _ refl refl Stands.no_member)
    (member 95 _ (in_body_lem 95 refl refl) refl (member 96 _ (in_body_lem 96 refl refl) refl (member 58 _ (in_body_lem 58 refl refl) refl Stands.no_member)))
    (Stands.field refl (no_count 93 refl) (Stands.field refl (no_count 89 refl) Stands.no_member))
    refl refl refl refl refl refl refl

-- "`95=1|96=||`": a data field's value is as long as its length field says, whatever bytes it holds
pub data_delimiter : Message Sample (bytes "8=F|9=15|35=0|95=1|96=||10=250|")
data_delimiter =
    made "15" "0" "250" [] (told 95 (bytes "1") ∷ told 96 (bytes "|") ∷ []) [] [] (95 ∷ 96 ∷ []) [] (bytes "35=0|95=1|96=||")
    (then_field 35 "35" "0" refl refl (Fields.paired {l = 95} {t = 96} refl (a_data 95 96 "95" "1" "96" "|" refl refl refl) Fields.no_field))
    Stands.no_member
    (member 95 _ (in_body_lem 95 refl refl) refl (member 96 _ (in_body_lem 96 refl refl) refl Stands.no_member))
    Stands.no_member
    refl refl refl refl refl refl refl

-- ===== numbers that are no tags may have leading zeros =====

one_account : Stands Sample (Body Sample) (entries 78 79 1) (told 79 (bytes "A") ∷ [])
one_account =
    Stands.entry {fs = told 79 (bytes "A") ∷ []} {gs = []} (member 79 _ (in_body_lem 79 refl refl) refl Stands.no_member)
    (of-group 78 (79 ∷ []) refl) (once (79 ∷ []) refl) Stands.no_entry

pub leading_zeros : Message Sample (bytes "8=F|9=00016|35=D|78=01|79=A|10=017|")
leading_zeros =
    made "00016" "D" "017" [] (told 78 (bytes "01") ∷ told 79 (bytes "A") ∷ []) [] [] (78 ∷ []) [] (bytes "35=D|78=01|79=A|")
    (then_field 35 "35" "D" refl refl (then_field 78 "78" "01" refl refl (then_field 79 "79" "A" refl refl Fields.no_field)))
    Stands.no_member
    (Stands.group {t = 78} {d = 79} {n = 0} {gs = told 79 (bytes "A") ∷ []} (in_body_lem 78 refl refl) refl (int (bytes "01") 1 refl) one_account Stands.no_member)
    Stands.no_member
    refl refl refl refl refl refl refl

-- ===== what is not ruled out =====

-- a length tag without its data is a field like any other
pub lone_length : Message Sample (bytes "8=F|9=15|35=D|95=3|58=x|10=133|")
lone_length =
    made "15" "D" "133" [] (told 95 (bytes "3") ∷ told 58 (bytes "x") ∷ []) [] [] (95 ∷ 58 ∷ []) [] (bytes "35=D|95=3|58=x|")
    (then_field 35 "35" "D" refl refl (then_field 95 "95" "3" refl refl (then_field 58 "58" "x" refl refl Fields.no_field)))
    Stands.no_member
    (member 95 _ (in_body_lem 95 refl refl) refl (member 58 _ (in_body_lem 58 refl refl) refl Stands.no_member))
    Stands.no_member
    refl refl refl refl refl refl refl

-- "`4294967296=x|`": no limit to a tag
pub large_tag : Message Sample (bytes "8=F|9=18|35=0|4294967296=x|10=066|")
large_tag =
    made "18" "0" "066" [] (told 4294967296 (bytes "x") ∷ []) [] [] (4294967296 ∷ []) [] (bytes "35=0|4294967296=x|")
    (then_field 35 "35" "0" refl refl (then_field 4294967296 "4294967296" "x" refl refl Fields.no_field))
    Stands.no_member
    (member 4294967296 _ (in_body_lem 4294967296 refl refl) refl Stands.no_member)
    Stands.no_member
    refl refl refl refl refl refl refl

-- "D with `1000000=x|`": the ranges of users' tags are not of the encoding
pub user-tag : Message Sample (bytes "8=F|9=15|35=D|1000000=x|10=138|")
user-tag =
    made "15" "D" "138" [] (told 1000000 (bytes "x") ∷ []) [] [] (1000000 ∷ []) [] (bytes "35=D|1000000=x|")
    (then_field 35 "35" "D" refl refl (then_field 1000000 "1000000" "x" refl refl Fields.no_field))
    Stands.no_member
    (member 1000000 _ (in_body_lem 1000000 refl refl) refl Stands.no_member)
    Stands.no_member
    refl refl refl refl refl refl refl

-- "a message without a field of its body that its layout requires": nor is what a type of message requires
pub nothing_required : Message Sample (bytes "8=F|9=5|35=D|10=082|")
nothing_required =
    made "5" "D" "082" [] [] [] [] [] [] (bytes "35=D|") (then_field 35 "35" "D" refl refl Fields.no_field) Stands.no_member Stands.no_member Stands.no_member
    refl refl refl refl refl refl refl

-- any order of an entry's members behind its delimiter, for the tables have none: 80 behind the group 539, as well as before it
party : Stands Sample (Body Sample) (entries 539 524 1) (told 524 (bytes "P") ∷ [])
party =
    Stands.entry {fs = told 524 (bytes "P") ∷ []} {gs = []} (member 524 _ (in_body_lem 524 refl refl) refl Stands.no_member)
    (of-group 539 (524 ∷ []) refl) (once (524 ∷ []) refl) Stands.no_entry

disordered_entry : Stands Sample (Body Sample) (members (79 ∷ 539 ∷ 80 ∷ []))
    (told 79 (bytes "A") ∷ told 539 (bytes "1") ∷ told 524 (bytes "P") ∷ told 80 (bytes "5") ∷ [])
disordered_entry =
    member 79 _ (in_body_lem 79 refl refl) refl
    (Stands.group {t = 539} {d = 524} {n = 0} {gs = told 524 (bytes "P") ∷ []} (in_body_lem 539 refl refl) refl (int (bytes "1") 1 refl) party
    (member 80 _ (in_body_lem 80 refl refl) refl Stands.no_member))

pub disordered : Message Sample (bytes "8=F|9=32|35=D|78=1|79=A|539=1|524=P|80=5|10=099|")
disordered =
    made "32" "D" "099" []
    (told 78 (bytes "1") ∷ told 79 (bytes "A") ∷ told 539 (bytes "1") ∷ told 524 (bytes "P") ∷ told 80 (bytes "5") ∷ []) []
    [] (78 ∷ []) [] (bytes "35=D|78=1|79=A|539=1|524=P|80=5|")
    (then_field 35 "35" "D" refl refl (then_field 78 "78" "1" refl refl (then_field 79 "79" "A" refl refl (then_field 539 "539" "1" refl refl
    (then_field 524 "524" "P" refl refl (then_field 80 "80" "5" refl refl Fields.no_field))))))
    Stands.no_member
    (Stands.group {t = 78} {d = 79} {n = 0} {gs = told 79 (bytes "A") ∷ told 539 (bytes "1") ∷ told 524 (bytes "P") ∷ told 80 (bytes "5") ∷ []}
    (in_body_lem 78 refl refl) refl (int (bytes "1") 1 refl)
    (Stands.entry {fs = told 79 (bytes "A") ∷ told 539 (bytes "1") ∷ told 524 (bytes "P") ∷ told 80 (bytes "5") ∷ []} {gs = []} disordered_entry
    (of-group 78 (79 ∷ 539 ∷ 80 ∷ []) refl) (once (79 ∷ 539 ∷ 80 ∷ []) refl) Stands.no_entry)
    Stands.no_member)
    Stands.no_member
    refl refl refl refl refl refl refl
