-- An order of the standard with a group in a group and a trailer fits the dictionary of the examples: so it is valid, and its records are
-- its fields, as they are listed here. Nothing of the message is read by computing.
use Rattle.std.specs.Prelude.{◌≡◌, refl, Bool, true, false, ◌&&◌, List, [], ◌∷◌, ◌++◌, map, ℕ, length, take, drop, leb}
use Rattle.std.proofs.Common.{ap, ◌∙◌, subst, inl, arith, leb-true}
use Rattle.std.proofs.Math.Bool.{and-eq-true_iff}
use Rattle.std.proofs.lemmas.List.{map-append}
use Prim.Native.String.{String}
use Rattle.field_rules.specs.Text.{bytes}
use Rattle.standard_rules.specs.Standard.{Body, All, Told, told, Fields, members, entries, Stands, Message}
use Rattle.standard_rules.proofs.Samples.{Sample, value, no_data, no_count, in_body_lem, once, of-group, int, written, a-field, a_data, tag_test, value_test, length_of, delimiter_of, outside as may-stand}
use Rattle.standard_rules.specs.Reading.{others, nothing}
use Rattle.build_config.specs.declared.Config.{Config}
use Rattle.build_config.specs.Settings.{validating}
use Rattle.dictionary_layout_rules.specs.Layout.{Layout, end, field, group, first_of, position_from, position_in, group_since, group_of, delimiter_of_lem, required_tags}
use Rattle.dictionary_layout_rules.specs.Layout.{entries as entries_laid_out}
use Rattle.dictionary_layout_rules.specs.Tree.{holds_tag, knows, plain_fields, header_tags_lem, trailer_tags_lem, flattened, same_bytes, message_of, layout_of}
use Rattle.build_records.specs.declared.Record.{Record}
use Rattle.build_group_rules.specs.Groups.{is_delimiter, opens}
use Rattle.build_group_rules.specs.Reading.{accepted, opened_as, layout_rules}
use Rattle.build_body_rules.specs.Kinds.{group_kind, placed_kind, body_kind}
use Rattle.build_answers.specs.declared.Answer.TheVariants.{Valid}
use Rattle.build_rules.specs.Examples.{dictionary}
use Rattle.build_rules.specs.Message.{message_read}
use Rattle.promise_standard.specs.Reading.{Readable}
use Rattle.promise_standard.specs.Groups.{numbered, Tell, no_record, one_record, tag_behind, entries_of, Leaves, Rises, Fits}
use Rattle.promise_standard_build.specs.Fitting.{BodyFits, HasRequired, FitsDictionary, TellMessage}
use Rattle.promise_standard_build.proofs.MessageBuilt.{ReadAs, fitting_read}

-- ===== the order =====

then_field : (t : ℕ) (text v : String) {fs : List Told} {rest : List ℕ} → (tag_test (bytes text) t && value_test (bytes v)) ≡ true → length_of t ≡ nothing
    → Fields Sample fs rest → Fields Sample (told t (bytes v) ∷ fs) (written (bytes text) (bytes v) ++ rest)
then_field t text v e n more = Fields.plain (a-field t text v e) (no_data t n) more

abbrev member : (t : ℕ) (v : List ℕ) {ts : List ℕ} {fs : List Told} → Body Sample t → delimiter_of t ≡ nothing → Stands Sample (Body Sample) (members ts) fs
    → Stands Sample (Body Sample) (members (t ∷ ts)) (told t v ∷ fs)
member t v b n more = Stands.field b (no_count t n) more

abbrev parties : Stands Sample (Body Sample) (entries 539 524 1) (told 524 (bytes "P") ∷ told 525 (bytes "D") ∷ [])
parties =
    Stands.entry (member 524 _ (in_body_lem 524 refl refl) refl (member 525 _ (in_body_lem 525 refl refl) refl Stands.no_member)) (of-group 539 (524 ∷ 525 ∷ []) refl)
    (once (524 ∷ 525 ∷ []) refl) Stands.no_entry

abbrev first_entry : Stands Sample (Body Sample) (members (79 ∷ 80 ∷ 539 ∷ []))
    (told 79 (bytes "A") ∷ told 80 (bytes "5") ∷ told 539 (bytes "1") ∷ told 524 (bytes "P") ∷ told 525 (bytes "D") ∷ [])
first_entry =
    member 79 _ (in_body_lem 79 refl refl) refl (member 80 _ (in_body_lem 80 refl refl) refl
    (Stands.group {t = 539} {d = 524} {n = 0} {gs = told 524 (bytes "P") ∷ told 525 (bytes "D") ∷ []} (in_body_lem 539 refl refl) refl
    (int (bytes "1") 1 refl) parties Stands.no_member))

abbrev second_entry : Stands Sample (Body Sample) (entries 78 79 1) (told 79 (bytes "B") ∷ told 80 (bytes "7") ∷ [])
second_entry =
    Stands.entry {fs = told 79 (bytes "B") ∷ told 80 (bytes "7") ∷ []} {gs = []}
    (member 79 _ (in_body_lem 79 refl refl) refl (member 80 _ (in_body_lem 80 refl refl) refl Stands.no_member)) (of-group 78 (79 ∷ 80 ∷ []) refl)
    (once (79 ∷ 80 ∷ []) refl) Stands.no_entry

abbrev allocation_fields : List Told
allocation_fields =
    told 79 (bytes "A") ∷ told 80 (bytes "5") ∷ told 539 (bytes "1") ∷ told 524 (bytes "P") ∷ told 525 (bytes "D") ∷ told 79 (bytes "B") ∷ told 80
    (bytes "7") ∷ []

abbrev allocations : Stands Sample (Body Sample) (entries 78 79 2) allocation_fields
allocations = Stands.entry first_entry (of-group 78 (79 ∷ 80 ∷ 539 ∷ []) refl) (once (79 ∷ 80 ∷ 539 ∷ []) refl) second_entry

abbrev body_fields : List Told
body_fields = told 38 (bytes "12") ∷ (told 78 (bytes "2") ∷ (allocation_fields ++ (told 58 (bytes "x") ∷ [])))

abbrev body_stands : Stands Sample (Body Sample) (members (38 ∷ 78 ∷ 58 ∷ [])) body_fields
body_stands =
    member 38 _ (in_body_lem 38 refl refl) refl
    (Stands.group {t = 78} {d = 79} {n = 1} {gs = allocation_fields} (in_body_lem 78 refl refl) refl (int (bytes "2") 2 refl) allocations
    (member 58 _ (in_body_lem 58 refl refl) refl Stands.no_member))

abbrev text : List ℕ
text = bytes "8=F|9=74|35=D|34=2|38=12|78=2|79=A|80=5|539=1|524=P|525=D|79=B|80=7|58=x|93=1|89=z|10=095|"

counted : Fields Sample (told 35 (bytes "D") ∷ ((told 34 (bytes "2") ∷ []) ++ (body_fields ++ (told 93 (bytes "1") ∷ told 89 (bytes "z") ∷ []))))
    (bytes "35=D|34=2|38=12|78=2|79=A|80=5|539=1|524=P|525=D|79=B|80=7|58=x|93=1|89=z|")
counted =
    then_field 35 "35" "D" refl refl (then_field 34 "34" "2" refl refl (then_field 38 "38" "12" refl refl
    (then_field 78 "78" "2" refl refl (then_field 79 "79" "A" refl refl (then_field 80 "80" "5" refl refl (then_field 539 "539" "1" refl refl
    (then_field 524 "524" "P" refl refl (then_field 525 "525" "D" refl refl
    (then_field 79 "79" "B" refl refl (then_field 80 "80" "7" refl refl (then_field 58 "58" "x" refl refl
    (Fields.paired {l = 93} {t = 89} refl (a_data 93 89 "93" "1" "89" "z" refl refl refl) Fields.no_field))))))))))))

abbrev order : Message Sample text
order = record {
  begin_string = bytes "F";
  body_length = bytes "74";
  msg_type = bytes "D";
  header = told 34 (bytes "2") ∷ [];
  body = body_fields;
  trailer = told 93 (bytes "1") ∷ told 89 (bytes "z") ∷ [];
  check-sum = bytes "095";
  first = bytes "8=F|";
  second = bytes "9=74|";
  counted = bytes "35=D|34=2|38=12|78=2|79=A|80=5|539=1|524=P|525=D|79=B|80=7|58=x|93=1|89=z|";
  last = bytes "10=095|";
  header_tags = 34 ∷ [];
  body-tags = 38 ∷ 78 ∷ 58 ∷ [];
  trailer_tags = 93 ∷ 89 ∷ [];
  whole = refl;
  first_is = a-field 8 "8" "F" refl;
  second_is = a-field 9 "9" "74" refl;
  counted_is = counted;
  last_is = a-field 10 "10" "095" refl;
  length_is_lem = int (bytes "74") 74 refl;
  sum_is_lem = int (bytes "095") 95 refl;
  three_digits_lem = refl;
  header_is = Stands.field refl (no_count 34 refl) Stands.no_member;
  body_is = body_stands;
  trailer_is = Stands.field refl (no_count 93 refl) (Stands.field refl (no_count 89 refl) Stands.no_member);
  no_tag-twice = once (34 ∷ 38 ∷ 78 ∷ 58 ∷ 93 ∷ 89 ∷ []) refl;
  outside_groups = may-stand (34 ∷ 38 ∷ 78 ∷ 58 ∷ 93 ∷ 89 ∷ []) refl;
}

-- ===== it fits =====

abbrev config : Config
config = validating true

abbrev strict : ℕ → Bool
strict = accepted config (knows dictionary)

-- "group 78 (79 and 80 required; group 539 with 524 required, 525)"
abbrev parties_layout : Layout
parties_layout = field 524 true (field 525 false end)

abbrev allocations_layout : Layout
allocations_layout = field 79 true (field 80 true (group 539 false parties_layout end))

abbrev order_layout : Layout
order_layout = field 38 false (group 78 false allocations_layout (field 58 false end))

quantity_rises : Rises (layout_rules strict) allocations_layout 0 1 80
unfolding layout_rules opens is_delimiter position_in position_from first_of delimiter_of_lem
quantity_rises = record { no_delimiter = refl; placed = refl; rises = omega arith }

count_rises : Rises (layout_rules strict) allocations_layout 1 2 539
unfolding layout_rules opens is_delimiter position_in position_from first_of delimiter_of_lem
count_rises = record { no_delimiter = refl; placed = refl; rises = omega arith }

source_rises : Rises (layout_rules strict) parties_layout 0 1 525
unfolding layout_rules opens is_delimiter position_in position_from first_of delimiter_of_lem
source_rises = record { no_delimiter = refl; placed = refl; rises = omega arith }

allocations_fit : Fits (layout_rules strict) (entries_of allocations_layout 1) 58 (entries 78 79 2) allocation_fields allocations
unfolding layout_rules opens is_delimiter position_in position_from first_of group_of group_since delimiter_of_lem opened_as tag_behind accepted
allocations_fit =
    let inner : Fits (layout_rules strict) (entries_of parties_layout 2) 79 _ _ parties = Fits.starts refl
    (Fits.plain source_rises (inl refl) Fits.no_member) Fits.no_entry in
    let leaves : Leaves (layout_rules strict) parties_layout 79 = record { no_delimiter = refl; no_position = refl; not_accepted = refl } in
    Fits.starts refl (Fits.plain quantity_rises (inl refl) (Fits.nested {depth = 1} count_rises refl (omega arith) leaves inner Fits.no_member))
    (Fits.starts refl (Fits.plain quantity_rises (inl refl) Fits.no_member) Fits.no_entry)

allocations_leave : Leaves (layout_rules strict) allocations_layout 58
unfolding layout_rules opens is_delimiter position_in position_from first_of delimiter_of_lem accepted
allocations_leave = record { no_delimiter = refl; no_position = refl; not_accepted = refl }

-- 79 and 80 in each entry of 78, and 524 in that of 539
allocations_have : HasRequired allocations_layout allocations
unfolding required_tags holds_tag group_of group_since
allocations_have =
    let parties-have : (inner : Layout) → entries_laid_out parties_layout ≡ entries_laid_out inner → HasRequired inner parties =
    λ inner e. subst (λ (l : Layout). HasRequired l parties) (let same : parties_layout ≡ inner = cc in same) (All.also refl All.none, tt, tt) in
    (All.also refl (All.also refl All.none), (parties-have, tt), (All.also refl (All.also refl All.none), tt, tt))

order_fits : FitsDictionary dictionary config order
unfolding layout_rules position_in position_from first_of group_of group_since opened_as tag_behind accepted body_kind placed_kind group_kind holds_tag plain_fields header_tags_lem trailer_tags_lem flattened same_bytes message_of layout_of
order_fits = record {
  header-plain = All.also (no_count 34 refl) All.none;
  header-known = All.also refl All.none;
  header-ends = refl;
  layout = order_layout;
  type-known = refl;
  body_fits =
      BodyFits.field refl (BodyFits.group {inner = allocations_layout} refl allocations_fit allocations_have allocations_leave
      (BodyFits.field refl BodyFits.no_member));
  body-ends = refl;
  trailer-known = refl;
  trailer-plain = All.also (no_count 93 refl) (All.also (no_count 89 refl) All.none);
}

readable_field : (t : ℕ) (v : String) {fs : List Told} → (leb t 4294967295 && value_test (bytes v)) ≡ true → Readable fs → Readable (told t (bytes v) ∷ fs)
readable_field t v e more =
    let b = (and-eq-true_iff (leb t 4294967295) (value_test (bytes v))).0 e in
    Readable.also (leb-true t 4294967295 b.0) (value (bytes v) b.1).plain more

order_readable : Readable (told 35 (bytes "D") ∷ others order)
order_readable =
    readable_field 35 "D" refl (readable_field 34 "2" refl (readable_field 38 "12" refl (readable_field 78 "2" refl (readable_field 79 "A" refl
    (readable_field 80 "5" refl (readable_field 539 "1" refl (readable_field 524 "P" refl (readable_field 525 "D" refl (readable_field 79 "B" refl
    (readable_field 80 "7" refl (readable_field 58 "x" refl (readable_field 93 "1" refl (readable_field 89 "z" refl Readable.none)))))))))))))

-- THE THEOREM applies
order-read : ReadAs order (message_read dictionary config text)
order-read = fitting_read dictionary config order refl (omega arith) order_fits (omega arith) order_readable

-- ===== its records, as listed =====

-- part, depth, entry number, tag and value
abbrev Seen : Type 0
Seen = ℕ × ℕ × ℕ × ℕ × List ℕ

abbrev seen : List ℕ → Record → Seen
seen message r = (r.part, r.depth, r.number, r.tag, take r.length (drop r.place message))

unfoldable listed : ℕ → List (ℕ × ℕ) → List Told → List Seen
listed part [] fs = []
listed part (n ∷ ns) [] = []
listed part (n ∷ ns) (f ∷ fs) = (part, n.0, n.1, f.tag, f.value) ∷ listed part ns fs

-- records that tell fields are seen as these fields
tell_seen : {message : List ℕ} {part : ℕ} {ns : List (ℕ × ℕ)} {fs : List Told} {rs : List Record} → Tell message part ns fs rs
    → map (seen message) rs ≡ listed part ns fs
unfolding listed
tell_seen no_record = refl
tell_seen (one_record part depth number tag value more) = rw (part, depth, number, tag, value, tell_seen more)

-- depth and entry number of each field of the body
order-numbered : numbered 0 0 order.body_is ≡ (0, 0) ∷ (0, 0) ∷ (1, 1) ∷ (1, 1) ∷ (1, 1) ∷ (2, 1) ∷ (2, 1) ∷ (1, 2) ∷ (1, 2) ∷ (0, 0) ∷ []
unfolding numbered
order-numbered = refl

abbrev order_seen : List Seen
order_seen =
    (1, 0, 0, 8, bytes "F") ∷ (1, 0, 0, 9, bytes "74") ∷ (1, 0, 0, 35, bytes "D") ∷ (1, 0, 0, 34, bytes "2")
    ∷ (2, 0, 0, 38, bytes "12") ∷ (2, 0, 0, 78, bytes "2")
    ∷ (2, 1, 1, 79, bytes "A") ∷ (2, 1, 1, 80, bytes "5") ∷ (2, 1, 1, 539, bytes "1") ∷ (2, 2, 1, 524, bytes "P") ∷ (2, 2, 1, 525, bytes "D")
    ∷ (2, 1, 2, 79, bytes "B") ∷ (2, 1, 2, 80, bytes "7") ∷ (2, 0, 0, 58, bytes "x")
    ∷ (3, 0, 0, 10, bytes "095") ∷ (3, 0, 0, 93, bytes "1") ∷ (3, 0, 0, 89, bytes "z") ∷ []

order_tells : {rs : List Record} → TellMessage order rs → map (seen text) rs ≡ order_seen
unfolding listed numbered
order_tells t =
    ap (map (seen text)) t.in_order
    ∙ map-append (seen text) t.header_records _
    ∙ ap (λ (l : List Seen). map (seen text) t.header_records ++ l) (map-append (seen text) t.body_records t.trailer_records)
    ∙ rw (tell_seen t.header_tells, tell_seen t.body_tells, tell_seen t.trailer_tells)

order_seen_lem : ((message_read dictionary config text).answer ≡ Valid) × (map (seen text) (message_read dictionary config text).records ≡ order_seen)
order_seen_lem = (order-read.valid, order_tells order-read.tell)
