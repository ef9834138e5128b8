-- The other way round: a message of the standard that is read as exactly its fields fits the dictionary. Each field made a record, so each
-- part was read field by field, and the parts of the records are those of the message.
use Rattle.std.specs.Prelude.{◌≡◌, ◌↔◌, Bool, eqb, ltb}
use Rattle.std.proofs.Math.Path.{refl, ap}
use Rattle.std.proofs.Common.{sym, ◌∙◌, subst, length-append, eq-eqb, lt-ltb, le-ltb, Option, Ok}
use Rattle.std.proofs.Math.Bool.{true, false}
use mathlib.Core.List.{List, [], ◌∷◌, ◌++◌, append-nil}
use Prim.Native.Nat.{ℕ, zero, suc, ◌+◌, ◌≤◌, ◌<◌}
use native.Mathlib.Omega.{arith}
use Rattle.std.proofs.Math.ListN.{length}
use Rattle.field_rules.specs.Choice.{pick}
use Rattle.field_rules.specs.Field.{start_at}
use Rattle.field_rules.specs.Fields.{Fields, unreadable, field, fields_from}
use Rattle.field_rules.specs.declared.Cause.{Cause}
use Rattle.field_rules.specs.declared.Cause.TheVariants.{NoEquals}
use Rattle.field_rules.specs.declared.Field.{Field}
use Rattle.standard_rules.specs.Standard.{Tables, NoCount, Body, All, Told, told, members, Stands, Message}
use Rattle.standard_rules.proofs.StandardLaws.{tags}
use Rattle.standard_rules.specs.Reading.{others}
use Rattle.build_config.specs.declared.Config.{Config}
use Rattle.dictionary_layout_rules.specs.Tree.{Dictionary, holds_tag, knows, header_tags_lem, trailer_tags_lem, laid_out, layout_of}
use Rattle.build_records.specs.declared.Record.{Record}
use Rattle.build_nesting_laws.specs.Entries.{all_none, all_more, all_append, all_map}
use Rattle.build_nesting_laws.specs.Entries.{All as AllRecords}
use Rattle.build_nesting_laws.specs.Formed.{Own}
use Rattle.build_required_rules.specs.Required.{before}
use Rattle.build_parts.specs.Parts.{ended, part_record}
use Rattle.build_parts.specs.Header.{header_from}
use Rattle.build_parts.specs.Trailer.{stopped, unstopped, trailer_from}
use Rattle.build_records.specs.Records.{stored, value_at}
use Rattle.build_integrity_rules.specs.declared.Verified.{Verified}
use Rattle.build_rules.specs.Beginning.{verified_records, header_of, msg_type_record}
use Rattle.build_group_rules.specs.Reading.{accepted, layout_rules}
use Rattle.build_body_rules.specs.Kinds.{body_kind}
use Rattle.build_body_rules.specs.Body.{body_from}
use Rattle.build_group_rules.specs.Groups.{entry_record}
use Rattle.build_order_laws.specs.Follows.{Follows, Reaches, here as at_place, further}
use Rattle.build_order_laws.specs.Follows.{no_field as follows_none, one_field as follows-one}
use Rattle.build_order_laws.specs.HeaderStores.{header_stores}
use Rattle.build_rules.specs.Message.{Outcome, message_read}
use Rattle.promise_standard.specs.Reading.{standard_mode, ReadsAs, no_field, one_field, Readable}
use Rattle.promise_standard.specs.Groups.{numbered, records_as, Tell, no_record, one_record, tag_behind}
use Rattle.promise_standard.proofs.GroupOpen.{entries-start}
use Rattle.promise_standard.proofs.GroupSteps.{tell_each, reads_split}
use Rattle.promise_standard.specs.Sound.{standard_sound, standard_read}
use Rattle.build_integrity_rules.specs.Integrity.{integrity_of}
use Rattle.field_rules.specs.declared.Mode.{Mode}
use Rattle.build_order_laws.specs.TrailerStores.{at-stop, at_end, trailer_at}
use Rattle.build_order_laws.specs.TrailerStores.{Last as Stopped}
use Rattle.build_order_laws.specs.StoresLaws.{reaches_then}
use Rattle.build_order_laws.specs.InParts.{InParts, in_parts}
use Rattle.build_order_laws.specs.InOrder.{sizes, never_more, InOrder, in_order}
use Rattle.promise_standard_build.specs.Fitting.{BodyFits, header_fields, trailer_fields, header_numbers, trailer_numbers, fields_of, behind_body, behind_header, FitsDictionary, TellMessage}
use Rattle.promise_standard_build.specs.MessageTags.{behind-both}
use Rattle.promise_standard_build.proofs.BodyExact.{same_place, BodyEnds, body_exact}
use Rattle.promise_standard_build.proofs.MessageBuilt.{Last, reads-last, verified, verified_are, others-read, three_of, type_value, ReadAs, fitting_read}
use Rattle.promise_standard_build.proofs.RequiredExact.{before-append}
use Rattle.promise_standard_build.specs.BodySteps.{same-behind, the_body}

-- ===== header and trailer =====

-- a header that took fields up to one: they are header tags, and that is none
pub record HeaderTags (known : List ℕ) (fs : List Told) (x : Field) : Type 0 where
  pub taken : All (λ t. holds_tag t known ≡ true) (tags fs)
  pub ended-there : holds_tag x.tag known ≡ false

module _ (message known : List ℕ) (x : Field) (rest : Fields) (left : ℕ) (final : List Record) where
  pub header_exact : (fs : List Told) (done : List Record) (fields : Fields) → ReadsAs message fields fs (field x rest)
      → header_from known fields (length fs + suc left) done ≡ ended x rest left final → HeaderTags known fs x
  unfolding header_from
  header_exact _ done _ no_field e =
      let room : suc left ≡ 0 + suc left = omega arith in
      by_tag (holds_tag x.tag known) refl (ap (λ (n : ℕ). header_from known (field x rest) n done) room ∙ e)
    where
      by_tag : (b : Bool) → holds_tag x.tag known ≡ b → pick b (header_from known rest left (stored (part_record 1 x) done))
          (ended x rest left done) ≡ ended x rest left final → HeaderTags known [] x
      by_tag true h e = let s = header_stores known rest left (stored (part_record 1 x) done) x rest left final e in absurd (omega (arith, s.room_is))
      by_tag false h e = record { taken = All.none; ended-there = h }
  header_exact _ done _ (one_field {f = f} {t = t} {v = v} {rest = later} {ts = fs} same value reads) e =
      let room : suc (length fs + suc left) ≡ suc (length fs) + suc left = omega arith in
      by_tag (holds_tag f.tag known) refl (ap (λ (n : ℕ). header_from known (field f later) n done) room ∙ e)
      (λ q. header_exact fs (stored (part_record 1 f) done) later reads q)
    where
      by_tag : (b : Bool) → holds_tag f.tag known ≡ b → pick b (header_from known later (length fs + suc left) (stored (part_record 1 f) done))
          (ended f later (length fs + suc left) done) ≡ ended x rest left final
          → (header_from known later (length fs + suc left) (stored (part_record 1 f) done) ≡ ended x rest left final → HeaderTags known fs x)
          → HeaderTags known (told t v ∷ fs) x
      by_tag true h e more =
          let r = more e in record { taken = All.also (ap (λ (n : ℕ). holds_tag n known) (sym same) ∙ h) r.taken; ended-there = r.ended-there }
      by_tag false h e more = let room : length fs + suc left ≡ left = cc in absurd (omega arith)

-- a trailer that reads up to a CheckSum is stopped there
pub trailer-stopped : {message : List ℕ} {fields : Fields} {hs : List Told} (z : Field) (end : Fields) (room : ℕ) (rs ts : List Record) → z.tag ≡ 10
    → ReadsAs message fields hs (field z end) → trailer_from fields room rs ≡ unstopped ts → ⊥
unfolding trailer_from
trailer-stopped z end zero rs ts ten no_field e = let y : ◌≡◌ {A = ℕ} 0 1 = cc in absurd (omega arith)
trailer-stopped z end (suc room) rs ts ten no_field e = by_tag (eqb z.tag 10) (eq-eqb _ _ ten) e
  where
    by_tag : (b : Bool) → b ≡ true → pick b (stopped z rs) (trailer_from end room (stored (part_record 3 z) rs)) ≡ unstopped ts → ⊥
    by_tag true h e = let y : ◌≡◌ {A = ℕ} 0 1 = cc in absurd (omega arith)
    by_tag false h e = let y : ◌≡◌ {A = ℕ} 0 1 = cc in absurd (omega arith)
trailer-stopped z end zero rs ts ten (one_field tag value reads) e = let y : ◌≡◌ {A = ℕ} 0 1 = cc in absurd (omega arith)
trailer-stopped z end (suc room) rs ts ten (one_field {f = f} {rest = later} tag value reads) e =
    by_tag (eqb f.tag 10) e (trailer-stopped z end room (stored (part_record 3 f) rs) ts ten reads)
  where
    by_tag : (b : Bool) → pick b (stopped f rs) (trailer_from later room (stored (part_record 3 f) rs)) ≡ unstopped ts
        → (trailer_from later room (stored (part_record 3 f) rs) ≡ unstopped ts → ⊥) → ⊥
    by_tag true e more = let y : ◌≡◌ {A = ℕ} 0 1 = cc in absurd (omega arith)
    by_tag false e more = more e

-- records outside groups that tell members: none of them opens a group
pub plain-from : {message : List ℕ} {part : ℕ} {T : Tables} {Here : ℕ → Type 0} {ts : List ℕ} {fs : List Told} {rs : List Record}
    (s : Stands T Here (members ts) fs) → Tell message part (numbered 0 0 s) fs rs → AllRecords (Own 0 0) rs → All (NoCount T) (tags fs)
unfolding numbered
plain-from Stands.no_member tells own = All.none
plain-from (Stands.field _ single s) (one_record part depth number tag value more) (all_more o own) = All.also single (plain-from s more own)
plain-from (Stands.group _ opening i g s) (one_record part depth number tag value more) (all_more o own) =
    absurd (first-deep (rw (entries-start 1 0 g).1 at more) own)
  where
    first-deep : {message : List ℕ} {part : ℕ} {ns : List (ℕ × ℕ)} {fs : List Told} {rs : List Record} → Tell message part ((1, 1) ∷ ns) fs rs
        → AllRecords (Own 0 0) rs → ⊥
    first-deep (one_record part depth number tag value more) (all_more o own) = omega (arith, depth, o.deep)

-- ===== places =====

follows_reaches : {part : ℕ} {fields last : Fields} {rs : List Record} → Follows part fields rs last → Reaches fields (length rs) last
follows_reaches follows_none = at_place
follows_reaches (follows-one r o f) = further (follows_reaches f)

-- a field that reading comes to stands before the end, or is the last
reaches_fewer : {message : List ℕ} {fields more : Fields} {g : Field} {fs : List Told} {n place : ℕ} {cause : Cause}
    → ReadsAs message fields fs (unreadable cause place) → Reaches fields n (field g more) → n < length fs
reaches_fewer no_field never = elim never [ ]
reaches_fewer (one_field tag value reads) at_place = omega arith
reaches_fewer (one_field tag value reads) (further r) = omega (arith, reaches_fewer reads r)

record From (message : List ℕ) (fields : Fields) (z : Field) (end : Fields) : Type 0 where
  fields-left : List Told
  reads : ReadsAs message fields fields-left (field z end)

reads-from : {message : List ℕ} {fields more : Fields} {g z : Field} {fs : List Told} {n place : ℕ} {cause : Cause}
    → Reaches fields n (field g more) → ReadsAs message fields fs (field z (unreadable cause place)) → From message (field g more) z (unreadable cause place)
reads-from {message = message} {more = more} {g = g} {place = place} {cause = cause} (further {f = f} {n = n} r) no_field = elim r [ ]
reads-from {fs = fs} at_place reads = record { fields-left = fs; reads = reads }
reads-from (further r) (one_field tag value reads) = reads-from r reads

-- records that follow fields and tell numbers are theirs
follows_told : {message : List ℕ} {fields last : Fields} {ns : List (ℕ × ℕ)} {fs : List Told} {rs : List Record} → Follows 2 fields rs last
    → Tell message 2 ns fs rs → rs ≡ records_as ns fields
unfolding records_as entry_record
follows_told follows_none no_record = refl
follows_told (follows-one {f = f} {rs = rs} r o more) (one_record {n = n} part depth number tag value tells) =
    let first : r ≡ entry_record n.0 n.1 f = rw (o.of, depth, number, o.tagged, o.placed, o.sized) in
    rw (first, follows_told more tells)

-- ===== parts =====

-- a record of a later part than a number
abbrev Past : ℕ → Record → Bool
Past part r = ltb part r.part

all_past : (part : ℕ) {rs : List Record} → AllRecords (λ r. Past part r ≡ true) rs → before (Past part) rs ≡ []
unfolding before
all_past part all_none = refl
all_past part (all_more h a) = rw h

tell_part : {message : List ℕ} {part : ℕ} {ns : List (ℕ × ℕ)} {fs : List Told} {rs : List Record} → Tell message part ns fs rs
    → AllRecords (λ r. r.part ≡ part) rs
tell_part no_record = all_none
tell_part (one_record part depth number tag value more) = all_more part (tell_part more)

follows_part : {part : ℕ} {fields last : Fields} {rs : List Record} → Follows part fields rs last → AllRecords (λ r. r.part ≡ part) rs
follows_part follows_none = all_none
follows_part (follows-one r o f) = all_more o.of (follows_part f)

-- records of one part and then of later ones
front : (part : ℕ) (rs more : List Record) → AllRecords (λ r. r.part ≡ part) rs → AllRecords (λ r. part < r.part) more → before (Past part) (rs ++ more) ≡ rs
front part rs more own later =
    before-append (Past part) more (all_map (λ r e. le-ltb part r.part (omega (arith, e))) own)
    ∙ ap (λ (l : List Record). rs ++ l) (all_past part (all_map (λ r h. lt-ltb part r.part h) later)) ∙ append-nil rs

same_parts : (part : ℕ) (a b x y : List Record) → AllRecords (λ r. r.part ≡ part) a → AllRecords (λ r. r.part ≡ part) x → AllRecords (λ r. part < r.part) b
    → AllRecords (λ r. part < r.part) y → a ++ b ≡ x ++ y → (a ≡ x) × (b ≡ y)
same_parts part a b x y pa px pb py e =
    let first : a ≡ x = sym (front part a b pa pb) ∙ ap (before (Past part)) e ∙ front part x y px py in
    (first, same-behind x b y (ap (λ (l : List Record). l ++ b) (sym first) ∙ e))

-- ===== the message =====

last-moved : (message : List ℕ) (fs : List Told) (end : Fields) (mode : Mode) (v w : Verified) → mode ≡ standard_mode → v ≡ w
    → Last message (fields_from standard_mode message w.msg_type.next) fs 10 end → Last message (fields_from mode message v.msg_type.next) fs 10 end
last-moved message fs end mode v w e f l = rw (e, f) l

module _ (dictionary : Dictionary) (config : Config) {T : Tables} {bytes : List ℕ} (m : Message T bytes) (separator : config.mode ≡ standard_mode)
    (small : length bytes ≤ 8192) (readable : Readable (told 35 m.msg_type ∷ others m)) where
  abbrev read : Outcome
  read = message_read dictionary config bytes

  all_read : ReadsAs bytes (fields_from config.mode bytes (start_at 0)) (fields_of m) (unreadable NoEquals (length bytes))
  all_read = rw separator (standard_read bytes m small readable)

  -- up to CheckSum
  to_last : Last bytes (fields_from config.mode bytes (start_at 0))
      (told 8 m.begin_string ∷ (told 9 m.body_length ∷ (told 35 m.msg_type ∷ others m))) 10 (unreadable NoEquals (length bytes))
  to_last = reads-last bytes _ _ (told 8 m.begin_string ∷ (told 9 m.body_length ∷ (told 35 m.msg_type ∷ others m))) 10 m.check-sum all_read

  -- as many records as fields
  told_each : {rs : List Record} → TellMessage m rs → length rs ≡ length (fields_of m)
  told_each t =
      omega (
        arith,
        ap length t.in_order,
        length-append t.header_records (t.body_records ++ t.trailer_records),
        length-append t.body_records
            t.trailer_records,
        tell_each t.header_tells,
        tell_each t.body_tells,
        tell_each t.trailer_tells,
        length-append (others m) (told 10 m.check-sum ∷ []),
        length-append m.header (m.body ++ m.trailer),
        length-append m.body m.trailer,
      )

  -- the trailer is stopped by CheckSum, so no more fields are counted than there are
  counted_most : (g : Field) (more : Fields) (room n k : ℕ) (rs ts : List Record) (stop : Option Field) (last : Fields) → Stopped stop last
      → Reaches (fields_from config.mode bytes (start_at 0)) n last → Reaches (fields_from config.mode bytes (start_at 0)) k (field g more)
      → trailer_from (field g more) room rs ≡ trailer_at stop ts → n < length (fields_of m)
  unfolding trailer_at
  counted_most g more room n k rs ts _ _ (at-stop ten) r f e = reaches_fewer all_read r
  counted_most g more room n k rs ts _ _ at_end r f e =
      let l = to_last in
      absurd (trailer-stopped l.last _ room rs ts l.tag_is (reads-from f l.reads).reads e)

  ordered : ReadAs m read → InOrder dictionary config bytes
  ordered r =
      let p = in_parts dictionary config bytes r.valid in
      let s = sizes dictionary config bytes _ p in
      let a = reaches_then s.of_header.reaches s.of_body_lem.reaches in
      let most = counted_most p.g p.more (suc p.room₂) _ _ _ p.whole-trailer _ _ s.of_trailer.is_last
      (reaches_then a s.of_trailer.stores.reaches) a p.trailer-read in
      in_order dictionary config bytes r.valid (omega (arith, told_each r.tell, never_more dictionary config bytes r.valid, s.counted, most))

  -- read in order: the parts of the records, and the places where they end, are those of the message
  module _ (t : TellMessage m read.records) (o : InOrder dictionary config bytes) where
    abbrev p : InParts dictionary config bytes read
    p = o.parts

    abbrev check : Record
    check = part_record 3 p.verified.checksum

    same_records : t.header_records ++ (t.body_records ++ t.trailer_records) ≡ p.header ++ (p.body ++ (check ∷ o.trailer))
    same_records = sym t.in_order ∙ o.records

    trailer-part : AllRecords (λ q. q.part ≡ 3) (check ∷ o.trailer)
    unfolding part_record
    trailer-part = all_more refl (follows_part o.trailer_follows)

    past : (part n : ℕ) {rs : List Record} → part < n → AllRecords (λ q. q.part ≡ n) rs → AllRecords (λ q. part < q.part) rs
    past part n l a = all_map (λ q e. omega (arith, e)) a

    same-header : (t.header_records ≡ p.header) × (t.body_records ++ t.trailer_records ≡ p.body ++ (check ∷ o.trailer))
    same-header =
        same_parts 1 t.header_records (t.body_records ++ t.trailer_records) p.header (p.body ++ (check ∷ o.trailer)) (tell_part t.header_tells)
        (follows_part o.header_follows)
        (all_append _ (past 1 2 (omega arith) (tell_part t.body_tells)) (past 1 3 (omega arith) (tell_part t.trailer_tells)))
        (all_append _ (past 1 2 (omega arith) (follows_part o.body_follows)) (past 1 3 (omega arith) trailer-part)) same_records

    same_body : (t.body_records ≡ p.body) × (t.trailer_records ≡ check ∷ o.trailer)
    same_body =
        same_parts 2 t.body_records t.trailer_records p.body (check ∷ o.trailer) (tell_part t.body_tells) (follows_part o.body_follows)
        (past 2 3 (omega arith) (tell_part t.trailer_tells)) (past 2 3 (omega arith) trailer-part) same-header.1

    same-verified : p.verified ≡ verified m small
    same-verified =
        let a : integrity_of standard_mode bytes ≡ Ok p.verified = ap (λ (mode : Mode). integrity_of mode bytes) (sym separator) ∙ p.sound in
        let b = (standard_sound bytes m small).sound in cc

    behind_type : Last bytes (fields_from config.mode bytes p.verified.msg_type.next) (others m) 10 (unreadable NoEquals (length bytes))
    behind_type = last-moved bytes (others m) _ config.mode p.verified (verified m small) separator same-verified (others-read m small readable)

    -- the header's fields
    header-count : length o.others ≡ length m.header
    header-count = omega (arith, ap length o.header-starts, ap length same-header.0, tell_each t.header_tells)

    body-count : length p.body ≡ length m.body
    body-count = omega (arith, ap length same_body.0, tell_each t.body_tells)

    record Places : Type 0 where
      in_header_lem : ReadsAs bytes (fields_from config.mode bytes p.verified.msg_type.next) m.header (field p.f p.rest)
      in_body_lem : ReadsAs bytes (field p.f p.rest) m.body (field p.g p.more)
      header-tag : p.f.tag ≡ behind_header m
      body-tag : p.g.tag ≡ behind_body m

    places : Places
    places =
        let l = behind_type in
        let a = reads_split bytes l.last (unreadable NoEquals (length bytes)) _ m.header (m.body ++ m.trailer) l.reads in
        let first : field a.next a.rest ≡ field p.f p.rest = same_place a.reads_first (follows_reaches o.others_follow) header-count in
        let b = reads_split bytes l.last (unreadable NoEquals (length bytes)) (field p.f p.rest) m.body m.trailer
        (rw first at a.reads_second) in
        let second : field b.next b.rest ≡ field p.g p.more = same_place b.reads_first (follows_reaches o.body_follows) body-count in
        let f-is : a.next ≡ p.f = cc in
        let g-is : b.next ≡ p.g = cc in
        record {
          in_header_lem = rw first at a.reads_first;
          in_body_lem = rw second at b.reads_first;
          header-tag =
              ap (λ (f : Field). f.tag) (sym f-is) ∙ a.tag_is ∙ ap (λ (k : ℕ). tag_behind k (m.body ++ m.trailer)) l.tag_is
              ∙ behind-both 10 m.body m.trailer;
          body-tag = ap (λ (f : Field). f.tag) (sym g-is) ∙ b.tag_is ∙ ap (λ (k : ℕ). tag_behind k m.trailer) l.tag_is;
        }

    header_tags_are : HeaderTags (header_tags_lem dictionary) m.header p.f
    unfolding header_of
    header_tags_are =
        let room : length m.header + suc p.room ≡ 1021 = omega (arith, header-count, o.others-room) in
        header_exact bytes (header_tags_lem dictionary) p.f p.rest p.room p.header m.header (verified_records p.verified) _ places.in_header_lem
        (ap (λ (n : ℕ). header_from (header_tags_lem dictionary) (fields_from config.mode bytes p.verified.msg_type.next) n
        (verified_records p.verified)) room ∙ p.header_read)

    type_is : layout_of dictionary m.msg_type ≡ laid_out p.layout
    unfolding three_of
    type_is =
        let starts : p.header ≡ three_of (verified m small) ++ o.others = o.header-starts ∙ ap (λ (v : Verified). three_of v ++ o.others) same-verified in
        ap (layout_of dictionary) (sym (ap (λ (l : List Record). value_at bytes (msg_type_record l)) starts
        ∙ type_value m (standard_sound bytes m small) o.others (verified_are m small))) ∙ p.chosen

    body_is_read : BodyEnds (accepted config (knows dictionary)) p.layout (trailer_tags_lem dictionary) bytes T (Body T) p.g p.more p.room₂ m.body_is
    body_is_read =
        let records : p.body ≡ records_as (numbered 0 0 m.body_is) (field p.f p.rest) = follows_told o.body_follows
        (rw same_body.0 at t.body_tells) in
        body_exact (accepted config (knows dictionary)) p.layout (trailer_tags_lem dictionary) bytes T (Body T) p.g p.more p.room₂ m.body_is []
        (field p.f p.rest) places.in_body_lem
        (ap (λ (n : ℕ). body_from (the_body (accepted config (knows dictionary)) p.layout (trailer_tags_lem dictionary)) (field p.f p.rest) n [])
        (omega (arith, body-count, o.body_room)) ∙ p.body-read ∙ ap (λ (l : List Record). ended p.g p.more p.room₂ l) records)

    header_is_plain : All (NoCount T) (tags m.header)
    header_is_plain = by_tell (rw same-header.0 at t.header_tells) o.header-own
      where
        by_tell : {rs : List Record} → Tell bytes 1 (header_numbers m) (header_fields m) rs → AllRecords (Own 0 0) rs → All (NoCount T) (tags m.header)
        by_tell (one_record _ _ _ _ _ (one_record _ _ _ _ _ (one_record _ _ _ _ _ tells))) (all_more _ (all_more _ (all_more _ own))) =
            plain-from m.header_is tells own

    trailer_is_plain : All (NoCount T) (tags m.trailer)
    trailer_is_plain = by_tell (rw same_body.1 at t.trailer_tells) o.trailer-own
      where
        by_tell : {q : Record} {rs : List Record} → Tell bytes 3 (trailer_numbers m) (trailer_fields m) (q ∷ rs) → AllRecords (Own 0 0) rs
            → All (NoCount T) (tags m.trailer)
        by_tell (one_record _ _ _ _ _ tells) own = plain-from m.trailer_is tells own

    told_fits : FitsDictionary dictionary config m
    told_fits =
        let b = body_is_read in
        let tag = places.body-tag in
        record {
          header-plain = header_is_plain;
          header-known = header_tags_are.taken;
          header-ends = rw places.header-tag at header_tags_are.ended-there;
          layout = p.layout;
          type-known = type_is;
          body_fits = subst (λ (k : ℕ). BodyFits (accepted config (knows dictionary)) p.layout k m.body-tags m.body m.body_is) tag b.fits;
          body-ends = ap (body_kind (layout_rules (accepted config (knows dictionary))) p.layout) (sym tag) ∙ b.taken_not;
          trailer-known = ap (λ (k : ℕ). holds_tag k (trailer_tags_lem dictionary)) (sym tag) ∙ b.ends;
          trailer-plain = trailer_is_plain;
        }

  -- what is read as its fields fits
  pub message_fits : ReadAs m read → FitsDictionary dictionary config m
  message_fits r = told_fits r.tell (ordered r)

  -- THE STANDARD, messages: a message of the standard of at most 8,192 bytes and 1,024 fields is valid and has the records that tell it
  -- where it fits the dictionary; and only there.
  pub fitting_exact : length (fields_of m) ≤ 1024 → ReadAs m (message_read dictionary config bytes) ↔ FitsDictionary dictionary config m
  fitting_exact few = (message_fits, λ fits. fitting_read dictionary config m separator few fits small readable)
