-- A message in order, and a copy that reads like its records: the copy is read with 0, part by part beside the message.
-- Header, body and trailer are read by tags alone, and MsgType has the same value, so it chooses the same layout.
use Rattle.std.specs.Prelude.{◌≡◌, refl, Bool, List, [], ◌∷◌, ◌++◌, ℕ, suc, ◌+◌, ◌≤◌, Option, Some, None}
use Rattle.std.proofs.Common.{sym, ap, ◌∙◌, append-nil, arith, length-append}
use Rattle.std.proofs.Math.ListN.{length}
use Rattle.build_records.specs.Records.{value_at}
use Rattle.build_config.specs.declared.Config.{Config}
use Rattle.field_rules.specs.Field.{start_at}
use Rattle.field_rules.specs.Fields.{Fields, field, fields_from}
use Rattle.field_rules.proofs.FieldsLaws.{fields-field}
use Rattle.build_integrity_rules.proofs.VerifiedLaws.{verified-read}
use Rattle.build_integrity_rules.specs.declared.Verified.{Verified}
use Rattle.dictionary_layout_rules.specs.Tree.{Dictionary, knows, header_tags_lem, trailer_tags_lem, laid_out, layout_of}
use Rattle.build_records.specs.declared.Record.{Record}
use Rattle.build_group_rules.specs.Reading.{accepted, layout_rules}
use Rattle.build_required_rules.specs.Checking.{layout_demands}
use Rattle.build_answers.specs.declared.Answer.TheVariants.{Valid}
use Rattle.build_parts.specs.Parts.{ended, part_record}
use Rattle.build_parts.specs.Header.{header_from}
use Rattle.build_parts.specs.Trailer.{trailer_from}
use Rattle.build_body_rules.specs.Body.{body_from}
use Rattle.build_body_rules.specs.Kinds.{body_of}
use Rattle.build_rules.specs.Beginning.{header_of, verified_records, msg_type_record}
use Rattle.build_rules.specs.Message.{Outcome, message_read}
use Rattle.build_order_laws.specs.Counted.{trailer_fields}
use Rattle.build_order_laws.specs.Follows.{Reaches, Ordered, Stores}
use Rattle.build_order_laws.specs.StoresLaws.{reaches_then}
use Rattle.build_order_laws.specs.HeaderStores.{header_stores}
use Rattle.build_order_laws.specs.BodyStores.{body_stores}
use Rattle.build_order_laws.specs.TrailerStores.{trailer_at}
use Rattle.build_order_laws.specs.VerifiedTags.{VerifiedTags, verified-tags}
use Rattle.build_order_laws.specs.InParts.{InParts}
use Rattle.build_order_laws.specs.InOrder.{InOrder}
use Rattle.build_order_laws.proofs.TwiceMessage.{three_verified}
use Rattle.build_order_laws.specs.Agree.{Agree, same, Similar, none, more}
use Rattle.build_order_laws.specs.AgreeLaws.{agree_less}
use Rattle.build_order_laws.specs.SimilarLaws.{similar_length, alike_field}
use Rattle.build_order_laws.specs.Alongside.{Alongside}
use Rattle.build_order_laws.specs.PartReading.{header-same, Stops, trailer-same, trailer-stopped}
use Rattle.build_order_laws.specs.BodyReading.{body_same}
use Rattle.encode_rewriting_laws.proofs.Copied.{onto, copied_length}
use Rattle.encode_rewriting_laws.proofs.ReadRewritten.{ReadsLike}
use Rattle.encode_rewriting_laws.proofs.ReadWritten.{of_value}
use Rattle.message_read_laws.specs.PartReading.{of_field}
use Rattle.promise_roundtrip.specs.AgainFields.{copied_agree, copied_none_agree, stop_fields, end_agree, trailer-some, reaches-onto, reaches-rest}
use Rattle.promise_roundtrip.specs.AgainFields.{ten_ends}
use Rattle.promise_roundtrip.specs.AgainParts.{verified-first, verified_similar, msg_type_third, put_together}
use Rattle.field_rules.specs.declared.Field.{Field}

module _ (dictionary : Dictionary) (config : Config) (message : List ℕ) (order : InOrder dictionary config message) (copy : List ℕ)
    (like : ReadsLike config.mode message copy (part_record 1 order.parts.verified.begin_string) (part_record 1 order.parts.verified.msg_type)
    (order.others ++ (order.parts.body ++ order.trailer))) where
  abbrev p : InParts dictionary config message (message_read dictionary config message)
  p = order.parts

  abbrev v : Verified
  v = order.parts.verified

  abbrev w : Verified
  w = like.verified

  abbrev stop : Option Field
  stop = (message_read dictionary config message).stop

  abbrev fields : Fields
  fields = fields_from config.mode copy like.verified.msg_type.next

  -- a field for each record behind MsgType, and then the CheckSum
  behind_type : fields ≡ onto like.fields (field w.checksum like.end)
  behind_type =
      let r = verified-read config.mode copy w like.sound in
      let e : field w.begin_string (field w.body_length (field w.msg_type fields))
      ≡ field w.begin_string (field w.body_length (field w.msg_type (onto like.fields (field w.checksum like.end)))) =
      sym (fields-field config.mode copy (start_at 0) w.begin_string r.begins
      ∙ ap (λ (fs : Fields). field w.begin_string fs)
      (fields-field config.mode copy w.begin_string.next w.body_length r.counts
      ∙ ap (λ (fs : Fields). field w.body_length fs) (fields-field config.mode copy w.body_length.next w.msg_type r.types)))
      ∙ like.reads in
      cc

  -- so the fields behind MsgType agree, up to a 10 that stopped the message's trailer
  all_agree : Agree (length order.others + (length p.body + (length order.trailer + stop_fields stop)))
      (fields_from config.mode message v.msg_type.next) fields
  all_agree =
      let end = field w.checksum like.end in
      rw behind_type
      (copied_agree {bytes = message} {copy = copy} end (p.body ++ order.trailer) order.others_follow like.copied
      (λ gs c. copied_agree {bytes = message} {copy = copy} end order.trailer order.body_follows c
      (λ hs d. copied_agree {bytes = message} {copy = copy} end [] order.trailer_follows (rw (append-nil order.trailer) d)
      (λ is e. copied_none_agree e (end_agree order.is_last w.checksum like.end like.sum_tag)))))

  some-trailer : 1 ≤ length order.trailer + stop_fields stop
  some-trailer = trailer-some order.is_last order.trailer_follows refl

  tags : VerifiedTags v
  tags = verified-tags config.mode message v p.sound

  tags_again : VerifiedTags w
  tags_again = verified-tags config.mode copy w like.sound

  header_along : Alongside ended (header_from (header_tags_lem dictionary) fields 1021 (verified_records w))
      (length order.others + (length p.body + (length order.trailer + stop_fields stop))) 1021 p.f p.rest p.room p.header
  header_along =
      header-same (header_tags_lem dictionary) (fields_from config.mode message v.msg_type.next) fields 1021 _ (verified_records v) (verified_records w)
      p.f p.rest p.room p.header (unfold header_of in p.header_read)
      (verified_similar v w tags tags_again) all_agree (omega (arith, some-trailer, order.others-room))

  -- the verified fields stand first in the copy's header too
  record HeaderAgain : Type 0 where
    others : List Record
    starts : header_along.kept ≡ part_record 1 w.begin_string ∷ part_record 1 w.body_length ∷ part_record 1 w.msg_type ∷ others

  header-stored : Stores 1 fields 1021 (verified_records w) (field header_along.found header_along.behind) (suc p.room) header_along.kept
  header-stored =
      header_stores (header_tags_lem dictionary) fields 1021 (verified_records w) header_along.found header_along.behind p.room header_along.kept
      header_along.is

  header-ordered : Ordered 1 fields (verified_records w) (field header_along.found header_along.behind) header_along.kept
  header-ordered =
      header-stored.ordered (omega (
        arith,
        header-stored.room_is,
        order.others-room,
        similar_length header_along.similar,
        ap length order.header-starts,
        three_verified w tags_again,
      ))

  header_again : HeaderAgain
  header_again = record {
    others = header-ordered.new;
    starts = header-ordered.appended ∙ ap (λ (l : List Record). l ++ header-ordered.new) (verified-first w tags_again);
  }

  chosen_again : layout_of dictionary (value_at copy (msg_type_record header_along.kept)) ≡ laid_out p.layout
  chosen_again =
      ap (layout_of dictionary)
      (msg_type_third copy w header_along.kept header_again.others tags_again header_again.starts
      ∙ like.type_value
      ∙ of_value message v.msg_type (part_record 1 v.msg_type) (of_field 1 v.msg_type)
      ∙ sym (msg_type_third message v p.header order.others tags order.header-starts))
      ∙ p.chosen

  body_along : Alongside ended (body_from (body_of (layout_rules (accepted config (knows dictionary))) layout_demands (trailer_tags_lem dictionary) p.layout)
      (field header_along.found header_along.behind) (suc p.room) []) (suc header_along.left) (suc p.room) p.g p.more p.room₂
      p.body
  body_along =
      body_same (layout_rules (accepted config (knows dictionary))) layout_demands (trailer_tags_lem dictionary) p.layout (field p.f p.rest)
      (field header_along.found header_along.behind) (suc p.room) (suc header_along.left) [] [] p.g p.more p.room₂ p.body
      p.body-read
      none (same header_along.tag header_along.agree) (omega (arith, some-trailer, order.others-room, order.body_room, header_along.counted))

  -- behind the body as many fields stand before the copy's CheckSum as the message's trailer has records
  checksum_reached : Reaches (field body_along.found body_along.behind) (length order.trailer) (field w.checksum like.end)
  checksum_reached =
      let b =
      body_stores (layout_rules (accepted config (knows dictionary))) layout_demands (trailer_tags_lem dictionary) p.layout
      (field header_along.found header_along.behind) (suc p.room) [] body_along.found body_along.behind p.room₂ body_along.kept
      body_along.is in
      let all : Reaches fields (length like.fields) (field w.checksum like.end) =
      rw behind_type (reaches-onto like.fields (field w.checksum like.end)) in
      reaches-rest (reaches_then header-stored.reaches b.reaches) all
      (omega (
        arith,
        header-stored.room_is,
        b.room_is,
        order.others-room,
        order.body_room,
        copied_length like.copied,
        length-append order.others (p.body ++ order.trailer),
        length-append p.body order.trailer,
      ))

  trailer_along : Stops (trailer_from (field body_along.found body_along.behind) (suc p.room₂) (part_record 3 w.checksum ∷ []))
      (part_record 3 v.checksum ∷ order.trailer)
  trailer_along =
      by_stop stop order.trailer-read
      (agree_less (omega (arith, some-trailer, order.others-room, order.body_room, header_along.counted, body_along.counted))
      (same body_along.tag body_along.agree))
    where
      checks : Similar (part_record 3 v.checksum ∷ []) (part_record 3 w.checksum ∷ [])
      checks = more (alike_field 3 v.checksum w.checksum (tags.sums ∙ sym tags_again.sums)) none

      by_stop : (s : Option Field)
          → trailer_from (field p.g p.more) (suc p.room₂) (part_record 3 v.checksum ∷ [])
          ≡ trailer_at s (part_record 3 v.checksum ∷ order.trailer)
          → Agree (length order.trailer + stop_fields s) (field p.g p.more) (field body_along.found body_along.behind)
          → Stops (trailer_from (field body_along.found body_along.behind) (suc p.room₂) (part_record 3 w.checksum ∷ []))
          (part_record 3 v.checksum ∷ order.trailer)
      by_stop (Some f) e a =
          let l : suc (trailer_fields (field p.g p.more)) ≤ length order.trailer + stop_fields (Some f) = unfold stop_fields in
          omega (arith, order.trailer-count) in
          trailer-same (field p.g p.more) (field body_along.found body_along.behind) (suc p.room₂) (part_record 3 v.checksum ∷ [])
          (part_record 3 w.checksum ∷ []) f (part_record 3 v.checksum ∷ order.trailer) (unfold trailer_at in e) checks
          (agree_less l a)
      by_stop None e a =
          let l : trailer_fields (field p.g p.more) ≤ length order.trailer + stop_fields None = omega (arith, order.trailer-count) in
          let t =
          trailer-stopped (field p.g p.more) (field body_along.found body_along.behind) (suc p.room₂) (part_record 3 v.checksum ∷ [])
          (part_record 3 w.checksum ∷ []) (part_record 3 v.checksum ∷ order.trailer) w.checksum like.end (unfold trailer_at in e) checks
          (agree_less l a) (rw (← order.trailer-count) checksum_reached) like.sum_tag in
          record { found = w.checksum; kept = t.kept; is = t.is; tag = like.sum_tag; similar = t.similar }

  -- the copy, read with 0 in parts whose records are similar, with as much room left
  pub record ReadAlong : Type 0 where
    pub outcome : Outcome
    pub is : message_read dictionary config copy ≡ outcome
    pub valid : outcome.answer ≡ Valid
    pub parts : InParts dictionary config copy outcome
    pub others : List Record
    pub header-starts : parts.header ≡ part_record 1 parts.verified.begin_string ∷ part_record 1 parts.verified.body_length
        ∷ part_record 1 parts.verified.msg_type ∷ others
    pub header_similar : Similar order.parts.header parts.header
    pub header_room : parts.room ≡ order.parts.room
    pub body_similar : Similar order.parts.body parts.body
    pub body_room : parts.room₂ ≡ order.parts.room₂
    pub trailer_similar : Similar (part_record 3 order.parts.verified.checksum ∷ order.trailer) parts.whole-trailer
    pub trailer-few : trailer_fields (field parts.g parts.more) ≤ length order.trailer

  pub read_along : ReadAlong
  read_along =
      record {
        outcome = record { answer = Valid; records = header_along.kept ++ (body_along.kept ++ trailer_along.kept); stop = Some trailer_along.found };
        is =
            put_together dictionary config copy w like.sound p.layout header_along.found body_along.found header_along.behind
            body_along.behind p.room p.room₂ header_along.kept body_along.kept trailer_along.kept trailer_along.found
            (unfold header_of in header_along.is) chosen_again body_along.is trailer_along.is;
        valid = refl;
        parts =
            record {
              verified = w;
              sound = like.sound;
              layout = p.layout;
              f = header_along.found;
              rest = header_along.behind;
              room = p.room;
              header = header_along.kept;
              g = body_along.found;
              more = body_along.behind;
              room₂ = p.room₂;
              body = body_along.kept;
              whole-trailer = trailer_along.kept;
              header_read = unfold header_of in header_along.is;
              chosen = chosen_again;
              body-read = body_along.is;
              trailer-read = unfold trailer_at in trailer_along.is;
              records = refl;
            };
        others = header_again.others;
        header-starts = header_again.starts;
        header_similar = header_along.similar;
        header_room = refl;
        body_similar = body_along.similar;
        body_room = refl;
        trailer_similar = trailer_along.similar;
        trailer-few = ten_ends checksum_reached like.sum_tag;
      }
