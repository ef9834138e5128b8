-- A message in order, and a copy that reads like its records: read again it gives the same records with the same values, 9 and 10 apart.
-- It has as many records as fields that are counted, so no tag is stored twice in the copy either.
use Rattle.std.specs.Prelude.{◌≡◌, refl, Bool, true, false, List, [], ◌∷◌, ◌++◌, ℕ, suc, ◌+◌, length}
use Rattle.std.proofs.Math.Path.{sym}
use Rattle.std.proofs.Common.{ap, ◌∙◌, arith}
use Rattle.build_config.specs.declared.Config.{Config}
use Rattle.field_rules.specs.Field.{start_at}
use Rattle.field_rules.specs.Fields.{Fields, field, fields_from}
use Rattle.dictionary_layout_rules.specs.Tree.{Dictionary}
use Rattle.build_records.specs.declared.Record.{Record}
use Rattle.build_nesting_laws.specs.Entries.{all_more}
use Rattle.build_answers.specs.declared.Answer.TheVariants.{Valid}
use Rattle.build_parts.specs.Parts.{part_record}
use Rattle.build_rules.specs.Message.{Outcome, message_read}
use Rattle.message_take_over.specs.Derived.{given}
use Rattle.message_read_laws.specs.PartReading.{of_field}
use Rattle.build_order_laws.specs.Counted.{fields_counted}
use Rattle.build_order_laws.specs.Follows.{Follows, Ordered}
use Rattle.build_order_laws.specs.VerifiedTags.{verified-tags}
use Rattle.build_order_laws.specs.InParts.{InParts}
use Rattle.build_order_laws.specs.InOrder.{InOrder, Sizes, sizes}
use Rattle.build_order_laws.specs.Agree.{Similar, more}
use Rattle.build_order_laws.specs.SimilarLaws.{similar_length, similar_append}
use Rattle.encode_rewriting_laws.proofs.EncodedParts.{follows_in}
use Rattle.encode_rewriting_laws.proofs.ReadMessage.{Followed}
use Rattle.encode_rewriting_laws.proofs.ReadRewritten.{ReadsLike}
use Rattle.encode_rewriting_laws.proofs.ReadCopied.{carried_more, CarriedAll, read_again}
use Rattle.promise_roundtrip.specs.AgainRead.{ReadAlong, read_along}
use Rattle.promise_roundtrip.specs.AgainValues.{similar_first, similar_rest, carried_append, given-same, Split, kept_of}

-- the records of a message that was read in order, split; the header is told as it starts
module _ {dictionary : Dictionary} {config : Config} {message : List ℕ} {outcome : Outcome} (parts : InParts dictionary config message outcome)
    {one two three last : Fields} {others trailer : List Record}
    (header-starts : parts.header ≡ part_record 1 parts.verified.begin_string ∷ part_record 1 parts.verified.body_length
    ∷ part_record 1 parts.verified.msg_type ∷ others)
    (trailer-starts : parts.whole-trailer ≡ part_record 3 parts.verified.checksum ∷ trailer)
    (header_follows : Follows 1 one parts.header two) (body_follows : Follows 2 two parts.body three)
    (trailer_follows : Follows 3 three trailer last) where
  unfoldable pub split_parts : Split outcome.records
  split_parts =
      let v = parts.verified in
      let tags = verified-tags config.mode message v parts.sound in
      record {
        begin = part_record 1 v.begin_string;
        size = part_record 1 v.body_length;
        type = part_record 1 v.msg_type;
        others = others;
        body = parts.body;
        check = part_record 3 v.checksum;
        trailer = trailer;
        is = parts.records ∙ rw (header-starts, trailer-starts) refl;
        begins = (of_field 1 v.begin_string).tagged ∙ tags.begins;
        counts = (of_field 1 v.body_length).tagged ∙ tags.counts;
        types = (of_field 1 v.msg_type).tagged ∙ tags.types;
        sums = (of_field 3 v.checksum).tagged ∙ tags.sums;
        in_header_lem = rw header-starts at (follows_in header_follows);
        in_body_lem = follows_in body_follows;
        in_trailer_lem = all_more (record { of = (of_field 3 v.checksum).of }) (follows_in trailer_follows);
      }

pub follows_as : {part : ℕ} {fields last : Fields} {rs qs : List Record} → rs ≡ qs → Follows part fields rs last → Follows part fields qs last
follows_as e follows = rw (← e) follows

similar_as : {rs qs ss ts : List Record} → rs ≡ ss → qs ≡ ts → Similar rs qs → Similar ss ts
similar_as e d s = rw (← e, ← d) s

-- a copy that was read again with 0: similar records, and the same of each but the 9 and the 10
pub record Again (message : List ℕ) {rs : List Record} (before : Split rs) (copy : List ℕ) (outcome : Outcome) : Type 0 where
  pub valid : outcome.answer ≡ Valid
  pub after : Split outcome.records
  pub similar : Similar rs outcome.records
  pub same : given copy (kept_of after) ≡ given message (kept_of before)

module _ (dictionary : Dictionary) (config : Config) (message : List ℕ) (order : InOrder dictionary config message) where
  unfoldable pub split_of : Split (message_read dictionary config message).records
  split_of = split_parts order.parts order.header-starts order.trailer-starts order.header_follows order.body_follows order.trailer_follows

  module _ (copy : List ℕ)
      (like : ReadsLike config.mode message copy (part_record 1 order.parts.verified.begin_string)
      (part_record 1 order.parts.verified.msg_type) (order.others ++ (order.parts.body ++ order.trailer))) where
    along : ReadAlong dictionary config message order copy like
    along = read_along dictionary config message order copy like

    abbrev q : InParts dictionary config copy along.outcome
    q = along.parts

    counts : Sizes dictionary config copy along.outcome q
    counts = sizes dictionary config copy along.outcome q

    -- each part has as many records as fields were read
    header-many : length q.header ≡ counts.of_header.read
    header-many =
        omega (
          arith,
          counts.of_header.room_is,
          along.header_room,
          order.others-room,
          similar_length along.header_similar,
          ap length order.header-starts,
        )

    body-many : length q.body ≡ counts.of_body_lem.read
    body-many = omega (arith, counts.of_body_lem.room_is, along.header_room, along.body_room, order.body_room, similar_length along.body_similar)

    trailer-many : length q.whole-trailer ≡ suc counts.of_trailer.stores.read
    trailer-many =
        omega (arith, counts.of_trailer.counted, along.trailer-few, counts.of_trailer.stores.at_most, similar_length along.trailer_similar)

    header_follows : Follows 1 (fields_from config.mode copy (start_at 0)) q.header (field q.f q.rest)
    header_follows =
        let o = counts.of_header.ordered (omega (arith, header-many)) in
        follows_as (sym o.appended) o.follows

    body_follows : Follows 2 (field q.f q.rest) q.body (field q.g q.more)
    body_follows =
        let o = counts.of_body_lem.ordered (omega (arith, body-many)) in
        follows_as (sym o.appended) o.follows

    trailer-ordered : Ordered 3 (field q.g q.more) (part_record 3 q.verified.checksum ∷ []) counts.of_trailer.last q.whole-trailer
    trailer-ordered = counts.of_trailer.stores.ordered (omega (arith, trailer-many))

    -- its fields in the order of reading
    followed : Followed config.mode copy
        (part_record 1 q.verified.begin_string ∷ part_record 1 q.verified.body_length ∷ part_record 1 q.verified.msg_type ∷ along.others)
        q.body trailer-ordered.new counts.of_trailer.last
    followed =
        record {
          behind_header = field q.f q.rest;
          behind_body = field q.g q.more;
          header_follows = follows_as along.header-starts header_follows;
          body_follows = body_follows;
          trailer_follows = trailer-ordered.follows;
        }

    carried : CarriedAll message copy (part_record 1 order.parts.verified.begin_string) (part_record 1 order.parts.verified.msg_type)
        order.others order.parts.body order.trailer (part_record 1 q.verified.begin_string) (part_record 1 q.verified.msg_type)
        along.others q.body trailer-ordered.new
    carried =
        (read_again config.mode message copy _ _ order.others order.parts.body order.trailer _ (part_record 1 q.verified.body_length) _
        along.others q.body trailer-ordered.new counts.of_trailer.last like followed
        (omega (arith, similar_length along.header_similar, ap length order.header-starts, ap length along.header-starts))
        (omega (arith, similar_length along.body_similar))
        (omega (arith, similar_length along.trailer_similar, ap length trailer-ordered.appended))
        ).0

    similar_headers : Similar (part_record 1 order.parts.verified.begin_string ∷ part_record 1 order.parts.verified.body_length ∷ part_record 1
        order.parts.verified.msg_type ∷ order.others)
        (part_record 1 q.verified.begin_string ∷ part_record 1 q.verified.body_length ∷ part_record 1 q.verified.msg_type ∷ along.others)
    similar_headers = similar_as order.header-starts along.header-starts along.header_similar

    similar_trailers : Similar (part_record 3 order.parts.verified.checksum ∷ order.trailer)
        (part_record 3 q.verified.checksum ∷ trailer-ordered.new)
    similar_trailers = similar_as refl trailer-ordered.appended along.trailer_similar

    similar_all : Similar (message_read dictionary config message).records along.outcome.records
    similar_all =
        similar_as (sym order.records) (sym q.records)
        (similar_append along.header_similar (similar_append along.body_similar along.trailer_similar))

    again_along : Again message split_of copy along.outcome
    unfolding split_of split_parts kept_of
    again_along =
        record {
          valid = along.valid;
          after = split_parts q along.header-starts trailer-ordered.appended header_follows body_follows trailer-ordered.follows;
          similar = similar_all;
          same =
              given-same
              (more (similar_first similar_headers)
              (more (similar_first (similar_rest (similar_rest similar_headers)))
              (similar_append (similar_rest (similar_rest (similar_rest similar_headers)))
              (similar_append along.body_similar (similar_rest similar_trailers)))))
              (carried_more (carried.begin_tag ∙ sym split_of.begins) carried.begin_value
              (carried_more (carried.type_tag ∙ sym split_of.types) carried.type_value
              (carried_append carried.of_others (carried_append carried.of_body_lem carried.of_trailer))));
        }

    pub read_same : Again message split_of copy (message_read dictionary config copy)
    read_same = rw along.is again_along

    -- each field of the copy has a record of its own
    pub once_again : length (message_read dictionary config copy).records ≡ fields_counted config.mode copy (message_read dictionary config copy).stop
    once_again = rw along.is (omega (arith, counts.counted, counts.size, header-many, body-many, trailer-many))
