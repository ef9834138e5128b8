-- A message that was read with 0 has no more records than fields that are counted. Where it has as many, no tag was stored twice in one
-- map, and the records of each part stand in the order in which its fields were read.
use Rattle.std.specs.Prelude.{◌≡◌, Bool, ℕ, suc, ◌+◌, ◌≤◌}
use Rattle.std.proofs.Math.Path.{ap}
use Rattle.std.proofs.Common.{◌∙◌, arith}
use mathlib.Core.List.{List, [], ◌∷◌, ◌++◌}
use Rattle.std.proofs.Math.ListN.{length, length-append}
use Rattle.build_config.specs.declared.Config.{Config}
use Rattle.field_rules.specs.Field.{start_at}
use Rattle.field_rules.specs.Fields.{Fields, field, fields_from}
use Rattle.build_integrity_rules.proofs.VerifiedLaws.{verified-read}
use Rattle.build_integrity_rules.specs.declared.Verified.{Verified}
use Rattle.dictionary_layout_rules.specs.Tree.{Dictionary, knows, header_tags_lem, trailer_tags_lem}
use Rattle.build_records.specs.Records.{stored}
use Rattle.build_records.specs.declared.Record.{Record}
use Rattle.build_group_rules.specs.Reading.{accepted, layout_rules}
use Rattle.build_required_rules.specs.Checking.{layout_demands}
use Rattle.build_nesting_laws.specs.Entries.{All, all_none, all_more, all-stored}
use Rattle.build_nesting_laws.specs.Formed.{Own}
use Rattle.build_answers.specs.declared.Answer.TheVariants.{Valid}
use Rattle.build_parts.specs.Parts.{part_record}
use Rattle.build_parts.specs.Trailer.{trailer_from}
use Rattle.build_rules.specs.Beginning.{header_of, verified_records}
use Rattle.build_rules.specs.Message.{Outcome, message_read}
use Rattle.message_read_laws.specs.PartReading.{own-field}
use Rattle.message_read_laws.specs.ShapeLaws.{all_rest}
use Rattle.build_order_laws.specs.Follows.{Follows, Stores}
use Rattle.build_order_laws.specs.Counted.{trailer_fields, fields_counted}
use Rattle.build_order_laws.specs.StoresLaws.{keeps_stored, reaches_then, stores_then}
use Rattle.build_order_laws.specs.HeaderStores.{header_stores, header-own}
use Rattle.build_order_laws.specs.BodyStores.{body_stores}
use Rattle.build_order_laws.specs.TrailerStores.{Last, trailer_at, TrailerStores, trailer_stores, trailer-own}
use Rattle.build_order_laws.specs.CountedLaws.{counted-read}
use Rattle.build_order_laws.specs.InParts.{InParts, in_parts, verified_stores}

-- the verified fields, where each has its record
pub verified_three : (v : Verified) → length (verified_records v) ≡ 3 → verified_records v ≡ part_record 1 v.begin_string ∷ part_record 1 v.body_length ∷ part_record 1 v.msg_type ∷ []
unfolding verified_records
verified_three v three =
    let p = part_record 1 v.begin_string in
    let q = part_record 1 v.body_length in
    let r = part_record 1 v.msg_type in
    let a = keeps_stored p [] in
    let b = keeps_stored q (stored p []) in
    let c = keeps_stored r (stored q (stored p [])) in
    let x : stored p [] ≡ p ∷ [] = a.last (omega (arith, a.no_more, b.no_more, c.no_more, three)) in
    let y : stored q (stored p []) ≡ stored p [] ++ (q ∷ []) = b.last (omega (arith, a.no_more, b.no_more, c.no_more, three)) in
    let z : stored r (stored q (stored p [])) ≡ stored q (stored p []) ++ (r ∷ []) = c.last (omega (arith, a.no_more, b.no_more, c.no_more, three)) in
    z ∙ ap (λ (l : List Record). l ++ (r ∷ [])) (y ∙ ap (λ (l : List Record). l ++ (q ∷ [])) x)

verified-own : (v : Verified) → All (Own 0 0) (verified_records v)
unfolding verified_records
verified-own v = all-stored _ _ (own-field 1 v.msg_type) (all-stored _ _ (own-field 1 v.body_length) (all-stored _ _ (own-field 1 v.begin_string) all_none))

module _ (dictionary : Dictionary) (config : Config) (message : List ℕ) where
  -- how much was read and stored of a message in parts, from its start on
  pub record Sizes (outcome : Outcome) (p : InParts dictionary config message outcome) : Type 0 where
    from-verified : Stores 1 (fields_from config.mode message p.verified.msg_type.next) 1021 (verified_records p.verified) (field p.f p.rest) (suc p.room) p.header
    pub of_header : Stores 1 (fields_from config.mode message (start_at 0)) 1024 [] (field p.f p.rest) (suc p.room) p.header
    verified-few : length (verified_records p.verified) ≤ 3
    pub of_body_lem : Stores 2 (field p.f p.rest) (suc p.room) [] (field p.g p.more) (suc p.room₂) p.body
    pub of_trailer : TrailerStores (field p.g p.more) (suc p.room₂) (part_record 3 p.verified.checksum ∷ []) outcome.stop p.whole-trailer
    pub counted : fields_counted config.mode message outcome.stop ≡ suc (of_header.read + (of_body_lem.read + of_trailer.stores.read))
    pub size : length outcome.records ≡ length p.header + (length p.body + length p.whole-trailer)

  pub sizes : (outcome : Outcome) (p : InParts dictionary config message outcome) → Sizes outcome p
  sizes outcome p =
      let v = p.verified in
      let w = verified_stores config.mode message v (verified-read config.mode message v p.sound) in
      let h = header_stores (header_tags_lem dictionary) (fields_from config.mode message v.msg_type.next) 1021 (verified_records v) p.f p.rest p.room p.header (unfold header_of in p.header_read) in
      let a = stores_then w h in
      let b = body_stores (layout_rules (accepted config (knows dictionary))) layout_demands (trailer_tags_lem dictionary) p.layout (field p.f p.rest) (suc p.room) [] p.g p.more p.room₂ p.body p.body-read in
      let c = trailer_stores (field p.g p.more) (suc p.room₂) (part_record 3 v.checksum ∷ []) outcome.stop p.whole-trailer p.trailer-read in
      record {
        from-verified = h;
        of_header = a;
        verified-few = omega (arith, w.at_most, w.room_is);
        of_body_lem = b;
        of_trailer = c;
        counted = counted-read config.mode message (reaches_then a.reaches (reaches_then b.reaches c.stores.reaches)) c.is_last;
        size = ap length p.records ∙ length-append p.header (p.body ++ p.whole-trailer) ∙ ap (λ (n : ℕ). length p.header + n) (length-append p.body p.whole-trailer);
      }

  -- a field makes one record at the most
  pub never_more : (message_read dictionary config message).answer ≡ Valid → length (message_read dictionary config message).records ≤ fields_counted config.mode message (message_read dictionary config message).stop
  never_more a =
      let s = sizes _ (in_parts dictionary config message a) in
      omega (arith, s.counted, s.size, s.of_header.at_most, s.of_body_lem.at_most, s.of_trailer.stores.at_most)

  -- a message in parts with its records in the order of reading; the trailer is that behind the verified CheckSum
  pub record InOrder : Type 0 where
    pub parts : InParts dictionary config message (message_read dictionary config message)
    pub others : List Record
    pub trailer : List Record
    pub last : Fields
    pub is_last : Last (message_read dictionary config message).stop last
    pub header-starts : parts.header ≡ part_record 1 parts.verified.begin_string ∷ part_record 1 parts.verified.body_length ∷ part_record 1 parts.verified.msg_type ∷ others
    pub trailer-starts : parts.whole-trailer ≡ part_record 3 parts.verified.checksum ∷ trailer
    pub trailer-read : trailer_from (field parts.g parts.more) (suc parts.room₂) (part_record 3 parts.verified.checksum ∷ []) ≡ trailer_at (message_read dictionary config message).stop (part_record 3 parts.verified.checksum ∷ trailer)
    pub records : (message_read dictionary config message).records ≡ parts.header ++ (parts.body ++ (part_record 3 parts.verified.checksum ∷ trailer))
    pub header_follows : Follows 1 (fields_from config.mode message (start_at 0)) parts.header (field parts.f parts.rest)
    pub others_follow : Follows 1 (fields_from config.mode message parts.verified.msg_type.next) others (field parts.f parts.rest)
    pub others-room : length others + suc parts.room ≡ 1021
    pub body_follows : Follows 2 (field parts.f parts.rest) parts.body (field parts.g parts.more)
    pub body_room : length parts.body + suc parts.room₂ ≡ suc parts.room
    pub trailer_follows : Follows 3 (field parts.g parts.more) trailer last
    pub trailer-count : length trailer ≡ trailer_fields (field parts.g parts.more)
    pub header-own : All (Own 0 0) parts.header
    pub trailer-own : All (Own 0 0) trailer

  -- where there are as many records as fields, so there are in each part
  record Full (outcome : Outcome) (p : InParts dictionary config message outcome) (s : Sizes outcome p) : Type 0 where
    header : length p.header ≡ s.of_header.read
    verified : length (verified_records p.verified) ≡ 3
    behind : length p.header ≡ length (verified_records p.verified) + s.from-verified.read
    body : length p.body ≡ s.of_body_lem.read
    trailer : length p.whole-trailer ≡ suc s.of_trailer.stores.read

  full : (outcome : Outcome) (p : InParts dictionary config message outcome) (s : Sizes outcome p) → length outcome.records ≡ fields_counted config.mode message outcome.stop → Full outcome p s
  full outcome p s e =
      let c = s.counted in
      let n = s.size in
      let h = s.of_header.at_most in
      let b = s.of_body_lem.at_most in
      let t = s.of_trailer.stores.at_most in
      let first = s.from-verified.at_most in
      let all = s.of_header.room_is in
      let behind = s.from-verified.room_is in
      let few = s.verified-few in
      record {
        header = omega (arith, c, n, h, b, t, e);
        verified = omega (arith, c, n, h, b, t, e, first, all, behind, few);
        behind = omega (arith, c, n, h, b, t, e, first, all, behind, few);
        body = omega (arith, c, n, h, b, t, e);
        trailer = omega (arith, c, n, h, b, t, e);
      }

  in_order-of : (p : InParts dictionary config message (message_read dictionary config message)) (s : Sizes (message_read dictionary config message) p) → Full (message_read dictionary config message) p s → InOrder
  in_order-of p s e =
      let v = p.verified in
      let check = part_record 3 v.checksum in
      let h = s.of_header.ordered (omega (arith, e.header)) in
      let o = s.from-verified.ordered e.behind in
      let b = s.of_body_lem.ordered (omega (arith, e.body)) in
      let t = s.of_trailer.stores.ordered (omega (arith, e.trailer)) in
      let same : p.whole-trailer ≡ check ∷ t.new = t.appended in
      let own : All (Own 0 0) p.whole-trailer = trailer-own (field p.g p.more) (suc p.room₂) (check ∷ []) _ p.whole-trailer p.trailer-read (all_more (own-field 3 v.checksum) all_none) in
      record {
        parts = p;
        others = o.new;
        trailer = t.new;
        last = s.of_trailer.last;
        is_last = s.of_trailer.is_last;
        header-starts = o.appended ∙ ap (λ (l : List Record). l ++ o.new) (verified_three v e.verified);
        trailer-starts = same;
        trailer-read = p.trailer-read ∙ ap (trailer_at _) same;
        records = p.records ∙ ap (λ (l : List Record). p.header ++ (p.body ++ l)) same;
        header_follows = followed h.appended h.follows;
        others_follow = o.follows;
        others-room = omega (arith, e.behind, ap length o.appended, length-append (verified_records v) o.new, s.from-verified.room_is);
        body_follows = followed b.appended b.follows;
        body_room = omega (arith, e.body, s.of_body_lem.room_is);
        trailer_follows = t.follows;
        trailer-count = omega (arith, ap length same, e.trailer, s.of_trailer.counted);
        header-own = header-own (header_tags_lem dictionary) (fields_from config.mode message v.msg_type.next) 1021 (verified_records v) p.f p.rest p.room p.header (unfold header_of in p.header_read) (verified-own v);
        trailer-own = all_rest (rw same at own);
      }
    where
      followed : {part : ℕ} {fields last : Fields} {rs new : List Record} → rs ≡ new → Follows part fields new last → Follows part fields rs last
      followed q a = rw q a

  -- "no tag stored twice in one map": the records stand in the order of reading
  pub in_order : (message_read dictionary config message).answer ≡ Valid → length (message_read dictionary config message).records ≡ fields_counted config.mode message (message_read dictionary config message).stop → InOrder
  in_order a e =
      let p = in_parts dictionary config message a in
      let s = sizes _ p in
      in_order-of p s (full _ p s e)
