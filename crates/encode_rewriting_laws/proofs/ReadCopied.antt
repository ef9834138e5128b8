-- A copy that is read again: as many records as were copied, in the order of reading, have the tags and values of those that were
-- written, part by part.
use Rattle.std.specs.Prelude.{◌≡◌, refl, List, [], ◌∷◌, ◌++◌, ℕ, length}
use Rattle.std.proofs.Common.{ap, ◌∙◌, arith}
use Rattle.build_records.specs.Records.{value_at}
use Rattle.field_rules.specs.declared.Mode.{Mode}
use Rattle.field_rules.specs.Field.{value_of}
use Rattle.field_rules.specs.Fields.{Fields, field}
use Rattle.field_rules.specs.declared.Field.{Field}
use Rattle.build_records.specs.declared.Record.{Record}
use Rattle.message_read_laws.specs.Counting.{Of}
use Rattle.build_order_laws.specs.Follows.{Follows, no_field, one_field}
use Rattle.encode_rewriting_laws.proofs.Copied.{onto, Copied, copied_none, copied_more}
use Rattle.encode_rewriting_laws.proofs.ReadMessage.{Followed}
use Rattle.encode_rewriting_laws.proofs.ReadRewritten.{ReadsLike}
use Rattle.encode_rewriting_laws.proofs.ReadWritten.{of_value}

-- the text of two lists of records was copied: so was that of each
pub record CopiedParts (bytes copy : List ℕ) (rs ss : List Record) (fs : List Field) : Type 0 where
  pub front : List Field
  pub back : List Field
  pub both : fs ≡ front ++ back
  pub copied_front : Copied bytes copy rs front
  pub copied_back : Copied bytes copy ss back

pub copied_parts : {bytes copy : List ℕ} (rs : List Record) {ss : List Record} {fs : List Field} → Copied bytes copy (rs ++ ss) fs → CopiedParts bytes copy rs ss fs
copied_parts [] {fs = fs} copied = record { front = []; back = fs; both = refl; copied_front = copied_none; copied_back = copied }
copied_parts (r ∷ rs) (copied_more q f tag value more) =
    let later = copied_parts rs more in
    record { front = f ∷ later.front; back = later.back; both = ap (λ (l : List Field). f ∷ l) later.both; copied_front = copied_more q f tag value later.copied_front; copied_back = later.copied_back }

pub onto-append : (fs gs : List Field) (rest : Fields) → onto (fs ++ gs) rest ≡ onto fs (onto gs rest)
unfolding onto
onto-append [] gs rest = refl
onto-append (f ∷ fs) gs rest = ap (λ (l : Fields). field f l) (onto-append fs gs rest)

-- records of a copy carry the tags and values of records
pub data Carried (bytes copy : List ℕ) : List Record → List Record → Type 0 where
  carried_none : Carried bytes copy [] []
  carried_more : {r q : Record} {rs qs : List Record} → q.tag ≡ r.tag → value_at copy q ≡ value_at bytes r → Carried bytes copy rs qs → Carried bytes copy (r ∷ rs) (q ∷ qs)

pub follows_copied : {bytes copy : List ℕ} {rs qs : List Record} {fs : List Field} {part : ℕ} {fields last : Fields} (end : Fields) → Copied bytes copy rs fs → Follows part fields qs last → fields ≡ onto fs end → length qs ≡ length rs
    → Carried bytes copy rs qs × (last ≡ end)
unfolding onto
follows_copied end copied_none no_field e size = (carried_none, e)
follows_copied end copied_none (one_field q of follows) e size = absurd (omega (arith, size))
follows_copied end (copied_more r f tag value copied) no_field e size = absurd (omega (arith, size))
follows_copied {copy = copy} end (copied_more {fs = fs} r f tag value copied) (one_field {f = g} {rest = rest} q of follows) e size =
    let same : g ≡ f = cc in
    let others : rest ≡ onto fs end = cc in
    let later = follows_copied end copied follows others (omega (arith, size)) in
    (carried_more (of.tagged ∙ ap (λ (h : Field). h.tag) same ∙ tag) (of_value copy g q of ∙ ap (value_of copy) same ∙ value) later.0, later.1)

-- the first of the fields has the first of the records
record FirstOf (part : ℕ) (f : Field) (rest : Fields) (q : Record) (qs : List Record) (last : Fields) : Type 0 where
  of : Of part f q
  follows : Follows part rest qs last

first_of : {part : ℕ} {f : Field} {rest fields last : Fields} {q : Record} {qs : List Record} → Follows part fields (q ∷ qs) last → fields ≡ field f rest → FirstOf part f rest q qs last
first_of {part} {f = f} {rest = rest} {last = last} {q = q} {qs = qs} (one_field {f = g} {rest = more} r of follows) e =
    let same : g ≡ f = cc in
    let others : more ≡ rest = cc in
    rw (← same, ← others) (record { of = of; follows = follows })

-- a message whose records come back, its own BodyLength and CheckSum aside
pub record CarriedAll (bytes copy : List ℕ) (begin type : Record) (others body trailer : List Record) (again-begin again-type : Record) (again-others again-body again-trailer : List Record) : Type 0 where
  pub begin_tag : again-begin.tag ≡ 8
  pub begin_value : value_at copy again-begin ≡ value_at bytes begin
  pub type_tag : again-type.tag ≡ 35
  pub type_value : value_at copy again-type ≡ value_at bytes type
  pub of_others : Carried bytes copy others again-others
  pub of_body_lem : Carried bytes copy body again-body
  pub of_trailer : Carried bytes copy trailer again-trailer

module _ (mode : Mode) (bytes copy : List ℕ) (begin type : Record) (others body trailer : List Record) (again-begin again-size again-type : Record) (again-others again-body again-trailer : List Record) (last : Fields)
    (like : ReadsLike mode bytes copy begin type (others ++ (body ++ trailer))) (followed : Followed mode copy (again-begin ∷ again-size ∷ again-type ∷ again-others) again-body again-trailer last)
    (as-many-others : length again-others ≡ length others) (as-many-body : length again-body ≡ length body) (as-many-trailer : length again-trailer ≡ length trailer) where
  -- what is rewritten and read again in as many records comes back with its values, and the CheckSum is read behind it
  pub read_again : CarriedAll bytes copy begin type others body trailer again-begin again-type again-others again-body again-trailer × (last ≡ field like.verified.checksum like.end)
  read_again =
      let begins = first_of followed.header_follows like.reads in
      let sizes = first_of begins.follows refl in
      let types = first_of sizes.follows refl in
      let of_header = copied_parts others like.copied in
      let of-rest = copied_parts body of_header.copied_back in
      let end = field like.verified.checksum like.end in
      let header-end = onto of-rest.front (onto of-rest.back end) in
      let split : onto like.fields end ≡ onto of_header.front header-end =
      ap (λ (fs : List Field). onto fs end) of_header.both
      ∙ onto-append of_header.front of_header.back end
      ∙ ap (onto of_header.front) (ap (λ (fs : List Field). onto fs end) of-rest.both ∙ onto-append of-rest.front of-rest.back end) in
      let first = follows_copied header-end of_header.copied_front types.follows split as-many-others in
      let second = follows_copied (onto of-rest.back end) of-rest.copied_front followed.body_follows first.1 as-many-body in
      let third = follows_copied end of-rest.copied_back followed.trailer_follows second.1 as-many-trailer in (
        record {
          begin_tag = begins.of.tagged ∙ like.begin_tag;
          begin_value = of_value copy _ again-begin begins.of ∙ like.begin_value;
          type_tag = types.of.tagged ∙ like.type_tag;
          type_value = of_value copy _ again-type types.of ∙ like.type_value;
          of_others = first.0;
          of_body_lem = second.0;
          of_trailer = third.0;
        },
        third.1,
      )
