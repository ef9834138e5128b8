-- Records that are similar and carry the same values say the same: part, depth, entry number, tag and value.
-- Where the records of a build stand: 8, 9 and 35 first in the header, 10 first in the trailer.
use Rattle.std.specs.Prelude.{◌≡◌, refl, List, ◌∷◌, ◌++◌, ℕ}
use Rattle.build_records.specs.Records.{value_at}
use Rattle.build_records.specs.declared.Record.{Record}
use Rattle.build_nesting_laws.specs.Entries.{All}
use Rattle.message_take_over.specs.Derived.{valued, given}
use Rattle.build_order_laws.specs.Agree.{Alike, Similar, none, more}
use Rattle.encode_rewriting_laws.proofs.EncodedParts.{InPart}
use Rattle.encode_rewriting_laws.proofs.ReadCopied.{Carried, carried_none, carried_more}

pub similar_first : {r q : Record} {rs qs : List Record} → Similar (r ∷ rs) (q ∷ qs) → Alike r q
similar_first (more a s) = a

pub similar_rest : {r q : Record} {rs qs : List Record} → Similar (r ∷ rs) (q ∷ qs) → Similar rs qs
similar_rest (more a s) = s

pub carried_append : {bytes copy : List ℕ} {rs qs ss ts : List Record} → Carried bytes copy rs qs → Carried bytes copy ss ts → Carried bytes copy (rs ++ ss) (qs ++ ts)
carried_append carried_none d = d
carried_append (carried_more tag value c) d = carried_more tag value (carried_append c d)

valued_same : (bytes copy : List ℕ) (r q : Record) → Alike r q → value_at copy q ≡ value_at bytes r
    → valued q.part q.depth q.number q.tag (value_at copy q) ≡ valued r.part r.depth r.number r.tag (value_at bytes r)
valued_same bytes copy r q a value = cc (a.part, a.depth, a.number, a.tag, value)

pub given-same : {bytes copy : List ℕ} {rs qs : List Record} → Similar rs qs → Carried bytes copy rs qs → given copy qs ≡ given bytes rs
unfolding given
given-same none carried_none = refl
given-same {bytes} {copy} (more {r = r} {q = q} a s) (carried_more tag value c) = rw (valued_same bytes copy r q a value, given-same s c) refl

-- the records of a build
pub record Split (rs : List Record) : Type 0 where
  pub begin : Record
  pub size : Record
  pub type : Record
  pub others : List Record
  pub body : List Record
  pub check : Record
  pub trailer : List Record
  pub is : rs ≡ (begin ∷ size ∷ type ∷ others) ++ (body ++ (check ∷ trailer))
  pub begins : begin.tag ≡ 8
  pub counts : size.tag ≡ 9
  pub types : type.tag ≡ 35
  pub sums : check.tag ≡ 10
  pub in_header_lem : All (InPart 1) (begin ∷ size ∷ type ∷ others)
  pub in_body_lem : All (InPart 2) body
  pub in_trailer_lem : All (InPart 3) (check ∷ trailer)

-- all but that 9 and that 10
unfoldable pub kept_of : {rs : List Record} → Split rs → List Record
kept_of s = s.begin ∷ s.type ∷ (s.others ++ (s.body ++ s.trailer))
