-- Which records of a build stand for which part of the message: each says its part, so a list of them falls into header, body and trailer
-- in one way only.
use Rattle.std.specs.Prelude.{◌≡◌, refl, List, [], ◌∷◌, ◌++◌, ℕ, ◌+◌}
use Rattle.std.proofs.Common.{sym, ◌∙◌, arith}
use Rattle.field_rules.specs.Fields.{Fields}
use Rattle.build_records.specs.declared.Record.{Record}
use Rattle.message_maps.specs.Map.{Map}
use Rattle.message_lent_rules.specs.Meaning.{Message}
use Rattle.message_lent_rules.specs.Formed.{Within}
use Rattle.build_nesting_laws.specs.Formed.{Own}
use Rattle.build_nesting_laws.specs.Entries.{All, all_none, all_more, all_append, all_map}
use Rattle.message_read_laws.specs.ShapeLaws.{all_first}
use Rattle.message_take_over.specs.Derived.{Stands, StandFor, no_more as stands-none, own as stands-own, in_entry as stands-entry}
use Rattle.build_order_laws.specs.Follows.{Follows, no_field, one_field}
use Rattle.encode_rewriting_laws.proofs.EncodedBuilt.{Built}

-- a record of a part, and one of another
pub record InPart (part : ℕ) (r : Record) : Type 0 where
  pub of : r.part ≡ part

record Outside (part : ℕ) (r : Record) : Type 0 where
  not_of : r.part ≡ part → ⊥

stands_in : {bytes : List ℕ} {part depth number start entries : ℕ} {map : Map} {rs : List Record} → Stands bytes part depth number start entries map rs
    → All (InPart part) rs
stands_in stands-none = all_none
stands_in (stands-own r o more) = all_more (record { of = o.of }) (stands_in more)
stands_in (stands-entry r o inner more) = all_more (record { of = o.of }) (all_append _ (stands_in inner) (stands_in more))

pub follows_in : {part : ℕ} {fields last : Fields} {rs : List Record} → Follows part fields rs last → All (InPart part) rs
follows_in no_field = all_none
follows_in (one_field r o more) = all_more (record { of = o.of }) (follows_in more)

others : {part : ℕ} (other : ℕ) {rs : List Record} → All (InPart other) rs → (other ≡ part → ⊥) → All (Outside part) rs
others other a differ = all_map (λ r i. record { not_of = λ e. differ (sym i.of ∙ e) }) a

-- a list that begins with the records of a part and goes on with those of others
record Same (a b c d : List Record) : Type 0 where
  first : a ≡ c
  second : b ≡ d

one_way : (part : ℕ) (a b c d : List Record) → All (InPart part) a → All (Outside part) b → All (InPart part) c → All (Outside part) d → a ++ b ≡ c ++ d
    → Same a b c d
one_way part [] b [] d all_none p all_none q e = record { first = refl; second = e }
one_way part [] b (x ∷ c) d all_none p (all_more i j) q e = let r : All (Outside part) (x ∷ (c ++ d)) = rw e at p in absurd ((all_first r).not_of i.of)
one_way part (x ∷ a) b [] d (all_more i j) p all_none q e = let r : All (Outside part) (x ∷ (a ++ b)) = rw (← e) at q in absurd ((all_first r).not_of i.of)
one_way part (x ∷ a) b (y ∷ c) d (all_more i j) p (all_more k l) q e =
    let head : x ≡ y = cc in
    let more : a ++ b ≡ c ++ d = cc in
    let s = one_way part a b c d j p l q more in
    let rest : a ≡ c = s.first in
    record { first = cc; second = s.second }

-- the records that stand for a message, as they were read
module _ {bytes : List ℕ} {m : Message} {rs header body trailer : List Record} (stand : StandFor bytes m rs) (all : rs ≡ header ++ (body ++ trailer))
    (h : All (InPart 1) header) (b : All (InPart 2) body) (t : All (InPart 3) trailer) where
  pub record Parted : Type 0 where
    pub header-stands : Stands bytes 1 0 0 0 0 m.header header
    pub body_stands : Stands bytes 2 0 0 0 0 m.body body
    pub trailer-stands : Stands bytes 3 0 0 0 0 m.trailer trailer

  pub stands_parted : Parted
  stands_parted =
      let q = stands_in stand.body in
      let r = stands_in stand.trailer in
      let one =
      one_way 1 stand.of_header (stand.of_body ++ stand.of_trailer) header (body ++ trailer) (stands_in stand.header)
      (all_append _ (others 2 q (λ e. omega arith)) (others 3 r (λ e. omega arith))) h
      (all_append _ (others 2 b (λ e. omega arith)) (others 3 t (λ e. omega arith))) (sym stand.all ∙ all) in
      let two = one_way 2 stand.of_body stand.of_trailer body trailer q (others 3 r (λ e. omega arith)) b (others 3 t (λ e. omega arith)) one.second in
      record {
        header-stands = rw one.first at stand.header;
        body_stands = rw two.first at stand.body;
        trailer-stands = rw two.second at stand.trailer;
      }

-- a message that take-over made of the records of a build
pub read-built : {bytes : List ℕ} {m : Message} {rs : List Record} {begin size type : Record} {others of_body : List Record} {check : Record}
    {of_trailer : List Record} {one two three last : Fields}
    → StandFor bytes m rs → Within m → rs ≡ (begin ∷ size ∷ type ∷ others) ++ (of_body ++ (check ∷ of_trailer))
    → begin.tag ≡ 8 → size.tag ≡ 9 → type.tag ≡ 35 → check.tag ≡ 10 → check.part ≡ 3
    → Follows 1 one (begin ∷ size ∷ type ∷ others) two → Follows 2 two of_body three → Follows 3 three of_trailer last
    → All (Own 0 0) (begin ∷ size ∷ type ∷ others) → All (Own 0 0) (check ∷ of_trailer)
    → Built bytes m begin size type others of_body check of_trailer
read-built {check = check} stand within all begins counts types sums part h b t header-own trailer-own =
    let p = stands_parted stand all (follows_in h) (follows_in b) (all_more {r = check} (record { of = part }) (follows_in t)) in
    record {
      header = p.header-stands;
      body = p.body_stands;
      trailer = p.trailer-stands;
      begins = begins;
      counts = counts;
      types = types;
      sums = sums;
      header-own = header-own;
      trailer-own = trailer-own;
      within = within;
    }
