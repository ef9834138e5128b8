-- A built message is encoded as its records are written: 8, 9, 35 stand first in its header and once, so only the value of 9 changes, and
-- the trailer's 10 gives way to the new one behind all.
use Rattle.std.specs.Prelude.{◌≡◌, refl, true, false, List, [], ◌∷◌, ◌++◌, ℕ, ◌+◌, eqb}
use Rattle.std.proofs.Common.{sym, ap, ◌∙◌, append_assoc, append-nil}
use native.Mathlib.Omega.{arith}
use Rattle.std.proofs.Math.ListN.{length, length-append}
use Rattle.build_records.specs.Records.{value_at}
use Rattle.field_rules.specs.Decimal.{decimal}
use Rattle.field_rules.specs.Field.{field_bytes}
use Rattle.build_records.specs.declared.Record.{Record}
use Rattle.message_maps.specs.Map.{Map, end, field, entry, holds, replaced, without_field, past_leading, stored}
use Rattle.message_lent_rules.specs.Meaning.{Message}
use Rattle.message_lent_rules.specs.Formed.{stands, is_formed, Within}
use Rattle.message_lent_rules.specs.StandLaws.{nor, field_formed, behind-field}
use Rattle.build_nesting_laws.specs.Formed.{Own}
use Rattle.build_nesting_laws.specs.Entries.{All}
use Rattle.message_read_laws.specs.ShapeLaws.{all_first, all_rest}
use Rattle.message_take_over.specs.Derived.{Stands, no_more as stands-none, own as stands-own, in_entry as stands-entry}
use Rattle.encode_rules.specs.Encoding.{text, text_under, is_first, is_rest, header_text, message_text, bytes_of, dropped, body_length, measured, summed, encoding}
use Rattle.encode_rows.specs.WritingLaws.{text-length}
use Rattle.encode_rewriting_laws.specs.Written.{written, rewritten}
use Rattle.encode_rewriting_laws.proofs.EncodedText.{written-append, text-written}

-- a message that stands for the records of a build: 8, 9 and 35 first in the header, 10 first in the trailer, no groups in either
pub record Built (bytes : List ℕ) (m : Message) (begin size type : Record) (others of_body : List Record) (check : Record)
    (of_trailer : List Record) : Type 0 where
  pub header : Stands bytes 1 0 0 0 0 m.header (begin ∷ size ∷ type ∷ others)
  pub body : Stands bytes 2 0 0 0 0 m.body of_body
  pub trailer : Stands bytes 3 0 0 0 0 m.trailer (check ∷ of_trailer)
  pub begins : begin.tag ≡ 8
  pub counts : size.tag ≡ 9
  pub types : type.tag ≡ 35
  pub sums : check.tag ≡ 10
  pub header-own : All (Own 0 0) (begin ∷ size ∷ type ∷ others)
  pub trailer-own : All (Own 0 0) (check ∷ of_trailer)
  pub within : Within m

-- a map that begins with a record's field
record Begins (bytes : List ℕ) (part tag : ℕ) (map : Map) (r : Record) (rs : List Record) : Type 0 where
  rest : Map
  is : map ≡ field tag (value_at bytes r) rest
  stand : Stands bytes part 0 0 r.tag 0 rest rs

begins-with : {bytes : List ℕ} {part start entries : ℕ} {map : Map} {r : Record} {rs : List Record} (tag : ℕ)
    → Stands bytes part 0 0 start entries map (r ∷ rs) → Own 0 0 r → r.tag ≡ tag → Begins bytes part tag map r rs
begins-with {bytes} tag (stands-own {rest = rest} r o more) a e = record { rest = rest; is = ap (λ (t : ℕ). field t (value_at bytes r) rest) e; stand = more }
begins-with tag (stands-entry r o inner more) a e = absurd (omega (arith, o.deep, a.deep))

-- behind a field of a map without runs nothing is part of the field's run
past_alone : {bytes : List ℕ} {part start entries : ℕ} {map : Map} {rs : List Record} (tag : ℕ) → Stands bytes part 0 0 start entries map rs
    → All (Own 0 0) rs → past_leading tag map ≡ map
unfolding past_leading
past_alone tag stands-none a = refl
past_alone tag (stands-own r o more) a = refl
past_alone tag (stands-entry r o inner more) a = absurd (omega (arith, o.deep, (all_first a).deep))

-- what a map has under a tag that stands nowhere in it, and under all others
pub under_absent : (separator tag : ℕ) (m : Map) → stands tag m ≡ false → text_under (λ t. eqb t tag) separator m ≡ []
unfolding text_under stands
under_absent separator tag end h = refl
under_absent separator tag (field t v rest) h = let n = nor (eqb t tag) (stands tag rest) h in rw n.0 (under_absent separator tag rest n.1)
under_absent separator tag (entry s d own rest) h = let n = nor (eqb s tag) (stands tag rest) h in rw n.0 (under_absent separator tag rest n.1)

is_rest_lem : (tag : ℕ) → eqb tag 8 ≡ false → eqb tag 9 ≡ false → eqb tag 35 ≡ false → is_rest tag ≡ true
unfolding is_rest is_first
is_rest_lem tag a b c = rw (a, b, c)

pub under_rest : (separator : ℕ) (m : Map) → stands 8 m ≡ false → stands 9 m ≡ false → stands 35 m ≡ false → text_under is_rest separator m ≡ text separator m
unfolding text_under stands text
under_rest separator end a b c = refl
under_rest separator (field t v rest) a b c =
    let x = nor (eqb t 8) (stands 8 rest) a in
    let y = nor (eqb t 9) (stands 9 rest) b in
    let z = nor (eqb t 35) (stands 35 rest) c in
    rw (is_rest_lem t x.0 y.0 z.0, under_rest separator rest x.1 y.1 z.1)
under_rest separator (entry s d own rest) a b c =
    let x = nor (eqb s 8) (stands 8 rest) a in
    let y = nor (eqb s 9) (stands 9 rest) b in
    let z = nor (eqb s 35) (stands 35 rest) c in
    rw (is_rest_lem s x.0 y.0 z.0, under_rest separator rest x.1 y.1 z.1)

-- the header: "write the header's 8, 9, 35, then the rest in map order" changes no order where they stand first
module _ (separator : ℕ) (a b c : List ℕ) (rest : Map) (formed : is_formed (field 8 a (field 9 b (field 35 c rest))) ≡ true)
    (alone : past_leading 35 rest ≡ rest) where
  none_again : (stands 8 rest ≡ false) × (stands 9 rest ≡ false) × (stands 35 rest ≡ false)
  none_again =
      let eight = field_formed 8 a (field 9 b (field 35 c rest)) formed in
      let nine = field_formed 9 b (field 35 c rest) eight.rest_formed in
      let type = field_formed 35 c rest nine.rest_formed in
      let behind : stands 8 rest ≡ false = unfold stands in (behind-field 8 9 b (field 35 c rest) eight.once).1 in
      (behind, (behind-field 9 35 c rest nine.once).1, rw alone at type.once)

  header-measured : (n : List ℕ)
      → header_text separator (stored 9 n (field 8 a (field 9 b (field 35 c rest)))) ≡ field_bytes separator (decimal 8) a
      ++ (field_bytes separator (decimal 9) n ++ (field_bytes separator (decimal 35) c ++ text separator rest))
  unfolding header_text stored holds replaced text_under is_rest is_first
  header-measured n =
      let none = none_again in
      rw (
        under_absent separator 8 rest none.0,
        under_absent separator 9 rest none.1,
        under_absent separator 35 rest none.2,
        under_rest separator rest none.0 none.1 none.2,
      )
      (simp (append_assoc, append-nil))

-- what a built message is made of: its header and its trailer as maps
pub record BuiltMaps (bytes : List ℕ) (m : Message) (begin size type : Record) (others of_body : List Record) (check : Record)
    (of_trailer : List Record) : Type 0 where
  pub rest : Map
  pub header_is : m.header ≡ field 8 (value_at bytes begin) (field 9 (value_at bytes size) (field 35 (value_at bytes type) rest))
  pub rest-stands : Stands bytes 1 0 0 type.tag 0 rest others
  pub alone : past_leading 35 rest ≡ rest
  pub tail : Map
  pub trailer_is : m.trailer ≡ field 10 (value_at bytes check) tail
  pub tail_stands : Stands bytes 3 0 0 check.tag 0 tail of_trailer

pub built_maps : {bytes : List ℕ} {m : Message} {begin size type : Record} {others of_body : List Record} {check : Record} {of_trailer : List Record}
    → Built bytes m begin size type others of_body check of_trailer → BuiltMaps bytes m begin size type others of_body check of_trailer
built_maps {bytes} {begin = begin} {size = size} b =
    let o = b.header-own in
    let one = begins-with 8 b.header (all_first o) b.begins in
    let two = begins-with 9 one.stand (all_first (all_rest o)) b.counts in
    let three = begins-with 35 two.stand (all_first (all_rest (all_rest o))) b.types in
    let last = begins-with 10 b.trailer (all_first b.trailer-own) b.sums in
    record {
      rest = three.rest;
      header_is = one.is ∙ ap (field 8 (value_at bytes begin)) (two.is ∙ ap (field 9 (value_at bytes size)) three.is);
      rest-stands = three.stand;
      alone = past_alone 35 three.stand (all_rest (all_rest (all_rest o)));
      tail = last.rest;
      trailer_is = last.is;
      tail_stands = last.stand;
    }

module _ (separator : ℕ) (bytes : List ℕ) (type : Record) (types : type.tag ≡ 35) (others of_body of_trailer : List Record) (rest body tail : Map) where
  -- all that is counted, in the order of the records
  counted-written : text separator rest ≡ written separator bytes others → text separator body ≡ written separator bytes of_body
      → text separator tail ≡ written separator bytes of_trailer
      → field_bytes separator (decimal 35) (value_at bytes type) ++ (text separator rest ++ (text separator body ++ text separator tail))
      ≡ written separator bytes (type ∷ (others ++ (of_body ++ of_trailer)))
  unfolding written
  counted-written r b t =
      rw (r, b, t, ← types, written-append separator bytes others (of_body ++ of_trailer), written-append separator bytes of_body of_trailer)

module _ (separator : ℕ) (m : Message) (a b c e : List ℕ) (rest tail : Map) (header : m.header ≡ field 8 a (field 9 b (field 35 c rest)))
    (trailer : m.trailer ≡ field 10 e tail) where
  abbrev counted : List ℕ
  counted = field_bytes separator (decimal 35) c ++ (text separator rest ++ (text separator m.body ++ text separator tail))

  length-counted : body_length (dropped m) ≡ length counted
  unfolding body_length dropped without_field bytes_of
  length-counted =
      rw (header, trailer)
      (omega (
        arith,
        text-length separator rest,
        text-length separator m.body,
        text-length separator tail,
        length-append (field_bytes separator (decimal 35) c) (text separator rest ++ (text separator m.body ++ text separator tail)),
        length-append (text separator rest) (text separator m.body ++ text separator tail),
        length-append (text separator m.body) (text separator tail),
        length-append (decimal 35) (61 ∷ (c ++ (separator ∷ []))),
        length-append c (separator ∷ []),
      ))

  text-measured : is_formed m.header ≡ true → past_leading 35 rest ≡ rest
      → message_text separator (measured (dropped m)) ≡ field_bytes separator (decimal 8) a
      ++ (field_bytes separator (decimal 9) (decimal (length counted)) ++ counted)
  unfolding message_text measured dropped without_field
  text-measured formed alone =
      let n = decimal (length counted) in
      let h : header_text separator (stored 9 n m.header) ≡ field_bytes separator (decimal 8) a
      ++ (field_bytes separator (decimal 9) n ++ (field_bytes separator (decimal 35) c ++ text separator rest)) =
      rw header (header-measured separator a b c rest (rw header at formed) alone n) in
      let t : text separator (without_field 10 m.trailer) ≡ text separator tail = rw trailer in
      let l : body_length (record { header = m.header; body = m.body; trailer = without_field 10 m.trailer }) ≡ length counted = unfold dropped in
      length-counted in
      rw (l, h, t) (simp append_assoc)

-- "write the header's 8, 9, 35, then the rest in map order, body, trailer": the records but the old 9 and 10
pub encoding-rewritten : (separator : ℕ) {bytes : List ℕ} {m : Message} {begin size type : Record} {others of_body : List Record} {check : Record}
    {of_trailer : List Record}
    → Built bytes m begin size type others of_body check of_trailer
    → encoding separator m ≡ rewritten separator bytes begin (type ∷ (others ++ (of_body ++ of_trailer)))
unfolding encoding rewritten
encoding-rewritten separator {bytes} {m} {begin} {size} {type} {others} {of_body} {check} {of_trailer} built =
    let d = built_maps built in
    let c =
    counted-written separator bytes type built.types others of_body of_trailer d.rest m.body d.tail (text-written separator d.rest-stands)
    (text-written separator built.body) (text-written separator d.tail_stands) in
    let all =
    text-measured separator m (value_at bytes begin) (value_at bytes size) (value_at bytes type) (value_at bytes check) d.rest d.tail d.header_is
    d.trailer_is built.within.formed.header d.alone in
    ap (summed separator)
    (all
    ∙ ap (λ (s : List ℕ). field_bytes separator (decimal 8) (value_at bytes begin) ++ (field_bytes separator (decimal 9) (decimal (length s)) ++ s)) c
    ∙ ap (λ (t : ℕ). field_bytes separator (decimal t) (value_at bytes begin)
    ++ (field_bytes separator (decimal 9) (decimal (length (written separator bytes (type ∷ (others ++ (of_body ++ of_trailer))))))
    ++ written separator bytes (type ∷ (others ++ (of_body ++ of_trailer))))) (sym built.begins))
