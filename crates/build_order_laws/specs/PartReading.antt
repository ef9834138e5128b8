-- Header and trailer are read by tags alone: the first field that is no header tag, and the first tag 10, stand at the same number of
-- fields where tags agree. A trailer that none stopped is stopped where a tag 10 stands behind its fields.
use Rattle.std.specs.Prelude.{◌≡◌, refl, Bool, true, false, List, ℕ, zero, suc, ◌+◌, ◌≤◌, ◌<◌, eqb}
use Rattle.std.proofs.Common.{sym, ap, ◌∙◌, arith, eqb-true, eq-eqb}
use Rattle.field_rules.specs.Choice.{pick}
use Rattle.field_rules.specs.Fields.{Fields, unreadable, field}
use Rattle.field_rules.specs.declared.Field.{Field}
use Rattle.dictionary_layout_rules.specs.Tree.{holds_tag}
use Rattle.build_records.specs.Records.{stored}
use Rattle.build_records.specs.declared.Record.{Record}
use Rattle.build_parts.specs.Parts.{ended, part_record}
use Rattle.build_parts.specs.Header.{header_from}
use Rattle.build_parts.specs.Trailer.{Trailer, stopped, unstopped, trailer_from}
use Rattle.build_order_laws.specs.Counted.{trailer_fields}
use Rattle.build_order_laws.specs.Follows.{Reaches, here, further}
use Rattle.build_order_laws.specs.Agree.{Agree, enough, same, Similar}
use Rattle.build_order_laws.specs.Alongside.{Alongside, one_more, at_first}
use Rattle.build_order_laws.specs.SimilarLaws.{similar_stored, alike_field}

-- the field that ends the header is read
header_falls : (tags : List ℕ) (fields : Fields) (room : ℕ) (rs : List Record) (f : Field) (rest : Fields) (room₁ : ℕ) (rs₁ : List Record)
    → header_from tags fields room rs ≡ ended f rest room₁ rs₁ → room₁ < room
unfolding header_from
header_falls tags (unreadable cause place) room rs f rest room₁ rs₁ e = let z : ◌≡◌ {A = ℕ} 0 1 = cc in absurd (omega arith)
header_falls tags (field g last) zero rs f rest room₁ rs₁ e = let z : ◌≡◌ {A = ℕ} 0 1 = cc in absurd (omega arith)
header_falls tags (field g last) (suc room) rs f rest room₁ rs₁ e =
    by_tag (holds_tag g.tag tags) e (header_falls tags last room (stored (part_record 1 g) rs) f rest room₁ rs₁)
  where
    by_tag : (b : Bool) → pick b (header_from tags last room (stored (part_record 1 g) rs)) (ended g last room rs) ≡ ended f rest room₁ rs₁
        → (header_from tags last room (stored (part_record 1 g) rs) ≡ ended f rest room₁ rs₁ → room₁ < room) → room₁ < suc room
    by_tag true e later = let l = later e in omega arith
    by_tag false e later = let d : room ≡ room₁ = cc in omega arith

pub header-same : (tags : List ℕ) (fields others : Fields) (room n : ℕ) (rs qs : List Record) (f : Field) (rest : Fields) (room₁ : ℕ) (rs₁ : List Record)
    → header_from tags fields room rs ≡ ended f rest room₁ rs₁
    → Similar rs qs → Agree n fields others → room ≤ n + room₁ → Alongside ended (header_from tags others room qs) n room f rest room₁ rs₁
unfolding header_from
header-same tags fields others room n rs qs f rest room₁ rs₁ e s enough l = absurd (omega (arith, header_falls tags fields room rs f rest room₁ rs₁ e))
header-same tags (field g last) (field h others) zero (suc n) rs qs f rest room₁ rs₁ e s (same t a) l = let z : ◌≡◌ {A = ℕ} 0 1 = cc in absurd (omega arith)
header-same tags (field g last) (field h others) (suc room) (suc n) rs qs f rest room₁ rs₁ e s (same t a) l =
    by_tag (holds_tag g.tag tags) (ap (λ (n : ℕ). holds_tag n tags) (sym t)) e
    (λ q. header-same tags last others room n (stored (part_record 1 g) rs) (stored (part_record 1 h) qs) f rest room₁ rs₁ q
    (similar_stored (alike_field 1 g h t) s) a (omega arith))
  where
    by_tag : (b : Bool) → holds_tag h.tag tags ≡ b
        → pick b (header_from tags last room (stored (part_record 1 g) rs)) (ended g last room rs) ≡ ended f rest room₁ rs₁
        → (header_from tags last room (stored (part_record 1 g) rs) ≡ ended f rest room₁ rs₁
        → Alongside ended (header_from tags others room (stored (part_record 1 h) qs)) n room f rest room₁ rs₁)
        → Alongside ended (header_from tags (field h others) (suc room) qs) (suc n) (suc room) f rest room₁ rs₁
    by_tag true b e later = rw b (one_more ended (later e))
    by_tag false b e later =
        let i : g ≡ f = cc in
        let c : last ≡ rest = cc in
        let d : room ≡ room₁ = cc in
        let r : rs ≡ rs₁ = cc in
        rw (b, ← i, ← c, ← d, ← r) (at_first ended g h room t a s)

-- a trailer stopped at a field, with records that are alike
pub record Stops (trailer : Trailer) (ts : List Record) : Type 0 where
  pub found : Field
  pub kept : List Record
  pub is : trailer ≡ stopped found kept
  pub tag : found.tag ≡ 10
  pub similar : Similar ts kept

pub trailer-same : (fields others : Fields) (room : ℕ) (rs qs : List Record) (f : Field) (ts : List Record) → trailer_from fields room rs ≡ stopped f ts
    → Similar rs qs → Agree (suc (trailer_fields fields)) fields others → Stops (trailer_from others room qs) ts
unfolding trailer_from trailer_fields
trailer-same (unreadable cause place) others zero rs qs f ts e s a = let z : ◌≡◌ {A = ℕ} 0 1 = cc in absurd (omega arith)
trailer-same (unreadable cause place) others (suc room) rs qs f ts e s a = let z : ◌≡◌ {A = ℕ} 0 1 = cc in absurd (omega arith)
trailer-same (field g last) others zero rs qs f ts e s a = let z : ◌≡◌ {A = ℕ} 0 1 = cc in absurd (omega arith)
trailer-same (field g last) others (suc room) rs qs f ts e s a =
    first a (λ h more t b q. trailer-same last more room (stored (part_record 3 g) rs) (stored (part_record 3 h) qs) f ts q
    (similar_stored (alike_field 3 g h t) s) b)
  where
    Later : Type 0
    Later =
        (h : Field) (more : Fields) → g.tag ≡ h.tag → Agree (suc (trailer_fields last)) last more
        → trailer_from last room (stored (part_record 3 g) rs) ≡ stopped f ts → Stops (trailer_from more room (stored (part_record 3 h) qs)) ts

    by_tag : (h : Field) (more : Fields) → g.tag ≡ h.tag → (b : Bool) → eqb g.tag 10 ≡ b
        → pick b (stopped g rs) (trailer_from last room (stored (part_record 3 g) rs)) ≡ stopped f ts → Agree (pick b 0 (suc (trailer_fields last))) last more
        → Later
        → Stops (pick b (stopped h qs) (trailer_from more room (stored (part_record 3 h) qs))) ts
    by_tag h more t true b e a later =
        let r : rs ≡ ts = cc in rw (← r) (record { found = h; kept = qs; is = refl; tag = sym t ∙ eqb-true g.tag 10 b; similar = s })
    by_tag h more t false b e a later = later h more t a e

    first : {others : Fields} → Agree (suc (pick (eqb g.tag 10) 0 (suc (trailer_fields last)))) (field g last) others → Later
        → Stops (trailer_from others (suc room) qs) ts
    first (same {g = h} {more = more} t a) later = rw (ap (λ (n : ℕ). eqb n 10) (sym t)) (by_tag h more t (eqb g.tag 10) refl e a later)

-- the trailer stops at a field that is told, with records that are alike
pub record StopsAt (found : Field) (trailer : Trailer) (ts : List Record) : Type 0 where
  pub kept : List Record
  pub is : trailer ≡ stopped found kept
  pub similar : Similar ts kept

pub trailer-stopped : (fields others : Fields) (room : ℕ) (rs qs ts : List Record) (found : Field) (behind : Fields)
    → trailer_from fields room rs ≡ unstopped ts → Similar rs qs → Agree (trailer_fields fields) fields others
    → Reaches others (trailer_fields fields) (field found behind) → found.tag ≡ 10 → StopsAt found (trailer_from others room qs) ts
unfolding trailer_from trailer_fields
trailer-stopped (unreadable cause place) others zero rs qs ts found behind e s a r k = let z : ◌≡◌ {A = ℕ} 0 1 = cc in absurd (omega arith)
trailer-stopped (unreadable cause place) others (suc room) rs qs ts found behind e s a here k =
    let d : rs ≡ ts = cc in
    rw (eq-eqb found.tag 10 k, ← d) (record { kept = qs; is = refl; similar = s })
trailer-stopped (field g last) others zero rs qs ts found behind e s a r k = let z : ◌≡◌ {A = ℕ} 0 1 = cc in absurd (omega arith)
trailer-stopped (field g last) others (suc room) rs qs ts found behind e s a r k =
    by_tag (eqb g.tag 10) refl e a r (λ h more t a₁ r₁ q. trailer-stopped last more room (stored (part_record 3 g) rs)
    (stored (part_record 3 h) qs) ts found behind q (similar_stored (alike_field 3 g h t) s) a₁ r₁ k)
  where
    Later : Type 0
    Later =
        (h : Field) (more : Fields) → g.tag ≡ h.tag → Agree (trailer_fields last) last more → Reaches more (trailer_fields last) (field found behind)
        → trailer_from last room (stored (part_record 3 g) rs) ≡ unstopped ts
        → StopsAt found (trailer_from more room (stored (part_record 3 h) qs)) ts

    not_ten : {others : Fields} → eqb g.tag 10 ≡ false → trailer_from last room (stored (part_record 3 g) rs) ≡ unstopped ts
        → Agree (suc (trailer_fields last)) (field g last) others → Reaches others (suc (trailer_fields last)) (field found behind) → Later
        → StopsAt found (trailer_from others (suc room) qs) ts
    not_ten n e (same {g = h} {more = more} t a) (further r) later = rw (ap (λ (n : ℕ). eqb n 10) (sym t) ∙ n) (later h more t a r e)

    by_tag : (b : Bool) → eqb g.tag 10 ≡ b → pick b (stopped g rs) (trailer_from last room (stored (part_record 3 g) rs)) ≡ unstopped ts
        → Agree (pick b 0 (suc (trailer_fields last))) (field g last) others
        → Reaches others (pick b 0 (suc (trailer_fields last))) (field found behind) → Later → StopsAt found (trailer_from others (suc room) qs) ts
    by_tag true b e a r later = let z : ◌≡◌ {A = ℕ} 0 1 = cc in absurd (omega arith)
    by_tag false b e a r later = not_ten b e a r later
