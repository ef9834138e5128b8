-- The laws of reading records one after the other: one step of the reader is one step of the list, and each record is as long as
-- its kind says and lies in the dictionary.
use Rattle.std.specs.Prelude.{◌≡◌, refl, Bool, true, false, List, ℕ, zero, suc, ◌+◌, ◌≤◌, ◌<◌, ◌-◌, length, get_or, take, drop, eqb, ltb, Option, Some, None}
use Rattle.std.proofs.Common.{ap, ◌∙◌, subst, arith, ltb-true, ltb-false}
use Rattle.field_rules.specs.Choice.{pick}
use Rattle.dictionary_rules.specs.Record.{low_first, zero_filled, record_body_length, with_tag, with_mark, known_tag, opens_component, opens_message, field_item_lem, component_item_lem, opens_group, record_body, record_at}
use Rattle.dictionary_rules.specs.RecordLaws.{at_end, at_cut, at-wrong, at-whole}
use Rattle.dictionary_rules.specs.Records.{Records, ends, bad, whole, followed_by, records_within, records_from}
use Rattle.dictionary_rules.specs.declared.Record.{Record}
use Rattle.dictionary_rules.specs.declared.Record.TheVariants.{KnownTag, OpensComponent, OpensMessage, FieldItem, ComponentItem, OpensGroup, Closes}
use Rattle.dictionary_rules.specs.declared.RecordRead.{RecordRead}
use Rattle.dictionary_rules.specs.declared.RecordRead.TheVariants.{Whole, Bad, End}

-- how many bytes a record takes, its kind included
unfoldable pub size_of : Record → ℕ
size_of (KnownTag t) = 5
size_of (OpensComponent n) = 3
size_of (OpensMessage m) = 9
size_of (FieldItem t q) = 6
size_of (ComponentItem q n) = 4
size_of (OpensGroup t q) = 6
size_of Closes = 1

size-tag : (tag k : ℕ) (x r : Record) → size_of x ≡ k → with_tag tag x ≡ Some r → size_of r ≡ k
unfolding with_tag
size-tag tag k x r e h = go (eqb tag 0) h
  where
    go : (t : Bool) → pick t None (Some x) ≡ Some r → size_of r ≡ k
    go true q = let z : ◌≡◌ {A = ℕ} 0 1 = cc in absurd (omega arith)
    go false q = let same : x ≡ r = cc in rw same at e

size-mark : (mark : ℕ) (b : Option Record) (r : Record) → with_mark mark b ≡ Some r → b ≡ Some r
unfolding with_mark
size-mark mark b r h = go (ltb 1 mark) h
  where
    go : (t : Bool) → pick t None b ≡ Some r → b ≡ Some r
    go true q = let z : ◌≡◌ {A = ℕ} 0 1 = cc in absurd (omega arith)
    go false q = q

size-message : (first filled : Bool) (m : ℕ) (r : Record) → pick first None (pick filled (Some (OpensMessage m)) None) ≡ Some r → size_of r ≡ 9
unfolding size_of
size-message true filled m r h = let z : ◌≡◌ {A = ℕ} 0 1 = cc in absurd (omega arith)
size-message false true m r h = let same : OpensMessage m ≡ r = cc in rw (← same)
size-message false false m r h = let z : ◌≡◌ {A = ℕ} 0 1 = cc in absurd (omega arith)

-- the record of a good body takes one byte more than its body
size-body : (kind : ℕ) (body : List ℕ) (r : Record) → record_body kind body ≡ Some r → size_of r ≡ 1 + record_body_length kind
unfolding record_body record_body_length known_tag opens_component opens_message field_item_lem component_item_lem opens_group size_of
size-body kind body r h = go (eqb kind 1) (eqb kind 2) (eqb kind 3) (eqb kind 4) (eqb kind 5) (eqb kind 6) (eqb kind 7) h
  where
    go : (a b c d e f g : Bool) → pick a (known_tag body) (pick b (opens_component body) (pick c (opens_message body) (pick d (field_item_lem body) (pick e (component_item_lem body) (pick f (opens_group body) (pick g (Some Closes) None)))))) ≡ Some r → size_of r ≡ 1 + pick a 4 (pick b 2 (pick c 8 (pick d 5 (pick e 3 (pick f 5 0)))))
    go true b c d e f g q = size-tag _ 5 _ r refl q
    go false true c d e f g q = let same : OpensComponent (low_first (take 2 body)) ≡ r = cc in rw (← same)
    go false false true d e f g q = size-message (eqb (get_or body 0 0) 0) (zero_filled false body) _ r q
    go false false false true e f g q = size-tag _ 6 _ r refl (size-mark _ _ r q)
    go false false false false true f g q = let same : ComponentItem (eqb (get_or body 2 0) 1) (low_first (take 2 body)) ≡ r = cc (size-mark _ _ r q) in rw (← same)
    go false false false false false true g q = size-tag _ 6 _ r refl (size-mark _ _ r q)
    go false false false false false false true q = let same : Closes ≡ r = cc in rw (← same)
    go false false false false false false false q = let z : ◌≡◌ {A = ℕ} 0 1 = cc in absurd (omega arith)

-- a whole record lies in the dictionary, and the next one starts behind it
pub record Lies (d : List ℕ) (place : ℕ) (r : Record) (next : ℕ) : Type 0 where
  pub behind : next ≡ place + size_of r
  pub within : next ≤ length d

pub record_lies : (d : List ℕ) (place : ℕ) (r : Record) (next : ℕ) → record_at d place ≡ Whole r next → Lies d place r next
record_lies d place r next h = in_bytes (ltb place (length d)) refl
  where
    body : Option Record
    body = record_body (get_or d place 0) (take (record_body_length (get_or d place 0)) (drop (place + 1) d))

    by_body : (b : Option Record) → body ≡ b → place < length d → record_body_length (get_or d place 0) ≤ length d - (place + 1) → Lies d place r next
    by_body None e l c =
        let z : ◌≡◌ {A = ℕ} 0 1 = cc (at-wrong d place l c e) in absurd (omega arith)
    by_body (Some x) e l c =
        let w = at-whole d place x l c e in
        let same : x ≡ r = cc in
        let after : place + 1 + record_body_length (get_or d place 0) ≡ next = cc in
        record { behind = omega (arith, rw same at (size-body (get_or d place 0) _ x e)); within = omega arith }

    by_length : (t : Bool) → ltb (length d - (place + 1)) (record_body_length (get_or d place 0)) ≡ t → place < length d → Lies d place r next
    by_length true e l = let z : ◌≡◌ {A = ℕ} 0 1 = cc (at_cut d place l (ltb-true _ _ e)) in absurd (omega arith)
    by_length false e l = by_body body refl l (ltb-false _ _ e)

    in_bytes : (t : Bool) → ltb place (length d) ≡ t → Lies d place r next
    in_bytes true e = by_length (ltb (length d - (place + 1)) (record_body_length (get_or d place 0))) refl (ltb-true _ _ e)
    in_bytes false e = let z : ◌≡◌ {A = ℕ} 0 1 = cc (at_end d place (ltb-false _ _ e)) in absurd (omega arith)

size-some : (r : Record) → 1 ≤ size_of r
unfolding size_of
size-some (KnownTag t) = omega arith
size-some (OpensComponent n) = omega arith
size-some (OpensMessage m) = omega arith
size-some (FieldItem t q) = omega arith
size-some (ComponentItem q n) = omega arith
size-some (OpensGroup t q) = omega arith
size-some Closes = omega arith

pub record_falls : (d : List ℕ) (place : ℕ) (r : Record) (next : ℕ) → record_at d place ≡ Whole r next → (place < next) × (next ≤ length d)
record_falls d place r next h = let l = record_lies d place r next h in (omega (arith, l.behind, size-some r), l.within)

-- enough is enough: where no more bytes are left than records are allowed, their number doesn't matter
enough : (k l : ℕ) (d : List ℕ) (place : ℕ) → length d - place ≤ k → length d - place ≤ l → records_within k d place ≡ records_within l d place
unfolding records_within followed_by
enough zero zero d place h g = refl
enough zero (suc l) d place h g = rw (at_end d place (omega arith))
enough (suc k) zero d place h g = rw (at_end d place (omega arith))
enough (suc k) (suc l) d place h g = go (record_at d place) refl (λ next. enough k l d next)
  where
    go : (r : RecordRead) → record_at d place ≡ r → ((next : ℕ) → length d - next ≤ k → length d - next ≤ l → records_within k d next ≡ records_within l d next) → followed_by (length d) place r (λ next. records_within k d next) ≡ followed_by (length d) place r (λ next. records_within l d next)
    go End e later = refl
    go Bad e later = refl
    go (Whole r next) e later =
        let f = record_falls d place r next e in
        ap (λ (x : Records). whole place r x) (later next (omega (arith, f.0, f.1)) (omega (arith, f.0, f.1)))

module _ (d : List ℕ) (place : ℕ) where
  one_more : records_from d place ≡ records_within (suc (length d)) d place
  unfolding records_from
  one_more = enough (length d - place) (suc (length d)) d place (omega arith) (omega arith)

  pub records_end : record_at d place ≡ End → records_from d place ≡ ends (length d)
  unfolding records_within followed_by
  records_end h = one_more ∙ rw h

  pub records_bad : record_at d place ≡ Bad → records_from d place ≡ bad place
  unfolding records_within followed_by
  records_bad h = one_more ∙ rw h

  pub records_whole : (r : Record) (next : ℕ) → record_at d place ≡ Whole r next → records_from d place ≡ whole place r (records_from d next)
  unfolding records_from records_within followed_by
  records_whole r next h =
      one_more ∙ rw h (ap (λ (x : Records). whole place r x) (enough (length d) (length d - next) d next (omega arith) (omega arith)))

-- records in their places: each starts behind the one before, and within the first n bytes
pub data Spaced (n : ℕ) : ℕ → Records → Type 0 where
  at_last : {place size : ℕ} → Spaced n place (ends size)
  at-bad : {place there : ℕ} → Spaced n place (bad there)
  at_next : {place : ℕ} {r : Record} {rest : Records} → place < n → Spaced n (place + size_of r) rest → Spaced n place (whole place r rest)

spaced_within : (fuel : ℕ) (d : List ℕ) (place : ℕ) → Spaced (length d) place (records_within fuel d place)
unfolding records_within followed_by
spaced_within zero d place = at_last
spaced_within (suc fuel) d place = go (record_at d place) refl (λ next. spaced_within fuel d next)
  where
    go : (r : RecordRead) → record_at d place ≡ r → ((next : ℕ) → Spaced (length d) next (records_within fuel d next)) → Spaced (length d) place (followed_by (length d) place r (λ next. records_within fuel d next))
    go End e later = at_last
    go Bad e later = at-bad
    go (Whole r next) e later =
        let f = record_falls d place r next e in
        let b = (record_lies d place r next e).behind in
        let here : place < length d = omega (arith, f.0, f.1) in
        at_next here (subst (λ (n : ℕ). Spaced (length d) n (records_within fuel d next)) b (later next))

pub spaced : (d : List ℕ) (place : ℕ) → Spaced (length d) place (records_from d place)
unfolding records_from
spaced d place = spaced_within (length d - place) d place
