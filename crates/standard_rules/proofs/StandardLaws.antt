-- What the standard rules out, by the tags alone: laws of stretches and of messages.
use Rattle.std.specs.Prelude.{◌≡◌, refl, Bool, true, false, List, [], ◌∷◌, ◌++◌, ◌≢◌, ◌⊎◌, ℕ, suc, ◌+◌, ◌≤◌, eqb}
use Rattle.std.proofs.Common.{sym, ap, subst, append_assoc, inl, inr, arith, eq-eqb, ne_eqb, eqb-true}
use Rattle.std.proofs.lemmas.Bool.{eqb-false}
use Rattle.field_rules.specs.Choice.{pick}
use Rattle.standard_rules.specs.Standard.{Tables, Body, NoCount, All, worth_after, Told, told, Distinct, placed, Once, Stretch, members, entries, Stands, Message}
use Rattle.standard_rules.specs.Reading.{others}

abbrev pub tags : List Told → List ℕ
tags [] = []
tags (f ∷ fs) = f.tag ∷ tags fs

pub all_append : {P : ℕ → Type 0} (fs gs : List Told) → All P (tags fs) → All P (tags gs) → All P (tags (fs ++ gs))
all_append [] gs All.none b = b
all_append (f ∷ fs) gs (All.also p a) b = All.also p (all_append fs gs a b)

pub numbers_append : {P : ℕ → Type 0} (xs ys : List ℕ) → All P xs → All P ys → All P (xs ++ ys)
numbers_append [] ys All.none b = b
numbers_append (x ∷ xs) ys (All.also p a) b = All.also p (numbers_append xs ys a b)

pub all_left : {P : ℕ → Type 0} (fs gs : List Told) → All P (tags (fs ++ gs)) → All P (tags fs)
all_left [] gs a = All.none
all_left (f ∷ fs) gs (All.also p a) = All.also p (all_left fs gs a)

pub all_right : {P : ℕ → Type 0} (fs gs : List Told) → All P (tags (fs ++ gs)) → All P (tags gs)
all_right [] gs a = a
all_right (f ∷ fs) gs (All.also p a) = all_right fs gs a

pub all_map : {P Q : ℕ → Type 0} {xs : List ℕ} → ((x : ℕ) → P x → Q x) → All P xs → All Q xs
all_map h All.none = All.none
all_map h (All.also {x = x} p a) = All.also (h x p) (all_map h a)

tags-append : (fs gs : List Told) → tags (fs ++ gs) ≡ tags fs ++ tags gs
tags-append [] gs = refl
tags-append (f ∷ fs) gs = ap (λ (ts : List ℕ). f.tag ∷ ts) (tags-append fs gs)

-- ===== stretches =====

-- no group of the tables is the tag's
abbrev pub OpensNone : Tables → ℕ → Type 0
OpensNone T t = (d : ℕ) → T.Group t d → ⊥

-- x is none of the members' tags
abbrev Apart : ℕ → Stretch → Type 0
Apart x (members ts) = All (λ y. y ≢ x) ts
Apart x (entries c d n) = Unit {0}

module _ {T : Tables} where
  -- every tag may stand here, in entries too
  pub here : {Here : ℕ → Type 0} {s : Stretch} {fs : List Told} → Stands T Here s fs → All Here (tags fs)
  here Stands.no_member = All.none
  here (Stands.field h _ more) = All.also h (here more)
  here (Stands.group {gs = gs} {fs = fs} h _ _ es more) = All.also h (all_append gs fs (here es) (here more))
  here Stands.no_entry = All.none
  here (Stands.entry {fs = fs} {gs = gs} e _ _ es) = all_append fs gs (here e) (here es)

  pub wider : {Here There : ℕ → Type 0} {s : Stretch} {fs : List Told} → ((t : ℕ) → Here t → There t) → Stands T Here s fs → Stands T There s fs
  wider w Stands.no_member = Stands.no_member
  wider w (Stands.field {t = t} h n more) = Stands.field (w t h) n (wider w more)
  wider w (Stands.group {t = t} h g c es more) = Stands.group (w t h) g c (wider w es) (wider w more)
  wider w Stands.no_entry = Stands.no_entry
  wider w (Stands.entry e q o es) = Stands.entry (wider w e) q o (wider w es)

  module _ {Here : ℕ → Type 0} where
    pub join : {ts us : List ℕ} {fs gs : List Told} → Stands T Here (members ts) fs → Stands T Here (members us) gs
        → Stands T Here (members (ts ++ us)) (fs ++ gs)
    join Stands.no_member b = b
    join (Stands.field h n more) b = Stands.field h n (join more b)
    join (Stands.group {gs = es} {fs = fs} h g c e more) b = rw append_assoc (Stands.group h g c e (join more b))

    -- where no tag opens a group, the members are the fields
    pub flat : {ts : List ℕ} {fs : List Told} → Stands T Here (members ts) fs → All (OpensNone T) (tags fs) → ts ≡ tags fs
    flat Stands.no_member a = refl
    flat (Stands.field {t = t} h n more) (All.also _ a) = ap (λ (ts : List ℕ). t ∷ ts) (flat more a)
    flat (Stands.group {d = d} h g c es more) (All.also n a) = absurd (n d g)

    -- a tag that stands in no entry and not among the members stands nowhere
    pub nowhere : {x : ℕ} {s : Stretch} {fs : List Told} → ((ts : List ℕ) → Once ts → All (λ y. y ≢ x) ts) → Stands T Here s fs → Apart x s
        → All (λ y. y ≢ x) (tags fs)
    nowhere o Stands.no_member a = All.none
    nowhere o (Stands.field h n more) (All.also p a) = All.also p (nowhere o more a)
    nowhere o (Stands.group {gs = gs} {fs = fs} h g c es more) (All.also p a) = All.also p (all_append gs fs (nowhere o es tt) (nowhere o more a))
    nowhere o Stands.no_entry a = All.none
    nowhere o (Stands.entry {fs = fs} {gs = gs} e _ once es) a = all_append fs gs (nowhere o e (o _ once)) (nowhere o es tt)

-- how often a tag stands among some
abbrev pub times : ℕ → List ℕ → ℕ
times x [] = 0
times x (y ∷ ys) = pick (eqb y x) 1 0 + times x ys

times-append : (x : ℕ) (fs gs : List Told) → times x (tags (fs ++ gs)) ≡ times x (tags fs) + times x (tags gs)
times-append x [] gs = omega arith
times-append x (f ∷ fs) gs = omega (arith, times-append x fs gs)

-- a count tag counts one entry at least, and is followed by its delimiter as often as it counts
pub data Followed (T : Tables) : List Told → Type 0 where
  none : Followed T []
  field : {t : ℕ} {v : List ℕ} {fs : List Told} → NoCount T t → Followed T fs → Followed T (told t v ∷ fs)
  count : {t d : ℕ} {v : List ℕ} {fs : List Told} → T.Group t d → 1 ≤ worth_after 0 v → worth_after 0 v ≤ times d (tags fs) → Followed T fs
      → Followed T (told t v ∷ fs)

followed-append : {T : Tables} {fs gs : List Told} → Followed T fs → Followed T gs → Followed T (fs ++ gs)
followed-append Followed.none b = b
followed-append (Followed.field n a) b = Followed.field n (followed-append a b)
followed-append {gs = gs} (Followed.count {d = d} {v = v} {fs = fs} g o c a) b =
    Followed.count {v = v} {fs = fs ++ gs} g o (omega (arith, times-append d fs gs)) (followed-append a b)

module _ {T : Tables} {Here : ℕ → Type 0} where
  member-times : (x : ℕ) {ts : List ℕ} {fs : List Told} → Stands T Here (members ts) fs → times x ts ≤ times x (tags fs)
  member-times x Stands.no_member = omega arith
  member-times x (Stands.field h n more) = omega (arith, member-times x more)
  member-times x (Stands.group {gs = gs} {fs = fs} h g c es more) = omega (arith, member-times x more, times-append x gs fs)

  entry-times : {c d n : ℕ} {gs : List Told} → Stands T Here (entries c d n) gs → n ≤ times d (tags gs)
  entry-times Stands.no_entry = omega arith
  entry-times (Stands.entry {d = d} {fs = fs} {gs = gs} e _ o es) =
      omega (arith, member-times d e, entry-times es, times-append d fs gs, ap (λ (b : Bool). pick {A = ℕ} b 1 0) (eq-eqb d d refl))

  pub followed : {s : Stretch} {fs : List Told} → Stands T Here s fs → Followed T fs
  followed Stands.no_member = Followed.none
  followed (Stands.field h n more) = Followed.field n (followed more)
  followed (Stands.group {d = d} {count = v} {gs = gs} {fs = fs} h g c es more) =
      Followed.count {v = v} {fs = gs ++ fs} g (omega (arith, c.worth)) (omega (arith, c.worth, entry-times es, times-append d gs fs))
      (followed-append (followed es) (followed more))
  followed Stands.no_entry = Followed.none
  followed (Stands.entry e _ o es) = followed-append (followed e) (followed es)

-- a tag that is in no group's entries stands as often as it is a member outside groups
abbrev outside : ℕ → Stretch → ℕ
outside x (members ts) = times x ts
outside x (entries c d n) = 0

absent_times : {x : ℕ} {ts : List ℕ} → All (λ y. y ≢ x) ts → times x ts ≡ 0
absent_times All.none = refl
absent_times {x = x} (All.also {x = y} {xs = ts} n a) = omega (arith, absent_times a, ap (λ (b : Bool). pick {A = ℕ} b 1 0) (ne_eqb y x n))

pub once_times : (x : ℕ) {ts : List ℕ} → Distinct ts → times x ts ≤ 1
once_times x Distinct.empty = omega arith
once_times x (Distinct.fresh {x = y} {xs = ts} a o) = by (eqb y x) refl (once_times x o)
  where
    by : (b : Bool) → eqb y x ≡ b → times x ts ≤ 1 → times x (y ∷ ts) ≤ 1
    by true e l = omega (arith, absent_times (subst (λ (k : ℕ). All (λ z. z ≢ k) ts) (eqb-true y x e) a), ap (λ (b : Bool). pick {A = ℕ} b 1 0) e)
    by false e l = omega (arith, ap (λ (b : Bool). pick {A = ℕ} b 1 0) e)

module _ {T : Tables} {Here : ℕ → Type 0} where
  pub outside-times : (x : ℕ) {s : Stretch} {fs : List Told} → ((c : ℕ) → T.Member c x → ⊥) → Stands T Here s fs → times x (tags fs) ≡ outside x s
  outside-times x n Stands.no_member = refl
  outside-times x n (Stands.field h _ more) = omega (arith, outside-times x n more)
  outside-times x n (Stands.group {gs = gs} {fs = fs} h g c es more) = omega (arith, outside-times x n more, outside-times x n es, times-append x gs fs)
  outside-times x n Stands.no_entry = refl
  outside-times x n (Stands.entry {c = c} {fs = fs} {gs = gs} e q _ es) =
      omega (arith, outside-times x n e, absent_times (all_map (λ t p s. n c (subst (T.Member c) s p)) q), outside-times x n es, times-append x fs gs)

-- ===== messages =====

abbrev pub one_of : List ℕ → ℕ → Bool
one_of [] t = false
one_of (x ∷ xs) t = pick (eqb t x) true (one_of xs t)

all-behind : {P : ℕ → Type 0} (xs ys : List ℕ) → All P (xs ++ ys) → All P ys
all-behind [] ys a = a
all-behind (x ∷ xs) ys (All.also _ a) = all-behind xs ys a

pub distinct_behind : (xs ys : List ℕ) → Distinct (xs ++ ys) → Distinct ys
distinct_behind [] ys o = o
distinct_behind (x ∷ xs) ys (Distinct.fresh _ o) = distinct_behind xs ys o

distinct_apart : (xs ys : List ℕ) (x : ℕ) → one_of xs x ≡ true → Distinct (xs ++ ys) → All (λ y. y ≢ x) ys
distinct_apart [] ys x e o = let z : ◌≡◌ {A = ℕ} 0 1 = cc in absurd (omega arith)
distinct_apart (z ∷ xs) ys x e (Distinct.fresh a o) = by (eqb x z) refl e (λ h. distinct_apart xs ys x h o)
  where
    by : (b : Bool) → eqb x z ≡ b → pick b true (one_of xs x) ≡ true → (one_of xs x ≡ true → All (λ y. y ≢ x) ys) → All (λ y. y ≢ x) ys
    by true q h more = subst (λ (k : ℕ). All (λ y. y ≢ k) ys) (sym (eqb-true x z q)) (all-behind xs ys a)
    by false q h more = more h

one_absent : (x : ℕ) (ts : List ℕ) → All (λ y. y ≢ x) ts → one_of ts x ≡ true → ⊥
one_absent x [] All.none e = let z : ◌≡◌ {A = ℕ} 0 1 = cc in omega arith
one_absent x (t ∷ ts) (All.also n a) e = one_absent x ts a (rw (ne_eqb x t (λ q. n (sym q))) at e)

unplaced : (x : ℕ) → one_of placed x ≡ true → (ts : List ℕ) → Once ts → All (λ y. y ≢ x) ts
unplaced x p ts o = distinct_apart placed ts x p o.distinct

-- what the fields of tag c count together
abbrev pub counted : ℕ → List Told → ℕ
counted c [] = 0
counted c (f ∷ fs) = pick (eqb f.tag c) (worth_after 0 f.value) 0 + counted c fs

counted-append : (c : ℕ) (fs gs : List Told) → counted c (fs ++ gs) ≡ counted c fs + counted c gs
counted-append c [] gs = omega arith
counted-append c (f ∷ fs) gs = omega (arith, counted-append c fs gs)

-- how often a tag of c's entries may stand in a stretch, beside those that the stretch's own counts count
abbrev room : (c x : ℕ) → Stretch → ℕ
room c x (members ts) = times x ts
room c x (entries k d n) = pick (eqb k c) n 0

-- it is in the entries of c's group alone
abbrev pub Only : (T : Tables) (c x : ℕ) → Type 0
Only T c x = (k : ℕ) → T.Member k x → k ≡ c

-- once in an entry at most
entry_once : (T : Tables) (c x k n : ℕ) {ts : List ℕ} → Only T c x → All (T.Member k) ts → Once ts → times x ts + pick (eqb k c) n 0 ≤ pick (eqb k c) (suc n) 0
entry_once T c x k n {ts = ts} only q o = by (eqb k c) refl
  where
    by : (b : Bool) → eqb k c ≡ b → times x ts + pick b n 0 ≤ pick b (suc n) 0
    by true e = omega (arith, once_times x (distinct_behind placed ts o.distinct))
    by false e = omega (arith, absent_times (all_map (λ t p s. eqb-false k c e (only k (subst (T.Member k) s p))) q))

module _ {T : Tables} {Here : ℕ → Type 0} where
  -- a tag that is in c's entries alone stands there as often as they are counted, at most
  pub inside-times : (c x : ℕ) → Only T c x → {s : Stretch} {fs : List Told} → Stands T Here s fs → times x (tags fs) ≤ room c x s + counted c fs
  inside-times c x only Stands.no_member = omega arith
  inside-times c x only (Stands.field h _ more) = omega (arith, inside-times c x only more)
  inside-times c x only (Stands.group {t = t} {count = v} {gs = gs} {fs = fs} h g i es more) =
      omega (
        arith,
        inside-times c x only es,
        inside-times c x only more,
        ap (λ (w : ℕ). pick (eqb t c) w 0) i.worth,
        times-append x gs fs,
        counted-append c gs fs,
      )
  inside-times c x only (Stands.no_entry {c = k}) = omega arith
  inside-times c x only (Stands.entry {c = k} {n = n} {fs = fs} {gs = gs} e q o es) =
      omega (arith, inside-times c x only e, inside-times c x only es, entry_once T c x k n only q o, times-append x fs gs, counted-append c fs gs)

-- two lists of tags that have none in common
pub distinct_append : (xs ys : List ℕ) → Distinct xs → Distinct ys → All (λ x. All (λ y. y ≢ x) ys) xs → Distinct (xs ++ ys)
distinct_append [] ys a b h = b
distinct_append (x ∷ xs) ys (Distinct.fresh f a) b (All.also n h) = Distinct.fresh (numbers_append xs ys f n) (distinct_append xs ys a b h)

-- where no tag stands twice, and none has a place of its own
pub once_of : {ts : List ℕ} → Distinct ts → All (λ t. one_of placed t ≡ false) ts → Once ts
once_of {ts} d a = record {
  distinct =
      distinct_append placed ts
      (Distinct.fresh (All.also (eqb-false 9 8 refl) (All.also (eqb-false 35 8 refl) (All.also (eqb-false 10 8 refl) All.none)))
      (Distinct.fresh (All.also (eqb-false 35 9 refl) (All.also (eqb-false 10 9 refl) All.none))
      (Distinct.fresh (All.also (eqb-false 10 35 refl) All.none) (Distinct.fresh All.none Distinct.empty))))
      d (All.also (apart_from 8 refl) (All.also (apart_from 9 refl) (All.also (apart_from 35 refl) (All.also (apart_from 10 refl) All.none))));
}
  where
    apart_from : (x : ℕ) → one_of placed x ≡ true → All (λ y. y ≢ x) ts
    apart_from x p = all_map (λ y free e. let z : ◌≡◌ {A = ℕ} 0 1 = (let q = sym (ap (one_of placed) e) in cc) in omega arith) a

abbrev Anywhere : ℕ → Type 0
Anywhere t = Unit {0}

-- a field that is not of the first part is of the second
past : {P : ℕ → Type 0} (a b es : List Told) (f : Told) (fs : List Told) → a ++ b ≡ es ++ (f ∷ fs) → All P (tags a) → (P f.tag → ⊥)
    → (gs : List Told) × (b ≡ gs ++ (f ∷ fs))
past [] b es f fs e a n = (es, e)
past {P = P} (g ∷ a) b [] f fs e (All.also p _) n = let same : g ≡ f = cc in absurd (n (subst (λ (k : Told). P k.tag) same p))
past (g ∷ a) b (k ∷ es) f fs e (All.also _ q) n = past a b es f fs (cc) q n

-- what stands behind the header
abbrev pub Later : Tables → ℕ → Type 0
Later T t = Body T t ⊎ T.Trailer t

module _ {T : Tables} {bytes : List ℕ} (m : Message T bytes) where
  abbrev all-tags : List ℕ
  all-tags = m.header_tags ++ (m.body-tags ++ m.trailer_tags)

  -- the three parts as one stretch
  pub stand : Stands T Anywhere (members all-tags) (others m)
  stand = join (wider (λ t h. tt) m.header_is) (join (wider (λ t h. tt) m.body_is) (wider (λ t h. tt) m.trailer_is))

  -- where no tag opens a group, no tag stands twice
  pub all_once : All (OpensNone T) (tags (others m)) → Once (tags (others m))
  all_once a = subst Once (flat stand a) m.no_tag-twice

  -- 8, 9, 35, 10 stand in no entry, and not outside either
  pub placed-nowhere : (x : ℕ) → one_of placed x ≡ true → All (λ y. y ≢ x) (tags (others m))
  placed-nowhere x p = nowhere (unplaced x p) stand (unplaced x p all-tags m.no_tag-twice)

  -- so a text is refused where one of them stands among its others
  pub placed-refused : {fs : List Told} (x : ℕ) → others m ≡ fs → one_of placed x ≡ true → one_of (tags fs) x ≡ true → ⊥
  placed-refused x e p stands = one_absent x _ (subst (λ (fs : List Told). All (λ y. y ≢ x) (tags fs)) e (placed-nowhere x p)) stands

  -- a tag that is in no group's entries stands once at most, whatever groups there are
  pub once_at_most : (x : ℕ) → ((c : ℕ) → T.Member c x → ⊥) → times x (tags (others m)) ≤ 1
  once_at_most x n = omega (arith, outside-times x n stand, once_times x (distinct_behind placed all-tags m.no_tag-twice.distinct))

  -- a tag that is in c's entries alone stands as often as they are counted, at most
  pub counted-at_most : (c x : ℕ) → Only T c x → (T.Outside x → ⊥) → times x (tags (others m)) ≤ counted c (others m)
  counted-at_most c x only n = omega (arith, inside-times c x only stand, absent_times (all_map (λ t o s. n (subst T.Outside s o)) m.outside_groups))

  later : All (Later T) (tags (m.body ++ m.trailer))
  later = all_append m.body m.trailer (all_map (λ t b. inl b) (here m.body_is)) (all_map (λ t b. inr b) (here m.trailer_is))

  -- from a field on that is not of the header, none is, not in an entry either
  pub header-first : (es : List Told) (f : Told) (fs : List Told) → others m ≡ es ++ (f ∷ fs) → (T.Header f.tag → ⊥) → All (Later T) (tags (f ∷ fs))
  header-first es f fs e n =
      let r = past m.header (m.body ++ m.trailer) es f fs e (here m.header_is) n in
      all_right r.0 (f ∷ fs) (subst (λ (gs : List Told). All (Later T) (tags gs)) r.1 later)

  -- from a field on that is neither of the header nor of the body, all are of the trailer
  pub trailer-last : (es : List Told) (f : Told) (fs : List Told) → others m ≡ es ++ (f ∷ fs) → (T.Header f.tag → ⊥) → (Body T f.tag → ⊥)
      → All T.Trailer (tags (f ∷ fs))
  trailer-last es f fs e n b =
      let r = past m.header (m.body ++ m.trailer) es f fs e (here m.header_is) n in
      let q = past m.body m.trailer r.0 f fs r.1 (here m.body_is) b in
      all_right q.0 (f ∷ fs) (subst (λ (gs : List Told). All T.Trailer (tags gs)) q.1 (here m.trailer_is))
