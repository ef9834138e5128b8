-- What follows from the form: an entry starts with its delimiter, every record of it stands at its depth or deeper, and none of its own
-- tags stands twice.
use Rattle.std.specs.Prelude.{◌≡◌, Bool, List, [], ◌∷◌, ◌++◌, ℕ, ◌+◌, ◌-◌, ◌≤◌, ◌<◌, eqb, Some, None}
use Rattle.std.proofs.Math.Path.{refl}
use Rattle.std.proofs.Common.{sym, ap, ◌∙◌, arith, eqb-true}
use Rattle.std.proofs.Math.Bool.{true, false}
use Rattle.std.proofs.lemmas.Bool.{eqb-false}
use Rattle.field_rules.specs.Choice.{pick}
use Rattle.dictionary_layout_rules.specs.Layout.{Layout, end, field, group, first_of, position_from, position_in, delimiter_of_lem}
use Rattle.build_records.specs.Records.{stored}
use Rattle.build_records.specs.declared.Record.{Record}
use Rattle.build_group_rules.specs.Groups.{Rules, is_delimiter, opens}
use Rattle.build_group_rules.specs.Reading.{layout_rules}
use Rattle.build_nesting_laws.specs.Formed.{Part, entries_of, fields_of, Own, Formed, no_entry, next-entry, starts, rises, hangs, user}

-- each record of a list has a property
pub data All (P : Record → Type 0) : List Record → Type 0 where
  all_none : All P []
  all_more : {r : Record} {rs : List Record} → P r → All P rs → All P (r ∷ rs)

module _ (P : Record → Type 0) where
  pub all_append : {rs ss : List Record} → All P rs → All P ss → All P (rs ++ ss)
  all_append all_none b = b
  all_append (all_more p a) b = all_more p (all_append a b)

  pub all-stored : (r : Record) → P r → {rs : List Record} → All P rs → All P (stored r rs)
  unfolding stored
  all-stored r q all_none = all_more q all_none
  all-stored r q (all_more {r = x} {rs = rs} p a) = go (eqb x.depth r.depth) (eqb x.tag r.tag) (all-stored r q a)
    where
      go : (d t : Bool) → All P (stored r rs) → All P (pick d (pick t (r ∷ rs) (x ∷ stored r rs)) (x ∷ stored r rs))
      go true true s = all_more q a
      go true false s = all_more p s
      go false t s = all_more p s

pub all_map : {P Q : Record → Type 0} → ((r : Record) → P r → Q r) → {rs : List Record} → All P rs → All Q rs
all_map f all_none = all_none
all_map f (all_more {r} p a) = all_more (f r p) (all_map f a)

-- a record is at a depth or deeper
pub record Deep (depth : ℕ) (r : Record) : Type 0 where
  pub deep : depth ≤ r.depth

own-deep : {depth number : ℕ} {r : Record} → Own depth number r → Deep depth r
own-deep own = record { deep = omega (arith, own.deep) }

deeper : (depth : ℕ) (r : Record) → Deep (depth + 1) r → Deep depth r
deeper depth r d = record { deep = omega (arith, d.deep) }

module _ {L : Type 0} (rules : Rules L) where
  abbrev depth_of : Part L → ℕ
  depth_of (entries_of level depth entries) = depth
  depth_of (fields_of level depth number last) = depth

  -- nothing of a run or an entry stands above its depth
  pub formed_deep : {part : Part L} {rs : List Record} → Formed rules part rs → All (Deep (depth_of part)) rs
  formed_deep no_entry = all_none
  formed_deep (next-entry f g) = all_append _ (formed_deep f) (formed_deep g)
  formed_deep (starts o own) = all_more (own-deep own) all_none
  formed_deep (rises position f p l own) = all_append _ (formed_deep f) (all_more (own-deep own) all_none)
  formed_deep (hangs position c f p l own w g m) = all_append _ (all_append _ (formed_deep f) (all_more (own-deep own) all_none)) (all_map (deeper _) (formed_deep m))
  formed_deep (user f p a own) = all-stored _ _ (own-deep own) (formed_deep f)

  -- the first record of an entry
  pub record Starts (level : L) (depth number : ℕ) (entry : List Record) : Type 0 where
    pub first : Record
    pub rest : List Record
    pub is : entry ≡ first ∷ rest
    pub delimits : opens rules level first.tag ≡ true
    pub own : Own depth number first

  starts-append : {level : L} {depth number : ℕ} {entry : List Record} (more : List Record) → Starts level depth number entry → Starts level depth number (entry ++ more)
  starts-append more s = record { first = s.first; rest = s.rest ++ more; is = ap (λ (l : List Record). l ++ more) s.is; delimits = s.delimits; own = s.own }

  stored-first : {level : L} {depth number : ℕ} (first : Record) (rest : List Record) (r : Record) → opens rules level first.tag ≡ true → Own depth number first → Own depth number r → (d t : Bool) → eqb first.tag r.tag ≡ t →
      Starts level depth number (pick d (pick t (r ∷ rest) (first ∷ stored r rest)) (first ∷ stored r rest))
  stored-first first rest r o own new true true e =
      let same : first.tag ≡ r.tag = eqb-true _ _ e in
      record { first = r; rest = rest; is = refl; delimits = rw (← same) o; own = new }
  stored-first first rest r o own new true false e = record { first = first; rest = stored r rest; is = refl; delimits = o; own = own }
  stored-first first rest r o own new false t e = record { first = first; rest = stored r rest; is = refl; delimits = o; own = own }

  starts-stored : {level : L} {depth number : ℕ} {entry : List Record} (r : Record) → Own depth number r → Starts level depth number entry → Starts level depth number (stored r entry)
  unfolding stored
  starts-stored r own s = rw s.is (stored-first s.first s.rest r s.delimits s.own own (eqb s.first.depth r.depth) (eqb s.first.tag r.tag) refl)

  pub entry-starts : {level : L} {depth number last : ℕ} {entry : List Record} → Formed rules (fields_of level depth number last) entry → Starts level depth number entry
  entry-starts (starts {r = r} o own) = record { first = r; rest = []; is = refl; delimits = o; own = own }
  entry-starts (rises position f p l own) = starts-append _ (entry-starts f)
  entry-starts (hangs position c f p l own w g m) = starts-append _ (starts-append _ (entry-starts f))
  entry-starts (user {r = r} f p a own) = starts-stored r own (entry-starts f)

-- a record is none of an entry's own with a tag
pub record Other (depth tag : ℕ) (x : Record) : Type 0 where
  pub other : x.depth ≡ depth → x.tag ≡ tag → ⊥

-- no tag of an entry's own fields stands twice
pub data Once (depth : ℕ) : List Record → Type 0 where
  once_none : Once depth []
  once_more : {r : Record} {rs : List Record} → (r.depth ≡ depth → All (Other depth r.tag) rs) → Once depth rs → Once depth (r ∷ rs)

module _ (depth : ℕ) where
  once_last : (r : Record) {rs : List Record} → All (Other depth r.tag) rs → Once depth rs → Once depth (rs ++ (r ∷ []))
  once_last r all_none once_none = once_more (λ d. all_none) once_none
  once_last r (all_more {r = x} o a) (once_more m n) =
      once_more (λ d. all_append _ (m d) (all_more (record { other = λ e t. o.other d (sym t) }) all_none)) (once_last r a n)

  once_deep : {rs ss : List Record} → Once depth rs → All (Deep (depth + 1)) ss → Once depth (rs ++ ss)
  once_deep once_none all_none = once_none
  once_deep once_none (all_more {r = x} {rs = ss} p a) = once_more {r = x} {rs = ss} (λ d. absurd (omega (arith, p.deep))) (once_deep once_none a)
  once_deep (once_more {r = x} m n) a = once_more (λ d. all_append _ (m d) (all_map (λ y p. record { other = λ e t. absurd (omega (arith, p.deep)) }) a)) (once_deep n a)

  once_step : (x r : Record) (rs : List Record) → r.depth ≡ depth → (x.depth ≡ depth → All (Other depth x.tag) rs) → Once depth rs → Once depth (stored r rs) → (d t : Bool) → eqb x.depth r.depth ≡ d → eqb x.tag r.tag ≡ t →
      Once depth (pick d (pick t (r ∷ rs) (x ∷ stored r rs)) (x ∷ stored r rs))
  once_step x r rs e m n s true true p q =
      let same : x.tag ≡ r.tag = eqb-true _ _ q in
      once_more {r = r} {rs = rs} (λ d. rw (← same) (m (eqb-true _ _ p ∙ e))) n
  once_step x r rs e m n s true false p q = once_more (λ d. all-stored _ r (record { other = λ f t. eqb-false _ _ q (sym t) }) (m d)) s
  once_step x r rs e m n s false t p q = once_more (λ d. absurd (eqb-false _ _ p (d ∙ sym e))) s

  once_stored : (r : Record) → r.depth ≡ depth → {rs : List Record} → Once depth rs → Once depth (stored r rs)
  unfolding stored
  once_stored r e once_none = once_more (λ d. all_none) once_none
  once_stored r e (once_more {r = x} {rs = rs} m n) = once_step x r rs e m n (once_stored r e n) (eqb x.depth r.depth) (eqb x.tag r.tag) refl refl

-- where the delimiter has the first position, as in every layout
module _ {L : Type 0} (rules : Rules L) (first : (level : L) (tag : ℕ) → opens rules level tag ≡ true → rules.position level tag ≡ Some 0) where
  -- the own tags of an entry have positions up to the last, or none
  record Below (level : L) (depth last : ℕ) (x : Record) : Type 0 where
    below : x.depth ≡ depth → (position : ℕ) → rules.position level x.tag ≡ Some position → position ≤ last

  module _ (level : L) (depth : ℕ) (r : Record) where
    below_at : (position : ℕ) → rules.position level r.tag ≡ Some position → Below level depth position r
    below_at position p = record { below = at }
      where
        at : r.depth ≡ depth → (q : ℕ) → rules.position level r.tag ≡ Some q → q ≤ position
        at d q e = let z : position ≡ q = cc in omega arith

    below_none : (last : ℕ) → rules.position level r.tag ≡ None → Below level depth last r
    below_none last p = record { below = at }
      where
        at : r.depth ≡ depth → (q : ℕ) → rules.position level r.tag ≡ Some q → q ≤ last
        at d q e = let z : ◌≡◌ {A = ℕ} 0 1 = cc in absurd (omega arith)

    below-deep : (last : ℕ) → Deep (depth + 1) r → Below level depth last r
    below-deep last deep = record { below = at }
      where
        at : r.depth ≡ depth → (q : ℕ) → rules.position level r.tag ≡ Some q → q ≤ last
        at d q e = absurd (omega (arith, deep.deep))

    below-later : (last position : ℕ) → last < position → Below level depth last r → Below level depth position r
    below-later last position l b = record { below = at }
      where
        at : r.depth ≡ depth → (q : ℕ) → rules.position level r.tag ≡ Some q → q ≤ position
        at d q e = omega (arith, b.below d q e)

    -- a tag that rises is none of those before
    other-later : (last position tag : ℕ) → rules.position level tag ≡ Some position → last < position → Below level depth last r → Other depth tag r
    other-later last position tag p l b = record { other = at }
      where
        at : r.depth ≡ depth → r.tag ≡ tag → ⊥
        at d t = omega (arith, b.below d position (ap (rules.position level) t ∙ p))

  entry-below : {level : L} {depth number last : ℕ} {entry : List Record} → Formed rules (fields_of level depth number last) entry → All (Below level depth last) entry
  entry-below {level} {depth} (starts {r = r} o own) = all_more (below_at level depth r 0 (first level r.tag o)) all_none
  entry-below {level} {depth} (rises {last = last} position {r = r} f p l own) =
      all_append _ (all_map (λ x b. below-later level depth x last position l b) (entry-below f)) (all_more (below_at level depth r position p) all_none)
  entry-below {level} {depth} (hangs {last = last} position c f p l own w g m) =
      all_append _
      (all_append _ (all_map (λ x b. below-later level depth x last position l b) (entry-below f)) (all_more (below_at level depth c position p) all_none))
      (all_map (λ x d. below-deep level depth x position d) (formed_deep rules m))
  entry-below {level} {depth} {number} {last} (user {r = r} f p a own) = all-stored _ r (below_none level depth r last p) (entry-below f)

  -- a declared tag that rises is none of the entry's own so far
  pub entry_other : {level : L} {depth number last : ℕ} {entry : List Record} (position tag : ℕ) → Formed rules (fields_of level depth number last) entry → rules.position level tag ≡ Some position → last < position → All (Other depth tag) entry
  entry_other {level} {depth} {number} {last} position tag f p l = all_map (λ x b. other-later level depth x last position tag p l b) (entry-below f)

  -- "declared tags must rise", and a user tag is stored: within an entry no tag stands twice
  pub entry_once : {level : L} {depth number last : ℕ} {entry : List Record} → Formed rules (fields_of level depth number last) entry → Once depth entry
  entry_once (starts o own) = once_more (λ d. all_none) once_none
  entry_once {level} {depth} (rises {last = last} position {r = r} f p l own) =
      once_last depth r (all_map (λ x b. other-later level depth x last position r.tag p l b) (entry-below f)) (entry_once f)
  entry_once {level} {depth} (hangs {last = last} position c f p l own w g m) =
      once_deep depth (once_last depth c (all_map (λ x b. other-later level depth x last position c.tag p l b) (entry-below f)) (entry_once f)) (formed_deep rules m)
  entry_once {level} {depth} (user {r = r} f p a own) = once_stored depth r own.deep (entry_once f)

opens-first : (layout : Layout) (tag : ℕ) → is_delimiter (delimiter_of_lem layout) tag ≡ true → position_from tag 0 layout ≡ Some 0
unfolding is_delimiter delimiter_of_lem position_from first_of
opens-first end tag o = let z : ◌≡◌ {A = ℕ} 0 1 = cc in absurd (omega arith)
opens-first (field t required rest) tag o = rw o
opens-first (group t required inner rest) tag o = rw o

-- the delimiter of a layout has its first position
pub layout_first : (accepts : ℕ → Bool) (layout : Layout) (tag : ℕ) → opens (layout_rules accepts) layout tag ≡ true → (layout_rules accepts).position layout tag ≡ Some 0
unfolding opens layout_rules position_in
layout_first accepts layout tag o = opens-first layout tag o
