-- A record that is stored over another: the places of a run's records are all different, so a record that is stored over another leaves
-- none at the other's place, and what is read later stands behind.
use Rattle.std.proofs.Math.Path.{◌≡◌, refl}
use Rattle.std.proofs.Common.{sym, arith}
use Rattle.std.specs.Prelude.{Bool, ℕ, zero, suc, ◌≤◌, ◌<◌, drop}
use Rattle.std.proofs.Math.Bool.{true, false}
use mathlib.Core.List.{List, [], ◌∷◌, ◌++◌}
use Rattle.std.proofs.Math.Dec.{eqb}
use borrow.Author.Tests.{eqb-true}
use Rattle.field_rules.specs.Choice.{pick}
use Rattle.field_rules.specs.Fields.{Fields, field}
use Rattle.field_rules.specs.declared.Field.{Field}
use Rattle.build_records.specs.Records.{stored}
use Rattle.build_records.specs.declared.Record.{Record}
use Rattle.build_group_rules.specs.Reading.{joined_list}
use Rattle.build_required_rules.specs.Required.{has}
use Rattle.build_order_laws.specs.Follows.{Reaches, here, further}
use Rattle.build_nesting_laws.specs.Entries.{All, all_none, all_more, all_append, all-stored, all_map}

-- a record whose value starts before a place, or anywhere but there
pub record Before (place : ℕ) (r : Record) : Type 0 where
  pub starts : r.place < place

pub record Elsewhere (place : ℕ) (r : Record) : Type 0 where
  pub apart : r.place ≡ place → ⊥

pub data Distinct : List Record → Type 0 where
  distinct_none : Distinct []
  distinct_more : {r : Record} {rs : List Record} → All (Elsewhere r.place) rs → Distinct rs → Distinct (r ∷ rs)

pub data Member (x : Record) : List Record → Type 0 where
  member-first : {rs : List Record} → Member x (x ∷ rs)
  member-later : {r : Record} {rs : List Record} → Member x rs → Member x (r ∷ rs)

pub all-member : {P : Record → Type 0} {x : Record} {rs : List Record} → All P rs → Member x rs → P x
all-member all_none never = elim never [ ]
all-member (all_more p a) member-first = p
all-member (all_more p a) (member-later m) = all-member a m

-- a list of fields that was read from one place to another
pub data Sequence : Fields → List Field → Fields → Type 0 where
  no_field : {fields : Fields} → Sequence fields [] fields
  next_field : {f : Field} {rest last : Fields} {fs : List Field} → Sequence rest fs last → Sequence (field f rest) (f ∷ fs) last

pub reached : {n : ℕ} {fields last : Fields} → Reaches fields n last → (fs : List Field) × Sequence fields fs last
reached here = ([], no_field)
reached (further {f = f} r) = let (fs, s) = reached r in (f ∷ fs, next_field s)

-- ===== what joins an entry =====

joined-later : (n : ℕ) (r x : Record) (rs : List Record) → joined_list (suc n) r (x ∷ rs) ≡ x ∷ joined_list n r rs
unfolding joined_list
joined-later n r x rs = refl

joined-first : (r : Record) (rs : List Record) → joined_list 0 r rs ≡ stored r rs
unfolding joined_list
joined-first r rs = refl

joined-none : (n : ℕ) (r : Record) → joined_list (suc n) r [] ≡ r ∷ []
unfolding joined_list stored
joined-none n r = refl

pub all-joined : {P : Record → Type 0} (n : ℕ) (r : Record) (rs : List Record) → P r → All P rs → All P (joined_list n r rs)
all-joined zero r rs p a = rw (joined-first r rs) (all-stored _ r p a)
all-joined (suc n) r [] p a = rw (joined-none n r) (all_more p all_none)
all-joined (suc n) r (x ∷ rs) p (all_more q a) = rw (joined-later n r x rs) (all_more q (all-joined n r rs p a))

-- a record whose value starts behind all others
module _ (at : ℕ) (r : Record) (new : at ≤ r.place) where
  elsewhere : (x : Record) → Before at x → Elsewhere x.place r
  elsewhere x b = record { apart = λ e. omega (arith, b.starts, e, new) }

  apart_from : {rs : List Record} → All (Before at) rs → All (Elsewhere r.place) rs
  apart_from a = all_map (λ x b. record { apart = λ e. omega (arith, b.starts, e, new) }) a

  pub distinct_last : {rs : List Record} → All (Before at) rs → Distinct rs → Distinct (rs ++ (r ∷ []))
  distinct_last all_none distinct_none = distinct_more all_none distinct_none
  distinct_last (all_more {r = x} b a) (distinct_more e d) = distinct_more (all_append _ e (all_more (elsewhere x b) all_none)) (distinct_last a d)

  distinct_stored : (rs : List Record) → All (Before at) rs → Distinct rs → Distinct (stored r rs)
  unfolding stored
  distinct_stored [] a d = distinct_more all_none distinct_none
  distinct_stored (x ∷ rs) (all_more b a) (distinct_more e d) = by_tests (eqb x.depth r.depth) (eqb x.tag r.tag) (distinct_more (all-stored _ r (elsewhere x b) e) (distinct_stored rs a d))
    where
      by_tests : (p q : Bool) → Distinct (x ∷ stored r rs) → Distinct (pick p (pick q (r ∷ rs) (x ∷ stored r rs)) (x ∷ stored r rs))
      by_tests true true later = distinct_more (apart_from a) d
      by_tests true false later = later
      by_tests false q later = later

  pub distinct_joined : (n : ℕ) (rs : List Record) → All (Before at) rs → Distinct rs → Distinct (joined_list n r rs)
  distinct_joined zero rs a d = rw (joined-first r rs) (distinct_stored rs a d)
  distinct_joined (suc n) [] a d = rw (joined-none n r) (distinct_more all_none distinct_none)
  distinct_joined (suc n) (x ∷ rs) (all_more b a) (distinct_more e d) = rw (joined-later n r x rs) (distinct_more (all-joined n r rs (elsewhere x b) e) (distinct_joined n rs a d))

  -- one that is stored over another of its depth and tag
  pub record Over (rs ss : List Record) : Type 0 where
    pub old : Record
    pub member : Member old rs
    pub tagged : old.tag ≡ r.tag
    pub gone : All (Elsewhere old.place) ss

  over-later : (x : Record) (rs ss : List Record) → All (Elsewhere x.place) rs → Over rs ss → Over (x ∷ rs) (x ∷ ss)
  over-later x rs ss e o =
      record { old = o.old; member = member-later o.member; tagged = o.tagged; gone = all_more (record { apart = λ q. (all-member e o.member).apart (sym q) }) o.gone }

  over-stored : (rs : List Record) → All (Before at) rs → Distinct rs → has r.depth r.tag rs ≡ true → Over rs (stored r rs)
  unfolding stored has
  over-stored [] a d h = let z : ◌≡◌ {A = ℕ} 0 1 = cc in absurd (omega arith)
  over-stored (x ∷ rs) (all_more b a) (distinct_more e d) h = by_tests (eqb x.depth r.depth) (eqb x.tag r.tag) refl h (λ k. over-later x rs (stored r rs) e (over-stored rs a d k))
    where
      by_tests : (p q : Bool) → eqb x.tag r.tag ≡ q → pick p (pick q true (has r.depth r.tag rs)) (has r.depth r.tag rs) ≡ true → (has r.depth r.tag rs ≡ true → Over (x ∷ rs) (x ∷ stored r rs))
          → Over (x ∷ rs) (pick p (pick q (r ∷ rs) (x ∷ stored r rs)) (x ∷ stored r rs))
      by_tests true true t h later = record { old = x; member = member-first; tagged = eqb-true _ _ t; gone = all_more (elsewhere x b) e }
      by_tests true false t h later = later h
      by_tests false q t h later = later h

  pub over-joined : (n : ℕ) (rs : List Record) → All (Before at) rs → Distinct rs → has r.depth r.tag (drop n rs) ≡ true → Over rs (joined_list n r rs)
  over-joined zero rs a d h = rw (joined-first r rs) (over-stored rs a d h)
  over-joined (suc n) [] a d h = let z : ◌≡◌ {A = ℕ} 0 1 = unfold has in cc in absurd (omega arith)
  over-joined (suc n) (x ∷ rs) (all_more b a) (distinct_more e d) h = rw (joined-later n r x rs) (over-later x rs (joined_list n r rs) e (over-joined n rs a d h))
