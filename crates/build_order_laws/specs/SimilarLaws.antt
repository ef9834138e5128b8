-- Storing looks at depth and tag alone: what is stored in records that are alike but for place and length stays alike.
-- So with each way to keep a record: behind all others, in a part's own map, in an entry's, and a count with its run.
use Rattle.std.specs.Prelude.{◌≡◌, refl, Bool, true, false, List, [], ◌∷◌, ◌++◌, ℕ, zero, suc, length, take, drop, eqb}
use Rattle.std.proofs.Common.{sym, ap}
use Rattle.field_rules.specs.Choice.{pick}
use Rattle.field_rules.specs.declared.Field.{Field}
use Rattle.build_records.specs.Records.{stored}
use Rattle.build_records.specs.declared.Record.{Record}
use Rattle.build_group_rules.specs.Groups.{entry_record}
use Rattle.build_group_rules.specs.Reading.{joined_list}
use Rattle.build_parts.specs.Parts.{part_record}
use Rattle.build_body_rules.specs.Body.{behind_run, stored_run}
use Rattle.build_order_laws.specs.Agree.{Alike, Similar, none, more}

pub alike_refl : (r : Record) → Alike r r
alike_refl r = record { part = refl; depth = refl; number = refl; tag = refl }

pub alike_sym : {r q : Record} → Alike r q → Alike q r
alike_sym a = record { part = sym a.part; depth = sym a.depth; number = sym a.number; tag = sym a.tag }

pub similar_refl : (rs : List Record) → Similar rs rs
similar_refl [] = none
similar_refl (r ∷ rs) = more (alike_refl r) (similar_refl rs)

pub similar_sym : {rs qs : List Record} → Similar rs qs → Similar qs rs
similar_sym none = none
similar_sym (more a s) = more (alike_sym a) (similar_sym s)

pub similar_length : {rs qs : List Record} → Similar rs qs → length rs ≡ length qs
similar_length none = refl
similar_length (more a s) = ap suc (similar_length s)

pub similar_append : {rs qs ss ts : List Record} → Similar rs qs → Similar ss ts → Similar (rs ++ ss) (qs ++ ts)
similar_append none t = t
similar_append (more a s) t = more a (similar_append s t)

pub similar_take : (n : ℕ) {rs qs : List Record} → Similar rs qs → Similar (take n rs) (take n qs)
similar_take zero s = none
similar_take (suc n) none = none
similar_take (suc n) (more a s) = more a (similar_take n s)

pub similar_drop : (n : ℕ) {rs qs : List Record} → Similar rs qs → Similar (drop n rs) (drop n qs)
similar_drop zero s = s
similar_drop (suc n) none = none
similar_drop (suc n) (more a s) = similar_drop n s

-- fields of the same tag make records that are alike
pub alike_field : (part : ℕ) (f g : Field) → f.tag ≡ g.tag → Alike (part_record part f) (part_record part g)
unfolding part_record
alike_field part f g t = record { part = refl; depth = refl; number = refl; tag = t }

pub alike_entry : (depth number : ℕ) (f g : Field) → f.tag ≡ g.tag → Alike (entry_record depth number f) (entry_record depth number g)
unfolding entry_record
alike_entry depth number f g t = record { part = refl; depth = refl; number = refl; tag = t }

module _ {x y r q : Record} (a : Alike x y) (b : Alike r q) where
  same-depth : eqb x.depth r.depth ≡ eqb y.depth q.depth
  same-depth = rw (a.depth, b.depth)

  same_tag : eqb x.tag r.tag ≡ eqb y.tag q.tag
  same_tag = rw (a.tag, b.tag)

-- a field in a map
pub similar_stored : {r q : Record} {rs qs : List Record} → Alike r q → Similar rs qs → Similar (stored r rs) (stored q qs)
unfolding stored
similar_stored b none = more b none
similar_stored {r} {q} b (more {r = x} {q = y} {rs = rs} {qs = qs} a s) = rw (same-depth a b, same_tag a b) (by_tests (eqb y.depth q.depth) (eqb y.tag q.tag) (similar_stored b s))
  where
    by_tests : (d t : Bool) → Similar (stored r rs) (stored q qs) → Similar (pick d (pick t (r ∷ rs) (x ∷ stored r rs)) (x ∷ stored r rs)) (pick d (pick t (q ∷ qs) (y ∷ stored q qs)) (y ∷ stored q qs))
    by_tests true true l = more b s
    by_tests true false l = more a l
    by_tests false t l = more a l

pub similar_joined : (start : ℕ) {r q : Record} {rs qs : List Record} → Alike r q → Similar rs qs → Similar (joined_list start r rs) (joined_list start q qs)
unfolding joined_list
similar_joined start b s = similar_append (similar_take start s) (similar_stored b (similar_drop start s))

outermost : {x y : Record} → Alike x y → eqb x.depth 0 ≡ eqb y.depth 0
outermost a = rw a.depth

pub similar_behind : {rs qs : List Record} → Similar rs qs → Similar (behind_run rs) (behind_run qs)
unfolding behind_run
similar_behind none = none
similar_behind (more {r = x} {q = y} {rs = rs} {qs = qs} a s) = rw (outermost a) (by_test (eqb y.depth 0) (similar_behind s))
  where
    by_test : (d : Bool) → Similar (behind_run rs) (behind_run qs) → Similar (pick d (x ∷ rs) (behind_run rs)) (pick d (y ∷ qs) (behind_run qs))
    by_test true l = more a s
    by_test false l = l

-- a count with its run
pub similar_run : {r q : Record} {es us rs qs : List Record} → Alike r q → Similar es us → Similar rs qs → Similar (stored_run r es rs) (stored_run q us qs)
unfolding stored_run
similar_run b e none = more b e
similar_run {r} {q} {es} {us} b e (more {r = x} {q = y} {rs = rs} {qs = qs} a s) = rw (same-depth a b, same_tag a b) (by_tests (eqb y.depth q.depth) (eqb y.tag q.tag) (similar_run b e s))
  where
    by_tests : (d t : Bool) → Similar (stored_run r es rs) (stored_run q us qs)
        → Similar (pick d (pick t (r ∷ (es ++ behind_run rs)) (x ∷ stored_run r es rs)) (x ∷ stored_run r es rs)) (pick d (pick t (q ∷ (us ++ behind_run qs)) (y ∷ stored_run q us qs)) (y ∷ stored_run q us qs))
    by_tests true true l = more b (similar_append e (similar_behind s))
    by_tests true false l = more a l
    by_tests false t l = more a l
