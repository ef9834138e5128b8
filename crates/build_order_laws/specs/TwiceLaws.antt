-- A field whose tag its map holds makes no record of its own, any other makes one. So what is stored and what may still be read come to as
-- much as before, or to less where a tag was stored twice.
use Rattle.std.specs.Prelude.{◌≡◌, refl, Bool, true, false, List, [], ◌∷◌, ◌++◌, ℕ, suc, ◌+◌, ◌≤◌, ◌<◌, length, take, drop, eqb}
use Rattle.std.proofs.Common.{ap, arith, length-append, take-append-drop}
use Rattle.field_rules.specs.Choice.{pick}
use Rattle.field_rules.specs.declared.Field.{Field}
use Rattle.build_records.specs.Records.{stored}
use Rattle.build_records.specs.declared.Record.{Record}
use Rattle.build_group_rules.specs.Groups.{entry_record}
use Rattle.build_group_rules.specs.Reading.{joined_list}
use Rattle.build_required_rules.specs.Required.{has}
use Rattle.build_parts.specs.Parts.{part_record}
use Rattle.build_body_rules.specs.Body.{behind_run, stored_run}
use Rattle.build_order_laws.specs.BodyStores.{behind_fewer}

-- whether a tag was stored twice tells whether there are as many as before, or fewer
pub record Tells (twice : Bool) (before after : ℕ) : Type 0 where
  pub all : twice ≡ false → after ≡ before
  pub fewer : twice ≡ true → after < before

pub tells_once : {before after : ℕ} → after ≡ before → Tells false before after
tells_once e = record { all = λ q. e; fewer = λ q. let z : ◌≡◌ {A = ℕ} 0 1 = cc in absurd (omega arith) }

pub tells_twice : {before after : ℕ} → after < before → Tells true before after
tells_twice e = record { all = λ q. let z : ◌≡◌ {A = ℕ} 0 1 = cc in absurd (omega arith); fewer = λ q. e }

-- there are never more
tells_most : (twice : Bool) {before after : ℕ} → Tells twice before after → after ≤ before
tells_most true t = omega (arith, t.fewer refl)
tells_most false t = omega (arith, t.all refl)

-- the same of numbers with the same difference
pub tells_as : (twice : Bool) {before after from to : ℕ} → before + to ≡ from + after → Tells twice before after → Tells twice from to
tells_as true e t = tells_twice (omega (arith, e, t.fewer refl))
tells_as false e t = tells_once (omega (arith, e, t.all refl))

-- a tag was stored twice in two goes where it was in the first or in the second
pub tells_then : (first second : Bool) {before middle after : ℕ} → Tells first before middle → Tells second middle after → Tells (pick first true second) before after
tells_then true second a b = tells_twice (omega (arith, a.fewer refl, tells_most second b))
tells_then false true a b = tells_twice (omega (arith, a.all refl, b.fewer refl))
tells_then false false a b = tells_once (omega (arith, a.all refl, b.all refl))

-- which of two goes comes first doesn't matter
pub tells_either : (first second third : Bool) {before after : ℕ} → Tells (pick first true (pick second true third)) before after → Tells (pick second true (pick first true third)) before after
tells_either true true third t = t
tells_either true false third t = t
tells_either false true third t = t
tells_either false false third t = t

-- "storing a held tag replaces the value"
stored_tells : (r : Record) (rs : List Record) → Tells (has r.depth r.tag rs) (length rs + 1) (length (stored r rs))
unfolding stored has
stored_tells r [] = tells_once (omega arith)
stored_tells r (x ∷ rs) = by_tests (eqb x.depth r.depth) (eqb x.tag r.tag) (tells_as (has r.depth r.tag rs) (omega arith) (stored_tells r rs))
  where
    by_tests : (d t : Bool) → Tells (has r.depth r.tag rs) (length (x ∷ rs) + 1) (length (x ∷ stored r rs))
        → Tells (pick d (pick t true (has r.depth r.tag rs)) (has r.depth r.tag rs)) (length (x ∷ rs) + 1) (length (pick d (pick t (r ∷ rs) (x ∷ stored r rs)) (x ∷ stored r rs)))
    by_tests true true later = tells_twice (omega arith)
    by_tests true false later = later
    by_tests false t later = later

-- a field was read and stored in a part's own map
pub tells_field : (part : ℕ) (f : Field) (rs : List Record) (room : ℕ) → Tells (has 0 f.tag rs) (length rs + suc room) (length (stored (part_record part f) rs) + room)
unfolding part_record
tells_field part f rs room = tells_as (has 0 f.tag rs) (omega arith) (stored_tells (part_record part f) rs)

-- a field was read that opens an entry, or a declared one that rises in it
pub tells_last : (r : Record) (rs : List Record) (room : ℕ) → Tells false (length rs + suc room) (length (rs ++ (r ∷ [])) + room)
tells_last r rs room = tells_once (omega (arith, length-append rs (r ∷ [])))

-- a field was read and joined the entry whose records start at a place
pub tells_joined : (start depth number : ℕ) (f : Field) (rs : List Record) (room : ℕ) → Tells (has depth f.tag (drop start rs)) (length rs + suc room) (length (joined_list start (entry_record depth number f) rs) + room)
unfolding joined_list entry_record
tells_joined start depth number f rs room =
    let own = drop start rs in
    let r = entry_record depth number f in
    let a = length-append (take start rs) own in
    let b = length-append (take start rs) (stored r own) in
    tells_as (has depth f.tag own) (omega (arith, a, b, ap length (take-append-drop start rs))) (stored_tells r own)

-- "a second run replaces the first"
run_tells : (r : Record) (es rs : List Record) → Tells (has r.depth r.tag rs) (length rs + suc (length es)) (length (stored_run r es rs))
unfolding stored_run has
run_tells r es [] = tells_once (omega arith)
run_tells r es (x ∷ rs) = by_tests (eqb x.depth r.depth) (eqb x.tag r.tag) (tells_as (has r.depth r.tag rs) (omega arith) (run_tells r es rs))
  where
    by_tests : (d t : Bool) → Tells (has r.depth r.tag rs) (length (x ∷ rs) + suc (length es)) (length (x ∷ stored_run r es rs))
        → Tells (pick d (pick t true (has r.depth r.tag rs)) (has r.depth r.tag rs)) (length (x ∷ rs) + suc (length es)) (length (pick d (pick t (r ∷ (es ++ behind_run rs)) (x ∷ stored_run r es rs)) (x ∷ stored_run r es rs)))
    by_tests true true later = tells_twice (omega (arith, length-append es (behind_run rs), behind_fewer rs))
    by_tests true false later = later
    by_tests false t later = later

-- a count was read, and then its run; both are stored in the body
pub tells_run : (f : Field) (es rs : List Record) (room : ℕ) → Tells (has 0 f.tag rs) (length rs + suc (length es + room)) (length (stored_run (part_record 2 f) es rs) + room)
unfolding part_record
tells_run f es rs room = tells_as (has 0 f.tag rs) (omega arith) (run_tells (part_record 2 f) es rs)
