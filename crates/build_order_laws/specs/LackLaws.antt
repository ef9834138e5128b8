-- The required check looks at depth and tag alone: records that are alike but for place and length lack the same.
-- Each of its steps is told so, down to the runs that are nested.
use Rattle.std.specs.Prelude.{◌≡◌, Bool, true, false, List, [], ◌∷◌}
use Rattle.std.proofs.Math.Path.{refl}
use Prim.Native.Nat.{ℕ, zero, suc, ◌+◌}
use Rattle.field_rules.specs.Choice.{pick}
use Rattle.build_records.specs.declared.Record.{Record}
use Rattle.build_group_rules.specs.Groups.{Opened, none as no_group, opened}
use Rattle.build_required_rules.specs.Required.{Demands, has, fields_lack, before, shallow, run_lacks, nested_lack, entries_lack, opens_entry, entry_lack, run_lack}
use Rattle.build_required_rules.specs.declared.Lack.{Lack}
use Rattle.build_order_laws.specs.Agree.{Alike, Similar, none, more}

has_same : (depth tag : ℕ) {rs qs : List Record} → Similar rs qs → has depth tag rs ≡ has depth tag qs
unfolding has
has_same depth tag none = refl
has_same depth tag (more a s) = rw (a.depth, a.tag, has_same depth tag s)

fields-same : (tags : List ℕ) (group depth : ℕ) {rs qs : List Record} → Similar rs qs → fields_lack tags group depth rs ≡ fields_lack tags group depth qs
unfolding fields_lack
fields-same [] group depth s = refl
fields-same (tag ∷ tags) group depth s = rw (has_same depth tag s, fields-same tags group depth s)

-- what doesn't look at place and length of the value
abbrev Blind : (Record → Bool) → Type 0
Blind test = (r q : Record) → Alike r q → test r ≡ test q

abbrev BlindCheck : (List Record → Lack) → Type 0
BlindCheck check = (rs qs : List Record) → Similar rs qs → check rs ≡ check qs

before_similar : (test : Record → Bool) → Blind test → {rs qs : List Record} → Similar rs qs → Similar (before test rs) (before test qs)
unfolding before
before_similar test blind none = none
before_similar test blind (more {r} {q} {rs} {qs} a s) = rw (blind r q a) (by_test (test q) (before_similar test blind s))
  where
    by_test : (b : Bool) → Similar (before test rs) (before test qs) → Similar (pick b [] (r ∷ before test rs)) (pick b [] (q ∷ before test qs))
    by_test true l = none
    by_test false l = more a l

shallow_blind : (depth : ℕ) → Blind (shallow depth)
unfolding shallow
shallow_blind depth r q a = rw a.depth

module _ {L : Type 0} (nested : L → ℕ → List Record → Lack) (blind : (level : L) (tag : ℕ) → BlindCheck (nested level tag)) where
  run-same : (o : Opened L) (tag : ℕ) {rs qs : List Record} → Similar rs qs → run_lacks nested o tag rs ≡ run_lacks nested o tag qs
  unfolding run_lacks
  run-same no_group tag s = refl
  run-same (opened level) tag {rs} {qs} s = blind level tag rs qs s

  nested_same : (groups : ℕ → Opened L) (depth : ℕ) {rs qs : List Record} → Similar rs qs → nested_lack nested groups depth rs ≡ nested_lack nested groups depth qs
  unfolding nested_lack
  nested_same groups depth none = refl
  nested_same groups depth (more {r} {q} {rs} {qs} a s) =
      rw (a.depth, a.tag, run-same (groups q.tag) q.tag (before_similar (shallow depth) (shallow_blind depth) s), nested_same groups depth s)

entries-same : (check : List Record → Lack) → BlindCheck check → (test : Record → Bool) → Blind test → {rs qs : List Record} → Similar rs qs → entries_lack check test rs ≡ entries_lack check test qs
unfolding entries_lack
entries-same check same test blind none = refl
entries-same check same test blind (more {r} {q} {rs} {qs} a s) =
    rw (blind r q a, same (r ∷ before test rs) (q ∷ before test qs) (more a (before_similar test blind s)), entries-same check same test blind s)

module _ {L : Type 0} (demands : Demands L) where
  opens_blind : (level : L) (depth : ℕ) → Blind (opens_entry demands level depth)
  unfolding opens_entry
  opens_blind level depth r q a = rw (a.depth, a.tag)

  entry-same : (nested : L → ℕ → List Record → Lack) → ((level : L) (tag : ℕ) → BlindCheck (nested level tag)) →
      (level : L) (group depth : ℕ) {rs qs : List Record} → Similar rs qs → entry_lack demands nested level group depth rs ≡ entry_lack demands nested level group depth qs
  unfolding entry_lack
  entry-same nested blind level group depth s = rw (fields-same (demands.required level) group depth s, nested_same nested blind (demands.group level) depth s)

  -- however many levels may be open
  pub run_lack-same : (levels : ℕ) (level : L) (group depth : ℕ) {rs qs : List Record} → Similar rs qs → run_lack demands levels level group depth rs ≡ run_lack demands levels level group depth qs
  unfolding run_lack
  run_lack-same zero level group depth s = refl
  run_lack-same (suc levels) level group depth s =
      entries-same _ (λ rs₂ qs₂ s₂. entry-same _ (λ inner tag rs₃ qs₃ s₃. run_lack-same levels inner tag (depth + 1) s₃) level group depth s₂) _ (opens_blind level depth) s
