-- Where a record belongs: one law for each way that looking back goes.
use Rattle.std.specs.Prelude.{◌≡◌, List, ◌∷◌, ℕ, suc, ◌+◌, ◌-◌, ◌≤◌, ◌<◌, Option, Some, None}
use Rattle.std.proofs.Common.{ap, arith}
use borrow.Author.Tests.{le-leb, lt-leb, eq-eqb, ne_eqb}
use Rattle.build_records.specs.Records.{record_at}
use Rattle.build_records.specs.declared.Record.{Record}
use Rattle.message_take_over.specs.declared.Joins.TheVariants.{Open, Entry, Nowhere}
use Rattle.message_take_over.specs.Taking.{records_before, nearest_in, on_count, joins_in_run, joins_on_count, joins_behind, joins_of}

pub before-step : (rs : List Record) (i : ℕ) → 0 < i → records_before i rs ≡ record_at (i - 1) rs ∷ records_before (i - 1) rs
unfolding records_before
before-step rs i h = let e : i ≡ suc (i - 1) = omega arith in ap (λ (n : ℕ). records_before n rs) e

pub before-next : (rs : List Record) (i : ℕ) → records_before (i + 1) rs ≡ record_at i rs ∷ records_before i rs
before-next rs i = let e : i + 1 - 1 ≡ i = omega arith in rw e at (before-step rs (i + 1) (omega arith))

module _ (depth : ℕ) (r : Record) (before : List Record) where
  pub nearest_first : r.depth ≤ depth → nearest_in depth (r ∷ before) ≡ Some r
  unfolding nearest_in
  nearest_first h = rw (le-leb _ _ h)

  pub nearest_past : depth < r.depth → nearest_in depth (r ∷ before) ≡ nearest_in depth before
  unfolding nearest_in
  nearest_past h = rw (lt-leb _ _ h)

module _ (depth : ℕ) (rs : List Record) where
  pub nearest_here : (i : ℕ) → 0 < i → (record_at (i - 1) rs).depth ≤ depth → nearest_in depth (records_before i rs) ≡ Some (record_at (i - 1) rs)
  nearest_here i more h = rw (before-step rs i more) (nearest_first _ _ _ h)

  pub nearest_none : (i : ℕ) → i ≡ 0 → nearest_in depth (records_before i rs) ≡ None
  unfolding nearest_in records_before
  nearest_none i e = rw e

module _ (before : List Record) (r : Record) where
  -- behind a record of the same depth
  module _ (number : ℕ) where
    pub run-same : r.number ≡ number → joins_in_run before number r ≡ Open
    unfolding joins_in_run
    run-same h = rw (eq-eqb _ _ h)

    pub run_skips : (r.number ≡ number → ⊥) → (r.number ≡ number + 1 → ⊥) → joins_in_run before number r ≡ Nowhere
    unfolding joins_in_run
    run_skips h k = rw (ne_eqb _ _ h, ne_eqb _ _ k)

    pub run-next : (r.number ≡ number → ⊥) → r.number ≡ number + 1 → (n : Option Record) → nearest_in (r.depth - 1) before ≡ n → joins_in_run before number r ≡ on_count n
    unfolding joins_in_run
    run-next h k n e = rw (ne_eqb _ _ h, eq-eqb _ _ k, e)

  -- in the part's own map
  pub joins-own : r.depth ≡ 0 → r.number ≡ 0 → joins_of before r ≡ Open
  unfolding joins_of
  joins-own h k = rw (eq-eqb _ _ h, eq-eqb _ _ k)

  pub joins-numbered : r.depth ≡ 0 → (r.number ≡ 0 → ⊥) → joins_of before r ≡ Nowhere
  unfolding joins_of
  joins-numbered h k = rw (eq-eqb _ _ h, ne_eqb _ _ k)

  -- in an entry
  module _ (deep : r.depth ≡ 0 → ⊥) where
    pub joins-first : nearest_in r.depth before ≡ None → joins_of before r ≡ Nowhere
    unfolding joins_of joins_behind
    joins-first e = rw (ne_eqb _ _ deep, e)

    module _ (q : Record) (near : nearest_in r.depth before ≡ Some q) where
      pub joins-other : (q.part ≡ r.part → ⊥) → joins_of before r ≡ Nowhere
      unfolding joins_of joins_behind
      joins-other h = rw (ne_eqb _ _ deep, near, ne_eqb _ _ h)

      pub joins-run : q.part ≡ r.part → q.depth ≡ r.depth → joins_of before r ≡ joins_in_run before q.number r
      unfolding joins_of joins_behind
      joins-run h k = rw (ne_eqb _ _ deep, near, eq-eqb _ _ h, eq-eqb _ _ k)

      module _ (same : q.part ≡ r.part) (higher : q.depth ≡ r.depth → ⊥) where
        pub joins_skips : (r.depth ≡ q.depth + 1 → ⊥) → joins_of before r ≡ Nowhere
        unfolding joins_of joins_behind joins_on_count
        joins_skips h = rw (ne_eqb _ _ deep, near, eq-eqb _ _ same, ne_eqb _ _ higher, ne_eqb _ _ h)

        pub joins-late : r.depth ≡ q.depth + 1 → (r.number ≡ 1 → ⊥) → joins_of before r ≡ Nowhere
        unfolding joins_of joins_behind joins_on_count
        joins-late h k = rw (ne_eqb _ _ deep, near, eq-eqb _ _ same, ne_eqb _ _ higher, eq-eqb _ _ h, ne_eqb _ _ k)

        pub joins-count : r.depth ≡ q.depth + 1 → r.number ≡ 1 → joins_of before r ≡ Entry q.tag
        unfolding joins_of joins_behind joins_on_count
        joins-count h k = rw (ne_eqb _ _ deep, near, eq-eqb _ _ same, ne_eqb _ _ higher, eq-eqb _ _ h, eq-eqb _ _ k)
