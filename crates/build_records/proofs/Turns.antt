-- One turn of each loop over the words, told by what it does to the records that they hold.
use mathlib.Core.Path.{◌≡◌, sym, ◌∙◌}
use mathlib.Core.List.{List}
use Prim.Native.Nat.{ℕ, ◌+◌, ◌-◌, ◌/◌, ◌≤◌, ◌<◌}
use native.Mathlib.Omega.{arith}
use lib.ListN.{length}
use Rattle.build_records.specs.Records.{records_of, on_records, record_at, replaced, inserted, removed, stride}
use Rattle.build_records.proofs.WordLaws.{records_length, on_again, on_same, on-nothing}
use Rattle.build_records.proofs.RecordLaws.{pushing, pushing-on, pushing-last, inserted-pushing, inserted_past, inserted_full, pulling, pulling-on, pulling-end, removed-pulling, removed_past, removed-many}
use Rattle.build_records.specs.declared.Record.{Record}

module _ (n : ℕ) (r : Record) (ws : List ℕ) where
  pub insert_past : (i : ℕ) → n < i → on_records (inserted n i r) ws ≡ ws
  insert_past i h = on-nothing _ ws (inserted_past n i r (records_of ws) h)

  pub insert_full : (i : ℕ) → length ws / stride ≤ n → on_records (inserted n i r) ws ≡ ws
  insert_full i h = on-nothing _ ws (inserted_full n i r (records_of ws) (omega (arith, records_length ws)))

  pub insert-starts : (i : ℕ) → i ≤ n → n < length ws / stride → on_records (inserted n i r) ws ≡ on_records (pushing n i r) ws
  insert-starts i h l = on_same _ _ ws (inserted-pushing n i r (records_of ws) h (omega (arith, records_length ws)))

  pub insert_turn : (at : ℕ) → at < n → n < length ws / stride → on_records (pushing n at r) ws ≡ on_records (pushing n (at + 1) (record_at at (records_of ws))) (on_records (replaced at r) ws)
  insert_turn at h l =
      on_same _ _ ws (pushing-on n at r (records_of ws) h (omega (arith, records_length ws)))
      ∙ sym (on_again (replaced at r) (pushing n (at + 1) (record_at at (records_of ws))) ws)

  pub insert-ends : (at : ℕ) → at ≡ n → n < length ws / stride → on_records (pushing n at r) ws ≡ on_records (replaced n r) ws
  insert-ends at e l = rw e (ends l)
    where
      ends : n < length ws / stride → on_records (pushing n n r) ws ≡ on_records (replaced n r) ws
      ends l = on_same _ _ ws (pushing-last n r (records_of ws) (omega (arith, records_length ws)))

module _ (n k : ℕ) (ws : List ℕ) where
  pub remove_past : (i : ℕ) → length ws / stride < n → on_records (removed n i k) ws ≡ ws
  remove_past i h = on-nothing _ ws (removed_past n i k (records_of ws) (omega (arith, records_length ws)))

  pub remove-many : (i : ℕ) → n < k → on_records (removed n i k) ws ≡ ws
  remove-many i h = on-nothing _ ws (removed-many n i k (records_of ws) h)

  pub remove-starts : (i : ℕ) → n ≤ length ws / stride → k ≤ n → on_records (removed n i k) ws ≡ on_records (pulling (n - k) k i) ws
  remove-starts i h l = on_same _ _ ws (removed-pulling n i k (records_of ws) (omega (arith, records_length ws)) l)

  pub remove_turn : (at : ℕ) → at < n - k → n ≤ length ws / stride → on_records (pulling (n - k) k at) ws ≡ on_records (pulling (n - k) k (at + 1)) (on_records (replaced at (record_at (at + k) (records_of ws))) ws)
  remove_turn at h l =
      on_same _ _ ws (pulling-on (n - k) k at (records_of ws) h (omega (arith, records_length ws)))
      ∙ sym (on_again (replaced at (record_at (at + k) (records_of ws))) (pulling (n - k) k (at + 1)) ws)

  pub remove-ends : (at : ℕ) → n - k ≤ at → on_records (pulling (n - k) k at) ws ≡ ws
  remove-ends at h = on-nothing _ ws (pulling-end (n - k) k at (records_of ws) h)
