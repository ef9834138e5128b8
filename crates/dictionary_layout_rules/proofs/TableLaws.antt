-- The laws of walking a table's rows, for every content of the table: each way that the walk goes at a row.
-- Places rise from sibling to sibling, so the fuel never runs out; later proofs cite only these steps.
use Rattle.std.specs.Prelude.{◌≡◌, Bool, ℕ, zero, suc, ◌-◌, ◌≤◌, ◌<◌}
use Rattle.std.proofs.Math.Path.{refl, ap}
use Rattle.std.proofs.Common.{◌∙◌, arith}
use Rattle.std.proofs.Math.Bool.{true, false}
use mathlib.Core.List.{List, [], ◌∷◌}
use Rattle.std.proofs.Math.Dec.{ltb}
use borrow.Author.Tests.{lt-ltb, le-ltb, ltb-true}
use Rattle.field_rules.specs.Choice.{pick}
use Rattle.dictionary_layout_rules.specs.Table.{Row, link_at, next_sibling, row_at, siblings_within, siblings_from}

module _ (table : List ℕ) (at stop : ℕ) where
  pub sibling_link : at < link_at table at → next_sibling table at stop ≡ link_at table at
  unfolding next_sibling
  sibling_link h = rw (lt-ltb _ _ h)

  pub sibling_stop : link_at table at ≤ at → next_sibling table at stop ≡ stop
  unfolding next_sibling
  sibling_stop h = rw (le-ltb _ _ h)

  pub sibling_rises : at < stop → at < next_sibling table at stop
  unfolding next_sibling
  sibling_rises h = go (ltb at (link_at table at)) refl
    where
      go : (t : Bool) → ltb at (link_at table at) ≡ t → at < pick t (link_at table at) stop
      go true e = ltb-true _ _ e
      go false e = h

siblings_fuel : (f g : ℕ) (table : List ℕ) (at stop : ℕ) → stop - at ≤ f → stop - at ≤ g → siblings_within f table at stop ≡ siblings_within g table at stop
unfolding siblings_within
siblings_fuel zero zero table at stop p q = refl
siblings_fuel zero (suc g) table at stop p q = rw (le-ltb at stop (omega arith))
siblings_fuel (suc f) zero table at stop p q = rw (le-ltb at stop (omega arith))
siblings_fuel (suc f) (suc g) table at stop p q = go (ltb at stop) refl (siblings_fuel f g table (next_sibling table at stop) stop)
  where
    go : (t : Bool) → ltb at stop ≡ t
        → (stop - next_sibling table at stop ≤ f → stop - next_sibling table at stop ≤ g → siblings_within f table (next_sibling table at stop) stop
        ≡ siblings_within g table (next_sibling table at stop) stop)
        → pick t (row_at table at stop ∷ siblings_within f table (next_sibling table at stop) stop) []
        ≡ pick t (row_at table at stop ∷ siblings_within g table (next_sibling table at stop) stop) []
    go true e r = let h = sibling_rises table at stop (ltb-true _ _ e) in
        ap (λ (l : List Row). row_at table at stop ∷ l) (r (omega arith) (omega arith))
    go false e r = refl

module _ (table : List ℕ) (at stop : ℕ) where
  pub walk-on : at < stop → siblings_from table at stop ≡ row_at table at stop ∷ siblings_from table (next_sibling table at stop) stop
  unfolding siblings_from
  walk-on h =
      let n = sibling_rises table at stop h in
      siblings_fuel (stop - at) (suc (stop - at)) table at stop (omega arith) (omega arith)
      ∙ step (stop - at)
      ∙ ap (λ (l : List Row). row_at table at stop ∷ l) (siblings_fuel (stop - at) (stop - next_sibling table at stop) table (next_sibling table at stop) stop
      (omega arith) (omega arith))
    where
      step : (f : ℕ) → siblings_within (suc f) table at stop ≡ row_at table at stop ∷ siblings_within f table (next_sibling table at stop) stop
      step f = unfold siblings_within in rw (lt-ltb _ _ h)

  pub walk_end : stop ≤ at → siblings_from table at stop ≡ []
  unfolding siblings_from siblings_within
  walk_end h = siblings_fuel (stop - at) 0 table at stop (omega arith) (omega arith)
