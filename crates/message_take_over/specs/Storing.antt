-- Values, written one behind the other straight into the lent store once their records are known to make a message.
-- Those of the records passed stand in front, and the test that each record may come next has found room for the rest.
use Rattle.std.specs.Prelude.{◌≡◌, refl, true, List, [], ◌∷◌, ◌++◌, ℕ, ◌+◌, ◌-◌, ◌≤◌, ◌<◌, length, take, replicate}
use Rattle.std.proofs.Common.{sym, ◌∙◌, append_assoc, append-nil, length-append, length-take, length-drop}
use Rattle.std.proofs.Math.Path.{ap}
use native.Mathlib.Omega.{arith}
use Rattle.field_rules.specs.Decimal.{written_at}
use Rattle.field_rules.proofs.DecimalLaws.{written-length}
use Rattle.build_records.specs.Records.{record_at, between, value_at}
use Rattle.build_records.proofs.RecordLaws.{between-on, between-end}
use Rattle.build_records.specs.declared.Record.{Record}
use Rattle.message_maps.specs.Rows.{padded, part}
use Rattle.message_lent_rules.specs.LentLaws.{both}
use Rattle.message_take_over.specs.Taking.{records_before, is_next, are_next, values_at}
use Rattle.message_take_over.specs.JoinLaws.{before-next}
use Rattle.message_take_over.specs.StepLaws.{next_is}
use Rattle.message_take_over.specs.Written.{written_behind, cleared-behind}

module _ (bytes : List ℕ) (r : Record) where
  value_part : part r.place (r.place + r.length) bytes ≡ value_at bytes r
  unfolding part value_at
  value_part = let e : r.place + r.length - r.place ≡ r.length = omega arith in rw e

  value_length : r.place + r.length ≤ length bytes → length (value_at bytes r) ≡ r.length
  unfolding value_at
  value_length h = simp (length-take, length-drop) (omega arith)

-- what each record that may come next says of its value
module _ (bytes : List ℕ) (part used : ℕ) (before : List Record) (r : Record) (rs : List Record) (h : are_next (length bytes) part used before (r ∷ rs) ≡ true)
  where
    this_next : is_next (length bytes) part used before r ≡ true
    unfolding are_next
    this_next = (both _ _ h).0

    rest-next : are_next (length bytes) r.part (used + r.length) (r ∷ before) rs ≡ true
    unfolding are_next
    rest-next = (both (is_next (length bytes) part used before r) _ h).1

    this_fits : (r.place + r.length ≤ length bytes) × (used + r.length ≤ 8192)
    this_fits = let n = next_is (length bytes) part used before r this_next in (n.inside, n.room)

-- all values have room
pub values_fit : (bytes : List ℕ) (part used : ℕ) (before rs : List Record) → used ≤ 8192 → are_next (length bytes) part used before rs ≡ true
    → used + length (values_at bytes rs) ≤ 8192
unfolding values_at
values_fit bytes part used before [] h n = omega arith
values_fit bytes part used before (r ∷ rs) h n =
    let f = this_fits bytes part used before r rs n in
    omega (
      arith,
      values_fit bytes r.part (used + r.length) (r ∷ before) rs f.1 (rest-next bytes part used before r rs n),
      length-append (value_at bytes r) (values_at bytes rs),
      value_length bytes r f.0,
    )

module _ (bytes : List ℕ) (rs : List Record) (count : ℕ) where
  pub record Storing (i used : ℕ) (values : List ℕ) : Type 0 where
    pub last : ℕ
    pub store : length values ≡ 8192
    pub within : used ≤ 8192
    pub texts : take used values ++ values_at bytes (between i count rs) ≡ values_at bytes (between 0 count rs)
    pub next : are_next (length bytes) last used (records_before i rs) (between i count rs) ≡ true

  pub storing-start : (values : List ℕ) → length values ≡ 8192 → are_next (length bytes) 1 0 [] (between 0 count rs) ≡ true → Storing 0 0 values
  storing-start values e n = record { last = 1; store = e; within = omega arith; texts = refl; next = unfold records_before in n }

  module _ {i used : ℕ} {values : List ℕ} (s : Storing i used values) where
    module _ (more : i < count) (all : count ≤ length rs) where
      this : between i count rs ≡ record_at i rs ∷ between (i + 1) count rs
      this = between-on i count rs more (omega arith)

      goes : are_next (length bytes) s.last used (records_before i rs) (record_at i rs ∷ between (i + 1) count rs) ≡ true
      goes = rw this at s.next

      pub storing_fits : ((record_at i rs).place + (record_at i rs).length ≤ length bytes) × (used + (record_at i rs).length ≤ 8192)
      storing_fits = this_fits bytes s.last used (records_before i rs) (record_at i rs) (between (i + 1) count rs) goes

      pub storing-on : (place size behind : ℕ) (stored : List ℕ) → place ≡ (record_at i rs).place → size ≡ (record_at i rs).length
          → behind ≡ used + (place + size - place) → stored ≡ written_at used (part place (place + size) bytes) values → Storing (i + 1) behind stored
      storing-on place size behind stored p l u w =
          let r = record_at i rs in
          let value = value_at bytes r in
          let sized : length value ≡ r.length = value_length bytes r storing_fits.0 in
          let written : stored ≡ written_at used value values = w ∙ ap (λ (v : List ℕ). written_at used v values) (rw (p, l) (value_part bytes r)) in
          let end : behind ≡ used + r.length = omega arith in
          record {
            last = r.part;
            store = ap length written ∙ written-length used value values ∙ s.store;
            within = omega (arith, storing_fits.1);
            texts =
                ap (λ (v : List ℕ). v ++ values_at bytes (between (i + 1) count rs))
                (written_behind used behind value values stored (omega arith) (omega (arith, storing_fits.1, s.store)) written)
                ∙ append_assoc (take used values) value _
                ∙ ap (λ (v : List ℕ). take used values ++ v) (sym (ap (values_at bytes) this ∙ (unfold values_at in refl))) ∙ s.texts;
            next = rw (end, before-next rs i) (rest-next bytes s.last used (records_before i rs) r (between (i + 1) count rs) goes);
          }

    -- zeros behind them all
    pub storing-done : count ≤ i → (cleared : List ℕ) → cleared ≡ written_at used (replicate (8192 - used) 0) values
        → cleared ≡ padded 8192 (values_at bytes (between 0 count rs))
    storing-done h cleared e =
        let all : take used values ≡ values_at bytes (between 0 count rs) =
        sym (append-nil (take used values)) ∙ ap (λ (l : List ℕ). take used values ++ l)
        (sym (ap (values_at bytes) (between-end i count rs h) ∙ (unfold values_at in refl))) ∙ s.texts in
        cleared-behind 8192 used values cleared s.store s.within e ∙ ap (padded 8192) all
