-- Looking back without going back: for each depth down to that of the record before, which record is the newest that stands no deeper.
-- A record that is laid is the newest of its depth and leaves what is known of the depths above; what was kept of deeper ones is not asked again.
use Rattle.std.specs.Prelude.{◌≡◌, refl, Bool, List, ◌∷◌, ℕ, ◌+◌, ◌-◌, ◌≤◌, ◌<◌, length, set, Some}
use Rattle.std.proofs.Common.{sym, ◌∙◌, arith, length-set, get_or-set_other}
use Rattle.std.proofs.Math.Path.{ap}
use Rattle.std.proofs.Math.Bool.{true, false}
use Rattle.std.proofs.Math.ListN.{get_or}
use Rattle.std.proofs.Math.Seq.{get_or-set_same}
use Rattle.std.proofs.Math.Dec.{leb}
use borrow.Author.Tests.{leb-true, leb-false}
use Rattle.build_records.specs.Records.{record_at}
use Rattle.build_records.specs.declared.Record.{Record}
use Rattle.message_take_over.specs.Taking.{records_before, nearest_in}
use Rattle.message_take_over.specs.Laying.{reach}
use Rattle.message_take_over.specs.JoinLaws.{before-step, before-next, nearest_first, nearest_past}

-- what is kept of the records before one: a word to a depth, and no depth is without
pub record Newest (rs : List Record) (to : ℕ) (last : List ℕ) : Type 0 where
  pub room : length last ≡ 1024
  pub shallow : reach (records_before to rs) ≤ 1024
  pub known : (depth : ℕ) → depth < reach (records_before to rs) → nearest_in depth (records_before to rs) ≡ Some (record_at (get_or last depth 0) rs)

-- no record, and no depth that could be asked for
pub newest_start : (rs : List Record) (last : List ℕ) → length last ≡ 1024 → Newest rs 0 last
newest_start rs last e =
    record {
      room = e;
      shallow = unfold records_before reach in omega arith;
      known = λ depth h. absurd (unfold records_before reach in omega arith);
    }

module _ {rs : List Record} {to : ℕ} {last : List ℕ} (n : Newest rs to last) where
  -- the record before is too deep, so what is kept of the depth tells
  pub newest_told : (depth : ℕ) → 0 < to → depth < (record_at (to - 1) rs).depth
      → (depth < 1024) × (nearest_in depth (records_before to rs) ≡ Some (record_at (get_or last depth 0) rs))
  newest_told depth more h =
      let reached : reach (records_before to rs) ≡ (record_at (to - 1) rs).depth + 1 = ap reach (before-step rs to more) ∙ (unfold reach in refl) in
      (omega (arith, n.shallow, reached), n.known depth (omega (arith, reached)))

  -- a record is entered at its depth
  pub newest_step : (record_at to rs).depth ≤ reach (records_before to rs) → (record_at to rs).depth < 1024
      → (kept : List ℕ) → kept ≡ set last (record_at to rs).depth to → Newest rs (to + 1) kept
  newest_step near deep kept e =
      record {
        room = ap length e ∙ simp length-set n.room;
        shallow = rw (before-next rs to) (unfold reach in omega arith);
        known = λ depth h. rw (before-next rs to, e) (by_depth depth (rw (before-next rs to) at h) (leb (record_at to rs).depth depth) refl);
      }
    where
      by_depth : (depth : ℕ) → depth < reach (record_at to rs ∷ records_before to rs) → (no_deeper : Bool) → leb (record_at to rs).depth depth ≡ no_deeper
          → nearest_in depth (record_at to rs ∷ records_before to rs) ≡ Some (record_at (get_or (set last (record_at to rs).depth to) depth 0) rs)
      by_depth depth h true l =
          let at : depth ≡ (record_at to rs).depth = unfold reach in omega (arith, leb-true (record_at to rs).depth depth l) in
          nearest_first _ _ _ (leb-true _ _ l)
          ∙ ap (λ (k : ℕ). Some (record_at k rs)) (sym (ap (λ (d : ℕ). get_or (set last (record_at to rs).depth to) d 0) at ∙ get_or-set_same last (record_at to rs).depth to 0 (omega (arith, n.room))))
      by_depth depth h false l =
          let above : depth < (record_at to rs).depth = leb-false (record_at to rs).depth depth l in
          nearest_past _ _ _ above ∙ n.known depth (omega arith)
          ∙ ap (λ (k : ℕ). Some (record_at k rs)) (sym (get_or-set_other last (record_at to rs).depth depth to 0 (λ same. omega arith)))
