-- The body as it is read: fields of the layout are stored, and a count is stored with the run that was read behind it.
use Rattle.std.proofs.Math.Path.{◌≡◌, refl, sym}
use Rattle.std.proofs.Common.{◌∙◌, arith, length-append}
use Rattle.std.specs.Prelude.{Bool, length, eqb, Some}
use Rattle.std.proofs.Math.Bool.{true, false}
use mathlib.Core.List.{List, [], ◌∷◌, ◌++◌}
use Prim.Native.Nat.{ℕ, zero, suc, ◌+◌, ◌≤◌}
use Rattle.field_rules.specs.Choice.{pick}
use Rattle.field_rules.specs.Fields.{Fields, unreadable, field}
use Rattle.field_rules.specs.declared.Field.{Field}
use Rattle.dictionary_layout_rules.specs.Tree.{holds_tag}
use Rattle.build_records.specs.Records.{stored, value_at}
use Rattle.build_records.specs.declared.Record.{Record}
use Rattle.build_group_rules.specs.Groups.{Rules, opens, run, outermost, RunOutcome, walk}
use Rattle.build_group_rules.specs.Groups.{ended as ran, refused as stops}
use Rattle.build_group_rules.specs.Reading.{list_store}
use Rattle.build_required_rules.specs.Required.{Demands, run_lack}
use Rattle.build_required_rules.specs.declared.Lack.{Lack}
use Rattle.build_required_rules.specs.declared.Lack.TheVariants.{Missing, Complete}
use Rattle.build_nesting_laws.specs.Entries.{All, all_none, all_more, all_append}
use Rattle.build_nesting_laws.specs.Nesting.{run_formed}
use Rattle.build_answers.specs.declared.Answer.TheVariants.{InvalidField}
use Rattle.build_parts.specs.Parts.{ended, refused, part_record}
use Rattle.build_body_rules.specs.Body.{Kind, plain, counts, other, Body, behind_run, stored_run, and_then, next_from, with_run, takes, body_within}
use Rattle.build_body_rules.specs.Kinds.{checked, ran_as, run_from, body_of}
use Rattle.message_read_laws.specs.Shapes.{Shapes, put_run}
use Rattle.message_read_laws.specs.ShapeLaws.{all_first, all_rest, shapes_put_run, not_stands}
use Rattle.message_read_laws.specs.PutLaws.{put_run_formed}
use Rattle.message_read_laws.specs.GroupShapes.{run_shapes, built}
use Rattle.message_read_laws.specs.Counting.{total, budget, Counts}
use Rattle.message_read_laws.specs.CountLaws.{total-append, first_fine, rest_fine}
use Rattle.message_read_laws.specs.PartReading.{Reads, of_field, own-field, reads_on, walk-counts}

-- the records that are left of a list behind a run
all-behind : {P : Record → Type 0} (rs : List Record) → All P rs → All P (behind_run rs)
unfolding behind_run
all-behind [] a = all_none
all-behind {P} (r ∷ rs) a = by_test (eqb r.depth 0) (all-behind rs (all_rest a))
  where
    by_test : (b : Bool) → All P (behind_run rs) → All P (pick b (r ∷ rs) (behind_run rs))
    by_test true l = a
    by_test false l = l

behind_fewer : (rs : List Record) → (length (behind_run rs) ≤ length rs) × (total (behind_run rs) ≤ total rs)
unfolding behind_run total
behind_fewer [] = (omega arith, omega arith)
behind_fewer (r ∷ rs) = by_test (eqb r.depth 0) (behind_fewer rs)
  where
    by_test : (b : Bool) → (length (behind_run rs) ≤ length rs) × (total (behind_run rs) ≤ total rs) → (length (pick b (r ∷ rs) (behind_run rs)) ≤ length (r ∷ rs)) × (total (pick b (r ∷ rs) (behind_run rs)) ≤ r.length + total rs)
    by_test true h = (omega arith, unfold total in omega arith)
    by_test false h = (omega (arith, h.0), omega (arith, h.1))

-- a count with its run
pub all-run : {P : Record → Type 0} (r : Record) (es rs : List Record) → P r → All P es → All P rs → All P (stored_run r es rs)
unfolding stored_run
all-run r es [] p b a = all_more p b
all-run {P} r es (x ∷ rs) p b a = by_tests (eqb x.depth r.depth) (eqb x.tag r.tag) (all-run r es rs p b (all_rest a))
  where
    by_tests : (d t : Bool) → All P (stored_run r es rs) → All P (pick d (pick t (r ∷ (es ++ behind_run rs)) (x ∷ stored_run r es rs)) (x ∷ stored_run r es rs))
    by_tests true true l = all_more p (all_append _ b (all-behind rs (all_rest a)))
    by_tests true false l = all_more (all_first a) l
    by_tests false t l = all_more (all_first a) l

run_fewer : (r : Record) (es rs : List Record) → (length (stored_run r es rs) ≤ length rs + 1 + length es) × (total (stored_run r es rs) ≤ total rs + r.length + total es)
unfolding stored_run total
run_fewer r es [] = (omega arith, omega arith)
run_fewer r es (x ∷ rs) = by_tests (eqb x.depth r.depth) (eqb x.tag r.tag) (run_fewer r es rs)
  where
    by_tests : (d t : Bool) → (length (stored_run r es rs) ≤ length rs + 1 + length es) × (total (stored_run r es rs) ≤ total rs + r.length + total es)
        → (length (pick d (pick t (r ∷ (es ++ behind_run rs)) (x ∷ stored_run r es rs)) (x ∷ stored_run r es rs)) ≤ length (x ∷ rs) + 1 + length es)
        × (total (pick d (pick t (r ∷ (es ++ behind_run rs)) (x ∷ stored_run r es rs)) (x ∷ stored_run r es rs)) ≤ x.length + total rs + r.length + total es)
    by_tests true true h = let b = behind_fewer rs in (omega (arith, b.0, length-append es (behind_run rs)), unfold total in omega (arith, b.1, total-append es (behind_run rs)))
    by_tests true false h = (omega (arith, h.0), unfold total in omega (arith, h.1))
    by_tests false t h = (omega (arith, h.0), unfold total in omega (arith, h.1))

module _ {L : Type 0} (rules : Rules L) (first : (level : L) (tag : ℕ) → opens rules level tag ≡ true → rules.position level tag ≡ Some 0) where
  -- the count's field is read, then its run, and both go into the body
  reads-run : {message : List ℕ} {most bytes : ℕ} {f g : Field} {rest more : Fields} {room room₁ : ℕ} {rs : List Record} (inner : L) (run-records : List Record) → Reads message 2 most bytes (field f rest) (suc room) rs
      → walk rules list_store room (run (outermost f.tag inner) 0 ∷ []) [] rest ≡ ran g more room₁ run-records
      → Reads message 2 most bytes (field g more) (suc room₁) (stored_run (part_record 2 f) run-records rs)
  unfolding budget
  reads-run {message} {most} {bytes} {f} {g} {rest} {more} {room} {room₁} {rs} inner run-records r e =
      let c = r.counts in
      let o = of_field 2 f in
      let q = part_record 2 f in
      let fine = first_fine c.each in
      let some : q.tag ≡ 0 → ⊥ = λ z. fine.some (sym o.tagged ∙ z) in
      let none : Counts message 2 room (budget rest) rest room [] = record { tagged = all_none; placed = all_none; few = omega arith; small = unfold total in omega arith; each = rest_fine c.each } in
      let w = walk-counts rules room (run (outermost f.tag inner) 0 ∷ []) [] rest none g more room₁ run-records e in
      let read = run_formed rules [] (outermost f.tag inner) room rest g more room₁ run-records e in
      let same : read.records ≡ run-records = sym read.whole in
      let b = built message rules first read.formed (rw (sym same) at w.tagged) 0 0 q.tag refl some in
      let m = r.built in
      let n = run_fewer q run-records rs in
      record {
        built = record {
          map = put_run q.tag (value_at message q) b.map m.map;
          shapes = shapes_put_run message m.shapes q (own-field 2 f) (listed same (run_shapes message rules first b));
          formed = put_run_formed q.tag (value_at message q) some b.delimiter b.map b.is_run_lem b.formed m.map m.formed (λ h. not_stands message q.tag m.shapes (λ z. some (sym z)) h);
        };
        counts = record {
          tagged = all-run q run-records rs (record { some = some }) w.tagged c.tagged;
          placed = all-run q run-records rs (record { of = o.of; inside = omega (arith, fine.inside, o.placed, o.sized) }) w.placed c.placed;
          few = omega (arith, n.0, c.few, w.few);
          small = omega (arith, n.1, c.small, w.small, o.sized);
          each = w.each;
        };
      }
    where
      listed : {s : ℕ} {m : _} {a b : List Record} → a ≡ b → Shapes message 0 0 s 0 m a → Shapes message 0 0 s 0 m b
      listed p s = rw p at s

  module _ (demands : Demands L) (tags : List ℕ) (level : L) where
    -- the body from a field on that is read already
    pub body_reads : {message : List ℕ} {most bytes : ℕ} (turns : ℕ) (fields : Fields) (room : ℕ) (rs : List Record) → Reads message 2 most bytes fields room rs → (f : Field) (rest : Fields) (room₁ : ℕ) (rs₁ : List Record)
        → body_within (body_of rules demands tags level) turns fields room rs ≡ ended f rest room₁ rs₁ → Reads message 2 most bytes (field f rest) (suc room₁) rs₁
    unfolding body_within
    body_reads zero fields room rs r f rest room₁ rs₁ e = let z : ◌≡◌ {A = ℕ} 0 1 = cc in absurd (omega arith)
    body_reads (suc turns) (unreadable cause place) room rs r f rest room₁ rs₁ e = let z : ◌≡◌ {A = ℕ} 0 1 = cc in absurd (omega arith)
    body_reads (suc turns) (field g more) zero rs r f rest room₁ rs₁ e = let z : ◌≡◌ {A = ℕ} 0 1 = cc in absurd (omega arith)
    body_reads {message} {most} {bytes} (suc turns) (field g more) (suc room) rs r f rest room₁ rs₁ e =
        by_kind ((body_of rules demands tags level).kind g.tag) e (λ fields₂ room₂ rs₂ r₂ q. body_reads turns fields₂ room₂ rs₂ r₂ f rest room₁ rs₁ q)
      where
        body : Body L
        body = body_of rules demands tags level

        after_next : (fields₂ : Fields) (room₂ : ℕ) (rs₂ : List Record) → Reads message 2 most bytes fields₂ room₂ rs₂ → and_then (next_from fields₂ room₂ rs₂) (body_within body turns) ≡ ended f rest room₁ rs₁
            → ((fields₃ : Fields) (room₃ : ℕ) (rs₃ : List Record) → Reads message 2 most bytes fields₃ room₃ rs₃ → body_within body turns fields₃ room₃ rs₃ ≡ ended f rest room₁ rs₁ → Reads message 2 most bytes (field f rest) (suc room₁) rs₁)
            → Reads message 2 most bytes (field f rest) (suc room₁) rs₁
        after_next (unreadable cause place) room₂ rs₂ r₂ q later = let z : ◌≡◌ {A = ℕ} 0 1 = unfold next_from and_then in cc in absurd (omega arith)
        after_next (field h last) zero rs₂ r₂ q later = let z : ◌≡◌ {A = ℕ} 0 1 = unfold next_from and_then in cc in absurd (omega arith)
        after_next (field h last) (suc room₂) rs₂ r₂ q later = later (field h last) (suc room₂) rs₂ r₂ (unfold next_from and_then in q)

        after_lack : (h : Field) (last : Fields) (room₂ : ℕ) (es : List Record) (lack : Lack) → Reads message 2 most bytes (field h last) (suc room₂) (stored_run (part_record 2 g) es rs)
            → and_then (with_run (part_record 2 g) rs (checked h last room₂ es lack)) (body_within body turns) ≡ ended f rest room₁ rs₁
            → ((fields₃ : Fields) (room₃ : ℕ) (rs₃ : List Record) → Reads message 2 most bytes fields₃ room₃ rs₃ → body_within body turns fields₃ room₃ rs₃ ≡ ended f rest room₁ rs₁ → Reads message 2 most bytes (field f rest) (suc room₁) rs₁)
            → Reads message 2 most bytes (field f rest) (suc room₁) rs₁
        after_lack h last room₂ es Complete r₂ q later = later (field h last) (suc room₂) (stored_run (part_record 2 g) es rs) r₂ (unfold checked with_run and_then in q)
        after_lack h last room₂ es (Missing t u) r₂ q later = let z : ◌≡◌ {A = ℕ} 0 1 = unfold checked with_run and_then in cc in absurd (omega arith)

        after_run : (inner : L) (o : RunOutcome (List Record) (List Record)) → walk rules list_store room (run (outermost g.tag inner) 0 ∷ []) [] more ≡ o
            → and_then (with_run (part_record 2 g) rs (ran_as rules demands inner g.tag o)) (body_within body turns) ≡ ended f rest room₁ rs₁
            → ((fields₃ : Fields) (room₃ : ℕ) (rs₃ : List Record) → Reads message 2 most bytes fields₃ room₃ rs₃ → body_within body turns fields₃ room₃ rs₃ ≡ ended f rest room₁ rs₁ → Reads message 2 most bytes (field f rest) (suc room₁) rs₁)
            → Reads message 2 most bytes (field f rest) (suc room₁) rs₁
        after_run inner (ran h last room₂ es) w q later = after_lack h last room₂ es (run_lack demands 4 inner g.tag 1 es) (reads-run inner es r w) (unfold ran_as in q) later
        after_run inner (stops refusal es) w q later = let z : ◌≡◌ {A = ℕ} 0 1 = unfold ran_as with_run and_then in cc in absurd (omega arith)

        by_tag : (b : Bool) → pick b (ended g more room rs) (refused (InvalidField g.tag)) ≡ ended f rest room₁ rs₁ → Reads message 2 most bytes (field f rest) (suc room₁) rs₁
        by_tag true q =
            let a : g ≡ f = cc in
            let b : more ≡ rest = cc in
            let c : room ≡ room₁ = cc in
            let d : rs ≡ rs₁ = cc in
            rw (← a, ← b, ← c, ← d) r
        by_tag false q = let z : ◌≡◌ {A = ℕ} 0 1 = cc in absurd (omega arith)

        by_kind : (k : Kind L) → takes body (body_within body turns) g more room rs k ≡ ended f rest room₁ rs₁
            → ((fields₃ : Fields) (room₃ : ℕ) (rs₃ : List Record) → Reads message 2 most bytes fields₃ room₃ rs₃ → body_within body turns fields₃ room₃ rs₃ ≡ ended f rest room₁ rs₁ → Reads message 2 most bytes (field f rest) (suc room₁) rs₁)
            → Reads message 2 most bytes (field f rest) (suc room₁) rs₁
        by_kind plain q later = after_next more room (stored (part_record 2 g) rs) (reads_on r) (unfold takes in q) later
        by_kind (counts inner) q later =
            after_run inner (walk rules list_store room (run (outermost g.tag inner) 0 ∷ []) [] more) refl (unfold takes body_of run_from in q) later
        by_kind other q later = by_tag (holds_tag g.tag body.trailer) (unfold takes in q)
