-- Header, trailer, run and body, each gone through beside its reader: where a tag is stored twice in the part, it has fewer records than fields
-- were read, and where none is, it has as many.
use Rattle.std.proofs.Math.Path.{◌≡◌, refl}
use Rattle.std.specs.Prelude.{Bool, length, drop, eqb}
use Rattle.std.proofs.Math.Bool.{true, false}
use mathlib.Core.List.{List, [], ◌∷◌, ◌++◌}
use Prim.Native.Nat.{ℕ, zero, suc, ◌+◌}
use Rattle.std.proofs.Common.{arith, Option}
use Rattle.field_rules.specs.Choice.{pick}
use Rattle.field_rules.specs.Fields.{Fields, unreadable, field}
use Rattle.field_rules.specs.declared.Field.{Field}
use Rattle.dictionary_layout_rules.specs.Tree.{holds_tag}
use Rattle.build_records.specs.Records.{stored}
use Rattle.build_records.specs.declared.Record.{Record}
use Rattle.build_group_rules.specs.Groups.{Rules, Frame, run, outermost, Move, adds, joins_at, disorders, leaves, decide, moved, RunOutcome, walk}
use Rattle.build_group_rules.specs.Groups.{ended as ran, refused as stops, entry_record}
use Rattle.build_group_rules.specs.Reading.{list_store, joined_list}
use Rattle.build_required_rules.specs.Required.{Demands, has, run_lack}
use Rattle.build_required_rules.specs.declared.Lack.{Lack}
use Rattle.build_required_rules.specs.declared.Lack.TheVariants.{Missing, Complete}
use Rattle.build_answers.specs.declared.Answer.TheVariants.{InvalidField}
use Rattle.build_parts.specs.Parts.{ended, refused, part_record}
use Rattle.build_parts.specs.Header.{header_from}
use Rattle.build_parts.specs.Trailer.{stopped, trailer_from}
use Rattle.build_body_rules.specs.Body.{Kind, plain, counts, other, Body, stored_run, and_then, next_from, with_run, takes, body_within, body_from}
use Rattle.build_body_rules.specs.Kinds.{checked, ran_as, run_from, body_of}
use Rattle.build_order_laws.specs.Counted.{trailer_fields}
use Rattle.build_order_laws.specs.TrailerStores.{trailer_at, not_crowded, stopped-with, unstopped-with}
use Rattle.build_order_laws.specs.Twice.{twice_in_header, twice_in_trailer, twice_moved, twice_in_run, twice_behind, twice_taking, twice_within, twice_in_body}
use Rattle.build_order_laws.specs.TwiceLaws.{Tells, tells_once, tells_as, tells_then, tells_either, tells_field, tells_last, tells_joined, tells_run}

pub header_tells : (tags : List ℕ) (fields : Fields) (room : ℕ) (rs : List Record) (f : Field) (rest : Fields) (room₁ : ℕ) (rs₁ : List Record) → header_from tags fields room rs ≡ ended f rest room₁ rs₁
    → Tells (twice_in_header tags fields rs) (length rs + room) (length rs₁ + suc room₁)
unfolding header_from twice_in_header
header_tells tags (unreadable cause place) room rs f rest room₁ rs₁ e = let z : ◌≡◌ {A = ℕ} 0 1 = cc in absurd (omega arith)
header_tells tags (field g more) zero rs f rest room₁ rs₁ e = let z : ◌≡◌ {A = ℕ} 0 1 = cc in absurd (omega arith)
header_tells tags (field g more) (suc room) rs f rest room₁ rs₁ e = by_tag (holds_tag g.tag tags) e (λ q. header_tells tags more room (stored (part_record 1 g) rs) f rest room₁ rs₁ q)
  where
    twice : Bool
    twice = twice_in_header tags more (stored (part_record 1 g) rs)

    by_tag : (b : Bool) → pick b (header_from tags more room (stored (part_record 1 g) rs)) (ended g more room rs) ≡ ended f rest room₁ rs₁
        → (header_from tags more room (stored (part_record 1 g) rs) ≡ ended f rest room₁ rs₁ → Tells twice (length (stored (part_record 1 g) rs) + room) (length rs₁ + suc room₁))
        → Tells (pick b (pick (has 0 g.tag rs) true twice) false) (length rs + suc room) (length rs₁ + suc room₁)
    by_tag true e later = tells_then (has 0 g.tag rs) twice (tells_field 1 g rs room) (later e)
    by_tag false e later = let a : room ≡ room₁ = cc in let d : rs ≡ rs₁ = cc in rw (← a, ← d) (tells_once refl)

pub trailer_tells : (fields : Fields) (room : ℕ) (rs : List Record) (stop : Option Field) (ts : List Record) → trailer_from fields room rs ≡ trailer_at stop ts → Tells (twice_in_trailer fields rs) (length rs + trailer_fields fields) (length ts)
unfolding trailer_from twice_in_trailer trailer_fields
trailer_tells (unreadable cause place) zero rs stop ts e = absurd (not_crowded stop ts e)
trailer_tells (unreadable cause place) (suc room) rs stop ts e = let q = unstopped-with rs ts stop e in rw (← q) (tells_once (omega arith))
trailer_tells (field g more) zero rs stop ts e = absurd (not_crowded stop ts e)
trailer_tells (field g more) (suc room) rs stop ts e = by_tag (eqb g.tag 10) e (λ q. trailer_tells more room (stored (part_record 3 g) rs) stop ts q)
  where
    twice : Bool
    twice = twice_in_trailer more (stored (part_record 3 g) rs)

    by_tag : (b : Bool) → pick b (stopped g rs) (trailer_from more room (stored (part_record 3 g) rs)) ≡ trailer_at stop ts
        → (trailer_from more room (stored (part_record 3 g) rs) ≡ trailer_at stop ts → Tells twice (length (stored (part_record 3 g) rs) + trailer_fields more) (length ts))
        → Tells (pick b false (pick (has 0 g.tag rs) true twice)) (length rs + pick b 0 (suc (trailer_fields more))) (length ts)
    by_tag true e later = let q = stopped-with rs ts g stop e in rw (← q) (tells_once (omega arith))
    by_tag false e later = tells_then (has 0 g.tag rs) twice (tells_field 3 g rs (trailer_fields more)) (later e)

-- a run while it is read
pub walk_tells : {L : Type 0} (rules : Rules L) (room : ℕ) (stack : List (Frame L)) (rs : List Record) (fields : Fields) (f : Field) (rest : Fields) (room₁ : ℕ) (rs₁ : List Record) → walk rules list_store room stack rs fields ≡ ran f rest room₁ rs₁
    → Tells (twice_in_run rules stack rs fields) (length rs + room) (length rs₁ + suc room₁)
unfolding walk twice_in_run twice_moved
walk_tells rules room stack rs (unreadable cause place) f rest room₁ rs₁ e = let z : ◌≡◌ {A = ℕ} 0 1 = cc in absurd (omega arith)
walk_tells rules zero stack rs (field g more) f rest room₁ rs₁ e = let z : ◌≡◌ {A = ℕ} 0 1 = cc in absurd (omega arith)
walk_tells {L} rules (suc room) stack rs (field g more) f rest room₁ rs₁ e =
    by_move (decide rules (length rs) stack g.tag) (unfold list_store in e) (λ stack₂ rs₂ q. walk_tells rules room stack₂ rs₂ more f rest room₁ rs₁ q)
  where
    by_move : (m : Move L) → moved list_store room rs g more (λ stack₂ rs₂. walk rules list_store room stack₂ rs₂ more) m ≡ ran f rest room₁ rs₁
        → ((stack₂ : List (Frame L)) (rs₂ : List Record) → walk rules list_store room stack₂ rs₂ more ≡ ran f rest room₁ rs₁ → Tells (twice_in_run rules stack₂ rs₂ more) (length rs₂ + room) (length rs₁ + suc room₁))
        → Tells (twice_moved g rs (λ stack₂ rs₂. twice_in_run rules stack₂ rs₂ more) m) (length rs + suc room) (length rs₁ + suc room₁)
    by_move (adds stack₂ numbers) e later =
        let r = entry_record numbers.depth numbers.number g in
        let t : Tells (twice_in_run rules stack₂ (rs ++ (r ∷ [])) more) (length (rs ++ (r ∷ [])) + room) (length rs₁ + suc room₁) = later stack₂ (rs ++ (r ∷ [])) (unfold moved list_store in e) in
        tells_then false (twice_in_run rules stack₂ (rs ++ (r ∷ [])) more) (tells_last r rs room) t
    by_move (joins_at stack₂ start numbers) e later =
        let ss = joined_list start (entry_record numbers.depth numbers.number g) rs in
        let t : Tells (twice_in_run rules stack₂ ss more) (length ss + room) (length rs₁ + suc room₁) = later stack₂ ss (unfold moved list_store in e) in
        tells_then (has numbers.depth g.tag (drop start rs)) (twice_in_run rules stack₂ ss more) (tells_joined start numbers.depth numbers.number g rs room) t
    by_move (disorders group) e later = let z : ◌≡◌ {A = ℕ} 0 1 = unfold moved in cc in absurd (omega arith)
    by_move leaves e later =
        let q : ◌≡◌ {A = RunOutcome (List Record) (List Record)} (ran g more room rs) (ran f rest room₁ rs₁) = unfold moved in e in
        let a : room ≡ room₁ = cc in
        let d : rs ≡ rs₁ = cc in
        rw (← a, ← d) (tells_once refl)

module _ {L : Type 0} (rules : Rules L) (demands : Demands L) (tags : List ℕ) (level : L) where
  abbrev body : Body L
  body = body_of rules demands tags level

  -- one turn, where the turns behind it tell
  module _ (turns : ℕ) (f : Field) (rest : Fields) (room₁ : ℕ) (rs₁ : List Record)
      (later : (fields : Fields) (room : ℕ) (rs : List Record) → body_within body turns fields room rs ≡ ended f rest room₁ rs₁ → Tells (twice_within rules body turns fields room rs) (length rs + room) (length rs₁ + suc room₁)) where
    after_next : (fields : Fields) (room : ℕ) (rs : List Record) → and_then (next_from fields room rs) (body_within body turns) ≡ ended f rest room₁ rs₁ → Tells (twice_within rules body turns fields room rs) (length rs + room) (length rs₁ + suc room₁)
    unfolding next_from and_then
    after_next (unreadable cause place) room rs e = let z : ◌≡◌ {A = ℕ} 0 1 = cc in absurd (omega arith)
    after_next (field g more) zero rs e = let z : ◌≡◌ {A = ℕ} 0 1 = cc in absurd (omega arith)
    after_next (field g more) (suc room) rs e = later (field g more) (suc room) rs e

    module _ (g : Field) (more : Fields) (room : ℕ) (rs : List Record) where
      -- the count, its run, and what comes behind them
      after_lack : (in_run : Bool) (h : Field) (last : Fields) (left : ℕ) (es : List Record) (lack : Lack) → Tells in_run room (length es + suc left) → and_then (with_run (part_record 2 g) rs (checked h last left es lack)) (body_within body turns) ≡ ended f rest room₁ rs₁
          → Tells (pick (has 0 g.tag rs) true (pick in_run true (twice_behind (with_run (part_record 2 g) rs (checked h last left es lack)) (twice_within rules body turns)))) (length rs + suc room) (length rs₁ + suc room₁)
      unfolding checked with_run and_then twice_behind
      after_lack in_run h last left es Complete w e =
          let ss = stored_run (part_record 2 g) es rs in
          let held = has 0 g.tag rs in
          let behind = twice_within rules body turns (field h last) (suc left) ss in
          let a : Tells in_run (length rs + suc room) (length rs + suc (length es + suc left)) = tells_as in_run (omega arith) w in
          let b = tells_then held behind (tells_run g es rs (suc left)) (later (field h last) (suc left) ss e) in
          tells_either in_run held behind (tells_then in_run (pick held true behind) a b)
      after_lack in_run h last left es (Missing t u) w e = let z : ◌≡◌ {A = ℕ} 0 1 = cc in absurd (omega arith)

      after_run : (inner : L) (o : RunOutcome (List Record) (List Record)) → walk rules list_store room (run (outermost g.tag inner) 0 ∷ []) [] more ≡ o
          → and_then (with_run (part_record 2 g) rs (ran_as rules demands inner g.tag o)) (body_within body turns) ≡ ended f rest room₁ rs₁
          → Tells (pick (has 0 g.tag rs) true (pick (twice_in_run rules (run (outermost g.tag inner) 0 ∷ []) [] more) true (twice_behind (with_run (part_record 2 g) rs (ran_as rules demands inner g.tag o)) (twice_within rules body turns)))) (length rs + suc room) (length rs₁ + suc room₁)
      unfolding ran_as
      after_run inner (ran h last left es) w e =
          let t = walk_tells rules room (run (outermost g.tag inner) 0 ∷ []) [] more h last left es w in
          after_lack (twice_in_run rules (run (outermost g.tag inner) 0 ∷ []) [] more) h last left es (run_lack demands 4 inner g.tag 1 es) (tells_as _ (omega arith) t) e
      after_run inner (stops refusal es) w e = let z : ◌≡◌ {A = ℕ} 0 1 = unfold with_run and_then in cc in absurd (omega arith)

      after-other : (b : Bool) → pick b (ended g more room rs) (refused (InvalidField g.tag)) ≡ ended f rest room₁ rs₁ → Tells false (length rs + suc room) (length rs₁ + suc room₁)
      after-other true e = let a : room ≡ room₁ = cc in let d : rs ≡ rs₁ = cc in rw (← a, ← d) (tells_once refl)
      after-other false e = let z : ◌≡◌ {A = ℕ} 0 1 = cc in absurd (omega arith)

      after_kind : (k : Kind L) → takes body (body_within body turns) g more room rs k ≡ ended f rest room₁ rs₁ → Tells (twice_taking rules body (twice_within rules body turns) g more room rs k) (length rs + suc room) (length rs₁ + suc room₁)
      unfolding takes twice_taking
      after_kind plain e = tells_then (has 0 g.tag rs) _ (tells_field 2 g rs room) (after_next more room (stored (part_record 2 g) rs) e)
      after_kind (counts inner) e =
          unfold body_of run_from in after_run inner (walk rules list_store room (run (outermost g.tag inner) 0 ∷ []) [] more) refl (unfold body_of run_from in e)
      after_kind other e = after-other (holds_tag g.tag body.trailer) e

  within_tells : (turns : ℕ) (fields : Fields) (room : ℕ) (rs : List Record) (f : Field) (rest : Fields) (room₁ : ℕ) (rs₁ : List Record) → body_within body turns fields room rs ≡ ended f rest room₁ rs₁ → Tells (twice_within rules body turns fields room rs) (length rs + room) (length rs₁ + suc room₁)
  unfolding body_within twice_within
  within_tells zero fields room rs f rest room₁ rs₁ e = let z : ◌≡◌ {A = ℕ} 0 1 = cc in absurd (omega arith)
  within_tells (suc turns) (unreadable cause place) room rs f rest room₁ rs₁ e = let z : ◌≡◌ {A = ℕ} 0 1 = cc in absurd (omega arith)
  within_tells (suc turns) (field g more) zero rs f rest room₁ rs₁ e = let z : ◌≡◌ {A = ℕ} 0 1 = cc in absurd (omega arith)
  within_tells (suc turns) (field g more) (suc room) rs f rest room₁ rs₁ e =
      after_kind turns f rest room₁ rs₁ (λ fields₂ room₂ rs₂ q. within_tells turns fields₂ room₂ rs₂ f rest room₁ rs₁ q) g more room rs (body.kind g.tag) e

  -- the body from a field on that is read already
  pub body_tells : (fields : Fields) (room : ℕ) (rs : List Record) (f : Field) (rest : Fields) (room₁ : ℕ) (rs₁ : List Record) → body_from (body_of rules demands tags level) fields room rs ≡ ended f rest room₁ rs₁
      → Tells (twice_in_body rules demands tags level fields room rs) (length rs + room) (length rs₁ + suc room₁)
  unfolding body_from twice_in_body
  body_tells fields room rs f rest room₁ rs₁ e = within_tells (suc room) fields room rs f rest room₁ rs₁ e
