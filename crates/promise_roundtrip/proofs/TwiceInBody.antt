-- The same for the body, to its end: two fields with one tag that it took itself, or two in an entry of a run that it read; in each case an earlier
-- one that has no record where the body ends.
use Rattle.std.proofs.Math.Path.{◌≡◌, refl}
use Rattle.std.proofs.Common.{◌∙◌, arith}
use Rattle.std.specs.Prelude.{Bool}
use Rattle.std.proofs.Math.Bool.{true, false}
use mathlib.Core.List.{List, [], ◌∷◌, ◌++◌, append_assoc}
use Prim.Native.Nat.{ℕ, zero, suc, ◌≤◌, ◌<◌}
use Rattle.field_rules.specs.Choice.{pick}
use Rattle.field_rules.specs.Fields.{Fields, unreadable, field}
use Rattle.field_rules.specs.declared.Field.{Field}
use Rattle.build_records.specs.Records.{stored}
use Rattle.build_records.specs.declared.Record.{Record}
use Rattle.build_group_rules.specs.Groups.{Rules, Frame, run, outermost, RunOutcome, walk}
use Rattle.build_group_rules.specs.Groups.{ended as ran, refused as stops, entry_record}
use Rattle.build_group_rules.specs.Reading.{list_store}
use Rattle.build_required_rules.specs.Required.{Demands, has, run_lack}
use Rattle.build_required_rules.specs.declared.Lack.{Lack}
use Rattle.build_required_rules.specs.declared.Lack.TheVariants.{Missing, Complete}
use Rattle.build_nesting_laws.specs.Entries.{All, all_none, all_more, all_append, all-stored, all_map}
use Rattle.build_parts.specs.Parts.{Reading, ended, refused, part_record}
use Rattle.build_body_rules.specs.Body.{Kind, plain, counts, other, Body, stored_run, and_then, next_from, with_run, takes, body_within}
use Rattle.build_body_rules.specs.Kinds.{checked, ran_as, run_from, body_of}
use Rattle.message_read_laws.specs.BodyReading.{all-run}
use Rattle.build_order_laws.specs.Follows.{Reaches, here, further}
use Rattle.build_order_laws.specs.StoresLaws.{reaches_then}
use Rattle.build_order_laws.specs.BodyStores.{walk_stores}
use Rattle.build_order_laws.specs.Twice.{twice_in_run, twice_behind, twice_taking, twice_within}
use Rattle.promise_roundtrip.specs.BodyTurns.{RunRead, body-ends}
use Rattle.promise_roundtrip.specs.LastRead.{taken_behind, body_taking, body_takes}
use Rattle.promise_roundtrip.proofs.LastReadLaws.{run-deeper}
use Rattle.promise_roundtrip.specs.LaterHeld.{Rising, rising_field}
use Rattle.promise_roundtrip.proofs.LaterHeldLaws.{rising_first, rising_lower, rising_reaches}
use Rattle.promise_roundtrip.specs.StoredOver.{Before, Elsewhere, Sequence, no_field, next_field, all-joined}
use Rattle.promise_roundtrip.proofs.RunLost.{entry_place, kept-none, walk_gone, RunLoses, walk_loses}
use Rattle.promise_roundtrip.specs.RunSteps.{run_ends}
use Rattle.promise_roundtrip.proofs.TwiceRepeats.{RepeatedIn, HoldsLast, repeated_now, stored-holds, run_holds, Any}

sequence_rises : {at : ℕ} {fields last : Fields} {fs : List Field} → Sequence fields fs last → Rising at fields → Rising at last
sequence_rises no_field r = r
sequence_rises {at} (next_field {f = f} s) (rising_field p r) = let q : at ≤ suc f.place = omega (arith, p) in rising_lower q (sequence_rises s r)

-- what follows a field of a sequence stands behind it
sequence_behind : {at : ℕ} {fields last : Fields} {fs : List Field} (before : List Field) (x : Field) (after : List Field) → Sequence fields fs last → Rising at fields → fs ≡ before ++ (x ∷ after) → (at ≤ x.place) × Rising (suc x.place) last
sequence_behind before x after no_field r e = absurd (none before e)
  where
    none : (l : List Field) → [] ≡ l ++ (x ∷ after) → ⊥
    none [] e = let z : ◌≡◌ {A = ℕ} 0 1 = cc in omega arith
    none (y ∷ l) e = let z : ◌≡◌ {A = ℕ} 0 1 = cc in omega arith
sequence_behind [] x after (next_field {f = f} s) (rising_field p r) e =
    let same : f ≡ x = cc in
    rw (← same) (p, sequence_rises s r)
sequence_behind {at} (y ∷ before) x after (next_field {f = f} {fs = fs} s) (rising_field p r) e =
    let rest : fs ≡ before ++ (x ∷ after) = cc in
    let q = sequence_behind before x after s r rest in
    (omega (arith, p, q.0), q.1)

part-place : (f : Field) → (part_record 2 f).place ≡ f.place
unfolding part_record
part-place f = refl

-- ===== the values of a body while it is read start before those that are read next =====

record Stands (from : ℕ) (last : Fields) (rs : List Record) : Type 0 where
  at : ℕ
  no_less : from ≤ at
  rises : Rising at last
  before : All (Before at) rs

walk-stands : {L : Type 0} (rules : Rules L) (room : ℕ) (stack : List (Frame L)) (rs : List Record) (fields : Fields) (f : Field) (rest : Fields) (room₁ : ℕ) (rs₁ : List Record) (at : ℕ)
    → Rising at fields → All (Before at) rs → walk rules list_store room stack rs fields ≡ ran f rest room₁ rs₁ → Stands at (field f rest) rs₁
walk-stands rules room stack rs fields f rest room₁ rs₁ at rises before e =
    run_ends rules (Stands at)
    (λ g more ss depth number s. next g more ss depth number s (λ n a. all_append _ a (all_more n all_none)))
    (λ g more ss start depth number s. next g more ss depth number s (λ n a. all-joined start (entry_record depth number g) ss n a))
    room stack rs fields f rest room₁ rs₁ e (record { at = at; no_less = omega arith; rises = rises; before = before })
  where
    next : (g : Field) (more : Fields) (ss : List Record) (depth number : ℕ) {grown : List Record} → Stands at (field g more) ss → (Before (suc g.place) (entry_record depth number g) → All (Before (suc g.place)) ss → All (Before (suc g.place)) grown) → Stands at more grown
    next g more ss depth number s grow =
        let r = rising_first s.rises in
        record {
          at = suc g.place;
          no_less = omega (arith, s.no_less, r.0);
          rises = r.1;
          before = grow (record { starts = omega (arith, entry_place depth number g) }) (all_map (λ x b. record { starts = omega (arith, b.starts, r.0) }) s.before);
        }

module _ {L : Type 0} (rules : Rules L) (demands : Demands L) (tags : List ℕ) (level : L) where
  abbrev body : Body L
  body = body_of rules demands tags level

  -- ===== a run that came to its end was read =====

  lack_read : (h g : Field) (last more : Fields) (room left : ℕ) (rs es : List Record) (lack : Lack) → checked h last room rs lack ≡ ended g more left es → ◌≡◌ {A = RunOutcome (List Record) (List Record)} (ran h last room rs) (ran g more left es)
  unfolding checked
  lack_read h g last more room left rs es Complete e =
      let a : h ≡ g = cc in
      let b : last ≡ more = cc in
      let c : room ≡ left = cc in
      let d : rs ≡ es = cc in
      cc
  lack_read h g last more room left rs es (Missing t u) e = let z : ◌≡◌ {A = ℕ} 0 1 = cc in absurd (omega arith)

  module _ (inner : L) (f : Field) (rest : Fields) (room : ℕ) (g : Field) (more : Fields) (left : ℕ) (es : List Record) where
    outcome-read : (o : RunOutcome (List Record) (List Record)) → walk rules list_store room (run (outermost f.tag inner) 0 ∷ []) [] rest ≡ o
        → ran_as rules demands inner f.tag o ≡ ended g more left es → walk rules list_store room (run (outermost f.tag inner) 0 ∷ []) [] rest
        ≡ ran g more left es
    unfolding ran_as
    outcome-read (ran h last room₁ rs) w e = w ∙ lack_read h g last more room₁ left rs es (run_lack demands 4 inner f.tag 1 rs) e
    outcome-read (stops refusal rs) w e = let z : ◌≡◌ {A = ℕ} 0 1 = cc in absurd (omega arith)

    run-read : body.run inner f.tag rest room ≡ ended g more left es → RunRead rules demands tags level inner f rest room g more left es
    run-read e = record { walked = outcome-read (walk rules list_store room (run (outermost f.tag inner) 0 ∷ []) [] rest) refl (unfold body_of run_from in e); comes_to = e }

  -- ===== nothing at a place stays so =====

  record Past (q turns : ℕ) (fields : Fields) (room : ℕ) (rs : List Record) : Type 0 where
    at : ℕ
    rises : Rising at fields
    past : q < at
    gone : All (Elsewhere q) rs

  past_end : (q turns : ℕ) (fields : Fields) (room : ℕ) (rs : List Record) (f : Field) (rest : Fields) (room₁ : ℕ) (rs₁ : List Record) → body_within body turns fields room rs ≡ ended f rest room₁ rs₁ → Past q turns fields room rs → All (Elsewhere q) rs₁
  past_end q turns fields room rs f rest room₁ rs₁ e p =
      (body-ends rules demands tags level (Past q)
      (λ turns₂ g more room₂ ss k s.
      let r = rising_first s.rises in
      record { at = suc g.place; rises = r.1; past = omega (arith, s.past, r.0); gone = all-stored _ (part_record 2 g) (record { apart = λ w. omega (arith, s.past, r.0, part-place g, w) }) s.gone })
      (λ turns₂ g more room₂ ss inner h last left es k w s.
      let r = rising_first s.rises in
      record {
        at = suc g.place;
        rises = rising_reaches (walk_stores rules room₂ (run (outermost g.tag inner) 0 ∷ []) [] more h last left es w.walked).reaches r.1;
        past = omega (arith, s.past, r.0);
        gone =
            all-run (part_record 2 g) es ss (record { apart = λ x. omega (arith, s.past, r.0, part-place g, x) })
            (walk_gone rules room₂ (run (outermost g.tag inner) 0 ∷ []) [] more h last left es (suc g.place) q w.walked r.1 (omega (arith, s.past, r.0)) all_none) s.gone;
      })
      f rest room₁ rs₁ turns fields room rs e p).holds.gone

  -- ===== twice =====

  -- a count among the fields of a body, the run that was read behind it, and two fields with one tag in it, of which the earlier has no record in the body
  pub record EntryLoses (start : Fields) (body_records : List Record) : Type 0 where
    pub steps : ℕ
    pub count : Field
    pub inner : L
    pub rest : Fields
    pub reaches : Reaches start steps (field count rest)
    pub room : ℕ
    pub g : Field
    pub more : Fields
    pub left : ℕ
    pub es : List Record
    pub is_count : body.kind count.tag ≡ counts inner
    pub read : RunRead rules demands tags level inner count rest room g more left es
    pub loses : RunLoses [] rest (field g more) es
    pub gone : All (Elsewhere loses.earlier.place) body_records

  -- in the body's own map, or in an entry
  pub data BodyTwice (start : Fields) (fs : List Field) (body_records : List Record) : Type 0 where
    of_body_lem : RepeatedIn fs → BodyTwice start fs body_records
    of_entry : EntryLoses start body_records → BodyTwice start fs body_records

  module _ (start : Fields) (f : Field) (rest : Fields) (room₁ : ℕ) (rs₁ : List Record) where
    later-twice : (fs : List Field) (g : Field) (more : List Field) → BodyTwice start ((fs ++ (g ∷ [])) ++ more) rs₁ → BodyTwice start (fs ++ (g ∷ more)) rs₁
    later-twice fs g more (of_body_lem r) = of_body_lem (record { earlier = r.earlier; later = r.later; repeats = rw (append_assoc fs (g ∷ []) more) at r.repeats })
    later-twice fs g more (of_entry l) = of_entry l

    -- one turn, where the turns behind it tell
    module _ (turns : ℕ) (later : (fs : List Field) (fields : Fields) (room : ℕ) (rs : List Record) (at n : ℕ) → HoldsLast Any 2 fs rs → Rising at fields → All (Before at) rs → Reaches start n fields → body_within body turns fields room rs ≡ ended f rest room₁ rs₁
        → twice_within rules body turns fields room rs ≡ true → BodyTwice start (fs ++ body_takes body turns fields room) rs₁) where
      next-same : (fields : Fields) (room : ℕ) (rs : List Record) → and_then (next_from fields room rs) (body_within body turns) ≡ ended f rest room₁ rs₁ → body_within body turns fields room rs ≡ ended f rest room₁ rs₁
      unfolding next_from and_then
      next-same (unreadable cause place) room rs e = let z : ◌≡◌ {A = ℕ} 0 1 = cc in absurd (omega arith)
      next-same (field g more) zero rs e = let z : ◌≡◌ {A = ℕ} 0 1 = cc in absurd (omega arith)
      next-same (field g more) (suc room) rs e = e

      module _ (fs : List Field) (g : Field) (more : Fields) (room : ℕ) (rs : List Record) (at n : ℕ) (h : HoldsLast Any 2 fs rs) (p : at ≤ g.place) (r : Rising (suc g.place) more) (b : All (Before at) rs) (stands : Reaches start n (field g more)) where
        before-all : (to : ℕ) → suc g.place ≤ to → All (Before to) rs
        before-all to q = all_map (λ x c. record { starts = omega (arith, c.starts, p, q) }) b

        new : (to : ℕ) → suc g.place ≤ to → Before to (part_record 2 g)
        new to q = record { starts = omega (arith, part-place g, q) }

        -- behind a run
        behind_repeats : (inner : L) (o : Reading) → body.run inner g.tag more room ≡ o → and_then (with_run (part_record 2 g) rs o) (body_within body turns) ≡ ended f rest room₁ rs₁ → twice_behind (with_run (part_record 2 g) rs o) (twice_within rules body turns) ≡ true
            → BodyTwice start (fs ++ (g ∷ taken_behind o (body_takes body turns))) rs₁
        unfolding with_run and_then twice_behind taken_behind
        behind_repeats inner (ended k last left es) o e t =
            let w = run-read inner g more room k last left es o in
            let s = walk-stands rules room (run (outermost g.tag inner) 0 ∷ []) [] more k last left es (suc g.place) r all_none w.walked in
            later-twice fs g (body_takes body turns (field k last) (suc left))
            (later (fs ++ (g ∷ [])) (field k last) (suc left) (stored_run (part_record 2 g) es rs) s.at _ (run_holds Any 2 fs g [] rs h es (run-deeper rules demands tags level inner g more room k last left es w)) s.rises
            (all-run (part_record 2 g) es rs (new s.at s.no_less) s.before (before-all s.at s.no_less)) (reaches_then (reaches_then stands (further here)) (walk_stores rules room (run (outermost g.tag inner) 0 ∷ []) [] more k last left es w.walked).reaches) e t)
        behind_repeats inner (refused answer) o e t = let z : ◌≡◌ {A = ℕ} 0 1 = cc in absurd (omega arith)

        -- in a run
        entry_repeats : (inner : L) → body.kind g.tag ≡ counts inner → (o : Reading) → body.run inner g.tag more room ≡ o
            → and_then (with_run (part_record 2 g) rs o) (body_within body turns) ≡ ended f rest room₁ rs₁
            → twice_in_run rules (run (outermost g.tag inner) 0 ∷ []) [] more ≡ true → EntryLoses start rs₁
        unfolding with_run and_then
        entry_repeats inner c (ended k last left es) o e t =
            let w = run-read inner g more room k last left es o in
            let l = walk_loses rules room (run (outermost g.tag inner) 0 ∷ []) [] more k last left es (suc g.place) [] w.walked r (kept-none (suc g.place)) t in
            let q = l.earlier.place in
            let s = sequence_behind l.repeats.before l.earlier _ l.sequence r l.repeats.is in
            let gone = all-run (part_record 2 g) es rs (record { apart = λ x. omega (arith, part-place g, x, s.0) }) l.gone (all_map (λ x y. record { apart = λ z. omega (arith, y.starts, p, z, s.0) }) b) in
            record {
              steps = n;
              count = g;
              inner = inner;
              rest = more;
              reaches = stands;
              room = room;
              g = k;
              more = last;
              left = left;
              es = es;
              is_count = c;
              read = w;
              loses = l;
              gone = past_end q turns (field k last) (suc left) (stored_run (part_record 2 g) es rs) f rest room₁ rs₁ e (record { at = suc q; rises = s.1; past = omega arith; gone = gone });
            }
        entry_repeats inner c (refused answer) o e t = let z : ◌≡◌ {A = ℕ} 0 1 = cc in absurd (omega arith)

        kind_repeats : (k : Kind L) → body.kind g.tag ≡ k → takes body (body_within body turns) g more room rs k ≡ ended f rest room₁ rs₁ → twice_taking rules body (twice_within rules body turns) g more room rs k ≡ true
            → BodyTwice start (fs ++ body_taking body (body_takes body turns) g more room k) rs₁
        unfolding takes twice_taking body_taking
        kind_repeats plain k e t = by_test (has 0 g.tag rs) refl t
          where
            by_test : (d : Bool) → has 0 g.tag rs ≡ d → pick d true (twice_within rules body turns more room (stored (part_record 2 g) rs)) ≡ true → BodyTwice start (fs ++ (g ∷ body_takes body turns more room)) rs₁
            by_test true d t = of_body_lem (repeated_now Any 2 fs g (body_takes body turns more room) rs h tt d)
            by_test false d t =
                later-twice fs g (body_takes body turns more room)
                (later (fs ++ (g ∷ [])) more room (stored (part_record 2 g) rs) (suc g.place) _ (stored-holds Any 2 fs g [] rs h) r (all-stored _ (part_record 2 g) (new (suc g.place) (omega arith)) (before-all (suc g.place) (omega arith))) (reaches_then stands (further here)) (next-same more room (stored (part_record 2 g) rs) e) t)
        kind_repeats (counts inner) k e t = by_tests (has 0 g.tag rs) (twice_in_run rules (run (outermost g.tag inner) 0 ∷ []) [] more) refl refl t
          where
            by_tests : (d u : Bool) → has 0 g.tag rs ≡ d → twice_in_run rules (run (outermost g.tag inner) 0 ∷ []) [] more ≡ u
                → pick d true (pick u true (twice_behind (with_run (part_record 2 g) rs (body.run inner g.tag more room)) (twice_within rules body turns))) ≡ true → BodyTwice start (fs ++ (g ∷ taken_behind (body.run inner g.tag more room) (body_takes body turns))) rs₁
            by_tests true u d v t = of_body_lem (repeated_now Any 2 fs g _ rs h tt d)
            by_tests false true d v t = of_entry (entry_repeats inner k (body.run inner g.tag more room) refl e v)
            by_tests false false d v t = behind_repeats inner (body.run inner g.tag more room) refl e t
        kind_repeats other k e t = let z : ◌≡◌ {A = ℕ} 0 1 = cc in absurd (omega arith)

    pub body_repeats : (turns : ℕ) (fs : List Field) (fields : Fields) (room : ℕ) (rs : List Record) (at n : ℕ) → HoldsLast Any 2 fs rs → Rising at fields → All (Before at) rs → Reaches start n fields → body_within body turns fields room rs ≡ ended f rest room₁ rs₁
        → twice_within rules body turns fields room rs ≡ true → BodyTwice start (fs ++ body_takes body turns fields room) rs₁
    unfolding body_within twice_within body_takes
    body_repeats zero fs fields room rs at n h r b w e t = let z : ◌≡◌ {A = ℕ} 0 1 = cc in absurd (omega arith)
    body_repeats (suc turns) fs (unreadable cause place) room rs at n h r b w e t = let z : ◌≡◌ {A = ℕ} 0 1 = cc in absurd (omega arith)
    body_repeats (suc turns) fs (field g more) zero rs at n h r b w e t = let z : ◌≡◌ {A = ℕ} 0 1 = cc in absurd (omega arith)
    body_repeats (suc turns) fs (field g more) (suc room) rs at n h (rising_field p r) b w e t = kind_repeats turns (body_repeats turns) fs g more room rs at n h p r b w (body.kind g.tag) refl e t
