-- The body as it is read: fields of the layout are stored, and a count is stored with the run that was read behind it. Where its tag is
-- held, the run before goes, and there are fewer records than fields.
use Rattle.std.proofs.Math.Path.{◌≡◌, refl}
use Rattle.std.proofs.Common.{ap, ◌∙◌, arith, length-append}
use Rattle.std.specs.Prelude.{Bool, true, false, length, eqb}
use mathlib.Core.List.{List, [], ◌∷◌, ◌++◌}
use Prim.Native.Nat.{ℕ, zero, suc, ◌+◌, ◌≤◌}
use Rattle.field_rules.specs.Choice.{pick}
use Rattle.field_rules.specs.Fields.{Fields, unreadable, field}
use Rattle.field_rules.specs.declared.Field.{Field}
use Rattle.dictionary_layout_rules.specs.Tree.{holds_tag}
use Rattle.build_records.specs.Records.{stored}
use Rattle.build_records.specs.declared.Record.{Record}
use Rattle.build_group_rules.specs.Groups.{Rules, Frame, run, outermost, Move, adds, joins_at, disorders, leaves, decide, moved, RunOutcome, walk}
use Rattle.build_group_rules.specs.Groups.{ended as ran, refused as stops, entry_record}
use Rattle.build_group_rules.specs.Reading.{list_store, joined_list}
use Rattle.build_required_rules.specs.Required.{Demands, run_lack}
use Rattle.build_required_rules.specs.declared.Lack.{Lack}
use Rattle.build_required_rules.specs.declared.Lack.TheVariants.{Missing, Complete}
use Rattle.build_answers.specs.declared.Answer.TheVariants.{InvalidField}
use Rattle.build_parts.specs.Parts.{ended, refused, part_record}
use Rattle.build_body_rules.specs.Body.{Kind, plain, counts, other, Body, behind_run, stored_run, and_then, next_from, with_run, takes, body_within, body_from}
use Rattle.build_body_rules.specs.Kinds.{checked, ran_as, run_from, body_of}
use Rattle.message_read_laws.specs.Counting.{Of}
use Rattle.message_read_laws.specs.PartReading.{of_field}
use Rattle.build_order_laws.specs.Follows.{one_field, further, Ordered, Stores}
use Rattle.build_order_laws.specs.StoresLaws.{Keeps, keeps_last, keeps_joined, stores_same, stores_then, stores_kept, stores_field}

of_entry : (depth number : ℕ) (f : Field) → Of 2 f (entry_record depth number f)
unfolding entry_record
of_entry depth number f = record { of = refl; tagged = refl; placed = refl; sized = refl }

-- a run while it is read
pub walk_stores : {L : Type 0} (rules : Rules L) (room : ℕ) (stack : List (Frame L)) (rs : List Record) (fields : Fields) (f : Field) (rest : Fields) (room₁ : ℕ) (rs₁ : List Record) → walk rules list_store room stack rs fields ≡ ran f rest room₁ rs₁
    → Stores 2 fields room rs (field f rest) (suc room₁) rs₁
unfolding walk
walk_stores rules room stack rs (unreadable cause place) f rest room₁ rs₁ e = let z : ◌≡◌ {A = ℕ} 0 1 = cc in absurd (omega arith)
walk_stores rules zero stack rs (field g more) f rest room₁ rs₁ e = let z : ◌≡◌ {A = ℕ} 0 1 = cc in absurd (omega arith)
walk_stores {L} rules (suc room) stack rs (field g more) f rest room₁ rs₁ e =
    by_move (decide rules (length rs) stack g.tag) (unfold list_store in e) (λ stack₂ rs₂ q. walk_stores rules room stack₂ rs₂ more f rest room₁ rs₁ q)
  where
    by_move : (m : Move L) → moved list_store room rs g more (λ stack₂ rs₂. walk rules list_store room stack₂ rs₂ more) m ≡ ran f rest room₁ rs₁
        → ((stack₂ : List (Frame L)) (rs₂ : List Record) → walk rules list_store room stack₂ rs₂ more ≡ ran f rest room₁ rs₁ → Stores 2 more room rs₂ (field f rest) (suc room₁) rs₁)
        → Stores 2 (field g more) (suc room) rs (field f rest) (suc room₁) rs₁
    by_move (adds stack₂ numbers) e later =
        let r = entry_record numbers.depth numbers.number g in
        stores_then (stores_kept r (of_entry numbers.depth numbers.number g) (keeps_last r rs)) (later stack₂ (rs ++ (r ∷ [])) (unfold moved list_store in e))
    by_move (joins_at stack₂ start numbers) e later =
        let r = entry_record numbers.depth numbers.number g in
        stores_then (stores_kept r (of_entry numbers.depth numbers.number g) (keeps_joined start r rs)) (later stack₂ (joined_list start r rs) (unfold moved list_store in e))
    by_move (disorders group) e later = let z : ◌≡◌ {A = ℕ} 0 1 = unfold moved in cc in absurd (omega arith)
    by_move leaves e later =
        let q : ◌≡◌ {A = RunOutcome (List Record) (List Record)} (ran g more room rs) (ran f rest room₁ rs₁) = unfold moved in e in
        stores_same (cc) (cc) (cc) (cc)

-- a count with its run
pub behind_fewer : (rs : List Record) → length (behind_run rs) ≤ length rs
unfolding behind_run
behind_fewer [] = omega arith
behind_fewer (r ∷ rs) = by_test (eqb r.depth 0) (behind_fewer rs)
  where
    by_test : (b : Bool) → length (behind_run rs) ≤ length rs → length (pick b (r ∷ rs) (behind_run rs)) ≤ length (r ∷ rs)
    by_test true h = omega arith
    by_test false h = omega arith

keeps_run : (r : Record) (es rs : List Record) → Keeps (r ∷ es) rs (stored_run r es rs)
unfolding stored_run
keeps_run r es [] = record { no_more = omega arith; last = λ e. refl }
keeps_run r es (x ∷ rs) = by_tests (eqb x.depth r.depth) (eqb x.tag r.tag) (keeps_run r es rs)
  where
    later : Keeps (r ∷ es) rs (stored_run r es rs) → Keeps (r ∷ es) (x ∷ rs) (x ∷ stored_run r es rs)
    later k = record { no_more = omega (arith, k.no_more); last = λ e. ap (λ (l : List Record). x ∷ l) (k.last (omega arith)) }

    by_tests : (d t : Bool) → Keeps (r ∷ es) rs (stored_run r es rs) → Keeps (r ∷ es) (x ∷ rs) (pick d (pick t (r ∷ (es ++ behind_run rs)) (x ∷ stored_run r es rs)) (x ∷ stored_run r es rs))
    by_tests true true k =
        let n = length-append es (behind_run rs) in
        let b = behind_fewer rs in
        record { no_more = omega (arith, n, b); last = λ e. absurd (omega (arith, n, b)) }
    by_tests true false k = later k
    by_tests false t k = later k

-- the count's field is read, then its run, and both go into the body
stores_run : {f : Field} {rest last : Fields} {room left : ℕ} {es : List Record} (rs : List Record) → Stores 2 rest room [] last left es → Stores 2 (field f rest) (suc room) rs last left (stored_run (part_record 2 f) es rs)
stores_run {f} {rest} {last} {es = es} rs w =
    let q = part_record 2 f in
    let k = keeps_run q es rs in
    record {
      read = suc w.read;
      reaches = further w.reaches;
      room_is = omega (arith, w.room_is);
      at_most = omega (arith, k.no_more, w.at_most);
      ordered = λ e. both (k.last (omega (arith, k.no_more, w.at_most))) (w.ordered (omega (arith, k.no_more, w.at_most)));
    }
  where
    both : stored_run (part_record 2 f) es rs ≡ rs ++ (part_record 2 f ∷ es) → Ordered 2 rest [] last es → Ordered 2 (field f rest) rs last (stored_run (part_record 2 f) es rs)
    both p o = record { new = part_record 2 f ∷ o.new; appended = p ∙ ap (λ (l : List Record). rs ++ (part_record 2 f ∷ l)) o.appended; follows = one_field (part_record 2 f) (of_field 2 f) o.follows }

module _ {L : Type 0} (rules : Rules L) (demands : Demands L) (tags : List ℕ) (level : L) where
  abbrev body : Body L
  body = body_of rules demands tags level

  -- one turn, where the turns behind it store
  module _ (turns : ℕ) (f : Field) (rest : Fields) (room₁ : ℕ) (rs₁ : List Record) (later : (fields : Fields) (room : ℕ) (rs : List Record) → body_within body turns fields room rs ≡ ended f rest room₁ rs₁ → Stores 2 fields room rs (field f rest) (suc room₁) rs₁) where
    after_next : (fields : Fields) (room : ℕ) (rs : List Record) → and_then (next_from fields room rs) (body_within body turns) ≡ ended f rest room₁ rs₁ → Stores 2 fields room rs (field f rest) (suc room₁) rs₁
    unfolding next_from and_then
    after_next (unreadable cause place) room rs e = let z : ◌≡◌ {A = ℕ} 0 1 = cc in absurd (omega arith)
    after_next (field g more) zero rs e = let z : ◌≡◌ {A = ℕ} 0 1 = cc in absurd (omega arith)
    after_next (field g more) (suc room) rs e = later (field g more) (suc room) rs e

    module _ (g : Field) (more : Fields) (room : ℕ) (rs : List Record) where
      after_lack : (h : Field) (last : Fields) (left : ℕ) (es : List Record) (lack : Lack) → Stores 2 more room [] (field h last) (suc left) es → and_then (with_run (part_record 2 g) rs (checked h last left es lack)) (body_within body turns) ≡ ended f rest room₁ rs₁
          → Stores 2 (field g more) (suc room) rs (field f rest) (suc room₁) rs₁
      unfolding checked with_run and_then
      after_lack h last left es Complete w e = stores_then (stores_run rs w) (later (field h last) (suc left) (stored_run (part_record 2 g) es rs) e)
      after_lack h last left es (Missing t u) w e = let z : ◌≡◌ {A = ℕ} 0 1 = cc in absurd (omega arith)

      after_run : (inner : L) (o : RunOutcome (List Record) (List Record)) → walk rules list_store room (run (outermost g.tag inner) 0 ∷ []) [] more ≡ o
          → and_then (with_run (part_record 2 g) rs (ran_as rules demands inner g.tag o)) (body_within body turns) ≡ ended f rest room₁ rs₁
          → Stores 2 (field g more) (suc room) rs (field f rest) (suc room₁) rs₁
      unfolding ran_as
      after_run inner (ran h last left es) w e =
          after_lack h last left es (run_lack demands 4 inner g.tag 1 es) (walk_stores rules room (run (outermost g.tag inner) 0 ∷ []) [] more h last left es w) e
      after_run inner (stops refusal es) w e = let z : ◌≡◌ {A = ℕ} 0 1 = unfold with_run and_then in cc in absurd (omega arith)

      after-other : (b : Bool) → pick b (ended g more room rs) (refused (InvalidField g.tag)) ≡ ended f rest room₁ rs₁ → Stores 2 (field g more) (suc room) rs (field f rest) (suc room₁) rs₁
      after-other true e = stores_same (cc) (cc) (cc) (cc)
      after-other false e = let z : ◌≡◌ {A = ℕ} 0 1 = cc in absurd (omega arith)

      after_kind : (k : Kind L) → takes body (body_within body turns) g more room rs k ≡ ended f rest room₁ rs₁ → Stores 2 (field g more) (suc room) rs (field f rest) (suc room₁) rs₁
      unfolding takes
      after_kind plain e = stores_then stores_field (after_next more room (stored (part_record 2 g) rs) e)
      after_kind (counts inner) e =
          after_run inner (walk rules list_store room (run (outermost g.tag inner) 0 ∷ []) [] more) refl (unfold body_of run_from in e)
      after_kind other e = after-other (holds_tag g.tag body.trailer) e

  within_stores : (turns : ℕ) (fields : Fields) (room : ℕ) (rs : List Record) (f : Field) (rest : Fields) (room₁ : ℕ) (rs₁ : List Record) → body_within body turns fields room rs ≡ ended f rest room₁ rs₁ → Stores 2 fields room rs (field f rest) (suc room₁) rs₁
  unfolding body_within
  within_stores zero fields room rs f rest room₁ rs₁ e = let z : ◌≡◌ {A = ℕ} 0 1 = cc in absurd (omega arith)
  within_stores (suc turns) (unreadable cause place) room rs f rest room₁ rs₁ e = let z : ◌≡◌ {A = ℕ} 0 1 = cc in absurd (omega arith)
  within_stores (suc turns) (field g more) zero rs f rest room₁ rs₁ e = let z : ◌≡◌ {A = ℕ} 0 1 = cc in absurd (omega arith)
  within_stores (suc turns) (field g more) (suc room) rs f rest room₁ rs₁ e =
      after_kind turns f rest room₁ rs₁ (λ fields₂ room₂ rs₂ q. within_stores turns fields₂ room₂ rs₂ f rest room₁ rs₁ q) g more room rs (body.kind g.tag) e

  -- the body from a field on that is read already
  pub body_stores : (fields : Fields) (room : ℕ) (rs : List Record) (f : Field) (rest : Fields) (room₁ : ℕ) (rs₁ : List Record) → body_from (body_of rules demands tags level) fields room rs ≡ ended f rest room₁ rs₁ → Stores 2 fields room rs (field f rest) (suc room₁) rs₁
  unfolding body_from
  body_stores fields room rs f rest room₁ rs₁ e = within_stores (suc room) fields room rs f rest room₁ rs₁ e
