-- Laws of what specs/Small.antt defines.
use Prim.Native.Nat.{ℕ, zero, suc, ◌+◌, ◌≤◌, ◌<◌}
use Rattle.std.proofs.Math.Path.{◌≡◌, refl}
use Rattle.std.proofs.Common.{sym, arith, ltb-true, take-append-drop, Option, Some, None, ℕ}
use Rattle.std.specs.Prelude.{Bool, true, false, length, take, drop, eqb, ltb, leb}
use mathlib.Core.List.{List, [], ◌∷◌, ◌++◌}
use Rattle.field_rules.specs.Choice.{pick}
use Rattle.field_rules.specs.Fields.{Fields, unreadable, field}
use Rattle.field_rules.specs.declared.Field.{Field}
use Rattle.dictionary_layout_rules.specs.Tree.{holds_tag}
use Rattle.build_records.specs.Records.{stored}
use Rattle.build_records.specs.declared.Record.{Record}
use Rattle.build_group_rules.specs.Groups.{Rules, Opened, none, opened, OpenGroup, OpenEntry, Frame, run, outermost, entry, Kind, plain, count, joins, wrong, ends, counting, declared, entry_kind, opens, Move, adds, joins_at, disorders, leaves, nested, in_entry_lem, decide, RunOutcome, moved, walk}
use Rattle.build_group_rules.specs.Groups.{entry_record, ended as ran, refused as stops}
use Rattle.build_group_rules.specs.Reading.{joined_list, list_store}
use Rattle.build_required_rules.specs.Required.{Demands, run_lack}
use Rattle.build_required_rules.specs.declared.Lack.{Lack}
use Rattle.build_required_rules.specs.declared.Lack.TheVariants.{Missing, Complete}
use Rattle.build_nesting_laws.specs.Entries.{All, all_none, all_more, all_append, all-stored}
use Rattle.build_answers.specs.declared.Answer.TheVariants.{InvalidField}
use Rattle.build_parts.specs.Parts.{ended, refused, part_record}
use Rattle.build_parts.specs.Header.{header_from}
use Rattle.build_parts.specs.Trailer.{stopped, trailer_from}
use Rattle.build_body_rules.specs.Body.{Kind as Taken, plain as takes-plain, counts, other, Body, stored_run, and_then, next_from, with_run, takes, body_within}
use Rattle.build_body_rules.specs.Kinds.{checked, ran_as, run_from, body_of}
use Rattle.message_read_laws.specs.Counting.{Fine}
use Rattle.message_read_laws.specs.CountLaws.{first_fine, rest_fine}
use Rattle.message_read_laws.specs.ShapeLaws.{all_left, all_right}
use Rattle.message_read_laws.specs.BodyReading.{all-run}
use Rattle.promise_records.specs.Small.{Kept, Small, TrailerSmall}

pub part_small : {message : List ℕ} (part : ℕ) (f : Field) → part ≤ 3 → Fine message f → Small message (part_record part f)
unfolding part_record
part_small part f p fine = record { of_three = p; shallow = omega arith; numbered = omega arith; inside = fine.inside }

entry_small : {message : List ℕ} (depth number : ℕ) (f : Field) → depth ≤ 4 → number ≤ 1024 → Fine message f → Small message (entry_record depth number f)
unfolding entry_record
entry_small depth number f d n fine = record { of_three = omega arith; shallow = d; numbered = n; inside = fine.inside }

-- ===== what is open =====

data StackFits {L : Type 0} (room : ℕ) : List (Frame L) → Type 0 where
  nothing_open : StackFits room []
  run_open : {group : OpenGroup L} {entries : ℕ} {below : List (Frame L)} → group.depth ≤ 4 → entries + room ≤ 1024 → StackFits room below
      → StackFits room (run group entries ∷ below)
  entry_open : {group : OpenGroup L} {own : OpenEntry} {below : List (Frame L)} → group.depth ≤ 4 → own.number + room ≤ 1024 → StackFits room below
      → StackFits room (entry group own ∷ below)

one_less : {L : Type 0} {room : ℕ} {stack : List (Frame L)} → StackFits (suc room) stack → StackFits room stack
one_less nothing_open = nothing_open
one_less (run_open {entries = entries} d n s) = run_open {entries = entries} d (omega (arith, n)) (one_less s)
one_less (entry_open {own = own} d n s) = entry_open {own = own} d (omega (arith, n)) (one_less s)

abbrev MoveFits : {L : Type 0} → ℕ → Move L → Type 0
MoveFits room (adds stack numbers) = StackFits room stack × (numbers.depth ≤ 4) × (numbers.number ≤ 1024)
MoveFits room (joins_at stack start numbers) = StackFits room stack × (numbers.depth ≤ 4) × (numbers.number ≤ 1024)
MoveFits room (disorders group) = Unit {0}
MoveFits room leaves = Unit {0}

move_pick : {L : Type 0} (room : ℕ) (b : Bool) (x y : Move L) → MoveFits room x → MoveFits room y → MoveFits room (pick b x y)
move_pick room true x y fx fy = fx
move_pick room false x y fx fy = fy

-- a count opens a run in a depth below the fourth only
abbrev KindFits : {L : Type 0} → ℕ → Kind L → Type 0
KindFits depth (plain position) = Unit {0}
KindFits depth (count inner position) = depth < 4
KindFits depth joins = Unit {0}
KindFits depth wrong = Unit {0}
KindFits depth ends = Unit {0}

kind_pick : {L : Type 0} (depth : ℕ) (b : Bool) (x y : Kind L) → KindFits depth x → KindFits depth y → KindFits depth (pick b x y)
kind_pick depth true x y fx fy = fx
kind_pick depth false x y fx fy = fy

counting_fits : {L : Type 0} (depth position : ℕ) (o : Opened L) → KindFits depth (counting depth position o)
unfolding counting
counting_fits depth position none = tt
counting_fits {L} depth position (opened inner) = by_test (ltb depth 4) refl
  where
    by_test : (b : Bool) → ltb depth 4 ≡ b → KindFits {L = L} depth (pick b (count inner position) (plain position))
    by_test true e = ltb-true depth 4 e
    by_test false e = tt

module _ {L : Type 0} (rules : Rules L) where
  declared_fits : (level : L) (depth last tag : ℕ) (p : Option ℕ) → KindFits depth (declared rules level depth last tag p)
  unfolding declared
  declared_fits level depth last tag None = kind_pick depth (rules.accepts tag) joins ends tt tt
  declared_fits level depth last tag (Some position) = kind_pick depth (leb position last) wrong (counting depth position (rules.group level tag)) tt (counting_fits depth position (rules.group level tag))

  kind_fits : (level : L) (depth last tag : ℕ) → KindFits depth (entry_kind rules level depth last tag)
  unfolding entry_kind
  kind_fits level depth last tag = kind_pick depth (opens rules level tag) ends (declared rules level depth last tag (rules.position level tag)) tt (declared_fits level depth last tag (rules.position level tag))

  in_entry_fits : (room : ℕ) (group : OpenGroup L) (own : OpenEntry) (below : List (Frame L)) (tag : ℕ) (otherwise : Move L) (k : Kind L)
      → KindFits group.depth k → group.depth ≤ 4
      → own.number + room ≤ 1024 → room ≤ 1024 → StackFits room below → MoveFits room otherwise
      → MoveFits room (in_entry_lem group own below tag otherwise k)
  unfolding in_entry_lem
  in_entry_fits room group own below tag otherwise (plain position) k d n r s o = (entry_open d n s, d, omega (arith, n))
  in_entry_fits room group own below tag otherwise (count inner position) k d n r s o =
      (run_open {group = nested group tag inner} {entries = 0} (omega (arith, k)) (omega (arith, r)) (entry_open d n s), d, omega (arith, n))
  in_entry_fits room group own below tag otherwise joins k d n r s o = (entry_open d n s, d, omega (arith, n))
  in_entry_fits room group own below tag otherwise wrong k d n r s o = tt
  in_entry_fits room group own below tag otherwise ends k d n r s o = o

  decide_fits : (room here : ℕ) (stack : List (Frame L)) (tag : ℕ) → suc room ≤ 1024 → StackFits (suc room) stack → MoveFits room (decide rules here stack tag)
  unfolding decide
  decide_fits room here [] tag r s = tt
  decide_fits room here (run group entries ∷ below) tag r (run_open d n s) =
      move_pick room (opens rules group.level tag) _ _ (entry_open d (omega (arith, n)) (run_open {entries = entries + 1} d (omega (arith, n)) (one_less s)), d, omega (arith, n))
      (move_pick room (eqb entries 0) _ _ tt (decide_fits room here below tag r s))
  decide_fits room here (entry group own ∷ below) tag r (entry_open d n s) =
      in_entry_fits room group own below tag (decide rules here below tag) (entry_kind rules group.level group.depth own.last tag) (kind_fits group.level group.depth own.last tag) d (omega (arith, n)) (omega (arith, r)) (one_less s) (decide_fits room here below tag r s)

-- ===== a run, the body, the header, the trailer =====

all-joins : {message : List ℕ} (start : ℕ) (r : Record) (rs : List Record) → Small message r → All (Small message) rs → All (Small message) (joined_list start r rs)
unfolding joined_list
all-joins start r rs p a =
    let whole : take start rs ++ drop start rs ≡ rs = take-append-drop start rs in
    all_append _ (all_left (take start rs) (drop start rs) (rw (sym whole) at a)) (all-stored _ r p (all_right (take start rs) (drop start rs) (rw (sym whole) at a)))

-- reading went on by a field
kept_on : {message : List ℕ} {f : Field} {rest : Fields} {room : ℕ} {rs grown : List Record} → Kept message (field f rest) (suc room) rs → All (Small message) grown → Kept message rest room grown
kept_on k a = record { small = a; each = rest_fine k.each; left = omega (arith, k.left) }

walk_kept : {L : Type 0} (rules : Rules L) {message : List ℕ} (room : ℕ) (stack : List (Frame L)) (rs : List Record) (fields : Fields) → StackFits room stack → Kept message fields room rs → (f : Field) (rest : Fields) (room₁ : ℕ) (rs₁ : List Record)
    → walk rules list_store room stack rs fields ≡ ran f rest room₁ rs₁ → Kept message (field f rest) (suc room₁) rs₁
unfolding walk
walk_kept rules room stack rs (unreadable cause place) s c f rest room₁ rs₁ e = let z : ◌≡◌ {A = ℕ} 0 1 = cc in absurd (omega arith)
walk_kept rules zero stack rs (field g more) s c f rest room₁ rs₁ e = let z : ◌≡◌ {A = ℕ} 0 1 = cc in absurd (omega arith)
walk_kept {L} rules {message} (suc room) stack rs (field g more) s c f rest room₁ rs₁ e =
    by_move (decide rules (length rs) stack g.tag) (decide_fits rules room (length rs) stack g.tag c.left s) (unfold list_store in e) (λ stack₂ rs₂ s₂ c₂ q. walk_kept rules room stack₂ rs₂ more s₂ c₂ f rest room₁ rs₁ q)
  where
    by_move : (m : Move L) → MoveFits room m → moved list_store room rs g more (λ stack₂ rs₂. walk rules list_store room stack₂ rs₂ more) m ≡ ran f rest room₁ rs₁
        → ((stack₂ : List (Frame L)) (rs₂ : List Record) → StackFits room stack₂ → Kept message more room rs₂ → walk rules list_store room stack₂ rs₂ more ≡ ran f rest room₁ rs₁ → Kept message (field f rest) (suc room₁) rs₁)
        → Kept message (field f rest) (suc room₁) rs₁
    by_move (adds stack₂ numbers) m e later =
        later stack₂ (rs ++ (entry_record numbers.depth numbers.number g ∷ [])) m.0 (kept_on c (all_append _ c.small (all_more (entry_small numbers.depth numbers.number g m.1 m.2 (first_fine c.each)) all_none))) (unfold moved list_store in e)
    by_move (joins_at stack₂ start numbers) m e later =
        later stack₂ (joined_list start (entry_record numbers.depth numbers.number g) rs) m.0 (kept_on c (all-joins start (entry_record numbers.depth numbers.number g) rs (entry_small numbers.depth numbers.number g m.1 m.2 (first_fine c.each)) c.small)) (unfold moved list_store in e)
    by_move (disorders group) m e later = let z : ◌≡◌ {A = ℕ} 0 1 = unfold moved in cc in absurd (omega arith)
    by_move leaves m e later =
        let q : ◌≡◌ {A = RunOutcome (List Record) (List Record)} (ran g more room rs) (ran f rest room₁ rs₁) = unfold moved in e in
        let a : g ≡ f = cc in
        let b : more ≡ rest = cc in
        let d : room ≡ room₁ = cc in
        let l : rs ≡ rs₁ = cc in
        rw (← a, ← b, ← d, ← l) c

part-kept : {message : List ℕ} {f : Field} {rest : Fields} {room : ℕ} {rs : List Record} (part : ℕ) → part ≤ 3 → Kept message (field f rest) (suc room) rs → Kept message rest room (stored (part_record part f) rs)
part-kept {f = f} part p k = kept_on k (all-stored _ (part_record part f) (part_small part f p (first_fine k.each)) k.small)

pub header-kept : {message : List ℕ} (tags : List ℕ) (fields : Fields) (room : ℕ) (rs : List Record) → Kept message fields room rs → (f : Field) (rest : Fields) (room₁ : ℕ) (rs₁ : List Record) → header_from tags fields room rs ≡ ended f rest room₁ rs₁
    → Kept message (field f rest) (suc room₁) rs₁
unfolding header_from
header-kept tags (unreadable cause place) room rs r f rest room₁ rs₁ e = let z : ◌≡◌ {A = ℕ} 0 1 = cc in absurd (omega arith)
header-kept tags (field g more) zero rs r f rest room₁ rs₁ e = let z : ◌≡◌ {A = ℕ} 0 1 = cc in absurd (omega arith)
header-kept {message} tags (field g more) (suc room) rs r f rest room₁ rs₁ e = by_tag (holds_tag g.tag tags) e (λ q. header-kept tags more room (stored (part_record 1 g) rs) (part-kept 1 (omega arith) r) f rest room₁ rs₁ q)
  where
    by_tag : (b : Bool) → pick b (header_from tags more room (stored (part_record 1 g) rs)) (ended g more room rs) ≡ ended f rest room₁ rs₁
        → (header_from tags more room (stored (part_record 1 g) rs) ≡ ended f rest room₁ rs₁ → Kept message (field f rest) (suc room₁) rs₁) → Kept message (field f rest) (suc room₁) rs₁
    by_tag true e later = later e
    by_tag false e later =
        let a : g ≡ f = cc in
        let b : more ≡ rest = cc in
        let c : room ≡ room₁ = cc in
        let d : rs ≡ rs₁ = cc in
        rw (← a, ← b, ← c, ← d) r

pub trailer_small : {message : List ℕ} (fields : Fields) (room : ℕ) (rs : List Record) → Kept message fields room rs → TrailerSmall message (trailer_from fields room rs)
unfolding trailer_from
trailer_small (unreadable cause place) zero rs k = tt
trailer_small (unreadable cause place) (suc room) rs k = k.small
trailer_small (field g more) zero rs k = tt
trailer_small {message} (field g more) (suc room) rs k = by_tag (eqb g.tag 10) (trailer_small more room (stored (part_record 3 g) rs) (part-kept 3 (omega arith) k))
  where
    by_tag : (b : Bool) → TrailerSmall message (trailer_from more room (stored (part_record 3 g) rs)) → TrailerSmall message (pick b (stopped g rs) (trailer_from more room (stored (part_record 3 g) rs)))
    by_tag true later = k.small
    by_tag false later = later

module _ {L : Type 0} (rules : Rules L) (demands : Demands L) (tags : List ℕ) (level : L) where
  abbrev body : Body L
  body = body_of rules demands tags level

  pub body_kept : {message : List ℕ} (turns : ℕ) (fields : Fields) (room : ℕ) (rs : List Record) → Kept message fields room rs → (f : Field) (rest : Fields) (room₁ : ℕ) (rs₁ : List Record) → body_within body turns fields room rs ≡ ended f rest room₁ rs₁
      → Kept message (field f rest) (suc room₁) rs₁
  unfolding body_within
  body_kept zero fields room rs r f rest room₁ rs₁ e = let z : ◌≡◌ {A = ℕ} 0 1 = cc in absurd (omega arith)
  body_kept (suc turns) (unreadable cause place) room rs r f rest room₁ rs₁ e = let z : ◌≡◌ {A = ℕ} 0 1 = cc in absurd (omega arith)
  body_kept (suc turns) (field g more) zero rs r f rest room₁ rs₁ e = let z : ◌≡◌ {A = ℕ} 0 1 = cc in absurd (omega arith)
  body_kept {message} (suc turns) (field g more) (suc room) rs r f rest room₁ rs₁ e = by_kind (body.kind g.tag) e (λ fields₂ room₂ rs₂ r₂ q. body_kept turns fields₂ room₂ rs₂ r₂ f rest room₁ rs₁ q)
    where
      Later : Type 0
      Later = (fields₃ : Fields) (room₃ : ℕ) (rs₃ : List Record) → Kept message fields₃ room₃ rs₃ → body_within body turns fields₃ room₃ rs₃ ≡ ended f rest room₁ rs₁ → Kept message (field f rest) (suc room₁) rs₁

      after_next : (fields₂ : Fields) (room₂ : ℕ) (rs₂ : List Record) → Kept message fields₂ room₂ rs₂ → and_then (next_from fields₂ room₂ rs₂) (body_within body turns) ≡ ended f rest room₁ rs₁ → Later → Kept message (field f rest) (suc room₁) rs₁
      after_next (unreadable cause place) room₂ rs₂ r₂ q later = let z : ◌≡◌ {A = ℕ} 0 1 = unfold next_from and_then in cc in absurd (omega arith)
      after_next (field h last) zero rs₂ r₂ q later = let z : ◌≡◌ {A = ℕ} 0 1 = unfold next_from and_then in cc in absurd (omega arith)
      after_next (field h last) (suc room₂) rs₂ r₂ q later = later (field h last) (suc room₂) rs₂ r₂ (unfold next_from and_then in q)

      after_lack : (h : Field) (last : Fields) (room₂ : ℕ) (es : List Record) (lack : Lack) → Kept message (field h last) (suc room₂) (stored_run (part_record 2 g) es rs)
          → and_then (with_run (part_record 2 g) rs (checked h last room₂ es lack)) (body_within body turns) ≡ ended f rest room₁ rs₁ → Later → Kept message (field f rest) (suc room₁) rs₁
      after_lack h last room₂ es Complete r₂ q later = later (field h last) (suc room₂) (stored_run (part_record 2 g) es rs) r₂ (unfold checked with_run and_then in q)
      after_lack h last room₂ es (Missing t u) r₂ q later = let z : ◌≡◌ {A = ℕ} 0 1 = unfold checked with_run and_then in cc in absurd (omega arith)

      with_run_lem : (h : Field) (last : Fields) (room₂ : ℕ) (es : List Record) → Kept message (field h last) (suc room₂) es → Kept message (field h last) (suc room₂) (stored_run (part_record 2 g) es rs)
      with_run_lem h last room₂ es k = record { small = all-run (part_record 2 g) es rs (part_small 2 g (omega arith) (first_fine r.each)) k.small r.small; each = k.each; left = k.left }

      after_run : (inner : L) (o : RunOutcome (List Record) (List Record)) → walk rules list_store room (run (outermost g.tag inner) 0 ∷ []) [] more ≡ o
          → and_then (with_run (part_record 2 g) rs (ran_as rules demands inner g.tag o)) (body_within body turns) ≡ ended f rest room₁ rs₁ → Later → Kept message (field f rest) (suc room₁) rs₁
      after_run inner (ran h last room₂ es) w q later =
          after_lack h last room₂ es (run_lack demands 4 inner g.tag 1 es)
          (with_run_lem h last room₂ es (walk_kept rules room (run (outermost g.tag inner) 0 ∷ []) [] more (run_open {group = outermost g.tag inner} {entries = 0} (omega arith) (omega (arith, r.left)) nothing_open) (kept_on r all_none) h last room₂ es w)) (unfold ran_as in q) later
      after_run inner (stops refusal es) w q later = let z : ◌≡◌ {A = ℕ} 0 1 = unfold ran_as with_run and_then in cc in absurd (omega arith)

      by_tag : (b : Bool) → pick b (ended g more room rs) (refused (InvalidField g.tag)) ≡ ended f rest room₁ rs₁ → Kept message (field f rest) (suc room₁) rs₁
      by_tag true q =
          let a : g ≡ f = cc in
          let b : more ≡ rest = cc in
          let c : room ≡ room₁ = cc in
          let d : rs ≡ rs₁ = cc in
          rw (← a, ← b, ← c, ← d) r
      by_tag false q = let z : ◌≡◌ {A = ℕ} 0 1 = cc in absurd (omega arith)

      by_kind : (k : Taken L) → takes body (body_within body turns) g more room rs k ≡ ended f rest room₁ rs₁ → Later → Kept message (field f rest) (suc room₁) rs₁
      by_kind takes-plain q later = after_next more room (stored (part_record 2 g) rs) (part-kept 2 (omega arith) r) (unfold takes in q) later
      by_kind (counts inner) q later =
          after_run inner (walk rules list_store room (run (outermost g.tag inner) 0 ∷ []) [] more) refl (unfold takes body_of run_from in q) later
      by_kind other q later = by_tag (holds_tag g.tag body.trailer) (unfold takes in q)
