-- The body is read by tags alone: what a tag is to it, and what the run of a count lacks, no value decides.
-- A count's run is read as a group is, and both go into records that stay alike.
use Rattle.std.proofs.Math.Path.{◌≡◌, refl}
use Rattle.std.proofs.Common.{sym, ap, ◌∙◌}
use Rattle.std.specs.Prelude.{Bool}
use Rattle.std.proofs.Math.Bool.{true, false}
use mathlib.Core.List.{List, [], ◌∷◌}
use Prim.Native.Nat.{ℕ, zero, suc, ◌+◌, ◌≤◌, ◌<◌}
use native.Mathlib.Omega.{arith}
use Rattle.field_rules.specs.Choice.{pick}
use Rattle.field_rules.specs.Fields.{Fields, unreadable, field}
use Rattle.field_rules.specs.declared.Field.{Field}
use Rattle.dictionary_layout_rules.specs.Tree.{holds_tag}
use Rattle.build_records.specs.Records.{stored}
use Rattle.build_records.specs.declared.Record.{Record}
use Rattle.build_group_rules.specs.Groups.{Rules, run, outermost, RunOutcome, walk}
use Rattle.build_group_rules.specs.Groups.{ended as ran, refused as stops}
use Rattle.build_group_rules.specs.Reading.{list_store}
use Rattle.build_required_rules.specs.Required.{Demands, run_lack}
use Rattle.build_required_rules.specs.declared.Lack.{Lack}
use Rattle.build_required_rules.specs.declared.Lack.TheVariants.{Missing, Complete}
use Rattle.build_answers.specs.declared.Answer.TheVariants.{InvalidField}
use Rattle.build_parts.specs.Parts.{Reading, ended, refused, part_record}
use Rattle.build_body_rules.specs.Body.{Kind, plain, counts, other, Body, stored_run, and_then, next_from, with_run, takes, body_within, body_from}
use Rattle.build_body_rules.specs.Kinds.{checked, ran_as, run_from, body_of}
use Rattle.build_order_laws.specs.Agree.{Agree, enough, same, Similar, none}
use Rattle.build_order_laws.specs.Alongside.{Alongside, one_more, at_first, alongside_same}
use Rattle.build_order_laws.specs.SimilarLaws.{similar_stored, similar_run, alike_field}
use Rattle.build_order_laws.specs.LackLaws.{run_lack-same}
use Rattle.build_order_laws.specs.GroupReading.{walk_falls, walk_same}

module _ {L : Type 0} (rules : Rules L) (demands : Demands L) where
  -- a run ended and lacks nothing, and reading went on to some end
  record RunTaken (inner : L) (tag room : ℕ) (count : Record) (rs : List Record) (fields : Fields) (on : Fields → ℕ → List Record → Reading) (reading : Reading) : Type 0 where
    found : Field
    behind : Fields
    room-left : ℕ
    entries : List Record
    walked : walk rules list_store room (run (outermost tag inner) 0 ∷ []) [] fields ≡ ran found behind room-left entries
    complete : run_lack demands 4 inner tag 1 entries ≡ Complete
    goes_on : on (field found behind) (suc room-left) (stored_run count entries rs) ≡ reading

  module _ (inner : L) (tag room : ℕ) (count : Record) (rs : List Record) (fields : Fields) (on : Fields → ℕ → List Record → Reading) where
    run-takes : (reading : Reading) → RunTaken inner tag room count rs fields on reading → and_then (with_run count rs (run_from rules demands inner tag fields room)) on ≡ reading
    unfolding run_from ran_as checked with_run and_then
    run-takes reading t = rw (t.walked, t.complete) t.goes_on

    run-taken : (f : Field) (rest : Fields) (room₁ : ℕ) (rs₁ : List Record) → and_then (with_run count rs (run_from rules demands inner tag fields room)) on ≡ ended f rest room₁ rs₁
        → RunTaken inner tag room count rs fields on (ended f rest room₁ rs₁)
    unfolding run_from
    run-taken f rest room₁ rs₁ e = by_outcome (walk rules list_store room (run (outermost tag inner) 0 ∷ []) [] fields) refl e
      where
        by_lack : (h : Field) (last : Fields) (room₂ : ℕ) (es : List Record) → walk rules list_store room (run (outermost tag inner) 0 ∷ []) [] fields
            ≡ ran h last room₂ es
            → (lack : Lack) → run_lack demands 4 inner tag 1 es ≡ lack → and_then (with_run count rs (checked h last room₂ es lack)) on ≡ ended f rest room₁ rs₁ → RunTaken inner tag room count rs fields on (ended f rest room₁ rs₁)
        by_lack h last room₂ es w Complete c e = record { found = h; behind = last; room-left = room₂; entries = es; walked = w; complete = c; goes_on = (unfold checked with_run and_then in e) }
        by_lack h last room₂ es w (Missing t u) c e = let z : ◌≡◌ {A = ℕ} 0 1 = unfold checked with_run and_then in cc in absurd (omega arith)

        by_outcome : (o : RunOutcome (List Record) (List Record)) → walk rules list_store room (run (outermost tag inner) 0 ∷ []) [] fields ≡ o
            → and_then (with_run count rs (ran_as rules demands inner tag o)) on ≡ ended f rest room₁ rs₁
            → RunTaken inner tag room count rs fields on (ended f rest room₁ rs₁)
        by_outcome (ran h last room₂ es) w e = by_lack h last room₂ es w (run_lack demands 4 inner tag 1 es) refl (unfold ran_as in e)
        by_outcome (stops refusal es) w e = let z : ◌≡◌ {A = ℕ} 0 1 = unfold ran_as with_run and_then in cc in absurd (omega arith)

  module _ (tags : List ℕ) (level : L) where
    abbrev body : Body L
    body = body_of rules demands tags level

    -- where reading goes on at the next field there is one, and so the other way round
    next-on : (turns : ℕ) (fields : Fields) (room : ℕ) (rs : List Record) (f : Field) (rest : Fields) (room₁ : ℕ) (rs₁ : List Record) → and_then (next_from fields room rs) (body_within body turns) ≡ ended f rest room₁ rs₁
        → body_within body turns fields room rs ≡ ended f rest room₁ rs₁
    unfolding next_from and_then
    next-on turns (unreadable cause place) room rs f rest room₁ rs₁ e = let z : ◌≡◌ {A = ℕ} 0 1 = cc in absurd (omega arith)
    next-on turns (field g last) zero rs f rest room₁ rs₁ e = let z : ◌≡◌ {A = ℕ} 0 1 = cc in absurd (omega arith)
    next-on turns (field g last) (suc room) rs f rest room₁ rs₁ e = e

    on-next : (turns : ℕ) (fields : Fields) (room : ℕ) (rs : List Record) (f : Field) (rest : Fields) (room₁ : ℕ) (rs₁ : List Record) → body_within body turns fields room rs ≡ ended f rest room₁ rs₁
        → and_then (next_from fields room rs) (body_within body turns) ≡ ended f rest room₁ rs₁
    unfolding next_from and_then body_within
    on-next zero fields room rs f rest room₁ rs₁ e = let z : ◌≡◌ {A = ℕ} 0 1 = cc in absurd (omega arith)
    on-next (suc turns) (unreadable cause place) room rs f rest room₁ rs₁ e = let z : ◌≡◌ {A = ℕ} 0 1 = cc in absurd (omega arith)
    on-next (suc turns) (field g last) zero rs f rest room₁ rs₁ e = let z : ◌≡◌ {A = ℕ} 0 1 = cc in absurd (omega arith)
    on-next (suc turns) (field g last) (suc room) rs f rest room₁ rs₁ e = e

    -- the field that ends the body is read
    body_falls : (turns : ℕ) (fields : Fields) (room : ℕ) (rs : List Record) (f : Field) (rest : Fields) (room₁ : ℕ) (rs₁ : List Record) → body_within (body_of rules demands tags level) turns fields room rs ≡ ended f rest room₁ rs₁ → room₁ < room
    unfolding body_within
    body_falls zero fields room rs f rest room₁ rs₁ e = let z : ◌≡◌ {A = ℕ} 0 1 = cc in absurd (omega arith)
    body_falls (suc turns) (unreadable cause place) room rs f rest room₁ rs₁ e = let z : ◌≡◌ {A = ℕ} 0 1 = cc in absurd (omega arith)
    body_falls (suc turns) (field g last) zero rs f rest room₁ rs₁ e = let z : ◌≡◌ {A = ℕ} 0 1 = cc in absurd (omega arith)
    body_falls (suc turns) (field g last) (suc room) rs f rest room₁ rs₁ e = by_kind (body.kind g.tag) e (λ fields₂ room₂ rs₂ q. body_falls turns fields₂ room₂ rs₂ f rest room₁ rs₁ q)
      where
        by_tag : (b : Bool) → pick b (ended g last room rs) (refused (InvalidField g.tag)) ≡ ended f rest room₁ rs₁ → room₁ < suc room
        by_tag true e = let d : room ≡ room₁ = cc in omega arith
        by_tag false e = let z : ◌≡◌ {A = ℕ} 0 1 = cc in absurd (omega arith)

        by_kind : (k : Kind L) → takes body (body_within body turns) g last room rs k ≡ ended f rest room₁ rs₁
            → ((fields₂ : Fields) (room₂ : ℕ) (rs₂ : List Record) → body_within body turns fields₂ room₂ rs₂ ≡ ended f rest room₁ rs₁ → room₁ < room₂) → room₁ < suc room
        by_kind plain e later = let l = later last room (stored (part_record 2 g) rs) (next-on turns last room (stored (part_record 2 g) rs) f rest room₁ rs₁ (unfold takes in e)) in omega arith
        by_kind (counts inner) e later =
            let t = run-taken inner g.tag room (part_record 2 g) rs last (body_within body turns) f rest room₁ rs₁ (unfold takes body_of in e) in
            let l = later (field t.found t.behind) (suc t.room-left) (stored_run (part_record 2 g) t.entries rs) t.goes_on in
            let w = walk_falls rules room (run (outermost g.tag inner) 0 ∷ []) [] last t.found t.behind t.room-left t.entries t.walked in
            omega arith
        by_kind other e later = by_tag (holds_tag g.tag body.trailer) (unfold takes in e)

    module _ (turns : ℕ) (f : Field) (rest : Fields) (room₁ : ℕ) (rs₁ : List Record) where
      -- the same of the fields behind, for one turn less
      abbrev Later : Type 0
      Later = (fields others : Fields) (room n : ℕ) (rs qs : List Record) → body_within body turns fields room rs ≡ ended f rest room₁ rs₁
          → Similar rs qs → Agree n fields others → room ≤ n + room₁ → Alongside ended (body_within body turns others room qs) n room f rest room₁ rs₁

      module _ (later : Later) (g h : Field) (last others : Fields) (room n : ℕ) (rs qs : List Record) (t : g.tag ≡ h.tag) (a : Agree n last others) (s : Similar rs qs) (l : suc room ≤ suc n + room₁) where
        -- the run of a count
        run-same : (inner : L) → RunTaken inner g.tag room (part_record 2 g) rs last (body_within body turns) (ended f rest room₁ rs₁)
            → Alongside ended (and_then (with_run (part_record 2 h) qs (run_from rules demands inner h.tag others room)) (body_within body turns)) (suc n) (suc room) f rest room₁ rs₁
        run-same inner r =
            let k = body_falls turns (field r.found r.behind) (suc r.room-left) (stored_run (part_record 2 g) r.entries rs) f rest room₁ rs₁ r.goes_on in
            let w = walk_same rules room (run (outermost g.tag inner) 0 ∷ []) [] [] last others n r.found r.behind r.room-left r.entries r.walked none a (omega arith) in
            let b = later (field r.found r.behind) (field w.found w.behind) (suc r.room-left) (suc w.left) (stored_run (part_record 2 g) r.entries rs) (stored_run (part_record 2 h) w.kept qs)
            r.goes_on (similar_run (alike_field 2 g h t) w.similar s) (same w.tag w.agree) (omega (arith, w.counted)) in
            record {
              found = b.found;
              behind = b.behind;
              kept = b.kept;
              is = run-takes inner h.tag room (part_record 2 h) qs others (body_within body turns) (ended b.found b.behind room₁ b.kept)
                  (record {
                    found = w.found;
                    behind = w.behind;
                    room-left = r.room-left;
                    entries = w.kept;
                    walked = ap (λ (tag : ℕ). walk rules list_store room (run (outermost tag inner) 0 ∷ []) [] others) (sym t) ∙ w.is;
                    complete = ap (λ (tag : ℕ). run_lack demands 4 inner tag 1 w.kept) (sym t) ∙ sym (run_lack-same demands 4 inner g.tag 1 w.similar) ∙ r.complete;
                    goes_on = b.is;
                  });
              tag = b.tag;
              similar = b.similar;
              left = b.left;
              counted = omega (arith, b.counted, w.counted);
              agree = b.agree;
            }

        by_tag : (b : Bool) → pick b (ended g last room rs) (refused (InvalidField g.tag)) ≡ ended f rest room₁ rs₁ → Alongside ended (pick b (ended h others room qs) (refused (InvalidField h.tag))) (suc n) (suc room) f rest room₁ rs₁
        by_tag false e = let z : ◌≡◌ {A = ℕ} 0 1 = cc in absurd (omega arith)
        by_tag true e =
            let b : g ≡ f = cc in
            let c : last ≡ rest = cc in
            let d : room ≡ room₁ = cc in
            let r : rs ≡ rs₁ = cc in
            rw (← b, ← c, ← d, ← r) (at_first ended g h room t a s)

        by_kind : (k : Kind L) → takes body (body_within body turns) g last room rs k ≡ ended f rest room₁ rs₁ → Alongside ended (takes body (body_within body turns) h others room qs k) (suc n) (suc room) f rest room₁ rs₁
        unfolding takes body_of
        by_kind plain e =
            let w = later last others room n (stored (part_record 2 g) rs) (stored (part_record 2 h) qs) (next-on turns last room (stored (part_record 2 g) rs) f rest room₁ rs₁ e) (similar_stored (alike_field 2 g h t) s) a (omega arith) in
            one_more ended (alongside_same ended _ w (on-next turns others room (stored (part_record 2 h) qs) w.found w.behind room₁ w.kept w.is))
        by_kind (counts inner) e = run-same inner (run-taken inner g.tag room (part_record 2 g) rs last (body_within body turns) f rest room₁ rs₁ e)
        by_kind other e = rw (ap (λ (tag : ℕ). holds_tag tag tags) (sym t)) (by_tag (holds_tag g.tag tags) e)

      one_turn : Later → (fields others : Fields) (room n : ℕ) (rs qs : List Record) → body_within body (suc turns) fields room rs ≡ ended f rest room₁ rs₁
          → Similar rs qs → Agree n fields others → room ≤ n + room₁ → Alongside ended (body_within body (suc turns) others room qs) n room f rest room₁ rs₁
      unfolding body_within
      one_turn later fields others room n rs qs e s enough l = absurd (omega (arith, body_falls (suc turns) fields room rs f rest room₁ rs₁ e))
      one_turn later (field g last) (field h others) zero (suc n) rs qs e s (same t a) l = let z : ◌≡◌ {A = ℕ} 0 1 = cc in absurd (omega arith)
      one_turn later (field g last) (field h others) (suc room) (suc n) rs qs e s (same t a) l =
          rw (ap (λ (tag : ℕ). body.kind tag) (sym t)) (by_kind later g h last others room n rs qs t a s l (body.kind g.tag) e)

    within_same : (turns : ℕ) (f : Field) (rest : Fields) (room₁ : ℕ) (rs₁ : List Record) → Later turns f rest room₁ rs₁
    within_same zero f rest room₁ rs₁ fields others room n rs qs e s a l = let z : ◌≡◌ {A = ℕ} 0 1 = unfold body_within in cc in absurd (omega arith)
    within_same (suc turns) f rest room₁ rs₁ fields others room n rs qs e s a l = one_turn turns f rest room₁ rs₁ (within_same turns f rest room₁ rs₁) fields others room n rs qs e s a l

    pub body_same : (fields others : Fields) (room n : ℕ) (rs qs : List Record) (f : Field) (rest : Fields) (room₁ : ℕ) (rs₁ : List Record) → body_from (body_of rules demands tags level) fields room rs ≡ ended f rest room₁ rs₁
        → Similar rs qs → Agree n fields others → room ≤ n + room₁ → Alongside ended (body_from (body_of rules demands tags level) others room qs) n room f rest room₁ rs₁
    unfolding body_from
    body_same fields others room n rs qs f rest room₁ rs₁ e s a l = within_same (suc room) f rest room₁ rs₁ fields others room n rs qs e s a l
