-- Calls in vain change nothing: a call that is refused leaves state, store and output as they were, and so does a take of a framer that
-- rests.
use Rattle.std.specs.Prelude.{◌≡◌, refl, ◌⊎◌, Bool, true, false, List, [], ◌∷◌, ℕ, ◌-◌, ◌≤◌, ◌<◌, ltb, length, take}
use Rattle.std.proofs.Common.{sym, ap, ◌∙◌, subst, inl, inr, arith, take-append-drop}
use Rattle.field_rules.specs.Choice.{pick}
use Rattle.frame_verdict_rules.specs.Frame.{frame_most}
use Rattle.frame_verdict_rules.specs.Verdict.{verdict_of}
use Rattle.frame_hunter_rules.specs.Hunt.{act_on, count_wrap, hunt_from, Took, take_one, Given, accepted, refused}
use Rattle.frame_hunter_rules.proofs.TakeLaws.{first-none, first-stop}
use Rattle.frame_hunter_rules.specs.Bytes.{number_of_hunter, framer_of, unfit, left_by, pushed, finished, Handout, unmoved, refused_take_lem, moved_by, took_from, Pushes, Finishes, Takes}
use Rattle.frame_hunter_rules.proofs.BytesLaws.{Fit, fit_is, take_fine, Moved}
use Rattle.frame_hunter_rules.specs.Calls.{InVain, output_short, after_the_end, bad-store, Refused, refused_push, refused_take, refused_end}
use Rattle.frame_hunter_rules.specs.declared.State.{State}
use Rattle.frame_hunter_rules.specs.declared.Reply.{Reply}
use Rattle.frame_hunter_rules.specs.declared.Taken.{Taken}
use Rattle.frame_hunter_rules.specs.declared.Answer.TheVariants.{Fine, OutputShort, BadStore}
use Rattle.frame_hunter_rules.specs.declared.Hunted.{Hunted}
use Rattle.frame_hunter_rules.specs.declared.Act.TheVariants.{Stop}

-- ---- calls that are refused

pub not_done : {n : ℕ} → InVain n → 0 < n
not_done output_short = omega arith
not_done after_the_end = omega arith
not_done bad-store = omega arith

left_as_it_was : (s : State) (store : List ℕ) (g : Given) → InVain (number_of_hunter (left_by s store g).reply.answer) →
    ((left_by s store g).reply.state ≡ s) × ((left_by s store g).store ≡ store)
unfolding left_by number_of_hunter
left_as_it_was s store (accepted f) h = absurd (omega (arith, not_done h))
left_as_it_was s store (refused a) h = (refl, refl)

-- A CHUNK IN VAIN LEAVES STATE AND STORE
pub push_in_vain : (s : State) (store chunk : List ℕ) (r : Reply) (store' : List ℕ) → Pushes s store chunk r store' → InVain (number_of_hunter r.answer) →
    (r.state ≡ s) × (store' ≡ store)
unfolding pushed
push_in_vain s store chunk r store' p h =
    let k = left_as_it_was s store _ (subst (λ (x : Reply). InVain (number_of_hunter x.answer)) p.reply_is h) in
    (ap (λ (x : Reply). x.state) p.reply_is ∙ k.0, p.store_is ∙ k.1)

-- AN END IN VAIN LEAVES THE STATE
pub end_in_vain : (s : State) (store : List ℕ) (r : Reply) → Finishes s store r → InVain (number_of_hunter r.answer) → r.state ≡ s
unfolding finished
end_in_vain s store r p h =
    let k = left_as_it_was s store _ (subst (λ (x : Reply). InVain (number_of_hunter x.answer)) p.reply_is h) in
    ap (λ (x : Reply). x.state) p.reply_is ∙ k.0

-- a take that leaves all as it was, and hands out nothing
pub record Nothing (s : State) (store output : List ℕ) (r : Taken) (store' output' : List ℕ) : Type 0 where
  pub state_is : r.state ≡ s
  pub none : r.length ≡ 0
  pub store_is : store' ≡ store
  pub output_is : output' ≡ output

nothing_by : (s : State) (store output : List ℕ) (r : Taken) (store' output' : List ℕ) (h : Handout) → r ≡ h.taken → store' ≡ h.store →
    output' ≡ h.output → Nothing s store output h.taken h.store h.output → Nothing s store output r store' output'
nothing_by s store output r store' output' h er es eo n = rw (er, es, eo) n

took_as_it_was : (s : State) (store output : List ℕ) (t : Took) (a b : Bool) (h : Handout) →
    h ≡ pick a (unmoved s store output BadStore) (pick b (unmoved s store output OutputShort) (moved_by store output t)) →
    InVain (number_of_hunter h.taken.answer) →
    Nothing s store output h.taken h.store h.output
unfolding unmoved refused_take_lem moved_by number_of_hunter
took_as_it_was s store output t true b h e v = rw e (record { state_is = refl; none = refl; store_is = refl; output_is = refl })
took_as_it_was s store output t false true h e v = rw e (record { state_is = refl; none = refl; store_is = refl; output_is = refl })
took_as_it_was s store output t false false h e v = absurd (omega (arith, not_done (rw e at v)))

-- A TAKE IN VAIN LEAVES STATE, STORE AND OUTPUT
pub take_in_vain : (s : State) (store output : List ℕ) (r : Taken) (store' output' : List ℕ) → Takes s store output r store' output' →
    InVain (number_of_hunter r.answer) → Nothing s store output r store' output'
unfolding took_from
take_in_vain s store output r store' output' p h =
    nothing_by s store output r store' output' (took_from s store output) p.taken_is p.store_is p.output_is
    (took_as_it_was s store output (take_one verdict_of (framer_of s store)) (unfit s (length store)) (ltb (length output) frame_most) (took_from s store output) refl (subst (λ (x : Taken). InVain (number_of_hunter x.answer)) p.taken_is h))

-- A CALL IN VAIN CHANGES NOTHING, whatever was lent as the store
pub refused-leaves : {s z : State} {store store' : List ℕ} → Refused s store z store' → (z ≡ s) × (store' ≡ store)
refused-leaves (refused_push around p h) = let k = push_in_vain _ _ _ _ _ p h in (k.0, ap around k.1)
refused-leaves (refused_take around p h) = let k = take_in_vain _ _ _ _ _ _ p h in (k.state_is, ap around k.store_is)
refused-leaves (refused_end p h) = (end_in_vain _ _ _ p h, refl)

-- ---- takes when all that is ready was taken

-- no byte is left, or the first place waits
abbrev pub AtRest : Bool → List ℕ → Type 0
AtRest ended held = (held ≡ []) ⊎ (act_on ended (verdict_of held) ≡ Stop)

finds_nothing : (ended : Bool) (held : List ℕ) → AtRest ended held → record { passed = 0; length = 0 } ≡ hunt_from verdict_of ended held
finds_nothing ended [] h = sym (first-none verdict_of ended)
finds_nothing ended (x ∷ xs) (inl p) = let z : ◌≡◌ {A = ℕ} 0 1 = cc in absurd (omega arith)
finds_nothing ended (x ∷ xs) (inr p) = sym (first-stop verdict_of ended x xs p)

-- A TAKE OF A FRAMER AT REST ANSWERS 0 AND LEAVES STATE, STORE AND OUTPUT
pub take-at-rest : (s : State) (store output : List ℕ) (r : Taken) (store' output' : List ℕ) → Fit s store → AtRest s.ended (take s.used store) →
    s.dropped < count_wrap → frame_most ≤ length output → Takes s store output r store' output' →
    (r.answer ≡ Fine) × Nothing s store output r store' output'
take-at-rest s store output r store' output' f h d l p =
    let none : Hunted = record { passed = 0; length = 0 } in
    let m : Moved s store output none (took_from s store output) = take_fine s store output none (fit_is s store f) l (finds_nothing s.ended (take s.used store) h) in
    let e = p.taken_is ∙ m.taken_is in
    let eu : r.state.used ≡ s.used = omega (arith, ap (λ (x : Taken). x.state.used) e) in
    let ed : r.state.dropped ≡ s.dropped = omega (arith, ap (λ (x : Taken). x.state.dropped) e) in
    let ee : r.state.ended ≡ s.ended = ap (λ (x : Taken). x.state.ended) e in (
      ap (λ (x : Taken). x.answer) e,
      record {
        state_is = λ i. record { used = eu i; dropped = ed i; ended = ee i };
        none = ap (λ (x : Taken). x.length) e;
        store_is = p.store_is ∙ m.store_is ∙ take-append-drop (s.used - 0) store;
        output_is = p.output_is ∙ m.output_is;
      },
    )
