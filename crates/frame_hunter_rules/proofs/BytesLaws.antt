-- Each way that a call over bytes goes, and that each call, seen through the framer that state and store hold, is the framer's own call.
use Rattle.std.specs.Prelude.{◌≡◌, refl, Bool, true, false, List, ◌++◌, ℕ, ◌+◌, ◌-◌, ◌%◌, ◌≤◌, ◌<◌, eqb, ltb, length, take, drop}
use Rattle.std.proofs.Common.{sym, ◌∙◌, append_assoc, arith, length-append, length-drop, take-append-drop, length-take-le, take_at}
use Rattle.std.proofs.Math.Path.{ap, subst}
use Rattle.std.proofs.lemmas.List.{take-append-le, drop-append-le}
use borrow.Author.Tests.{eqb-true, ltb-false, eq-eqb, le-ltb, lt-ltb}
use Rattle.field_rules.specs.Choice.{pick}
use Rattle.frame_verdict_rules.specs.Frame.{frame_most}
use Rattle.frame_verdict_rules.specs.Verdict.{verdict_of}
use Rattle.frame_verdict_rules.proofs.VerdictLaws.{verdict_laws}
use Rattle.frame_hunter_rules.specs.Hunt.{Framer, framer, store_size, count_wrap, took_by, hunt_from, take_one, Given, accepted, refused, give_chunk, give_end}
use Rattle.frame_hunter_rules.proofs.TakeLaws.{step, places, took_small}
use Rattle.frame_hunter_rules.proofs.RunLaws.{chunk_fits, end_open}
use Rattle.frame_hunter_rules.specs.Bytes.{framer_of, state_of, stored_over, unfit, Left, left_by, pushed, finished, Handout, refused_take_lem, unmoved, moved_by, took_from, Pushes, Finishes, Takes}
use Rattle.frame_hunter_rules.specs.declared.State.{State}
use Rattle.frame_hunter_rules.specs.declared.Answer.{Answer}
use Rattle.frame_hunter_rules.specs.declared.Answer.TheVariants.{Fine, OutputShort, StoreFull, AfterEnd, BadStore}
use Rattle.frame_hunter_rules.specs.declared.Reply.{Reply}
use Rattle.frame_hunter_rules.specs.declared.Taken.{Taken}
use Rattle.frame_hunter_rules.specs.declared.Hunted.{Hunted}

-- ---- 27

-- state and store belong together
pub record Fit (s : State) (store : List ℕ) : Type 0 where
  pub size : length store ≡ store_size
  pub within : s.used ≤ store_size

pub fits : (s : State) (store : List ℕ) → unfit s (length store) ≡ false → Fit s store
unfolding unfit
fits s store e = go (eqb (length store) store_size) refl e
  where
    go : (b : Bool) → eqb (length store) store_size ≡ b → pick b (ltb store_size s.used) true ≡ false → Fit s store
    go true p q = record { size = eqb-true (length store) store_size p; within = ltb-false store_size s.used q }
    go false p q = let z : ◌≡◌ {A = ℕ} 0 1 = cc in absurd (omega arith)

pub fit_is : (s : State) (store : List ℕ) → Fit s store → unfit s (length store) ≡ false
unfolding unfit
fit_is s store h = rw (eq-eqb _ _ h.size, le-ltb store_size s.used h.within)

pub held-length : (s : State) (store : List ℕ) → Fit s store → length (take s.used store) ≡ s.used
held-length s store h = length-take-le s.used store (omega (arith, h.size, h.within))

-- ---- each way that a chunk and the end go

give_ended : (c : List ℕ) (f : Framer) → f.ended ≡ true → give_chunk c f ≡ refused AfterEnd
unfolding give_chunk
give_ended c f e = rw e

give_full : (c : List ℕ) (f : Framer) → f.ended ≡ false → store_size < length f.held + length c → give_chunk c f ≡ refused StoreFull
unfolding give_chunk
give_full c f e h = rw (e, lt-ltb store_size (length f.held + length c) h)

end_again : (f : Framer) → f.ended ≡ true → give_end f ≡ refused AfterEnd
unfolding give_end
end_again f e = rw e

-- a refusal changes nothing
pub record Unchanged (s : State) (store : List ℕ) (a : Answer) (l : Left) : Type 0 where
  pub reply : l.reply ≡ record { answer = a; state = s }
  pub store_is : l.store ≡ store

refusal : (s : State) (store : List ℕ) (a : Answer) (l : Left) → l ≡ left_by s store (refused a) → Unchanged s store a l
unfolding left_by
refusal s store a l e = rw e (record { reply = refl; store_is = refl })

-- a chunk that is accepted stands behind the bytes held
pub record Appended (s : State) (store chunk : List ℕ) (l : Left) : Type 0 where
  pub reply : l.reply ≡ record { answer = Fine; state = record { used = s.used + length chunk; dropped = s.dropped; ended = false } }
  pub store_is : l.store ≡ take s.used store ++ (chunk ++ drop (s.used + length chunk) store)

acceptance : (s : State) (store chunk : List ℕ) (l : Left) → Fit s store → l ≡ left_by s store (accepted (framer (take s.used store ++ chunk) s.dropped false)) → Appended s store chunk l
unfolding left_by state_of stored_over
acceptance s store chunk l h e =
    let n : length (take s.used store ++ chunk) ≡ s.used + length chunk = length-append (take s.used store) chunk ∙ ap (λ (k : ℕ). k + length chunk) (held-length s store h) in
    rw e (record { reply = rw n; store_is = rw n (append_assoc (take s.used store) chunk (drop (s.used + length chunk) store)) })

-- the end sets the mark
pub record Marked (s : State) (store : List ℕ) (l : Left) : Type 0 where
  pub reply : l.reply ≡ record { answer = Fine; state = record { used = s.used; dropped = s.dropped; ended = true } }
  pub store_is : l.store ≡ store

marking : (s : State) (store : List ℕ) (l : Left) → Fit s store → l ≡ left_by s store (accepted (framer (take s.used store) s.dropped true)) → Marked s store l
unfolding left_by state_of stored_over
marking s store l h e = let n : length (take s.used store) ≡ s.used = held-length s store h in rw e (record { reply = rw n; store_is = rw n (take-append-drop s.used store) })

module _ (s : State) (store chunk : List ℕ) where
  pub push_unfit : unfit s (length store) ≡ true → Unchanged s store BadStore (pushed s store chunk)
  unfolding pushed
  push_unfit e = refusal s store BadStore _ (rw e)

  pub pushed_is : (g : Given) → unfit s (length store) ≡ false → give_chunk chunk (framer_of s store) ≡ g → pushed s store chunk ≡ left_by s store g
  unfolding pushed
  pushed_is g e q = rw (e, q)

  pub push_ended : unfit s (length store) ≡ false → s.ended ≡ true → Unchanged s store AfterEnd (pushed s store chunk)
  unfolding framer_of
  push_ended u e = refusal s store AfterEnd _ (pushed_is _ u (give_ended chunk (framer_of s store) e))

  pub push_full : unfit s (length store) ≡ false → s.ended ≡ false → store_size - s.used < length chunk → Unchanged s store StoreFull (pushed s store chunk)
  unfolding framer_of
  push_full u e h = let f = fits s store u in refusal s store StoreFull _ (pushed_is _ u (give_full chunk (framer_of s store) e (omega (arith, held-length s store f, f.within))))

  pub push_fine : unfit s (length store) ≡ false → s.ended ≡ false → length chunk ≤ store_size - s.used → Appended s store chunk (pushed s store chunk)
  unfolding framer_of
  push_fine u e h = let f = fits s store u in acceptance s store chunk _ f (pushed_is _ u (chunk_fits chunk (framer_of s store) e (omega (arith, held-length s store f, f.within))))

module _ (s : State) (store : List ℕ) where
  pub end-unfit : unfit s (length store) ≡ true → Unchanged s store BadStore (finished s store)
  unfolding finished
  end-unfit e = refusal s store BadStore _ (rw e)

  pub finished_is : (g : Given) → unfit s (length store) ≡ false → give_end (framer_of s store) ≡ g → finished s store ≡ left_by s store g
  unfolding finished
  finished_is g e q = rw (e, q)

  pub end-ended : unfit s (length store) ≡ false → s.ended ≡ true → Unchanged s store AfterEnd (finished s store)
  unfolding framer_of
  end-ended u e = refusal s store AfterEnd _ (finished_is _ u (end_again (framer_of s store) e))

  pub end_fine : unfit s (length store) ≡ false → s.ended ≡ false → Marked s store (finished s store)
  unfolding framer_of
  end_fine u e = marking s store _ (fits s store u) (finished_is _ u (end_open (framer_of s store) e))

-- ---- each way that a take goes

-- parts of the bytes held are parts of the store
part_of-held : (store : List ℕ) (used k n : ℕ) → used ≤ length store → k + n ≤ used → take n (drop k (take used store)) ≡ take n (drop k store)
part_of-held store used k n u h =
    let l : length (take used store) ≡ used = length-take-le used store u in
    let d : drop k store ≡ drop k (take used store) ++ drop used store = ap (drop k) (sym (take-append-drop used store)) ∙ drop-append-le k (take used store) (drop used store) (omega arith) in
    sym (ap (take n) d ∙ take-append-le n (drop k (take used store)) (drop used store) (omega (arith, length-drop k (take used store))))

rest_of-held : (store : List ℕ) (used r : ℕ) → used ≤ length store → r ≤ used → drop r (take used store) ≡ take (used - r) (drop r store)
rest_of-held store used r u h =
    let l : length (take used store) ≡ used = length-take-le used store u in
    let d : drop r store ≡ drop r (take used store) ++ drop used store = ap (drop r) (sym (take-append-drop used store)) ∙ drop-append-le r (take used store) (drop used store) (omega arith) in
    sym (ap (take (used - r)) d ∙ take_at (drop r (take used store)) (drop used store) (used - r) (length-drop r (take used store) ∙ ap (λ (n : ℕ). n - r) l))

-- a take that passes h .passed places and hands out h .length bytes, by the bytes of store and output
pub record Moved (s : State) (store output : List ℕ) (h : Hunted) (o : Handout) : Type 0 where
  pub taken_is : o.taken ≡ record { answer = Fine; length = h.length; state = record { used = s.used - (h.passed + h.length); dropped = (s.dropped + h.passed) % count_wrap; ended = s.ended } }
  pub store_is : o.store ≡ take (s.used - (h.passed + h.length)) (drop (h.passed + h.length) store) ++ drop (s.used - (h.passed + h.length)) store
  pub output_is : o.output ≡ take h.length (drop h.passed store) ++ drop h.length output

moving : (s : State) (store output : List ℕ) (h : Hunted) → Fit s store → h.passed + h.length ≤ s.used → Moved s store output h (moved_by store output (took_by h (framer_of s store)))
unfolding moved_by took_by framer_of state_of stored_over
moving s store output h f i =
    let u : s.used ≤ length store = omega (arith, f.size, f.within) in
    let e : take h.length (drop h.passed (take s.used store)) ≡ take h.length (drop h.passed store) = part_of-held store s.used h.passed h.length u i in
    let d : drop (h.passed + h.length) (take s.used store) ≡ take (s.used - (h.passed + h.length)) (drop (h.passed + h.length) store) = rest_of-held store s.used (h.passed + h.length) u i in
    let n : length (take h.length (drop h.passed store)) ≡ h.length = length-take-le h.length (drop h.passed store) (omega (arith, length-drop h.passed store)) in
    let m : length (take (s.used - (h.passed + h.length)) (drop (h.passed + h.length) store)) ≡ s.used - (h.passed + h.length) = length-take-le _ (drop (h.passed + h.length) store) (omega (arith, length-drop (h.passed + h.length) store)) in
    rw (e, d, n, m) (record { taken_is = refl; store_is = refl; output_is = refl })

module _ (s : State) (store output : List ℕ) where
  pub take-unfit : unfit s (length store) ≡ true → took_from s store output ≡ unmoved s store output BadStore
  unfolding took_from
  take-unfit e = rw e

  pub take_short : unfit s (length store) ≡ false → length output < frame_most → took_from s store output ≡ unmoved s store output OutputShort
  unfolding took_from
  take_short e h = rw (e, lt-ltb (length output) frame_most h)

  pub take_is : unfit s (length store) ≡ false → frame_most ≤ length output → took_from s store output ≡ moved_by store output (take_one verdict_of (framer_of s store))
  unfolding took_from
  take_is e h = rw (e, le-ltb (length output) frame_most h)

  -- where the hunt over the bytes held stands
  pub hunt_inside : (h : Hunted) → Fit s store → h ≡ hunt_from verdict_of s.ended (take s.used store) → h.passed + h.length ≤ s.used
  hunt_inside h f e = let p = (places verdict_of verdict_laws s.ended (take s.used store)).inside in omega (arith, held-length s store f, ap (λ (x : Hunted). x.passed) e, ap (λ (x : Hunted). x.length) e)

  pub hunt_small : (h : Hunted) → Fit s store → h ≡ hunt_from verdict_of s.ended (take s.used store) → h.length ≤ frame_most
  unfolding framer_of
  hunt_small h f e = let g = framer_of s store in omega (arith, took_small verdict_of verdict_laws g, (step verdict_of verdict_laws g).handed, ap (λ (x : Hunted). x.length) e)

  pub take_fine : (h : Hunted) → unfit s (length store) ≡ false → frame_most ≤ length output → h ≡ hunt_from verdict_of s.ended (take s.used store) → Moved s store output h (took_from s store output)
  unfolding take_one framer_of
  take_fine h u l e =
      let f = fits s store u in
      let t : took_from s store output ≡ moved_by store output (took_by h (framer_of s store)) = take_is u l ∙ ap (λ (x : Hunted). moved_by store output (took_by x (framer_of s store))) (sym e) in
      subst (λ (o : Handout). Moved s store output h o) (sym t) (moving s store output h f (hunt_inside h f e))

-- what a take hands out has at most 8,192 bytes, whatever state, store and output are
pub take_small : (s : State) (store output : List ℕ) → (took_from s store output).taken.length ≤ frame_most
unfolding took_from unmoved refused_take_lem moved_by
take_small s store output = by_tests (unfit s (length store)) (ltb (length output) frame_most)
  where
    by_tests : (u l : Bool) → (pick u (unmoved s store output BadStore) (pick l (unmoved s store output OutputShort) (moved_by store output (take_one verdict_of (framer_of s store))))).taken.length ≤ frame_most
    by_tests true l = omega arith
    by_tests false true = omega arith
    by_tests false false = took_small verdict_of verdict_laws (framer_of s store)

-- ---- the contracts leave no freedom: two results of one call are the same

pub one_push : (s : State) (store chunk : List ℕ) (r q : Reply) (a b : List ℕ) → Pushes s store chunk r a → Pushes s store chunk q b → (r ≡ q) × (a ≡ b)
one_push s store chunk r q a b x y = (x.reply_is ∙ sym y.reply_is, x.store_is ∙ sym y.store_is)

pub one_end : (s : State) (store : List ℕ) (r q : Reply) → Finishes s store r → Finishes s store q → r ≡ q
one_end s store r q x y = x.reply_is ∙ sym y.reply_is

pub one-take : (s : State) (store output : List ℕ) (r q : Taken) (a b o u : List ℕ) → Takes s store output r a o → Takes s store output q b u → (r ≡ q) × (a ≡ b) × (o ≡ u)
one-take s store output r q a b o u x y = (x.taken_is ∙ sym y.taken_is, x.store_is ∙ sym y.store_is, x.output_is ∙ sym y.output_is)
