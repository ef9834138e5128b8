-- A user tag that stands once among the members of an entry comes last in it: no record of the entry so far has its tag, and those of nested
-- entries stand deeper.
use Rattle.std.specs.Prelude.{◌≡◌, refl, ◌⊎◌, Bool, true, false, List, [], ◌∷◌, ◌++◌, ℕ, suc, ◌+◌, ◌≤◌, ◌<◌, length, take, drop, eqb}
use Rattle.std.proofs.Common.{sym, ap, ◌∙◌, inl, inr, append_assoc, append-nil, arith, length-append, take-append-drop, eqb-true}
use Rattle.std.proofs.lemmas.List.{drop-append-le}
use Rattle.std.proofs.Math.Seq.{drop-append_seam}
use Rattle.field_rules.specs.Choice.{pick}
use Rattle.field_rules.specs.Fields.{Fields, unreadable, field}
use Rattle.standard_rules.specs.Standard.{Tables, All, Told, Distinct, Stretch, Stands}
use Rattle.field_rules.specs.declared.Field.{Field}
use Rattle.build_records.specs.Records.{stored}
use Rattle.build_records.specs.declared.Record.{Record}
use Rattle.build_group_rules.specs.Groups.{entry_record}
use Rattle.build_group_rules.specs.Reading.{joined_list}
use Rattle.promise_standard.specs.Groups.{numbered, records_as}

-- no record of a depth has the tag
pub data Free (depth tag : ℕ) : List Record → Type 0 where
  free-none : Free depth tag []
  free_more : {r : Record} {rs : List Record} → (r.depth ≡ depth → r.tag ≡ tag → ⊥) → Free depth tag rs → Free depth tag (r ∷ rs)

free-append : {depth tag : ℕ} {rs ss : List Record} → Free depth tag rs → Free depth tag ss → Free depth tag (rs ++ ss)
free-append free-none b = b
free-append (free_more h a) b = free_more h (free-append a b)

pub stored-free : (r : Record) (rs : List Record) → Free r.depth r.tag rs → stored r rs ≡ rs ++ (r ∷ [])
unfolding stored
stored-free r _ free-none = refl
stored-free r _ (free_more {r = x} {rs = rs} h a) = by_tests (eqb x.depth r.depth) refl (eqb x.tag r.tag) refl (stored-free r rs a)
  where
    by_tests : (b : Bool) → eqb x.depth r.depth ≡ b → (c : Bool) → eqb x.tag r.tag ≡ c → stored r rs ≡ rs ++ (r ∷ []) → pick b (pick c (r ∷ rs) (x ∷ stored r rs)) (x ∷ stored r rs) ≡ x ∷ (rs ++ (r ∷ []))
    by_tests true p true q e = absurd (h (eqb-true _ _ p) (eqb-true _ _ q))
    by_tests true p false q e = ap (λ (l : List Record). x ∷ l) e
    by_tests false p c q e = ap (λ (l : List Record). x ∷ l) e

pub joined_free : (start : ℕ) (r : Record) (done : List Record) → Free r.depth r.tag (drop start done) → joined_list start r done ≡ done ++ (r ∷ [])
unfolding joined_list
joined_free start r done f = rw (stored-free r (drop start done) f) (sym (append_assoc (take start done) (drop start done) (r ∷ [])) ∙ ap (λ (l : List Record). l ++ (r ∷ [])) (take-append-drop start done))

-- a record that is stored comes last, or takes the place of another
pub stored_either : (r : Record) (rs : List Record) → (stored r rs ≡ rs ++ (r ∷ [])) ⊎ (length (stored r rs) ≡ length rs)
unfolding stored
stored_either r [] = inl refl
stored_either r (x ∷ rs) = by_tests (eqb x.depth r.depth) (eqb x.tag r.tag) (stored_either r rs)
  where
    later : (stored r rs ≡ rs ++ (r ∷ [])) ⊎ (length (stored r rs) ≡ length rs) → (x ∷ stored r rs ≡ x ∷ (rs ++ (r ∷ []))) ⊎ (length (x ∷ stored r rs) ≡ length (x ∷ rs))
    later (inl e) = inl (ap (λ (l : List Record). x ∷ l) e)
    later (inr e) = inr (ap suc e)

    by_tests : (b c : Bool) → (stored r rs ≡ rs ++ (r ∷ [])) ⊎ (length (stored r rs) ≡ length rs) → (pick b (pick c (r ∷ rs) (x ∷ stored r rs)) (x ∷ stored r rs) ≡ x ∷ (rs ++ (r ∷ []))) ⊎ (length (pick b (pick c (r ∷ rs) (x ∷ stored r rs)) (x ∷ stored r rs)) ≡ length (x ∷ rs))
    by_tests true true e = inr refl
    by_tests true false e = later e
    by_tests false c e = later e

pub joined_either : (start : ℕ) (r : Record) (done : List Record) → (joined_list start r done ≡ done ++ (r ∷ [])) ⊎ (length (joined_list start r done) ≡ length done)
unfolding joined_list
joined_either start r done = by_stored (stored_either r (drop start done))
  where
    by_stored : (stored r (drop start done) ≡ drop start done ++ (r ∷ [])) ⊎ (length (stored r (drop start done)) ≡ length (drop start done)) → (take start done ++ stored r (drop start done) ≡ done ++ (r ∷ [])) ⊎ (length (take start done ++ stored r (drop start done)) ≡ length done)
    by_stored (inl e) = inl (rw e (sym (append_assoc (take start done) (drop start done) (r ∷ [])) ∙ ap (λ (l : List Record). l ++ (r ∷ [])) (take-append-drop start done)))
    by_stored (inr e) = inr (omega (arith, length-append (take start done) (stored r (drop start done)), length-append (take start done) (drop start done), ap length (take-append-drop start done)))

-- each stands deeper
pub data Deep (depth : ℕ) : List (ℕ × ℕ) → Type 0 where
  deep_none : Deep depth []
  deep_more : {n : ℕ × ℕ} {ns : List (ℕ × ℕ)} → depth < n.0 → Deep depth ns → Deep depth (n ∷ ns)

deep-append : {depth : ℕ} {ns ms : List (ℕ × ℕ)} → Deep depth ns → Deep depth ms → Deep depth (ns ++ ms)
deep-append deep_none b = b
deep-append (deep_more h a) b = deep_more h (deep-append a b)

pub numbered-deep : {T : Tables} {Here : ℕ → Type 0} {stretch : Stretch} {fs : List Told} (above depth number : ℕ) (s : Stands T Here stretch fs) → above < depth → Deep above (numbered depth number s)
unfolding numbered
numbered-deep above depth number Stands.no_member h = deep_none
numbered-deep above depth number (Stands.field _ _ s) h = deep_more {n = (depth, _)} h (numbered-deep above depth number s h)
numbered-deep above depth number (Stands.group _ _ i g s) h = deep_more {n = (depth, _)} h (deep-append (numbered-deep above (depth + 1) 0 g (omega arith)) (numbered-deep above depth number s h))
numbered-deep above depth number Stands.no_entry h = deep_none
numbered-deep above depth number (Stands.entry m _ d g) h = deep-append (numbered-deep above depth (number + 1) m h) (numbered-deep above depth (number + 1) g h)

deep-free : {depth tag : ℕ} {ns : List (ℕ × ℕ)} (fields : Fields) → Deep depth ns → Free depth tag (records_as ns fields)
unfolding records_as entry_record
deep-free fields deep_none = free-none
deep-free (unreadable cause place) (deep_more h a) = free-none
deep-free (field f rest) (deep_more {n = n} h a) = free_more {r = entry_record n.0 n.1 f} (λ e t. omega arith) (deep-free rest a)

-- the members that are still to come are none of the entry so far, whose records start at a place
pub record Fresh (start depth : ℕ) (ts : List ℕ) (done : List Record) : Type 0 where
  pub within : start ≤ length done
  pub distinct : Distinct ts
  pub free : All (λ t. Free depth t (drop start done)) ts

all_map : {P Q : ℕ → Type 0} {ts : List ℕ} → ((t : ℕ) → P t → Q t) → All P ts → All Q ts
all_map h All.none = All.none
all_map h (All.also p a) = All.also (h _ p) (all_map h a)

all_both : {P Q R : ℕ → Type 0} {ts : List ℕ} → ((t : ℕ) → P t → Q t → R t) → All P ts → All Q ts → All R ts
all_both h All.none All.none = All.none
all_both h (All.also p a) (All.also q b) = All.also (h _ p q) (all_both h a b)

all_nothing : (depth : ℕ) (ts : List ℕ) (rs : List Record) → rs ≡ [] → All (λ t. Free depth t rs) ts
all_nothing depth [] rs e = All.none
all_nothing depth (t ∷ ts) rs e = All.also {x = t} (rw e free-none) (all_nothing depth ts rs e)

-- behind all that was read an entry is new
pub fresh-entry : (depth : ℕ) (ts : List ℕ) (done : List Record) → Distinct ts → Fresh (length done) depth ts done
fresh-entry depth ts done d = record { within = omega arith; distinct = d; free = all_nothing depth ts _ (rw (append-nil done) at (drop-append_seam done [])) }

-- records more, of which none has a tag that is still to come
fresh-more : (start depth : ℕ) (ts : List ℕ) (done more : List Record) → start ≤ length done → Distinct ts → All (λ t. Free depth t (drop start done)) ts → All (λ t. Free depth t more) ts → Fresh start depth ts (done ++ more)
fresh-more start depth ts done more within d old new =
    let part : drop start (done ++ more) ≡ drop start done ++ more = drop-append-le start done more within in
    record {
      within = omega (arith, length-append done more);
      distinct = d;
      free = all_both (λ t p q. rw part (free-append p q)) old new;
    }

-- a member more, which is the first of them
pub fresh_record : (start depth t : ℕ) (ts : List ℕ) (done : List Record) (r : Record) → r.tag ≡ t → Fresh start depth (t ∷ ts) done → Fresh start depth ts (done ++ (r ∷ []))
fresh_record start depth t ts done r same fresh = by_distinct fresh.distinct fresh.free
  where
    by_distinct : Distinct (t ∷ ts) → All (λ t. Free depth t (drop start done)) (t ∷ ts) → Fresh start depth ts (done ++ (r ∷ []))
    by_distinct (Distinct.fresh others d) (All.also p a) =
        fresh-more start depth ts done (r ∷ []) fresh.within d a (all_map (λ u n. free_more {r = r} (λ e q. n (sym q ∙ same)) free-none) others)

pub fresh-field : (start depth number t : ℕ) (ts : List ℕ) (done : List Record) (f : Field) → f.tag ≡ t → Fresh start depth (t ∷ ts) done → Fresh start depth ts (done ++ (entry_record depth number f ∷ []))
unfolding entry_record
fresh-field start depth number t ts done f same fresh = fresh_record start depth t ts done (entry_record depth number f) same fresh

-- a nested group more
pub fresh-nested : {T : Tables} {Here : ℕ → Type 0} {stretch : Stretch} {gs : List Told} (start depth : ℕ) (ts : List ℕ) (done : List Record) (g : Stands T Here stretch gs) (fields : Fields) → Fresh start depth ts done → Fresh start depth ts (done ++ records_as (numbered (depth + 1) 0 g) fields)
fresh-nested start depth ts done g fields fresh =
    fresh-more start depth ts done _ fresh.within fresh.distinct fresh.free (all_map (λ t p. deep-free fields (numbered-deep depth (depth + 1) 0 g (omega arith))) fresh.free)

-- a user tag comes last
pub fresh-joined : (start depth number t : ℕ) (ts : List ℕ) (done : List Record) (f : Field) → f.tag ≡ t → Fresh start depth (t ∷ ts) done → joined_list start (entry_record depth number f) done ≡ done ++ (entry_record depth number f ∷ [])
unfolding entry_record
fresh-joined start depth number t ts done f same fresh = by_free fresh.free
  where
    by_free : All (λ t. Free depth t (drop start done)) (t ∷ ts) → joined_list start (entry_record depth number f) done ≡ done ++ (entry_record depth number f ∷ [])
    by_free (All.also p a) = joined_free start (entry_record depth number f) done (rw (← same) at p)
