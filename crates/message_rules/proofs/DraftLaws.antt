-- What the calls on a draft leave is a draft again, and means the run that the rules say; and a run that is hung leaves a message, or a
-- draft, again. One law to each call, for all that it may answer.
use Rattle.std.specs.Prelude.{◌≡◌, ◌⊎◌, Bool, List, ℕ, length, eqb, leb}
use Rattle.std.proofs.Math.Path.{refl}
use Rattle.std.proofs.Common.{sym, inl, inr}
use Rattle.std.proofs.Math.Bool.{true, false}
use native.Mathlib.Omega.{arith}
use borrow.Author.Tests.{eqb-true, eqb-false, eq-eqb}
use Rattle.field_rules.specs.Choice.{pick}
use Rattle.message_maps.specs.Map.{Map, end, field, entry, joined, past_leading, stored, field_count, values_in}
use Rattle.message_lent_rules.specs.Lent.{is_message}
use Rattle.message_lent_rules.specs.LentLaws.{both}
use Rattle.message_lent_rules.specs.Meaning.{message_in}
use Rattle.message_lent_rules.specs.Formed.{stands, goes_on, is_formed, entries_formed, is_run}
use Rattle.message_lent_rules.specs.StandLaws.{never, nor, formed_entry}
use Rattle.message_lent_rules.specs.StoredLaws.{formed_stored}
use Rattle.message_lent_rules.specs.HungLaws.{formed_hung}
use Rattle.message_lent_rules.proofs.FormedLaws.{lent_formed, Lends, IsLayout, is_layout_lends}
use Rattle.message_rules.specs.Changes.{after, part_of, with_part, map_words, map_values, judged_map, of_message}
use Rattle.message_rules.specs.Runs.{is_draft, run_in, judged_run, of_draft, starting, entering, is_empty, in_last, storing_last, has_untagged, is_whole, hung_run, hanging_last, hanging}
use Rattle.message_rules.proofs.Drafts.{lent-run, LendsDraft, IsRunLayout, run_layout_lends}
use Rattle.message_rules.specs.Answered.{Answered, made-with, none_lent, said_of-made, answered_by, not_storable, no_run, answered-judged, NotLent, answered-store}
use Rattle.message_rules.proofs.FormedLaws.{part_formed, with_part_formed, judged-answered}
use Rattle.message_rules.specs.declared.Part.{Part}
use Rattle.message_rules.specs.declared.Change.TheVariants.{Made}

-- one run behind another, and a changed map in the last entry
joined-entries : (a b : Map) → entries_formed a ≡ true → entries_formed b ≡ true → entries_formed (joined a b) ≡ true
unfolding joined entries_formed
joined-entries end b h k = k
joined-entries (field t v rest) b h k = never (sym h)
joined-entries (entry s d own rest) b h k = let q = both (is_formed own) _ h in rw q.0 (joined-entries rest b q.1 k)

last-entries : (change : Map → Map) → ((m : Map) → is_formed m ≡ true → is_formed (change m) ≡ true) → (run : Map) → entries_formed run ≡ true → entries_formed (in_last change run) ≡ true
unfolding in_last
last-entries change keeps end h = h
last-entries change keeps (field t v rest) h = never (sym (unfold entries_formed in h))
last-entries change keeps (entry s d own rest) h =
    let q = both (is_formed own) (entries_formed rest) (unfold entries_formed in h) in
    by_test (is_empty rest) q.0 q.1 (last-entries change keeps rest q.1)
  where
    by_test : (b : Bool) → is_formed own ≡ true → entries_formed rest ≡ true → entries_formed (in_last change rest) ≡ true
        → entries_formed (pick b (entry s d (change own) rest) (entry s d own (in_last change rest))) ≡ true
    by_test true f k again = unfold entries_formed in rw (keeps own f) k
    by_test false f k again = unfold entries_formed in rw f again

-- a whole run of formed entries, with tags, is formed
run_past : (s d : ℕ) (run : Map) → is_run s d run ≡ true → past_leading s run ≡ end
unfolding is_run past_leading
run_past s d end h = refl
run_past s d (field t v rest) h = never (sym h)
run_past s d (entry t e own rest) h = let a = both (eqb t s) _ h in rw a.0 (run_past s d rest (both (eqb e d) _ a.1).1)

run-goes : (s d : ℕ) (run : Map) → is_run s d run ≡ true → goes_on s d run ≡ true
unfolding is_run goes_on
run-goes s d end h = refl
run-goes s d (field t v rest) h = refl
run-goes s d (entry t e own rest) h =
    let a = both (eqb t s) _ h in
    rw a.0 (eq-eqb d e (sym (eqb-true e d (both (eqb e d) _ a.1).0)))

run_formed : (s d : ℕ) (run : Map) → is_run s d run ≡ true → eqb s 0 ≡ false → eqb d 0 ≡ false → entries_formed run ≡ true → is_formed run ≡ true
unfolding is_run
run_formed s d end h some delimited f = unfold is_formed in refl
run_formed s d (field t v rest) h some delimited f = never (sym h)
run_formed s d (entry t e own rest) h some delimited f =
    let a = both (eqb t s) _ h in
    let b = both (eqb e d) _ a.1 in
    let k = both (is_formed own) (entries_formed rest) (unfold entries_formed in f) in
    let start : t ≡ s = eqb-true t s a.0 in
    let delimiter : e ≡ d = eqb-true e d b.0 in
    rw (start, delimiter)
    (formed_entry s d own rest
    (record {
      some = some;
      delimited = delimited;
      once = rw (run_past s d rest b.1) (unfold stands in refl);
      on = run-goes s d rest b.1;
      own_formed = k.0;
      rest_formed = run_formed s d rest b.1 some delimited k.1;
    }))

-- hung in a formed map it leaves that map formed
hung_formed : (run m : Map) → entries_formed run ≡ true → has_untagged run ≡ false → is_whole run ≡ true → is_formed m ≡ true → is_formed (hung_run run m) ≡ true
unfolding has_untagged is_whole hung_run
hung_formed end m f tags whole formed = formed
hung_formed (field t v rest) m f tags whole formed = formed
hung_formed (entry s d own rest) m f tags whole formed =
    let a = nor (eqb s 0) _ tags in
    let b = nor (eqb d 0) _ a.1 in
    let is_run_lem : is_run s d (entry s d own rest) ≡ true = unfold is_run in rw (eq-eqb s s refl, eq-eqb d d refl) whole in
    formed_hung s d (entry s d own rest) m is_run_lem (run_formed s d (entry s d own rest) is_run_lem a.0 b.0 f) formed

-- a run that is judged is left where its entries are formed, if what was hung in it is whole
run-answered : {none : Type 0} {said : List ℕ → List ℕ → Type 0} {words values : List ℕ} (whole : Bool) (run : Map) → (whole ≡ true → entries_formed run ≡ true)
    → (IsRunLayout run (map_words run) (map_values run) → said (map_words run) (map_values run)) → Answered none said words values (judged_run words values whole run)
unfolding judged_run judged_map
run-answered whole run formed made =
    answered-judged (length (values_in run)) whole (field_count run) (map_words run) (map_values run) (λ small is_whole few.
    made (record { within = record { entries = formed is_whole; small = small; few = few }; words_are = refl; values_are = refl }))

module _ (words values : List ℕ) where
  -- a draft is started
  pub start-answered : Answered (NotLent words values) (IsRunLayout end) words values (starting words values)
  unfolding starting
  start-answered =
      answered-store
      (made-with (map_words end) (map_values end)
      (record {
        within = record { entries = unfold entries_formed in refl; small = unfold values_in in omega arith; few = unfold field_count in omega arith };
        words_are = refl;
        values_are = refl;
      }))

  -- an entry is added
  pub enter_answered : (start delimiter : ℕ)
      → Answered (is_draft words values ≡ false) (λ w v. (is_draft words values ≡ true) × IsRunLayout (joined (run_in words values) (entry start delimiter end end)) w v) words values (entering start delimiter words values)
  unfolding entering of_draft
  enter_answered start delimiter =
      answered_by (is_draft words values)
      (λ h.
      run-answered true (joined (run_in words values) (entry start delimiter end end))
      (λ u. joined-entries (run_in words values) (entry start delimiter end end) (lent-run words values h).entries (unfold entries_formed is_formed in refl)) (λ l. (h, l)))
      none_lent

  -- a field is stored in the last entry
  pub store-last-answered : (tag : ℕ) (value : List ℕ)
      → Answered (is_draft words values ≡ false) (λ w v. (is_draft words values ≡ true) × IsRunLayout (in_last (stored tag value) (run_in words values)) w v) words values (storing_last tag value words values)
  unfolding storing_last of_draft
  store-last-answered tag value =
      answered_by (is_draft words values)
      (λ h. answered_by (eqb tag 0) (λ e. not_storable) (λ e. answered_by (leb (length value) 8192) (λ s. answered_by (is_empty (run_in words values)) (λ n. no_run) (λ n.
      run-answered true (in_last (stored tag value) (run_in words values))
      (λ u. last-entries (stored tag value) (λ m. formed_stored tag value m (eqb-false tag 0 e)) (run_in words values) (lent-run words values h).entries) (λ l. (h, l)))) (λ s. not_storable)))
      none_lent

  -- what they leave where they answer 0
  pub start_lends : (w v : List ℕ) → starting words values ≡ after Made w v → LendsDraft w v end
  start_lends w v e = run_layout_lends end w v (said_of-made start-answered w v e)

  pub enter_lends : (start delimiter : ℕ) (w v : List ℕ) → entering start delimiter words values ≡ after Made w v
      → (is_draft words values ≡ true) × LendsDraft w v (joined (run_in words values) (entry start delimiter end end))
  enter_lends start delimiter w v e = let l = said_of-made (enter_answered start delimiter) w v e in (l.0, run_layout_lends _ w v l.1)

  pub store-last_lends : (tag : ℕ) (value w v : List ℕ) → storing_last tag value words values ≡ after Made w v
      → (is_draft words values ≡ true) × LendsDraft w v (in_last (stored tag value) (run_in words values))
  store-last_lends tag value w v e = let l = said_of-made (store-last-answered tag value) w v e in (l.0, run_layout_lends _ w v l.1)

  module _ (run_words run_values : List ℕ) where
    -- a run is hung in the last entry
    pub hang-last-answered : Answered ((is_draft words values ≡ false) ⊎ (is_draft run_words run_values ≡ false))
        (λ w v. (is_draft words values ≡ true) × (is_draft run_words run_values ≡ true) × IsRunLayout (in_last (hung_run (run_in run_words run_values)) (run_in words values)) w v)
        words values (hanging_last run_words run_values words values)
    unfolding hanging_last of_draft
    hang-last-answered =
        let outer = run_in words values in
        let run = run_in run_words run_values in
        answered_by (is_draft words values)
        (λ h. answered_by (is_draft run_words run_values)
        (λ k. answered_by (has_untagged run) (λ u. not_storable) (λ u. answered_by (is_empty outer) (λ n. no_run) (λ n.
        run-answered (is_whole run) (in_last (hung_run run) outer)
        (λ whole. last-entries (hung_run run) (λ m. hung_formed run m (lent-run run_words run_values k).entries u whole) outer (lent-run words values h).entries) (λ l. (h, k, l)))))
        (λ k. none_lent (inr k)))
        (λ h. none_lent (inl h))

    -- a run is hung on a part of a message
    pub hang-answered : (part : Part) → Answered ((is_message words values ≡ false) ⊎ (is_draft run_words run_values ≡ false))
        (λ w v. (is_message words values ≡ true) × (is_draft run_words run_values ≡ true) × IsLayout (with_part part (hung_run (run_in run_words run_values) (part_of part (message_in words values))) (message_in words values)) w v)
        words values (hanging part run_words run_values words values)
    unfolding hanging of_message of_draft
    hang-answered part =
        let m = message_in words values in
        let run = run_in run_words run_values in
        answered_by (is_message words values)
        (λ h. answered_by (is_draft run_words run_values)
        (λ k. answered_by (has_untagged run) (λ u. not_storable) (λ u.
        let f = (lent_formed words values h).formed in
        judged-answered (is_whole run) (with_part part (hung_run run (part_of part m)) m)
        (λ whole. with_part_formed part (hung_run run (part_of part m)) m f (hung_formed run (part_of part m) (lent-run run_words run_values k).entries u whole (part_formed part m f))) (λ l. (h, k, l))))
        (λ k. none_lent (inr k)))
        (λ h. none_lent (inl h))

    -- what they leave where they answer 0
    pub hang-last_lends : (w v : List ℕ) → hanging_last run_words run_values words values ≡ after Made w v
        → (is_draft words values ≡ true) × (is_draft run_words run_values ≡ true) × LendsDraft w v (in_last (hung_run (run_in run_words run_values)) (run_in words values))
    hang-last_lends w v e = let l = said_of-made hang-last-answered w v e in (l.0, l.1, run_layout_lends _ w v l.2)

    pub hang_lends : (part : Part) (w v : List ℕ) → hanging part run_words run_values words values ≡ after Made w v
        → (is_message words values ≡ true) × (is_draft run_words run_values ≡ true) × Lends w v (with_part part (hung_run (run_in run_words run_values) (part_of part (message_in words values))) (message_in words values))
    hang_lends part w v e = let l = said_of-made (hang-answered part) w v e in (l.0, l.1, is_layout_lends _ w v l.2)
