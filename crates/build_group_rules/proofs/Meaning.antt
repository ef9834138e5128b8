-- What the readers' contracts mean in the rules' terms: levels of a table are the layouts that it holds, and words are the list of records laid
-- out. So a run that was read from a table into words is the run of the layout, its records as a list.
use Rattle.std.specs.Prelude.{◌≡◌, refl, Bool, true, false, ℕ, suc, ◌+◌, ◌-◌, ◌≤◌, ◌<◌, length, take, drop, ltb}
use Rattle.std.proofs.Math.Path.{sym, ap}
use Rattle.std.proofs.Common.{◌∙◌, arith, drop_of_length-le, take-append-drop, length-drop, length-set, length-take-le, ltb-true, ltb-false, Option, Some, None}
use mathlib.Core.List.{List, [], ◌∷◌, ◌++◌, append_assoc}
use Rattle.std.proofs.Math.ListN.{length-append}
use Rattle.std.proofs.Math.Seq.{take-append_seam}
use Rattle.std.proofs.lemmas.List.{drop-append-le}
use Rattle.field_rules.specs.Fields.{Fields, fields_from}
use Rattle.field_rules.specs.declared.Cursor.{Cursor}
use Rattle.build_config.specs.declared.Config.{Config}
use Rattle.dictionary_layout_rules.specs.Layout.{Layout, Group as LayoutGroup}
use Rattle.dictionary_tables_rules.proofs.Tabled.{Tabled, Opens, neither, both, position_means, delimiter_means, group_means}
use Rattle.build_records.specs.Records.{records_of, leftover, inserted, between, held_from, stored_between, stored}
use Rattle.build_records.proofs.WordLaws.{records_on, leftover-on, on_same}
use Rattle.build_records.proofs.RecordLaws.{HeldAs, inserted-parts, between-new, stored-new, stored-held, stored-parts-held}
use Rattle.build_records.specs.declared.Record.{Record}
use Rattle.build_group_rules.specs.Groups.{OpenGroup, run, Store, RunOutcome, ended, refused, walk}
use Rattle.build_group_rules.proofs.Alike.{OpenedAlike, none_alike, opened_alike, RulesAlike, on_level, empty_alike, run_alike, StoresAlike, OutcomeAlike, ended_alike, refused_alike, walk_alike}
use Rattle.build_group_rules.specs.Reading.{accepted, opened_by, table_rules, opened_as, layout_rules, joined_list, list_store, Memory, memory, added_words, makes, standing_in, joined_words, word_store, open_group, run_of}
use Rattle.build_group_rules.proofs.ReadingLaws.{opened-none, opened_some}
use Rattle.build_group_rules.specs.declared.Group.{Group}
use Rattle.build_group_rules.specs.declared.Progress.{Progress}

pub opens_alike : (table : List ℕ) {level : ℕ} {group : LayoutGroup} → Opens table level group → OpenedAlike (Tabled table) (opened_by level) (opened_as group)
unfolding opened_as
opens_alike table neither = rw (opened-none 0 refl) none_alike
opens_alike table (both {level} some t) = rw (opened_some level some) (opened_alike t)

-- a table answers as the layouts that it holds
pub rules_alike : (config : Config) (table : List ℕ) (known has : ℕ → Bool) → ((tag : ℕ) → known tag ≡ has tag) → RulesAlike (Tabled table) (table_rules config table known) (layout_rules (accepted config has))
unfolding table_rules layout_rules accepted
rules_alike config table known has same = record { delimiters = delimiter_means table; positions = position_means table; groups = λ level layout t tag. opens_alike table (group_means table level layout t tag); accepting = λ tag. rw (same tag) refl }

same_store : {S W : Type 0} (store : Store S W) → StoresAlike (λ room s t. s ≡ t) (λ w x. w ≡ x) store store
same_store store = record { places = λ room s t e. ap store.place e; adding = λ room s t r e. ap (store.add r) e; joining = λ room s t start r e. ap (store.join start r) e; leaving = λ room s t e. ap store.left e }

outcome-same : {S W : Type 0} {o p : RunOutcome S W} → OutcomeAlike (λ room s t. s ≡ t) (λ w x. w ≡ x) o p → o ≡ p
outcome-same (ended_alike {f} {rest} {room} e) = ap (ended f rest room) e
outcome-same (refused_alike {refusal} e) = ap (refused refusal) e

-- whatever keeps the records, a level of a table is read as the layout that the table holds there
pub table-reads : {S W : Type 0} (store : Store S W) (config : Config) (table : List ℕ) (known has : ℕ → Bool) → ((tag : ℕ) → known tag ≡ has tag)
    → (group : OpenGroup ℕ) (layout : Layout) → Tabled table group.level layout → (room number : ℕ) (s : S) (fields : Fields) →
    walk (table_rules config table known) store room (run group number ∷ []) s fields ≡ walk (layout_rules (accepted config has)) store room (run (on_level layout group) number ∷ []) s fields
table-reads store config table known has same group layout t room number s fields =
    outcome-same (walk_alike (Tabled table) (λ room s t. s ≡ t) (λ w x. w ≡ x) _ _ (rules_alike config table known has same) store store (same_store store) room _ _ s s fields (run_alike t empty_alike) refl)

-- words hold a list of records, then others, then slack; words that make no record stay as they are
pub record Lays (after : List Record) (tail : List ℕ) (words : List ℕ) (done : List Record) : Type 0 where
  pub slack : List Record
  pub whole : records_of words ≡ done ++ (after ++ slack)
  pub same : leftover words ≡ tail

-- the next record goes behind the list, before the others, and there is slack for all the fields that may still be read
pub record Holds (after : List Record) (tail : List ℕ) (room : ℕ) (m : Memory) (done : List Record) : Type 0 where
  pub lays : Lays after tail m.words done
  pub place : m.place ≡ length done
  pub count : m.records ≡ length done + length after
  pub enough : room ≤ length lays.slack

module _ (after : List Record) (tail : List ℕ) (room : ℕ) (m : Memory) (done : List Record) where
  add_holds : (r : Record) (slack : List Record) → records_of m.words ≡ done ++ (after ++ slack) → leftover m.words ≡ tail → m.place ≡ length done → m.records ≡ length done + length after → suc room ≤ length slack → Holds after tail room (added_words r m) (done ++ (r ∷ []))
  unfolding added_words
  add_holds r [] whole same place count enough = absurd (omega arith)
  add_holds r (x ∷ slack) whole same place count enough =
      let size = length-append done (r ∷ []) in
      record {
        lays = record {
          slack = slack;
          whole = records_on (inserted m.records m.place r) m.words
              ∙ ap (inserted m.records m.place r) whole ∙ inserted-parts done after x r slack m.records m.place place count
              ∙ sym (append_assoc done (r ∷ []) (after ++ slack));
          same = leftover-on (inserted m.records m.place r) m.words
              ∙ same;
        };
        place = omega arith;
        count = omega arith;
        enough = omega arith;
      }

  holds-add : (r : Record) → Holds after tail (suc room) m done → Holds after tail room (added_words r m) (done ++ (r ∷ []))
  holds-add r h = add_holds r h.lays.slack h.lays.whole h.lays.same h.place h.count h.enough

-- the records of an entry that starts at a place
entry_records : (done rest : List Record) (start to : ℕ) → to ≡ length done → between start to (done ++ rest) ≡ drop start done
unfolding between
entry_records done rest start to e = go (ltb (length done) start) refl
  where
    go : (b : Bool) → ltb (length done) start ≡ b → take (to - start) (drop start (done ++ rest)) ≡ drop start done
    go true q =
        let past : length done < start = ltb-true _ _ q in
        let none : to - start ≡ 0 = omega arith in
        rw (none, drop_of_length-le done {i = start} (omega arith))
    go false q =
        let within : start ≤ length done = ltb-false _ _ q in
        let size : to - start ≡ length (drop start done) = omega (arith, length-drop start done) in
        rw (drop-append-le start done rest within, size) (take-append_seam (drop start done) rest)

new-words : (start : ℕ) (r : Record) (m : Memory) → standing_in start m.place r m.words ≡ None → joined_words start r m ≡ added_words r m
unfolding joined_words added_words makes standing_in
new-words start r m e =
    rw (on_same (stored_between m.records start m.place r) (inserted m.records m.place r) m.words (between-new m.records start m.place r (records_of m.words) e), e)

new_list : (start : ℕ) (r : Record) (done : List Record) → held_from start r.depth r.tag (drop start done) ≡ None → joined_list start r done ≡ done ++ (r ∷ [])
unfolding joined_list
new_list start r done e =
    rw (stored-new r (drop start done) start e) (sym (append_assoc (take start done) (drop start done) (r ∷ [])) ∙ ap (λ (l : List Record). l ++ (r ∷ [])) (take-append-drop start done))

stored-length : (r : Record) (rs : List Record) (at i : ℕ) → held_from at r.depth r.tag rs ≡ Some i → length (stored r rs) ≡ length rs
stored-length r rs at i h = ap length (stored-held r rs at i h).storing ∙ length-set rs (i - at) r

held-memory : (after : List Record) (tail : List ℕ) (room : ℕ) (m : Memory) (done : List Record) (start : ℕ) (r : Record) (slack : List Record) (i : ℕ) → standing_in start m.place r m.words ≡ Some i →
    stored_between m.records start m.place r (records_of m.words) ≡ (take start done ++ stored r (drop start done)) ++ (after ++ slack) → leftover m.words ≡ tail → m.place ≡ length done → m.records ≡ length done + length after →
    length (take start done ++ stored r (drop start done)) ≡ length done → room ≤ length slack → Holds after tail room (joined_words start r m) (joined_list start r done)
unfolding joined_words joined_list makes
held-memory after tail room m done start r slack i q whole same place count size enough =
    let none : makes (standing_in start m.place r m.words) ≡ 0 = rw q in
    record { lays = record { slack = slack; whole = records_on (stored_between m.records start m.place r) m.words ∙ whole; same = leftover-on (stored_between m.records start m.place r) m.words ∙ same }; place = omega arith; count = omega arith; enough = enough }

-- a record joins the entry: its own field is replaced, or it comes last
join_holds : (after : List Record) (tail : List ℕ) (room : ℕ) (m : Memory) (done : List Record) (start : ℕ) (r : Record) → Holds after tail (suc room) m done →
    (standing : Option ℕ) → held_from start r.depth r.tag (drop start done) ≡ standing → standing_in start m.place r m.words ≡ standing → Holds after tail room (joined_words start r m) (joined_list start r done)
join_holds after tail room m done start r h None e q = rw (new-words start r m q, new_list start r done e) (holds-add after tail room m done r h)
join_holds after tail room m done start r h (Some i) e q = held-holds
  where
    held : HeldAs r (drop start done) start i
    held = stored-held r (drop start done) start i e

    early : start ≤ length done
    early = omega (arith, held.from, held.within, length-drop start done)

    front : length (take start done) ≡ start
    front = length-take-le start done early

    back : length (drop start done) ≡ length done - start
    back = length-drop start done

    parts : records_of m.words ≡ take start done ++ (drop start done ++ (after ++ h.lays.slack))
    parts = h.lays.whole ∙ ap (λ (l : List Record). l ++ (after ++ h.lays.slack)) (sym (take-append-drop start done)) ∙ append_assoc (take start done) (drop start done) _

    size : length (take start done ++ stored r (drop start done)) ≡ length done
    size = omega (arith, length-append (take start done) (stored r (drop start done)), stored-length r (drop start done) start i e, front, back, early)

    change : stored_between m.records start m.place r (take start done ++ (drop start done ++ (after ++ h.lays.slack))) ≡ take start done ++ (stored r (drop start done) ++ (after ++ h.lays.slack))
    change = stored-parts-held (take start done) (drop start done) after r m.records start m.place (sym front) (omega (arith, h.place, front, back, early)) (omega (arith, h.place, h.count)) (after ++ h.lays.slack) i e

    held-holds : Holds after tail room (joined_words start r m) (joined_list start r done)
    held-holds = held-memory after tail room m done start r h.lays.slack i q (ap (stored_between m.records start m.place r) parts ∙ change ∙ sym (append_assoc (take start done) (stored r (drop start done)) _)) h.lays.same h.place h.count size (omega (arith, h.enough))

holds_join : (after : List Record) (tail : List ℕ) (room : ℕ) (m : Memory) (done : List Record) (start : ℕ) (r : Record) → Holds after tail (suc room) m done → Holds after tail room (joined_words start r m) (joined_list start r done)
unfolding standing_in
holds_join after tail room m done start r h =
    join_holds after tail room m done start r h (held_from start r.depth r.tag (drop start done)) refl (stands h)
  where
    stands : Holds after tail (suc room) m done → standing_in start m.place r m.words ≡ held_from start r.depth r.tag (drop start done)
    stands h =
        ap (λ (l : List Record). held_from start r.depth r.tag (between start m.place l)) h.lays.whole
        ∙ ap (λ (l : List Record). held_from start r.depth r.tag l) (entry_records done (after ++ h.lays.slack) start m.place h.place)

-- words keep what a list keeps
pub stores_alike : (after : List Record) (tail : List ℕ) → StoresAlike (Holds after tail) (Lays after tail) word_store list_store
unfolding word_store list_store
stores_alike after tail = record { places = λ room m done h. h.place; adding = λ room m done r h. holds-add after tail room m done r h; joining = λ room m done start r h. holds_join after tail room m done start r h; leaving = λ room m done h. h.lays }

-- a run that was read from a table into words is the run of the layout that the table holds, its records as a list
pub run_means : (message : List ℕ) (config : Config) (table : List ℕ) (known has : ℕ → Bool) → ((tag : ℕ) → known tag ≡ has tag) →
    (group : Group) (layout : Layout) → Tabled table group.level layout →
    (cursor : Cursor) (progress : Progress) (words : List ℕ) (done after : List Record) (tail : List ℕ) →
    Holds after tail progress.room (memory progress words) done →
    OutcomeAlike (Holds after tail) (Lays after tail) (run_of message config table known group cursor progress words) (walk (layout_rules (accepted config has)) list_store progress.room (run (on_level layout (open_group group)) 0 ∷ []) done (fields_from config.mode message cursor))
unfolding run_of
run_means message config table known has same group layout t cursor progress words done after tail h =
    walk_alike (Tabled table) (Holds after tail) (Lays after tail) _ _ (rules_alike config table known has same) word_store list_store (stores_alike after tail) progress.room _ _ (memory progress words) done _ (run_alike t empty_alike) h
