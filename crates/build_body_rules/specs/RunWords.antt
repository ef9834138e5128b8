-- A run that is read into the words at a place is the run that is read on its own: its entries stand between the records before the place
-- and those from it on, and nothing happens to either. Where an entry starts is counted from the place.
use Rattle.std.specs.Prelude.{◌≡◌, Bool, eqb, leb, Option, Some, None, ℕ}
use Rattle.std.proofs.Math.Path.{refl, sym, ap}
use Rattle.std.proofs.Common.{◌∙◌, arith, length-set, length-drop, take-append-drop, length-take-le, leb-true, leb-false}
use Rattle.std.proofs.Math.Bool.{true, false}
use mathlib.Core.List.{List, [], ◌∷◌, ◌++◌, append_assoc, append-nil}
use Prim.Native.Nat.{ℕ, zero, suc, ◌+◌, ◌-◌, ◌/◌, ◌≤◌, ◌<◌}
use Rattle.std.proofs.Math.ListN.{length, take, drop, length-append, drop_of_length-le}
use Rattle.std.proofs.Math.Seq.{take-append_seam, take_all}
use Rattle.field_rules.specs.Choice.{pick}
use Rattle.field_rules.specs.Fields.{Fields, unreadable, field}
use Rattle.field_rules.specs.declared.Field.{Field}
use Rattle.build_records.specs.Records.{records_of, on_records, between, held_from, inserted, stored_between, stored}
use Rattle.build_records.proofs.WordLaws.{records_on, on_same}
use Rattle.build_records.proofs.RecordLaws.{inserted-parts, between-parts, between-end, between-new, stored-held, stored-new, stored-parts-held, stored-parts-new}
use Rattle.build_records.specs.declared.Record.{Record}
use Rattle.build_group_rules.specs.Groups.{Rules, opens, Kind, plain, count, joins, wrong, ends, entry_kind, OpenGroup, OpenEntry, Frame, run, entry, Move, adds, joins_at, disorders, leaves, numbers_in, in_entry_lem, decide, entry_record, RunOutcome, ended, refused, moved, walk}
use Rattle.build_group_rules.specs.Reading.{Memory, list_store, joined_list, word_store, added_words, joined_words, makes, standing_in}
use Rattle.build_group_rules.specs.declared.Refusal.{Refusal}

-- the entry whose records start so much further on
abbrev pub shifted_entry : ℕ → OpenEntry → OpenEntry
shifted_entry n own = record { number = own.number; last = own.last; start = n + own.start }

module _ {L : Type 0} (n : ℕ) where
  -- the same stack where entries start so much further on
  unfoldable pub shifted : List (Frame L) → List (Frame L)
  shifted [] = []
  shifted (run group entries ∷ below) = run group entries ∷ shifted below
  shifted (entry group own ∷ below) = entry group (shifted_entry n own) ∷ shifted below

  unfoldable pub shifted_move : Move L → Move L
  shifted_move (adds stack numbers) = adds (shifted stack) numbers
  shifted_move (joins_at stack start numbers) = joins_at (shifted stack) (n + start) numbers
  shifted_move (disorders group) = disorders group
  shifted_move leaves = leaves

  entry_shift : (group : OpenGroup L) (own : OpenEntry) (below : List (Frame L)) (tag : ℕ) (otherwise : Move L) (k : Kind L) →
      in_entry_lem group (shifted_entry n own) (shifted below) tag (shifted_move otherwise) k ≡ shifted_move (in_entry_lem group own below tag otherwise k)
  unfolding in_entry_lem shifted shifted_move
  entry_shift group own below tag otherwise (plain position) = refl
  entry_shift group own below tag otherwise (count inner position) = refl
  entry_shift group own below tag otherwise joins = refl
  entry_shift group own below tag otherwise wrong = refl
  entry_shift group own below tag otherwise ends = refl

  -- a tag does the same
  decide_shift : (rules : Rules L) (here : ℕ) (stack : List (Frame L)) (tag : ℕ) → decide rules (n + here) (shifted stack) tag ≡ shifted_move (decide rules here stack tag)
  unfolding decide shifted shifted_move
  decide_shift rules here [] tag = refl
  decide_shift rules here (run group entries ∷ below) tag = go (opens rules group.level tag) (eqb entries 0) (decide_shift rules here below tag)
    where
      go : (b c : Bool) → decide rules (n + here) (shifted below) tag ≡ shifted_move (decide rules here below tag) →
          pick b (adds (entry group (record { number = entries + 1; last = 0; start = n + here }) ∷ run group (entries + 1) ∷ shifted below) (numbers_in group (entries + 1))) (pick c (disorders group.tag) (decide rules (n + here) (shifted below) tag))
          ≡ shifted_move (pick b (adds (entry group (record { number = entries + 1; last = 0; start = here }) ∷ run group (entries + 1) ∷ below) (numbers_in group (entries + 1))) (pick c (disorders group.tag) (decide rules here below tag)))
      go true c later = refl
      go false true later = refl
      go false false later = later
  decide_shift rules here (entry group own ∷ below) tag =
      ap (λ (m : Move L). in_entry_lem group (shifted_entry n own) (shifted below) tag m (entry_kind rules group.level group.depth own.last tag)) (decide_shift rules here below tag)
      ∙ entry_shift group own below tag (decide rules here below tag) (entry_kind rules group.level group.depth own.last tag)

module _ (before after : List Record) where
  -- the entries stand between the records before the place and those from it on, and there are words for as many records as there is room
  pub record WordsStand (room : ℕ) (m : Memory) (entries : List Record) : Type 0 where
    pub slack : List Record
    pub whole : records_of m.words ≡ before ++ (entries ++ (after ++ slack))
    pub here : m.place ≡ length before + length entries
    pub counted : m.records ≡ m.place + length after
    pub fits : room ≤ length slack

  added : (words : List ℕ) (place records room : ℕ) (entries : List Record) (r : Record) (slack : List Record) → records_of words ≡ before ++ (entries ++ (after ++ slack)) → place ≡ length before + length entries → records ≡ place + length after → suc room ≤ length slack →
      WordsStand room (record { words = on_records (inserted records place r) words; records = records + 1; place = place + 1 }) (entries ++ (r ∷ []))
  added words place records room entries r [] whole here counted fits = absurd (omega arith)
  added words place records room entries r (x ∷ slack) whole here counted fits =
      let size = length-append before entries in
      let more = length-append entries (r ∷ []) in
      record {
        slack = slack;
        whole = records_on (inserted records place r) words
            ∙ ap (inserted records place r) (whole ∙ sym (append_assoc before entries (after ++ (x ∷ slack))))
            ∙ inserted-parts (before ++ entries) after x r slack records place (omega arith) (omega arith)
            ∙ simp append_assoc;
        here = omega arith;
        counted = omega arith;
        fits = omega arith;
      }

  stands-add : (room : ℕ) (m : Memory) (entries : List Record) (r : Record) → WordsStand (suc room) m entries → WordsStand room (added_words r m) (entries ++ (r ∷ []))
  unfolding added_words
  stands-add room m entries r s = added m.words m.place m.records room entries r s.slack s.whole s.here s.counted s.fits

  -- what joins an entry is stored in the entry's own map
  joins-held : (words : List ℕ) (place records room start i : ℕ) (kept map : List Record) (r : Record) (slack : List Record) → records_of words ≡ before
      ++ ((kept ++ map) ++ (after ++ slack)) → start ≡ length kept → place ≡ length before + length (kept ++ map) → records ≡ place + length after →
      suc room ≤ length slack →
      held_from (length before + start) r.depth r.tag map ≡ Some i → WordsStand room (record { words = on_records (stored_between records (length before + start) place r) words; records = records + 0; place = place + 0 }) (kept ++ stored r map)
  joins-held words place records room start i kept map r slack whole starts here counted fits e =
      let front = length-append before kept in
      let size = length-append kept map in
      let same : length (stored r map) ≡ length map = ap length (stored-held r map (length before + start) i e).storing ∙ length-set map (i - (length before + start)) r in
      let size₁ = length-append kept (stored r map) in
      record {
        slack = slack;
        whole = records_on (stored_between records (length before + start) place r) words
            ∙ ap (stored_between records (length before + start) place r) (whole ∙ simp append_assoc)
            ∙ ap (stored_between records (length before + start) place r) (sym (append_assoc before kept (map ++ (after ++ slack))))
            ∙ stored-parts-held (before ++ kept) map after r records (length before + start) place (omega arith) (omega arith) (omega arith) (after ++ slack) i e
            ∙ simp append_assoc;
        here = omega arith;
        counted = omega arith;
        fits = omega arith;
      }

  joins-new : (words : List ℕ) (place records room start : ℕ) (kept map : List Record) (r : Record) (slack : List Record) → records_of words ≡ before
      ++ ((kept ++ map) ++ (after ++ slack)) → start ≡ length kept → place ≡ length before + length (kept ++ map) → records ≡ place + length after →
      suc room ≤ length slack →
      held_from (length before + start) r.depth r.tag map ≡ None → WordsStand room (record { words = on_records (stored_between records (length before + start) place r) words; records = records + 1; place = place + 1 }) (kept ++ stored r map)
  joins-new words place records room start kept map r [] whole starts here counted fits e = absurd (omega arith)
  joins-new words place records room start kept map r (x ∷ slack) whole starts here counted fits e =
      let front = length-append before kept in
      let size = length-append kept map in
      let more : length (stored r map) ≡ length map + 1 = ap length (stored-new r map (length before + start) e) ∙ length-append map (r ∷ []) in
      let size₁ = length-append kept (stored r map) in
      record {
        slack = slack;
        whole = records_on (stored_between records (length before + start) place r) words
            ∙ ap (stored_between records (length before + start) place r) (whole ∙ simp append_assoc)
            ∙ ap (stored_between records (length before + start) place r) (sym (append_assoc before kept (map ++ (after ++ (x ∷ slack)))))
            ∙ stored-parts-new (before ++ kept) map after r records (length before + start) place (omega arith) (omega arith) (omega arith) x slack e
            ∙ simp append_assoc;
        here = omega arith;
        counted = omega arith;
        fits = omega arith;
      }

  module _ (room start : ℕ) (m : Memory) (entries : List Record) (r : Record) (s : WordsStand (suc room) m entries) where
    -- an entry that starts among those that are read
    join_inside : start ≤ length entries → (standing : Option ℕ) → standing_in (length before + start) m.place r m.words ≡ standing → WordsStand room (joined_words (length before + start) r m) (joined_list start r entries)
    unfolding joined_words joined_list makes standing_in
    join_inside h standing e =
        let split : entries ≡ take start entries ++ drop start entries = sym (take-append-drop start entries) in
        let starts : start ≡ length (take start entries) = sym (length-take-le start entries h) in
        let front = length-append before (take start entries) in
        let size : length entries ≡ length (take start entries) + length (drop start entries) = ap length split ∙ length-append (take start entries) (drop start entries) in
        let whole : records_of m.words ≡ before ++ ((take start entries ++ drop start entries) ++ (after ++ s.slack)) = s.whole ∙ ap (λ (l : List Record). before ++ (l ++ (after ++ s.slack))) split in
        let here : m.place ≡ length before + length (take start entries ++ drop start entries) = s.here ∙ ap (λ (l : List Record). length before + length l) split in
        let map : between (length before + start) m.place (records_of m.words) ≡ drop start entries =
        ap (between (length before + start) m.place) (whole ∙ simp append_assoc) ∙ ap (between (length before + start) m.place) (sym (append_assoc before (take start entries) (drop start entries ++ (after ++ s.slack))))
        ∙ between-parts (before ++ take start entries) (drop start entries) (after ++ s.slack) (length before + start) m.place (omega arith) (omega (arith, s.here)) in
        go standing e (sym (ap (held_from (length before + start) r.depth r.tag) map) ∙ e) whole starts here
      where
        go : (standing : Option ℕ) → standing_in (length before + start) m.place r m.words ≡ standing →
            held_from (length before + start) r.depth r.tag (drop start entries) ≡ standing → records_of m.words ≡ before ++ ((take start entries
            ++ drop start entries) ++ (after ++ s.slack)) → start ≡ length (take start entries) → m.place ≡ length before + length (take start entries
            ++ drop start entries) →
            WordsStand room (joined_words (length before + start) r m) (joined_list start r entries)
        go (Some i) e held whole starts here = rw e (joins-held m.words m.place m.records room start i (take start entries) (drop start entries) r s.slack whole starts here s.counted s.fits held)
        go None e held whole starts here = rw e (joins-new m.words m.place m.records room start (take start entries) (drop start entries) r s.slack whole starts here s.counted s.fits held)

    -- one that starts behind them is empty
    join_behind : length entries < start → WordsStand room (joined_words (length before + start) r m) (joined_list start r entries)
    unfolding joined_words joined_list makes standing_in stored held_from
    join_behind h =
        let none : between (length before + start) m.place (records_of m.words) ≡ [] = between-end (length before + start) m.place (records_of m.words) (omega (arith, s.here)) in
        let kept : take start entries ≡ entries = take_all start entries (omega arith) in
        let map : drop start entries ≡ [] = drop_of_length-le entries {i = start} (omega arith) in
        let nowhere : held_from (length before + start) r.depth r.tag (between (length before + start) m.place (records_of m.words)) ≡ None = rw none in
        let same : on_records (stored_between m.records (length before + start) m.place r) m.words ≡ on_records (inserted m.records m.place r) m.words =
        on_same (stored_between m.records (length before + start) m.place r) (inserted m.records m.place r) m.words (between-new m.records (length before + start) m.place r (records_of m.words) nowhere) in
        rw (nowhere, same, kept, map) (added m.words m.place m.records room entries r s.slack s.whole s.here s.counted s.fits)

    stands_join : WordsStand room (joined_words (length before + start) r m) (joined_list start r entries)
    stands_join = go (leb start (length entries)) refl
      where
        go : (b : Bool) → leb start (length entries) ≡ b → WordsStand room (joined_words (length before + start) r m) (joined_list start r entries)
        go true e = join_inside (leb-true _ _ e) (standing_in (length before + start) m.place r m.words) refl
        go false e = join_behind (leb-false _ _ e)

  front-stands : (room : ℕ) (m : Memory) (entries : List Record) → WordsStand room m entries → take (length before) (records_of m.words) ≡ before
  front-stands room m entries s = ap (take (length before)) s.whole ∙ take-append_seam before (entries ++ (after ++ s.slack))

  -- what a run comes to in the words, and on its own
  pub data Agrees : RunOutcome Memory (List ℕ) → RunOutcome (List Record) (List Record) → Type 0 where
    both_end : {f : Field} {rest : Fields} {room : ℕ} {m : Memory} {entries : List Record} → WordsStand (suc room) m entries → Agrees (ended f rest room m) (ended f rest room entries)
    both_refuse : {refusal : Refusal} {words : List ℕ} {entries : List Record} → take (length before) (records_of words) ≡ before → Agrees (refused refusal words) (refused refusal entries)

  module _ {L : Type 0} (rules : Rules L) where
    move_agrees : (room : ℕ) (m : Memory) (entries : List Record) (f : Field) (rest : Fields) → WordsStand (suc room) m entries →
        ((stack : List (Frame L)) (m₁ : Memory) (entries₁ : List Record) → WordsStand room m₁ entries₁ → Agrees (walk rules word_store room (shifted (length before) stack) m₁ rest) (walk rules list_store room stack entries₁ rest)) →
        (move : Move L) → Agrees (moved word_store room m f rest (λ stack m₁. walk rules word_store room stack m₁ rest) (shifted_move (length before) move)) (moved list_store room entries f rest (λ stack entries₁. walk rules list_store room stack entries₁ rest) move)
    unfolding moved shifted_move word_store list_store
    move_agrees room m entries f rest s later (adds stack numbers) =
        later stack _ _ (stands-add room m entries (entry_record numbers.depth numbers.number f) s)
    move_agrees room m entries f rest s later (joins_at stack start numbers) =
        later stack _ _ (stands_join room start m entries (entry_record numbers.depth numbers.number f) s)
    move_agrees room m entries f rest s later (disorders group) = both_refuse (front-stands (suc room) m entries s)
    move_agrees room m entries f rest s later leaves = both_end s

    -- reading into the words is reading on its own
    pub walk_agrees : (room : ℕ) (stack : List (Frame L)) (m : Memory) (entries : List Record) (fields : Fields) → WordsStand room m entries → Agrees (walk rules word_store room (shifted (length before) stack) m fields) (walk rules list_store room stack entries fields)
    unfolding walk word_store list_store
    walk_agrees room stack m entries (unreadable cause place) s = both_refuse (front-stands room m entries s)
    walk_agrees zero stack m entries (field f rest) s = both_refuse (front-stands 0 m entries s)
    walk_agrees (suc room) stack m entries (field f rest) s =
        let at : decide rules m.place (shifted (length before) stack) f.tag ≡ shifted_move (length before) (decide rules (length entries) stack f.tag) =
        ap (λ (k : ℕ). decide rules k (shifted (length before) stack) f.tag) s.here ∙ decide_shift (length before) rules (length entries) stack f.tag in
        rw at (move_agrees room m entries f rest s (λ stack₁ m₁ entries₁ s₁. walk_agrees room stack₁ m₁ entries₁ rest s₁) (decide rules (length entries) stack f.tag))
