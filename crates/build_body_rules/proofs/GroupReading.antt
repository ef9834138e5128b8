-- A count's run as the code reads it into the words is the run of the definition, and stands right behind its count.
use Rattle.std.specs.Prelude.{◌≡◌, Bool, ℕ, zero, suc, ◌+◌, ◌-◌, ◌/◌, ◌≤◌, ◌<◌, ◌^◌}
use Rattle.std.proofs.Math.Path.{refl, sym, ap}
use Rattle.std.proofs.Common.{◌∙◌, arith, take-append-drop, take-take, Result, Ok, Err}
use mathlib.Core.List.{List, [], ◌∷◌, ◌++◌, append_assoc}
use Rattle.std.proofs.Math.ListN.{length, take, drop, length-append, length-drop}
use Rattle.std.proofs.Math.Seq.{length-take-le, take-append_seam}
use Rattle.field_rules.specs.Fields.{Fields, fields_from, Inside}
use Rattle.field_rules.specs.declared.Cursor.{Cursor}
use Rattle.field_rules.specs.declared.Field.{Field}
use Rattle.build_config.specs.declared.Config.{Config}
use Rattle.build_records.specs.Records.{records_of, between, stride}
use Rattle.build_records.proofs.WordLaws.{records_length}
use Rattle.build_records.proofs.RecordLaws.{between-parts}
use Rattle.build_records.specs.declared.Record.{Record}
use Rattle.build_group_rules.specs.Groups.{run, outermost, RunOutcome, ended, refused, walk}
use Rattle.build_group_rules.specs.Reading.{Memory, memory, list_store, table_rules, told_by, run_of, Fits, answer_of}
use Rattle.build_group_rules.proofs.ReadingLaws.{room_of, told_follows}
use Rattle.build_group_rules.specs.declared.Progress.{Progress}
use Rattle.build_group_rules.specs.declared.Refusal.{Refusal}
use Rattle.build_required_rules.specs.Checking.{table_demands, lack_of_run}
use Rattle.build_required_rules.specs.declared.Lack.{Lack}
use Rattle.build_required_rules.specs.declared.Lack.TheVariants.{Missing, Complete}
use Rattle.build_body_rules.specs.declared.Opening.{Opening}
use Rattle.build_answers.specs.declared.Answer.TheVariants.{RequiredFieldMissing}
use Rattle.build_parts.specs.Parts.{part_of, part_told, Stays, Reading as Read, ended as ends, refused as refuses}
use Rattle.build_body_rules.specs.Kinds.{checked, ran_as, run_from}
use Rattle.build_parts.specs.PartLaws.{parted, part_length, stays-refused, stays_at}
use Rattle.build_body_rules.specs.Body.{stored_run, with_run, Opened}
use Rattle.build_body_rules.proofs.RunLaws.{between_split}
use Rattle.build_body_rules.specs.RunWords.{shifted, WordsStand, Agrees, both_end, both_refuse, walk_agrees}

module _ (before after : List Record) where
  -- what both readings come to, where one of them ended
  record Ended (f : Field) (rest : Fields) (room : ℕ) (m : Memory) (o : RunOutcome (List Record) (List Record)) : Type 0 where
    entries : List Record
    is : o ≡ ended f rest room entries
    stands : WordsStand before after (suc room) m entries

  agrees_ended : {f : Field} {rest : Fields} {room : ℕ} {m : Memory} (o : RunOutcome (List Record) (List Record)) → Agrees before after (ended f rest room m) o → Ended f rest room m o
  agrees_ended (ended f rest room entries) (both_end s) = record { entries = entries; is = refl; stands = s }
  agrees_ended (refused why entries) never = elim never [ ]

  record Stopped (refusal : Refusal) (words : List ℕ) (o : RunOutcome (List Record) (List Record)) : Type 0 where
    entries : List Record
    is : o ≡ refused refusal entries
    front : take (length before) (records_of words) ≡ before

  agrees_refused : {refusal : Refusal} {words : List ℕ} (o : RunOutcome (List Record) (List Record)) → Agrees before after (refused refusal words) o → Stopped refusal words o
  agrees_refused (refused refusal entries) (both_refuse front) = record { entries = entries; is = refl; front = front }
  agrees_refused (ended f rest room entries) never = elim never [ ]

pub front_is : (n : ℕ) (rs : List Record) → between 0 n rs ≡ take n rs
unfolding between
front_is n rs = let e : n - 0 ≡ n = omega arith in ap (λ (k : ℕ). take k rs) e

-- the records before a place determine those of a part before it
pub front-parts : (rs other : List Record) (from place : ℕ) → from ≤ place → take place rs ≡ take place other → between 0 from rs ≡ between 0 from other
front-parts rs other from place h e =
    front_is from rs ∙ sym (take-take from place rs h) ∙ ap (take from) e ∙ take-take from place other h ∙ sym (front_is from other)

module _ (message : List ℕ) (config : Config) (table : List ℕ) (known : ℕ → Bool) (inner tag : ℕ) (cursor : Cursor) (room : ℕ) (entry mid exit : List ℕ) (from count : ℕ) (r : Record) (opening : Opening) (opened : Opened entry mid from count r opening)
    (kept : length mid ≡ length entry) (last : length exit ≡ length mid) (fits : opening.records + room ≤ length mid / stride) where
  abbrev pub start : Progress
  start = record { room = room; records = opening.records; place = opening.place }

  abbrev pub alone : RunOutcome (List Record) (List Record)
  alone = walk (table_rules config table known) list_store room (run (outermost tag inner) 0 ∷ []) [] (fields_from config.mode message cursor)

  abbrev before : List Record
  before = take opening.place (records_of mid)

  abbrev after : List Record
  after = between opening.place opening.records (records_of mid)

  stands : WordsStand before after room (memory start mid) []
  unfolding memory
  stands =
      let n = records_length mid in
      let la = length-take-le opening.place (records_of mid) (omega (arith, opened.within)) in
      let lb = part_length (records_of mid) opening.place opening.records opened.within (omega arith) in
      record {
        slack = drop opening.records (records_of mid);
        whole = parted (records_of mid) opening.place opening.records opened.within;
        here = omega arith;
        counted = omega (arith, opened.within);
        fits = omega (arith, length-drop opening.records (records_of mid));
      }

  agrees : (reading : Result (Field × Progress) Refusal) → told_by config.mode message reading exit ≡ run_of message config table known (record { level = inner; tag = tag; depth = 1 }) cursor start mid → Agrees before after (told_by config.mode message reading exit) alone
  unfolding run_of shifted
  agrees reading told =
      rw told (walk_agrees before after (table_rules config table known) room (run (outermost tag inner) 0 ∷ []) (memory start mid) [] (fields_from config.mode message cursor) stands)

  front_kept : take (length before) (records_of exit) ≡ before → part_of 0 from exit ≡ part_of 0 from entry
  unfolding part_of
  front_kept e =
      let la = length-take-le opening.place (records_of mid) (omega (arith, opened.within, records_length mid)) in
      front-parts (records_of exit) (records_of mid) from opening.place opened.starts (ap (λ (k : ℕ). take k (records_of exit)) (sym la) ∙ e) ∙ opened.before

  -- a run that was refused
  pub record GroupStopped (refusal : Refusal) : Type 0 where
    pub entries : List Record
    pub alone_is : alone ≡ refused refusal entries
    pub before-stays : part_of 0 from exit ≡ part_of 0 from entry

  pub group-stopped : (refusal : Refusal) → told_by config.mode message (Err refusal) exit ≡ run_of message config table known (record { level = inner; tag = tag; depth = 1 }) cursor start mid → GroupStopped refusal
  unfolding told_by
  group-stopped refusal told =
      let a = agrees_refused before after alone (agrees (Err refusal) told) in
      record { entries = a.entries; alone_is = a.is; before-stays = front_kept a.front }

  -- a run that ended: its entries stand from the place on, and count and entries are in the part
  pub record GroupEnded (f : Field) (p : Progress) : Type 0 where
    pub alone_is : alone ≡ ended f (fields_from config.mode message f.next) p.room (part_of opening.place p.place exit)
    pub stores : part_of from p.records exit ≡ stored_run r (part_of opening.place p.place exit) (part_of from count entry)
    pub before-stays : part_of 0 from exit ≡ part_of 0 from entry
    pub fits_in : p.records + p.room < length entry / stride
    pub starts_at : from ≤ p.records
    pub ends_in : p.place ≤ length exit / stride
    pub inside : Inside message f
    pub falls : p.room < room

  pub group-ended : Fits message start → (f : Field) (p : Progress) → told_by config.mode message (Ok (f, p)) exit ≡ run_of message config table known (record { level = inner; tag = tag; depth = 1 }) cursor start mid → GroupEnded f p
  unfolding told_by memory part_of room_of run_of
  group-ended short f p told =
      let follows = told_follows (table_rules config table known) config.mode message (run (outermost tag inner) 0 ∷ []) cursor start mid short (Ok (f, p)) exit told in
      let at = follows.fits f p refl in
      let a = agrees_ended before after alone (agrees (Ok (f, p)) told) in
      let s = a.stands in
      let n₀ = records_length mid in
      let n₁ = records_length exit in
      let la = length-take-le opening.place (records_of mid) (omega (arith, opened.within)) in
      let lb = part_length (records_of mid) opening.place opening.records opened.within (omega arith) in
      let lc = part_length (records_of mid) 0 from (omega arith) (omega (arith, opened.within, opened.starts)) in
      let ld = part_length (records_of mid) from opening.place opened.starts (omega (arith, opened.within)) in
      let total : length (records_of exit) ≡ length before + (length a.entries + (length after + length s.slack)) = ap length s.whole ∙ simp length-append in
      let h = s.here in
      let c = s.counted in
      let own : between opening.place p.place (records_of exit) ≡ a.entries =
      ap (between opening.place p.place) s.whole ∙ between-parts before a.entries (after ++ s.slack) opening.place p.place (sym la) h in
      let split : before ≡ between 0 from (records_of mid) ++ between from opening.place (records_of mid) =
      sym (front_is opening.place (records_of mid)) ∙ between_split (records_of mid) 0 from opening.place (omega arith) opened.starts in
      let whole : records_of exit ≡ between 0 from (records_of mid) ++ ((between from opening.place (records_of mid) ++ (a.entries ++ after)) ++ s.slack) =
      s.whole ∙ ap (λ (l : List Record). l ++ (a.entries ++ (after ++ s.slack))) split ∙ simp append_assoc in
      let size : length (between from opening.place (records_of mid) ++ (a.entries ++ after)) ≡ length (between from opening.place (records_of mid)) + (length a.entries + length after) = simp length-append in
      let part : between from p.records (records_of exit) ≡ between from opening.place (records_of mid) ++ (a.entries ++ after) =
      ap (between from p.records) whole ∙ between-parts (between 0 from (records_of mid)) (between from opening.place (records_of mid) ++ (a.entries ++ after)) s.slack from p.records (omega arith) (omega (arith, opened.starts)) in
      record {
        alone_is = a.is ∙ ap (ended f (fields_from config.mode message f.next) p.room) (sym own);
        stores = part ∙ sym (opened.stores a.entries) ∙ ap (λ (l : List Record). stored_run r l (between from count (records_of entry))) (sym own);
        before-stays = front_kept (ap (take (length before)) s.whole ∙ take-append_seam before (a.entries ++ (after ++ s.slack)));
        fits_in = omega (arith, s.fits);
        starts_at = omega (arith, opened.starts);
        ends_in = omega (arith, s.fits);
        inside = at.inside;
        falls = omega (arith, follows.falls);
      }

  abbrev pub runs : Read
  runs = run_from (table_rules config table known) (table_demands table) inner tag (fields_from config.mode message cursor) room

  -- each way that a count's run goes
  pub run-stops : (refusal : Refusal) → GroupStopped refusal → runs ≡ refuses (answer_of refusal)
  unfolding run_from ran_as
  run-stops refusal g = rw g.alone_is

  module _ (f : Field) (p : Progress) (g : GroupEnded f p) where
    pub run_lacks_lem : (wanted group : ℕ) → lack_of_run table (record { level = inner; tag = tag; depth = 1 }) (part_of opening.place p.place exit) ≡ Missing wanted group → runs ≡ refuses (RequiredFieldMissing wanted group)
    unfolding run_from ran_as checked lack_of_run
    run_lacks_lem wanted group e = rw (g.alone_is, e)

    pub run_completes : lack_of_run table (record { level = inner; tag = tag; depth = 1 }) (part_of opening.place p.place exit) ≡ Complete → with_run r (part_of from count entry) runs ≡ ends f (fields_from config.mode message f.next) p.room (part_of from p.records exit)
    unfolding run_from ran_as checked lack_of_run with_run
    run_completes e = rw (g.alone_is, e) (ap (ends f (fields_from config.mode message f.next) p.room) (sym g.stores))

  -- what the code answers in each of these ways
  pub answers-stopped : (count_is : Record) → r ≡ count_is → (reading : Result (Field × Progress) Refusal) (refusal : Refusal) → reading ≡ Err refusal → told_by config.mode message reading exit ≡ run_of message config table known (record { level = inner; tag = tag; depth = 1 }) cursor start mid →
      (part_told config.mode message from (Err (answer_of refusal)) exit ≡ with_run count_is (part_of from count entry) runs) × Stays message entry exit from room (Err (answer_of refusal))
  unfolding part_told with_run
  answers-stopped count_is e reading refusal q told =
      let g = group-stopped refusal (ap (λ (k : Result (Field × Progress) Refusal). told_by config.mode message k exit) (sym q) ∙ told) in
      (sym (ap (with_run count_is (part_of from count entry)) (run-stops refusal g)), stays-refused message entry exit from room g.before-stays (answer_of refusal))

  module _ (short : Fits message start) (reading : Result (Field × Progress) Refusal) (f : Field) (p : Progress) (q : reading ≡ Ok (f, p)) (told : told_by config.mode message reading exit ≡ run_of message config table known (record { level = inner; tag = tag; depth = 1 }) cursor start mid) where
    group-read : GroupEnded f p
    group-read = group-ended short f p (ap (λ (k : Result (Field × Progress) Refusal). told_by config.mode message k exit) (sym q) ∙ told)

    pub run_fits : p.place ≤ length exit / stride
    run_fits = group-read.ends_in

    pub answers_lack : (count_is : Record) → r ≡ count_is → (lack : Lack) → lack ≡ lack_of_run table (record { level = inner; tag = tag; depth = 1 }) (between opening.place p.place (records_of exit)) → (wanted group : ℕ) → lack ≡ Missing wanted group →
        (part_told config.mode message from (Err (RequiredFieldMissing wanted group)) exit ≡ with_run count_is (part_of from count entry) runs) × Stays message entry exit from room (Err (RequiredFieldMissing wanted group))
    unfolding part_told with_run part_of
    answers_lack count_is e lack c wanted group m =
        (sym (ap (with_run count_is (part_of from count entry)) (run_lacks_lem f p group-read wanted group (sym c ∙ m))), stays-refused message entry exit from room group-read.before-stays (RequiredFieldMissing wanted group))

    pub answers-complete : (count_is : Record) → r ≡ count_is → (lack : Lack) → lack ≡ lack_of_run table (record { level = inner; tag = tag; depth = 1 }) (between opening.place p.place (records_of exit)) → lack ≡ Complete →
        (part_told config.mode message from (Ok (f, (record { room = p.room; records = p.records }))) exit ≡ with_run count_is (part_of from count entry) runs) × Stays message entry exit from room (Ok (f, (record { room = p.room; records = p.records })))
    unfolding part_told part_of
    answers-complete count_is e lack c m = (
      sym (ap (λ (k : Record). with_run k (part_of from count entry) runs) (sym e) ∙ run_completes f p group-read (sym c ∙ m)),
      stays_at message entry exit from room group-read.before-stays f (record { room = p.room; records = p.records }) (record { fits = group-read.fits_in; inside = group-read.inside; starts = group-read.starts_at; falls = group-read.falls }),
    )
