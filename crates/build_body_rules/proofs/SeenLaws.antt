-- What is stored in the body stays covered by the cells: a field's record, a count with its run, and what stands behind a run that goes.
-- A tag whose cell isn't set is held nowhere.
use Rattle.std.proofs.Math.Path.{◌≡◌, refl, ap}
use Rattle.std.proofs.Common.{sym, ◌∙◌, arith, get_or-set_other, eqb-true, ltb-false, Some, None, Result, Ok}
use Rattle.std.specs.Prelude.{Bool, ℕ, zero, suc, ◌+◌, ◌-◌, ◌/◌, ◌%◌, ◌<◌, length, get_or, set, replicate, eqb, ltb}
use Rattle.std.proofs.Math.Bool.{true, false}
use mathlib.Core.List.{List, [], ◌∷◌, ◌++◌}
use Rattle.std.proofs.Math.ListN.{length-set, get_or-replicate}
use Rattle.std.proofs.lemmas.List.{length-replicate}
use Rattle.std.proofs.Math.Seq.{get_or-set_same, set-get_or}
use Rattle.std.proofs.lemmas.Bool.{eqb-false}
use Rattle.field_rules.specs.Choice.{pick}
use Rattle.field_rules.specs.Fields.{Fields, unreadable, field, fields_from}
use Rattle.field_rules.specs.declared.Mode.{Mode}
use Rattle.field_rules.specs.declared.Field.{Field}
use Rattle.build_records.specs.Records.{records_of, on_records, replaced, between, held_from, stored_between, stored, stride}
use Rattle.build_records.proofs.WordLaws.{records_length, on_same}
use Rattle.build_records.proofs.RecordLaws.{inserted-last, between-new, between-end}
use Rattle.build_records.specs.declared.Record.{Record}
use Rattle.build_group_rules.specs.Groups.{Rules, run, outermost, RunOutcome, walk}
use Rattle.build_group_rules.specs.Groups.{ended as ran, refused as stops}
use Rattle.build_group_rules.specs.Reading.{list_store}
use Rattle.build_nesting_laws.specs.Nesting.{run_formed}
use Rattle.build_nesting_laws.specs.Entries.{All, all_none, all_more, all_append, all-stored, all_map, Deep, formed_deep}
use Rattle.build_required_rules.specs.Required.{Demands, run_lack}
use Rattle.build_required_rules.specs.declared.Lack.{Lack}
use Rattle.build_required_rules.specs.declared.Lack.TheVariants.{Missing, Complete}
use Rattle.build_parts.specs.declared.Progress.{Progress}
use Rattle.build_parts.specs.Parts.{Reading, ended, refused, part_of, part_told}
use Rattle.build_body_rules.specs.Body.{behind_run, stored_run, next_from, with_run}
use Rattle.build_body_rules.specs.Kinds.{checked, ran_as, run_from}
use Rattle.build_body_rules.specs.Seen.{cells, is_seen, noted, Noticed, Covers, Follows}
use Rattle.build_answers.specs.declared.Answer.{Answer}

-- a cell that is set stays set
set-stays : (seen : List Bool) (i j : ℕ) → i < length seen → get_or seen j false ≡ true → get_or (set seen i true) j false ≡ true
set-stays seen i j h e = go (eqb j i) refl
  where
    go : (b : Bool) → eqb j i ≡ b → get_or (set seen i true) j false ≡ true
    go true q = ap (λ (k : ℕ). get_or (set seen i true) k false) (eqb-true _ _ q) ∙ get_or-set_same seen i true false h
    go false q = get_or-set_other seen i j true false (eqb-false _ _ q) ∙ e

module _ (seen : List Bool) (tag : ℕ) where
  pub noted_again : is_seen tag seen ≡ true → noted tag seen ≡ seen
  unfolding is_seen noted
  noted_again e = ap (set seen (tag % cells)) (sym e) ∙ set-get_or seen (tag % cells) false

  module _ (whole : length seen ≡ cells) where
    noted-whole : length (noted tag seen) ≡ cells
    unfolding noted
    noted-whole = length-set seen (tag % cells) true ∙ whole

    noted-own : is_seen tag (noted tag seen) ≡ true
    unfolding is_seen noted
    noted-own = get_or-set_same seen (tag % cells) true false (omega arith)

    noted_more : (other : ℕ) → is_seen other seen ≡ true → is_seen other (noted tag seen) ≡ true
    unfolding is_seen noted
    noted_more other e = set-stays seen (tag % cells) (other % cells) (omega arith) e

    noted_each : {rs : List Record} → All (Noticed seen) rs → All (Noticed (noted tag seen)) rs
    noted_each a = all_map (λ r n. record { notices = λ d. noted_more r.tag (n.notices d) }) a

-- a tag that wasn't seen is held nowhere
each_other : (seen : List Bool) (tag : ℕ) → is_seen tag seen ≡ false → (at : ℕ) {rs : List Record} → All (Noticed seen) rs → held_from at 0 tag rs ≡ None
unfolding held_from
each_other seen tag e at all_none = refl
each_other seen tag e at (all_more {r = r} {rs = rs} n a) = go (eqb r.depth 0) refl (eqb r.tag tag) refl (each_other seen tag e (at + 1) a)
  where
    go : (d : Bool) → eqb r.depth 0 ≡ d → (t : Bool) → eqb r.tag tag ≡ t → held_from (at + 1) 0 tag rs ≡ None →
        pick d (pick t (Some at) (held_from (at + 1) 0 tag rs)) (held_from (at + 1) 0 tag rs) ≡ None
    go true p true q later =
        let yes : is_seen tag seen ≡ true = ap (λ (k : ℕ). is_seen k seen) (sym (eqb-true _ _ q)) ∙ n.notices (eqb-true _ _ p) in
        let z : ◌≡◌ {A = ℕ} 0 1 = cc in
        absurd (omega arith)
    go true p false q later = later
    go false p t q later = later

module _ (words : List ℕ) (seen : List Bool) (from count : ℕ) (r : Record) (covers : Covers seen (part_of from count words)) (own : r.depth ≡ 0) (unseen : is_seen r.tag seen ≡ false) where
  pub new-held : held_from from r.depth r.tag (between from count (records_of words)) ≡ None
  unfolding part_of
  new-held = rw own (each_other seen r.tag unseen from covers.each)

  -- its record is stored behind the others
  pub new-words : count < length words / stride → on_records (replaced count r) words ≡ on_records (stored_between count from count r) words
  new-words l =
      on_same _ _ words (sym (between-new count from count r (records_of words) new-held ∙ inserted-last count r (records_of words) (omega (arith, records_length words))))

-- cells that are all set cover any records; where there are no records none need be
module _ (n : ℕ) (n-is : n ≡ cells) where
  all_seen : (rs : List Record) → All (Noticed (replicate n true)) rs
  unfolding is_seen
  all_seen [] = all_none
  all_seen (r ∷ rs) = all_more (record { notices = λ (d : r.depth ≡ 0). get_or-replicate n (r.tag % cells) true false (omega arith) }) (all_seen rs)

  covers_either : (begun : Bool) (rs : List Record) → (begun ≡ false → rs ≡ []) → Covers (replicate n begun) rs
  covers_either true rs none = record { whole = length-replicate n true ∙ n-is; each = all_seen rs }
  covers_either false rs none = record { whole = length-replicate n false ∙ n-is; each = rw (none refl) all_none }

pub covers_first : (words : List ℕ) (from count : ℕ) → Covers (replicate cells (ltb from count)) (part_of from count words)
unfolding part_of
covers_first words from count = covers_either cells refl (ltb from count) (between from count (records_of words)) (λ e. between-end from count (records_of words) (ltb-false _ _ e))

module _ {P : Record → Type 0} where
  behind-all : {rs : List Record} → All P rs → All P (behind_run rs)
  unfolding behind_run
  behind-all all_none = all_none
  behind-all (all_more {r = r} {rs = rs} p a) = go (eqb r.depth 0) (behind-all a)
    where
      go : (b : Bool) → All P (behind_run rs) → All P (pick b (r ∷ rs) (behind_run rs))
      go true later = all_more p a
      go false later = later

  run-all : (r : Record) → P r → {run : List Record} → All P run → {rs : List Record} → All P rs → All P (stored_run r run rs)
  unfolding stored_run
  run-all r own entries all_none = all_more own entries
  run-all r own {run} entries (all_more {r = x} {rs = rs} p a) = go (eqb x.depth r.depth) (eqb x.tag r.tag) (run-all r own entries a) (behind-all a)
    where
      go : (d t : Bool) → All P (stored_run r run rs) → All P (behind_run rs) → All P (pick d (pick t (r ∷ (run ++ behind_run rs)) (x ∷ stored_run r run rs)) (x ∷ stored_run r run rs))
      go true true later behind = all_more own (all_append P entries behind)
      go true false later behind = all_more p later
      go false t later behind = all_more p later

module _ (seen : List Bool) (r : Record) {rs : List Record} (covers : Covers seen rs) where
  own-seen : Noticed (noted r.tag seen) r
  own-seen = record { notices = λ d. noted-own seen r.tag covers.whole }

  covers_stored : Covers (noted r.tag seen) (stored r rs)
  covers_stored = record { whole = noted-whole seen r.tag covers.whole; each = all-stored _ r own-seen (noted_each seen r.tag covers.whole covers.each) }

  -- no record of a run is a field of the body itself
  covers_run : {run : List Record} → All (Deep 1) run → Covers (noted r.tag seen) (stored_run r run rs)
  covers_run deep = record {
    whole = noted-whole seen r.tag covers.whole;
    each = run-all r own-seen (all_map (λ x d. record { notices = λ none. absurd (omega (arith, d.deep)) }) deep) (noted_each seen r.tag covers.whole covers.each);
  }

-- the records of a run that ended
module _ {L : Type 0} (rules : Rules L) (demands : Demands L) (inner : L) (tag : ℕ) where
  run-deep : (rest : Fields) (room : ℕ) (f : Field) (after : Fields) (left : ℕ) (records : List Record) → run_from rules demands inner tag rest room ≡ ended f after left records → All (Deep 1) records
  unfolding run_from ran_as checked
  run-deep rest room f after left records e = by_outcome (walk rules list_store room (run (outermost tag inner) 0 ∷ []) [] rest) refl e
    where
      by_lack : (g : Field) (behind : Fields) (here : ℕ) (entries : List Record) (lack : Lack) → checked g behind here entries lack ≡ ended f after left records → entries ≡ records
      by_lack g behind here entries Complete e = cc
      by_lack g behind here entries (Missing wanted group) e = let z : ◌≡◌ {A = ℕ} 0 1 = cc in absurd (omega arith)

      by_outcome : (o : RunOutcome (List Record) (List Record)) → walk rules list_store room (run (outermost tag inner) 0 ∷ []) [] rest ≡ o
          → ran_as rules demands inner tag o ≡ ended f after left records → All (Deep 1) records
      by_outcome (stops refusal entries) w e = let z : ◌≡◌ {A = ℕ} 0 1 = cc in absurd (omega arith)
      by_outcome (ran g behind here entries) w e =
          let read = run_formed rules [] (outermost tag inner) room rest g behind here entries w in
          rw (← by_lack g behind here entries (run_lack demands 4 inner tag 1 entries) e, read.whole) (formed_deep rules read.formed)

next_records : (fields : Fields) (room : ℕ) (records : List Record) (f : Field) (after : Fields) (left : ℕ) (kept : List Record) → next_from fields room records ≡ ended f after left kept → records ≡ kept
unfolding next_from
next_records (unreadable cause place) room records f after left kept e = let z : ◌≡◌ {A = ℕ} 0 1 = cc in absurd (omega arith)
next_records (field g rest) zero records f after left kept e = let z : ◌≡◌ {A = ℕ} 0 1 = cc in absurd (omega arith)
next_records (field g rest) (suc room) records f after left kept e = cc

module _ (mode : Mode) (message : List ℕ) (from : ℕ) (next : Result (Field × Progress) Answer) (later : List ℕ) where
  told_at : (f : Field) (p : Progress) → next ≡ Ok (f, p) → part_told mode message from next later ≡ ended f (fields_from mode message f.next) p.room (part_of from p.records later)
  unfolding part_told
  told_at f p e = rw e

  module _ (seen now : List Bool) (r : Record) (part : List Record) (covers : Covers seen part) (is : now ≡ noted r.tag seen) where
    -- a field of the body was stored
    pub follows_plain : (fields : Fields) (room : ℕ) → part_told mode message from next later ≡ next_from fields room (stored r part) → Follows now from next later
    follows_plain fields room told = record { covers = λ f p e. rw (is, ← next_records fields room (stored r part) _ _ _ _ (sym told ∙ told_at f p e)) (covers_stored seen r covers) }

    -- a count was stored with its run
    pub follows_run : {L : Type 0} (rules : Rules L) (demands : Demands L) (inner : L) (tag : ℕ) (rest : Fields) (room : ℕ) → part_told mode message from next later ≡ with_run r part (run_from rules demands inner tag rest room) → Follows now from next later
    follows_run rules demands inner tag rest room told = record { covers = λ f p e. go f p (run_from rules demands inner tag rest room) refl (sym told ∙ told_at f p e) }
      where
        go : (f : Field) (p : Progress) (reading : Reading) → run_from rules demands inner tag rest room ≡ reading → with_run r part reading ≡ ended f (fields_from mode message f.next) p.room (part_of from p.records later) → Covers now (part_of from p.records later)
        go f p (refused answer) w q = unfold with_run in let z : ◌≡◌ {A = ℕ} 0 1 = cc in absurd (omega arith)
        go f p (ended g behind here entries) w q = unfold with_run in
            let same : stored_run r entries part ≡ part_of from p.records later = cc in
            rw (is, ← same) (covers_run seen r covers (run-deep rules demands inner tag rest room g behind here entries w))

-- where reading starts
pub follows_at : (seen : List Bool) (from : ℕ) (f : Field) (p : Progress) (words : List ℕ) → Covers seen (part_of from p.records words) → Follows seen from (Ok (f, p)) words
follows_at seen from f p words c = record {
  covers = λ g q e. let both : ◌≡◌ {A = Field × Progress} (f, p) (g, q) = cc in
      let same : p ≡ q = ap (λ (read : Field × Progress). read.1) both in rw (← same) c;
}
