-- Header, body and trailer as they are read: the records of each have the shape of a formed map, each has its value in the message, and
-- there are no more of them, and no more bytes in them, than were read.
use Rattle.std.proofs.Math.Path.{◌≡◌}
use Rattle.std.specs.Prelude.{refl, Bool, true, false, ℕ, zero, suc, ◌+◌, ◌≤◌, length, eqb}
use Rattle.std.proofs.Common.{sym, ◌∙◌, arith}
use mathlib.Core.List.{List, [], ◌∷◌, ◌++◌}
use Rattle.field_rules.specs.Choice.{pick}
use Rattle.field_rules.specs.Fields.{Fields, unreadable, field}
use Rattle.field_rules.specs.declared.Field.{Field}
use Rattle.dictionary_layout_rules.specs.Tree.{holds_tag}
use Rattle.build_records.specs.Records.{stored}
use Rattle.build_records.specs.declared.Record.{Record}
use Rattle.build_group_rules.specs.Groups.{Rules, Frame, Move, adds, joins_at, disorders, leaves, decide, moved, RunOutcome, walk}
use Rattle.build_group_rules.specs.Groups.{ended as ran, entry_record}
use Rattle.build_group_rules.specs.Reading.{list_store, joined_list}
use Rattle.build_nesting_laws.specs.Entries.{All}
use Rattle.build_nesting_laws.specs.Formed.{Own}
use Rattle.build_parts.specs.Parts.{ended, part_record}
use Rattle.build_parts.specs.Header.{header_from}
use Rattle.build_parts.specs.Trailer.{Trailer, stopped, unstopped, crowded, trailer_from}
use Rattle.message_read_laws.specs.Shapes.{Placed}
use Rattle.message_read_laws.specs.GroupShapes.{EntryBuilt, build_user}
use Rattle.message_read_laws.specs.Counting.{total, Of, Counts}
use Rattle.message_read_laws.specs.CountLaws.{grows_stored, grows_last, grows_joined, first_fine, counts-on}

-- a part while it is read
pub record Reads (message : List ℕ) (part most bytes : ℕ) (fields : Fields) (room : ℕ) (rs : List Record) : Type 0 where
  pub built : EntryBuilt message 0 0 rs
  pub counts : Counts message part most bytes fields room rs

pub of_field : (part : ℕ) (f : Field) → Of part f (part_record part f)
unfolding part_record
of_field part f = record { of = refl; tagged = refl; placed = refl; sized = refl }

pub own-field : (part : ℕ) (f : Field) → Own 0 0 (part_record part f)
unfolding part_record
own-field part f = record { deep = refl; numbered = refl }

of_entry : (depth number : ℕ) (f : Field) → Of 2 f (entry_record depth number f)
unfolding entry_record
of_entry depth number f = record { of = refl; tagged = refl; placed = refl; sized = refl }

-- a field is stored in the part's own map
pub reads_on : {message : List ℕ} {part most bytes : ℕ} {f : Field} {rest : Fields} {room : ℕ} {rs : List Record} → Reads message part most bytes (field f rest) (suc room) rs → Reads message part most bytes rest room (stored (part_record part f) rs)
reads_on {message} {part} {f = f} {rs = rs} r =
    let o = of_field part f in
    record {
      built = build_user message (part_record part f) r.built (own-field part f) (λ z. (first_fine r.counts.each).some (sym o.tagged ∙ z));
      counts = counts-on (part_record part f) r.counts o (grows_stored (part_record part f) rs);
    }

pub header-reads : {message : List ℕ} {most bytes : ℕ} (tags : List ℕ) (fields : Fields) (room : ℕ) (rs : List Record) → Reads message 1 most bytes fields room rs → (f : Field) (rest : Fields) (room₁ : ℕ) (rs₁ : List Record) → header_from tags fields room rs ≡ ended f rest room₁ rs₁
    → Reads message 1 most bytes (field f rest) (suc room₁) rs₁
unfolding header_from
header-reads tags (unreadable cause place) room rs r f rest room₁ rs₁ e = let z : ◌≡◌ {A = ℕ} 0 1 = cc in absurd (omega arith)
header-reads tags (field g more) zero rs r f rest room₁ rs₁ e = let z : ◌≡◌ {A = ℕ} 0 1 = cc in absurd (omega arith)
header-reads {message} {most} {bytes} tags (field g more) (suc room) rs r f rest room₁ rs₁ e = by_tag (holds_tag g.tag tags) e (λ q. header-reads tags more room (stored (part_record 1 g) rs) (reads_on r) f rest room₁ rs₁ q)
  where
    by_tag : (b : Bool) → pick b (header_from tags more room (stored (part_record 1 g) rs)) (ended g more room rs) ≡ ended f rest room₁ rs₁
        → (header_from tags more room (stored (part_record 1 g) rs) ≡ ended f rest room₁ rs₁ → Reads message 1 most bytes (field f rest) (suc room₁) rs₁) → Reads message 1 most bytes (field f rest) (suc room₁) rs₁
    by_tag true e later = later e
    by_tag false e later =
        let a : g ≡ f = cc in
        let b : more ≡ rest = cc in
        let c : room ≡ room₁ = cc in
        let d : rs ≡ rs₁ = cc in
        rw (← a, ← b, ← c, ← d) r

-- a part whose records were all read
pub record Whole (message : List ℕ) (part most bytes : ℕ) (rs : List Record) : Type 0 where
  pub built : EntryBuilt message 0 0 rs
  pub placed : All (Placed message part) rs
  pub few : length rs + 1 ≤ most
  pub small : total rs ≤ bytes

-- where the room isn't used up, the part may end
pub reads_whole : {message : List ℕ} {part most bytes : ℕ} {fields : Fields} {room : ℕ} {rs : List Record} → Reads message part most bytes fields (suc room) rs → Whole message part most bytes rs
reads_whole r = record { built = r.built; placed = r.counts.placed; few = omega (arith, r.counts.few); small = omega (arith, r.counts.small) }

-- whether it was read to its end
pub data Ended : Trailer → List Record → Type 0 where
  at_checksum : {f : Field} {rs : List Record} → Ended (stopped f rs) rs
  at_end : {rs : List Record} → Ended (unstopped rs) rs

pub trailer-reads : {message : List ℕ} {most bytes : ℕ} (fields : Fields) (room : ℕ) (rs : List Record) → Reads message 3 most bytes fields room rs → (t : Trailer) (rs₁ : List Record) → trailer_from fields room rs ≡ t → Ended t rs₁ → Whole message 3 most bytes rs₁
unfolding trailer_from
trailer-reads (unreadable cause place) zero rs r t rs₁ e end = absurd (not_crowded e end)
  where
    not_crowded : {t : Trailer} → crowded ≡ t → Ended t rs₁ → ⊥
    not_crowded e at_checksum = let z : ◌≡◌ {A = ℕ} 0 1 = cc in omega arith
    not_crowded e at_end = let z : ◌≡◌ {A = ℕ} 0 1 = cc in omega arith
trailer-reads {message} {most} {bytes} (unreadable cause place) (suc room) rs r t rs₁ e end = same e end
  where
    same : {t : Trailer} → unstopped rs ≡ t → Ended t rs₁ → Whole message 3 most bytes rs₁
    same e at_checksum = let z : ◌≡◌ {A = ℕ} 0 1 = cc in absurd (omega arith)
    same e at_end = let d : rs ≡ rs₁ = cc in rw (← d) (reads_whole r)
trailer-reads (field g more) zero rs r t rs₁ e end = absurd (not_crowded e end)
  where
    not_crowded : {t : Trailer} → crowded ≡ t → Ended t rs₁ → ⊥
    not_crowded e at_checksum = let z : ◌≡◌ {A = ℕ} 0 1 = cc in omega arith
    not_crowded e at_end = let z : ◌≡◌ {A = ℕ} 0 1 = cc in omega arith
trailer-reads {message} {most} {bytes} (field g more) (suc room) rs r t rs₁ e end = by_tag (eqb g.tag 10) e end (λ q. trailer-reads more room (stored (part_record 3 g) rs) (reads_on r) t rs₁ q end)
  where
    by_tag : (b : Bool) {t : Trailer} → pick b (stopped g rs) (trailer_from more room (stored (part_record 3 g) rs)) ≡ t → Ended t rs₁ → (trailer_from more room (stored (part_record 3 g) rs) ≡ t → Whole message 3 most bytes rs₁) → Whole message 3 most bytes rs₁
    by_tag true e at_checksum later = let d : rs ≡ rs₁ = cc in rw (← d) (reads_whole r)
    by_tag true e at_end later = let z : ◌≡◌ {A = ℕ} 0 1 = cc in absurd (omega arith)
    by_tag false e end later = later e

-- a run while it is read
pub walk-counts : {L : Type 0} (rules : Rules L) {message : List ℕ} {most bytes : ℕ} (room : ℕ) (stack : List (Frame L)) (rs : List Record) (fields : Fields) → Counts message 2 most bytes fields room rs → (f : Field) (rest : Fields) (room₁ : ℕ) (rs₁ : List Record) → walk rules list_store room stack rs fields ≡ ran f rest room₁ rs₁
    → Counts message 2 most bytes (field f rest) (suc room₁) rs₁
unfolding walk
walk-counts rules room stack rs (unreadable cause place) c f rest room₁ rs₁ e = let z : ◌≡◌ {A = ℕ} 0 1 = cc in absurd (omega arith)
walk-counts rules zero stack rs (field g more) c f rest room₁ rs₁ e = let z : ◌≡◌ {A = ℕ} 0 1 = cc in absurd (omega arith)
walk-counts {L} rules {message} {most} {bytes} (suc room) stack rs (field g more) c f rest room₁ rs₁ e =
    by_move (decide rules (length rs) stack g.tag) (unfold list_store in e) (λ stack₂ rs₂ c₂ q. walk-counts rules room stack₂ rs₂ more c₂ f rest room₁ rs₁ q)
  where
    by_move : (m : Move L) → moved list_store room rs g more (λ stack₂ rs₂. walk rules list_store room stack₂ rs₂ more) m ≡ ran f rest room₁ rs₁
        → ((stack₂ : List (Frame L)) (rs₂ : List Record) → Counts message 2 most bytes more room rs₂ → walk rules list_store room stack₂ rs₂ more ≡ ran f rest room₁ rs₁ → Counts message 2 most bytes (field f rest) (suc room₁) rs₁)
        → Counts message 2 most bytes (field f rest) (suc room₁) rs₁
    by_move (adds stack₂ numbers) e later =
        let r = entry_record numbers.depth numbers.number g in
        later stack₂ (rs ++ (r ∷ [])) (counts-on r c (of_entry numbers.depth numbers.number g) (grows_last r rs)) (unfold moved list_store in e)
    by_move (joins_at stack₂ start numbers) e later =
        let r = entry_record numbers.depth numbers.number g in
        later stack₂ (joined_list start r rs) (counts-on r c (of_entry numbers.depth numbers.number g) (grows_joined start r rs)) (unfold moved list_store in e)
    by_move (disorders group) e later = let z : ◌≡◌ {A = ℕ} 0 1 = unfold moved in cc in absurd (omega arith)
    by_move leaves e later =
        let q : ◌≡◌ {A = RunOutcome (List Record) (List Record)} (ran g more room rs) (ran f rest room₁ rs₁) = unfold moved in e in
        let a : g ≡ f = cc in
        let b : more ≡ rest = cc in
        let d : room ≡ room₁ = cc in
        let s : rs ≡ rs₁ = cc in
        rw (← a, ← b, ← d, ← s) c
