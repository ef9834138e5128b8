-- How reading steps through a group that fits its layout: what a field does to the frame above others, and how the records of a stretch are
-- those of its parts.
use Rattle.std.proofs.Math.Path.{◌≡◌, refl}
use Rattle.std.proofs.Common.{sym, ap, ◌∙◌, inl, inr, append_assoc, arith, length-append}
use Rattle.std.specs.Prelude.{◌⊎◌, true, false, List, [], ◌∷◌, ◌++◌, ℕ, suc, ◌+◌, ◌≤◌, ◌<◌, length}
use borrow.Author.Tests.{ne_eqb, lt-leb, lt-ltb, le-ltb}
use Rattle.field_rules.specs.Field.{value_of}
use Rattle.field_rules.specs.Fields.{Fields, field}
use Rattle.standard_rules.specs.Standard.{Tables, Told, Stretch, Stands}
use Rattle.field_rules.specs.declared.Field.{Field}
use Rattle.build_records.specs.declared.Record.{Record}
use Rattle.build_group_rules.specs.Groups.{Opened, none, opened, Rules, opens, plain, count, joins, ends, counting, declared, entry_kind, OpenGroup, OpenEntry, Frame, run, entry, reaching, nested, in_entry_lem, decide, entry_record, ended, moved, walk, taking}
use Rattle.build_group_rules.specs.Reading.{joined_list, list_store}
use Rattle.promise_standard.specs.Reading.{ReadsAs, no_field, one_field}
use Rattle.promise_standard.specs.Groups.{numbered, records_as, Tell, no_record, one_record, tag_behind, Leaves, Rises, Joins}

-- ===== what a tag is to an entry =====

module _ {L : Type 0} (rules : Rules L) (level : L) where
  -- a delimiter ends the entry before
  pub kind_delimiter : (depth last tag : ℕ) → opens rules level tag ≡ true → entry_kind rules level depth last tag ≡ ends
  unfolding entry_kind
  kind_delimiter depth last tag o = rw o

  pub kind_leaves : (depth last tag : ℕ) → Leaves rules level tag → entry_kind rules level depth last tag ≡ ends
  unfolding entry_kind declared
  kind_leaves depth last tag l = rw (l.no_delimiter, l.no_position, l.not_accepted)

  pub kind_joins : (depth last tag : ℕ) → Joins rules level tag → entry_kind rules level depth last tag ≡ joins
  unfolding entry_kind declared
  kind_joins depth last tag j = rw (j.no_delimiter, j.no_position, j.accepted)

  pub kind_plain : (depth last position tag : ℕ) → Rises rules level last position tag → (rules.group level tag ≡ none) ⊎ (4 ≤ depth) → entry_kind rules level depth last tag ≡ plain position
  unfolding entry_kind declared
  kind_plain depth last position tag r g = rw (r.no_delimiter, r.placed, lt-leb _ _ r.rises) (no_group (rules.group level tag) refl g)
    where
      no_group : (o : Opened L) → rules.group level tag ≡ o → (rules.group level tag ≡ none) ⊎ (4 ≤ depth) → counting depth position o ≡ plain position
      no_group none e g = unfold counting in refl
      no_group (opened inner) e (inl n) = let z : ◌≡◌ {A = ℕ} 0 1 = cc in absurd (omega arith)
      no_group (opened inner) e (inr deep) = unfold counting in rw (le-ltb _ _ deep)

  pub kind_count : (inner : L) (depth last position tag : ℕ) → Rises rules level last position tag → rules.group level tag ≡ opened inner → depth < 4 → entry_kind rules level depth last tag ≡ count inner position
  unfolding entry_kind declared counting
  kind_count inner depth last position tag r g deep = rw (r.no_delimiter, r.placed, lt-leb _ _ r.rises, g, lt-ltb _ _ deep)

-- ===== what a field does =====

module _ {L : Type 0} (rules : Rules L) (done : List Record) (f : Field) (rest : Fields) where
  -- a field that is read takes one of the room
  pub walk-next : (stack : List (Frame L)) (room left : ℕ) → room ≡ suc left → walk rules list_store room stack done (field f rest) ≡ taking rules list_store left stack done f rest
  unfolding walk taking
  walk-next stack room left e = rw e

  -- nothing is open
  pub none-takes : (room : ℕ) → taking rules list_store room [] done f rest ≡ ended f rest room done
  unfolding taking decide moved
  none-takes room = refl

  module _ (below : List (Frame L)) (room : ℕ) (group : OpenGroup L) where
    pub run-opens : (number : ℕ) → opens rules group.level f.tag ≡ true →
        taking rules list_store room (run group number ∷ below) done f rest
        ≡ walk rules list_store room (entry group (record { number = number + 1; last = 0; start = length done }) ∷ run group (number + 1) ∷ below) (done ++ (entry_record group.depth (number + 1) f ∷ [])) rest
    unfolding taking decide moved list_store
    run-opens number o = rw o

    -- a run with an entry is over at a tag that is not its delimiter
    pub run_passes : (number : ℕ) → opens rules group.level f.tag ≡ false → 1 ≤ number →
        taking rules list_store room (run group number ∷ below) done f rest ≡ taking rules list_store room below done f rest
    unfolding taking decide
    run_passes number o some = rw (o, ne_eqb number 0 (λ e. omega arith))

    module _ (own : OpenEntry) where
      pub entry-takes : (position : ℕ) → entry_kind rules group.level group.depth own.last f.tag ≡ plain position →
          taking rules list_store room (entry group own ∷ below) done f rest
          ≡ walk rules list_store room (entry group (reaching own position) ∷ below) (done ++ (entry_record group.depth own.number f ∷ [])) rest
      unfolding taking decide in_entry_lem moved list_store
      entry-takes position k = rw k

      pub entry-joined : entry_kind rules group.level group.depth own.last f.tag ≡ joins →
          taking rules list_store room (entry group own ∷ below) done f rest
          ≡ walk rules list_store room (entry group own ∷ below) (joined_list own.start (entry_record group.depth own.number f) done) rest
      unfolding taking decide in_entry_lem moved list_store
      entry-joined k = rw k

      pub entry-counts : (inner : L) (position : ℕ) → entry_kind rules group.level group.depth own.last f.tag ≡ count inner position →
          taking rules list_store room (entry group own ∷ below) done f rest
          ≡ walk rules list_store room (run (nested group f.tag inner) 0 ∷ entry group (reaching own position) ∷ below) (done ++ (entry_record group.depth own.number f ∷ [])) rest
      unfolding taking decide in_entry_lem moved list_store
      entry-counts inner position k = rw k

      pub entry_passes : entry_kind rules group.level group.depth own.last f.tag ≡ ends
          → taking rules list_store room (entry group own ∷ below) done f rest ≡ taking rules list_store room below done f rest
      unfolding taking decide in_entry_lem
      entry_passes k = rw k

-- ===== what was read, and its records =====

-- the fields of two stretches: those of the first, then one that is the first of the second or stands behind both
pub record Split (message : List ℕ) (fields : Fields) (fs gs : List Told) (last : Field) (behind : Fields) : Type 0 where
  pub next : Field
  pub rest : Fields
  pub reads_first : ReadsAs message fields fs (field next rest)
  pub reads_second : ReadsAs message (field next rest) gs (field last behind)
  pub tag_is : next.tag ≡ tag_behind last.tag gs

module _ (message : List ℕ) (last : Field) (behind : Fields) where
  split_none : (fields : Fields) (gs : List Told) → ReadsAs message fields gs (field last behind) → Split message fields [] gs last behind
  unfolding tag_behind
  split_none _ _ no_field = record { next = last; rest = behind; reads_first = no_field; reads_second = no_field; tag_is = refl }
  split_none _ _ (one_field {f = f} {rest = rest} tag value more) = record { next = f; rest = rest; reads_first = no_field; reads_second = one_field tag value more; tag_is = tag }

  pub reads_split : (fields : Fields) (fs gs : List Told) → ReadsAs message fields (fs ++ gs) (field last behind) → Split message fields fs gs last behind
  reads_split fields [] gs r = split_none fields gs r
  reads_split _ (f ∷ fs) gs (one_field tag value more) =
      let s = reads_split _ fs gs more in
      record { next = s.next; rest = s.rest; reads_first = one_field tag value s.reads_first; reads_second = s.reads_second; tag_is = s.tag_is }

-- each field has its depth and number
pub numbered_each : {T : Tables} {Here : ℕ → Type 0} {stretch : Stretch} {fs : List Told} (depth number : ℕ) (s : Stands T Here stretch fs) → length (numbered depth number s) ≡ length fs
unfolding numbered
numbered_each depth number Stands.no_member = refl
numbered_each depth number (Stands.field _ _ s) = omega (arith, numbered_each depth number s)
numbered_each depth number (Stands.group {gs = gs} {fs = fs} _ _ i g s) = omega (arith, numbered_each (depth + 1) 0 g, numbered_each depth number s, length-append gs fs, length-append (numbered (depth + 1) 0 g) (numbered depth number s))
numbered_each depth number Stands.no_entry = refl
numbered_each depth number (Stands.entry {fs = fs} {gs = gs} m _ d g) =
    omega (arith, numbered_each depth (number + 1) m, numbered_each depth (number + 1) g, length-append fs gs, length-append (numbered depth (number + 1) m) (numbered depth (number + 1) g))

pub records_split : (message : List ℕ) (fields middle : Fields) (fs : List Told) (ns more : List (ℕ × ℕ)) → ReadsAs message fields fs middle → length ns ≡ length fs → records_as (ns ++ more) fields ≡ records_as ns fields ++ records_as more middle
unfolding records_as
records_split message _ middle _ [] more no_field e = refl
records_split message _ middle _ (n ∷ ns) more no_field e = absurd (omega arith)
records_split message _ middle _ [] more (one_field tag value r) e = absurd (omega arith)
records_split message _ middle _ (n ∷ ns) more (one_field {f = f} {rest = rest} tag value r) e = ap (λ (l : List Record). entry_record n.0 n.1 f ∷ l) (records_split message rest middle _ ns more r (omega arith))

-- records so far, one more, those of a stretch, and those behind it
pub records_behind : (message : List ℕ) (done : List Record) (r : Record) (fields middle : Fields) (fs : List Told) (ns more : List (ℕ × ℕ)) → ReadsAs message fields fs middle → length ns ≡ length fs
    → ((done ++ (r ∷ [])) ++ records_as ns fields) ++ records_as more middle ≡ done ++ (r ∷ records_as (ns ++ more) fields)
records_behind message done r fields middle fs ns more reads e =
    append_assoc (done ++ (r ∷ [])) (records_as ns fields) (records_as more middle)
    ∙ append_assoc done (r ∷ []) (records_as ns fields ++ records_as more middle)
    ∙ ap (λ (l : List Record). done ++ (r ∷ l)) (sym (records_split message fields middle fs ns more reads e))

-- fields that were read as the standard tells them make records that tell the same
pub records_tell : (message : List ℕ) (fields last : Fields) (fs : List Told) (ns : List (ℕ × ℕ)) → ReadsAs message fields fs last → length ns ≡ length fs → Tell message 2 ns fs (records_as ns fields)
unfolding records_as entry_record value_of
records_tell message _ last _ [] no_field e = no_record
records_tell message _ last _ (n ∷ ns) no_field e = absurd (omega arith)
records_tell message _ last _ [] (one_field tag value r) e = absurd (omega arith)
records_tell message _ last _ (n ∷ ns) (one_field tag value r) e = one_record refl refl refl tag value (records_tell message _ last _ ns r (omega arith))

-- as many records as fields
pub tell_each : {message : List ℕ} {part : ℕ} {ns : List (ℕ × ℕ)} {fs : List Told} {rs : List Record} → Tell message part ns fs rs → length rs ≡ length fs
tell_each no_record = refl
tell_each (one_record part depth number tag value more) = ap suc (tell_each more)
