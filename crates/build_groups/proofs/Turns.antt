-- One turn of each reader: with what its calls answered, what was left to be read before it is what is left after it.
-- A turn that returns tells what was left.
use mathlib.Core.Path.{◌≡◌, refl, sym, ap, ◌∙◌}
use mathlib.Core.Bool.{Bool, true, false}
use mathlib.Core.List.{List, [], ◌∷◌}
use Prim.Native.Nat.{ℕ, suc, ◌+◌, ◌≤◌, ◌<◌}
use native.Mathlib.Omega.{arith}
use lib.Dec.{leb, ltb}
use borrow.Author.Tests.{ltb-true}
use Rattle.field_rules.specs.declared.Mode.{Mode}
use Rattle.field_rules.specs.Choice.{pick}
use Rattle.field_rules.specs.Field.{field_at}
use Rattle.field_rules.specs.Fields.{fields_from}
use Rattle.field_rules.specs.declared.Cursor.{Cursor}
use Rattle.field_rules.specs.declared.Field.{Field}
use Rattle.build_config.specs.declared.Config.{Config}
use Rattle.build_records.specs.Records.{on_records, inserted, stored_between}
use Rattle.build_records.specs.declared.Record.{Record}
use Rattle.build_group_rules.specs.Groups.{Opened, none, opened, Rules, opens, plain, count, joins, wrong, ends, counting, declared, entry_kind, OpenEntry, Frame, run, entry, entry_record, RunOutcome, walk, taking}
use Rattle.build_group_rules.proofs.GroupLaws.{run-entry, run-first, run-over, entry-plain, entry-count, entry-joins, entry-wrong, entry-ends}
use Rattle.build_group_rules.specs.Reading.{table_rules, opens_at, meant, kind_at, Memory, memory, added_words, makes, standing_in, joined_words, word_store, open_group, further, next_reading, told_by, run_of, entry_of, Fits, FitsAt}
use Rattle.build_group_rules.proofs.ReadingLaws.{going, walk-next, going_on, Follows, room_of, next_follows, told_follows}
use Rattle.build_group_rules.specs.declared.Group.{Group}
use Rattle.build_group_rules.specs.declared.Progress.{Progress}
use Rattle.build_group_rules.specs.declared.Refusal.{Refusal}
use Rattle.build_group_rules.specs.declared.Refusal.TheVariants.{InvalidOrderInGroup}
use Rattle.build_group_rules.specs.declared.Kind.{Kind as CodeKind}
use Rattle.build_group_rules.specs.declared.Kind.TheVariants.{Plain, Count, Joins, Wrong, Ends}
use Rattle.build_groups.proofs.LookUps.{opens-table}
use Rattle.std.proofs.Common.{Option, Some, None, Result, Ok, Err, ℕ}

-- a count that starts a run leaves a level below
counting-below : {L : Type 0} (depth position : ℕ) (group : Opened L) (inner : L) (at : ℕ) → counting depth position group ≡ count inner at → depth < 4
unfolding counting
counting-below depth position none inner at e = let z : ◌≡◌ {A = ℕ} 0 1 = cc in absurd (omega arith)
counting-below depth position (opened level) inner at e = go (ltb depth 4) refl e
  where
    go : (t : Bool) → ltb depth 4 ≡ t → pick t (count level position) (plain position) ≡ count inner at → depth < 4
    go true q e = ltb-true _ _ q
    go false q e = let z : ◌≡◌ {A = ℕ} 0 1 = cc in absurd (omega arith)

module _ {L : Type 0} (rules : Rules L) (level : L) (depth last tag : ℕ) (inner : L) (at : ℕ) where
  declared-below : (p : Option ℕ) → declared rules level depth last tag p ≡ count inner at → depth < 4
  unfolding declared
  declared-below None e = go (rules.accepts tag) e
    where
      go : (t : Bool) → pick t joins ends ≡ count inner at → depth < 4
      go true e = let z : ◌≡◌ {A = ℕ} 0 1 = cc in absurd (omega arith)
      go false e = let z : ◌≡◌ {A = ℕ} 0 1 = cc in absurd (omega arith)
  declared-below (Some position) e = go (leb position last) e
    where
      go : (t : Bool) → pick t wrong (counting depth position (rules.group level tag)) ≡ count inner at → depth < 4
      go true e = let z : ◌≡◌ {A = ℕ} 0 1 = cc in absurd (omega arith)
      go false e = counting-below depth position (rules.group level tag) inner at e

  kind_below : entry_kind rules level depth last tag ≡ count inner at → depth < 4
  unfolding entry_kind
  kind_below e = go (opens rules level tag) e
    where
      go : (t : Bool) → pick t ends (declared rules level depth last tag (rules.position level tag)) ≡ count inner at → depth < 4
      go true e = let z : ◌≡◌ {A = ℕ} 0 1 = cc in absurd (omega arith)
      go false e = declared-below (rules.position level tag) e

-- a refusal is told as it came
pub left-refused : (message : List ℕ) (config : Config) (table : List ℕ) (known : ℕ → Bool) (stack : List (Frame ℕ)) (reading : Result (Field × Progress) Refusal) (words : List ℕ) (refusal : Refusal) → reading ≡ Err refusal →
    told_by config.mode message reading words ≡ going (table_rules config table known) config.mode message stack reading words
unfolding told_by going
left-refused message config table known stack reading words refusal e = rw e

module _ (message : List ℕ) (config : Config) (table : List ℕ) (known : ℕ → Bool) (group : Group) where
  -- what is left of an entry, and of a run
  abbrev pub entry_left : OpenEntry → Result (Field × Progress) Refusal → List ℕ → RunOutcome Memory (List ℕ)
  entry_left own reading words = going (table_rules config table known) config.mode message (entry (open_group group) own ∷ []) reading words

  abbrev pub run_left : ℕ → Result (Field × Progress) Refusal → List ℕ → RunOutcome Memory (List ℕ)
  run_left number reading words = going (table_rules config table known) config.mode message (run (open_group group) number ∷ []) reading words

  pub run-starts : (cursor : Cursor) (progress : Progress) (words : List ℕ) (reading : Result (Field × Progress) Refusal) → reading ≡ next_reading (field_at config.mode message cursor) progress →
      run_of message config table known group cursor progress words ≡ run_left 0 reading words
  unfolding run_of
  run-starts cursor progress words reading e = rw e (walk-next _ _ _ _ progress words cursor)

  pub entry-starts : (number : ℕ) (delimiter : Field) (progress begun : Progress) (words words₁ : List ℕ) (r : Record) (reading : Result (Field × Progress) Refusal) →
      r ≡ entry_record group.depth number delimiter → begun ≡ further 1 progress → words₁ ≡ on_records (inserted progress.records progress.place r) words → reading ≡ next_reading (field_at config.mode message delimiter.next) begun →
      entry_of message config table known group number delimiter progress words ≡ entry_left (record { number = number; last = 0; start = progress.place }) reading words₁
  unfolding entry_of added_words memory further
  entry-starts number delimiter progress begun words words₁ r reading a b c d =
      rw (d, c, b, a) (walk-next _ _ _ _ (further 1 progress) (on_records (inserted progress.records progress.place (entry_record group.depth number delimiter)) words) delimiter.next)

  -- going on from a field is taking it
  at_field : (stack : List (Frame ℕ)) (reading : Result (Field × Progress) Refusal) (words : List ℕ) (f : Field) (progress : Progress) → reading ≡ Ok (f, progress) →
      going (table_rules config table known) config.mode message stack reading words ≡ taking (table_rules config table known) word_store progress.room stack (memory progress words) f (fields_from config.mode message f.next)
  unfolding going
  at_field stack reading words f progress e = rw e

  module _ (number : ℕ) (reading : Result (Field × Progress) Refusal) (words : List ℕ) (f : Field) (progress : Progress) (e : reading ≡ Ok (f, progress)) where
    -- what is kept after a field is what the words hold then
    added_field : (stack : List (Frame ℕ)) →
        walk (table_rules config table known) word_store progress.room stack (word_store.add (entry_record group.depth number f) (memory progress words)) (fields_from config.mode message f.next)
        ≡ walk (table_rules config table known) word_store (further 1 progress).room stack (memory (further 1 progress) (on_records (inserted progress.records progress.place (entry_record group.depth number f)) words)) (fields_from config.mode message f.next)
    unfolding word_store added_words memory further
    added_field stack = refl

    joined-field : (stack : List (Frame ℕ)) (start : ℕ) → let k = makes (standing_in start progress.place (entry_record group.depth number f) words) in
        walk (table_rules config table known) word_store progress.room stack (word_store.join start (entry_record group.depth number f) (memory progress words)) (fields_from config.mode message f.next)
        ≡ walk (table_rules config table known) word_store (further k progress).room stack (memory (further k progress) (on_records (stored_between progress.records start progress.place (entry_record group.depth number f)) words)) (fields_from config.mode message f.next)
    unfolding word_store joined_words memory further
    joined-field stack start = refl

    module _ (last start : ℕ) (kind : CodeKind) (k : meant kind ≡ kind_at config table known group last f.tag) where
      pub left-ends : kind ≡ Ends → told_by config.mode message (Ok (f, progress)) words
          ≡ entry_left (record { number = number; last = last; start = start }) reading words
      unfolding going told_by meant kind_at
      left-ends q = rw e (sym (entry-ends _ _ _ _ _ _ _ _ (sym k ∙ ap meant q)))

      pub left-wrong : kind ≡ Wrong → told_by config.mode message (Err (InvalidOrderInGroup f.tag group.tag)) words
          ≡ entry_left (record { number = number; last = last; start = start }) reading words
      unfolding going told_by meant kind_at word_store memory
      left-wrong q = rw e (sym (entry-wrong _ _ _ _ _ _ _ _ (sym k ∙ ap meant q)))

      module _ (r : Record) (is : r ≡ entry_record group.depth number f) (stored : Progress) (words₁ : List ℕ) (reading₁ : Result (Field × Progress) Refusal) where
        pub turn_joins : kind ≡ Joins → stored ≡ further (makes (standing_in start progress.place r words)) progress → words₁ ≡ on_records (stored_between progress.records start progress.place r) words →
            reading₁ ≡ next_reading (field_at config.mode message f.next) stored →
            entry_left (record { number = number; last = last; start = start }) reading words
            ≡ entry_left (record { number = number; last = last; start = start }) reading₁ words₁
        unfolding meant kind_at
        turn_joins q a b c =
            at_field _ reading words f progress e
            ∙ entry-joins _ _ _ _ _ _ _ _ (sym k ∙ ap meant q)
            ∙ rw (c, b, a, is) (joined-field _ start ∙ walk-next _ _ _ _ (further (makes (standing_in start progress.place (entry_record group.depth number f) words)) progress) (on_records (stored_between progress.records start progress.place (entry_record group.depth number f)) words) f.next)

        module _ (a : stored ≡ further 1 progress) (b : words₁ ≡ on_records (inserted progress.records progress.place r) words) where
          pub turn_plain : (position : ℕ) → kind ≡ Plain position → reading₁ ≡ next_reading (field_at config.mode message f.next) stored →
              entry_left (record { number = number; last = last; start = start }) reading words
              ≡ entry_left (record { number = number; last = position; start = start }) reading₁ words₁
          unfolding meant kind_at
          turn_plain position q c =
              at_field _ reading words f progress e
              ∙ entry-plain _ _ _ _ _ _ _ _ position (sym k ∙ ap meant q)
              ∙ rw (c, b, a, is) (added_field _ ∙ walk-next _ _ _ _ (further 1 progress) (on_records (inserted progress.records progress.place (entry_record group.depth number f)) words) f.next)

          pub turn_count : (inner position : ℕ) → kind ≡ Count inner position → (words₂ : List ℕ) →
              told_by config.mode message reading₁ words₂ ≡ run_of message config table known (record { level = inner; tag = f.tag; depth = group.depth + 1 }) f.next stored words₁ →
              entry_left (record { number = number; last = last; start = start }) reading words
              ≡ entry_left (record { number = number; last = position; start = start }) reading₁ words₂
          unfolding meant kind_at run_of
          turn_count inner position q words₂ t =
              at_field _ reading words f progress e
              ∙ entry-count _ _ _ _ _ _ _ _ inner position (sym k ∙ ap meant q)
              ∙ going_on _ _ _ _ reading₁ words₂ _ (t ∙ rw (b, a, is) (sym (added_field _)))

    -- a field in a run
    pub turn_entry : opens_at table group.level f.tag ≡ true → (reading₁ : Result (Field × Progress) Refusal) (words₁ : List ℕ) →
        told_by config.mode message reading₁ words₁ ≡ entry_of message config table known group (number + 1) f progress words →
        run_left number reading words ≡ run_left (number + 1) reading₁ words₁
    unfolding entry_of word_store memory
    turn_entry o reading₁ words₁ t =
        at_field _ reading words f progress e
        ∙ run-entry _ _ _ _ _ _ _ _ (opens-table config table known group.level f.tag ∙ o)
        ∙ going_on _ _ _ _ reading₁ words₁ _ t

    pub left-first : opens_at table group.level f.tag ≡ false → number ≡ 0 →
        told_by config.mode message (Err (InvalidOrderInGroup f.tag group.tag)) words ≡ run_left number reading words
    unfolding going told_by word_store memory
    left-first o z = rw e (sym (run-first _ _ _ _ _ _ _ _ (opens-table config table known group.level f.tag ∙ o) z))

    pub left_over : opens_at table group.level f.tag ≡ false → (number ≡ 0 → ⊥) →
        told_by config.mode message (Ok (f, progress)) words ≡ run_left number reading words
    unfolding going told_by
    left_over o n = rw e (sym (run-over _ _ _ _ _ _ _ _ (opens-table config table known group.level f.tag ∙ o) n))

pub count-below : (config : Config) (table : List ℕ) (known : ℕ → Bool) (group : Group) (last tag : ℕ) (kind : CodeKind) (inner position : ℕ) → meant kind ≡ kind_at config table known group last tag → kind ≡ Count inner position → group.depth < 4
unfolding meant kind_at
count-below config table known group last tag kind inner position k q = kind_below _ _ _ _ _ inner position (sym k ∙ ap meant q)

-- where a run ended, and where an entry did
pub run_follows : (message : List ℕ) (config : Config) (table : List ℕ) (known : ℕ → Bool) (group : Group) (cursor : Cursor) (progress : Progress) (words : List ℕ) → Fits message progress → (reading : Result (Field × Progress) Refusal) (words₁ : List ℕ) →
    told_by config.mode message reading words₁ ≡ run_of message config table known group cursor progress words → Follows message progress.room reading
unfolding run_of
run_follows message config table known group cursor progress words fits reading words₁ e = told_follows _ _ message _ cursor progress words fits reading words₁ e

pub entry_follows : (message : List ℕ) (config : Config) (table : List ℕ) (known : ℕ → Bool) (group : Group) (number : ℕ) (delimiter : Field) (progress : Progress) (words : List ℕ) → FitsAt message delimiter progress → (reading : Result (Field × Progress) Refusal) (words₁ : List ℕ) →
    told_by config.mode message reading words₁ ≡ entry_of message config table known group number delimiter progress words → Follows message progress.room reading
unfolding entry_of added_words memory further
entry_follows message config table known group number delimiter progress words fits reading words₁ e =
    told_follows _ _ message _ delimiter.next (further 1 progress) _ (record { short = fits.short; counted = omega (arith, fits.counted); placed = omega (arith, fits.placed) }) reading words₁ e

-- the room falls from a field to where reading stands after it
pub room_falls : (message : List ℕ) (reading reading₁ : Result (Field × Progress) Refusal) (f : Field) (progress : Progress) → reading ≡ Ok (f, progress) → Follows message progress.room reading₁ → room_of reading₁ < room_of reading
room_falls message reading reading₁ f progress e follows =
    let at : room_of reading ≡ suc progress.room = ap room_of e ∙ unfold room_of in refl in
    omega (arith, follows.falls)

pub stored_fits : (message : List ℕ) (f : Field) (progress stored : Progress) (k : ℕ) → k ≤ 1 → FitsAt message f progress → stored ≡ further k progress → Fits message stored
unfolding further
stored_fits message f progress stored k h fits e =
    rw e (record { short = fits.short; counted = omega (arith, fits.counted); placed = omega (arith, fits.placed) })

pub stored-room : (progress stored : Progress) (k : ℕ) → stored ≡ further k progress → stored.room ≡ progress.room
unfolding further
stored-room progress stored k e = rw e

-- the field after one that was stored
pub stored_follows : (mode : Mode) (message : List ℕ) (c : Cursor) (f : Field) (progress stored : Progress) (k : ℕ) (reading : Result (Field × Progress) Refusal) → k ≤ 1 → FitsAt message f progress → stored ≡ further k progress → reading ≡ next_reading (field_at mode message c) stored → Follows message progress.room reading
stored_follows mode message c f progress stored k reading h fits e q =
    rw (q, ← stored-room progress stored k e) (next_follows mode message c stored (stored_fits message f progress stored k h fits e))

-- the entries after a count that was stored
pub count_follows : (message : List ℕ) (config : Config) (table : List ℕ) (known : ℕ → Bool) (group : Group) (f : Field) (progress stored : Progress) (words : List ℕ) → FitsAt message f progress → stored ≡ further 1 progress → (reading : Result (Field × Progress) Refusal) (words₁ : List ℕ) →
    told_by config.mode message reading words₁ ≡ run_of message config table known group f.next stored words → Follows message progress.room reading
count_follows message config table known group f progress stored words fits e reading words₁ t =
    rw (← stored-room progress stored 1 e) (run_follows message config table known group f.next stored words (stored_fits message f progress stored 1 (omega arith) fits e) reading words₁ t)
