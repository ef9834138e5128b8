-- What is looked up in a lent message is what its maps hold: a field's value, byte for byte, the map of a part, the map of an entry. What the
-- maps don't hold is absent, and 27 is answered where no message is lent, and only there.
use Rattle.std.proofs.Math.Path.{◌≡◌}
use Rattle.std.specs.Prelude.{refl, ◌↔◌, Bool, true, false, List, ◌++◌, ℕ, ◌+◌, ◌≤◌, length, take, drop}
use Rattle.std.proofs.Common.{sym, ap, ◌∙◌, append_assoc, length-append, take-append-drop, take_at, drop_at}
use native.Mathlib.Omega.{arith}
use Rattle.field_rules.specs.Choice.{pick}
use Rattle.message_maps.specs.Map.{Map, run_on, Looked, none, some, value_under, values_in}
use Rattle.message_maps.specs.Rows.{sizes}
use Rattle.message_lent_rules.specs.Lent.{rows_of, is_message}
use Rattle.message_lent_rules.specs.LentLaws.{message-held}
use Rattle.message_lent_rules.specs.Meaning.{Message, parts, message_in}
use Rattle.message_lent_rules.proofs.MeaningLaws.{means}
use Rattle.message_lent_rules.proofs.FormedLaws.{lent_formed}
use Rattle.message_lent_rules.specs.StandLaws.{never}
use Rattle.message_rules.specs.Changes.{part_of}
use Rattle.message_rules.specs.LookUps.{rows_in, Standing, standing, map_at, value_in, entry_in, part_row, value_of_map, entry_of, part_found, field_found, entry_found}
use Rattle.message_rules.specs.LookUpNames.{NamedIn, at_head, past_entry, NamedAt, named-at, named-within, found-named, named-nowhere, named_once, named-parts_formed}
use Rattle.message_rules.proofs.LookUpFinds.{entry_number, FieldTold, told_at, told_none, value_told, value_answered, EntryTold, told-entry, told_no_entry, entry-told, entry-answered}
use Rattle.message_rules.specs.declared.Part.{Part}
use Rattle.message_rules.specs.declared.Part.TheVariants.{Header, Body, Trailer}
use Rattle.message_rules.specs.declared.Value.{Value}
use Rattle.message_rules.specs.declared.FoundValue.{FoundValue}
use Rattle.message_rules.specs.declared.FoundValue.TheVariants as value
use Rattle.message_rules.specs.declared.FoundMap.{FoundMap}
use Rattle.message_rules.specs.declared.FoundMap.TheVariants as map

-- the row names the map, in the message that is lent
unfoldable pub Names : List ℕ → List ℕ → ℕ → Map → Type 0
Names words values row own = NamedIn row own (parts (message_in words values))

-- a row names one map at the most
pub names_once : (words values : List ℕ) (row : ℕ) (own other : Map) → Names words values row own → Names words values row other → own ≡ other
unfolding Names
names_once words values row own other a b = named_once a b

-- each row names a map, or none
pub data RowNames (words values : List ℕ) (row : ℕ) : Type 0 where
  names_map : (own : Map) → Names words values row own → RowNames words values row
  names_nothing : ((own : Map) → Names words values row own → ⊥) → RowNames words values row

pub row_names : (words values : List ℕ) (row : ℕ) → RowNames words values row
unfolding Names
row_names words values row = by_looked (map_at row 0 (parts (message_in words values))) refl
  where
    by_looked : (looked : Looked Standing) → map_at row 0 (parts (message_in words values)) ≡ looked → RowNames words values row
    by_looked none e = names_nothing (λ own names. let found = sym ((named-at names).found 0) ∙ e in let z : ◌≡◌ {A = ℕ} 0 1 = cc in omega arith)
    by_looked (some (standing own place)) e = names_map own (found-named row 0 _ own place e)

-- ===== a field =====

-- what is answered for a held value: a span within the store, at which the value's bytes stand
pub record FieldStands (words values : List ℕ) (row tag : ℕ) (v : List ℕ) : Type 0 where
  pub span : Value
  pub answer : field_found row tag words values ≡ value.At span
  pub within : span.place + span.size ≤ 8192
  pub bytes : take span.size (drop span.place values) ≡ v

-- in the map that a row names: where the map holds a value its bytes are found, and only there; else it is absent
pub record FieldLookedUp (words values : List ℕ) (row tag : ℕ) (own : Map) : Type 0 where
  pub held : (v : List ℕ) → value_under tag own ≡ some v → FieldStands words values row tag v
  pub found : (span : Value) → field_found row tag words values ≡ value.At span
      → (span.place + span.size ≤ 8192) × (value_under tag own ≡ some (take span.size (drop span.place values)))
  pub absent : (field_found row tag words values ≡ value.Absent) ↔ (value_under tag own ≡ none)

pub field_no_message : (words values : List ℕ) (row tag : ℕ) → (field_found row tag words values ≡ value.NoMessage) ↔ (is_message words values ≡ false)
unfolding field_found
field_no_message words values row tag = by_test (is_message words values) _
  where
    answered : (looked : Looked Standing) → value_of_map tag looked ≡ value.NoMessage → ⊥
    answered none e = unfold value_of_map in let z : ◌≡◌ {A = ℕ} 0 1 = cc in omega arith
    answered (some (standing own place)) e = unfold value_of_map in value_answered tag place own e

    by_test : (b : Bool) (looked : Looked Standing) → (pick b (value_of_map tag looked) value.NoMessage ≡ value.NoMessage) ↔ (b ≡ false)
    by_test true looked = (λ e. absurd (answered looked e), λ e. never e)
    by_test false looked = (λ e. refl, λ e. refl)

pub field_no_map : (words values : List ℕ) (row tag : ℕ) → is_message words values ≡ true → ((own : Map) → Names words values row own → ⊥)
    → field_found row tag words values ≡ value.Absent
unfolding field_found value_of_map Names
field_no_map words values row tag lent nowhere = rw (lent, named-nowhere row 0 (parts (message_in words values)) nowhere)

-- the bytes that stand behind others
bytes-behind : (front v back store : List ℕ) → store ≡ front ++ (v ++ back) → take (length v) (drop (length front) store) ≡ v
bytes-behind front v back store e = rw (e, drop_at front (v ++ back) (length front) refl) (take_at v back (length v) refl)

-- what is looked for in the map that a row names
field_at : (words values : List ℕ) (row tag : ℕ) (own : Map) → is_message words values ≡ true → (n : NamedAt row own (parts (message_in words values)))
    → field_found row tag words values ≡ value_in tag (0 + length n.before) own
unfolding field_found value_of_map
field_at words values row tag own lent n = rw (lent, n.found 0)

-- a value that stands in a map stands in the store
field_bytes : (words values : List ℕ) (own : Map) (row : ℕ) → is_message words values ≡ true → (n : NamedAt row own (parts (message_in words values)))
    → (span : Value) (before v behind : List ℕ) → values_in own ≡ before ++ (v ++ behind) → span.place ≡ 0 + length n.before + length before
    → span.size ≡ length v
    → (span.place + span.size ≤ 8192) × (take span.size (drop span.place values) ≡ v)
field_bytes words values own row lent n span before v behind t p s =
    let size = sizes (rows_of words) in
    let texts = (means words values (message-held words values lent)).texts in
    let front = n.before ++ before in
    let all : take size values ≡ front ++ (v ++ (behind ++ n.behind)) = texts ∙ n.texts ∙ rw t (simp append_assoc) in
    let store : values ≡ front ++ (v ++ ((behind ++ n.behind) ++ drop size values)) = sym (take-append-drop size values) ∙ rw all (simp append_assoc) in
    let place : span.place ≡ length front = omega (arith, length-append n.before before) in
    let small = (lent_formed words values lent).small in
    let far : span.place + span.size ≤ 8192 =
    omega (arith, small, ap length (sym texts ∙ all), length-append front (v ++ (behind ++ n.behind)), length-append v (behind ++ n.behind)) in
    (far, rw (s, place) (bytes-behind front v ((behind ++ n.behind) ++ drop size values) values store))

pub field_looked_up : (words values : List ℕ) (row tag : ℕ) (own : Map) → is_message words values ≡ true → Names words values row own
    → FieldLookedUp words values row tag own
unfolding Names
field_looked_up words values row tag own lent names =
    let n = named-at names in
    by_told n (value_in tag (0 + length n.before) own) (field_at words values row tag own lent n) (value_told tag (0 + length n.before) own)
  where
    by_told : (n : NamedAt row own (parts (message_in words values))) (f : FoundValue) → field_found row tag words values ≡ f
        → FieldTold tag (0 + length n.before) own f → FieldLookedUp words values row tag own
    by_told n f e (told_at span before v behind h t p s) =
        let b = field_bytes words values own row lent n span before v behind t p s in
        record {
          held = λ w g. let same : v ≡ w = cc in record { span = span; answer = e; within = b.0; bytes = b.1 ∙ same };
          found = λ other g. let same : span ≡ other = cc in rw (← same) (b.0, h ∙ ap some (sym b.1));
          absent = (
            λ g. let z : ◌≡◌ {A = ℕ} 0 1 = cc in absurd (omega arith),
            λ g. let z : ◌≡◌ {A = ℕ} 0 1 = cc in absurd (omega arith),
          );
        }
    by_told n f e (told_none h) =
        record {
          held = λ w g. let z : ◌≡◌ {A = ℕ} 0 1 = cc in absurd (omega arith);
          found = λ other g. let z : ◌≡◌ {A = ℕ} 0 1 = cc in absurd (omega arith);
          absent = (λ g. h, λ g. e);
        }

-- ===== a part =====

-- what is answered for a part: the row that names its map
pub record PartLookedUp (words values : List ℕ) (part : Part) : Type 0 where
  pub row : ℕ
  pub answer : part_found part words values ≡ map.At row
  pub names : Names words values row (part_of part (message_in words values))

pub part_no_message : (words values : List ℕ) (part : Part) → (part_found part words values ≡ map.NoMessage) ↔ (is_message words values ≡ false)
unfolding part_found
part_no_message words values part = by_test (is_message words values)
  where
    by_test : (b : Bool) → (pick b (map.At (part_row part (message_in words values))) map.NoMessage ≡ map.NoMessage) ↔ (b ≡ false)
    by_test true = (λ e. let z : ◌≡◌ {A = ℕ} 0 1 = cc in absurd (omega arith), λ e. never e)
    by_test false = (λ e. refl, λ e. refl)

part-named : (part : Part) (m : Message) → NamedIn (part_row part m) (part_of part m) (parts m)
unfolding part_row part_of parts
part-named Header m = at_head refl
part-named Body m = past_entry {row = 1 + rows_in m.header} {inner = m.header} 0 (omega arith) (at_head refl)
part-named Trailer m =
    past_entry {row = 1 + rows_in m.header + (1 + rows_in m.body)} {inner = m.header} (1 + rows_in m.body) (omega arith)
    (past_entry {row = 1 + rows_in m.body} {inner = m.body} 0 (omega arith) (at_head refl))

pub part_looked_up : (words values : List ℕ) (part : Part) → is_message words values ≡ true → PartLookedUp words values part
unfolding Names part_found
part_looked_up words values part lent =
    record { row = part_row part (message_in words values); answer = rw lent; names = part-named part (message_in words values) }

pub part_never_absent : (words values : List ℕ) (part : Part) → part_found part words values ≡ map.Absent → ⊥
unfolding part_found
part_never_absent words values part = by_test (is_message words values)
  where
    by_test : (b : Bool) → pick b (map.At (part_row part (message_in words values))) map.NoMessage ≡ map.Absent → ⊥
    by_test true e = let z : ◌≡◌ {A = ℕ} 0 1 = cc in omega arith
    by_test false e = let z : ◌≡◌ {A = ℕ} 0 1 = cc in omega arith

-- ===== an entry =====

-- what is answered for an entry of a run: the row that names its map
pub record EntryStands (words values : List ℕ) (row start number : ℕ) (below : Map) : Type 0 where
  pub head : ℕ
  pub answer : entry_found row start number words values ≡ map.At head
  pub names : Names words values head below

-- the entry of a number in a run, with its map named by a row
pub record EntryNamed (words values : List ℕ) (run : Map) (number head : ℕ) : Type 0 where
  pub below : Map
  pub counted : entry_number number run ≡ some below
  pub names : Names words values head below

-- in the map that a row names: where the run on the start tag has an entry of the number its map is found, and only there; else it is absent
pub record EntryLookedUp (words values : List ℕ) (row start number : ℕ) (own : Map) : Type 0 where
  pub held : (below : Map) → entry_number number (run_on start own) ≡ some below → EntryStands words values row start number below
  pub found : (head : ℕ) → entry_found row start number words values ≡ map.At head → EntryNamed words values (run_on start own) number head
  pub absent : (entry_found row start number words values ≡ map.Absent) ↔ (entry_number number (run_on start own) ≡ none)

pub entry_no_message : (words values : List ℕ) (row start number : ℕ)
    → (entry_found row start number words values ≡ map.NoMessage) ↔ (is_message words values ≡ false)
unfolding entry_found
entry_no_message words values row start number = by_test (is_message words values) _
  where
    answered : (looked : Looked Standing) → entry_of start number row looked ≡ map.NoMessage → ⊥
    answered none e = unfold entry_of in let z : ◌≡◌ {A = ℕ} 0 1 = cc in omega arith
    answered (some (standing own place)) e = unfold entry_of in entry-answered start number (row + 1) own e

    by_test : (b : Bool) (looked : Looked Standing) → (pick b (entry_of start number row looked) map.NoMessage ≡ map.NoMessage) ↔ (b ≡ false)
    by_test true looked = (λ e. absurd (answered looked e), λ e. never e)
    by_test false looked = (λ e. refl, λ e. refl)

pub entry_no_map : (words values : List ℕ) (row start number : ℕ) → is_message words values ≡ true → ((own : Map) → Names words values row own → ⊥)
    → entry_found row start number words values ≡ map.Absent
unfolding entry_found entry_of Names
entry_no_map words values row start number lent nowhere = rw (lent, named-nowhere row 0 (parts (message_in words values)) nowhere)

entry_at_lem : (words values : List ℕ) (row start number : ℕ) (own : Map) → is_message words values ≡ true → NamedAt row own (parts (message_in words values))
    → entry_found row start number words values ≡ entry_in start number (row + 1) own
unfolding entry_found entry_of
entry_at_lem words values row start number own lent n = rw (lent, n.found 0)

pub entry_looked_up : (words values : List ℕ) (row start number : ℕ) (own : Map) → is_message words values ≡ true → Names words values row own
    → EntryLookedUp words values row start number own
unfolding Names
entry_looked_up words values row start number own lent names =
    by_told (entry_in start number (row + 1) own) (entry_at_lem words values row start number own lent (named-at names))
    (entry-told start number (row + 1) own (named-parts_formed (message_in words values) (lent_formed words values lent).formed names))
  where
    by_told : (f : FoundMap) → entry_found row start number words values ≡ f
        → EntryTold (row + 1) own (entry_number number (run_on start own)) f → EntryLookedUp words values row start number own
    by_told f e (told-entry head n below h p inner) =
        let named : NamedIn head below (parts (message_in words values)) = rw p (named-within names inner) in
        record {
          held = λ other g. let same : below ≡ other = cc in record { head = head; answer = e; names = rw (← same) named };
          found = λ other g. let same : head ≡ other = cc in record { below = below; counted = h; names = rw (← same) named };
          absent = (
            λ g. let z : ◌≡◌ {A = ℕ} 0 1 = cc in absurd (omega arith),
            λ g. let z : ◌≡◌ {A = ℕ} 0 1 = cc in absurd (omega arith),
          );
        }
    by_told f e (told_no_entry h) =
        record {
          held = λ other g. let z : ◌≡◌ {A = ℕ} 0 1 = cc in absurd (omega arith);
          found = λ other g. let z : ◌≡◌ {A = ℕ} 0 1 = cc in absurd (omega arith);
          absent = (λ g. h, λ g. e);
        }
