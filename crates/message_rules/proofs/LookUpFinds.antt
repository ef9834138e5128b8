-- What is looked up in one map is what it holds: the field of a tag, with its value behind those in front of it, and the entries of a tag,
-- which in a formed map are its run.
use Rattle.std.specs.Prelude.{◌≡◌, Bool, true, List, [], ◌++◌, ℕ, ◌+◌, ◌-◌, eqb}
use Rattle.std.proofs.Math.Path.{refl}
use Rattle.std.proofs.Common.{sym, ◌∙◌, append_assoc, arith, length-append, eqb-true}
use Rattle.std.proofs.Math.Bool.{false}
use Rattle.std.proofs.Math.ListN.{length}
use Rattle.field_rules.specs.Choice.{pick}
use Rattle.message_maps.specs.Map.{Map, end, field, entry, leading, past_leading, run_on, Looked, none, some, value_under, values_in}
use Rattle.message_lent_rules.specs.Formed.{stands, is_formed}
use Rattle.message_lent_rules.specs.StandLaws.{nor, field_formed, entry_formed, behind-field, past_same}
use Rattle.message_rules.specs.LookUps.{rows_in, value_in, entry_in}
use Rattle.message_rules.specs.LookUpNames.{NamedIn, at_head, past_entry, past_field}
use Rattle.message_rules.specs.declared.Value.{Value}
use Rattle.message_rules.specs.declared.FoundValue.{FoundValue}
use Rattle.message_rules.specs.declared.FoundValue.TheVariants as value
use Rattle.message_rules.specs.declared.FoundMap.{FoundMap}
use Rattle.message_rules.specs.declared.FoundMap.TheVariants as map

-- the entry of a number in a run, counted from 0: its own map
unfoldable pub entry_number : ℕ → Map → Looked Map
entry_number number end = none
entry_number number (field t v rest) = entry_number number rest
entry_number number (entry s d own rest) = pick (eqb number 0) (some own) (entry_number (number - 1) rest)

-- the field of a tag: its value stands behind those in front of it
pub data FieldTold (tag place : ℕ) (m : Map) : FoundValue → Type 0 where
  told_at : (span : Value) (before v behind : List ℕ) → value_under tag m ≡ some v → values_in m ≡ before ++ (v ++ behind)
      → span.place ≡ place + length before → span.size ≡ length v → FieldTold tag place m (value.At span)
  told_none : value_under tag m ≡ none → FieldTold tag place m value.Absent

behind-values : (tag place : ℕ) (first : List ℕ) (rest m : Map) → value_under tag m ≡ value_under tag rest → values_in m ≡ first ++ values_in rest
    → (f : FoundValue) → FieldTold tag (place + length first) rest f → FieldTold tag place m f
behind-values tag place first rest m u e f (told_at span before v behind h t p s) =
    told_at span (first ++ before) v behind (u ∙ h) (e ∙ rw t (simp append_assoc)) (omega (arith, p, length-append first before)) s
behind-values tag place first rest m u e f (told_none h) = told_none (u ∙ h)

pub value_told : (tag place : ℕ) (m : Map) → FieldTold tag place m (value_in tag place m)
unfolding value_in
value_told tag place end = told_none (unfold value_under in refl)
value_told tag place (field t v rest) = by_test (eqb t tag) refl (value_told tag (place + length v) rest)
  where
    by_test : (b : Bool) → eqb t tag ≡ b → FieldTold tag (place + length v) rest (value_in tag (place + length v) rest)
        → FieldTold tag place (field t v rest) (pick b (value.At (record { place = place; size = length v })) (value_in tag (place + length v) rest))
    by_test true e again =
        told_at (record { place = place; size = length v }) [] v (values_in rest) (unfold value_under in rw e) (unfold values_in in refl) (omega arith) refl
    by_test false e again =
        behind-values tag place v rest (field t v rest) (unfold value_under in rw e) (unfold values_in in refl) _ again
value_told tag place (entry s d own rest) =
    behind-values tag place (values_in own) rest (entry s d own rest) (unfold value_under in refl) (unfold values_in in refl) _
    (value_told tag (place + length (values_in own)) rest)

-- a map holds a value or holds none
pub value_answered : (tag place : ℕ) (m : Map) → value_in tag place m ≡ value.NoMessage → ⊥
value_answered tag place m e = by_told (value_in tag place m) e (value_told tag place m)
  where
    by_told : (f : FoundValue) → f ≡ value.NoMessage → FieldTold tag place m f → ⊥
    by_told f e (told_at span before v behind h t p s) = let z : ◌≡◌ {A = ℕ} 0 1 = cc in omega arith
    by_told f e (told_none h) = let z : ◌≡◌ {A = ℕ} 0 1 = cc in omega arith

-- an entry: its head's row, counted from a row on
pub data EntryTold (row : ℕ) (m : Map) (looked : Looked Map) : FoundMap → Type 0 where
  told-entry : (r n : ℕ) (below : Map) → looked ≡ some below → r ≡ row + n → NamedIn n below m → EntryTold row m looked (map.At r)
  told_no_entry : looked ≡ none → EntryTold row m looked map.Absent

behind-field_row : (row t : ℕ) (v : List ℕ) (rest : Map) (looked : Looked Map) (f : FoundMap)
    → EntryTold (row + 1) rest looked f → EntryTold row (field t v rest) looked f
behind-field_row row t v rest looked f (told-entry r n below e p h) = told-entry r (1 + n) below e (omega arith) (past_field n refl h)
behind-field_row row t v rest looked f (told_no_entry e) = told_no_entry e

behind-entry_rows : (row s d : ℕ) (own rest : Map) (looked : Looked Map) (f : FoundMap)
    → EntryTold (row + 1 + rows_in own) rest looked f → EntryTold row (entry s d own rest) looked f
behind-entry_rows row s d own rest looked f (told-entry r n below e p h) =
    told-entry r (1 + rows_in own + n) below e (omega arith) (past_entry n refl h)
behind-entry_rows row s d own rest looked f (told_no_entry e) = told_no_entry e

-- a map has an entry or has none
neither-refused : (b : Bool) (x y : FoundMap) → (x ≡ map.NoMessage → ⊥) → (y ≡ map.NoMessage → ⊥) → pick b x y ≡ map.NoMessage → ⊥
neither-refused true x y h k e = h e
neither-refused false x y h k e = k e

pub entry-answered : (start number row : ℕ) (m : Map) → entry_in start number row m ≡ map.NoMessage → ⊥
unfolding entry_in
entry-answered start number row end e = let z : ◌≡◌ {A = ℕ} 0 1 = cc in omega arith
entry-answered start number row (field t v rest) e = entry-answered start number _ rest e
entry-answered start number row (entry s d own rest) e =
    neither-refused (eqb s start) _ _
    (neither-refused (eqb number 0) _ _ (λ h. let z : ◌≡◌ {A = ℕ} 0 1 = cc in omega arith) (entry-answered start (number - 1) _ rest))
    (entry-answered start number _ rest) e

-- where a tag stands nowhere, no entry of it is found
pub entry-none : (start number row : ℕ) (m : Map) → stands start m ≡ false → entry_in start number row m ≡ map.Absent
unfolding stands entry_in
entry-none start number row end h = refl
entry-none start number row (field t v rest) h = entry-none start number (row + 1) rest (nor (eqb t start) _ h).1
entry-none start number row (entry s d own rest) h =
    let n = nor (eqb s start) _ h in
    rw n.0 (entry-none start number (row + 1 + rows_in own) rest n.1)

-- an entry of the tag: it is the one, or one of those behind it
entry_of-run : (start number row s d : ℕ) (own rest run : Map)
    → EntryTold (row + 1 + rows_in own) rest (entry_number (number - 1) run) (entry_in start (number - 1) (row + 1 + rows_in own) rest)
    → EntryTold row (entry s d own rest) (entry_number number (entry s d own run))
    (pick (eqb number 0) (map.At row) (entry_in start (number - 1) (row + 1 + rows_in own) rest))
unfolding entry_number
entry_of-run start number row s d own rest run again = by_test (eqb number 0)
  where
    by_test : (b : Bool)
        → EntryTold row (entry s d own rest) (pick b (some own) (entry_number (number - 1) run))
        (pick b (map.At row) (entry_in start (number - 1) (row + 1 + rows_in own) rest))
    by_test true = told-entry row 0 own refl (omega arith) (at_head refl)
    by_test false = behind-entry_rows row s d own rest _ _ again

-- the entries that lead, where the tag stands no more behind them
leading-told : (start number row : ℕ) (m : Map) → stands start (past_leading start m) ≡ false
    → EntryTold row m (entry_number number (leading start m)) (entry_in start number row m)
leading-told start number row end h = unfold leading entry_number entry_in in told_no_entry refl
leading-told start number row (field t v rest) h =
    unfold leading entry_number entry_in in
    rw (entry-none start number (row + 1) rest (behind-field start t v rest h).1) (told_no_entry refl)
leading-told start number row (entry s d own rest) h =
    by_test (eqb s start) refl h (λ n r k. leading-told start n r rest k)
  where
    by_test : (b : Bool) → eqb s start ≡ b → stands start (past_leading start (entry s d own rest)) ≡ false
        → ((n r : ℕ) → stands start (past_leading start rest) ≡ false → EntryTold r rest (entry_number n (leading start rest)) (entry_in start n r rest))
        → EntryTold row (entry s d own rest) (entry_number number (leading start (entry s d own rest))) (entry_in start number row (entry s d own rest))
    by_test true e h again =
        unfold leading entry_in in rw e
        (entry_of-run start number row s d own rest (leading start rest)
        (again (number - 1) (row + 1 + rows_in own) (sym (past_same start s d own rest e) ∙ h)))
    by_test false e h again =
        rw (entry-none start number row (entry s d own rest) (unfold past_leading in rw e at h))
        (unfold leading entry_number in rw e (told_no_entry refl))

-- in a formed map the entries of a tag are its run
pub entry-told : (start number row : ℕ) (m : Map) → is_formed m ≡ true → EntryTold row m (entry_number number (run_on start m)) (entry_in start number row m)
unfolding run_on entry_in
entry-told start number row end f = unfold entry_number in told_no_entry refl
entry-told start number row (field t v rest) f =
    behind-field_row row t v rest _ _ (entry-told start number (row + 1) rest (field_formed t v rest f).rest_formed)
entry-told start number row (entry s d own rest) f =
    by_test (eqb s start) refl (entry-told start number (row + 1 + rows_in own) rest (entry_formed s d own rest f).rest_formed)
  where
    by_test : (b : Bool) → eqb s start ≡ b
        → EntryTold (row + 1 + rows_in own) rest (entry_number number (run_on start rest)) (entry_in start number (row + 1 + rows_in own) rest)
        → EntryTold row (entry s d own rest) (entry_number number (run_on start (entry s d own rest))) (entry_in start number row (entry s d own rest))
    by_test true e again =
        let once : stands start (past_leading start rest) ≡ false = rw (eqb-true s start e) at (entry_formed s d own rest f).once in
        rw e
        (entry_of-run start number row s d own rest (leading start rest) (leading-told start (number - 1) (row + 1 + rows_in own) rest once))
    by_test false e again = rw e (behind-entry_rows row s d own rest _ _ again)
