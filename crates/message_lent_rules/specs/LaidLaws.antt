-- What the rows of a map count: the sizes of its values, its fields, and at most two rows to a field.
use Rattle.std.specs.Prelude.{◌≡◌, refl, Bool, true, false, ℕ, suc, ◌+◌, ◌*◌, ◌≤◌, ◌<◌, length, leb}
use Rattle.std.proofs.Common.{ap, ◌∙◌, arith, length-append, leb-true, le-leb, eq-eqb, ne_eqb, le-ltb}
use mathlib.Core.List.{List, [], ◌∷◌, ◌++◌, append_assoc}
use Rattle.std.proofs.lemmas.Bool.{lt-leb}
use Rattle.field_rules.specs.Choice.{pick}
use Rattle.message_maps.specs.Map.{Map, end, field, entry, values_in, field_count, holds_any}
use Rattle.message_maps.specs.Rows.{Row, row, laid, sizes, size_of, level_of}
use Rattle.message_lent_rules.specs.Lent.{is_own, own_below, weight, fields_in}
use Rattle.message_lent_rules.specs.Meaning.{Message, parts}

pub sizes-append : (a b : List Row) → sizes (a ++ b) ≡ sizes a + sizes b
unfolding sizes
sizes-append [] b = omega arith
sizes-append (r ∷ a) b = omega (arith, sizes-append a b)

-- the values of a map have the sizes that its rows say
pub sizes-laid : (l : ℕ) (m : Map) → sizes (laid l m) ≡ length (values_in m)
unfolding laid sizes size_of values_in
sizes-laid l end = refl
sizes-laid l (field t v rest) = omega (arith, sizes-laid l rest, length-append v (values_in rest))
sizes-laid l (entry s d own rest) =
    omega (arith, sizes-append (laid (l + 1) own) (laid l rest), sizes-laid (l + 1) own, sizes-laid l rest, length-append (values_in own) (values_in rest))

-- a map has at most two rows for each field that it counts
pub rows_few : (l : ℕ) (m : Map) → length (laid l m) + pick (holds_any m) 1 0 ≤ 2 * field_count m
unfolding laid holds_any field_count
rows_few l end = omega arith
rows_few l (field t v rest) = by_any (holds_any rest) (rows_few l rest)
  where
    by_any : (b : Bool) → length (laid l rest) + pick b 1 0 ≤ 2 * field_count rest → suc (length (laid l rest)) + 1 ≤ 2 * (1 + field_count rest)
    by_any true h = omega arith
    by_any false h = omega arith
rows_few l (entry s d own rest) = by_any (holds_any own) (rows_few (l + 1) own) (rows_few l rest)
  where
    by_any : (b : Bool) → length (laid (l + 1) own) + pick b 1 0 ≤ 2 * field_count own → length (laid l rest) + pick (holds_any rest) 1 0 ≤ 2 * field_count rest
        → suc (length (laid (l + 1) own ++ laid l rest)) + pick (holds_any rest) 1 0 ≤ 2 * (pick b 0 1 + field_count own + field_count rest)
    by_any true h k = omega (arith, length-append (laid (l + 1) own) (laid l rest))
    by_any false h k = omega (arith, length-append (laid (l + 1) own) (laid l rest))

-- rows behind which a map of a level ends
unfoldable pub shallow : ℕ → List Row → Bool
shallow l [] = true
shallow l (r ∷ rows) = leb (level_of r) l

shallow-laid : (l : ℕ) (m : Map) (rest : List Row) → shallow l rest ≡ true → shallow l (laid l m ++ rest) ≡ true
unfolding shallow laid level_of
shallow-laid l end rest h = h
shallow-laid l (field t v more) rest h = le-leb l l (omega arith)
shallow-laid l (entry s d own more) rest h = le-leb l l (omega arith)

shallow-none : (l : ℕ) (rest : List Row) → shallow l rest ≡ true → own_below l rest ≡ false
unfolding shallow own_below
shallow-none l [] h = refl
shallow-none l (r ∷ rest) h = rw h

own-deeper : (l : ℕ) (m : Map) (d : ℕ) (rest : List Row) → l + 1 < d → own_below l (laid d m ++ rest) ≡ own_below l rest
unfolding laid own_below is_own level_of
own-deeper l end d rest h = refl
own-deeper l (field t v more) d rest h = rw (lt-leb d l (omega arith), ne_eqb d (l + 1) (λ e. omega arith)) (own-deeper l more d rest h)
own-deeper l (entry s x own more) d rest h =
    rw (lt-leb d l (omega arith))
    (ap (own_below l) (append_assoc (laid (d + 1) own) (laid d more) rest)
    ∙ own-deeper l own (d + 1) (laid d more ++ rest) (omega arith)
    ∙ own-deeper l more d rest h)

own_any : (l : ℕ) (m : Map) (rest : List Row) → shallow l rest ≡ true → own_below l (laid (l + 1) m ++ rest) ≡ holds_any m
unfolding laid own_below is_own level_of holds_any
own_any l end rest h = shallow-none l rest h
own_any l (field t v more) rest h = rw (lt-leb (l + 1) l (omega arith), eq-eqb (l + 1) (l + 1) refl)
own_any l (entry s d own more) rest h =
    rw (lt-leb (l + 1) l (omega arith))
    (ap (own_below l) (append_assoc (laid (l + 1 + 1) own) (laid (l + 1) more) rest)
    ∙ own-deeper l own (l + 1 + 1) (laid (l + 1) more ++ rest) (omega arith)
    ∙ own_any l more rest h)

shallow_up : (l : ℕ) (rest : List Row) → shallow l rest ≡ true → shallow (l + 1) rest ≡ true
unfolding shallow
shallow_up l [] h = refl
shallow_up l (r ∷ rest) h = let k = leb-true (level_of r) l h in le-leb (level_of r) (l + 1) (omega arith)

field-weight : (floor l t x : ℕ) (rows : List Row) → weight floor (row 1 l t x) rows ≡ 1
unfolding weight
field-weight floor l t x rows = refl

head_weight : (floor l s d : ℕ) (own : Map) (rest : List Row) → floor ≤ l → shallow l rest ≡ true → weight floor (row 2 l s d) (laid (l + 1) own ++ rest) ≡ pick (holds_any own) 0 1
unfolding weight
head_weight floor l s d own rest h k = rw (le-ltb l floor h, own_any l own rest k)

-- the fields that rows count are those of the map
pub fields_laid : (floor l : ℕ) (m : Map) (rest : List Row) → floor ≤ l → shallow l rest ≡ true → fields_in floor (laid l m ++ rest) ≡ field_count m + fields_in floor rest
unfolding laid fields_in field_count
fields_laid floor l end rest h s = omega arith
fields_laid floor l (field t v more) rest h s = omega (arith, field-weight floor l t (length v) (laid l more ++ rest), fields_laid floor l more rest h s)
fields_laid floor l (entry x d own more) rest h s =
    let behind = laid l more ++ rest in
    let near = shallow-laid l more rest s in
    ap (λ (r : List Row). weight floor (row 2 l x d) r + fields_in floor r) (append_assoc (laid (l + 1) own) (laid l more) rest)
    ∙ omega (arith, head_weight floor l x d own behind h near, fields_laid floor (l + 1) own behind (omega arith) (shallow_up l behind near), fields_laid floor l more rest h s)

-- the fields of a message are those of its three maps; its parts are no entries
pub fields-parts : (m : Message) → fields_in 1 (laid 0 (parts m)) ≡ field_count m.header + (field_count m.body + field_count m.trailer)
unfolding laid parts fields_in weight
fields-parts m =
    omega (
      arith,
      fields_laid 1 1 m.header (row 2 0 2 0 ∷ (laid 1 m.body ++ (row 2 0 3 0 ∷ (laid 1 m.trailer ++ [])))) (omega arith) (unfold shallow level_of in refl),
      fields_laid 1 1 m.body (row 2 0 3 0 ∷ (laid 1 m.trailer ++ [])) (omega arith) (unfold shallow level_of in refl),
      fields_laid 1 1 m.trailer [] (omega arith) (unfold shallow in refl),
    )

-- and it has at most two rows for each, and three heads
pub rows_parts : (m : Message) → length (laid 0 (parts m)) ≤ 3 + 2 * (field_count m.header + (field_count m.body + field_count m.trailer))
unfolding laid parts
rows_parts m =
    omega (
      arith,
      length-append (laid 1 m.header) (row 2 0 2 0 ∷ (laid 1 m.body ++ (row 2 0 3 0 ∷ (laid 1 m.trailer ++ [])))),
      length-append (laid 1 m.body) (row 2 0 3 0 ∷ (laid 1 m.trailer ++ [])),
      length-append (laid 1 m.trailer) [],
      few_rows 1 m.header,
      few_rows 1 m.body,
      few_rows 1 m.trailer,
    )
  where
    few_rows : (l : ℕ) (m : Map) → length (laid l m) ≤ 2 * field_count m
    few_rows l m = by_any (holds_any m) (rows_few l m)
      where
        by_any : (b : Bool) → length (laid l m) + pick b 1 0 ≤ 2 * field_count m → length (laid l m) ≤ 2 * field_count m
        by_any true h = omega arith
        by_any false h = omega arith
