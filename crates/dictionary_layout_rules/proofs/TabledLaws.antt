-- Laws of what specs/Tabled.antt defines.
use Rattle.std.specs.Prelude.{◌≡◌, refl, Bool, true, false, List, [], ◌∷◌, ◌++◌, ℕ, ◌+◌, ◌*◌, ◌/◌, ◌%◌, ◌≤◌, ◌<◌, length, get_or, eqb}
use Rattle.std.proofs.Common.{sym, ◌∙◌, append_assoc, arith, length-append, get_or-append-add}
use Rattle.std.proofs.Math.Path.{ap}
use Rattle.dictionary_layout_rules.specs.Layout.{Layout, end, field, group, items}
use Rattle.dictionary_layout_rules.specs.Table.{mark, marks, rows_from, Row, next_sibling, row_at, siblings_from}
use Rattle.dictionary_layout_rules.proofs.TableLaws.{sibling_link, walk-on, walk_end}
use Rattle.dictionary_layout_rules.specs.Tabled.{RowSays, RowsStand, own_rows, row_before}

-- four words to an item
pub rows_length : (at : ℕ) (layout : Layout) → length (rows_from at layout) ≡ 4 * items layout
unfolding rows_from items
rows_length at end = refl
rows_length at (field tag required rest) = omega (arith, rows_length (at + 1) rest)
rows_length at (group tag required inner rest) =
    omega (arith, length-append (rows_from (at + 1) inner) (rows_from (at + 1 + items inner) rest), rows_length (at + 1) inner, rows_length (at + 1 + items inner) rest)

pub mark-read : (b : Bool) → eqb (mark b) 1 ≡ b
unfolding mark
mark-read true = refl
mark-read false = refl

required_read : (required is_group : Bool) → eqb (marks required is_group % 2) 1 ≡ required
unfolding marks mark
required_read true true = refl
required_read true false = refl
required_read false true = refl
required_read false false = refl

group-read : (required is_group : Bool) → eqb (marks required is_group / 2) 1 ≡ is_group
unfolding marks mark
group-read true true = refl
group-read true false = refl
group-read false true = refl
group-read false false = refl

pub row_says : (table before more : List ℕ) (at tag : ℕ) (required is_group : Bool) (link : ℕ) → table ≡ before ++ row_before tag required is_group link more →
    length before ≡ 4 * at → RowSays table at tag required is_group link
row_says table before more at tag required is_group link whole start =
    record {
      tagged = rw (word 0 (4 * at) (omega arith), word 1 (4 * at + 1) (omega arith)) (omega arith);
      marked = rw (word 2 (4 * at + 2) (omega arith)) (required_read required is_group);
      grouped = rw (word 2 (4 * at + 2) (omega arith)) (group-read required is_group);
      linked = word 3 (4 * at + 3) (omega arith);
    }
  where
    word : (k place : ℕ) → place ≡ length before + k → get_or table place 0 ≡ get_or (row_before tag required is_group link more) k 0
    word k place e = rw (whole, e, get_or-append-add)

-- a row reads as what was written there
row_read : (table : List ℕ) (at tag : ℕ) (required is_group : Bool) (link stop : ℕ) → RowSays table at tag required is_group link → at < link →
    row_at table at stop ≡ record { place = at; tag = tag; required = required; is_group = is_group; link = link; next = link }
unfolding row_at
row_read table at tag required is_group link stop s rises =
    rw (sibling_link table at stop (omega (arith, s.linked)), s.tagged, s.marked, s.grouped, s.linked)

-- what follows an item stands where it ends, and a group's entries right after its row
pub field-rest : {table : List ℕ} {at tag : ℕ} {required : Bool} {rest : Layout} → RowsStand table at (field tag required rest) → RowsStand table (at + 1) rest
unfolding rows_from
field-rest {table} {at} {tag} {required} {rest} s =
    let words : List ℕ = row_before tag required false (at + 1) [] in
    record { before = s.before ++ words; after = s.after; whole = s.whole ∙ sym (append_assoc s.before words _); start = length-append s.before words ∙ omega (arith, s.start) }

pub group-inner : {table : List ℕ} {at tag : ℕ} {required : Bool} {inner rest : Layout} → RowsStand table at (group tag required inner rest) → RowsStand table (at + 1) inner
unfolding rows_from
group-inner {table} {at} {tag} {required} {inner} {rest} s =
    let words : List ℕ = row_before tag required true (at + 1 + items inner) [] in
    record { before = s.before ++ words; after = rows_from (at + 1 + items inner) rest ++ s.after; whole = s.whole ∙ ap (λ (l : List ℕ). s.before ++ (words ++ l)) (append_assoc (rows_from (at + 1) inner) _ _) ∙ sym (append_assoc s.before words _); start = length-append s.before words ∙ omega (arith, s.start) }

pub group-rest : {table : List ℕ} {at tag : ℕ} {required : Bool} {inner rest : Layout} → RowsStand table at (group tag required inner rest) → RowsStand table (at + 1 + items inner) rest
unfolding group-inner rows_from
group-rest {table} {at} {tag} {required} {inner} {rest} s =
    let i = group-inner s in
    record { before = i.before ++ rows_from (at + 1) inner; after = s.after; whole = i.whole ∙ sym (append_assoc i.before _ _); start = length-append i.before _ ∙ omega (arith, i.start, rows_length (at + 1) inner) }

-- walking over a row that was written
walk-written : (table before more : List ℕ) (at tag : ℕ) (required is_group : Bool) (link stop : ℕ) →
    table ≡ before ++ row_before tag required is_group link more → length before ≡ 4 * at → at < link → at < stop →
    siblings_from table at stop ≡ record { place = at; tag = tag; required = required; is_group = is_group; link = link; next = link } ∷ siblings_from table link stop
walk-written table before more at tag required is_group link stop whole start rises h =
    walk-on table at stop h ∙ rw (e, next)
  where
    e : row_at table at stop ≡ record { place = at; tag = tag; required = required; is_group = is_group; link = link; next = link }
    e = row_read table at tag required is_group link stop (row_says table before more at tag required is_group link whole start) rises

    next : next_sibling table at stop ≡ link
    next = unfold row_at in ap (λ (r : Row). r.next) e

-- a level's rows are the layout's own items
pub own_rows_lem : (table : List ℕ) (at stop : ℕ) (layout : Layout) → RowsStand table at layout → stop ≡ at + items layout → siblings_from table at stop ≡ own_rows at layout
unfolding own_rows items
own_rows_lem table at stop end s e = walk_end table at stop (omega arith)
own_rows_lem table at stop (field tag required rest) s e =
    walk-written table s.before (rows_from (at + 1) rest ++ s.after) at tag required false (at + 1) stop
    (unfold rows_from in s.whole) s.start (omega arith) (omega arith)
    ∙ rw (own_rows_lem table (at + 1) stop rest (field-rest s) (omega arith))
own_rows_lem table at stop (group tag required inner rest) s e =
    walk-written table s.before ((rows_from (at + 1) inner ++ rows_from (at + 1 + items inner) rest) ++ s.after) at tag required true
    (at + 1 + items inner) stop (unfold rows_from in s.whole) s.start (omega arith) (omega arith)
    ∙ rw (own_rows_lem table (at + 1 + items inner) stop rest (group-rest s) (omega arith))

-- the level's stretch lies in the table
pub stands-length : (table : List ℕ) (at : ℕ) (layout : Layout) → RowsStand table at layout → at + items layout ≤ length table / 4
stands-length table at layout s =
    omega (arith, ap length s.whole, length-append s.before (rows_from at layout ++ s.after), length-append (rows_from at layout) s.after, rows_length at layout, s.start)
