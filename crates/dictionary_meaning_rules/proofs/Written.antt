-- A layout written into a table row by row, in the order in which flattening does it, leaves the layout's rows there and the rest of the
-- table as it was. Two layouts one after the other are written one after the other.
use Rattle.std.specs.Prelude.{◌≡◌, refl, Bool, true, false, List, [], ◌∷◌, ◌++◌, ℕ, ◌+◌, ◌*◌, ◌/◌, ◌%◌, ◌≤◌, length, set, take, drop}
use Rattle.std.proofs.Common.{sym, ap, ◌∙◌, append_assoc, arith, length-append, length-drop, take-append-drop, length-take-le}
use Rattle.std.proofs.lemmas.List.{set_at}
use Rattle.dictionary_layout_rules.specs.Layout.{Layout, end, field, group, followed_by, items}
use Rattle.dictionary_layout_rules.specs.Table.{marks, rows_from}
use Rattle.dictionary_layout_rules.specs.Tabled.{row_before, RowsStand}
use Rattle.dictionary_layout_rules.proofs.TabledLaws.{rows_length}
use Rattle.dictionary_meaning_rules.specs.Laying.{put_row}
use Rattle.dictionary_meaning_rules.proofs.LayingLaws.{put-length}

unfoldable pub written : ℕ → Layout → List ℕ → List ℕ
written row end table = table
written row (field tag required rest) table = written (row + 1) rest (put_row table row tag required false (row + 1))
written row (group tag required inner rest) table =
    written (row + 1 + items inner) rest (put_row (written (row + 1) inner table) row tag required true (row + 1 + items inner))

pub items-followed : (a b : Layout) → items (followed_by a b) ≡ items a + items b
unfolding items followed_by
items-followed end b = omega arith
items-followed (field tag required rest) b = omega (arith, items-followed rest b)
items-followed (group tag required inner rest) b = omega (arith, items-followed rest b)

pub followed-end : (a : Layout) → followed_by a end ≡ a
unfolding followed_by
followed-end end = refl
followed-end (field tag required rest) = rw (followed-end rest)
followed-end (group tag required inner rest) = rw (followed-end rest)

pub written-followed : (row : ℕ) (a b : Layout) (table : List ℕ) → written row (followed_by a b) table ≡ written (row + items a) b (written row a table)
unfolding written followed_by items
written-followed row end b table = let e : row + 0 ≡ row = omega arith in rw e
written-followed row (field tag required rest) b table =
    let e : row + (1 + items rest) ≡ row + 1 + items rest = omega arith in
    rw e (written-followed (row + 1) rest b (put_row table row tag required false (row + 1)))
written-followed row (group tag required inner rest) b table =
    let e : row + (1 + (items inner + items rest)) ≡ row + 1 + items inner + items rest = omega arith in
    rw e (written-followed (row + 1 + items inner) rest b (put_row (written (row + 1) inner table) row tag required true (row + 1 + items inner)))

pub written-length : (row : ℕ) (a : Layout) (table : List ℕ) → length (written row a table) ≡ length table
unfolding written
written-length row end table = refl
written-length row (field tag required rest) table = written-length (row + 1) rest _ ∙ put-length table row tag required false (row + 1)
written-length row (group tag required inner rest) table =
    written-length (row + 1 + items inner) rest _ ∙ put-length (written (row + 1) inner table) row tag required true (row + 1 + items inner) ∙ written-length (row + 1) inner table

set_in : (p mid : List ℕ) (y : ℕ) (ys : List ℕ) (a n : ℕ) → n ≡ length p + length mid → set (p ++ (mid ++ (y ∷ ys))) n a ≡ p ++ (mid ++ (a ∷ ys))
set_in p mid y ys a n e =
    ap (λ (l : List ℕ). set l n a) (sym (append_assoc p mid (y ∷ ys)))
    ∙ set_at (p ++ mid) y ys a n (length-append p mid ∙ sym e)
    ∙ append_assoc p mid (a ∷ ys)

-- a row is written over four words
put-over : (before more : List ℕ) (a b c d row tag : ℕ) (required is_group : Bool) (link : ℕ) → length before ≡ 4 * row →
    put_row (before ++ (a ∷ b ∷ c ∷ d ∷ more)) row tag required is_group link ≡ before ++ row_before tag required is_group link more
unfolding put_row
put-over before more a b c d row tag required is_group link e =
    let low : ℕ = tag % 65536 in
    let high : ℕ = tag / 65536 in
    let both : ℕ = marks required is_group in
    ap (λ (l : List ℕ). set (set (set l (4 * row + 1) high) (4 * row + 2) both) (4 * row + 3) link)
    (set_in before [] a (b ∷ c ∷ d ∷ more) low (4 * row) (omega arith))
    ∙ ap (λ (l : List ℕ). set (set l (4 * row + 2) both) (4 * row + 3) link) (set_in before (low ∷ []) b (c ∷ d ∷ more) high (4 * row + 1) (omega arith))
    ∙ ap (λ (l : List ℕ). set l (4 * row + 3) link) (set_in before (low ∷ high ∷ []) c (d ∷ more) both (4 * row + 2) (omega arith))
    ∙ set_in before (low ∷ high ∷ both ∷ []) d more link (4 * row + 3) (omega arith)

-- four words and the rest of a list that is long enough
pub record Four (l : List ℕ) (n : ℕ) : Type 0 where
  pub a : ℕ
  pub b : ℕ
  pub c : ℕ
  pub d : ℕ
  pub more : List ℕ
  pub whole : l ≡ a ∷ b ∷ c ∷ d ∷ more
  pub size : length more ≡ n

four : (l : List ℕ) (n : ℕ) → length l ≡ 4 + n → Four l n
four [] n e = absurd (omega arith)
four (a ∷ []) n e = absurd (omega arith)
four (a ∷ b ∷ []) n e = absurd (omega arith)
four (a ∷ b ∷ c ∷ []) n e = absurd (omega arith)
four (a ∷ b ∷ c ∷ d ∷ more) n e = record { a = a; b = b; c = c; d = d; more = more; whole = refl; size = omega arith }

-- a group over its words, given what becomes of its entries and of what follows
group-over : (row tag : ℕ) (required : Bool) (inner rest : Layout) (before : List ℕ) (a b c d : ℕ) (first last after : List ℕ) → length before ≡ 4 * row →
    written (row + 1) inner ((before ++ (a ∷ b ∷ c ∷ d ∷ [])) ++ (first ++ (last ++ after))) ≡ (before ++ (a ∷ b ∷ c ∷ d ∷ [])) ++ (rows_from (row + 1) inner ++ (last ++ after)) →
    ((words : List ℕ) → length words ≡ 4 + 4 * items inner → written (row + 1 + items inner) rest ((before ++ words) ++ (last ++ after)) ≡ (before ++ words) ++ (rows_from (row + 1 + items inner) rest ++ after)) →
    written row (group tag required inner rest) (before ++ (a ∷ b ∷ c ∷ d ∷ (first ++ (last ++ after)))) ≡ before ++ (rows_from row (group tag required inner rest) ++ after)
unfolding written rows_from
group-over row tag required inner rest before a b c d first last after e within following =
    let link : ℕ = row + 1 + items inner in
    let holes : List ℕ = a ∷ b ∷ c ∷ d ∷ [] in
    let rows : List ℕ = rows_from (row + 1) inner in
    let words : List ℕ = row_before tag required true link rows in
    ap (λ (l : List ℕ). written link rest (put_row (written (row + 1) inner l) row tag required true link)) (sym (append_assoc before holes (first ++ (last ++ after))))
    ∙ ap (λ (l : List ℕ). written link rest (put_row l row tag required true link)) (within ∙ append_assoc before holes (rows ++ (last ++ after)))
    ∙ ap (λ (l : List ℕ). written link rest l) (put-over before (rows ++ (last ++ after)) a b c d row tag required true link e ∙ sym (append_assoc before words (last ++ after)))
    ∙ following words (omega (arith, rows_length (row + 1) inner))
    ∙ append_assoc before words (rows_from link rest ++ after)
    ∙ ap (λ (l : List ℕ). before ++ row_before tag required true link l) (sym (append_assoc rows (rows_from link rest) after))

-- written over as many words as the layout takes, the rows take their place
pub written_over : (row : ℕ) (layout : Layout) (before old after : List ℕ) → length before ≡ 4 * row → length old ≡ 4 * items layout → written row layout (before ++ (old ++ after)) ≡ before ++ (rows_from row layout ++ after)
unfolding written rows_from items
written_over row end before [] after e o = refl
written_over row end before (x ∷ old) after e o = absurd (omega arith)
written_over row (field tag required rest) before old after e o =
    let f = four old (4 * items rest) (omega arith) in
    let words : List ℕ = row_before tag required false (row + 1) [] in
    ap (λ (l : List ℕ). written (row + 1) rest (put_row (before ++ (l ++ after)) row tag required false (row + 1))) f.whole
    ∙ ap (λ (l : List ℕ). written (row + 1) rest l) (put-over before (f.more ++ after) f.a f.b f.c f.d row tag required false (row + 1) e ∙ sym (append_assoc before words (f.more ++ after)))
    ∙ written_over (row + 1) rest (before ++ words) f.more after (length-append before words ∙ omega arith) f.size
    ∙ append_assoc before words (rows_from (row + 1) rest ++ after)
written_over row (group tag required inner rest) before old after e o =
    let f = four old (4 * (items inner + items rest)) (omega arith) in
    by_parts (written_over (row + 1) inner) (written_over (row + 1 + items inner) rest) f.a f.b f.c f.d f.more f.whole f.size
  where
    by_parts : ((before old after : List ℕ) → length before ≡ 4 * (row + 1) → length old ≡ 4 * items inner → written (row + 1) inner (before ++ (old
        ++ after)) ≡ before ++ (rows_from (row + 1) inner ++ after)) → ((before old after : List ℕ) → length before ≡ 4 * (row + 1 + items inner) →
        length old ≡ 4 * items rest → written (row + 1 + items inner) rest (before ++ (old ++ after)) ≡ before ++ (rows_from (row + 1 + items inner) rest
        ++ after)) → (a b c d : ℕ) (more : List ℕ) → old ≡ a ∷ b ∷ c ∷ d ∷ more → length more ≡ 4 * (items inner + items rest) →
        written row (group tag required inner rest) (before ++ (old ++ after)) ≡ before ++ (rows_from row (group tag required inner rest) ++ after)
    by_parts inners follows a b c d more w n =
        ap (λ (l : List ℕ). written row (group tag required inner rest) (before ++ (l ++ after))) (w ∙ ap (λ (l : List ℕ). a ∷ b ∷ c ∷ d ∷ l) (sym (take-append-drop (4 * items inner) more)))
        ∙ ap (λ (l : List ℕ). written row (group tag required inner rest) (before ++ (a ∷ b ∷ c ∷ d ∷ l))) (append_assoc (take (4 * items inner) more) (drop (4 * items inner) more) after)
        ∙ group-over row tag required inner rest before a b c d (take (4 * items inner) more) (drop (4 * items inner) more) after e
        (inners (before ++ (a ∷ b ∷ c ∷ d ∷ [])) (take (4 * items inner) more) (drop (4 * items inner) more ++ after) (length-append before (a ∷ b ∷ c ∷ d ∷ []) ∙ omega arith) (length-take-le (4 * items inner) more (omega arith)))
        (λ words k. follows (before ++ words) (drop (4 * items inner) more) after (length-append before words ∙ omega arith) (length-drop (4 * items inner) more ∙ omega arith))

-- so the layout stands in the table
pub written_stands : (row : ℕ) (layout : Layout) (table : List ℕ) → 4 * (row + items layout) ≤ length table → RowsStand (written row layout table) row layout
written_stands row layout table h =
    record {
      before = take (4 * row) table;
      after = drop (4 * items layout) (drop (4 * row) table);
      whole = ap (λ (l : List ℕ). written row layout l) (sym (take-append-drop (4 * row) table) ∙ ap (λ (l : List ℕ). take (4 * row) table ++ l) (sym (take-append-drop (4 * items layout) (drop (4 * row) table))))
          ∙ written_over row layout (take (4 * row) table) (take (4 * items layout) (drop (4 * row) table)) (drop (4 * items layout) (drop (4 * row) table)) (length-take-le (4 * row) table (omega arith)) (length-take-le (4 * items layout) (drop (4 * row) table) (rw length-drop (omega arith)));
      start = length-take-le (4 * row) table (omega arith);
    }
