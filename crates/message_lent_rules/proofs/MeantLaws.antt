-- A map's layout means that map, whatever it is and whatever stands behind: the rows are read back from the words, and what a map's rows
-- open is that map in front of what the rows behind it open.
use Rattle.std.specs.Prelude.{◌≡◌, refl, List, [], ◌∷◌, ◌++◌, ℕ, suc, ◌+◌, ◌-◌, ◌*◌, ◌≤◌, length, get_or, drop}
use Rattle.std.proofs.Common.{sym, ap, ◌∙◌, append_assoc, append-nil, arith, take_at, drop_at, get_or-drop, drop-drop}
use Rattle.std.proofs.Math.Nat.{sub-zero}
use Rattle.message_maps.specs.Map.{Map, end, field, entry, joined, values_in}
use Rattle.message_maps.specs.Rows.{Row, row, laid, flat, row_at, rows_from, padded, size_of}
use Rattle.message_lent_rules.specs.Lent.{row_count, rows_of}
use Rattle.message_lent_rules.specs.Meaning.{Message, parts, words_of, value_bytes_of, LaysOut, opened, with_field, with_entry, with_row, open_in, outermost, third_of, second_of, parts_in, message_in}
use Rattle.message_lent_rules.proofs.MeaningLaws.{opened-length}

-- the rows that words hold are those that they were made from
pub rows_back : (rows : List Row) (i : ℕ) (words behind : List ℕ) → drop (4 * i + 1) words ≡ flat rows ++ behind → rows_from (length rows) i words ≡ rows
unfolding flat rows_from row_at
rows_back [] i words behind e = refl
rows_back (row k l t x ∷ rows) i words behind e =
    let word : (j n : ℕ) → 4 * i + 1 + j ≡ n → get_or words n 0 ≡ get_or (k ∷ l ∷ t ∷ x ∷ (flat rows ++ behind)) j 0 =
    λ j n f. ap (λ (p : ℕ). get_or words p 0) (sym f) ∙ sym (get_or-drop (4 * i + 1) words j 0) ∙ ap (λ (s : List ℕ). get_or s j 0) e in
    let five : 4 * i + 1 + 4 ≡ 4 * (i + 1) + 1 = omega arith in
    let next : drop (4 * (i + 1) + 1) words ≡ flat rows ++ behind = ap (λ (n : ℕ). drop n words) (sym five) ∙ sym (drop-drop 4 (4 * i + 1) words) ∙ ap (drop 4) e in
    rw (word 0 (4 * i + 1) (omega arith), word 1 (4 * i + 2) (omega arith), word 2 (4 * i + 3) (omega arith), word 3 (4 * i + 4) (omega arith), rows_back rows (i + 1) words behind next)

rows_read : (rows : List Row) (behind : List ℕ) → rows_of (length rows ∷ (flat rows ++ behind)) ≡ rows
unfolding rows_of row_count
rows_read rows behind = rw (sub-zero (length rows)) (rows_back rows 0 (length rows ∷ (flat rows ++ behind)) behind refl)

-- what is open, down to a level at least
unfoldable raised : ℕ → List Map → List Map
raised l maps = opened (l + 1 - length maps) maps

-- a map in front of the deepest that is open
unfoldable in_front : Map → List Map → List Map
in_front m [] = []
in_front m (first ∷ maps) = joined m first ∷ maps

pub joined_end : (m : Map) → joined m end ≡ m
unfolding joined
joined_end end = refl
joined_end (field t v rest) = ap (field t v) (joined_end rest)
joined_end (entry s d own rest) = ap (entry s d own) (joined_end rest)

front_length : (m : Map) (maps : List Map) → length (in_front m maps) ≡ length maps
unfolding in_front
front_length m [] = refl
front_length m (first ∷ maps) = refl

front-none : (maps : List Map) → in_front end maps ≡ maps
unfolding in_front joined
front-none [] = refl
front-none (first ∷ maps) = refl

front-field : (t : ℕ) (v : List ℕ) (rest : Map) (maps : List Map) → with_field t v (in_front rest maps) ≡ in_front (field t v rest) maps
unfolding in_front joined with_field
front-field t v rest [] = refl
front-field t v rest (first ∷ maps) = refl

front-entry : (s d : ℕ) (own rest : Map) (maps : List Map) → 1 ≤ length maps → with_entry s d (in_front own (end ∷ in_front rest maps)) ≡ in_front (entry s d own rest) maps
unfolding in_front joined with_entry
front-entry s d own rest [] h = absurd (omega arith)
front-entry s d own rest (first ∷ maps) h = ap (λ (o : Map). entry s d o (joined rest first) ∷ maps) (joined_end own)

raised-length : (l : ℕ) (maps : List Map) → length maps ≤ l + 1 → length (raised l maps) ≡ l + 1
unfolding raised
raised-length l maps h = omega (arith, opened-length (l + 1 - length maps) maps)

raised-low : (l : ℕ) (maps : List Map) → length (raised l maps) ≡ l + 1 → length maps ≤ l + 1
unfolding raised
raised-low l maps h = omega (arith, opened-length (l + 1 - length maps) maps)

raised_still : (l : ℕ) (maps : List Map) → length maps ≡ l + 1 → raised l maps ≡ maps
unfolding raised opened
raised_still l maps h = let e : l + 1 - length maps ≡ 0 = omega arith in rw e

raised-more : (l : ℕ) (maps : List Map) → length maps ≤ l + 1 → raised (l + 1) maps ≡ end ∷ raised l maps
unfolding raised opened
raised-more l maps h = let e : l + 1 + 1 - length maps ≡ suc (l + 1 - length maps) = omega arith in rw e

-- what the row of a field and the head of an entry open
open_row-field : (l t : ℕ) (v : List ℕ) (rows : List Row) (values : List ℕ) → open_in (row 1 l t (length v) ∷ rows) (v ++ values) ≡ with_field t v (raised l (open_in rows values))
unfolding open_in with_row size_of raised
open_row-field l t v rows values = rw (take_at v values (length v) refl, drop_at v values (length v) refl)

open_row_head : (l s d : ℕ) (rows : List Row) (values : List ℕ) → open_in (row 2 l s d ∷ rows) values ≡ with_entry s d (raised (l + 1) (open_in rows values))
unfolding open_in with_row size_of raised
open_row_head l s d rows values = let e : l + 1 + 1 ≡ l + 2 = omega arith in rw e

-- the law: a map's rows put the map in front of what is open at its level
open_laid : (l : ℕ) (m : Map) (rows : List Row) (values : List ℕ) → length (open_in rows values) ≤ l + 1
    → raised l (open_in (laid l m ++ rows) (values_in m ++ values)) ≡ in_front m (raised l (open_in rows values))
unfolding laid values_in
open_laid l end rows values low = sym (front-none _)
open_laid l (field t v rest) rows values low =
    let behind = open_in (laid l rest ++ rows) (values_in rest ++ values) in
    let e : open_in (row 1 l t (length v) ∷ (laid l rest ++ rows)) ((v ++ values_in rest) ++ values) ≡ in_front (field t v rest) (raised l (open_in rows values)) =
    ap (open_in (row 1 l t (length v) ∷ (laid l rest ++ rows))) (append_assoc v (values_in rest) values)
    ∙ open_row-field l t v (laid l rest ++ rows) (values_in rest ++ values)
    ∙ ap (with_field t v) (open_laid l rest rows values low)
    ∙ front-field t v rest (raised l (open_in rows values)) in
    rw e (raised_still l _ (front_length (field t v rest) _ ∙ raised-length l _ low))
open_laid l (entry s d own rest) rows values low =
    let maps = raised l (open_in rows values) in
    let tall = raised-length l (open_in rows values) low in
    let behind = open_in (laid l rest ++ rows) (values_in rest ++ values) in
    let again : raised l behind ≡ in_front rest maps = open_laid l rest rows values low in
    let short : length behind ≤ l + 1 = raised-low l behind (ap length again ∙ front_length rest maps ∙ tall) in
    let e : open_in (row 2 l s d ∷ ((laid (l + 1) own ++ laid l rest) ++ rows)) ((values_in own ++ values_in rest) ++ values) ≡ in_front (entry s d own rest) maps =
    open_row_head l s d ((laid (l + 1) own ++ laid l rest) ++ rows) ((values_in own ++ values_in rest) ++ values)
    ∙ rw (append_assoc (laid (l + 1) own) (laid l rest) rows, append_assoc (values_in own) (values_in rest) values)
    (ap (with_entry s d) (open_laid (l + 1) own (laid l rest ++ rows) (values_in rest ++ values) (omega arith) ∙ ap (in_front own) (raised-more l behind short ∙ ap (λ (n : List Map). end ∷ n) again))
    ∙ front-entry s d own rest maps (omega arith)) in
    rw e (raised_still l _ (front_length (entry s d own rest) _ ∙ tall))

-- the map at level 0 is the outermost, raised or not
outermost-raised : (maps : List Map) → outermost (raised 0 maps) ≡ outermost maps
unfolding outermost raised opened
outermost-raised [] = refl
outermost-raised (m ∷ maps) = let e : 0 + 1 - suc (length maps) ≡ 0 = omega arith in rw e

open_whole : (map : Map) (values : List ℕ) → outermost (open_in (laid 0 map) (values_in map ++ values)) ≡ map
open_whole map values =
    ap (λ (rows : List Row). outermost (open_in rows (values_in map ++ values))) (sym (append-nil (laid 0 map)))
    ∙ sym (outermost-raised (open_in (laid 0 map ++ []) (values_in map ++ values)))
    ∙ ap outermost (open_laid 0 map [] values (unfold open_in in omega arith))
    ∙ (unfold open_in raised opened in_front outermost in joined_end map)

-- a layout means the map that it was made from, whatever stands behind it
map_read : (map : Map) (behind_rows behind-values : List ℕ)
    → outermost (open_in (rows_of (length (laid 0 map) ∷ (flat (laid 0 map) ++ behind_rows))) (values_in map ++ behind-values)) ≡ map
map_read map behind_rows behind-values = rw (rows_read (laid 0 map) behind_rows) (open_whole map behind-values)

parts-back : (m : Message) → parts_in (parts m) ≡ m
unfolding parts parts_in second_of third_of
parts-back m = refl

pub layout_meant : (m : Message) → message_in (words_of m) (value_bytes_of m) ≡ m
unfolding message_in words_of value_bytes_of padded
layout_meant m = ap parts_in (map_read (parts m) _ _) ∙ parts-back m

-- and so does whatever lays it out
module _ (map : Map) (words values : List ℕ) (l : LaysOut map words values) where
  pub rows_laid : rows_of words ≡ laid 0 map
  rows_laid = ap rows_of l.rows_first ∙ rows_read (laid 0 map) l.behind_rows

  pub map-meant : outermost (open_in (rows_of words) values) ≡ map
  map-meant =
      ap (λ (w : List ℕ). outermost (open_in (rows_of w) values)) l.rows_first
      ∙ ap (λ (v : List ℕ). outermost (open_in (rows_of (length (laid 0 map) ∷ (flat (laid 0 map) ++ l.behind_rows))) v)) l.values-first
      ∙ map_read map l.behind_rows l.behind-values

pub message-meant : (m : Message) (words values : List ℕ) → LaysOut (parts m) words values → message_in words values ≡ m
unfolding message_in
message-meant m words values l = ap parts_in (map-meant (parts m) words values l) ∙ parts-back m
