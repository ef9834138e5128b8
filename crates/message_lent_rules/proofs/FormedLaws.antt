-- Formed messages and lent ones are the same: a formed message within the limits has a layout that is a message, and what is lent as a
-- message is formed and within the limits.
use Rattle.std.specs.Prelude.{◌≡◌, refl, true, ℕ, suc, ◌+◌, ◌-◌, ◌≤◌, leb}
use Rattle.std.proofs.Common.{sym, ◌∙◌, arith}
use Rattle.std.proofs.Math.Path.{ap}
use Rattle.std.proofs.Math.Bool.{false}
use mathlib.Core.List.{List, [], ◌∷◌, ◌++◌}
use Rattle.std.proofs.Math.ListN.{length, get_or, replicate, length-append}
use borrow.Author.Tests.{eq-eqb, ne_eqb, le-leb}
use Rattle.message_maps.specs.Map.{Map, end, field, entry, values_in, field_count}
use Rattle.message_maps.specs.Rows.{Row, row, laid, flat, padded, sizes, level_of, matches, message_words, message_rows}
use Rattle.message_maps.specs.RowsLaws.{padded-length}
use Rattle.message_lent_rules.specs.Lent.{deepest, field_allowed, head_allowed, row_allowed, rows_allowed, delimiter_is, is_part, next_part, parts_from, fields_in, row_count, is_laid, is_message}
use Rattle.message_lent_rules.specs.LentLaws.{both, message-held}
use Rattle.message_lent_rules.specs.Meaning.{Message, parts, words_of, value_bytes_of, LaysOut, message_in}
use Rattle.message_lent_rules.proofs.MeaningLaws.{means, parts_below, flat-length}
use Rattle.message_lent_rules.proofs.MeantLaws.{rows_laid, layout_meant}
use Rattle.message_lent_rules.specs.Formed.{is_formed, entries_formed, Formed, Within}
use Rattle.message_lent_rules.specs.StandLaws.{never}
use Rattle.message_lent_rules.specs.LaidLaws.{sizes-laid, fields-parts, rows_parts}
use Rattle.message_lent_rules.specs.AllowedLaws.{passed, allowed_append, allowed_split, fits_head, formed_allowed, allowed_formed}

-- the head of an entry is allowed anywhere at level 0
head_anywhere : (before : List Row) (s d : ℕ) → row_allowed before (row 2 0 s d) ≡ true
unfolding row_allowed head_allowed
head_anywhere before s d = rw (le-leb 0 (deepest before) (omega arith))

-- entries at level 0 are allowed where the map of each is formed
pub entries_allowed : (m : Map) (before : List Row) → entries_formed m ≡ true → rows_allowed before (laid 0 m) ≡ true
unfolding laid rows_allowed entries_formed
entries_allowed end before h = refl
entries_allowed (field t v rest) before h = never (sym h)
entries_allowed (entry s d own rest) before h =
    let head = row 2 0 s d in
    let k = both (is_formed own) _ h in
    rw (head_anywhere before s d, allowed_append (head ∷ before) (laid 1 own) (laid 0 rest), formed_allowed 1 own (head ∷ before) (omega arith) (unfold deepest in omega arith) k.0 (fits_head 1 0 s d before own (omega arith)))
    (entries_allowed rest (passed (head ∷ before) (laid 1 own)) k.1)

-- and only there; a field isn't
pub entries_formed_lem : (m : Map) (before : List Row) → rows_allowed before (laid 0 m) ≡ true → entries_formed m ≡ true
unfolding laid rows_allowed entries_formed
entries_formed_lem end before h = refl
entries_formed_lem (field t v rest) before h = no_field (both (row_allowed before (row 1 0 t (length v))) _ h).0
  where
    no_field : row_allowed before (row 1 0 t (length v)) ≡ true → false ≡ true
    no_field k = unfold row_allowed field_allowed in (both (leb 0 (deepest before)) false k).1
entries_formed_lem (entry s d own rest) before h =
    let a = both (row_allowed before (row 2 0 s d)) _ h in
    let b = allowed_split (row 2 0 s d ∷ before) (laid 1 own) (laid 0 rest) a.1 in
    rw (allowed_formed 1 own (row 2 0 s d ∷ before) (omega arith) b.0) (entries_formed_lem rest _ b.1)

-- the parts of a message are such entries
parts-entries : (m : Message) → Formed m → entries_formed (parts m) ≡ true
unfolding parts entries_formed
parts-entries m f = rw (f.header, f.body, f.trailer)

entries-parts : (m : Message) → entries_formed (parts m) ≡ true → Formed m
unfolding parts entries_formed
entries-parts m h =
    let a = both (is_formed m.header) _ h in
    let b = both (is_formed m.body) _ a.1 in
    record { header = a.0; body = b.0; trailer = (both (is_formed m.trailer) true b.1).0 }

-- the three parts stand in their order
part-order : (part : ℕ) (m : Map) (rows : List Row) → (part ≡ 0 → ⊥) → parts_from part (row 2 0 part 0 ∷ (laid 1 m ++ rows)) ≡ parts_from (part + 1) rows
unfolding parts_from next_part level_of is_part matches delimiter_is
part-order part m rows some =
    rw (eq-eqb part part refl, ne_eqb (part + 1) 0 (λ e. omega arith)) (parts_below m 0 (part + 1) rows (λ e. omega arith))

parts-order : (m : Message) → parts_from 1 (laid 0 (parts m)) ≡ true
unfolding laid parts
parts-order m =
    part-order 1 m.header _ (λ e. omega arith) ∙ part-order 2 m.body _ (λ e. omega arith) ∙ part-order 3 m.trailer [] (λ e. omega arith) ∙ (unfold parts_from in refl)

-- what lays such entries out is laid out, whatever stands behind: their lengths leave it no other room
pub lays_laid : (map : Map) (words values : List ℕ) → LaysOut map words values → entries_formed map ≡ true → is_laid words values ≡ true
unfolding is_laid
lays_laid map words values l formed =
    let rows = laid 0 map in
    let count : row_count words ≡ length rows = unfold row_count in ap (λ (w : List ℕ). get_or w 0 0) l.rows_first in
    let few : length rows ≤ message_rows = omega (arith, l.words_lent, ap length l.rows_first, length-append (flat rows) l.behind_rows, flat-length rows) in
    let small : length (values_in map) ≤ 8192 = omega (arith, l.values-lent, ap length l.values-first, length-append (values_in map) l.behind-values) in
    rw (eq-eqb (length words) message_words l.words_lent, eq-eqb (length values) 8192 l.values-lent, count, le-leb (length rows) message_rows few, rows_laid map words values l, entries_allowed map [] formed)
    (le-leb (sizes rows) 8192 (omega (arith, sizes-laid 0 map)))

-- what lays a formed message out that has no more fields than it may is a message
pub lays_message : (m : Message) (words values : List ℕ) → LaysOut (parts m) words values → Formed m → field_count m.header + (field_count m.body + field_count m.trailer) ≤ 1024
    → is_message words values ≡ true
unfolding is_message
lays_message m words values l f few =
    rw (lays_laid (parts m) words values l (parts-entries m f), rows_laid (parts m) words values l, parts-order m)
    (le-leb (fields_in 1 (laid 0 (parts m))) 1024 (omega (arith, fields-parts m)))

-- a map within the limits has such a layout, with zeros behind
pub padded_lays : (map : Map) → length (laid 0 map) ≤ message_rows → length (values_in map) ≤ 8192
    → LaysOut map (padded message_words (length (laid 0 map) ∷ flat (laid 0 map))) (padded 8192 (values_in map))
padded_lays map few small =
    record {
      words_lent = padded-length message_words (length (laid 0 map) ∷ flat (laid 0 map)) (omega (arith, flat-length (laid 0 map)));
      values-lent = padded-length 8192 (values_in map) small;
      behind_rows = replicate (message_words - suc (length (flat (laid 0 map)))) 0;
      rows_first = unfold padded in refl;
      behind-values = replicate (8192 - length (values_in map)) 0;
      values-first = unfold padded in refl;
    }

pub layout_laid : (m : Message) → Within m → LaysOut (parts m) (words_of m) (value_bytes_of m)
unfolding words_of value_bytes_of
layout_laid m w = padded_lays (parts m) (omega (arith, rows_parts m, w.few)) w.small

-- what is lent as a message is formed, and within the limits
pub lent_formed : (words values : List ℕ) → is_message words values ≡ true → Within (message_in words values)
lent_formed words values h =
    let held = message-held words values h in
    let m = message_in words values in
    let same = (means words values held).rows in
    record {
      formed = entries-parts m (entries_formed_lem (parts m) [] (sym (ap (rows_allowed []) same) ∙ held.laid.allowed));
      small = omega (arith, held.laid.within, ap sizes same, sizes-laid 0 (parts m));
      few = omega (arith, held.few, ap (fields_in 1) same, fields-parts m);
    }

-- what is lent holds a message, which it means
pub record Lends (words values : List ℕ) (m : Message) : Type 0 where
  pub is_message : is_message words values ≡ true
  pub meant : message_in words values ≡ m

pub layout_lends : (m : Message) → Within m → Lends (words_of m) (value_bytes_of m) m
layout_lends m w = record { is_message = lays_message m (words_of m) (value_bytes_of m) (layout_laid m w) w.formed w.few; meant = layout_meant m }

-- the layout of a message within the limits, with zeros behind its rows and behind its values
pub record IsLayout (m : Message) (words values : List ℕ) : Type 0 where
  pub within : Within m
  pub words_are : words ≡ words_of m
  pub values_are : values ≡ value_bytes_of m

pub is_layout_lends : (m : Message) (words values : List ℕ) → IsLayout m words values → Lends words values m
is_layout_lends m words values l = rw (l.words_are, l.values_are) (layout_lends m l.within)
