-- Writing the table of a list of tags: its items one after the other, all of them plain, and then their links.
-- How far the items are written says what is left: the tags from there on, and the words from the next slot on.
use Rattle.std.specs.Prelude.{◌≡◌, refl, false, List, ◌++◌, ℕ, ◌+◌, ◌*◌, ◌≤◌, ◌<◌, length, get_or, drop}
use Rattle.std.proofs.Common.{sym, ap, ◌∙◌, arith, drop_of_length-le, drop-cons}
use Rattle.std.proofs.Math.Numerals.{add-one}
use Rattle.dictionary_tables_rules.specs.Table.{heads_for}
use Rattle.dictionary_tables_rules.specs.Laid.{part_size, table_size, table_of}
use Rattle.dictionary_tables_rules.specs.Tags.{fields_of}
use Rattle.dictionary_tables_rules.proofs.TagsLaws.{fields-count, fields-part}
use Rattle.dictionary_pressing.specs.Linking.{items_start, linked}
use Rattle.dictionary_pressing.specs.Pressing.{put_item, pressed, press_items}
use Rattle.dictionary_pressing.specs.PressingLaws.{press_linked}
use Rattle.dictionary_pressing.specs.Sizing.{pressed-table}

-- the tags from one on as items
unfoldable pub put_from : List ℕ → ℕ → ℕ → List ℕ → List ℕ
put_from tags i slot table = press_items slot (part_size (length tags)) (fields_of (drop i tags)) table

-- the items up to one are written
pub record Putting (tags start table : List ℕ) (slot i : ℕ) : Type 0 where
  pub counted : i ≤ length tags
  pub slots : slot ≡ 1 + heads_for (length tags) + 5 * i
  pub kept : length table ≡ length start
  pub sofar : put_from tags 0 (1 + heads_for (length tags)) start ≡ put_from tags i slot table

pub putting_start : (tags table : List ℕ) (heads : ℕ) → heads ≡ heads_for (length tags) → Putting tags table table (1 + heads) 0
putting_start tags table heads e = record { counted = omega arith; slots = omega arith; kept = refl; sofar = rw e }

-- all the tags as items, and linked
put_linked : (tags start : List ℕ) → table_size (fields_of tags) ≤ length start →
    linked (put_from tags 0 (1 + heads_for (length tags)) start) 0 (length tags) ≡ pressed 0 (fields_of tags) start
unfolding put_from items_start
put_linked tags start room =
    let from : 0 + part_size (length tags) ≡ part_size (length tags) = omega arith in
    rw (fields-count tags, from) at (press_linked 0 (fields_of tags) start (omega arith))

module _ (tags start table : List ℕ) (slot i : ℕ) (s : Putting tags start table slot i) where
  pub putting_room : i < length tags → slot + 5 ≤ table_size (fields_of tags)
  unfolding part_size
  putting_room h = omega (arith, s.slots, fields-part tags)

  pub putting_on : i < length tags → (put : List ℕ) → length put ≡ length table → put ≡ put_item table slot (get_or tags i 0) 0 false →
      Putting tags start put (slot + 5) (i + 1)
  putting_on h put n e =
      record {
        counted = omega arith;
        slots = omega (arith, s.slots);
        kept = n ∙ s.kept;
        sofar = s.sofar ∙ one ∙ ap (put_from tags (i + 1) (slot + 5)) (sym e);
      }
    where
      one : put_from tags i slot table ≡ put_from tags (i + 1) (slot + 5) (put_item table slot (get_or tags i 0) 0 false)
      one = unfold put_from fields_of press_items in rw (drop-cons tags i 0 h, add-one i)

  -- all are written: linked, they are the table of the tags
  pub putting_end : length tags ≤ i → table_size (fields_of tags) ≤ length start →
      linked table 0 (length tags) ≡ table_of (fields_of tags) ++ drop (table_size (fields_of tags)) start
  putting_end h room =
      ap (λ (t : List ℕ). linked t 0 (length tags)) (sym (s.sofar ∙ none)) ∙ put_linked tags start room ∙ pressed-table (fields_of tags) start
    where
      none : put_from tags i slot table ≡ table
      none = unfold put_from fields_of press_items in rw (drop_of_length-le tags h)
