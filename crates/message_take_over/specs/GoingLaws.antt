-- All records, one after the other: what is laid so far and what is still to come make the whole.
use Rattle.std.proofs.Math.Path.{◌≡◌, refl, sym, ap}
use Rattle.std.proofs.Common.{◌∙◌, arith}
use Rattle.std.specs.Prelude.{Bool, ℕ, ◌+◌, ◌-◌, ◌*◌, ◌≤◌, ◌<◌, replicate, Some, None}
use Rattle.std.proofs.Math.Bool.{true, false}
use mathlib.Core.List.{List, [], ◌∷◌, ◌++◌, append_assoc}
use Rattle.std.proofs.Math.ListN.{length, set, length-append}
use Rattle.field_rules.specs.Choice.{pick}
use Rattle.build_records.specs.Records.{record_at, between}
use Rattle.build_records.proofs.RecordLaws.{between-on, between-end}
use Rattle.build_records.specs.declared.Record.{Record}
use Rattle.message_maps.specs.Rows.{Row, row, flat, padded, message_words, message_rows}
use Rattle.message_maps.specs.RowsLaws.{padded-length}
use Rattle.message_lent_rules.proofs.MeaningLaws.{flat-length}
use Rattle.message_take_over.specs.declared.Laying.{Laying}
use Rattle.message_take_over.specs.Taking.{records_before, joins_of, is_next, are_next, part_heads, record_rows, rows_behind, rows_of}
use Rattle.message_take_over.specs.Laying.{rowed, Adds, reach, Ready, stepped_by, adds_rows, RowsLaid}
use Rattle.message_take_over.specs.JoinLaws.{before-next}
use Rattle.message_take_over.specs.Newest.{Newest, newest_step}
use Rattle.message_take_over.specs.StepLaws.{joined-reach, next_is, rows_few}

next-on : (size part used : ℕ) (before : List Record) (r : Record) (rs : List Record) → is_next size part used before r ≡ true
    → are_next size part used before (r ∷ rs) ≡ are_next size r.part (used + r.length) (r ∷ before) rs
unfolding are_next
next-on size part used before r rs h = rw h

reach-behind : (r : Record) (before : List Record) (n : ℕ) → r.depth + 1 ≤ n → reach (r ∷ before) ≤ n
unfolding reach
reach-behind r before n h = h

-- rows and their number
rows_counted : (rows : List Row) (n : ℕ) → n ≡ length rows → set (rowed rows) 0 n ≡ padded message_words (length rows ∷ flat rows)
unfolding rowed padded
rows_counted rows n e = rw e

-- words of zeros hold no row
pub none-rowed : rowed [] ≡ replicate message_words 0
unfolding rowed padded flat
none-rowed = refl

module _ (size : ℕ) (rs : List Record) (count : ℕ) where
  pub record Going (i : ℕ) (words : List ℕ) (laying : Laying) : Type 0 where
    pub laid : List Row
    pub in_words : words ≡ rowed laid
    pub counted : length laid ≡ laying.rows
    pub rows : laid ++ rows_behind laying.part (records_before i rs) (between i count rs) ≡ rows_of (between 0 count rs)
    pub judged : are_next size 1 0 [] (between 0 count rs) ≡ are_next size laying.part laying.used (records_before i rs) (between i count rs)
    pub few : laying.rows ≤ laying.part + 2 * i
    pub last : laying.part ≤ 3
    pub within : laying.used ≤ 8192
    pub shallow : reach (records_before i rs) ≤ i
    pub here : i ≤ count

  -- the header's head, and no record yet
  pub going_start : (entry words : List ℕ) (rows : ℕ) → entry ≡ replicate message_words 0 → Adds entry words 0 rows (row 2 0 1 0 ∷ [])
      → Going 0 words (record { part = 1; rows = rows; used = 0 })
  going_start entry words rows e a =
      record {
        laid = row 2 0 1 0 ∷ [];
        in_words = a.adds [] refl (e ∙ sym none-rowed);
        counted = sym a.counts;
        rows = unfold rows_of records_before in refl;
        judged = unfold records_before in refl;
        few = omega (arith, a.counts);
        last = omega arith;
        within = omega arith;
        shallow = unfold records_before reach in omega arith;
        here = omega arith;
      }

  module _ {i : ℕ} {words : List ℕ} {laying : Laying} (g : Going i words laying) where
    rowed-length : (rows : List Row) → length rows ≤ message_rows → length (rowed rows) ≡ message_words
    unfolding rowed
    rowed-length rows h = padded-length message_words (0 ∷ flat rows) (omega (arith, flat-length rows))

    pub going-whole : count ≤ 1024 → length words ≡ message_words
    going-whole k = ap length g.in_words ∙ rowed-length g.laid (omega (arith, g.counted, g.few, g.last, g.here))

    pub going_ready : i < count → count ≤ 1024 → Ready (records_before i rs) words laying
    going_ready h k =
        record {
          whole = going-whole k;
          few = omega (arith, g.few, g.last);
          within = g.within;
          shallow = omega (arith, g.shallow);
        }

    module _ (more : i < count) (all : count ≤ length rs) where
      this : between i count rs ≡ record_at i rs ∷ between (i + 1) count rs
      this = between-on i count rs more (omega arith)

      pub going-refused : (left : List ℕ) → stepped_by size (records_before i rs) laying (record_at i rs) ≡ None
          → RowsLaid size (between 0 count rs) false left
      unfolding are_next stepped_by
      going-refused left e =
          let no = by_test (is_next size laying.part laying.used (records_before i rs) (record_at i rs)) refl _ e in
          record {
            told = sym (g.judged ∙ ap (are_next size laying.part laying.used (records_before i rs)) this ∙ rw no);
            laid = λ d. let z : ◌≡◌ {A = ℕ} 0 1 = cc in absurd (omega arith);
          }
        where
          by_test : (b : Bool) → is_next size laying.part laying.used (records_before i rs) (record_at i rs) ≡ b → (on : Laying)
              → pick b (Some on) None ≡ None → is_next size laying.part laying.used (records_before i rs) (record_at i rs) ≡ false
          by_test true b on e = let z : ◌≡◌ {A = ℕ} 0 1 = cc in absurd (omega arith)
          by_test false b on e = b

      stepped : (next : Laying) → stepped_by size (records_before i rs) laying (record_at i rs) ≡ Some next
          → (is_next size laying.part laying.used (records_before i rs) (record_at i rs) ≡ true)
          × (next.part ≡ (record_at i rs).part) × (next.used ≡ laying.used + (record_at i rs).length)
      unfolding stepped_by
      stepped next e = by_test (is_next size laying.part laying.used (records_before i rs) (record_at i rs)) refl e
        where
          by_test : (b : Bool) → is_next size laying.part laying.used (records_before i rs) (record_at i rs) ≡ b
              → pick b (Some (record {
                part = (record_at i rs).part;
                rows = laying.rows
                    + length (record_rows laying.part (joins_of (records_before i rs) (record_at i rs)) (record_at i rs));
                used = laying.used + (record_at i rs).length;
              })) None ≡ Some next
              → (is_next size laying.part laying.used (records_before i rs) (record_at i rs) ≡ true)
              × (next.part ≡ (record_at i rs).part) × (next.used ≡ laying.used + (record_at i rs).length)
          by_test true b e = (b, cc, cc)
          by_test false b e = let z : ◌≡◌ {A = ℕ} 0 1 = cc in absurd (omega arith)

      near : (next : Laying) → stepped_by size (records_before i rs) laying (record_at i rs) ≡ Some next → (record_at i rs).depth ≤ reach (records_before i rs)
      near next e = joined-reach _ _ (next_is size laying.part laying.used _ _ (stepped next e).0).joined

      pub going_on : (next : Laying) (words_after : List ℕ) → stepped_by size (records_before i rs) laying (record_at i rs) ≡ Some next
          → adds_rows (records_before i rs) laying (record_at i rs) (Some next) words words_after → Going (i + 1) words_after next
      unfolding adds_rows
      going_on next words_after e s =
          let r = record_at i rs in
          let before = records_before i rs in
          let w = stepped next e in
          let n = next_is size laying.part laying.used before r w.0 in
          let a = s next refl in
          let new = record_rows laying.part (joins_of before r) r in
          record {
            laid = g.laid ++ new;
            in_words = a.adds g.laid g.counted g.in_words;
            counted = omega (arith, length-append g.laid new, g.counted, a.counts);
            rows =
                append_assoc g.laid new _ ∙ ap (λ (l : List Row). g.laid ++ l)
                (rw (before-next rs i, w.1) (sym (ap (rows_behind laying.part before) this ∙ (unfold rows_behind in refl)))) ∙ g.rows;
            judged =
                g.judged ∙ ap (are_next size laying.part laying.used before) this
                ∙ rw (before-next rs i, w.1, w.2) (next-on size laying.part laying.used before r (between (i + 1) count rs) w.0);
            few = omega (arith, a.counts, rows_few laying.part (joins_of before r) r, w.1, n.on, g.few);
            last = omega (arith, w.1, n.last);
            within = omega (arith, w.2, n.room);
            shallow = rw (before-next rs i) (reach-behind r before (i + 1) (omega (arith, near next e, g.shallow)));
            here = omega arith;
          }

      -- a record that is laid is the newest of its depth
      pub going-deep : count ≤ 1024 → (next : Laying) → stepped_by size (records_before i rs) laying (record_at i rs) ≡ Some next → (record_at i rs).depth < 1024
      going-deep k next e = omega (arith, near next e, g.shallow)

      pub going_newest : count ≤ 1024 → (next : Laying) → stepped_by size (records_before i rs) laying (record_at i rs) ≡ Some next
          → (last kept : List ℕ) → Newest rs i last → kept ≡ set last (record_at i rs).depth i → Newest rs (i + 1) kept
      going_newest k next e last kept n s = newest_step n (near next e) (going-deep k next e) kept s

    -- the heads of the parts that are left, and the count
    pub going_done : count ≤ i → (words_after : List ℕ) (all : ℕ) → Adds words words_after laying.rows all (part_heads (3 - laying.part) laying.part)
        → RowsLaid size (between 0 count rs) true (set words_after 0 all)
    going_done h words_after all a =
        let none : between i count rs ≡ [] = between-end i count rs h in
        let heads = part_heads (3 - laying.part) laying.part in
        let rows : g.laid ++ heads ≡ rows_of (between 0 count rs) =
        ap (λ (l : List Row). g.laid ++ l) (sym (ap (rows_behind laying.part (records_before i rs)) none ∙ (unfold rows_behind in refl))) ∙ g.rows in
        let laid : words_after ≡ rowed (rows_of (between 0 count rs)) = a.adds g.laid g.counted g.in_words ∙ ap rowed rows in
        let many : all ≡ length (rows_of (between 0 count rs)) = omega (arith, a.counts, g.counted, length-append g.laid heads, ap length rows) in
        record {
          told = sym (g.judged ∙ ap (are_next size laying.part laying.used (records_before i rs)) none ∙ (unfold are_next in refl));
          laid = λ d. ap (λ (w : List ℕ). set w 0 all) laid ∙ rows_counted _ all many;
        }
