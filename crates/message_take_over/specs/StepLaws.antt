-- One record behind those that are laid: one law for each way that the code goes.
use Rattle.std.proofs.Math.Path.{◌≡◌, refl, ap}
use Rattle.std.proofs.Common.{sym, ◌∙◌, arith, length-append}
use Rattle.std.specs.Prelude.{Bool, ℕ, ◌+◌, ◌-◌, ◌≤◌, ◌<◌, length, eqb, leb, Some, None}
use Rattle.std.proofs.Math.Bool.{true, false}
use mathlib.Core.List.{List, [], ◌∷◌, append-nil}
use borrow.Author.Tests.{le-leb, lt-leb, leb-true, leb-false, eqb-true}
use Rattle.field_rules.specs.Choice.{pick, pick_same}
use Rattle.build_records.specs.declared.Record.{Record}
use Rattle.message_maps.specs.Rows.{row}
use Rattle.message_lent_rules.specs.LentLaws.{both}
use Rattle.message_take_over.specs.declared.Joins.{Joins}
use Rattle.message_take_over.specs.declared.Joins.TheVariants.{Open, Entry, Nowhere}
use Rattle.message_take_over.specs.declared.Laying.{Laying}
use Rattle.message_take_over.specs.Taking.{nearest_in, joins_in_run, joins_on_count, joins_behind, joins_of, is_joined, has_room, is_next, part_heads, own_rows}
use Rattle.message_take_over.specs.Taking.{record_rows}
use Rattle.message_take_over.specs.Laying.{Adds, reach, stepped_by, adds_rows}
use Rattle.message_take_over.specs.LayingLaws.{adds_then, heads-length}

module _ (size used : ℕ) (r : Record) where
  pub room_not : size < r.place + r.length → has_room size used r ≡ false
  unfolding has_room
  room_not h = rw (lt-leb _ _ h)

  pub room-left : r.place + r.length ≤ size → has_room size used r ≡ leb (used + r.length) 8192
  unfolding has_room
  room-left h = rw (le-leb _ _ h)

  pub room-both : has_room size used r ≡ true → (r.place + r.length ≤ size) × (used + r.length ≤ 8192)
  unfolding has_room
  room-both h = let b = both (leb (r.place + r.length) size) _ h in (leb-true _ _ b.0, leb-true _ _ b.1)

-- no record joins anything deeper than one below the record before it
deep-behind : (before : List Record) (r q : Record) (same deeper : Bool) → eqb q.depth r.depth ≡ same → eqb r.depth (q.depth + 1) ≡ deeper
    → is_joined (pick same (joins_in_run before q.number r) (pick deeper (pick (eqb r.number 1) (Entry q.tag) Nowhere) Nowhere)) ≡ true
    → r.depth ≤ q.depth + 1
unfolding is_joined
deep-behind before r q true deeper s d h = omega (arith, eqb-true q.depth r.depth s)
deep-behind before r q false true s d h = omega (arith, eqb-true r.depth (q.depth + 1) d)
deep-behind before r q false false s d h = let z : ◌≡◌ {A = ℕ} 0 1 = cc in absurd (omega arith)

pub joined-reach : (before : List Record) (r : Record) → is_joined (joins_of before r) ≡ true → r.depth ≤ reach before
unfolding joins_of reach
joined-reach before r h = by_depth (eqb r.depth 0) refl before h
  where
    by_nearest : (q : Record) (before : List Record) (near : Bool) → leb q.depth r.depth ≡ near
        → is_joined (joins_behind (q ∷ before) r (pick near (Some q) (nearest_in r.depth before))) ≡ true → r.depth ≤ q.depth + 1
    by_nearest q before true n h = by_part (eqb q.part r.part) (unfold joins_behind in h)
      where
        by_part : (p : Bool) → is_joined (pick p (pick (eqb q.depth r.depth) (joins_in_run (q ∷ before) q.number r) (joins_on_count q r)) Nowhere) ≡ true
            → r.depth ≤ q.depth + 1
        by_part true h = deep-behind (q ∷ before) r q (eqb q.depth r.depth) (eqb r.depth (q.depth + 1)) refl refl (unfold joins_on_count in h)
        by_part false h = let z : ◌≡◌ {A = ℕ} 0 1 = unfold is_joined in cc in absurd (omega arith)
    by_nearest q before false n h = omega (arith, leb-false q.depth r.depth n)

    by_depth : (d : Bool) → eqb r.depth 0 ≡ d → (before : List Record)
        → is_joined (pick d (pick (eqb r.number 0) Open Nowhere) (joins_behind before r (nearest_in r.depth before))) ≡ true → r.depth ≤ reach before
    by_depth true d before h = omega (arith, eqb-true r.depth 0 d)
    by_depth false d [] h = let z : ◌≡◌ {A = ℕ} 0 1 = unfold is_joined joins_behind nearest_in in cc in absurd (omega arith)
    by_depth false d (q ∷ before) h = by_nearest q before (leb q.depth r.depth) refl (unfold nearest_in in h)

module _ (size part used : ℕ) (before : List Record) (r : Record) where
  pub next-back : r.part < part → is_next size part used before r ≡ false
  unfolding is_next
  next-back h = rw (lt-leb _ _ h)

  pub next-fourth : 3 < r.part → is_next size part used before r ≡ false
  unfolding is_next
  next-fourth h = rw (lt-leb _ _ h) (pick_same (leb part r.part) false)

  pub next-crowded : part ≤ r.part → r.part ≤ 3 → has_room size used r ≡ false → is_next size part used before r ≡ false
  unfolding is_next
  next-crowded h k e = rw (le-leb _ _ h, le-leb _ _ k, e)

  pub next-joined : part ≤ r.part → r.part ≤ 3 → has_room size used r ≡ true → is_next size part used before r ≡ is_joined (joins_of before r)
  unfolding is_next
  next-joined h k e = rw (le-leb _ _ h, le-leb _ _ k, e)

  pub record Next : Type 0 where
    pub on : part ≤ r.part
    pub last : r.part ≤ 3
    pub inside : r.place + r.length ≤ size
    pub room : used + r.length ≤ 8192
    pub joined : is_joined (joins_of before r) ≡ true

  pub next_is : is_next size part used before r ≡ true → Next
  unfolding is_next
  next_is h =
      let a = both (leb part r.part) _ h in
      let b = both (leb r.part 3) _ a.1 in
      let c = both (has_room size used r) _ b.1 in
      let d = room-both size used r c.0 in
      record { on = leb-true _ _ a.0; last = leb-true _ _ b.0; inside = d.0; room = d.1; joined = c.1 }

-- at most a head and a row of its own
own-few : (joined : Joins) (r : Record) → length (own_rows joined r) ≤ 2
unfolding own_rows
own-few Open r = omega arith
own-few (Entry start) r = omega arith
own-few Nowhere r = omega arith

pub rows_few : (part : ℕ) (joined : Joins) (r : Record) → length (record_rows part joined r) ≤ r.part - part + 2
unfolding record_rows
rows_few part joined r =
    omega (arith, length-append (part_heads (r.part - part) part) (own_rows joined r), heads-length (r.part - part) part, own-few joined r)

module _ (size : ℕ) (before : List Record) (laying : Laying) where
  -- a record that may not come next leaves nothing to be told
  pub step-refused : (taken r : Record) (words : List ℕ) → taken ≡ r → is_next size laying.part laying.used before taken ≡ false
      → (None ≡ stepped_by size before laying r) × adds_rows before laying r None words words
  unfolding stepped_by adds_rows
  step-refused taken r words t h =
      let e : is_next size laying.part laying.used before r ≡ false = ap (is_next size laying.part laying.used before) (sym t) ∙ h in
      (rw e, λ next n. let z : ◌≡◌ {A = ℕ} 0 1 = cc in absurd (omega arith))

  -- one that may adds its rows
  step-on : (r : Record) (words words_after : List ℕ) (rows : ℕ) → is_next size laying.part laying.used before r ≡ true
      → Adds words words_after laying.rows rows (record_rows laying.part (joins_of before r) r)
      → (Some (record { part = r.part; rows = rows; used = laying.used + r.length }) ≡ stepped_by size before laying r)
      × adds_rows before laying r (Some (record { part = r.part; rows = rows; used = laying.used + r.length })) words words_after
  unfolding stepped_by adds_rows
  step-on r words words_after rows h a = (rw (h, a.counts), λ next e. let q : rows ≡ next.rows = cc in rw (← q) a)

  -- as the code has it, with its own names for the record, for what it joins, and for its length
  pub step-laid : (taken r : Record) (joined : Joins) (more : ℕ) (words words_after : List ℕ) (rows : ℕ) → taken ≡ r → joined ≡ joins_of before taken
      → more ≡ taken.length
      → is_next size laying.part laying.used before taken ≡ true
      → Adds words words_after laying.rows rows (record_rows laying.part joined taken)
      → (Some (record { part = taken.part; rows = rows; used = laying.used + more }) ≡ stepped_by size before laying r)
      × adds_rows before laying r (Some (record { part = taken.part; rows = rows; used = laying.used + more })) words words_after
  step-laid taken r joined more words words_after rows t j m h a = rw (m, t) (step-on r words words_after rows (rw t at h) (rw (j, t) at a))

-- the rows that are laid for a record, by where it belongs
module _ (part : ℕ) (joined : Joins) (r : Record) {a b : List ℕ} {rows opened : ℕ} where
  pub lays_open : {c : List ℕ} {last : ℕ} → joined ≡ Open → Adds a b rows opened (part_heads (r.part - part) part)
      → Adds b c opened last (row 1 (r.depth + 1) r.tag r.length ∷ []) → Adds a c rows last (record_rows part joined r)
  unfolding record_rows own_rows
  lays_open e f g = rw e (adds_then f g)

  pub lays_entry : {c d : List ℕ} {headed last : ℕ} (start : ℕ) → joined ≡ Entry start → Adds a b rows opened (part_heads (r.part - part) part)
      → Adds b c opened headed (row 2 r.depth start r.tag ∷ []) → Adds c d headed last (row 1 (r.depth + 1) r.tag r.length ∷ [])
      → Adds a d rows last (record_rows part joined r)
  unfolding record_rows own_rows
  lays_entry start e f g h = rw e (adds_then f (adds_then g h))

  pub lays_nowhere : joined ≡ Nowhere → Adds a b rows opened (part_heads (r.part - part) part) → Adds a b rows opened (record_rows part joined r)
  unfolding record_rows own_rows
  lays_nowhere e f = rw (e, append-nil (part_heads (r.part - part) part)) f
