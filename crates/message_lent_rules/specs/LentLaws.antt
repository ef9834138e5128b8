-- One law for each way that the checks go.
use Rattle.std.specs.Prelude.{◌≡◌, refl, Bool, true, false, ℕ, zero, suc, ◌+◌, ◌-◌, ◌*◌, ◌≤◌, ◌<◌, length, get_or, leb, ltb, eqb}
use Rattle.std.proofs.Common.{sym, ap, ◌∙◌}
use mathlib.Core.List.{List, [], ◌∷◌, ◌++◌}
use native.Mathlib.Omega.{arith}
use borrow.Author.Tests.{le-leb, lt-leb, lt-ltb, le-ltb, eq-eqb, ne_eqb, eqb-true, leb-true}
use Rattle.field_rules.specs.Choice.{pick}
use Rattle.message_maps.specs.Rows.{Row, row, row_at, rows_from, rows_before, level_of, matches, sizes, message_words, message_rows}
use Rattle.message_maps.specs.RowsLaws.{rows_step, rows_none, before-step}
use Rattle.message_lent_rules.specs.Lent.{held_before, delimiter_is, continues, follows_on, deepest, field_allowed, head_allowed, row_allowed, rows_allowed, is_part, next_part, parts_from, is_own, own_below, weight, fields_in, row_count, rows_of, is_laid, is_message}

-- looking back, from the row before place i
module _ (words : List ℕ) (i : ℕ) (more : 0 < i) where
  module _ (kind level tag : ℕ) where
    pub held-other : level_of (row_at words (i - 1)) < level → held_before kind level tag (rows_before i words) ≡ false
    unfolding held_before
    held-other h = rw (before-step words i more, lt-ltb _ _ h)

    pub held-here : level ≤ level_of (row_at words (i - 1)) → matches kind level tag (row_at words (i - 1)) ≡ true → held_before kind level tag (rows_before i words) ≡ true
    unfolding held_before
    held-here h m = rw (before-step words i more, le-ltb _ _ h, m)

    pub held_on : level ≤ level_of (row_at words (i - 1)) → matches kind level tag (row_at words (i - 1)) ≡ false → held_before kind level tag (rows_before i words) ≡ held_before kind level tag (rows_before (i - 1) words)
    unfolding held_before
    held_on h m = rw (before-step words i more, le-ltb _ _ h, m)

  module _ (level start delimiter : ℕ) where
    pub follows_here : level_of (row_at words (i - 1)) ≤ level → follows_on level start delimiter (rows_before i words) ≡ continues level start delimiter (row_at words (i - 1))
    unfolding follows_on
    follows_here h = rw (before-step words i more, le-leb _ _ h)

    pub follows_on_lem : level < level_of (row_at words (i - 1)) → follows_on level start delimiter (rows_before i words) ≡ follows_on level start delimiter (rows_before (i - 1) words)
    unfolding follows_on
    follows_on_lem h = rw (before-step words i more, lt-leb _ _ h)

-- going on, from place i
module _ (words : List ℕ) (i to : ℕ) (more : i < to) where
  pub allowed_not : row_allowed (rows_before i words) (row_at words i) ≡ false → rows_allowed (rows_before i words) (rows_from (to - i) i words) ≡ false
  unfolding rows_allowed
  allowed_not h = rw (rows_step words i to more, h)

  pub allowed_on : row_allowed (rows_before i words) (row_at words i) ≡ true → rows_allowed (rows_before i words) (rows_from (to - i) i words) ≡ rows_allowed (rows_before (i + 1) words) (rows_from (to - (i + 1)) (i + 1) words)
  unfolding rows_allowed
  allowed_on h = rw (rows_step words i to more, h) (ap (λ (b : List Row). rows_allowed b (rows_from (to - (i + 1)) (i + 1) words)) (sym (before-next words i)))
    where
      before-next : (words : List ℕ) (i : ℕ) → rows_before (i + 1) words ≡ row_at words i ∷ rows_before i words
      before-next words i = let e : i + 1 - 1 ≡ i = omega arith in rw e at (before-step words (i + 1) (omega arith))

  module _ (part : ℕ) where
    pub parts_not : next_part part (row_at words i) ≡ 0 → parts_from part (rows_from (to - i) i words) ≡ false
    unfolding parts_from
    parts_not h = rw (rows_step words i to more, eq-eqb _ _ h)

    pub parts-on : (next_part part (row_at words i) ≡ 0 → ⊥) → parts_from part (rows_from (to - i) i words) ≡ parts_from (next_part part (row_at words i)) (rows_from (to - (i + 1)) (i + 1) words)
    unfolding parts_from
    parts-on h = rw (rows_step words i to more, ne_eqb _ _ h)

  module _ (level : ℕ) where
    pub own-none : level_of (row_at words i) ≤ level → own_below level (rows_from (to - i) i words) ≡ false
    unfolding own_below
    own-none h = rw (rows_step words i to more, le-leb _ _ h)

    pub own-here : level < level_of (row_at words i) → is_own (level + 1) (row_at words i) ≡ true → own_below level (rows_from (to - i) i words) ≡ true
    unfolding own_below
    own-here h p = rw (rows_step words i to more, lt-leb _ _ h, p)

    pub own_on : level < level_of (row_at words i) → is_own (level + 1) (row_at words i) ≡ false → own_below level (rows_from (to - i) i words) ≡ own_below level (rows_from (to - (i + 1)) (i + 1) words)
    unfolding own_below
    own_on h p = rw (rows_step words i to more, lt-leb _ _ h, p)

  pub fields-on : (floor : ℕ) → fields_in floor (rows_from (to - i) i words) ≡ weight floor (row_at words i) (rows_from (to - (i + 1)) (i + 1) words) + fields_in floor (rows_from (to - (i + 1)) (i + 1) words)
  unfolding fields_in
  fields-on floor = rw (rows_step words i to more)

module _ (words : List ℕ) (i to : ℕ) (past : to ≤ i) where
  pub allowed_end : rows_allowed (rows_before i words) (rows_from (to - i) i words) ≡ true
  unfolding rows_allowed
  allowed_end = rw (rows_none words i to past)

  pub parts-end : (part : ℕ) → parts_from part (rows_from (to - i) i words) ≡ eqb part 4
  unfolding parts_from
  parts-end part = rw (rows_none words i to past)

  pub own-end : (level : ℕ) → own_below level (rows_from (to - i) i words) ≡ false
  unfolding own_below
  own-end level = rw (rows_none words i to past)

  pub fields-end : (floor : ℕ) → fields_in floor (rows_from (to - i) i words) ≡ 0
  unfolding fields_in
  fields-end floor = rw (rows_none words i to past)

-- at the first row nothing is left to look back at
pub held_none : (words : List ℕ) (kind level tag i : ℕ) → i ≤ 0 → held_before kind level tag (rows_before i words) ≡ false
unfolding held_before rows_before
held_none words kind level tag i h = let e : i ≡ 0 = omega arith in rw e

pub follows_none : (words : List ℕ) (level start delimiter i : ℕ) → i ≤ 0 → follows_on level start delimiter (rows_before i words) ≡ false
unfolding follows_on rows_before
follows_none words level start delimiter i h = let e : i ≡ 0 = omega arith in rw e

-- what a row is
module _ (before : List Row) (k l t x : ℕ) where
  pub too_deep : deepest before < l → row_allowed before (row k l t x) ≡ false
  unfolding row_allowed
  too_deep h = rw (lt-leb _ _ h)

  pub as_field : l ≤ deepest before → k ≡ 1 → row_allowed before (row k l t x) ≡ field_allowed before l t
  unfolding row_allowed
  as_field h e = rw (le-leb _ _ h, eq-eqb _ _ e)

  pub as_head : l ≤ deepest before → (k ≡ 1 → ⊥) → k ≡ 2 → row_allowed before (row k l t x) ≡ head_allowed before l t x
  unfolding row_allowed
  as_head h n e = rw (le-leb _ _ h, ne_eqb _ _ n, eq-eqb _ _ e)

  pub as_none : l ≤ deepest before → (k ≡ 1 → ⊥) → (k ≡ 2 → ⊥) → row_allowed before (row k l t x) ≡ false
  unfolding row_allowed
  as_none h n m = rw (le-leb _ _ h, ne_eqb _ _ n, ne_eqb _ _ m)

-- a test that nothing but its success lets through
pub both : (b x : Bool) → pick b x false ≡ true → (b ≡ true) × (x ≡ true)
both true x h = (refl, h)
both false x h = let z : ◌≡◌ {A = ℕ} 0 1 = cc in absurd (omega arith)

-- what is laid out has its lengths and is within its limits
pub record Laid (words values : List ℕ) : Type 0 where
  pub whole : length words ≡ message_words
  pub store : length values ≡ 8192
  pub counted : row_count words ≤ message_rows
  pub allowed : rows_allowed [] (rows_of words) ≡ true
  pub within : sizes (rows_of words) ≤ 8192

pub laid_out : (words values : List ℕ) → is_laid words values ≡ true → Laid words values
unfolding is_laid
laid_out words values h =
    let a = both _ _ h in
    let b = both _ _ a.1 in
    let c = both _ _ b.1 in
    let d = both _ _ c.1 in
    record {
      whole = eqb-true _ _ a.0;
      store = eqb-true _ _ b.0;
      counted = leb-true _ _ c.0;
      allowed = d.0;
      within = leb-true _ _ d.1;
    }

pub record Held (words values : List ℕ) : Type 0 where
  pub laid : Laid words values
  pub parts : parts_from 1 (rows_of words) ≡ true
  pub few : fields_in 1 (rows_of words) ≤ 1024

pub message-held : (words values : List ℕ) → is_message words values ≡ true → Held words values
unfolding is_message
message-held words values h =
    let a = both _ _ h in
    let b = both _ _ a.1 in
    record { laid = laid_out words values a.0; parts = b.0; few = leb-true _ _ b.1 }

-- no row stores more than one field
weight-few : (floor : ℕ) (r : Row) (rows : List Row) → weight floor r rows ≤ 1
unfolding weight
weight-few floor (row k l t x) rows = by_tests (eqb k 1) (ltb l floor) (own_below l rows)
  where
    by_tests : (a b c : Bool) → pick a 1 (pick b 0 (pick c 0 1)) ≤ 1
    by_tests true b c = omega arith
    by_tests false true c = omega arith
    by_tests false false true = omega arith
    by_tests false false false = omega arith

pub fields-few : (floor : ℕ) (rows : List Row) → fields_in floor rows ≤ length rows
unfolding fields_in
fields-few floor [] = omega arith
fields-few floor (r ∷ rows) = omega (arith, weight-few floor r rows, fields-few floor rows)
