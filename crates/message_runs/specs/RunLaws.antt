-- A run in its rows: what the walks over rows say of it, and its rows one level deeper.
use Rattle.std.proofs.Math.Path.{◌≡◌, refl}
use Rattle.std.proofs.Common.{ap, ◌∙◌, append_assoc, arith, length-append, ne_eqb, le-leb}
use Rattle.std.specs.Prelude.{Bool, List, [], ◌∷◌, ◌++◌, ℕ, ◌+◌, ◌≤◌, length, leb, eqb}
use Rattle.std.proofs.Math.Bool.{true, false}
use Rattle.field_rules.specs.Choice.{pick}
use Rattle.message_maps.specs.Map.{Map, end, field, entry, joined}
use Rattle.message_maps.specs.Rows.{Row, row, laid, level_of}
use Rattle.message_lent_rules.specs.LentLaws.{both}
use Rattle.message_lent_rules.specs.Formed.{is_formed, entries_formed, is_run}
use Rattle.message_hung_rows.specs.Hanging.{raised, within, is_untagged, untagged_in, is_of, all_of}
use Rattle.message_rules.specs.Runs.{is_empty, in_last, last_from, has_untagged}

-- a draft has no field at its top level
unfoldable pub only_entries : Map → Bool
only_entries end = true
only_entries (field t v rest) = false
only_entries (entry s d own rest) = only_entries rest

pub entries_only : (m : Map) → entries_formed m ≡ true → only_entries m ≡ true
unfolding only_entries entries_formed
entries_only end h = refl
entries_only (field t v rest) h = h
entries_only (entry s d own rest) h = entries_only rest (both (is_formed own) _ h).1

pub raised-laid : (l : ℕ) (m : Map) → raised (laid l m) ≡ laid (l + 1) m
unfolding raised laid
raised-laid l end = refl
raised-laid l (field t v rest) = ap (λ (r : List Row). row 1 (l + 1) t (length v) ∷ r) (raised-laid l rest)
raised-laid l (entry s d own rest) =
    ap (λ (r : List Row). row 2 (l + 1) s d ∷ r) (raised-append (laid (l + 1) own) (laid l rest) ∙ rw (raised-laid (l + 1) own, raised-laid l rest))
  where
    raised-append : (a b : List Row) → raised (a ++ b) ≡ raised a ++ raised b
    raised-append [] b = refl
    raised-append (row k l t x ∷ a) b = ap (λ (r : List Row). row k (l + 1) t x ∷ r) (raised-append a b)

within-append : (bound : ℕ) (a b : List Row) → within bound a ≡ true → within bound b ≡ true → within bound (a ++ b) ≡ true
unfolding within
within-append bound [] b h k = k
within-append bound (r ∷ a) b h k = let q = both (leb (level_of r) bound) (within bound a) h in rw q.0 (within-append bound a b q.1 k)

pub within-laid : (bound l : ℕ) (m : Map) → l + length (laid l m) ≤ bound → within bound (laid l m) ≡ true
unfolding within laid level_of
within-laid bound l end h = refl
within-laid bound l (field t v rest) h = rw (le-leb l bound (omega arith)) (within-laid bound l rest (omega arith))
within-laid bound l (entry s d own rest) h =
    let n = length-append (laid (l + 1) own) (laid l rest) in
    rw (le-leb l bound (omega arith)) (within-append bound (laid (l + 1) own) (laid l rest) (within-laid bound (l + 1) own (omega arith))
    (within-laid bound l rest (omega arith)))

-- rows below the top level are passed over
untagged_below : (m : Map) (l : ℕ) (rest : List Row) → untagged_in (laid (l + 1) m ++ rest) ≡ untagged_in rest
unfolding untagged_in is_untagged laid
untagged_below end l rest = refl
untagged_below (field t v more) l rest = rw (ne_eqb (l + 1) 0 (λ e. omega arith)) (untagged_below more l rest)
untagged_below (entry s d own more) l rest =
    rw (ne_eqb (l + 1) 0 (λ e. omega arith))
    (ap untagged_in (append_assoc (laid (l + 1 + 1) own) (laid (l + 1) more) rest) ∙ untagged_below own (l + 1) (laid (l + 1) more ++ rest)
    ∙ untagged_below more l rest)

pub untagged_laid : (m : Map) → only_entries m ≡ true → untagged_in (laid 0 m) ≡ has_untagged m
unfolding untagged_in is_untagged laid has_untagged only_entries
untagged_laid end h = refl
untagged_laid (field t v rest) h = let z : ◌≡◌ {A = ℕ} 0 1 = cc in absurd (omega arith)
untagged_laid (entry s d own rest) h =
    by_tests (eqb s 0) (eqb d 0) (untagged_below own 0 (laid 0 rest) ∙ untagged_laid rest h)
  where
    by_tests : (a b : Bool) → untagged_in (laid 1 own ++ laid 0 rest) ≡ has_untagged rest
        → pick (pick a true b) true (untagged_in (laid 1 own ++ laid 0 rest)) ≡ pick a true (pick b true (has_untagged rest))
    by_tests true b e = refl
    by_tests false true e = refl
    by_tests false false e = e

module _ (start delimiter : ℕ) where
  all-below : (m : Map) (l : ℕ) (rest : List Row) → all_of start delimiter (laid (l + 1) m ++ rest) ≡ all_of start delimiter rest
  unfolding all_of is_of laid
  all-below end l rest = refl
  all-below (field t v more) l rest = rw (ne_eqb (l + 1) 0 (λ e. omega arith)) (all-below more l rest)
  all-below (entry s d own more) l rest =
      rw (ne_eqb (l + 1) 0 (λ e. omega arith))
      (ap (all_of start delimiter) (append_assoc (laid (l + 1 + 1) own) (laid (l + 1) more) rest) ∙ all-below own (l + 1) (laid (l + 1) more ++ rest)
      ∙ all-below more l rest)

  pub all_laid : (m : Map) → only_entries m ≡ true → all_of start delimiter (laid 0 m) ≡ is_run start delimiter m
  unfolding all_of is_of laid is_run only_entries
  all_laid end h = refl
  all_laid (field t v rest) h = let z : ◌≡◌ {A = ℕ} 0 1 = cc in absurd (omega arith)
  all_laid (entry s d own rest) h =
      by_tests (eqb s start) (eqb d delimiter) (all-below own 0 (laid 0 rest) ∙ all_laid rest h)
    where
      by_tests : (a b : Bool) → all_of start delimiter (laid 1 own ++ laid 0 rest) ≡ is_run start delimiter rest
          → pick (pick a b false) (all_of start delimiter (laid 1 own ++ laid 0 rest)) false ≡ pick a (pick b (is_run start delimiter rest) false) false
      by_tests true true e = e
      by_tests true false e = refl
      by_tests false b e = refl

-- the last entry
pub record LastSplit (run : Map) : Type 0 where
  pub front : Map
  pub start : ℕ
  pub delimiter : ℕ
  pub own : Map
  pub whole : run ≡ joined front (entry start delimiter own end)
  pub changed : (change : Map → Map) → in_last change run ≡ joined front (entry start delimiter (change own) end)
  pub some : is_empty run ≡ false
  pub last : (at i : ℕ) → last_from at i (laid 0 run) ≡ i + length (laid 0 front) + 1

pub data Last (run : Map) : Type 0 where
  none_last : run ≡ end → Last run
  one_last : LastSplit run → Last run

last-below : (m : Map) (l at i : ℕ) (rest : List Row) → last_from at i (laid (l + 1) m ++ rest) ≡ last_from at (i + length (laid (l + 1) m)) rest
unfolding last_from laid level_of
last-below end l at i rest = ap (λ (n : ℕ). last_from at n rest) (omega arith)
last-below (field t v more) l at i rest =
    rw (ne_eqb (l + 1) 0 (λ e. omega arith)) (last-below more l at (i + 1) rest ∙ ap (λ (n : ℕ). last_from at n rest) (omega arith))
last-below (entry s d own more) l at i rest =
    rw (ne_eqb (l + 1) 0 (λ e. omega arith))
    (ap (last_from at (i + 1)) (append_assoc (laid (l + 1 + 1) own) (laid (l + 1) more) rest)
    ∙ last-below own (l + 1) at (i + 1) (laid (l + 1) more ++ rest)
    ∙ last-below more l at (i + 1 + length (laid (l + 1 + 1) own)) rest
    ∙ ap (λ (n : ℕ). last_from at n rest) (omega (arith, length-append (laid (l + 1 + 1) own) (laid (l + 1) more))))

only_entry : (s d : ℕ) (own : Map) → LastSplit (entry s d own end)
unfolding in_last is_empty joined last_from laid level_of
only_entry s d own =
    record {
      front = end;
      start = s;
      delimiter = d;
      own = own;
      whole = refl;
      changed = λ change. refl;
      some = refl;
      last = λ at i. last-below own 0 (i + 1) (i + 1) [] ∙ omega arith;
    }

more-entries : (s d : ℕ) (own rest : Map) → LastSplit rest → LastSplit (entry s d own rest)
unfolding in_last is_empty joined last_from laid level_of
more-entries s d own rest q =
    record {
      front = entry s d own q.front;
      start = q.start;
      delimiter = q.delimiter;
      own = q.own;
      whole = ap (entry s d own) q.whole;
      changed = λ change. rw q.some (ap (entry s d own) (q.changed change));
      some = refl;
      last = λ at i.
          last-below own 0 (i + 1) (i + 1) (laid 0 rest)
          ∙ q.last (i + 1) (i + 1 + length (laid 1 own))
          ∙ omega (arith, length-append (laid 1 own) (laid 0 q.front));
    }

pub last_of : (run : Map) → only_entries run ≡ true → Last run
unfolding only_entries
last_of end h = none_last refl
last_of (field t v rest) h = let z : ◌≡◌ {A = ℕ} 0 1 = cc in absurd (omega arith)
last_of (entry s d own rest) h = by_last (last_of rest h)
  where
    by_last : Last rest → Last (entry s d own rest)
    by_last (none_last e) = rw e (one_last (only_entry s d own))
    by_last (one_last q) = one_last (more-entries s d own rest q)
