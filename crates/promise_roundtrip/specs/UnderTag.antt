-- What a map holds under a tag: storing a field makes it the only one there, and changes nothing under any other tag; so does storing a count
-- with its run, whatever run hung on it before.
use Rattle.std.specs.Prelude.{◌≡◌, Bool, ℕ, ◌+◌, ◌≤◌, length, take, drop}
use Rattle.std.proofs.Math.Path.{refl}
use Rattle.std.proofs.Common.{sym, ap, ◌∙◌, arith, drop_at, length-take-le, eqb-true, eq-eqb, ne_eqb}
use Rattle.std.proofs.Math.Bool.{true, false}
use mathlib.Core.List.{List, [], ◌∷◌, ◌++◌}
use Rattle.std.proofs.Math.Dec.{eqb}
use Rattle.std.proofs.lemmas.Bool.{eqb-false}
use Rattle.field_rules.specs.Choice.{pick}
use Rattle.build_records.specs.Records.{stored}
use Rattle.build_records.specs.declared.Record.{Record}
use Rattle.build_group_rules.specs.Reading.{joined_list}
use Rattle.build_nesting_laws.specs.Entries.{All, all_none, all_more, Deep, Other}
use Rattle.build_body_rules.specs.Body.{behind_run, stored_run}

-- the records of a depth under a tag
unfoldable pub under : ℕ → ℕ → List Record → List Record
under depth tag [] = []
under depth tag (r ∷ rs) = pick (eqb r.depth depth) (pick (eqb r.tag tag) (r ∷ under depth tag rs) (under depth tag rs)) (under depth tag rs)

-- no tag has two of them
pub record Single (depth : ℕ) (rs : List Record) : Type 0 where
  pub one : (tag : ℕ) → length (under depth tag rs) ≤ 1

pub single-none : (depth : ℕ) → Single depth []
unfolding under
single-none depth = record { one = λ tag. omega arith }

module _ (depth : ℕ) (x : Record) (rs : List Record) where
  -- one record more, of another depth or of it
  above : eqb x.depth depth ≡ false → (tag : ℕ) → under depth tag (x ∷ rs) ≡ under depth tag rs
  unfolding under
  above e tag = rw e

  there : eqb x.depth depth ≡ true → (tag : ℕ) → under depth tag (x ∷ rs) ≡ pick (eqb x.tag tag) (x ∷ under depth tag rs) (under depth tag rs)
  unfolding under
  there e tag = rw e

  single-rest : Single depth (x ∷ rs) → Single depth rs
  single-rest s = record { one = λ tag. by_depth tag (eqb x.depth depth) refl }
    where
      by_tag : (tag : ℕ) (b : Bool) → length (pick b (x ∷ under depth tag rs) (under depth tag rs)) ≤ 1 → length (under depth tag rs) ≤ 1
      by_tag tag true h = omega (arith, h)
      by_tag tag false h = h

      by_depth : (tag : ℕ) (b : Bool) → eqb x.depth depth ≡ b → length (under depth tag rs) ≤ 1
      by_depth tag true e = by_tag tag (eqb x.tag tag) (rw (there e tag) at (s.one tag))
      by_depth tag false e = rw (above e tag) at (s.one tag)

  -- nothing else stands under its tag
  alone : Single depth (x ∷ rs) → eqb x.depth depth ≡ true → under depth x.tag rs ≡ []
  alone s e = none (under depth x.tag rs) (rw (there e x.tag, eq-eqb x.tag x.tag refl) at (s.one x.tag))
    where
      none : (l : List Record) → length (x ∷ l) ≤ 1 → l ≡ []
      none [] h = refl
      none (y ∷ l) h = absurd (omega (arith, h))

-- the tags of two records, and a third
module _ (a b tag : ℕ) where
  same_tag : eqb a b ≡ true → eqb a tag ≡ eqb b tag
  same_tag e = ap (λ (n : ℕ). eqb n tag) (eqb-true a b e)

  other_tag : eqb a b ≡ false → eqb b tag ≡ true → eqb a tag ≡ false
  other_tag e h = ne_eqb a tag (λ q. eqb-false a b e (q ∙ sym (eqb-true b tag h)))

-- records that replace one, or come last: under the new one's tag there is only it
module _ (r : Record) where
  -- a new record before records that hold none of its tag, with what comes with it
  over-one : (x : Record) (rs more : List Record) → eqb x.depth r.depth ≡ true → eqb x.tag r.tag ≡ true → Single r.depth (x ∷ rs) → ((tag : ℕ) → under r.depth tag more ≡ under r.depth tag rs)
      → (tag : ℕ) → under r.depth tag (r ∷ more) ≡ pick (eqb r.tag tag) (r ∷ []) (under r.depth tag (x ∷ rs))
  over-one x rs more d t s same tag = there r.depth r more (eq-eqb r.depth r.depth refl) tag ∙ by_tag (eqb r.tag tag) refl
    where
      by_tag : (b : Bool) → eqb r.tag tag ≡ b → pick b (r ∷ under r.depth tag more) (under r.depth tag more) ≡ pick b (r ∷ []) (under r.depth tag (x ∷ rs))
      by_tag true e =
          let a : x.tag ≡ tag = eqb-true _ _ t ∙ eqb-true _ _ e in
          ap (λ (l : List Record). r ∷ l) (same tag ∙ ap (λ (n : ℕ). under r.depth n rs) (sym a) ∙ alone r.depth x rs s d)
      by_tag false e = rw (there r.depth x rs d tag, same_tag x.tag r.tag tag t ∙ e) (same tag)

  -- a record that stays where it is
  past_one : (x : Record) (rs more : List Record) → eqb x.depth r.depth ≡ true → eqb x.tag r.tag ≡ false → (tag : ℕ) → under r.depth tag more ≡ pick (eqb r.tag tag) (r ∷ []) (under r.depth tag rs)
      → under r.depth tag (x ∷ more) ≡ pick (eqb r.tag tag) (r ∷ []) (under r.depth tag (x ∷ rs))
  past_one x rs more d t tag same = there r.depth x more d tag ∙ by_tag (eqb r.tag tag) refl
    where
      by_tag : (b : Bool) → eqb r.tag tag ≡ b → pick (eqb x.tag tag) (x ∷ under r.depth tag more) (under r.depth tag more) ≡ pick b (r ∷ []) (under r.depth tag (x ∷ rs))
      by_tag true e = rw (other_tag x.tag r.tag tag t e) (same ∙ rw e refl)
      by_tag false e = ap (λ (l : List Record). pick (eqb x.tag tag) (x ∷ l) l) (same ∙ rw e refl) ∙ sym (there r.depth x rs d tag)

  past_deeper : (x : Record) (rs more : List Record) → eqb x.depth r.depth ≡ false → (tag : ℕ) → under r.depth tag more ≡ pick (eqb r.tag tag) (r ∷ []) (under r.depth tag rs)
      → under r.depth tag (x ∷ more) ≡ pick (eqb r.tag tag) (r ∷ []) (under r.depth tag (x ∷ rs))
  past_deeper x rs more d tag same = above r.depth x more d tag ∙ same ∙ ap (pick (eqb r.tag tag) (r ∷ [])) (sym (above r.depth x rs d tag))

  first_one : (more : List Record) (tag : ℕ) → under r.depth tag more ≡ [] → under r.depth tag (r ∷ more) ≡ pick (eqb r.tag tag) (r ∷ []) (under r.depth tag [])
  unfolding under
  first_one more tag none = rw (eq-eqb r.depth r.depth refl, none) refl

  -- "storing a held tag replaces the value": under its tag a map then holds what was stored last, and nothing that was stored before
  pub under-stored : (rs : List Record) → Single r.depth rs → (tag : ℕ) → under r.depth tag (stored r rs) ≡ pick (eqb r.tag tag) (r ∷ []) (under r.depth tag rs)
  unfolding stored
  under-stored [] s tag = first_one [] tag (unfold under in refl)
  under-stored (x ∷ rs) s tag = by_tests (eqb x.depth r.depth) (eqb x.tag r.tag) refl refl (under-stored rs (single-rest r.depth x rs s) tag)
    where
      by_tests : (d t : Bool) → eqb x.depth r.depth ≡ d → eqb x.tag r.tag ≡ t → under r.depth tag (stored r rs) ≡ pick (eqb r.tag tag) (r ∷ []) (under r.depth tag rs)
          → under r.depth tag (pick d (pick t (r ∷ rs) (x ∷ stored r rs)) (x ∷ stored r rs)) ≡ pick (eqb r.tag tag) (r ∷ []) (under r.depth tag (x ∷ rs))
      by_tests true true d t later = over-one x rs rs d t s (λ n. refl) tag
      by_tests true false d t later = past_one x rs (stored r rs) d t tag later
      by_tests false t d u later = past_deeper x rs (stored r rs) d tag later

-- "storing a held tag replaces the value and keeps the position"
pub field-replaced : (r x : Record) (before after : List Record) → x.depth ≡ r.depth → x.tag ≡ r.tag → All (Other r.depth r.tag) before → stored r (before ++ (x ∷ after)) ≡ before ++ (r ∷ after)
unfolding stored
field-replaced r x [] after d t all_none = rw (eq-eqb x.depth r.depth d, eq-eqb x.tag r.tag t) refl
field-replaced r x (y ∷ before) after d t (all_more o a) = by_tests (eqb y.depth r.depth) (eqb y.tag r.tag) refl refl (ap (λ (l : List Record). y ∷ l) (field-replaced r x before after d t a))
  where
    by_tests : (p q : Bool) → eqb y.depth r.depth ≡ p → eqb y.tag r.tag ≡ q → y ∷ stored r (before ++ (x ∷ after)) ≡ y ∷ (before ++ (r ∷ after))
        → pick p (pick q (r ∷ (before ++ (x ∷ after))) (y ∷ stored r (before ++ (x ∷ after)))) (y ∷ stored r (before ++ (x ∷ after))) ≡ y ∷ (before ++ (r ∷ after))
    by_tests true true u v later = absurd (o.other (eqb-true _ _ u) (eqb-true _ _ v))
    by_tests true false u v later = later
    by_tests false q u v later = later

-- the records of runs stand deeper
under-deeper : (tag : ℕ) (es : List Record) → All (Deep 1) es → under 0 tag es ≡ []
unfolding under
under-deeper tag [] all_none = refl
under-deeper tag (e ∷ es) (all_more d a) = rw (ne_eqb e.depth 0 (λ q. omega (arith, d.deep, q))) (under-deeper tag es a)

under-append : (depth tag : ℕ) (rs ss : List Record) → under depth tag (rs ++ ss) ≡ under depth tag rs ++ under depth tag ss
unfolding under
under-append depth tag [] ss = refl
under-append depth tag (r ∷ rs) ss = by_tests (eqb r.depth depth) (eqb r.tag tag) (under-append depth tag rs ss)
  where
    by_tests : (d t : Bool) → under depth tag (rs ++ ss) ≡ under depth tag rs ++ under depth tag ss
        → pick d (pick t (r ∷ under depth tag (rs ++ ss)) (under depth tag (rs ++ ss))) (under depth tag (rs ++ ss)) ≡ pick d (pick t (r ∷ under depth tag rs) (under depth tag rs)) (under depth tag rs) ++ under depth tag ss
    by_tests true true e = ap (λ (l : List Record). r ∷ l) e
    by_tests true false e = e
    by_tests false t e = e

under-behind : (tag : ℕ) (rs : List Record) → under 0 tag (behind_run rs) ≡ under 0 tag rs
unfolding behind_run
under-behind tag [] = refl
under-behind tag (r ∷ rs) = by_test (eqb r.depth 0) refl (under-behind tag rs)
  where
    by_test : (b : Bool) → eqb r.depth 0 ≡ b → under 0 tag (behind_run rs) ≡ under 0 tag rs → under 0 tag (pick b (r ∷ rs) (behind_run rs)) ≡ under 0 tag (r ∷ rs)
    by_test true e later = refl
    by_test false e later = later ∙ sym (above 0 r rs e tag)

-- "a second run replaces the first": the body then holds the last count under its tag
module _ (r : Record) (outside : r.depth ≡ 0) (es : List Record) (deeper : All (Deep 1) es) where
  behind-same : (rs : List Record) (tag : ℕ) → under r.depth tag (es ++ behind_run rs) ≡ under r.depth tag rs
  behind-same rs tag = rw outside (under-append 0 tag es (behind_run rs) ∙ rw (under-deeper tag es deeper) (under-behind tag rs))

  pub under-run : (rs : List Record) → Single r.depth rs → (tag : ℕ) → under r.depth tag (stored_run r es rs) ≡ pick (eqb r.tag tag) (r ∷ []) (under r.depth tag rs)
  unfolding stored_run
  under-run [] s tag = first_one r es tag (ap (λ (d : ℕ). under d tag es) outside ∙ under-deeper tag es deeper)
  under-run (x ∷ rs) s tag = by_tests (eqb x.depth r.depth) (eqb x.tag r.tag) refl refl (under-run rs (single-rest r.depth x rs s) tag)
    where
      by_tests : (d t : Bool) → eqb x.depth r.depth ≡ d → eqb x.tag r.tag ≡ t → under r.depth tag (stored_run r es rs) ≡ pick (eqb r.tag tag) (r ∷ []) (under r.depth tag rs)
          → under r.depth tag (pick d (pick t (r ∷ (es ++ behind_run rs)) (x ∷ stored_run r es rs)) (x ∷ stored_run r es rs)) ≡ pick (eqb r.tag tag) (r ∷ []) (under r.depth tag (x ∷ rs))
      by_tests true true d t later = over-one r x rs (es ++ behind_run rs) d t s (behind-same rs) tag
      by_tests true false d t later = past_one r x rs (stored_run r es rs) d t tag later
      by_tests false t d u later = past_deeper r x rs (stored_run r es rs) d tag later

-- the second run stands in the place of the first, of which nothing is left: behind it comes what came behind the first
behind_old : (old after : List Record) → All (Deep 1) old → behind_run (old ++ after) ≡ behind_run after
unfolding behind_run
behind_old [] after all_none = refl
behind_old (r ∷ old) after (all_more d a) = rw (ne_eqb r.depth 0 (λ q. omega (arith, d.deep, q))) (behind_old old after a)

pub run-replaced : (r x : Record) (es before old after : List Record) → x.depth ≡ r.depth → x.tag ≡ r.tag → All (Other r.depth r.tag) before → All (Deep 1) old → behind_run after ≡ after
    → stored_run r es (before ++ (x ∷ (old ++ after))) ≡ before ++ (r ∷ (es ++ after))
unfolding stored_run
run-replaced r x es [] old after d t all_none deeper loose = rw (eq-eqb x.depth r.depth d, eq-eqb x.tag r.tag t, behind_old old after deeper, loose) refl
run-replaced r x es (y ∷ before) old after d t (all_more o a) deeper loose = by_tests (eqb y.depth r.depth) (eqb y.tag r.tag) refl refl (ap (λ (l : List Record). y ∷ l) (run-replaced r x es before old after d t a deeper loose))
  where
    by_tests : (p q : Bool) → eqb y.depth r.depth ≡ p → eqb y.tag r.tag ≡ q → y ∷ stored_run r es (before ++ (x ∷ (old ++ after))) ≡ y ∷ (before ++ (r ∷ (es ++ after)))
        → pick p (pick q (r ∷ (es ++ behind_run (before ++ (x ∷ (old ++ after))))) (y ∷ stored_run r es (before ++ (x ∷ (old ++ after))))) (y ∷ stored_run r es (before ++ (x ∷ (old ++ after)))) ≡ y ∷ (before ++ (r ∷ (es ++ after)))
    by_tests true true u v later = absurd (o.other (eqb-true _ _ u) (eqb-true _ _ v))
    by_tests true false u v later = later
    by_tests false q u v later = later

-- no tag has two of them then
pub single-after : (r : Record) (rs ss : List Record) → Single r.depth rs → ((tag : ℕ) → under r.depth tag ss ≡ pick (eqb r.tag tag) (r ∷ []) (under r.depth tag rs)) → Single r.depth ss
single-after r rs ss s same = record { one = λ tag. rw (same tag) (by_tag tag (eqb r.tag tag)) }
  where
    by_tag : (tag : ℕ) (b : Bool) → length (pick b (r ∷ []) (under r.depth tag rs)) ≤ 1
    by_tag tag true = omega arith
    by_tag tag false = s.one tag

-- an entry is a map of its own, from where its records start: "unknown user tags join the open entry", the only ones that it may hold already,
-- for "declared tags must rise in position, else 2"
pub under-joined : (start : ℕ) (r : Record) (rs : List Record) → start ≤ length rs → Single r.depth (drop start rs) → (tag : ℕ)
    → under r.depth tag (drop start (joined_list start r rs)) ≡ pick (eqb r.tag tag) (r ∷ []) (under r.depth tag (drop start rs))
unfolding joined_list
under-joined start r rs within s tag = ap (under r.depth tag) (drop_at (take start rs) (stored r (drop start rs)) start (length-take-le start rs within)) ∙ under-stored r (drop start rs) s tag
