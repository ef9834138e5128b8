-- The rows of a map are allowed where the map is formed and fits behind the rows before it; and only there. By induction over the map: a
-- tag that stood before may go on with its run, and stands no more behind that.
use Rattle.std.specs.Prelude.{◌≡◌, ◌⊎◌, Bool, List, [], ◌∷◌, ◌++◌, ℕ, ◌+◌, ◌≤◌, ◌<◌, length, leb, eqb}
use Rattle.std.proofs.Math.Path.{refl}
use Rattle.std.proofs.Common.{sym, ap, ◌∙◌, inl, inr, arith}
use Rattle.std.proofs.Math.Bool.{true, false}
use borrow.Author.Tests.{eqb-true, eq-eqb, ne_eqb, le-leb, lt-leb, le-ltb, lt-ltb}
use Rattle.field_rules.specs.Choice.{pick, pick_same}
use Rattle.message_maps.specs.Map.{Map, end, field, entry, past_leading}
use Rattle.message_maps.specs.Rows.{Row, row, laid, level_of, matches}
use Rattle.message_lent_rules.specs.Lent.{held_before, delimiter_is, continues, follows_on, deepest, field_allowed, head_allowed, row_allowed, rows_allowed}
use Rattle.message_lent_rules.specs.LentLaws.{both}
use Rattle.message_lent_rules.specs.Formed.{stands, goes_on, is_formed}
use Rattle.message_lent_rules.specs.StandLaws.{either, never, neither, nor, not_so, FieldFormed, field_formed, formed_field, EntryFormed, entry_formed, formed_entry, past_none, past_field, past_entry, past_same, field-stands}

-- rows are gone past, and then stand before the next, the nearest first
unfoldable pub passed : List Row → List Row → List Row
passed before [] = before
passed before (r ∷ rows) = passed (r ∷ before) rows

pub passed-append : (before a b : List Row) → passed before (a ++ b) ≡ passed (passed before a) b
unfolding passed
passed-append before [] b = refl
passed-append before (r ∷ a) b = passed-append (r ∷ before) a b

pub allowed_append : (before a b : List Row) → rows_allowed before (a ++ b) ≡ pick (rows_allowed before a) (rows_allowed (passed before a) b) false
unfolding passed rows_allowed
allowed_append before [] b = refl
allowed_append before (r ∷ a) b = by_test (row_allowed before r) (allowed_append (r ∷ before) a b)
  where
    by_test : (t : Bool) → rows_allowed (r ∷ before) (a ++ b) ≡ pick (rows_allowed (r ∷ before) a) (rows_allowed (passed (r ∷ before) a) b) false
        → pick t (rows_allowed (r ∷ before) (a ++ b)) false ≡ pick (pick t (rows_allowed (r ∷ before) a) false) (rows_allowed (passed (r ∷ before) a) b) false
    by_test true again = again
    by_test false again = refl

pub allowed_split : (before a b : List Row) → rows_allowed before (a ++ b) ≡ true → (rows_allowed before a ≡ true) × (rows_allowed (passed before a) b ≡ true)
allowed_split before a b h = both (rows_allowed before a) _ (sym (allowed_append before a b) ∙ h)

-- a map's rows leave as much depth as there was
pub deep_past : (l : ℕ) (m : Map) (before : List Row) → l ≤ deepest before → l ≤ deepest (passed before (laid l m))
unfolding laid passed
deep_past l end before h = h
deep_past l (field t v rest) before h = deep_past l rest (row 1 l t (length v) ∷ before) (unfold deepest in omega arith)
deep_past l (entry s d own rest) before h =
    rw (passed-append (row 2 l s d ∷ before) (laid (l + 1) own) (laid l rest))
    (deep_past l rest (passed (row 2 l s d ∷ before) (laid (l + 1) own))
    (omega (arith, deep_past (l + 1) own (row 2 l s d ∷ before) (unfold deepest in omega arith))))

-- rows that stand deeper are looked past
module _ (l : ℕ) where
  pub held_past : (k u n : ℕ) (own : Map) (before : List Row) → l < n → held_before k l u (passed before (laid n own)) ≡ held_before k l u before
  unfolding laid passed
  held_past k u n end before h = refl
  held_past k u n (field t v rest) before h =
      held_past k u n rest (row 1 n t (length v) ∷ before) h
      ∙ (unfold held_before matches level_of in rw (le-ltb n l (omega arith), ne_eqb n l (λ e. omega arith), pick_same (eqb 1 k) false))
  held_past k u n (entry s d own rest) before h =
      rw (passed-append (row 2 n s d ∷ before) (laid (n + 1) own) (laid n rest))
      (held_past k u n rest (passed (row 2 n s d ∷ before) (laid (n + 1) own)) h
      ∙ held_past k u (n + 1) own (row 2 n s d ∷ before) (omega arith)
      ∙ (unfold held_before matches level_of in rw (le-ltb n l (omega arith), ne_eqb n l (λ e. omega arith), pick_same (eqb 2 k) false)))

  follows_past : (u e n : ℕ) (own : Map) (before : List Row) → l < n → follows_on l u e (passed before (laid n own)) ≡ follows_on l u e before
  unfolding laid passed
  follows_past u e n end before h = refl
  follows_past u e n (field t v rest) before h =
      follows_past u e n rest (row 1 n t (length v) ∷ before) h
      ∙ (unfold follows_on level_of in rw (lt-leb n l h))
  follows_past u e n (entry s d own rest) before h =
      rw (passed-append (row 2 n s d ∷ before) (laid (n + 1) own) (laid n rest))
      (follows_past u e n rest (passed (row 2 n s d ∷ before) (laid (n + 1) own)) h
      ∙ follows_past u e (n + 1) own (row 2 n s d ∷ before) (omega arith)
      ∙ (unfold follows_on level_of in rw (lt-leb n l h)))

-- whether a tag stood before, as a field or as a run
unfoldable pub stood : ℕ → ℕ → List Row → Bool
stood l u before = pick (held_before 1 l u before) true (held_before 2 l u before)

module _ (l u : ℕ) (before : List Row) where
  stood-field : (t x : ℕ) → stood l u (row 1 l t x ∷ before) ≡ pick (eqb t u) true (stood l u before)
  unfolding stood held_before matches level_of
  stood-field t x = rw (le-ltb l l (omega arith), eq-eqb l l refl) (by_test (eqb t u))
    where
      by_test : (b : Bool) → pick (pick b true (held_before 1 l u before)) true (held_before 2 l u before) ≡ pick b true (pick (held_before 1 l u before) true (held_before 2 l u before))
      by_test true = refl
      by_test false = refl

  stood-entry : (s d : ℕ) (own : Map) → stood l u (passed (row 2 l s d ∷ before) (laid (l + 1) own)) ≡ pick (eqb s u) true (stood l u before)
  unfolding stood
  stood-entry s d own =
      rw (held_past l 1 u (l + 1) own (row 2 l s d ∷ before) (omega arith), held_past l 2 u (l + 1) own (row 2 l s d ∷ before) (omega arith))
      (unfold held_before matches level_of in rw (le-ltb l l (omega arith), eq-eqb l l refl) (by_test (held_before 1 l u before) (eqb s u) (held_before 2 l u before)))
    where
      by_test : (f b r : Bool) → pick f true (pick b true r) ≡ pick b true (pick f true r)
      by_test true true r = refl
      by_test true false r = refl
      by_test false b r = refl

  stood-none : (k n t x : ℕ) → n < l → stood l u (row k n t x ∷ before) ≡ false
  unfolding stood held_before level_of
  stood-none k n t x h = rw (lt-ltb n l h)

  follows_field : (e t x : ℕ) → follows_on l u e (row 1 l t x ∷ before) ≡ eqb t u
  unfolding follows_on continues matches level_of
  follows_field e t x = rw (le-leb l l (omega arith), eq-eqb l l refl) (by_test (eqb t u))
    where
      by_test : (b : Bool) → pick b true false ≡ b
      by_test true = refl
      by_test false = refl

  follows_entry : (e s d : ℕ) (own : Map) → follows_on l u e (passed (row 2 l s d ∷ before) (laid (l + 1) own)) ≡ pick (eqb s u) (eqb d e) false
  follows_entry e s d own =
      follows_past l u e (l + 1) own (row 2 l s d ∷ before) (omega arith)
      ∙ (unfold follows_on continues matches level_of delimiter_is in rw (le-leb l l (omega arith), eq-eqb l l refl))

-- when a row below the parts is allowed
module _ (l : ℕ) (before : List Row) (some : 1 ≤ l) where
  field_row : (t x : ℕ) → row_allowed before (row 1 l t x) ≡ pick (leb l (deepest before)) (pick (eqb t 0) false (pick (stood l t before) false true)) false
  unfolding row_allowed field_allowed stood
  field_row t x = rw (ne_eqb l 0 (λ e. omega arith)) (by_test (held_before 1 l t before))
    where
      by_test : (f : Bool) → pick (leb l (deepest before)) (pick (eqb t 0) false (pick f false (pick (held_before 2 l t before) false true))) false
          ≡ pick (leb l (deepest before)) (pick (eqb t 0) false (pick (pick f true (held_before 2 l t before)) false true)) false
      by_test true = refl
      by_test false = refl

  head_row : (s d : ℕ) → row_allowed before (row 2 l s d) ≡ pick (leb l (deepest before)) (pick (eqb s 0) false (pick (eqb d 0) false (pick (stood l s before) (follows_on l s d before) true))) false
  unfolding row_allowed head_allowed stood
  head_row s d = rw (ne_eqb l 0 (λ e. omega arith)) (by_test (held_before 1 l s before))
    where
      by_test : (f : Bool)
          → pick (leb l (deepest before)) (pick (eqb s 0) false (pick (eqb d 0) false (pick f (follows_on l s d before) (pick (held_before 2 l s before) (follows_on l s d before) true)))) false
          ≡ pick (leb l (deepest before)) (pick (eqb s 0) false (pick (eqb d 0) false (pick (pick f true (held_before 2 l s before)) (follows_on l s d before) true))) false
      by_test true = refl
      by_test false = refl

  field_row-new : (t x : ℕ) → row_allowed before (row 1 l t x) ≡ true → (eqb t 0 ≡ false) × (stood l t before ≡ false)
  field_row-new t x h =
      let a = neither (eqb t 0) _ (both (leb l (deepest before)) _ (sym (field_row t x) ∙ h)).1 in
      (a.0, (neither (stood l t before) true a.1).0)

  head_row_on : (s d : ℕ) → row_allowed before (row 2 l s d) ≡ true → (eqb s 0 ≡ false) × (eqb d 0 ≡ false) × (pick (stood l s before) (follows_on l s d before) true ≡ true)
  head_row_on s d h =
      let a = neither (eqb s 0) _ (both (leb l (deepest before)) _ (sym (head_row s d) ∙ h)).1 in
      let b = neither (eqb d 0) _ a.1 in
      (a.0, b.0, b.1)

-- whether an entry that comes next goes on with what is before
unfoldable pub goes_from : ℕ → ℕ → List Row → Map → Bool
goes_from l u before end = true
goes_from l u before (field t v rest) = true
goes_from l u before (entry s d own rest) = pick (eqb s u) (follows_on l u d before) true

goes-none-from : (l u : ℕ) (before : List Row) (m : Map) → stands u m ≡ false → goes_from l u before m ≡ true
unfolding stands goes_from
goes-none-from l u before end h = refl
goes-none-from l u before (field t v rest) h = refl
goes-none-from l u before (entry s d own rest) h = rw (nor (eqb s u) _ h).0

goes_same : (l u s d : ℕ) (own rest : Map) (before : List Row) → eqb s u ≡ true → goes_from l u before (entry s d own rest) ≡ follows_on l u d before
unfolding goes_from
goes_same l u s d own rest before e = rw e

goes_other : (l u s d : ℕ) (own rest : Map) (before : List Row) → eqb s u ≡ false → goes_from l u before (entry s d own rest) ≡ true
unfolding goes_from
goes_other l u s d own rest before e = rw e

-- where nothing can go on, the tag stands no more
stands_no_more : (l u : ℕ) (before : List Row) (m : Map) → ((e : ℕ) → follows_on l u e before ≡ false) → stands u (past_leading u m) ≡ false → goes_from l u before m ≡ true → stands u m ≡ false
unfolding stands past_leading goes_from
stands_no_more l u before end f h g = refl
stands_no_more l u before (field t v rest) f h g = h
stands_no_more l u before (entry s d own rest) f h g = by_test (eqb s u) refl h g
  where
    by_test : (b : Bool) → eqb s u ≡ b → stands u (pick b (past_leading u rest) (entry s d own rest)) ≡ false → pick b (follows_on l u d before) true ≡ true → pick b true (stands u rest) ≡ false
    by_test true e h g = never (sym g ∙ f d)
    by_test false e h g = (nor (eqb s u) _ h).1

-- a map fits behind rows: a tag that stood there goes on at once or not at all
unfoldable pub Fits : ℕ → List Row → Map → Type 0
Fits l before m = (u : ℕ) → stood l u before ≡ true → (stands u (past_leading u m) ≡ false) × (goes_from l u before m ≡ true)

fits_once : (l : ℕ) (before : List Row) (m : Map) (u : ℕ) → Fits l before m → stood l u before ≡ true → stands u (past_leading u m) ≡ false
unfolding Fits
fits_once l before m u fits k = (fits u k).0

fits_goes : (l : ℕ) (before : List Row) (m : Map) (u : ℕ) → Fits l before m → stood l u before ≡ true → goes_from l u before m ≡ true
unfolding Fits
fits_goes l before m u fits k = (fits u k).1

-- an entry's start tag is new, or its run goes on
fits_on : (l s d : ℕ) (own rest : Map) (before : List Row) → Fits l before (entry s d own rest) → pick (stood l s before) (follows_on l s d before) true ≡ true
unfolding Fits goes_from
fits_on l s d own rest before fits = by_test (stood l s before) refl
  where
    by_test : (b : Bool) → stood l s before ≡ b → pick b (follows_on l s d before) true ≡ true
    by_test true e = rw (eq-eqb s s refl) at (fits s e).1
    by_test false e = refl

-- behind a head a map fits
pub fits_head : (l n s d : ℕ) (before : List Row) (m : Map) → n < l → Fits l (row 2 n s d ∷ before) m
unfolding Fits
fits_head l n s d before m h u k = never (sym k ∙ stood-none l u before 2 n s d h)

-- a tag that stood before the first field or entry of a map, or is that
module _ (l u : ℕ) (before : List Row) (rest : Map) where
  fits_next : (b : Bool) → (b ≡ true → (stands u (past_leading u rest) ≡ false) × (goes_from l u before rest ≡ true)) → (b ≡ false → stands u rest ≡ false)
      → (stands u (past_leading u rest) ≡ false) × (goes_from l u before rest ≡ true)
  fits_next true is other = is refl
  fits_next false is other = (past_none u rest (other refl), goes-none-from l u before rest (other refl))

-- what fits behind a field goes on with anything, and behind an entry with its delimiter
goes-field : (l t x : ℕ) (before : List Row) (rest : Map) → goes_from l t (row 1 l t x ∷ before) rest ≡ true
unfolding goes_from
goes-field l t x before end = refl
goes-field l t x before (field u v more) = refl
goes-field l t x before (entry s d own more) = rw (follows_field l t before d t x, eq-eqb t t refl) (pick_same (eqb s t) true)

goes-entry : (l s d : ℕ) (own : Map) (before : List Row) (rest : Map) → goes_from l s (passed (row 2 l s d ∷ before) (laid (l + 1) own)) rest ≡ goes_on s d rest
unfolding goes_from goes_on
goes-entry l s d own before end = refl
goes-entry l s d own before (field u v more) = refl
goes-entry l s d own before (entry t e o more) = rw (follows_entry l s before e s d own, eq-eqb s s refl)

fits_field : (l t x : ℕ) (v : List ℕ) (before : List Row) (rest : Map) → FieldFormed t rest → Fits l before (field t v rest) → Fits l (row 1 l t x ∷ before) rest
unfolding Fits
fits_field l t x v before rest f fits u k =
    fits_next l u (row 1 l t x ∷ before) rest (eqb t u)
    (λ e. let same = eqb-true t u e in rw (← same) (f.once, goes-field l t x before rest))
    (λ e. sym (past_field u t v rest e) ∙ (fits u (sym (ap (λ (b : Bool). pick b true (stood l u before)) e) ∙ sym (stood-field l u before t x) ∙ k)).0)

fits_entry : (l s d : ℕ) (own : Map) (before : List Row) (rest : Map) → EntryFormed s d own rest → Fits l before (entry s d own rest) → Fits l (passed (row 2 l s d ∷ before) (laid (l + 1) own)) rest
unfolding Fits
fits_entry l s d own before rest f fits u k =
    fits_next l u (passed (row 2 l s d ∷ before) (laid (l + 1) own)) rest (eqb s u)
    (λ e. let same = eqb-true s u e in rw (← same) (f.once, goes-entry l s d own before rest ∙ f.on))
    (λ e. sym (past_entry u s d own rest e) ∙ (fits u (sym (ap (λ (b : Bool). pick b true (stood l u before)) e) ∙ sym (stood-entry l u before s d own) ∙ k)).0)

-- a formed map's rows are allowed
pub formed_allowed : (l : ℕ) (m : Map) (before : List Row) → 1 ≤ l → l ≤ deepest before → is_formed m ≡ true → Fits l before m → rows_allowed before (laid l m) ≡ true
unfolding laid rows_allowed
formed_allowed l end before some deep formed fits = refl
formed_allowed l (field t v rest) before some deep formed fits =
    let f = field_formed t v rest formed in
    let new : stood l t before ≡ false = not_so (stood l t before) (λ k. never (sym (field-stands t v rest) ∙ fits_once l before (field t v rest) t fits k)) in
    rw (field_row l before some t (length v), le-leb l (deepest before) deep, f.some, new)
    (formed_allowed l rest (row 1 l t (length v) ∷ before) some (unfold deepest in omega arith) f.rest_formed (fits_field l t (length v) v before rest f fits))
formed_allowed l (entry s d own rest) before some deep formed fits =
    let f = entry_formed s d own rest formed in
    let head = row 2 l s d in
    let goes : pick (stood l s before) (follows_on l s d before) true ≡ true = fits_on l s d own rest before fits in
    let inner : rows_allowed (head ∷ before) (laid (l + 1) own) ≡ true = formed_allowed (l + 1) own (head ∷ before) (omega arith) (unfold deepest in omega arith) f.own_formed (fits_head (l + 1) l s d before own (omega arith)) in
    rw (head_row l before some s d, le-leb l (deepest before) deep, f.some, f.delimited, goes, allowed_append (head ∷ before) (laid (l + 1) own) (laid l rest), inner)
    (formed_allowed l rest (passed (head ∷ before) (laid (l + 1) own)) some (omega (arith, deep_past (l + 1) own (head ∷ before) (unfold deepest in omega arith))) f.rest_formed (fits_entry l s d own before rest f fits))

-- where rows are allowed, their map fits behind those before
pub allowed_fits : (l : ℕ) (m : Map) (before : List Row) → 1 ≤ l → rows_allowed before (laid l m) ≡ true → Fits l before m
unfolding Fits laid rows_allowed
allowed_fits l end before some allowed u k = unfold stands past_leading goes_from in (refl, refl)
allowed_fits l (field t v rest) before some allowed u k =
    let a = both (row_allowed before (row 1 l t (length v))) _ allowed in
    by_test (either (eqb t u)) (field_row-new l before some t (length v) a.0).1 (allowed_fits l rest (row 1 l t (length v) ∷ before) some a.1 u)
  where
    by_test : (eqb t u ≡ true) ⊎ (eqb t u ≡ false) → stood l t before ≡ false
        → (stood l u (row 1 l t (length v) ∷ before) ≡ true → (stands u (past_leading u rest) ≡ false) × (goes_from l u (row 1 l t (length v) ∷ before) rest ≡ true))
        → (stands u (past_leading u (field t v rest)) ≡ false) × (goes_from l u before (field t v rest) ≡ true)
    by_test (inl e) new again = never (sym k ∙ ap (λ (n : ℕ). stood l n before) (sym (eqb-true t u e)) ∙ new)
    by_test (inr e) new again =
        let next = again (stood-field l u before t (length v) ∙ rw e k) in
        (past_field u t v rest e ∙ stands_no_more l u (row 1 l t (length v) ∷ before) rest (λ n. follows_field l u before n t (length v) ∙ e) next.0 next.1, (unfold goes_from in refl))
allowed_fits l (entry s d own rest) before some allowed u k =
    let a = both (row_allowed before (row 2 l s d)) _ allowed in
    let b = allowed_split (row 2 l s d ∷ before) (laid (l + 1) own) (laid l rest) a.1 in
    by_test (either (eqb s u)) (head_row_on l before some s d a.0).2 (allowed_fits l rest (passed (row 2 l s d ∷ before) (laid (l + 1) own)) some b.1 u)
  where
    by_test : (eqb s u ≡ true) ⊎ (eqb s u ≡ false) → pick (stood l s before) (follows_on l s d before) true ≡ true
        → (stood l u (passed (row 2 l s d ∷ before) (laid (l + 1) own)) ≡ true → (stands u (past_leading u rest) ≡ false) × (goes_from l u (passed (row 2 l s d ∷ before) (laid (l + 1) own)) rest ≡ true))
        → (stands u (past_leading u (entry s d own rest)) ≡ false) × (goes_from l u before (entry s d own rest) ≡ true)
    by_test (inl e) on again =
        let same : s ≡ u = eqb-true s u e in
        let going : follows_on l s d before ≡ true = rw (ap (λ (n : ℕ). stood l n before) same ∙ k) at on in
        (past_same u s d own rest e ∙ (again (stood-entry l u before s d own ∙ rw e)).0, goes_same l u s d own rest before e ∙ rw (← same) going)
    by_test (inr e) on again =
        let next = again (stood-entry l u before s d own ∙ rw e k) in
        (past_entry u s d own rest e ∙ stands_no_more l u (passed (row 2 l s d ∷ before) (laid (l + 1) own)) rest (λ n. follows_entry l u before n s d own ∙ rw e) next.0 next.1, goes_other l u s d own rest before e)

-- and it is formed
pub allowed_formed : (l : ℕ) (m : Map) (before : List Row) → 1 ≤ l → rows_allowed before (laid l m) ≡ true → is_formed m ≡ true
unfolding laid rows_allowed
allowed_formed l end before some allowed = unfold is_formed in refl
allowed_formed l (field t v rest) before some allowed =
    let r = row 1 l t (length v) in
    let a = both (row_allowed before r) _ allowed in
    formed_field t v rest
    (record {
      some = (field_row-new l before some t (length v) a.0).0;
      once = fits_once l (r ∷ before) rest t (allowed_fits l rest (r ∷ before) some a.1) (stood-field l t before t (length v) ∙ rw (eq-eqb t t refl));
      rest_formed = allowed_formed l rest (r ∷ before) some a.1;
    })
allowed_formed l (entry s d own rest) before some allowed =
    let behind = passed (row 2 l s d ∷ before) (laid (l + 1) own) in
    let a = both (row_allowed before (row 2 l s d)) _ allowed in
    let b = allowed_split (row 2 l s d ∷ before) (laid (l + 1) own) (laid l rest) a.1 in
    let head = head_row_on l before some s d a.0 in
    let held : stood l s behind ≡ true = stood-entry l s before s d own ∙ rw (eq-eqb s s refl) in
    let fits = allowed_fits l rest behind some b.1 in
    formed_entry s d own rest
    (record {
      some = head.0;
      delimited = head.1;
      once = fits_once l behind rest s fits held;
      on = sym (goes-entry l s d own before rest) ∙ fits_goes l behind rest s fits held;
      own_formed = allowed_formed (l + 1) own (row 2 l s d ∷ before) (omega arith) b.0;
      rest_formed = allowed_formed l rest behind some b.1;
    })
