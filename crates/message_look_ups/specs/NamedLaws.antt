-- Each row is a head and names the map below it, or names none. By induction over the map: a row past the first is one of an entry's own
-- map, or of what follows.
use Rattle.std.specs.Prelude.{◌≡◌, Bool, true, List, [], ◌∷◌, ◌++◌, ℕ, zero, suc, ◌+◌, ◌-◌, ◌≤◌, ◌<◌, length, leb, eqb}
use Rattle.std.proofs.Math.Path.{refl}
use Rattle.std.proofs.Common.{sym, ap, ◌∙◌, append_assoc, arith, length-append}
use Rattle.std.proofs.Math.Bool.{false}
use borrow.Author.Tests.{eqb-true, eqb-false, eq-eqb, ne_eqb, le-leb, lt-leb, leb-true, leb-false}
use Rattle.message_maps.specs.Map.{Map, end, field, entry, some, values_in}
use Rattle.message_maps.specs.Rows.{Row, row, laid, level_of, size_of, sizes}
use Rattle.message_rules.specs.LayoutLaws.{sizes-append, sizes-laid}
use Rattle.message_lent_rules.specs.LaidLaws.{shallow}
use Rattle.message_rules.specs.LookUps.{rows_in, standing, map_at}
use Rattle.message_rules.proofs.LookUpLimits.{rows_in_lem}
use Rattle.message_look_ups.specs.Opening.{is_head}
use Rattle.message_look_ups.specs.RowLaws.{head_in, MapNamed, there, nowhere}

shallow-map : (l d : ℕ) (m : Map) → d ≤ l → shallow l (laid d m) ≡ true
unfolding shallow laid level_of
shallow-map l d end h = refl
shallow-map l d (field t v rest) h = le-leb d l h
shallow-map l d (entry s x own rest) h = le-leb d l h

shallow-append : (l : ℕ) (a b : List Row) → shallow l a ≡ true → shallow l b ≡ true → shallow l (a ++ b) ≡ true
unfolding shallow
shallow-append l [] b h k = k
shallow-append l (r ∷ a) b h k = h

-- a row is one of the first list, or of the second
head_first : (n : ℕ) (a b : List Row) → n < length a → head_in n (a ++ b) ≡ head_in n a
unfolding head_in
head_first n [] b h = absurd (omega arith)
head_first zero (r ∷ a) b h = refl
head_first (suc n) (r ∷ a) b h =
    let e : suc n - 1 ≡ n = omega arith in
    rw (ne_eqb (suc n) 0 (λ q. omega arith), e) (head_first n a b (omega arith))

head_second : (n : ℕ) (a b : List Row) → length a ≤ n → head_in n (a ++ b) ≡ head_in (n - length a) b
unfolding head_in
head_second n [] b h = let e : n - 0 ≡ n = omega arith in rw e
head_second n (r ∷ a) b h =
    let e : n - 1 - length a ≡ n - suc (length a) = omega arith in
    rw (ne_eqb n 0 (λ q. omega arith)) (head_second (n - 1) a b (omega arith) ∙ rw e)

-- past a field
past_field : (n l t : ℕ) (v : List ℕ) (rest : Map) → 0 < n → MapNamed (n - 1) l rest → MapNamed n l (field t v rest)
unfolding laid map_at values_in head_in sizes size_of
past_field n l t v rest h (nowhere off f) =
    nowhere (rw (ne_eqb n 0 (λ q. omega arith)) off) (λ at. rw (ne_eqb n 0 (λ q. omega arith)) (f (at + length v)))
past_field n l t v rest h (there s) =
    there
    (record {
      level = s.level;
      start = s.start;
      delimiter = s.delimiter;
      own = s.own;
      before = row 1 l t (length v) ∷ s.before;
      behind = s.behind;
      values-before = v ++ s.values-before;
      values-behind = s.values-behind;
      rows = ap (λ (r : List Row). row 1 l t (length v) ∷ r) s.rows;
      texts = rw s.texts (simp append_assoc);
      size = omega (arith, s.size, length-append v s.values-before);
      place = omega (arith, s.place);
      deep = (s.deep.0, omega (arith, s.deep.1));
      ends = s.ends;
      named = λ at.
          let e : at + length v + length s.values-before ≡ at + length (v ++ s.values-before) = omega (arith, length-append v s.values-before) in
          rw (ne_eqb n 0 (λ q. omega arith)) (s.named (at + length v) ∙ rw e);
    })

-- within an entry's own map
within-own : (n l x d : ℕ) (own rest : Map) → 0 < n → n ≤ rows_in own → MapNamed (n - 1) (l + 1) own → MapNamed n l (entry x d own rest)
unfolding laid map_at values_in head_in sizes size_of
within-own n l x d own rest h k (nowhere off f) =
    nowhere
    (rw (ne_eqb n 0 (λ q. omega arith)) (head_first (n - 1) (laid (l + 1) own) (laid l rest) (omega (arith, rows_in_lem (l + 1) own)) ∙ off))
    (λ at. rw (ne_eqb n 0 (λ q. omega arith), le-leb n (rows_in own) k) (f at))
within-own n l x d own rest h k (there s) =
    there
    (record {
      level = s.level;
      start = s.start;
      delimiter = s.delimiter;
      own = s.own;
      before = row 2 l x d ∷ s.before;
      behind = s.behind ++ laid l rest;
      values-before = s.values-before;
      values-behind = s.values-behind ++ values_in rest;
      rows = ap (λ (r : List Row). row 2 l x d ∷ (r ++ laid l rest)) s.rows ∙ ap (λ (r : List Row). row 2 l x d ∷ r) (simp append_assoc);
      texts = rw s.texts (simp append_assoc);
      size = omega (arith, s.size);
      place = omega (arith, s.place);
      deep = (omega (arith, s.deep.0), omega (arith, s.deep.1));
      ends = shallow-append s.level s.behind (laid l rest) s.ends (shallow-map s.level l rest (omega (arith, s.deep.0)));
      named = λ at. rw (ne_eqb n 0 (λ q. omega arith), le-leb n (rows_in own) k) (s.named at);
    })

-- past an entry
past_entry : (n l x d : ℕ) (own rest : Map) → rows_in own < n → MapNamed (n - 1 - rows_in own) l rest → MapNamed n l (entry x d own rest)
unfolding laid map_at values_in head_in sizes size_of
past_entry n l x d own rest k (nowhere off f) =
    let e : n - 1 - length (laid (l + 1) own) ≡ n - 1 - rows_in own = rw (rows_in_lem (l + 1) own) in
    nowhere
    (rw (ne_eqb n 0 (λ q. omega arith)) (head_second (n - 1) (laid (l + 1) own) (laid l rest) (omega (arith, rows_in_lem (l + 1) own)) ∙ rw e off))
    (λ at. rw (ne_eqb n 0 (λ q. omega arith), lt-leb n (rows_in own) k) (f (at + length (values_in own))))
past_entry n l x d own rest k (there s) =
    there
    (record {
      level = s.level;
      start = s.start;
      delimiter = s.delimiter;
      own = s.own;
      before = row 2 l x d ∷ (laid (l + 1) own ++ s.before);
      behind = s.behind;
      values-before = values_in own ++ s.values-before;
      values-behind = s.values-behind;
      rows = ap (λ (r : List Row). row 2 l x d ∷ (laid (l + 1) own ++ r)) s.rows ∙ ap (λ (r : List Row). row 2 l x d ∷ r) (simp append_assoc);
      texts = rw s.texts (simp append_assoc);
      size = omega (arith, s.size, sizes-append (laid (l + 1) own) s.before, sizes-laid (l + 1) own, length-append (values_in own) s.values-before);
      place = omega (arith, s.place, length-append (laid (l + 1) own) s.before, rows_in_lem (l + 1) own);
      deep = (s.deep.0, omega (arith, s.deep.1));
      ends = s.ends;
      named = λ at.
          let e : at + length (values_in own) + length s.values-before ≡ at + length (values_in own ++ s.values-before) = omega (arith, length-append (values_in own) s.values-before) in
          rw (ne_eqb n 0 (λ q. omega arith), lt-leb n (rows_in own) k) (s.named (at + length (values_in own)) ∙ rw e);
    })

head_here : (n l x d : ℕ) (own rest : Map) → n ≡ 0 → MapNamed n l (entry x d own rest)
unfolding laid map_at values_in sizes
head_here n l x d own rest e =
    there
    (record {
      level = l;
      start = x;
      delimiter = d;
      own = own;
      before = [];
      behind = laid l rest;
      values-before = [];
      values-behind = values_in rest;
      rows = refl;
      texts = refl;
      size = refl;
      place = sym e;
      deep = (omega arith, omega arith);
      ends = shallow-map l l rest (omega arith);
      named = λ at. let z : at ≡ at + 0 = omega arith in rw (eq-eqb n 0 e) (ap (λ (p : ℕ). some (standing own p)) z);
    })

pub map-named : (n l : ℕ) (m : Map) → MapNamed n l m
map-named n l end = unfold laid map_at head_in in nowhere refl (λ at. refl)
map-named n l (field t v rest) = by_test (eqb n 0) refl (map-named (n - 1) l rest)
  where
    by_test : (b : Bool) → eqb n 0 ≡ b → MapNamed (n - 1) l rest → MapNamed n l (field t v rest)
    by_test true e again = unfold laid map_at head_in is_head in nowhere (rw e) (λ at. rw e)
    by_test false e again = past_field n l t v rest (let q = eqb-false n 0 e in omega (arith, q)) again
map-named n l (entry x d own rest) =
    by_test (eqb n 0) (leb n (rows_in own)) refl refl (map-named (n - 1) (l + 1) own) (map-named (n - 1 - rows_in own) l rest)
  where
    by_test : (b f : Bool) → eqb n 0 ≡ b → leb n (rows_in own) ≡ f → MapNamed (n - 1) (l + 1) own → MapNamed (n - 1 - rows_in own) l rest → MapNamed n l (entry x d own rest)
    by_test true f e g inner outer = head_here n l x d own rest (eqb-true n 0 e)
    by_test false true e g inner outer = within-own n l x d own rest (let q = eqb-false n 0 e in omega (arith, q)) (leb-true _ _ g) inner
    by_test false false e g inner outer = past_entry n l x d own rest (leb-false _ _ g) outer
