-- When a row names a map, said without places: rows are counted in map order, one to each field and one to each head, and the row of a head
-- names the map below it. The definition that goes to a row's place finds this map, and where its values stand.
use Rattle.std.specs.Prelude.{◌≡◌, refl, Bool, true, false, List, [], ◌++◌, ℕ, ◌+◌, ◌-◌, ◌<◌, length, eqb, leb}
use Rattle.std.proofs.Common.{sym, ap, ◌∙◌, append_assoc, arith, length-append, eqb-true, eq-eqb, ne_eqb, le-leb, leb-false}
use Rattle.std.proofs.lemmas.Bool.{eqb-false, lt-leb}
use Rattle.field_rules.specs.Choice.{pick}
use Rattle.message_maps.specs.Map.{Map, end, field, entry, Looked, none, some, values_in}
use Rattle.message_lent_rules.specs.Meaning.{Message, parts}
use Rattle.message_lent_rules.specs.Formed.{is_formed, Formed}
use Rattle.message_lent_rules.specs.StandLaws.{field_formed, entry_formed}
use Rattle.message_rules.specs.LookUps.{rows_in, Standing, standing, map_at}

-- the row names the map, counted in another map: the row of a head names the entry's own map, and counting goes on within it and past it
pub data NamedIn : ℕ → Map → Map → Type 0 where
  at_head : {row s d : ℕ} {own rest : Map} → row ≡ 0 → NamedIn row own (entry s d own rest)
  in_entry : {row s d : ℕ} {own inner rest : Map} (n : ℕ) → row ≡ 1 + n → NamedIn n own inner → NamedIn row own (entry s d inner rest)
  past_entry : {row s d : ℕ} {own inner rest : Map} (n : ℕ)
      → row ≡ 1 + rows_in inner + n → NamedIn n own rest → NamedIn row own (entry s d inner rest)
  past_field : {row t : ℕ} {v : List ℕ} {own rest : Map} (n : ℕ) → row ≡ 1 + n → NamedIn n own rest → NamedIn row own (field t v rest)

-- a row that names a map is one of the rows
pub named-row : {row : ℕ} {own m : Map} → NamedIn row own m → row < rows_in m
unfolding rows_in
named-row (at_head e) = omega arith
named-row (in_entry n e more) = omega (arith, named-row more)
named-row (past_entry n e more) = omega (arith, named-row more)
named-row (past_field n e more) = omega (arith, named-row more)

-- a row counted in a map that is itself named
pub named-within : {row inner : ℕ} {own below m : Map} → NamedIn row own m → NamedIn inner below own → NamedIn (row + 1 + inner) below m
named-within {row} {inner} (at_head e) b = in_entry {row = row + 1 + inner} inner (omega arith) b
named-within {row} {inner} (in_entry n e more) b = in_entry {row = row + 1 + inner} (n + 1 + inner) (omega arith) (named-within more b)
named-within {row} {inner} (past_entry {inner = passed} n e more) b =
    past_entry {row = row + 1 + inner} {inner = passed} (n + 1 + inner) (omega arith) (named-within more b)
named-within {row} {inner} (past_field n e more) b = past_field {row = row + 1 + inner} (n + 1 + inner) (omega arith) (named-within more b)

-- what is named in a formed map is formed
pub named_formed : {row : ℕ} {own m : Map} → is_formed m ≡ true → NamedIn row own m → is_formed own ≡ true
named_formed f (at_head e) = (entry_formed _ _ _ _ f).own_formed
named_formed f (in_entry n e more) = named_formed (entry_formed _ _ _ _ f).own_formed more
named_formed f (past_entry n e more) = named_formed (entry_formed _ _ _ _ f).rest_formed more
named_formed f (past_field n e more) = named_formed (field_formed _ _ _ f).rest_formed more

-- each part's head names the part; what else is named is named in a part
pub named-parts_formed : {row : ℕ} {own : Map} (m : Message) → Formed m → NamedIn row own (parts m) → is_formed own ≡ true
unfolding parts
named-parts_formed m f (at_head e) = f.header
named-parts_formed m f (in_entry n e more) = named_formed f.header more
named-parts_formed m f (past_entry n e (at_head g)) = f.body
named-parts_formed m f (past_entry n e (in_entry k g more)) = named_formed f.body more
named-parts_formed m f (past_entry n e (past_entry k g (at_head h))) = f.trailer
named-parts_formed m f (past_entry n e (past_entry k g (in_entry j h more))) = named_formed f.trailer more
named-parts_formed m f (past_entry n e (past_entry k g (past_entry j h more))) = elim more [ ]

-- where the values of a map that is named stand among all values, and that the row is found there
pub record NamedAt (row : ℕ) (own m : Map) : Type 0 where
  pub before : List ℕ
  pub behind : List ℕ
  pub texts : values_in m ≡ before ++ (values_in own ++ behind)
  pub found : (place : ℕ) → map_at row place m ≡ some (standing own (place + length before))

pub named-at : {row : ℕ} {own m : Map} → NamedIn row own m → NamedAt row own m
unfolding map_at values_in
named-at {row} {own} (at_head {rest = rest} e) =
    record {
      before = [];
      behind = values_in rest;
      texts = refl;
      found = λ place. let z : place ≡ place + 0 = omega arith in rw (eq-eqb row 0 e) (ap (λ (p : ℕ). some (standing own p)) z);
    }
named-at {row} {own} (in_entry {inner = inner} {rest = rest} n e more) =
    let a = named-at more in
    let k : row - 1 ≡ n = omega arith in
    record {
      before = a.before;
      behind = a.behind ++ values_in rest;
      texts = rw a.texts (simp append_assoc);
      found = λ place. rw (ne_eqb row 0 (λ q. omega arith), le-leb row (rows_in inner) (omega (arith, named-row more)), k) (a.found place);
    }
named-at {row} {own} (past_entry {inner = inner} {rest = rest} n e more) =
    let a = named-at more in
    let k : row - 1 - rows_in inner ≡ n = omega arith in
    record {
      before = values_in inner ++ a.before;
      behind = a.behind;
      texts = rw a.texts (simp append_assoc);
      found = λ place.
          let z : place + length (values_in inner) + length a.before ≡ place + length (values_in inner ++ a.before) =
          omega (arith, length-append (values_in inner) a.before) in
          rw (ne_eqb row 0 (λ q. omega arith), lt-leb row (rows_in inner) (omega arith), k) (a.found (place + length (values_in inner)) ∙ rw z);
    }
named-at {row} {own} (past_field {v = v} n e more) =
    let a = named-at more in
    let k : row - 1 ≡ n = omega arith in
    record {
      before = v ++ a.before;
      behind = a.behind;
      texts = rw a.texts (simp append_assoc);
      found = λ place.
          let z : place + length v + length a.before ≡ place + length (v ++ a.before) = omega (arith, length-append v a.before) in
          rw (ne_eqb row 0 (λ q. omega arith), k) (a.found (place + length v) ∙ rw z);
    }

-- what is found for a row is a map that it names
pub found-named : (row place : ℕ) (m own : Map) (p : ℕ) → map_at row place m ≡ some (standing own p) → NamedIn row own m
unfolding map_at
found-named row place end own p e = let z : ◌≡◌ {A = ℕ} 0 1 = cc in absurd (omega arith)
found-named row place (field t v rest) own p e =
    by_test (eqb row 0) refl e (λ h. found-named (row - 1) (place + length v) rest own p h)
  where
    by_test : (b : Bool) → eqb row 0 ≡ b → pick b none (map_at (row - 1) (place + length v) rest) ≡ some (standing own p)
        → (map_at (row - 1) (place + length v) rest ≡ some (standing own p) → NamedIn (row - 1) own rest) → NamedIn row own (field t v rest)
    by_test true q e again = let z : ◌≡◌ {A = ℕ} 0 1 = cc in absurd (omega arith)
    by_test false q e again = past_field {row = row} (row - 1) (let n = eqb-false row 0 q in omega (arith, n)) (again e)
found-named row place (entry s d inner rest) own p e =
    by_tests (eqb row 0) (leb row (rows_in inner)) refl refl e (λ h. found-named (row - 1) place inner own p h)
    (λ h. found-named (row - 1 - rows_in inner) (place + length (values_in inner)) rest own p h)
  where
    by_tests : (b c : Bool) → eqb row 0 ≡ b → leb row (rows_in inner) ≡ c
        → pick b (some (standing inner place))
        (pick c (map_at (row - 1) place inner) (map_at (row - 1 - rows_in inner) (place + length (values_in inner)) rest)) ≡ some (standing own p)
        → (map_at (row - 1) place inner ≡ some (standing own p) → NamedIn (row - 1) own inner)
        → (map_at (row - 1 - rows_in inner) (place + length (values_in inner)) rest ≡ some (standing own p) → NamedIn (row - 1 - rows_in inner) own rest)
        → NamedIn row own (entry s d inner rest)
    by_tests true c q r e inside past = let same : inner ≡ own = cc in rw same (at_head (eqb-true row 0 q))
    by_tests false true q r e inside past = in_entry {row = row} (row - 1) (let n = eqb-false row 0 q in omega (arith, n)) (inside e)
    by_tests false false q r e inside past =
        past_entry {row = row} {inner = inner} (row - 1 - rows_in inner) (omega (arith, leb-false row (rows_in inner) r)) (past e)

-- and a row that names no map finds none
pub named-nowhere : (row place : ℕ) (m : Map) → ((own : Map) → NamedIn row own m → ⊥) → map_at row place m ≡ none
named-nowhere row place m nowhere = by_looked (map_at row place m) refl
  where
    by_looked : (looked : Looked Standing) → map_at row place m ≡ looked → looked ≡ none
    by_looked none e = refl
    by_looked (some (standing own p)) e = absurd (nowhere own (found-named row place m own p e))

-- a row names one map at the most
pub named_once : {row : ℕ} {own other m : Map} → NamedIn row own m → NamedIn row other m → own ≡ other
named_once a b = same_map (sym ((named-at a).found 0) ∙ (named-at b).found 0)
  where
    same_map : {own other : Map} {p q : ℕ} → some (standing own p) ≡ some (standing other q) → own ≡ other
    same_map e = cc
