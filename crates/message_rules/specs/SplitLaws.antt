-- What a look for a field or for a run finds: the map in front of it and behind it, and what each operation makes of these parts.
use Rattle.std.specs.Prelude.{◌≡◌, refl, Bool, true, false, List, [], ◌∷◌, ◌++◌, ℕ, zero, suc, ◌+◌, ◌-◌, ◌*◌, ◌≤◌, ◌<◌, length, take, drop, leb, ltb, eqb}
use Rattle.std.proofs.Math.Path.{sym}
use Rattle.std.proofs.Common.{ap, ◌∙◌, append_assoc, append-nil, arith, length-append, eqb-true, eq-eqb, ne_eqb, le-leb, lt-ltb, le-ltb}
use Rattle.std.proofs.lemmas.Bool.{lt-leb, eqb-false}
use Rattle.field_rules.specs.Choice.{pick, pick_same}
use Rattle.message_maps.specs.Map.{Map, end, field, entry, joined, holds, holds_any, replaced, without_field, leading, past_leading, run_on, without_run, stored, hung_on_count, hung_alone, Looked, none, some, value_under, field_count, values_in}
use Rattle.message_maps.specs.Rows.{Row, row, laid, level_of, matches, find_from, in_run, run_end_from}
use Rattle.message_rules.specs.LayoutLaws.{joined_end, laid-joined, find_below, run-end-below}

-- a tag is the one looked for, or not
pub same_tag : (t tag : ℕ) (P : Bool → Type 0) → (t ≡ tag → P true) → (eqb t tag ≡ false → P false) → P (eqb t tag)
same_tag t tag P is other = by_test (eqb t tag) refl
  where
    by_test : (b : Bool) → eqb t tag ≡ b → P b
    by_test true e = is (eqb-true t tag e)
    by_test false e = other e

-- a field that is held
pub record FieldSplit (tag : ℕ) (m : Map) : Type 0 where
  pub front : Map
  pub value : List ℕ
  pub back : Map
  pub whole : m ≡ joined front (field tag value back)
  pub place : (l at : ℕ) → find_from 1 l tag at (laid l m) ≡ at + length (laid l front)
  pub put : (new : List ℕ) → replaced tag new m ≡ joined front (field tag new back)
  pub gone : without_field tag m ≡ joined front back
  pub seen : value_under tag m ≡ some value
  pub hangs : (run : Map) → hung_on_count tag run m ≡ joined front (field tag value (joined run (past_leading tag back)))

split_past_field : (tag t : ℕ) (v : List ℕ) (rest : Map) → eqb t tag ≡ false → FieldSplit tag rest → FieldSplit tag (field t v rest)
unfolding joined laid find_from matches replaced without_field value_under hung_on_count
split_past_field tag t v rest e s =
    record {
      front = field t v s.front;
      value = s.value;
      back = s.back;
      whole = ap (field t v) s.whole;
      place = λ l at. rw (eq-eqb l l refl, e) (s.place l (at + 1) ∙ (let q : at + 1 + length (laid l s.front) ≡ at + suc (length (laid l s.front)) = omega arith in q));
      put = λ new. rw e (ap (field t v) (s.put new));
      gone = rw e (ap (field t v) s.gone);
      seen = rw e s.seen;
      hangs = λ run. rw e (ap (field t v) (s.hangs run));
    }

split_past_entry : (tag x d : ℕ) (own rest : Map) → FieldSplit tag rest → FieldSplit tag (entry x d own rest)
unfolding joined laid find_from matches replaced without_field value_under hung_on_count
split_past_entry tag x d own rest s =
    record {
      front = entry x d own s.front;
      value = s.value;
      back = s.back;
      whole = ap (entry x d own) s.whole;
      place = λ l at.
          let q : at + 1 + length (laid (l + 1) own) + length (laid l s.front) ≡ at + suc (length (laid (l + 1) own ++ laid l s.front)) = omega (arith, length-append (laid (l + 1) own) (laid l s.front)) in
          find_below l 1 tag own (l + 1) (at + 1) (laid l rest) (omega arith) ∙ s.place l (at + 1 + length (laid (l + 1) own)) ∙ q;
      put = λ new. ap (entry x d own) (s.put new);
      gone = ap (entry x d own) s.gone;
      seen = s.seen;
      hangs = λ run. ap (entry x d own) (s.hangs run);
    }

split_here : (tag t : ℕ) (v : List ℕ) (rest : Map) → t ≡ tag → FieldSplit tag (field t v rest)
unfolding joined laid find_from matches replaced without_field value_under hung_on_count
split_here tag t v rest e =
    record {
      front = end;
      value = v;
      back = rest;
      whole = rw e;
      place = λ l at. rw (eq-eqb l l refl, eq-eqb t tag e) (omega arith);
      put = λ new. rw (eq-eqb t tag e) (rw e);
      gone = rw (eq-eqb t tag e);
      seen = rw (eq-eqb t tag e);
      hangs = λ run. rw (eq-eqb t tag e) (rw e);
    }

pub field_split : (tag : ℕ) (m : Map) → holds tag m ≡ true → FieldSplit tag m
unfolding holds
field_split tag end h = let z : ◌≡◌ {A = ℕ} 0 1 = cc in absurd (omega arith)
field_split tag (field t v rest) h =
    by_test (eqb t tag) refl h (λ k. field_split tag rest k)
  where
    by_test : (b : Bool) → eqb t tag ≡ b → pick b true (holds tag rest) ≡ true → (holds tag rest ≡ true → FieldSplit tag rest) → FieldSplit tag (field t v rest)
    by_test true e k again = split_here tag t v rest (eqb-true t tag e)
    by_test false e k again = split_past_field tag t v rest e (again k)
field_split tag (entry x d own rest) h = split_past_entry tag x d own rest (field_split tag rest h)

-- a field that other held is found at the end
pub field_absent : (tag : ℕ) (m : Map) → holds tag m ≡ false → (l at : ℕ) → (find_from 1 l tag at (laid l m) ≡ at + length (laid l m))
unfolding holds laid find_from matches
field_absent tag end h l at = omega arith
field_absent tag (field t v rest) h l at =
    by_test (eqb t tag) refl h (λ k. field_absent tag rest k l (at + 1))
  where
    by_test : (b : Bool) → eqb t tag ≡ b → pick b true (holds tag rest) ≡ false → (holds tag rest ≡ false → find_from 1 l tag (at + 1) (laid l rest) ≡ at + 1 + length (laid l rest)) → pick (pick (eqb l l) (eqb t tag) false) at (find_from 1 l tag (at + 1) (laid l rest)) ≡ at + suc (length (laid l rest))
    by_test true e k again = let z : ◌≡◌ {A = ℕ} 0 1 = cc in absurd (omega arith)
    by_test false e k again = rw (eq-eqb l l refl, e) (again k ∙ (let q : at + 1 + length (laid l rest) ≡ at + suc (length (laid l rest)) = omega arith in q))
field_absent tag (entry x d own rest) h l at =
    let q : at + 1 + length (laid (l + 1) own) + length (laid l rest) ≡ at + suc (length (laid (l + 1) own ++ laid l rest)) = omega (arith, length-append (laid (l + 1) own) (laid l rest)) in
    find_below l 1 tag own (l + 1) (at + 1) (laid l rest) (omega arith) ∙ field_absent tag rest h l (at + 1 + length (laid (l + 1) own)) ∙ q

-- and removing it changes nothing
pub field_gone : (tag : ℕ) (m : Map) → holds tag m ≡ false → without_field tag m ≡ m
unfolding holds without_field
field_gone tag end h = refl
field_gone tag (field t v rest) h = by_test (eqb t tag) h (λ k. field_gone tag rest k)
  where
    by_test : (b : Bool) → pick b true (holds tag rest) ≡ false → (holds tag rest ≡ false → without_field tag rest ≡ rest) → pick b rest (field t v (without_field tag rest)) ≡ field t v rest
    by_test true k again = let z : ◌≡◌ {A = ℕ} 0 1 = cc in absurd (omega arith)
    by_test false k again = ap (field t v) (again k)
field_gone tag (entry x d own rest) h = ap (entry x d own) (field_gone tag rest h)

-- the entries of a start tag that come first
pub leading-joined : (start : ℕ) (m : Map) → m ≡ joined (leading start m) (past_leading start m)
unfolding joined leading past_leading
leading-joined start end = refl
leading-joined start (field t v rest) = refl
leading-joined start (entry s d own rest) =
    same_tag s start (λ b. entry s d own rest ≡ joined (pick b (entry s d own (leading start rest)) end) (pick b (past_leading start rest) (entry s d own rest)))
    (λ e. ap (entry s d own) (leading-joined start rest)) (λ e. refl)

pub leading-ends : (start : ℕ) (m : Map) (l at : ℕ) → run_end_from l start at (laid l m) ≡ at + length (laid l (leading start m))
unfolding leading laid run_end_from in_run matches level_of
leading-ends start end l at = omega arith
leading-ends start (field t v rest) l at = rw (le-ltb l l (omega arith)) (omega arith)
leading-ends start (entry s d own rest) l at =
    same_tag s start
    (λ b. pick (pick (ltb l l) true (pick (eqb l l) b false)) (run_end_from l start (at + 1) (laid (l + 1) own ++ laid l rest)) at ≡ at + length (laid l (pick b (entry s d own (leading start rest)) end)))
    (λ e.
    let q : at + 1 + length (laid (l + 1) own) + length (laid l (leading start rest)) ≡ at + suc (length (laid (l + 1) own ++ laid l (leading start rest))) = omega (arith, length-append (laid (l + 1) own) (laid l (leading start rest))) in
    rw (le-ltb l l (omega arith), eq-eqb l l refl)
    (run-end-below l start own (l + 1) (at + 1) (laid l rest) (omega arith) ∙ leading-ends start rest l (at + 1 + length (laid (l + 1) own)) ∙ q))
    (λ e. rw (le-ltb l l (omega arith), eq-eqb l l refl) (omega arith))

-- the run on a start tag; where there is none it is empty, at the end
pub record RunSplit (start : ℕ) (m : Map) : Type 0 where
  pub front : Map
  pub run : Map
  pub back : Map
  pub whole : m ≡ joined front (joined run back)
  pub begins : (l at : ℕ) → find_from 2 l start at (laid l m) ≡ at + length (laid l front)
  pub ends : (l at : ℕ) → run_end_from l start at (laid l (joined run back)) ≡ at + length (laid l run)
  pub gone : without_run start m ≡ joined front back
  pub taken : run_on start m ≡ run
  pub hangs : (new : Map) → hung_alone start new m ≡ joined front (joined new back)

run_past_field : (start t : ℕ) (v : List ℕ) (rest : Map) → RunSplit start rest → RunSplit start (field t v rest)
unfolding joined laid find_from matches without_run run_on hung_alone
run_past_field start t v rest s =
    record {
      front = field t v s.front;
      run = s.run;
      back = s.back;
      whole = ap (field t v) s.whole;
      begins = λ l at. s.begins l (at + 1) ∙ (let q : at + 1 + length (laid l s.front) ≡ at + suc (length (laid l s.front)) = omega arith in q);
      ends = s.ends;
      gone = ap (field t v) s.gone;
      taken = s.taken;
      hangs = λ new. ap (field t v) (s.hangs new);
    }

run_past_entry : (start x d : ℕ) (own rest : Map) → eqb x start ≡ false → RunSplit start rest → RunSplit start (entry x d own rest)
unfolding joined laid find_from matches without_run run_on hung_alone
run_past_entry start x d own rest e s =
    record {
      front = entry x d own s.front;
      run = s.run;
      back = s.back;
      whole = ap (entry x d own) s.whole;
      begins = λ l at.
          let q : at + 1 + length (laid (l + 1) own) + length (laid l s.front) ≡ at + suc (length (laid (l + 1) own ++ laid l s.front)) = omega (arith, length-append (laid (l + 1) own) (laid l s.front)) in
          rw (eq-eqb l l refl, e) (find_below l 2 start own (l + 1) (at + 1) (laid l rest) (omega arith) ∙ s.begins l (at + 1 + length (laid (l + 1) own)) ∙ q);
      ends = s.ends;
      gone = rw e (ap (entry x d own) s.gone);
      taken = rw e s.taken;
      hangs = λ new. rw e (ap (entry x d own) (s.hangs new));
    }

run-here : (start x d : ℕ) (own rest : Map) → x ≡ start → RunSplit start (entry x d own rest)
unfolding joined laid find_from matches without_run run_on hung_alone leading
run-here start x d own rest e =
    record {
      front = end;
      run = entry x d own (leading start rest);
      back = past_leading start rest;
      whole = ap (entry x d own) (leading-joined start rest);
      begins = λ l at. rw (eq-eqb l l refl, eq-eqb x start e) (omega arith);
      ends = λ l at.
          ap (λ (m : Map). run_end_from l start at (laid l (entry x d own m))) (sym (leading-joined start rest))
          ∙ leading-ends start (entry x d own rest) l at
          ∙ rw (eq-eqb x start e);
      gone = rw (eq-eqb x start e);
      taken = rw (eq-eqb x start e);
      hangs = λ new. rw (eq-eqb x start e);
    }

pub run_split : (start : ℕ) (m : Map) → RunSplit start m
run_split start end = unfold joined laid find_from run_end_from without_run run_on hung_alone in
    record {
      front = end;
      run = end;
      back = end;
      whole = refl;
      begins = λ l at. omega arith;
      ends = λ l at. omega arith;
      gone = refl;
      taken = refl;
      hangs = λ new. sym (joined_end new);
    }
run_split start (field t v rest) = run_past_field start t v rest (run_split start rest)
run_split start (entry x d own rest) = by_test (eqb x start) refl (run_split start rest)
  where
    by_test : (b : Bool) → eqb x start ≡ b → RunSplit start rest → RunSplit start (entry x d own rest)
    by_test true e again = run-here start x d own rest (eqb-true x start e)
    by_test false e again = run_past_entry start x d own rest e again
