-- The laws of changing a list of records: one turn of each loop, and what a change is where the records are known by their parts.
use Rattle.std.specs.Prelude.{◌≡◌, refl, Bool, true, false, ℕ, suc, ◌+◌, ◌-◌, ◌≤◌, ◌<◌, length, get_or, take, drop, set, eqb, leb}
use Rattle.std.proofs.Common.{sym, ◌∙◌, arith, add-one, length-append, drop_of_length-le, take-append-drop, take-suc-set, drop-set-lt, drop-cons, get_or-drop, take_at, drop_at, Option, Some, None}
use Rattle.std.proofs.Math.Path.{ap}
use mathlib.Core.List.{List, [], ◌∷◌, ◌++◌, append_assoc, append-nil}
use Rattle.std.proofs.Math.Seq.{take-nil, take-append_seam, drop-append_seam, set-append_seam, get_or-append_seam}
use Rattle.std.proofs.lemmas.List.{set_split, set-append_left}
use borrow.Author.Tests.{eq-eqb, ne_eqb, lt-ltb, le-ltb, le-leb, lt-leb}
use Rattle.field_rules.specs.Choice.{pick, pick_same}
use Rattle.build_records.specs.Records.{blank, record_at, replaced, pushed, inserted, pulled, removed, between, held_from, stored_at, stored_between, stored}
use Rattle.build_records.specs.declared.Record.{Record}

-- the records before an index, and then what pushing makes of those from it on
unfoldable pub pushing : ℕ → ℕ → Record → List Record → List Record
pushing n at r rs = take at rs ++ pushed (n - at) r (drop at rs)

-- one turn: the carried record is stored, and the one that stood there is carried on
pub pushing-on : (n at : ℕ) (r : Record) (rs : List Record) → at < n → n < length rs → pushing n at r rs ≡ pushing n (at + 1) (record_at at rs) (replaced at r rs)
unfolding pushing pushed record_at replaced
pushing-on n at r rs h l =
    let k : n - at ≡ suc (n - suc at) = omega arith in
    rw (add-one, take-suc-set rs at r (omega arith), drop-set-lt (suc at) rs at r (omega arith), drop-cons rs at blank (omega arith), k) (sym (append_assoc (take at rs) (r ∷ []) _))

pub pushing-last : (n : ℕ) (r : Record) (rs : List Record) → n < length rs → pushing n n r rs ≡ replaced n r rs
unfolding pushing pushed replaced
pushing-last n r rs l =
    let k : n - n ≡ 0 = omega arith in
    rw (k, drop-cons rs n blank l) (sym (set_split rs n r l))

pub inserted-pushing : (n i : ℕ) (r : Record) (rs : List Record) → i ≤ n → n < length rs → inserted n i r rs ≡ pushing n i r rs
unfolding inserted pushing
inserted-pushing n i r rs h l = rw (le-leb _ _ h, lt-ltb _ _ l)

-- behind all others no record moves
pub inserted-last : (n : ℕ) (r : Record) (rs : List Record) → n < length rs → inserted n n r rs ≡ replaced n r rs
inserted-last n r rs l = inserted-pushing n n r rs (omega arith) l ∙ pushing-last n r rs l

pub inserted_past : (n i : ℕ) (r : Record) (rs : List Record) → n < i → inserted n i r rs ≡ rs
unfolding inserted
inserted_past n i r rs h = rw (lt-leb _ _ h)

pub inserted_full : (n i : ℕ) (r : Record) (rs : List Record) → length rs ≤ n → inserted n i r rs ≡ rs
unfolding inserted
inserted_full n i r rs h = rw (le-ltb _ _ h) (pick_same (leb i n) rs)

-- the records before an index, and then what pulling makes of those from it on
unfoldable pub pulling : ℕ → ℕ → ℕ → List Record → List Record
pulling stop k at rs = take at rs ++ pulled (stop - at) k (drop at rs)

-- one turn: the record that stands k further on is stored
pub pulling-on : (stop k at : ℕ) (rs : List Record) → at < stop → at < length rs → pulling stop k at rs ≡ pulling stop k (at + 1) (replaced at (record_at (at + k) rs) rs)
unfolding pulling pulled record_at replaced
pulling-on stop k at rs h l =
    let m : stop - at ≡ suc (stop - suc at) = omega arith in
    let x : Record = get_or rs (at + k) blank in
    let e : get_or (get_or rs at blank ∷ drop (suc at) rs) k blank ≡ x = ap (λ (t : List Record). get_or t k blank) (sym (drop-cons rs at blank l)) ∙ get_or-drop at rs k blank in
    rw (add-one, take-suc-set rs at x l, drop-set-lt (suc at) rs at x (omega arith), drop-cons rs at blank l, m, e) (sym (append_assoc (take at rs) (x ∷ []) _))

pub pulling-end : (stop k at : ℕ) (rs : List Record) → stop ≤ at → pulling stop k at rs ≡ rs
unfolding pulling pulled
pulling-end stop k at rs h =
    let m : stop - at ≡ 0 = omega arith in
    rw m (take-append-drop at rs)

pub removed-pulling : (n i k : ℕ) (rs : List Record) → n ≤ length rs → k ≤ n → removed n i k rs ≡ pulling (n - k) k i rs
unfolding removed pulling
removed-pulling n i k rs h l = rw (le-leb _ _ h, le-leb _ _ l)

pub removed_past : (n i k : ℕ) (rs : List Record) → length rs < n → removed n i k rs ≡ rs
unfolding removed
removed_past n i k rs h = rw (lt-leb _ _ h)

pub removed-many : (n i k : ℕ) (rs : List Record) → n < k → removed n i k rs ≡ rs
unfolding removed
removed-many n i k rs h = rw (lt-leb _ _ h) (pick_same (leb n (length rs)) rs)

-- the records from one index to another, one by one
pub between-on : (at to : ℕ) (rs : List Record) → at < to → at < length rs → between at to rs ≡ record_at at rs ∷ between (at + 1) to rs
unfolding record_at between
between-on at to rs h l =
    let m : to - at ≡ suc (to - suc at) = omega arith in
    rw (add-one, drop-cons rs at blank l, m)

pub between_past : (at to : ℕ) (rs : List Record) → length rs ≤ at → between at to rs ≡ []
between_past at to rs h = unfold between in rw (drop_of_length-le rs h) (take-nil (to - at))

pub between-end : (at to : ℕ) (rs : List Record) → to ≤ at → between at to rs ≡ []
unfolding between
between-end at to rs h =
    let m : to - at ≡ 0 = omega arith in
    rw m

module _ (at to depth tag : ℕ) (rs : List Record) where
  pub held-here : at < to → at < length rs → (record_at at rs).depth ≡ depth → (record_at at rs).tag ≡ tag → held_from at depth tag (between at to rs) ≡ Some at
  unfolding held_from
  held-here h l d t = rw (between-on at to rs h l, eq-eqb _ _ d, eq-eqb _ _ t)

  pub held-shallow : at < to → at < length rs → ((record_at at rs).depth ≡ depth → ⊥) → held_from at depth tag (between at to rs) ≡ held_from (at + 1) depth tag (between (at + 1) to rs)
  unfolding held_from
  held-shallow h l d = rw (between-on at to rs h l, ne_eqb _ _ d)

  pub held-other : at < to → at < length rs → ((record_at at rs).tag ≡ tag → ⊥) → held_from at depth tag (between at to rs) ≡ held_from (at + 1) depth tag (between (at + 1) to rs)
  unfolding held_from
  held-other h l t = rw (between-on at to rs h l, ne_eqb _ _ t) (pick_same (eqb (record_at at rs).depth depth) _)

  pub held_past : length rs ≤ at → held_from at depth tag (between at to rs) ≡ None
  unfolding held_from
  held_past h = rw (between_past at to rs h)

  pub held-end : to ≤ at → held_from at depth tag (between at to rs) ≡ None
  unfolding held_from
  held-end h = rw (between-end at to rs h)

-- what a change is where the records are known by their parts

pushed-parts : (after : List Record) (x r : Record) (slack : List Record) → pushed (length after) r (after ++ (x ∷ slack)) ≡ r ∷ (after ++ slack)
unfolding pushed
pushed-parts [] x r slack = refl
pushed-parts (y ∷ after) x r slack = ap (λ (l : List Record). r ∷ l) (pushed-parts after x y slack)

pushing-at : (done rest : List Record) (n i : ℕ) (r : Record) → i ≡ length done → pushing n i r (done ++ rest) ≡ done ++ pushed (n - i) r rest
unfolding pushing
pushing-at done rest n i r e = rw (take_at done rest i (sym e), drop_at done rest i (sym e))

pulling-at : (done rest : List Record) (stop k i : ℕ) → i ≡ length done → pulling stop k i (done ++ rest) ≡ done ++ pulled (stop - i) k rest
unfolding pulling
pulling-at done rest stop k i e = rw (take_at done rest i (sym e), drop_at done rest i (sym e))

-- a record comes in between, over the first word of the slack
pub inserted-parts : (done after : List Record) (x r : Record) (slack : List Record) (n i : ℕ) → i ≡ length done → n ≡ length done + length after →
    inserted n i r (done ++ (after ++ (x ∷ slack))) ≡ done ++ (r ∷ (after ++ slack))
inserted-parts done after x r slack n i e f =
    let whole : length (done ++ (after ++ (x ∷ slack))) ≡ length done + (length after + suc (length slack)) =
    length-append done (after ++ (x ∷ slack)) ∙ ap (λ (k : ℕ). length done + k) (length-append after (x ∷ slack)) in
    let k : n - i ≡ length after = omega arith in
    inserted-pushing n i r _ (omega arith) (omega arith)
    ∙ pushing-at done (after ++ (x ∷ slack)) n i r e
    ∙ rw k (ap (λ (l : List Record). done ++ l) (pushed-parts after x r slack))

pub replaced-parts : (done rest : List Record) (x r : Record) (i : ℕ) → i ≡ length done → replaced i r (done ++ (x ∷ rest)) ≡ done ++ (r ∷ rest)
unfolding replaced
replaced-parts done rest x r i e = rw e (set-append_seam done x rest r)

pub record_parts : (done rest : List Record) (x : Record) (i : ℕ) → i ≡ length done → record_at i (done ++ (x ∷ rest)) ≡ x
unfolding record_at
record_parts done rest x i e = rw e (get_or-append_seam done x rest blank)

pub between-parts : (before part rest : List Record) (from to : ℕ) → from ≡ length before → to ≡ length before + length part → between from to (before ++ (part ++ rest)) ≡ part
unfolding between
between-parts before part rest from to e f =
    let k : to - from ≡ length part = omega arith in
    rw (k, e, drop-append_seam, take-append_seam)

pulled-parts : (b m rest : List Record) (k : ℕ) → k ≡ length m → pulled (length b) k (m ++ (b ++ rest)) ≡ b ++ (drop (length b) (m ++ b) ++ rest)
unfolding pulled record_at
pulled-parts [] m rest k e = rw append-nil
pulled-parts (y ∷ b) [] rest k e = rw e (ap (λ (l : List Record). y ∷ l) (pulled-parts b [] rest 0 refl))
pulled-parts (y ∷ b) (z ∷ m) rest k e =
    let shift : (l : List Record) → m ++ (y ∷ l) ≡ (m ++ (y ∷ [])) ++ l = λ l. sym (append_assoc m (y ∷ []) l) in
    let count : k ≡ length (m ++ (y ∷ [])) = omega (arith, length-append m (y ∷ [])) in
    let here : record_at k (z ∷ (m ++ (y ∷ (b ++ rest)))) ≡ y = unfold record_at in rw e (get_or-append_seam m y (b ++ rest) blank) in
    rw (here, shift (b ++ rest), shift b) (ap (λ (l : List Record). y ∷ l) (pulled-parts b (m ++ (y ∷ [])) rest k count))

-- the records behind those that go move up, and past them stands what stood there
pub removed-parts : (a m b rest : List Record) (n i k : ℕ) → i ≡ length a → k ≡ length m → n ≡ length a + (length m + length b) →
    removed n i k (a ++ (m ++ (b ++ rest))) ≡ a ++ (b ++ (drop (length b) (m ++ b) ++ rest))
removed-parts a m b rest n i k e f g =
    let whole : length (a ++ (m ++ (b ++ rest))) ≡ length a + (length m + (length b + length rest)) = simp length-append in
    let count : n - k - i ≡ length b = omega arith in
    removed-pulling n i k _ (omega arith) (omega arith)
    ∙ pulling-at a (m ++ (b ++ rest)) (n - k) k i e
    ∙ rw count (ap (λ (l : List Record). a ++ l) (pulled-parts b m rest k f))

-- what is held in a map, and what storing makes of it
pub record HeldAs (r : Record) (rs : List Record) (at i : ℕ) : Type 0 where
  pub from : at ≤ i
  pub within : i < at + length rs
  pub storing : stored r rs ≡ set rs (i - at) r

held-later : (x r : Record) (rs : List Record) (at i : ℕ) → HeldAs r rs (at + 1) i → (at ≤ i) × (i < at + suc (length rs)) × (x ∷ stored r rs ≡ set (x ∷ rs) (i - at) r)
held-later x r rs at i h =
    let k : i - at ≡ suc (i - (at + 1)) = omega (arith, h.from) in
    (omega (arith, h.from), omega (arith, h.within), rw k (ap (λ (l : List Record). x ∷ l) h.storing))

held-step : (x r : Record) (rs : List Record) (at i : ℕ) (d t : Bool) (later : Option ℕ) → pick d (pick t (Some at) later) later ≡ Some i → (later ≡ Some i → HeldAs r rs (at + 1) i) →
    (at ≤ i) × (i < at + suc (length rs)) × (pick d (pick t (r ∷ rs) (x ∷ stored r rs)) (x ∷ stored r rs) ≡ set (x ∷ rs) (i - at) r)
held-step x r rs at i true true later e next =
    let same : at ≡ i = cc in
    let k : i - at ≡ 0 = omega arith in
    (omega arith, omega arith, rw k)
held-step x r rs at i true false later e next = held-later x r rs at i (next e)
held-step x r rs at i false t later e next = held-later x r rs at i (next e)

-- storing a held tag replaces it where it stands
pub stored-held : (r : Record) (rs : List Record) (at i : ℕ) → held_from at r.depth r.tag rs ≡ Some i → HeldAs r rs at i
unfolding held_from stored
stored-held r [] at i e = let z : ◌≡◌ {A = ℕ} 0 1 = cc in absurd (omega arith)
stored-held r (x ∷ rs) at i e =
    let h = held-step x r rs at i (eqb x.depth r.depth) (eqb x.tag r.tag) (held_from (at + 1) r.depth r.tag rs) e (stored-held r rs (at + 1) i) in
    record { from = h.0; within = h.1; storing = h.2 }

new-step : (x r : Record) (rs : List Record) (at : ℕ) (d t : Bool) (later : Option ℕ) → pick d (pick t (Some at) later) later ≡ None → (later ≡ None → stored r rs ≡ rs ++ (r ∷ [])) →
    pick d (pick t (r ∷ rs) (x ∷ stored r rs)) (x ∷ stored r rs) ≡ x ∷ (rs ++ (r ∷ []))
new-step x r rs at true true later e next = let z : ◌≡◌ {A = ℕ} 0 1 = cc in absurd (omega arith)
new-step x r rs at true false later e next = ap (λ (l : List Record). x ∷ l) (next e)
new-step x r rs at false t later e next = ap (λ (l : List Record). x ∷ l) (next e)

-- a new one comes last
pub stored-new : (r : Record) (rs : List Record) (at : ℕ) → held_from at r.depth r.tag rs ≡ None → stored r rs ≡ rs ++ (r ∷ [])
unfolding held_from stored
stored-new r [] at e = refl
stored-new r (x ∷ rs) at e = new-step x r rs at (eqb x.depth r.depth) (eqb x.tag r.tag) (held_from (at + 1) r.depth r.tag rs) e (stored-new r rs (at + 1))

module _ (n from to : ℕ) (r : Record) (rs : List Record) where
  pub between-held : (i : ℕ) → held_from from r.depth r.tag (between from to rs) ≡ Some i → stored_between n from to r rs ≡ replaced i r rs
  unfolding stored_between stored_at
  between-held i e = rw e

  pub between-new : held_from from r.depth r.tag (between from to rs) ≡ None → stored_between n from to r rs ≡ inserted n to r rs
  unfolding stored_between stored_at
  between-new e = rw e

set-within : (before map rest : List Record) (i k : ℕ) (r : Record) → i ≡ length before + k → k < length map → set (before ++ (map ++ rest)) i r ≡ before ++ (set map k r ++ rest)
set-within [] map rest i k r e h =
    let here : i ≡ k = omega arith in
    rw here (set-append_left map rest k r h)
set-within (x ∷ before) map rest i k r e h =
    let later : i ≡ suc (length before + k) = omega arith in
    rw later (ap (λ (l : List Record). x ∷ l) (set-within before map rest (length before + k) k r refl h))

-- where a map's records stand between others, what is stored goes into the map
module _ (before map after : List Record) (r : Record) (n from to : ℕ) (e : from ≡ length before) (f : to ≡ length before + length map) (g : n ≡ to + length after) where
  pub stored-parts-new : (x : Record) (slack : List Record) → held_from from r.depth r.tag map ≡ None →
      stored_between n from to r (before ++ (map ++ (after ++ (x ∷ slack)))) ≡ before ++ (stored r map ++ (after ++ slack))
  stored-parts-new x slack h =
      between-new n from to r _ (ap (λ (l : List Record). held_from from r.depth r.tag l) (between-parts before map (after ++ (x ∷ slack)) from to e f) ∙ h)
      ∙ ap (inserted n to r) (sym (append_assoc before map (after ++ (x ∷ slack))))
      ∙ inserted-parts (before ++ map) after x r slack n to (f ∙ sym (length-append before map)) (omega (arith, length-append before map))
      ∙ append_assoc before map (r ∷ (after ++ slack))
      ∙ ap (λ (l : List Record). before ++ l) (sym (append_assoc map (r ∷ []) (after ++ slack)) ∙ ap (λ (l : List Record). l ++ (after ++ slack)) (sym (stored-new r map from h)))

  pub stored-parts-held : (rest : List Record) (i : ℕ) → held_from from r.depth r.tag map ≡ Some i →
      stored_between n from to r (before ++ (map ++ rest)) ≡ before ++ (stored r map ++ rest)
  stored-parts-held rest i h =
      let s = stored-held r map from i h in
      between-held n from to r _ i (ap (λ (l : List Record). held_from from r.depth r.tag l) (between-parts before map rest from to e f) ∙ h)
      ∙ unfold replaced in (set-within before map rest i (i - from) r (omega (arith, s.from)) (omega (arith, s.from, s.within)))
      ∙ ap (λ (l : List Record). before ++ (l ++ rest)) (sym s.storing)
