-- Records that stand for a message are taken over as that message. By induction over what they stand for: each record joins the map that
-- it is a record of, so the rows that are laid are those of the map.
use Rattle.std.specs.Prelude.{◌≡◌, refl, ◌⊎◌, List, [], ◌∷◌, ◌++◌, ℕ, zero, suc, ◌+◌, ◌-◌, ◌≤◌, ◌<◌, Some}
use Rattle.std.proofs.Common.{sym, ◌∙◌, inl, inr, arith, le-leb}
use Rattle.std.proofs.Math.Path.{ap}
use Rattle.std.proofs.lemmas.Bool.{lt-leb}
use Rattle.build_records.specs.declared.Record.{Record}
use Rattle.message_maps.specs.Map.{Map}
use Rattle.message_take_over.specs.declared.Joins.TheVariants.{Open, Entry}
use Rattle.message_take_over.specs.Taking.{nearest_in, on_count, joins_of}
use Rattle.message_take_over.specs.JoinLaws.{run-same, run-next, joins-own, joins-run, joins-count}
use Rattle.message_take_over.specs.Derived.{Own, Stands, no_more, own, in_entry}

-- records are gone past, and then stand before the next, the nearest first
unfoldable pub passed : List Record → List Record → List Record
passed before [] = before
passed before (r ∷ rs) = passed (r ∷ before) rs

pub passed-append : (before a b : List Record) → passed before (a ++ b) ≡ passed (passed before a) b
unfolding passed
passed-append before [] b = refl
passed-append before (r ∷ a) b = passed-append (r ∷ before) a b

nearest_first : (depth : ℕ) (r : Record) (before : List Record) → r.depth ≤ depth → nearest_in depth (r ∷ before) ≡ Some r
unfolding nearest_in
nearest_first depth r before h = rw (le-leb _ _ h)

nearest_deeper : (depth : ℕ) (r : Record) (before : List Record) → depth < r.depth → nearest_in depth (r ∷ before) ≡ nearest_in depth before
unfolding nearest_in
nearest_deeper depth r before h = rw (lt-leb _ _ h)

-- records of a map are looked past from above
pub below-same : (bytes : List ℕ) (part above : ℕ) {depth number start entries : ℕ} {m : Map} {rs : List Record}
    → Stands bytes part depth number start entries m rs → above < depth → (before : List Record)
    → nearest_in above (passed before rs) ≡ nearest_in above before
unfolding passed
below-same bytes part above no_more h before = refl
below-same bytes part above (own r o more) h before = below-same bytes part above more h (r ∷ before) ∙ nearest_deeper above r before (omega (arith, o.deep))
below-same bytes part above (in_entry {rs = rs} {ss = ss} r o inner more) h before =
    ap (nearest_in above) (passed-append (r ∷ before) rs ss)
    ∙ below-same bytes part above more h (passed (r ∷ before) rs)
    ∙ below-same bytes part above inner (omega arith) (r ∷ before)
    ∙ nearest_deeper above r before (omega (arith, o.deep))

module _ (bytes : List ℕ) (part : ℕ) where
  -- the last record of a map has a tag, and so many entries came behind it
  pub record Context (depth number start entries : ℕ) (before : List Record) : Type 0 where
    pub count : Record
    pub nearest : nearest_in depth before ≡ Some count
    pub counts : Own bytes part depth number count
    pub starts : count.tag ≡ start
    pub last : Record
    pub nearest_below : nearest_in (depth + 1) before ≡ Some last
    pub either : ((entries ≡ 0) × (last ≡ count)) ⊎ ((last.part ≡ part) × (last.depth ≡ depth + 1) × (last.number ≡ entries))

  pub own_context : {depth number : ℕ} (r : Record) (before : List Record) → Own bytes part depth number r → Context depth number r.tag 0 (r ∷ before)
  own_context {depth} r before o =
      record {
        count = r;
        nearest = nearest_first depth r before (omega (arith, o.deep));
        counts = o;
        starts = refl;
        last = r;
        nearest_below = nearest_first (depth + 1) r before (omega (arith, o.deep));
        either = inl (refl, refl);
      }

  -- a field joins the map that is open
  pub own-joins : {depth number start entries : ℕ} {before : List Record} (r : Record) → Context depth number start entries before
      → Own bytes part depth number r → (depth ≡ 0 → number ≡ 0) → joins_of before r ≡ Open
  own-joins {depth} {number} {before = before} r c o top = by_depth (decided r.depth)
    where
      decided : (n : ℕ) → (n ≡ 0) ⊎ (n ≡ 0 → ⊥)
      decided zero = inl refl
      decided (suc n) = inr (λ e. omega arith)

      by_depth : (r.depth ≡ 0) ⊎ (r.depth ≡ 0 → ⊥) → joins_of before r ≡ Open
      by_depth (inl z) = joins-own before r z (o.numbered ∙ top (sym o.deep ∙ z))
      by_depth (inr z) =
          joins-run before r z c.count (ap (λ (n : ℕ). nearest_in n before) o.deep ∙ c.nearest) (c.counts.of ∙ sym o.of)
          (c.counts.deep ∙ sym o.deep)
          ∙ run-same before r c.count.number (o.numbered ∙ sym c.counts.numbered)

  -- an entry's first record opens it
  pub entry-joins : {depth number start entries : ℕ} {before : List Record} (r : Record) → Context depth number start entries before
      → Own bytes part (depth + 1) (entries + 1) r → joins_of before r ≡ Entry start
  entry-joins {depth} {number} {start} {entries} {before} r c o = by_entries c.either
    where
      deep : r.depth ≡ 0 → ⊥
      deep z = omega (arith, o.deep)

      near : nearest_in r.depth before ≡ Some c.last
      near = ap (λ (n : ℕ). nearest_in n before) o.deep ∙ c.nearest_below

      by_entries : ((entries ≡ 0) × (c.last ≡ c.count)) ⊎ ((c.last.part ≡ part) × (c.last.depth ≡ depth + 1) × (c.last.number ≡ entries))
          → joins_of before r ≡ Entry start
      by_entries (inl (e, l)) =
          joins-count before r deep c.count (near ∙ ap Some l) (c.counts.of ∙ sym o.of) (λ z. omega (arith, z, c.counts.deep, o.deep))
          (omega (arith, c.counts.deep, o.deep)) (omega (arith, o.numbered))
          ∙ ap Entry c.starts
      by_entries (inr (p, d, n)) =
          let up : r.depth - 1 ≡ depth = omega (arith, o.deep) in
          joins-run before r deep c.last near (p ∙ sym o.of) (d ∙ sym o.deep)
          ∙ run-next before r c.last.number (λ z. omega (arith, z, n, o.numbered)) (omega (arith, n, o.numbered)) (Some c.count)
          (ap (λ (k : ℕ). nearest_in k before) up ∙ c.nearest)
          ∙ (unfold on_count in ap Entry c.starts)

  pub record ContextAfter (depth number : ℕ) (before : List Record) : Type 0 where
    pub start : ℕ
    pub entries : ℕ
    pub context : Context depth number start entries before

  after_same : {depth number : ℕ} {a b : List Record} → a ≡ b → ContextAfter depth number b → ContextAfter depth number a
  after_same e k = rw e k

  -- past an entry the run has one more
  pub past_entry : {depth number start entries : ℕ} {before : List Record} (r : Record) {inner : Map} {rs : List Record}
      → Context depth number start entries before → Own bytes part (depth + 1) (entries + 1) r
      → Stands bytes part (depth + 1) (entries + 1) r.tag 0 inner rs
      → ContextAfter (depth + 1) (entries + 1) (passed (r ∷ before) rs) → Context depth number start (entries + 1) (passed (r ∷ before) rs)
  past_entry {depth} {before = before} r c o inner a =
      let k = a.context in
      record {
        count = c.count;
        nearest = below-same bytes part depth inner (omega arith) (r ∷ before) ∙ nearest_deeper depth r before (omega (arith, o.deep)) ∙ c.nearest;
        counts = c.counts;
        starts = c.starts;
        last = k.count;
        nearest_below = k.nearest;
        either = inr (k.counts.of, k.counts.deep, k.counts.numbered);
      }

  pub past_map : {depth number start entries : ℕ} {m : Map} {rs : List Record} → Stands bytes part depth number start entries m rs → (before : List Record)
      → Context depth number start entries before → ContextAfter depth number (passed before rs)
  unfolding passed
  past_map no_more before c = record { start = _; entries = _; context = c }
  past_map (own r o more) before c = past_map more (r ∷ before) (own_context r before o)
  past_map {depth} {number} (in_entry {rs = rs} {ss = ss} r o inner more) before c =
      let a = past_map inner (r ∷ before) (own_context r before o) in
      after_same (passed-append (r ∷ before) rs ss) (past_map more (passed (r ∷ before) rs) (past_entry r c o inner a))
