-- A new entry behind the word where the way of its key ended: it is found under its key, every other way ends as before, and what
-- stood in trees still does.
use Rattle.std.specs.Prelude.{◌≡◌, refl, ◌⊎◌, Bool, true, false, List, ℕ, suc, ◌+◌, ◌≤◌, ◌<◌, get_or, eqb}
use Rattle.std.proofs.Common.{sym, ap, ◌∙◌, inl, inr, arith, eqb-true}
use Rattle.std.proofs.lemmas.Bool.{eqb-false}
use Rattle.dictionary_chains.specs.Chain.{entry_start, entry_room, key_of, head_of, entry_at, link_at, branch_of, ends, strayed, way_of, found}
use Rattle.dictionary_chains.proofs.WayLaws.{link-none, link-some, link_rises, rest_after, number_of, way_from, Comes, starts, turns, Climbs, stops, hits, strays, goes, climbs, from-none, from_hit, from_stray, from_on, same_hit, same_stray, same_turn, comes_low}
use Rattle.dictionary_chains.proofs.TreeLaws.{Alike, Stands, none, reached, stands_as, Apart, equal, lower, higher, Bounded, together, stands_bounded, comes_bounded, comes_before, comes_apart, same-entry, same-link}
use Rattle.dictionary_chains.specs.declared.Table.{Table}
use Rattle.dictionary_chains.specs.declared.Way.{Way}

-- the words after a new entry, whose number is newer than all that stood, was put behind the word where its key's way ended
pub record Grows (table : Table) (index after : List ℕ) (key b n low cell number : ℕ) : Type 0 where
  pub bound : Bounded index b
  pub end : Comes table index key n low cell
  pub vacant : entry_room ≤ link_at index low cell
  pub newer : b + 4 ≤ number
  pub fits : number < entry_room
  pub leads : get_or after cell 0 ≡ number
  pub bare : (rest : ℕ) → get_or after (branch_of number rest) 0 ≡ 0
  pub words : (i : ℕ) → i < entry_start number → (i ≡ cell → ⊥) → get_or after i 0 ≡ get_or index i 0
  pub mine : key_of table (entry_at after number) ≡ key

module _ {table : Table} {index after : List ℕ} {key b n low cell number : ℕ} (g : Grows table index after key b n low cell number) where
  -- an older entry stays as it was
  pub older_entry : {m : ℕ} → Stands index m → entry_at after m ≡ entry_at index m
  older_entry {m} s =
      let old = stands_bounded g.bound s in
      let new = g.newer in
      same-entry after index m (λ k two six. g.words (entry_start m + k) (omega arith) (comes_apart g.bound g.end s k two six))

  -- what a word leads to that an old way comes to
  data Seen (t : Table) (k m below place : ℕ) : Type 0 where
    old : Comes t index k m below place → link_at after below place ≡ link_at index below place → Seen t k m below place
    new : Comes t index k m below place → place ≡ cell → link_at after below place ≡ number → Seen t k m below place

  leads_here : {t : Table} {k m below place : ℕ} → Comes t index k m below place → place ≡ cell → link_at after below place ≡ number
  leads_here {below = below} {place = place} p here =
      let word : get_or after place 0 ≡ number = ap (λ (c : ℕ). get_or after c 0) here ∙ g.leads in
      link-some after below place (omega (arith, comes_bounded g.bound p, g.newer)) ∙ word

  -- only ways of the table come there
  key_here : {t : Table} {k m below place : ℕ} → Comes t index k m below place → place ≡ cell → key_of t (entry_at after number) ≡ key
  key_here p here = rw (together g.bound p g.end here).table g.mine

  -- a word of an old way leads where it did, or to the new entry
  step : {t : Table} {k m below place : ℕ} → Comes t index k m below place → Seen t k m below place
  step {t} {k} {m} {below} {place} p = go (eqb place cell) refl
    where
      go : (s : Bool) → eqb place cell ≡ s → Seen t k m below place
      go true q = new p (eqb-true place cell q) (leads_here p (eqb-true place cell q))
      go false q = old p (same-link after index below place (g.words place (comes_before g.bound p number g.newer) (eqb-false place cell q)))

  -- the new entry leads no way on
  leads_nowhere : (link rest : ℕ) → link ≡ number → link_at after link (branch_of link rest) ≡ entry_room
  leads_nowhere link rest e =
      let bare : get_or after (branch_of link rest) 0 ≡ 0 = ap (λ (c : ℕ). get_or after (branch_of c rest) 0) e ∙ g.bare rest in
      link-none after link (branch_of link rest) (omega arith)

  -- so a way that leads on is an old one
  seen : {t : Table} {k m below place : ℕ} → Comes t after k m below place → link_at after below place < entry_room → Seen t k m below place
  seen starts h = step starts
  seen {t} {k} (turns {n = m} {low = below} {cell = place} p b) h = go (seen p b)
    where
      link : ℕ
      link = link_at after below place

      go : Seen t k m below place → Seen t k (suc m) link (branch_of link (rest_after m k))
      go (old q e) =
          let on : Comes t index k (suc m) link (branch_of link (rest_after m k)) = rw e (turns q (rw e at b)) in
          step on
      go (new q here e) = absurd (omega (arith, leads_nowhere link (rest_after m k) e))

  pub grows_bounded : Bounded after number
  grows_bounded =
      record {
        links = λ p h. bounded p h (seen p h);
        own = λ p q h same. single p q h same (seen p h) (seen q (rw same at h));
        keys = λ p h. alike p h (seen p h);
        apart = λ s r. parted (stood s) (stood r);
      }
    where
      -- what stands is old or new, and what is new shares no word with what is old
      stood : {m : ℕ} → Stands after m → Stands index m ⊎ (m ≡ number)
      stood none = inl none
      stood (reached p h) = known h (seen p h)
        where
          known : {t : Table} {k m below place : ℕ} → link_at after below place < entry_room → Seen t k m below place
              → Stands index (link_at after below place) ⊎ (link_at after below place ≡ number)
          known h (old q e) = inl (stands_as (sym e) (reached q (rw e at h)))
          known h (new q here e) = inr e

      parted : {m d : ℕ} → Stands index m ⊎ (m ≡ number) → Stands index d ⊎ (d ≡ number) → Apart m d
      parted (inl s) (inl r) = g.bound.apart s r
      parted (inl s) (inr e) = lower (omega (arith, stands_bounded g.bound s, g.newer))
      parted (inr e) (inl r) = higher (omega (arith, stands_bounded g.bound r, g.newer))
      parted (inr e) (inr f) = equal (e ∙ sym f)

      bounded : {t : Table} {k m below place : ℕ} → Comes t after k m below place → link_at after below place < entry_room → Seen t k m below place
          → link_at after below place ≤ number
      bounded p h (old q e) = omega (arith, g.bound.links q (rw e at h), g.newer)
      bounded p h (new q here e) = omega arith

      single : {t u : Table} {k l m d below beneath place spot : ℕ} → Comes t after k m below place → Comes u after l d beneath spot
          → link_at after below place < entry_room → link_at after below place ≡ link_at after beneath spot → Seen t k m below place
          → Seen u l d beneath spot → (t ≡ u) × (place ≡ spot)
      single p q h same (old x e) (old y f) = g.bound.own x y (rw e at h) (sym e ∙ same ∙ f)
      single p q h same (old x e) (new y there f) = absurd (omega (arith, g.bound.links x (rw e at h), g.newer))
      single p q h same (new x here e) (old y f) = absurd (omega (arith, g.bound.links y (omega (arith, g.fits)), g.newer))
      single p q h same (new x here e) (new y there f) = ((together g.bound x y (here ∙ sym there)).table, here ∙ sym there)

      alike : {t : Table} {k m below place : ℕ} → Comes t after k m below place → link_at after below place < entry_room → Seen t k m below place
          → Alike m (key_of t (entry_at after (link_at after below place))) k
      alike {below = below} {place = place} p h (old x e) =
          rw (e, older_entry (reached x (rw e at h))) (g.bound.keys x (rw e at h))
      alike p h (new x here e) =
          let both = together g.bound g.end x (sym here) in
          rw (e, key_here x here) (rw both.depth at both.alike)

  -- no way went on where the new entry stands now
  no_way_on : {t : Table} {k m below place : ℕ} → Comes t index k m below place → place ≡ cell → entry_room ≤ link_at index below place
  no_way_on p here = let both = together g.bound p g.end here in rw (both.entry, here) g.vacant

  -- an old link leads to the key that it led to
  keys_kept : {t : Table} {k m below place : ℕ} → Comes t index k m below place → link_at index below place < entry_room
      → key_of t (entry_at after (link_at index below place)) ≡ key_of t (entry_at index (link_at index below place))
  keys_kept {t} p h = ap (key_of t) (older_entry (reached p h))

  -- the new entry is found under its key
  arrives : {m below place : ℕ} → Comes table index key m below place → Climbs table index key m below place
      → way_from table index key m below place ≡ ends cell 0 → way_from table after key m below place ≡ ends cell number
  arrives {m} {below} {place} p (stops z) end =
      let here : place ≡ cell = ap (λ (w : Way). w.cell) (sym (from-none table index key m below place z) ∙ end) in
      let leads = leads_here p here in
      from_hit table after key m below place (rw leads g.fits) (rw leads g.mine) ∙ rw (leads, here)
  arrives {m} {below} {place} p (hits h e) end =
      let link : link_at index below place ≡ 0 = ap number_of (sym (from_hit table index key m below place h e) ∙ end) in
      absurd (omega (arith, link_rises index below place (comes_low p)))
  arrives {m} {below} {place} p (strays h e s) end =
      let here : place ≡ cell = ap (λ (w : Way). w.cell) (sym (from_stray table index key m below place h e s) ∙ end) in
      absurd (omega (arith, no_way_on p here))
  arrives {m} {below} {place} p (goes h e s c) end = go (step p) (arrives (turns p h) c (sym (from_on table index key m below place h e s) ∙ end))
    where
      go : Seen table key m below place
          → way_from table after key (suc m) (link_at index below place) (branch_of (link_at index below place) (rest_after m key)) ≡ ends cell number
          → way_from table after key m below place ≡ ends cell number
      go (old q f) later = same_turn table index after key m below place f (keys_kept p h) h e s ∙ later
      go (new q here f) later = absurd (omega (arith, no_way_on p here))

  -- and under any other key, and in another table, what was found before
  elsewhere : {t : Table} {k m below place : ℕ} → (t ≡ table → k ≡ key → ⊥) → Comes t index k m below place → Climbs t index k m below place
      → number_of (way_from t after k m below place) ≡ number_of (way_from t index k m below place)
  elsewhere {t} {k} {m} {below} {place} apart p (stops z) = go (step p) ∙ sym (ap number_of (from-none t index k m below place z))
    where
      -- a way with another key ends at the new entry, or behind it
      passed : (s : Bool) → strayed t m (key_of t (entry_at after (link_at after below place))) k ≡ s → link_at after below place ≡ number
          → (key_of t (entry_at after (link_at after below place)) ≡ k → ⊥) → number_of (way_from t after k m below place) ≡ 0
      passed true q e other = ap number_of (from_stray t after k m below place (rw e g.fits) other q)
      passed false q e other =
          let link = link_at after below place in
          ap number_of (from_on t after k m below place (rw e g.fits) other q)
          ∙ ap number_of (from-none t after k (suc m) link (branch_of link (rest_after m k)) (omega (arith, leads_nowhere link (rest_after m k) e)))

      go : Seen t k m below place → number_of (way_from t after k m below place) ≡ 0
      go (old q e) = ap number_of (from-none t after k m below place (rw e z))
      go (new q here e) =
          let link = link_at after below place in
          let other : key_of t (entry_at after link) ≡ k → ⊥ = λ r. apart (together g.bound p g.end here).table (sym (rw e at r) ∙ key_here p here) in
          passed (strayed t m (key_of t (entry_at after link)) k) refl e other
  elsewhere {t} {k} {m} {below} {place} apart p (hits h e) = go (step p)
    where
      go : Seen t k m below place → number_of (way_from t after k m below place) ≡ number_of (way_from t index k m below place)
      go (old q f) = ap number_of (same_hit t index after k m below place f (keys_kept p h) h e)
      go (new q here f) = absurd (omega (arith, no_way_on p here))
  elsewhere {t} {k} {m} {below} {place} apart p (strays h e s) = go (step p)
    where
      go : Seen t k m below place → number_of (way_from t after k m below place) ≡ number_of (way_from t index k m below place)
      go (old q f) = ap number_of (same_stray t index after k m below place f (keys_kept p h) h e s)
      go (new q here f) = absurd (omega (arith, no_way_on p here))
  elsewhere {t} {k} {m} {below} {place} apart p (goes h e s c) = go (step p) (elsewhere apart (turns p h) c)
    where
      link : ℕ
      link = link_at index below place

      next : ℕ
      next = branch_of link (rest_after m k)

      go : Seen t k m below place → number_of (way_from t after k (suc m) link next) ≡ number_of (way_from t index k (suc m) link next)
          → number_of (way_from t after k m below place) ≡ number_of (way_from t index k m below place)
      go (old q f) later =
          ap number_of (same_turn t index after k m below place f (keys_kept p h) h e s) ∙ later ∙ sym (ap number_of (from_on t index k m below place h e s))
      go (new q here f) later = absurd (omega (arith, no_way_on p here))

  pub grows_way : way_of table index key ≡ ends cell 0 → way_of table after key ≡ ends cell number
  unfolding way_of rest_after
  grows_way end = arrives starts (climbs table index key 0 0 (head_of table key)) end

  pub grows_elsewhere : (t : Table) (k : ℕ) → (t ≡ table → k ≡ key → ⊥) → found t after k ≡ found t index k
  unfolding found way_of rest_after
  grows_elsewhere t k apart = elsewhere apart starts (climbs t index k 0 0 (head_of t k))
