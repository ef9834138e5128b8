-- What is reached is the word of its level and tag, and a row that is entered there changes no other's.
use Rattle.std.specs.Prelude.{◌≡◌, ◌⊎◌, Bool, List, leb}
use Rattle.std.proofs.Math.Path.{refl, sym, ap}
use Rattle.std.proofs.Common.{◌∙◌}
use Rattle.std.proofs.Math.Logic.{inl, inr}
use Rattle.std.proofs.Math.Bool.{true, false}
use Prim.Native.Nat.{ℕ, zero, suc, ◌+◌, ◌-◌, ◌*◌, ◌/◌, ◌%◌, ◌≤◌, ◌<◌}
use native.Mathlib.Omega.{arith}
use Rattle.std.proofs.Math.ListN.{get_or}
use Rattle.std.proofs.Math.Dec.{eqb}
use borrow.Author.Tests.{eq-eqb, ne_eqb, eqb-true, eqb-false, leb-true, leb-false}
use Rattle.field_rules.specs.Choice.{pick}
use Rattle.message_maps.specs.Rows.{row_at}
use Rattle.message_allowed.specs.Distinct.{tagged}
use Rattle.message_allowed.specs.Branch.{reached, Tree}

-- a word that is no newest row's; h is the number of the row that it is a branch of, 0 for a bucket
pub record Link (table : List ℕ) (i h c : ℕ) : Type 0 where
  pub low : c < 1024 + 3 * h
  pub free : (v : ℕ) → 0 < v → c ≡ 1023 + 3 * v → ⊥
  pub old : h ≤ i
  pub rise : (get_or table c 0 ≡ 0 → ⊥) → h < get_or table c 0
  pub few : get_or table c 0 ≤ i

module _ (table : List ℕ) (i : ℕ) (tree : Tree table i) where
  pub bucket_link : (c : ℕ) → c < 1024 → Link table i 0 c
  bucket_link c h =
      record {
        low = omega arith;
        free = λ v s e. omega arith;
        old = omega arith;
        rise = λ n. some (get_or table c 0) n;
        few = tree.few c (omega arith);
      }
    where
      some : (v : ℕ) → (v ≡ 0 → ⊥) → 0 < v
      some v n = omega arith

  pub branch_link : (v s : ℕ) → 0 < v → v ≤ i → s < 2 → Link table i v (1021 + 3 * v + s)
  branch_link v s a b t =
      record {
        low = omega arith;
        free = λ w o e. omega arith;
        old = b;
        rise = tree.rises v s a b t;
        few = tree.few (1021 + 3 * v + s) (omega arith);
      }

  pub next-link : (h c rest : ℕ) → Link table i h c → (get_or table c 0 ≡ 0 → ⊥) → Link table i (get_or table c 0) (1021 + 3 * get_or table c 0 + rest % 2)
  next-link h c rest l n = branch_link (get_or table c 0) (rest % 2) (omega (arith, l.rise n)) l.few (omega arith)

  -- behind the newest row nothing is
  link-stop : (h c : ℕ) → Link table i h c → i ≤ h → get_or table c 0 ≡ 0
  link-stop h c l e = go (eqb (get_or table c 0) 0) refl
    where
      go : (b : Bool) → eqb (get_or table c 0) 0 ≡ b → get_or table c 0 ≡ 0
      go true q = eqb-true (get_or table c 0) 0 q
      go false q = absurd (omega (arith, l.rise (eqb-false (get_or table c 0) 0 q), l.few))

pub reached-stop : (n : ℕ) (table words : List ℕ) (level tag c rest : ℕ) → get_or table c 0 ≡ 0 → reached n table words level tag c rest ≡ c
unfolding reached
reached-stop zero table words level tag c rest e = refl
reached-stop (suc n) table words level tag c rest e = rw (eq-eqb (get_or table c 0) 0 e)

pub reached_hit : (n : ℕ) (table words : List ℕ) (level tag c rest v : ℕ) → get_or table c 0 ≡ v → (v ≡ 0 → ⊥) → tagged level tag (row_at words (v - 1)) ≡ true
    → reached (suc n) table words level tag c rest ≡ 1023 + 3 * v
unfolding reached
reached_hit n table words level tag c rest v e some hit = rw (e, ne_eqb v 0 some, hit)

pub reached-on : (n : ℕ) (table words : List ℕ) (level tag c rest v : ℕ) → get_or table c 0 ≡ v → (v ≡ 0 → ⊥) → tagged level tag (row_at words (v - 1)) ≡ false
    → reached (suc n) table words level tag c rest ≡ reached n table words level tag (1021 + 3 * v + rest % 2) (rest / 2)
unfolding reached
reached-on n table words level tag c rest v e some off = rw (e, ne_eqb v 0 some, off)

-- a word reached from a link: that of the row found, or an empty link
pub record Empty (table : List ℕ) (r : ℕ) : Type 0 where
  pub free : (v : ℕ) → 0 < v → r ≡ 1023 + 3 * v → ⊥
  pub none : get_or table r 0 ≡ 0

pub record Found (words : List ℕ) (level tag r : ℕ) : Type 0 where
  pub v : ℕ
  pub some : 0 < v
  pub place : r ≡ 1023 + 3 * v
  pub hit : tagged level tag (row_at words (v - 1)) ≡ true

module _ (table words : List ℕ) (i : ℕ) (tree : Tree table i) (level tag : ℕ) where
  -- by the steps that are left
  pub enough : (n m h c rest : ℕ) → Link table i h c → i ≤ h + n → i ≤ h + m → reached n table words level tag c rest ≡ reached m table words level tag c rest
  unfolding reached
  enough zero m h c rest l a b = sym (reached-stop m table words level tag c rest (link-stop table i tree h c l (omega arith)))
  enough (suc n) zero h c rest l a b = reached-stop (suc n) table words level tag c rest (link-stop table i tree h c l (omega arith))
  enough (suc n) (suc m) h c rest l a b =
      go (eqb (get_or table c 0) 0) refl (tagged level tag (row_at words (get_or table c 0 - 1))) refl
      (λ s. enough n m (get_or table c 0) (1021 + 3 * get_or table c 0 + rest % 2) (rest / 2) (next-link table i tree h c rest l s) (omega (arith, l.rise s))
      (omega (arith, l.rise s)))
    where
      go : (z : Bool) → eqb (get_or table c 0) 0 ≡ z → (t : Bool) → tagged level tag (row_at words (get_or table c 0 - 1)) ≡ t
          → ((get_or table c 0 ≡ 0 → ⊥) → reached n table words level tag (1021 + 3 * get_or table c 0 + rest % 2) (rest / 2)
          ≡ reached m table words level tag (1021 + 3 * get_or table c 0 + rest % 2) (rest / 2))
          → reached (suc n) table words level tag c rest ≡ reached (suc m) table words level tag c rest
      go true q t p later =
          let e = eqb-true (get_or table c 0) 0 q in
          reached-stop (suc n) table words level tag c rest e ∙ sym (reached-stop (suc m) table words level tag c rest e)
      go false q true p later =
          let s = eqb-false (get_or table c 0) 0 q in
          reached_hit n table words level tag c rest (get_or table c 0) refl s p ∙ sym (reached_hit m table words level tag c rest (get_or table c 0) refl s p)
      go false q false p later =
          let s = eqb-false (get_or table c 0) 0 q in
          reached-on n table words level tag c rest (get_or table c 0) refl s p ∙ later s
          ∙ sym (reached-on m table words level tag c rest (get_or table c 0) refl s p)

  pub reached_bounds : (n h c rest : ℕ) → Link table i h c
      → (c ≤ reached n table words level tag c rest) × (reached n table words level tag c rest < 1024 + 3 * i)
  unfolding reached
  reached_bounds zero h c rest l = (omega arith, omega (arith, l.low, l.old))
  reached_bounds (suc n) h c rest l =
      go (eqb (get_or table c 0) 0) refl (tagged level tag (row_at words (get_or table c 0 - 1)))
      (λ s. reached_bounds n (get_or table c 0) (1021 + 3 * get_or table c 0 + rest % 2) (rest / 2) (next-link table i tree h c rest l s))
    where
      go : (z : Bool) → eqb (get_or table c 0) 0 ≡ z → (t : Bool)
          → ((get_or table c 0 ≡ 0 → ⊥) → (1021 + 3 * get_or table c 0
          + rest % 2 ≤ reached n table words level tag (1021 + 3 * get_or table c 0 + rest % 2) (rest / 2))
          × (reached n table words level tag (1021 + 3 * get_or table c 0 + rest % 2) (rest / 2) < 1024 + 3 * i))
          → (c ≤ pick z c (pick t (1023 + 3 * get_or table c 0) (reached n table words level tag (1021 + 3 * get_or table c 0 + rest % 2) (rest / 2))))
          × (pick z c (pick t (1023 + 3 * get_or table c 0) (reached n table words level tag (1021 + 3 * get_or table c 0 + rest % 2) (rest / 2))) < 1024 + 3 * i)
      go true q t later = (omega arith, omega (arith, l.low, l.old))
      go false q true later = let s = eqb-false (get_or table c 0) 0 q in (omega (arith, l.rise s, l.low), omega (arith, l.few))
      go false q false later =
          let s = eqb-false (get_or table c 0) 0 q in
          let next = later s in
          (omega (arith, next.0, l.rise s, l.low), next.1)

  pub outcome : (n h c rest : ℕ) → Link table i h c → i ≤ h + n
      → Empty table (reached n table words level tag c rest) ⊎ Found words level tag (reached n table words level tag c rest)
  unfolding reached
  outcome zero h c rest l a = inl (record { free = l.free; none = link-stop table i tree h c l (omega arith) })
  outcome (suc n) h c rest l a =
      go (eqb (get_or table c 0) 0) refl (tagged level tag (row_at words (get_or table c 0 - 1))) refl
      (λ s. outcome n (get_or table c 0) (1021 + 3 * get_or table c 0 + rest % 2) (rest / 2) (next-link table i tree h c rest l s) (omega (arith, l.rise s)))
    where
      go : (z : Bool) → eqb (get_or table c 0) 0 ≡ z → (t : Bool) → tagged level tag (row_at words (get_or table c 0 - 1)) ≡ t
          → ((get_or table c 0 ≡ 0 → ⊥) → Empty table (reached n table words level tag (1021 + 3 * get_or table c 0 + rest % 2) (rest / 2))
          ⊎ Found words level tag (reached n table words level tag (1021 + 3 * get_or table c 0 + rest % 2) (rest / 2)))
          → Empty table (pick z c (pick t (1023 + 3 * get_or table c 0) (reached n table words level tag (1021 + 3 * get_or table c 0 + rest % 2) (rest / 2))))
          ⊎ Found words level tag (pick z c
          (pick t (1023 + 3 * get_or table c 0) (reached n table words level tag (1021 + 3 * get_or table c 0 + rest % 2) (rest / 2))))
      go true q t p later = inl (record { free = l.free; none = eqb-true (get_or table c 0) 0 q })
      go false q true p later = inr (record { v = get_or table c 0; some = omega (arith, l.rise (eqb-false (get_or table c 0) 0 q)); place = refl; hit = p })
      go false q false p later = later (eqb-false (get_or table c 0) 0 q)

-- row i is entered at the word r: it is the newest row there, and has no branches of its own
pub record Changed (table after : List ℕ) (i r : ℕ) : Type 0 where
  pub kept : (k : ℕ) → k < 1024 + 3 * i → (k ≡ r → ⊥) → get_or after k 0 ≡ get_or table k 0
  pub here : get_or after r 0 ≡ i + 1
  pub bare : (s : ℕ) → s < 2 → get_or after (1021 + 3 * (i + 1) + s) 0 ≡ 0
  pub own : get_or after (1023 + 3 * (i + 1)) 0 ≡ i + 1

module _ (table after words : List ℕ) (i r : ℕ) (tree : Tree table i) (change : Changed table after i r) where
  new : (i + 1 ≡ 0) → ⊥
  new e = omega arith

  last : i + 1 - 1 ≡ i
  last = omega arith

  -- the row's own level and tag
  module _ (level tag : ℕ) (mine : tagged level tag (row_at words i) ≡ true) where
    entered_here : (n c rest : ℕ) → c ≡ r → get_or after (reached (suc n) after words level tag c rest) 0 ≡ i + 1
    entered_here n c rest e =
        ap (λ (k : ℕ). get_or after k 0) (reached_hit n after words level tag c rest (i + 1) (ap (λ (k : ℕ). get_or after k 0) e ∙ change.here) new
        (rw last mine)) ∙ change.own

    pub found_mine : (n h c rest : ℕ) → Link table i h c → i ≤ h + n → reached n table words level tag c rest ≡ r
        → get_or after (reached (suc n) after words level tag c rest) 0 ≡ i + 1
    unfolding reached
    found_mine zero h c rest l a e = entered_here zero c rest e
    found_mine (suc n) h c rest l a e =
        go (eqb (get_or table c 0) 0) refl (tagged level tag (row_at words (get_or table c 0 - 1))) refl
        (λ s. found_mine n (get_or table c 0) (1021 + 3 * get_or table c 0 + rest % 2) (rest / 2) (next-link table i tree h c rest l s)
        (omega (arith, l.rise s)))
      where
        go : (z : Bool) → eqb (get_or table c 0) 0 ≡ z → (t : Bool) → tagged level tag (row_at words (get_or table c 0 - 1)) ≡ t
            → ((get_or table c 0 ≡ 0 → ⊥) → reached n table words level tag (1021 + 3 * get_or table c 0 + rest % 2) (rest / 2) ≡ r
            → get_or after (reached (suc n) after words level tag (1021 + 3 * get_or table c 0 + rest % 2) (rest / 2)) 0 ≡ i + 1)
            → get_or after (reached (suc (suc n)) after words level tag c rest) 0 ≡ i + 1
        go true q t p later = entered_here (suc n) c rest (sym (reached-stop (suc n) table words level tag c rest (eqb-true (get_or table c 0) 0 q)) ∙ e)
        go false q true p later =
            let s = eqb-false (get_or table c 0) 0 q in
            let at : 1023 + 3 * get_or table c 0 ≡ r = sym (reached_hit n table words level tag c rest (get_or table c 0) refl s p) ∙ e in
            let same = change.kept c (omega (arith, l.low, l.old)) (λ k. omega (arith, at, k, l.low, l.rise s)) in
            ap (λ (k : ℕ). get_or after k 0) (reached_hit (suc n) after words level tag c rest (get_or table c 0) same s p ∙ at) ∙ change.here
        go false q false p later =
            let s = eqb-false (get_or table c 0) 0 q in
            let at : reached n table words level tag (1021 + 3 * get_or table c 0 + rest % 2) (rest / 2) ≡ r =
            sym (reached-on n table words level tag c rest (get_or table c 0) refl s p) ∙ e in
            let past =
            (reached_bounds table words i tree level tag n (get_or table c 0) (1021 + 3 * get_or table c 0 + rest % 2) (rest / 2)
            (next-link table i tree h c rest l s)).0 in
            let same = change.kept c (omega (arith, l.low, l.old)) (λ k. omega (arith, at, k, past, l.low, l.rise s)) in
            ap (λ (k : ℕ). get_or after k 0) (reached-on (suc n) after words level tag c rest (get_or table c 0) same s p) ∙ later s at

  -- any other level and tag
  module _ (level tag level₀ tag₀ : ℕ) (other : tagged level tag (row_at words i) ≡ false)
      (apart : (k : ℕ) → tagged level tag (row_at words k) ≡ true → tagged level₀ tag₀ (row_at words k) ≡ true → ⊥)
      (out : Empty table r ⊎ Found words level₀ tag₀ r) where
    -- a link is the word entered only where it is empty
    passed_by : (n h c rest : ℕ) → Link table i h c → c ≡ r → Empty table r ⊎ Found words level₀ tag₀ r
        → get_or after (reached (suc n) after words level tag c rest) 0 ≡ get_or table (reached n table words level tag c rest) 0
    passed_by n h c rest l e (inr f) = absurd (l.free f.v f.some (e ∙ f.place))
    passed_by n h c rest l e (inl f) =
        let none : get_or table c 0 ≡ 0 = ap (λ (k : ℕ). get_or table k 0) e ∙ f.none in
        let bare = change.bare (rest % 2) (omega arith) in
        ap (λ (k : ℕ). get_or after k 0)
        (reached-on n after words level tag c rest (i + 1) (ap (λ (k : ℕ). get_or after k 0) e ∙ change.here) new (rw last other)
        ∙ reached-stop n after words level tag (1021 + 3 * (i + 1) + rest % 2) (rest / 2) bare)
        ∙ bare
        ∙ sym (ap (λ (k : ℕ). get_or table k 0) (reached-stop n table words level tag c rest none) ∙ none)

    -- nor is it that of a row found for another
    not_there : (v : ℕ) → 0 < v → tagged level tag (row_at words (v - 1)) ≡ true → 1023 + 3 * v ≡ r → Empty table r ⊎ Found words level₀ tag₀ r → ⊥
    not_there v s hit e (inl f) = f.free v s (sym e)
    not_there v s hit e (inr f) =
        let same : f.v ≡ v = omega (arith, e, f.place) in
        apart (v - 1) hit (rw same at f.hit)

    still_empty : (n h c rest : ℕ) → Link table i h c → get_or table c 0 ≡ 0 → (c ≡ r → ⊥)
        → get_or after (reached (suc n) after words level tag c rest) 0 ≡ get_or table (reached n table words level tag c rest) 0
    still_empty n h c rest l e q =
        let same = change.kept c (omega (arith, l.low, l.old)) q in
        ap (λ (k : ℕ). get_or after k 0) (reached-stop (suc n) after words level tag c rest (same ∙ e)) ∙ same
        ∙ sym (ap (λ (k : ℕ). get_or table k 0) (reached-stop n table words level tag c rest e))

    pub found-other : (n h c rest : ℕ) → Link table i h c → i ≤ h + n
        → get_or after (reached (suc n) after words level tag c rest) 0 ≡ get_or table (reached n table words level tag c rest) 0
    found-other zero h c rest l a = go (eqb c r) refl
      where
        go : (b : Bool) → eqb c r ≡ b → get_or after (reached 1 after words level tag c rest) 0 ≡ get_or table (reached 0 table words level tag c rest) 0
        go true q = passed_by 0 h c rest l (eqb-true c r q) out
        go false q = still_empty 0 h c rest l (link-stop table i tree h c l (omega arith)) (eqb-false c r q)
    found-other (suc n) h c rest l a =
        go (eqb c r) refl (eqb (get_or table c 0) 0) refl (tagged level tag (row_at words (get_or table c 0 - 1))) refl
        (λ s. found-other n (get_or table c 0) (1021 + 3 * get_or table c 0 + rest % 2) (rest / 2) (next-link table i tree h c rest l s)
        (omega (arith, l.rise s)))
      where
        go : (b : Bool) → eqb c r ≡ b → (z : Bool) → eqb (get_or table c 0) 0 ≡ z → (t : Bool) → tagged level tag (row_at words (get_or table c 0 - 1)) ≡ t
            → ((get_or table c 0 ≡ 0 → ⊥) → get_or after (reached (suc n) after words level tag (1021 + 3 * get_or table c 0 + rest % 2) (rest / 2)) 0
            ≡ get_or table (reached n table words level tag (1021 + 3 * get_or table c 0 + rest % 2) (rest / 2)) 0)
            → get_or after (reached (suc (suc n)) after words level tag c rest) 0 ≡ get_or table (reached (suc n) table words level tag c rest) 0
        go true w z q t p later = passed_by (suc n) h c rest l (eqb-true c r w) out
        go false w true q t p later = still_empty (suc n) h c rest l (eqb-true (get_or table c 0) 0 q) (eqb-false c r w)
        go false w false q true p later =
            let s = eqb-false (get_or table c 0) 0 q in
            let same = change.kept c (omega (arith, l.low, l.old)) (eqb-false c r w) in
            ap (λ (k : ℕ). get_or after k 0) (reached_hit (suc n) after words level tag c rest (get_or table c 0) same s p)
            ∙ change.kept (1023 + 3 * get_or table c 0) (omega (arith, l.few)) (λ e. not_there (get_or table c 0) (omega (arith, l.rise s)) p e out)
            ∙ sym (ap (λ (k : ℕ). get_or table k 0) (reached_hit n table words level tag c rest (get_or table c 0) refl s p))
        go false w false q false p later =
            let s = eqb-false (get_or table c 0) 0 q in
            let same = change.kept c (omega (arith, l.low, l.old)) (eqb-false c r w) in
            ap (λ (k : ℕ). get_or after k 0) (reached-on (suc n) after words level tag c rest (get_or table c 0) same s p)
            ∙ later s
            ∙ sym (ap (λ (k : ℕ). get_or table k 0) (reached-on n table words level tag c rest (get_or table c 0) refl s p))

  -- the tree stays one
  few_on : r < 1024 + 3 * i → (k : ℕ) → k < 1024 + 3 * (i + 1) → get_or after k 0 ≤ i + 1
  few_on small k h = go (eqb k r) refl (leb (1024 + 3 * i) k) refl
    where
      go : (b : Bool) → eqb k r ≡ b → (t : Bool) → leb (1024 + 3 * i) k ≡ t → get_or after k 0 ≤ i + 1
      go true q t p = rw (eqb-true k r q) (omega (arith, change.here))
      go false q false p = omega (arith, change.kept k (leb-false (1024 + 3 * i) k p) (eqb-false k r q), tree.few k (leb-false (1024 + 3 * i) k p))
      go false q true p = place (leb-true (1024 + 3 * i) k p) (eqb k (1023 + 3 * (i + 1))) refl
        where
          place : 1024 + 3 * i ≤ k → (b : Bool) → eqb k (1023 + 3 * (i + 1)) ≡ b → get_or after k 0 ≤ i + 1
          place low true e = rw (eqb-true k (1023 + 3 * (i + 1)) e) (omega (arith, change.own))
          place low false e = bare low (eqb-false k (1023 + 3 * (i + 1)) e)
            where
              bare : 1024 + 3 * i ≤ k → (k ≡ 1023 + 3 * (i + 1) → ⊥) → get_or after k 0 ≤ i + 1
              bare low n =
                  let s : k - (1021 + 3 * (i + 1)) < 2 = omega arith in
                  let e : 1021 + 3 * (i + 1) + (k - (1021 + 3 * (i + 1))) ≡ k = omega arith in
                  omega (arith, rw e at (change.bare (k - (1021 + 3 * (i + 1))) s))

  rises_on : (v s : ℕ) → 0 < v → v ≤ i + 1 → s < 2 → (get_or after (1021 + 3 * v + s) 0 ≡ 0 → ⊥) → v < get_or after (1021 + 3 * v + s) 0
  rises_on v s a b t n = go (eqb v (i + 1)) refl (eqb (1021 + 3 * v + s) r) refl
    where
      go : (d : Bool) → eqb v (i + 1) ≡ d → (e : Bool) → eqb (1021 + 3 * v + s) r ≡ e → v < get_or after (1021 + 3 * v + s) 0
      go true q e p = absurd (n (ap (λ (w : ℕ). get_or after (1021 + 3 * w + s) 0) (eqb-true v (i + 1) q) ∙ change.bare s t))
      go false q true p = at (eqb-false v (i + 1) q)
        where
          at : (v ≡ i + 1 → ⊥) → v < get_or after (1021 + 3 * v + s) 0
          at m = omega (arith, ap (λ (k : ℕ). get_or after k 0) (eqb-true (1021 + 3 * v + s) r p), change.here)
      go false q false p = old (eqb-false v (i + 1) q)
        where
          old : (v ≡ i + 1 → ⊥) → v < get_or after (1021 + 3 * v + s) 0
          old m =
              let low : v ≤ i = omega arith in
              let same = change.kept (1021 + 3 * v + s) (omega arith) (eqb-false (1021 + 3 * v + s) r p) in
              omega (arith, same, tree.rises v s a low t (λ z. n (same ∙ z)))

  pub tree_on : r < 1024 + 3 * i → Tree after (i + 1)
  tree_on small = record { few = few_on small; rises = rises_on }
