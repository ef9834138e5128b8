-- The laws of looking a table up: one for each way that the look goes, and what is known of a table that was found.
use Rattle.std.specs.Prelude.{◌≡◌, refl, Bool, true, false, List, ℕ, ◌+◌, ◌/◌, ◌≤◌, ◌<◌, length, get_or, eqb, leb, ltb}
use Rattle.std.proofs.Common.{ap, sym, ◌∙◌, arith, Some, None}
use borrow.Author.Tests.{eqb-true, eqb-false, leb-true, leb-false, ltb-true, ltb-false, eq-eqb, ne_eqb, le-leb, lt-leb, lt-ltb, le-ltb}
use Rattle.dictionary_directory.specs.Directory.{longest, directory_words, tags_slot, tags_place, block_at, kept_in, kept_at, tags_at}

module _ (tables : List ℕ) (place : ℕ) where
  pub kept-short : length tables < directory_words → kept_at tables place ≡ None
  unfolding kept_at
  kept-short h = rw (lt-ltb _ _ h)

  pub kept-beyond : directory_words ≤ length tables → longest ≤ place → kept_at tables place ≡ None
  unfolding kept_at
  kept-beyond l h = rw (le-ltb _ _ l, le-leb _ _ h)

  pub kept_near : directory_words ≤ length tables → place < longest → kept_at tables place ≡ kept_in tables place (block_at tables (place / 4))
  unfolding kept_at
  kept_near l h = rw (le-ltb _ _ l, lt-leb _ _ h)

module _ (tables : List ℕ) (number : ℕ) where
  pub tags-short : length tables < directory_words → tags_at tables number ≡ None
  unfolding tags_at
  tags-short h = rw (lt-ltb _ _ h)

  pub tags-beyond : directory_words ≤ length tables → 1 < number → tags_at tables number ≡ None
  unfolding tags_at
  tags-beyond l h = rw (le-ltb _ _ l, lt-ltb _ _ h)

  pub tags_near : directory_words ≤ length tables → number ≤ 1 → tags_at tables number ≡ kept_in tables (tags_place number) (block_at tables (tags_slot number))
  unfolding tags_at
  tags_near l h = rw (le-ltb _ _ l, le-ltb _ _ h)

module _ (tables : List ℕ) (place block : ℕ) where
  pub block_none : block ≡ 0 → kept_in tables place block ≡ None
  unfolding kept_in
  block_none e = rw (eq-eqb _ _ e)

  module _ (some : block ≡ 0 → ⊥) where
    pub block_cut : length tables < block + 2 → kept_in tables place block ≡ None
    unfolding kept_in
    block_cut h = rw (ne_eqb _ _ some, lt-ltb _ _ h)

    module _ (stands : block + 2 ≤ length tables) where
      pub block_other : (get_or tables (block + 1) 0 ≡ place → ⊥) → kept_in tables place block ≡ None
      unfolding kept_in
      block_other n = rw (ne_eqb _ _ some, le-ltb _ _ stands, ne_eqb _ _ n)

      module _ (says : get_or tables (block + 1) 0 ≡ place) where
        pub block_long : length tables < block + 2 + get_or tables block 0 → kept_in tables place block ≡ None
        unfolding kept_in
        block_long h = rw (ne_eqb _ _ some, le-ltb _ _ stands, eq-eqb _ _ says, lt-ltb _ _ h)

        pub block_found : block + 2 + get_or tables block 0 ≤ length tables → kept_in tables place block ≡ Some ((block + 2), (get_or tables block 0))
        unfolding kept_in
        block_found h = rw (ne_eqb _ _ some, le-ltb _ _ stands, eq-eqb _ _ says, le-ltb _ _ h)

-- a table that a word of the directory led to: its block says the place, and lies in the words
pub record Found (tables : List ℕ) (slot place from size : ℕ) : Type 0 where
  pub some : block_at tables slot ≡ 0 → ⊥
  pub says : get_or tables (block_at tables slot + 1) 0 ≡ place
  pub starts : from ≡ block_at tables slot + 2
  pub counts : size ≡ get_or tables (block_at tables slot) 0
  pub lies : from + size ≤ length tables

in_found : (tables : List ℕ) (slot place from size : ℕ) → kept_in tables place (block_at tables slot) ≡ Some (from, size) → Found tables slot place from size
in_found tables slot place from size e = by_block (eqb block 0) refl
  where
    block : ℕ
    block = block_at tables slot

    none : {A : Type 0} → kept_in tables place block ≡ None → A
    none n = let z : ◌≡◌ {A = ℕ} 0 1 = cc in absurd (omega arith)

    by_size : (block ≡ 0 → ⊥) → block + 2 ≤ length tables → get_or tables (block + 1) 0 ≡ place →
        (b : Bool) → ltb (length tables) (block + 2 + get_or tables block 0) ≡ b → Found tables slot place from size
    by_size s t p true q = none (block_long tables place block s t p (ltb-true _ _ q))
    by_size s t p false q =
        let found = block_found tables place block s t p (ltb-false _ _ q) in
        let both : ◌≡◌ {A = ℕ × ℕ} (from, size) (block + 2, get_or tables block 0) = cc in
        let starts : from ≡ block + 2 = ap (λ (kept : ℕ × ℕ). kept.0) both in
        let counts : size ≡ get_or tables block 0 = ap (λ (kept : ℕ × ℕ). kept.1) both in
        let lies : block + 2 + get_or tables block 0 ≤ length tables = ltb-false _ _ q in
        record { some = s; says = p; starts = starts; counts = counts; lies = omega arith }

    by_place : (block ≡ 0 → ⊥) → block + 2 ≤ length tables →
        (b : Bool) → eqb (get_or tables (block + 1) 0) place ≡ b → Found tables slot place from size
    by_place s t true q = by_size s t (eqb-true _ _ q) (ltb (length tables) (block + 2 + get_or tables block 0)) refl
    by_place s t false q = none (block_other tables place block s t (eqb-false _ _ q))

    by_cut : (block ≡ 0 → ⊥) → (b : Bool) → ltb (length tables) (block + 2) ≡ b → Found tables slot place from size
    by_cut s true q = none (block_cut tables place block s (ltb-true _ _ q))
    by_cut s false q = by_place s (ltb-false _ _ q) (eqb (get_or tables (block + 1) 0) place) refl

    by_block : (b : Bool) → eqb block 0 ≡ b → Found tables slot place from size
    by_block true q = none (block_none tables place block (eqb-true _ _ q))
    by_block false q = by_cut (eqb-false _ _ q) (ltb (length tables) (block + 2)) refl

-- a message's
pub kept-found : (tables : List ℕ) (place from size : ℕ) → kept_at tables place ≡ Some (from, size) →
    (place < longest) × Found tables (place / 4) place from size
kept-found tables place from size e = by_length (ltb (length tables) directory_words) refl
  where
    none : {A : Type 0} → kept_at tables place ≡ None → A
    none n = let z : ◌≡◌ {A = ℕ} 0 1 = cc in absurd (omega arith)

    by_near : directory_words ≤ length tables → (b : Bool) → leb longest place ≡ b → (place < longest) × Found tables (place / 4) place from size
    by_near l true q = none (kept-beyond tables place l (leb-true _ _ q))
    by_near l false q = let near = leb-false _ _ q in (near, in_found tables (place / 4) place from size (sym (kept_near tables place l near) ∙ e))

    by_length : (b : Bool) → ltb (length tables) directory_words ≡ b → (place < longest) × Found tables (place / 4) place from size
    by_length true q = none (kept-short tables place (ltb-true _ _ q))
    by_length false q = by_near (ltb-false _ _ q) (leb longest place) refl

-- that of the header's tags or of the trailer's
pub found-tags : (tables : List ℕ) (number from size : ℕ) → tags_at tables number ≡ Some (from, size) →
    (number ≤ 1) × Found tables (tags_slot number) (tags_place number) from size
found-tags tables number from size e = by_length (ltb (length tables) directory_words) refl
  where
    none : {A : Type 0} → tags_at tables number ≡ None → A
    none n = let z : ◌≡◌ {A = ℕ} 0 1 = cc in absurd (omega arith)

    by_near : directory_words ≤ length tables → (b : Bool) → ltb 1 number ≡ b → (number ≤ 1) × Found tables (tags_slot number) (tags_place number) from size
    by_near l true q = none (tags-beyond tables number l (ltb-true _ _ q))
    by_near l false q =
        let near = ltb-false _ _ q in
        (near, in_found tables (tags_slot number) (tags_place number) from size (sym (tags_near tables number l near) ∙ e))

    by_length : (b : Bool) → ltb (length tables) directory_words ≡ b → (number ≤ 1) × Found tables (tags_slot number) (tags_place number) from size
    by_length true q = none (tags-short tables number (ltb-true _ _ q))
    by_length false q = by_near (ltb-false _ _ q) (ltb 1 number) refl
