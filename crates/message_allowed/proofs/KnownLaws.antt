-- The table keeps what it says: at the start, and with each row that is allowed.
use Rattle.std.specs.Prelude.{◌≡◌, ◌⊎◌, Bool, List, ℕ, ◌+◌, ◌-◌, ◌*◌, ◌/◌, ◌%◌, ◌≤◌, ◌<◌, length, set, replicate, eqb, leb}
use Rattle.std.proofs.Math.Path.{refl, ap, subst}
use Rattle.std.proofs.Common.{sym, ◌∙◌, arith, get_or-set_same, get_or-set_other}
use Rattle.std.proofs.Math.Bool.{true, false}
use Rattle.std.proofs.Math.ListN.{get_or, length-set}
use Rattle.std.proofs.lemmas.List.{get_or-replicate}
use Rattle.std.proofs.Math.Dec.{ltb}
use borrow.Author.Tests.{eq-eqb, eqb-true, eqb-false, ltb-true, ltb-false}
use Rattle.field_rules.specs.Choice.{pick}
use Rattle.message_maps.specs.Rows.{Row, row, row_at, rows_before, level_of}
use Rattle.message_lent_rules.specs.Lent.{row_allowed, field_allowed, head_allowed, deepest}
use Rattle.message_allowed.specs.Distinct.{tagged, opened, latest, reach}
use Rattle.message_allowed.specs.RowLaws.{before-length, before-next, latest-here, latest-on}
use Rattle.message_allowed.specs.Branch.{bucket_of, rest_of, reached, cell_of, Tree, tag_of, Sized, Known, grown}
use Rattle.message_allowed.specs.BranchLaws.{Link, bucket_link, branch_link, reached-stop, reached_hit, reached-on, Empty, Found, enough}
use Rattle.message_allowed.specs.BranchLaws.{reached_bounds, outcome, Changed, found_mine, found-other, tree_on}

pub bucket_few : (level tag : ℕ) → bucket_of level tag < 1024
unfolding bucket_of
bucket_few level tag = omega arith

pub tagged-same : (level tag : ℕ) (r : Row) → tagged level tag r ≡ true → (level ≡ level_of r) × (tag ≡ tag_of r)
unfolding tagged level_of tag_of
tagged-same level tag (row k l t x) h = go (eqb t tag) refl (eqb l level) refl
  where
    go : (a : Bool) → eqb t tag ≡ a → (b : Bool) → eqb l level ≡ b → (level ≡ l) × (tag ≡ t)
    go true p true q = (sym (eqb-true l level q), sym (eqb-true t tag p))
    go true p false q = let n : ◌≡◌ {A = Bool} false true = rw (p, q) at h in let z : ◌≡◌ {A = ℕ} 0 1 = cc in absurd (omega arith)
    go false p b q = let n : ◌≡◌ {A = Bool} false true = rw p at h in let z : ◌≡◌ {A = ℕ} 0 1 = cc in absurd (omega arith)

-- a row that is allowed is a field or a head
pub allowed_tagged : (before : List Row) (r : Row) → row_allowed before r ≡ true → tagged (level_of r) (tag_of r) r ≡ true
unfolding row_allowed tagged level_of tag_of
allowed_tagged before (row k l t x) h =
    rw (eq-eqb t t refl, eq-eqb l l refl) (go (leb l (deepest before)) (eqb k 1) (eqb k 2) (field_allowed before l t) (head_allowed before l t x) h)
  where
    go : (a b c f g : Bool) → pick a (pick b f (pick c g false)) false ≡ true → pick b true c ≡ true
    go a true c f g e = refl
    go a false true f g e = refl
    go true false false f g e = let z : ◌≡◌ {A = ℕ} 0 1 = cc in absurd (omega arith)
    go false false false f g e = let z : ◌≡◌ {A = ℕ} 0 1 = cc in absurd (omega arith)

module _ (words : List ℕ) (i : ℕ) (table : List ℕ) (tree : Tree table i) (few : i ≤ 2051) (level tag : ℕ) where
  start : Link table i 0 (bucket_of level tag)
  start = bucket_link table i tree (bucket_of level tag) (bucket_few level tag)

  pub cell_small : cell_of table words level tag < 1024 + 3 * i
  unfolding cell_of
  cell_small = (reached_bounds table words i tree level tag 2051 0 (bucket_of level tag) (rest_of level tag) start).1

-- a table of zeros knows no row
module _ (words : List ℕ) (n tops : ℕ) (low : 1024 ≤ tops) (high : tops < n) where
  blank : (k : ℕ) → k < n → get_or {A = ℕ} (replicate n 0) k 0 ≡ 0
  blank k h = get_or-replicate {A = ℕ} n k 0 0 h

  pub known-none : Known words 0 tops (replicate n 0)
  unfolding rows_before latest opened reach cell_of
  known-none =
      record {
        finds =
            λ level tag. let none =
            blank (bucket_of level tag) (omega (arith, bucket_few level tag)) in
            ap (λ (k : ℕ). get_or (replicate n 0) k 0) (reached-stop 2051 (replicate n 0) words level tag (bucket_of level tag) (rest_of level tag) none)
            ∙ none;
        tree = record { few = λ k h. omega (arith, blank k (omega arith)); rises = λ v s a b t n. absurd (omega arith) };
        opens = λ l h. blank (tops + l) (omega arith);
        near = omega arith;
      }

-- five words set apart from each other
module _ (table : List ℕ) (a b c d e x : ℕ) where
  at_other : (k : ℕ) → (k ≡ a → ⊥) → (k ≡ b → ⊥) → (k ≡ c → ⊥) → (k ≡ d → ⊥) → (k ≡ e → ⊥)
      → get_or (set (set (set (set (set table a x) b 0) c 0) d x) e x) k 0 ≡ get_or table k 0
  at_other k p q r s t =
      get_or-set_other (set (set (set (set table a x) b 0) c 0) d x) e k x 0 t
      ∙ get_or-set_other (set (set (set table a x) b 0) c 0) d k x 0 s
      ∙ get_or-set_other (set (set table a x) b 0) c k 0 0 r
      ∙ get_or-set_other (set table a x) b k 0 0 q
      ∙ get_or-set_other table a k x 0 p

  at_a : a < length table → (a ≡ b → ⊥) → (a ≡ c → ⊥) → (a ≡ d → ⊥) → (a ≡ e → ⊥) → get_or (set (set (set (set (set table a x) b 0) c 0) d x) e x) a 0 ≡ x
  at_a h q r s t =
      get_or-set_other (set (set (set (set table a x) b 0) c 0) d x) e a x 0 t
      ∙ get_or-set_other (set (set (set table a x) b 0) c 0) d a x 0 s
      ∙ get_or-set_other (set (set table a x) b 0) c a 0 0 r
      ∙ get_or-set_other (set table a x) b a 0 0 q
      ∙ get_or-set_same table a x 0 h

  at_b : b < length table → (b ≡ c → ⊥) → (b ≡ d → ⊥) → (b ≡ e → ⊥) → get_or (set (set (set (set (set table a x) b 0) c 0) d x) e x) b 0 ≡ 0
  at_b h r s t =
      get_or-set_other (set (set (set (set table a x) b 0) c 0) d x) e b x 0 t
      ∙ get_or-set_other (set (set (set table a x) b 0) c 0) d b x 0 s
      ∙ get_or-set_other (set (set table a x) b 0) c b 0 0 r
      ∙ get_or-set_same (set table a x) b 0 0 (simp length-set h)

  at_c : c < length table → (c ≡ d → ⊥) → (c ≡ e → ⊥) → get_or (set (set (set (set (set table a x) b 0) c 0) d x) e x) c 0 ≡ 0
  at_c h s t =
      get_or-set_other (set (set (set (set table a x) b 0) c 0) d x) e c x 0 t
      ∙ get_or-set_other (set (set (set table a x) b 0) c 0) d c x 0 s
      ∙ get_or-set_same (set (set table a x) b 0) c 0 0 (simp length-set h)

  at_d : d < length table → (d ≡ e → ⊥) → get_or (set (set (set (set (set table a x) b 0) c 0) d x) e x) d 0 ≡ x
  at_d h t =
      get_or-set_other (set (set (set (set table a x) b 0) c 0) d x) e d x 0 t
      ∙ get_or-set_same (set (set (set table a x) b 0) c 0) d x 0 (simp length-set h)

  at_e : e < length table → get_or (set (set (set (set (set table a x) b 0) c 0) d x) e x) e 0 ≡ x
  at_e h = get_or-set_same (set (set (set (set table a x) b 0) c 0) d x) e x 0 (simp length-set h)

module _ (words : List ℕ) (i tops r : ℕ) (table : List ℕ) (few : i < 2051) (size : Sized table tops i) (deep : level_of (row_at words i) ≤ i)
    (small : r < 1024 + 3 * i) where
  pub grown-length : length (grown words i tops r table) ≡ length table
  unfolding grown
  grown-length = simp length-set

  changed : Changed table (grown words i tops r table) i r
  unfolding grown
  changed =
      record {
        kept =
            λ k h n. at_other table r (1024 + 3 * i) (1024 + 3 * i + 1) (1024 + 3 * i + 2) (tops + 1 + level_of (row_at words i)) (i + 1) k n (λ e. omega arith)
            (λ e. omega arith) (λ e. omega arith) (λ e. omega arith);
        here =
            at_a table r (1024 + 3 * i) (1024 + 3 * i + 1) (1024 + 3 * i + 2) (tops + 1 + level_of (row_at words i)) (i + 1) (omega arith) (λ e. omega arith)
            (λ e. omega arith) (λ e. omega arith) (λ e. omega arith);
        bare = bare;
        own = own;
      }
    where
      left : get_or (set (set (set (set (set table r (i + 1)) (1024 + 3 * i) 0) (1024 + 3 * i + 1) 0) (1024 + 3 * i + 2) (i + 1))
          (tops + 1 + level_of (row_at words i)) (i + 1)) (1024 + 3 * i) 0 ≡ 0
      left =
          at_b table r (1024 + 3 * i) (1024 + 3 * i + 1) (1024 + 3 * i + 2) (tops + 1 + level_of (row_at words i)) (i + 1) (omega arith) (λ e. omega arith)
          (λ e. omega arith) (λ e. omega arith)

      right : get_or (set (set (set (set (set table r (i + 1)) (1024 + 3 * i) 0) (1024 + 3 * i + 1) 0) (1024 + 3 * i + 2) (i + 1))
          (tops + 1 + level_of (row_at words i)) (i + 1)) (1024 + 3 * i + 1) 0 ≡ 0
      right =
          at_c table r (1024 + 3 * i) (1024 + 3 * i + 1) (1024 + 3 * i + 2) (tops + 1 + level_of (row_at words i)) (i + 1) (omega arith) (λ e. omega arith)
          (λ e. omega arith)

      bare : (s : ℕ) → s < 2
          → get_or (set (set (set (set (set table r (i + 1)) (1024 + 3 * i) 0) (1024 + 3 * i + 1) 0) (1024 + 3 * i + 2) (i + 1))
          (tops + 1 + level_of (row_at words i)) (i + 1)) (1021 + 3 * (i + 1) + s) 0 ≡ 0
      bare s h = go (eqb s 0) refl
        where
          go : (b : Bool) → eqb s 0 ≡ b
              → get_or (set (set (set (set (set table r (i + 1)) (1024 + 3 * i) 0) (1024 + 3 * i + 1) 0) (1024 + 3 * i + 2) (i + 1))
              (tops + 1 + level_of (row_at words i)) (i + 1)) (1021 + 3 * (i + 1) + s) 0 ≡ 0
          go true q = let e : 1021 + 3 * (i + 1) + s ≡ 1024 + 3 * i = omega (arith, eqb-true s 0 q) in rw e left
          go false q = one (eqb-false s 0 q)
            where
              one : (s ≡ 0 → ⊥)
                  → get_or (set (set (set (set (set table r (i + 1)) (1024 + 3 * i) 0) (1024 + 3 * i + 1) 0) (1024 + 3 * i + 2) (i + 1))
                  (tops + 1 + level_of (row_at words i)) (i + 1)) (1021 + 3 * (i + 1) + s) 0 ≡ 0
              one n = let e : 1021 + 3 * (i + 1) + s ≡ 1024 + 3 * i + 1 = omega arith in rw e right

      own : get_or (set (set (set (set (set table r (i + 1)) (1024 + 3 * i) 0) (1024 + 3 * i + 1) 0) (1024 + 3 * i + 2) (i + 1))
          (tops + 1 + level_of (row_at words i)) (i + 1)) (1023 + 3 * (i + 1)) 0 ≡ i + 1
      own =
          let e : 1023 + 3 * (i + 1) ≡ 1024 + 3 * i + 2 = omega arith in
          rw e (at_d table r (1024 + 3 * i) (1024 + 3 * i + 1) (1024 + 3 * i + 2) (tops + 1 + level_of (row_at words i)) (i + 1) (omega arith)
          (λ e. omega arith))

  module _ (known : Known words i tops table) (inside : level_of (row_at words i) ≤ reach (rows_before i words))
      (mine : tagged (level_of (row_at words i)) (tag_of (row_at words i)) (row_at words i) ≡ true)
      (found : r ≡ cell_of table words (level_of (row_at words i)) (tag_of (row_at words i))) where
    -- one step fewer is enough for the rows before
    fewer : (level tag : ℕ) → cell_of table words level tag ≡ reached 2050 table words level tag (bucket_of level tag) (rest_of level tag)
    unfolding cell_of
    fewer level tag =
        enough table words i known.tree level tag 2051 2050 0 (bucket_of level tag) (rest_of level tag)
        (start words i table known.tree (omega arith) level tag) (omega arith) (omega arith)

    finds_on : (level tag : ℕ)
        → get_or (grown words i tops r table) (cell_of (grown words i tops r table) words level tag) 0 ≡ latest level tag (rows_before (i + 1) words)
    unfolding cell_of
    finds_on level tag = go (tagged level tag (row_at words i)) refl
      where
        own-start : Link table i 0 (bucket_of level tag)
        own-start = start words i table known.tree (omega arith) level tag

        go : (t : Bool) → tagged level tag (row_at words i) ≡ t
            → get_or (grown words i tops r table) (reached 2051 (grown words i tops r table) words level tag (bucket_of level tag) (rest_of level tag)) 0
            ≡ latest level tag (rows_before (i + 1) words)
        go true p =
            let s = tagged-same level tag (row_at words i) p in
            let at : reached 2050 table words level tag (bucket_of level tag) (rest_of level tag) ≡ r =
            sym (found ∙ ap (λ (l : ℕ). cell_of table words l (tag_of (row_at words i))) (sym s.0) ∙ ap (cell_of table words level) (sym s.1)
            ∙ fewer level tag) in
            found_mine table (grown words i tops r table) words i r known.tree changed level tag p 2050 0 (bucket_of level tag) (rest_of level tag) own-start
            (omega arith) at
            ∙ sym (latest-here words level tag i p)
        go false p =
            found-other table (grown words i tops r table) words i r known.tree changed level tag (level_of (row_at words i))
            (tag_of (row_at words i)) p apart out 2050 0 (bucket_of level tag) (rest_of level tag) own-start (omega arith)
            ∙ sym (ap (λ (k : ℕ). get_or table k 0) (fewer level tag))
            ∙ known.finds level tag
            ∙ sym (latest-on words level tag i p)
          where
            apart : (k : ℕ) → tagged level tag (row_at words k) ≡ true → tagged (level_of (row_at words i)) (tag_of (row_at words i)) (row_at words k) ≡ true → ⊥
            apart k a b =
                let s = tagged-same level tag (row_at words k) a in
                let t = tagged-same (level_of (row_at words i)) (tag_of (row_at words i)) (row_at words k) b in
                let e : tagged level tag (row_at words i) ≡ true = rw (s.0 ∙ sym t.0, s.1 ∙ sym t.1) mine in
                let n : ◌≡◌ {A = Bool} false true = sym p ∙ e in
                let z : ◌≡◌ {A = ℕ} 0 1 = cc in absurd (omega arith)

            out : Empty table r ⊎ Found words (level_of (row_at words i)) (tag_of (row_at words i)) r
            out =
                rw (sym found) at (outcome table words i known.tree (level_of (row_at words i)) (tag_of (row_at words i)) 2051 0
                (bucket_of (level_of (row_at words i)) (tag_of (row_at words i))) (rest_of (level_of (row_at words i)) (tag_of (row_at words i)))
                (start words i table known.tree (omega arith) (level_of (row_at words i)) (tag_of (row_at words i))) (omega arith))

    opens-on : (l : ℕ) → l ≤ reach (rows_before (i + 1) words) → get_or (grown words i tops r table) (tops + l) 0 ≡ opened l (rows_before (i + 1) words)
    unfolding opened reach grown
    opens-on l h = rw (before-next words i, before-length i words) (go (ltb (level_of (row_at words i)) l) refl (rw (before-next words i) at h))
      where
        go : (t : Bool) → ltb (level_of (row_at words i)) l ≡ t → l ≤ level_of (row_at words i) + 1
            → get_or (set (set (set (set (set table r (i + 1)) (1024 + 3 * i) 0) (1024 + 3 * i + 1) 0) (1024 + 3 * i + 2) (i + 1))
            (tops + 1 + level_of (row_at words i)) (i + 1)) (tops + l) 0 ≡ pick t (i + 1) (opened l (rows_before i words))
        go true q most =
            let e : tops + l ≡ tops + 1 + level_of (row_at words i) = omega (arith, ltb-true (level_of (row_at words i)) l q) in
            rw e (at_e table r (1024 + 3 * i) (1024 + 3 * i + 1) (1024 + 3 * i + 2) (tops + 1 + level_of (row_at words i)) (i + 1) (omega arith))
        go false q most =
            let low = ltb-false (level_of (row_at words i)) l q in
            at_other table r (1024 + 3 * i) (1024 + 3 * i + 1) (1024 + 3 * i + 2) (tops + 1 + level_of (row_at words i)) (i + 1) (tops + l) (λ e. omega arith)
            (λ e. omega arith) (λ e. omega arith) (λ e. omega arith) (λ e. omega (arith, low))
            ∙ known.opens l (omega (arith, low, inside))

    near_on : reach (rows_before (i + 1) words) ≤ i + 1
    unfolding reach
    near_on = rw (before-next words i) (omega arith)

    pub known_on : Known words (i + 1) tops (grown words i tops r table)
    known_on =
        record { finds = finds_on; tree = tree_on table (grown words i tops r table) words i r known.tree changed small; opens = opens-on; near = near_on }

-- on the way to the word of a level and tag
pub record Way (table words : List ℕ) (i level tag cell rest : ℕ) : Type 0 where
  pub link : Link table i ((cell - 1021) / 3) cell
  pub same : cell_of table words level tag ≡ reached 2051 table words level tag cell rest

module _ (table words : List ℕ) (i level tag : ℕ) (tree : Tree table i) (few : i ≤ 2051) where
  pub way_start : (cell rest : ℕ) → cell ≡ bucket_of level tag → rest ≡ rest_of level tag → Way table words i level tag cell rest
  unfolding cell_of
  way_start cell rest e g =
      let low = bucket_few level tag in
      let h : 0 ≡ (bucket_of level tag - 1021) / 3 = omega (arith, low) in
      rw (e, g) (record { link = subst (λ (n : ℕ). Link table i n (bucket_of level tag)) h (bucket_link table i tree (bucket_of level tag) low); same = refl })

  module _ (cell rest v : ℕ) (way : Way table words i level tag cell rest) (value : v ≡ get_or table cell 0) where
    pub way_end : v ≡ 0 → cell_of table words level tag ≡ cell
    way_end e = way.same ∙ reached-stop 2051 table words level tag cell rest (sym value ∙ e)

    pub way_small : cell < 1024 + 3 * i
    way_small = omega (arith, way.link.low, way.link.old)

    pub way_few : v ≤ i
    way_few = omega (arith, value, way.link.few)

    module _ (some : v ≡ 0 → ⊥) where
      pub way_rise : (cell < 1021 + 3 * v) × (v ≤ i)
      way_rise =
          let up = way.link.rise (λ e. some (value ∙ e)) in
          (omega (arith, up, value, way.link.low), omega (arith, value, way.link.few))

      pub way_hit : tagged level tag (row_at words (v - 1)) ≡ true → cell_of table words level tag ≡ 1023 + 3 * v
      way_hit hit = way.same ∙ reached_hit 2050 table words level tag cell rest v (sym value) some hit

      pub way_on : tagged level tag (row_at words (v - 1)) ≡ false → Way table words i level tag (1021 + 3 * v + rest % 2) (rest / 2)
      way_on off =
          let up = way.link.rise (λ e. some (value ∙ e)) in
          let next : Link table i v (1021 + 3 * v + rest % 2) =
          branch_link table i tree v (rest % 2) (omega (arith, up, value)) (omega (arith, value, way.link.few)) (omega arith) in
          let h : v ≡ (1021 + 3 * v + rest % 2 - 1021) / 3 = omega arith in
          record {
            link = subst (λ (n : ℕ). Link table i n (1021 + 3 * v + rest % 2)) h next;
            same =
                way.same ∙ reached-on 2050 table words level tag cell rest v (sym value) some off
                ∙ enough table words i tree level tag 2050 2051 v (1021 + 3 * v + rest % 2) (rest / 2) next (omega (arith, up, value)) (omega arith);
          }
