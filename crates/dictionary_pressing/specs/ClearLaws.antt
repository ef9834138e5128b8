-- Clearing a level's heads, at once or one after the other. It touches neither what stands before the level nor its items, so that
-- linking comes to the same.
use Rattle.std.specs.Prelude.{◌≡◌, refl, ℕ, zero, suc, ◌+◌, ◌*◌, ◌≤◌, ◌<◌, length, get_or, set, take}
use Rattle.std.proofs.Math.Path.{sym, ap}
use Rattle.std.proofs.Common.{◌∙◌, add-one, take-append-drop, drop-cons, get_or-drop, take-suc-set, drop-set-lt}
use mathlib.Core.List.{List, [], ◌∷◌, ◌++◌, append_assoc}
use native.Mathlib.Omega.{arith}
use Rattle.std.proofs.Math.ListN.{drop, replicate, length-append, length-replicate}
use Rattle.std.proofs.lemmas.List.{replicate-append-replicate}
use Rattle.std.proofs.Math.Seq.{length-take-le, drop-drop, take_at, drop_at, append_snoc}
use Rattle.dictionary_tables_rules.specs.Table.{heads_for, tag_at}
use Rattle.dictionary_tables_rules.specs.Laid.{part_size}
use Rattle.dictionary_pressing.specs.Linking.{own_at, owns_from, items_start, cleared, linked}
use Rattle.dictionary_pressing.specs.HeadLaws.{set_in}

-- what an item is depends on its words alone
get_behind : (t u : List ℕ) (at k : ℕ) → drop at t ≡ drop at u → get_or t (at + k) 0 ≡ get_or u (at + k) 0
get_behind t u at k e = sym (get_or-drop at t k 0) ∙ ap (λ (l : List ℕ). get_or l k 0) e ∙ get_or-drop at u k 0

pub owns_same : (t u : List ℕ) (at left : ℕ) → drop at t ≡ drop at u → owns_from t at left ≡ owns_from u at left
unfolding owns_from own_at tag_at
owns_same t u at zero e = refl
owns_same t u at (suc left) e =
    let z : at + 0 ≡ at = omega arith in
    let a : get_or t at 0 ≡ get_or u at 0 = rw z at (get_behind t u at 0 e) in
    let d : drop (at + 5) t ≡ drop (at + 5) u = sym (drop-drop 5 at t) ∙ ap (λ (l : List ℕ). drop 5 l) e ∙ drop-drop 5 at u in
    rw (a, get_behind t u at 1 e, get_behind t u at 2 e, get_behind t u at 3 e, owns_same t u (at + 5) left d)

-- what a level becomes depends on what stands before it and on its items
pub linked-same : (t u : List ℕ) (level count : ℕ) → take level t ≡ take level u → drop (items_start level count) t ≡ drop (items_start level count) u →
    linked t level count ≡ linked u level count
unfolding linked
linked-same t u level count p e =
    let n : items_start level count + 5 * count ≡ level + part_size count = (unfold items_start part_size in omega arith) in
    let d : drop (items_start level count + 5 * count) t ≡
    drop (items_start level count + 5 * count) u = sym (drop-drop (5 * count) (items_start level count) t) ∙ ap (λ (l : List ℕ). drop (5 * count) l) e
    ∙ drop-drop (5 * count) (items_start level count) u in
    rw (p, owns_same t u (items_start level count) count e, rw n at d)

pub cleared-same : (t u : List ℕ) (level count : ℕ) → take level t ≡ take level u → drop (items_start level count) t ≡ drop (items_start level count) u →
    cleared t level count ≡ cleared u level count
unfolding cleared
cleared-same t u level count p e = rw (p, e)

module _ (table : List ℕ) (level count : ℕ) (room : level + part_size count ≤ length table) where
  cleared-front : take level (cleared table level count) ≡ take level table
  unfolding cleared
  cleared-front = take_at (take level table) (count ∷ (replicate (heads_for count) 0 ++ drop (items_start level count) table)) level
      (length-take-le level table (omega arith))

  cleared-items : drop (items_start level count) (cleared table level count) ≡ drop (items_start level count) table
  unfolding cleared
  cleared-items =
      ap (λ (l : List ℕ). drop (items_start level count) l)
      (sym (append_assoc (take level table) (count ∷ replicate (heads_for count) 0) (drop (items_start level count) table)))
      ∙ drop_at (take level table ++ (count ∷ replicate (heads_for count) 0)) (drop (items_start level count) table) (items_start level count)
      (unfold items_start in omega (
        arith,
        length-append (take level table) (count ∷ replicate (heads_for count) 0),
        length-take-le level table (omega arith),
        length-replicate {A = ℕ} (heads_for count) 0,
      ))

  pub clear_again : cleared (cleared table level count) level count ≡ cleared table level count
  clear_again = cleared-same (cleared table level count) table level count cleared-front cleared-items

  pub clear_linked : linked (cleared table level count) level count ≡ linked table level count
  clear_linked = linked-same (cleared table level count) table level count cleared-front cleared-items

-- the first so many heads are clear
unfoldable pub cleared_to : List ℕ → ℕ → ℕ → List ℕ
cleared_to table level i = take (level + 1) table ++ (replicate i 0 ++ drop (level + 1 + i) table)

pub clear_none : (table : List ℕ) (level : ℕ) → table ≡ cleared_to table level 0
unfolding cleared_to
clear_none table level = let z : level + 1 + 0 ≡ level + 1 = omega arith in rw z (sym (take-append-drop (level + 1) table))

pub clear_on : (table : List ℕ) (level i : ℕ) → level + 1 + i < length table → set (cleared_to table level i) (level + 1 + i) 0 ≡ cleared_to table level (i + 1)
unfolding cleared_to
clear_on table level i h =
    let front : length (take (level + 1) table) ≡ level + 1 = length-take-le (level + 1) table (omega arith) in
    let n : level + 1 + (i + 1) ≡ suc (level + 1 + i) = omega arith in
    rw (n, drop-cons table (level + 1 + i) 0 h)
    (set_in (take (level + 1) table) (replicate i 0) (get_or table (level + 1 + i) 0) (drop (suc (level + 1 + i)) table) 0 (level + 1 + i)
    (omega (arith, length-replicate {A = ℕ} i 0))
    ∙ ap (λ (l : List ℕ). take (level + 1) table ++ l) (sym (append_snoc (replicate i 0) 0 (drop (suc (level + 1 + i)) table))
    ∙ ap (λ (l : List ℕ). l ++ drop (suc (level + 1 + i)) table) (replicate-append-replicate {A = ℕ} i 1 0)))

pub clear_all : (table : List ℕ) (level count : ℕ) → level < length table →
    cleared_to (set table level count) level (heads_for count) ≡ cleared table level count
unfolding cleared_to cleared items_start
clear_all table level count h =
    rw (add-one level, take-suc-set table level count h, drop-set-lt (suc level + heads_for count) table level count (omega arith))
    (append_assoc (take level table) (count ∷ []) (replicate (heads_for count) 0 ++ drop (suc level + heads_for count) table))
