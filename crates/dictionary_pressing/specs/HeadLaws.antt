-- The heads of a level: each tag has one, and the head of one item more moves to it while the others stay.
use Rattle.std.specs.Prelude.{◌≡◌, refl, List, [], ◌∷◌, ◌++◌, ℕ, zero, suc, ◌+◌, ◌%◌, ◌<◌, length, get_or, set, replicate}
use Rattle.std.proofs.Common.{sym, ap, ◌∙◌, append_assoc, arith, mod-lt, length-append, eq-eqb, ne_eqb}
use Rattle.std.proofs.lemmas.List.{set_at, set-append_left}
use Rattle.dictionary_tables_rules.specs.Table.{heads_for}
use Rattle.dictionary_tables_rules.proofs.TableLaws.{heads_bounds}
use Rattle.dictionary_tables_rules.specs.Laid.{Own, first_under, head_words}
use Rattle.dictionary_pressing.specs.Linking.{heads_since}

pub head_below : (count tag : ℕ) → tag % heads_for count < heads_for count
head_below count tag = mod-lt tag (omega (arith, (heads_bounds count).0))

pub heads-mod : (heads count tag : ℕ) → heads ≡ heads_for count → tag % heads < heads
heads-mod heads count tag e = rw e (head_below count tag)

-- heads that an item doesn't have
heads-same : (left heads head link : ℕ) (own : Own) (owns : List Own) → own.tag % heads < head →
    heads_since left heads head (link + 1) owns ≡ heads_since left heads head link (own ∷ owns)
unfolding heads_since first_under
heads-same zero heads head link own owns h = refl
heads-same (suc left) heads head link own owns h =
    rw (ne_eqb (own.tag % heads) head (λ e. omega arith), heads-same left heads (head + 1) link own owns (omega arith))

-- the item's head moves to it
pub heads-set : (left heads head link k : ℕ) (own : Own) (owns : List Own) → k < left → own.tag % heads ≡ head + k →
    set (heads_since left heads head (link + 1) owns) k link ≡ heads_since left heads head link (own ∷ owns)
unfolding heads_since first_under
heads-set zero heads head link k own owns h e = absurd (omega arith)
heads-set (suc left) heads head link zero own owns h e =
    rw (eq-eqb (own.tag % heads) head (omega arith), heads-same left heads (head + 1) link own owns (omega arith))
heads-set (suc left) heads head link (suc k) own owns h e =
    rw (ne_eqb (own.tag % heads) head (λ q. omega arith), heads-set left heads (head + 1) link k own owns (omega arith) (omega arith))

pub heads-length : (left heads head link : ℕ) (owns : List Own) → length (heads_since left heads head link owns) ≡ left
unfolding heads_since
heads-length zero heads head link owns = refl
heads-length (suc left) heads head link owns = rw (heads-length left heads (head + 1) link owns)

pub heads_get : (left heads head link k : ℕ) (owns : List Own) → k < left →
    get_or (heads_since left heads head link owns) k 0 ≡ first_under heads (head + k) link owns
unfolding heads_since
heads_get zero heads head link k owns h = absurd (omega arith)
heads_get (suc left) heads head link zero owns h = let e : head + 0 ≡ head = omega arith in rw e
heads_get (suc left) heads head link (suc k) owns h = let e : head + 1 + k ≡
    head + suc k = omega arith in heads_get left heads (head + 1) link k owns (omega arith) ∙ rw e

pub heads_clear : (left heads head link : ℕ) → heads_since left heads head link [] ≡ replicate left 0
unfolding heads_since first_under
heads_clear zero heads head link = refl
heads_clear (suc left) heads head link = rw (heads_clear left heads (head + 1) link)

pub heads-all : (left heads head : ℕ) (owns : List Own) → heads_since left heads head 1 owns ≡ head_words left heads head owns
unfolding heads_since head_words
heads-all zero heads head owns = refl
heads-all (suc left) heads head owns = rw (heads-all left heads (head + 1) owns)

-- stores behind what stands before them
set-behind : (x y : List ℕ) (k v : ℕ) → set (x ++ y) (length x + k) v ≡ x ++ set y k v
set-behind [] y k v = let e : 0 + k ≡ k = omega arith in rw e
set-behind (a ∷ x) y k v = let e : suc (length x) + k ≡ suc (length x + k) = omega arith in rw (e, set-behind x y k v)

pub set_in : (p mid : List ℕ) (y : ℕ) (ys : List ℕ) (a n : ℕ) → n ≡ length p + length mid → set (p ++ (mid ++ (y ∷ ys))) n a ≡ p ++ (mid ++ (a ∷ ys))
set_in p mid y ys a n e =
    ap (λ (l : List ℕ). set l n a) (sym (append_assoc p mid (y ∷ ys)))
    ∙ set_at (p ++ mid) y ys a n (length-append p mid ∙ sym e)
    ∙ append_assoc p mid (a ∷ ys)

-- the store into a head
pub set_head : (p hs rest : List ℕ) (w level k v : ℕ) → length p ≡ level → k < length hs →
    set (p ++ (w ∷ (hs ++ rest))) (level + 1 + k) v ≡ p ++ (w ∷ (set hs k v ++ rest))
set_head p hs rest w level k v e h =
    let n : level + 1 + k ≡ length (p ++ (w ∷ [])) + k = omega (arith, length-append p (w ∷ [])) in
    rw n (ap (λ (l : List ℕ). set l (length (p ++ (w ∷ [])) + k) v) (sym (append_assoc p (w ∷ []) (hs ++ rest)))
    ∙ set-behind (p ++ (w ∷ [])) (hs ++ rest) k v
    ∙ ap (λ (l : List ℕ). (p ++ (w ∷ [])) ++ l) (set-append_left hs rest k v h)
    ∙ append_assoc p (w ∷ []) (set hs k v ++ rest))
