-- No tag of a message of the standard stands twice outside groups: so in each part alone, with the fields that have places of their own.
use Rattle.std.specs.Prelude.{◌≡◌, refl, List, [], ◌∷◌, ◌++◌, ◌≢◌, ℕ}
use Rattle.standard_rules.specs.Standard.{Tables, NoCount, All, Told, Distinct, placed, Message}
use Rattle.standard_rules.proofs.StandardLaws.{tags, all_right, all_map, OpensNone, flat, distinct_behind, placed-nowhere}
use Rattle.promise_standard.specs.Groups.{tag_behind}
use Rattle.promise_standard.specs.GroupOwn.{Fresh, fresh-entry}

left-all : {P : ℕ → Type 0} (xs ys : List ℕ) → All P (xs ++ ys) → All P xs
left-all [] ys a = All.none
left-all (x ∷ xs) ys (All.also p a) = All.also p (left-all xs ys a)

right_all : {P : ℕ → Type 0} (xs ys : List ℕ) → All P (xs ++ ys) → All P ys
right_all [] ys a = a
right_all (x ∷ xs) ys (All.also p a) = right_all xs ys a

left_distinct : (xs ys : List ℕ) → Distinct (xs ++ ys) → Distinct xs
left_distinct [] ys d = Distinct.empty
left_distinct (x ∷ xs) ys (Distinct.fresh a d) = Distinct.fresh (left-all xs ys a) (left_distinct xs ys d)

without_ten : {ts : List ℕ} → Distinct (8 ∷ (9 ∷ (35 ∷ (10 ∷ ts)))) → Distinct (8 ∷ (9 ∷ (35 ∷ ts)))
without_ten (Distinct.fresh (All.also p (All.also q (All.also _ a))) (Distinct.fresh (All.also r (All.also _ b))
    (Distinct.fresh (All.also _ c) (Distinct.fresh _ d)))) =
    Distinct.fresh (All.also p (All.also q a)) (Distinct.fresh (All.also r b) (Distinct.fresh c d))

ten_first : {ts : List ℕ} → Distinct (8 ∷ (9 ∷ (35 ∷ (10 ∷ ts)))) → Distinct (10 ∷ ts)
ten_first (Distinct.fresh _ (Distinct.fresh _ (Distinct.fresh _ d))) = d

behind-first : (x : ℕ) (xs ys : List ℕ) → Distinct (x ∷ (xs ++ ys)) → Distinct (x ∷ ys)
behind-first x xs ys (Distinct.fresh a d) = Distinct.fresh (right_all xs ys a) (distinct_behind xs ys d)

opens-none : {T : Tables} {ts : List ℕ} → All (NoCount T) ts → All (OpensNone T) ts
opens-none a = all_map (λ t n. n.no_delimiter) a

module _ {T : Tables} {bytes : List ℕ} (m : Message T bytes) where
  -- 8, 9, 35 and the header's fields
  pub header-fresh : All (NoCount T) (tags m.header) → Fresh 0 0 (8 ∷ (9 ∷ (35 ∷ tags m.header))) []
  header-fresh plain =
      fresh-entry 0 _ [] (rw (← flat m.header_is (opens-none plain))
      (without_ten (left_distinct (8 ∷ (9 ∷ (35 ∷ (10 ∷ m.header_tags)))) (m.body-tags ++ m.trailer_tags) m.no_tag-twice.distinct)))

  -- the body's members
  pub body-fresh : Fresh 0 0 m.body-tags []
  body-fresh =
      fresh-entry 0 _ [] (left_distinct m.body-tags m.trailer_tags
      (distinct_behind m.header_tags (m.body-tags ++ m.trailer_tags) (distinct_behind placed _ m.no_tag-twice.distinct)))

  trailer_distinct : All (NoCount T) (tags m.trailer) → Distinct (10 ∷ tags m.trailer)
  trailer_distinct plain =
      rw (← flat m.trailer_is (opens-none plain)) (behind-first 10 m.body-tags m.trailer_tags
      (behind-first 10 m.header_tags (m.body-tags ++ m.trailer_tags) (ten_first m.no_tag-twice.distinct)))

  -- 10 and the trailer's fields
  pub trailer-fresh : All (NoCount T) (tags m.trailer) → Fresh 0 0 (10 ∷ tags m.trailer) []
  trailer-fresh plain = fresh-entry 0 _ [] (trailer_distinct plain)

  pub no_ten : All (λ t. t ≢ 10) (tags m.trailer)
  no_ten = all_right m.body m.trailer (all_right m.header (m.body ++ m.trailer) (placed-nowhere m 10 refl))

-- the tag behind a stretch and another is that behind the second, behind the first
pub behind-both : (next : ℕ) (fs gs : List Told) → tag_behind next (fs ++ gs) ≡ tag_behind (tag_behind next gs) fs
unfolding tag_behind
behind-both next [] gs = refl
behind-both next (f ∷ fs) gs = refl
