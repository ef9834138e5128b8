-- Following a chain of linked items: the first item of a chain that has the tag holds the tag's last group from there on, and an item passed over
-- has another tag.
use Rattle.std.specs.Prelude.{◌≡◌, ◌⊎◌, Bool, true, false, List, [], ◌∷◌, ◌++◌, ℕ, suc, ◌+◌, ◌-◌, ◌*◌, ◌%◌, ◌≤◌, ◌<◌, length, get_or, eqb}
use Rattle.std.proofs.Math.Path.{refl, ap}
use Rattle.std.proofs.Common.{sym, ◌∙◌, inl, inr, append_assoc, length-append, get_or-append-add, eq-eqb, ne_eqb, eqb-true}
use native.Mathlib.Omega.{arith}
use Rattle.std.proofs.lemmas.Bool.{eqb-false}
use Rattle.field_rules.specs.Choice.{pick}
use Rattle.dictionary_tables_rules.specs.Table.{tag_at}
use Rattle.dictionary_tables_rules.specs.Laid.{Own, first_under, last_group, item_words, items_words}
use Rattle.dictionary_tables_rules.proofs.PartLaws.{items_words-length}
use Rattle.dictionary_pressing.specs.Linking.{Chain}

-- the group so far goes on only where no later item of the tag has one
pub last_since : (sofar tag : ℕ) (owns : List Own) → last_group sofar tag owns ≡ pick (eqb (last_group 0 tag owns) 0) sofar (last_group 0 tag owns)
unfolding last_group
last_since sofar tag [] = refl
last_since sofar tag (own ∷ owns) =
    go (eqb own.tag tag) (eqb own.group 0) refl (λ s. last_since s tag owns)
  where
    go : (t g : Bool) → eqb own.group 0 ≡ g → ((s : ℕ) → last_group s tag owns ≡ pick (eqb (last_group 0 tag owns) 0) s (last_group 0 tag owns)) →
        last_group (pick t (pick g sofar own.group) sofar) tag owns ≡
        pick (eqb (last_group (pick t (pick g 0 own.group) 0) tag owns) 0) sofar (last_group (pick t (pick g 0 own.group) 0) tag owns)
    go false g e since = since sofar
    go true true e since = since sofar
    go true false e since = rw (since own.group) (by_last (eqb (last_group 0 tag owns) 0) refl)
      where
        by_last : (l : Bool) → eqb (last_group 0 tag owns) 0 ≡ l →
            pick l own.group (last_group 0 tag owns) ≡
            pick (eqb (pick l own.group (last_group 0 tag owns)) 0) sofar (pick l own.group (last_group 0 tag owns))
        by_last true k = rw e
        by_last false k = rw k

-- an item of another tag
pub last-other : (sofar tag : ℕ) (own : Own) (owns : List Own) → (own.tag ≡ tag → ⊥) → last_group sofar tag (own ∷ owns) ≡ last_group sofar tag owns
unfolding last_group
last-other sofar tag own owns d = rw (ne_eqb _ _ d)

-- an item's own group is the group so far
pub last-own : (own : Own) (owns : List Own) → last_group 0 own.tag (own ∷ owns) ≡ last_group own.group own.tag owns
unfolding last_group
last-own own owns = rw (eq-eqb own.tag own.tag refl) (go (eqb own.group 0) refl)
  where
    go : (g : Bool) → eqb own.group 0 ≡ g → last_group (pick g 0 own.group) own.tag owns ≡ last_group own.group own.tag owns
    go true e = ap (λ (s : ℕ). last_group s own.tag owns) (sym (eqb-true _ _ e))
    go false e = refl

-- and an item of the tag brings in what it has
last_hit : (sofar tag : ℕ) (own : Own) (owns : List Own) → own.tag ≡ tag →
    last_group sofar tag (own ∷ owns) ≡ pick (eqb (last_group 0 own.tag (own ∷ owns)) 0) sofar (last_group 0 own.tag (own ∷ owns))
last_hit sofar tag own owns e = last_since sofar tag (own ∷ owns) ∙ rw e

-- the item that a link leads to
pub record Seen (table : List ℕ) (start tag link : ℕ) (owns : List Own) : Type 0 where
  pub heads : ℕ
  pub place : ℕ
  pub own : Own
  pub later : List Own
  pub front : List ℕ
  pub back : List ℕ
  pub here : link ≡ place + 1
  pub whole : table ≡ front ++ (item_words heads (place + 1) own later ++ (items_words heads (place + 1 + 1) later ++ back))
  pub starts : length front ≡ start + 5 * place
  pub under : own.tag % heads ≡ tag % heads
  pub passed : (sofar : ℕ) → last_group sofar tag owns ≡ last_group sofar tag (own ∷ later)

seek : (table : List ℕ) (start tag heads place : ℕ) (owns : List Own) (front back : List ℕ) → table ≡ front ++ (items_words heads (place + 1) owns ++ back) →
    length front ≡ start + 5 * place →
    0 < first_under heads (tag % heads) (place + 1) owns → Seen table start tag (first_under heads (tag % heads) (place + 1) owns) owns
unfolding first_under items_words
seek table start tag heads place [] front back whole starts h = absurd (omega arith)
seek table start tag heads place (own ∷ owns) front back whole starts h =
    go (eqb (own.tag % heads) (tag % heads)) refl h
    (seek table start tag heads (place + 1) owns (front ++ item_words heads (place + 1) own owns) back next (next-starts))
  where
    next : table ≡ (front ++ item_words heads (place + 1) own owns) ++ (items_words heads (place + 1 + 1) owns ++ back)
    next = whole ∙ simp append_assoc

    next-starts : length (front ++ item_words heads (place + 1) own owns) ≡ start + 5 * (place + 1)
    next-starts = length-append front (item_words heads (place + 1) own owns) ∙ unfold item_words in omega arith

    go : (t : Bool) → eqb (own.tag % heads) (tag % heads) ≡ t → 0 < pick t (place + 1) (first_under heads (tag % heads) (place + 1 + 1) owns) →
        (0 < first_under heads (tag % heads) (place + 1 + 1) owns → Seen table start tag (first_under heads (tag % heads) (place + 1 + 1) owns) owns) →
        Seen table start tag (pick t (place + 1) (first_under heads (tag % heads) (place + 1 + 1) owns)) (own ∷ owns)
    go true e h further =
        record {
          heads = heads;
          place = place;
          own = own;
          later = owns;
          front = front;
          back = back;
          here = refl;
          whole = whole
              ∙ simp append_assoc;
          starts = starts;
          under = eqb-true _ _ e;
          passed = λ sofar. refl;
        }
    go false e h further = let s = further h in
        record {
          heads = s.heads;
          place = s.place;
          own = s.own;
          later = s.later;
          front = s.front;
          back = s.back;
          here = s.here;
          whole = s.whole;
          starts = s.starts;
          under = s.under;
          passed = λ sofar. last-other sofar tag own owns (λ k. eqb-false _ _ e (ap (λ (t : ℕ). t % heads) k)) ∙ s.passed sofar;
        }

-- a link that leads nowhere: no item of the tag is left
unseen : (sofar tag heads link : ℕ) (owns : List Own) → 1 ≤ link → first_under heads (tag % heads) link owns ≡ 0 → last_group sofar tag owns ≡ sofar
unfolding first_under
unseen sofar tag heads link [] h e = unfold last_group in refl
unseen sofar tag heads link (own ∷ owns) h e =
    go (eqb (own.tag % heads) (tag % heads)) refl e (unseen sofar tag heads (link + 1) owns (omega arith))
  where
    go : (t : Bool) → eqb (own.tag % heads) (tag % heads) ≡ t → pick t link (first_under heads (tag % heads) (link + 1) owns) ≡ 0 →
        (first_under heads (tag % heads) (link + 1) owns ≡ 0 → last_group sofar tag owns ≡ sofar) → last_group sofar tag (own ∷ owns) ≡ sofar
    go true k e further = absurd (omega arith)
    go false k e further = last-other sofar tag own owns (λ q. eqb-false _ _ k (ap (λ (t : ℕ). t % heads) q)) ∙ further e

-- a link is 0 or behind those before it, and no further than the items go
link-behind : (heads head link : ℕ) (owns : List Own) →
    (first_under heads head link owns ≡ 0) ⊎ ((link ≤ first_under heads head link owns) × (first_under heads head link owns < link + length owns))
unfolding first_under
link-behind heads head link [] = inl refl
link-behind heads head link (own ∷ owns) = go (eqb (own.tag % heads) head) (link-behind heads head (link + 1) owns)
  where
    go : (t : Bool) → (first_under heads head (link + 1) owns ≡
        0) ⊎ ((link + 1 ≤ first_under heads head (link + 1) owns) × (first_under heads head (link + 1) owns < link + 1 + length owns)) →
        (pick t link (first_under heads head (link + 1) owns) ≡
        0) ⊎ ((link ≤ pick t link (first_under heads head (link + 1) owns)) × (pick t link (first_under heads head (link + 1) owns) < link + suc (length owns)))
    go true further = inr (omega arith, omega arith)
    go false (inl e) = inl e
    go false (inr h) = inr (omega arith, omega arith)

-- how far a chain may go yet
unfoldable pub ahead : ℕ → ℕ → ℕ
ahead size link = pick (eqb link 0) 0 (1 + (size - link))

ahead_less : (size link later : ℕ) → 0 < link → link ≤ size → (later ≡ 0) ⊎ ((link < later) × (later ≤ size)) → ahead size later < ahead size link
unfolding ahead
ahead_less size link later h w (inl e) = rw (e, ne_eqb link 0 (λ q. omega arith)) (omega arith)
ahead_less size link later h w (inr r) = rw (ne_eqb link 0 (λ q. omega arith), ne_eqb later 0 (λ q. omega arith)) (omega arith)

module _ (table : List ℕ) (start tag link : ℕ) (x : Chain table start tag link) where
  pub chain_none : link ≡ 0 → (sofar : ℕ) → last_group sofar tag x.owns ≡ sofar
  chain_none e sofar = unseen sofar tag x.heads (x.place + 1) x.owns (omega arith) (sym x.leads ∙ e)

  pub chain_seen : 0 < link → Seen table start tag link x.owns
  chain_seen h = rw x.leads (seek table start tag x.heads x.place x.owns x.front x.back x.whole x.starts (rw x.leads at h))

-- what the table says of the item that is seen
module _ (table : List ℕ) (start tag link : ℕ) (owns : List Own) (s : Seen table start tag link owns) where
  item-word : (k : ℕ) → get_or table (start + 5 * (link - 1) + k) 0 ≡
      get_or (item_words s.heads (s.place + 1) s.own s.later ++ (items_words s.heads (s.place + 1 + 1) s.later ++ s.back)) k 0
  item-word k =
      let e : start + 5 * (link - 1) + k ≡ length s.front + k = omega (arith, s.here, s.starts) in
      rw (s.whole, e, get_or-append-add)

  seen_size : start + 5 * s.place + 5 + 5 * length s.later ≤ length table
  seen_size =
      omega (
        arith,
        ap length s.whole,
        s.starts,
        length-append s.front (item_words s.heads (s.place + 1) s.own s.later ++ (items_words s.heads (s.place + 1 + 1) s.later ++ s.back)),
        five,
        length-append (items_words s.heads (s.place + 1 + 1) s.later) s.back,
        items_words-length s.heads (s.place + 1 + 1) s.later,
      )
    where
      five : length (item_words s.heads (s.place + 1) s.own s.later ++ (items_words s.heads (s.place + 1 + 1) s.later ++ s.back)) ≡
          5 + length (items_words s.heads (s.place + 1 + 1) s.later ++ s.back)
      five = unfold item_words in omega arith

  pub seen-within : start + 5 * (link - 1) + 5 ≤ length table
  seen-within = omega (arith, seen_size, s.here)

  pub seen-tag : tag_at table (start + 5 * (link - 1)) ≡ s.own.tag
  unfolding tag_at item_words
  seen-tag =
      let e : start + 5 * (link - 1) + 0 ≡ start + 5 * (link - 1) = omega arith in
      omega (arith, rw e at (item-word 0), item-word 1)

  pub seen-group : get_or table (start + 5 * (link - 1) + 2) 0 ≡ last_group 0 s.own.tag (s.own ∷ s.later)
  unfolding item_words
  seen-group = item-word 2

  seen-later : get_or table (start + 5 * (link - 1) + 4) 0 ≡ first_under s.heads (tag % s.heads) (s.place + 1 + 1) s.later
  unfolding item_words
  seen-later = item-word 4 ∙ ap (λ (head : ℕ). first_under s.heads head (s.place + 1 + 1) s.later) s.under

  pub seen_falls : ahead (length table) (get_or table (start + 5 * (link - 1) + 4) 0) < ahead (length table) link
  seen_falls = rw seen-later (ahead_less (length table) link _ (omega (arith, s.here)) (omega (arith, seen_size, s.here))
      (go (link-behind s.heads (tag % s.heads) (s.place + 1 + 1) s.later)))
    where
      go : {later : ℕ} → (later ≡ 0) ⊎ ((s.place + 1 + 1 ≤ later) × (later < s.place + 1 + 1 + length s.later)) →
          (later ≡ 0) ⊎ ((link < later) × (later ≤ length table))
      go (inl e) = inl e
      go (inr h) = inr (omega (arith, s.here), omega (arith, seen_size))

  -- the tag's own item has its group
  pub seen_hit : (sofar : ℕ) → tag_at table (start + 5 * (link - 1)) ≡ tag →
      last_group sofar tag owns ≡ pick (eqb (get_or table (start + 5 * (link - 1) + 2) 0) 0) sofar (get_or table (start + 5 * (link - 1) + 2) 0)
  seen_hit sofar e = s.passed sofar ∙ last_hit sofar tag s.own s.later (sym seen-tag ∙ e) ∙ rw seen-group

  -- another leads on
  pub seen-on : Chain table start tag (get_or table (start + 5 * (link - 1) + 4) 0)
  seen-on =
      record {
        heads = s.heads;
        place = s.place + 1;
        owns = s.later;
        front = s.front ++ item_words s.heads (s.place + 1) s.own s.later;
        back = s.back;
        whole = s.whole ∙ sym (append_assoc s.front (item_words s.heads (s.place + 1) s.own s.later)
            (items_words s.heads (s.place + 1 + 1) s.later ++ s.back));
        starts = length-append s.front (item_words s.heads (s.place + 1) s.own s.later) ∙ unfold item_words in omega (arith, s.starts);
        leads = seen-later;
      }

  pub seen_other : (tag_at table (start + 5 * (link - 1)) ≡ tag → ⊥) → (sofar : ℕ) → last_group sofar tag owns ≡ last_group sofar tag seen-on.owns
  unfolding seen-on
  seen_other d sofar = s.passed sofar ∙ last-other sofar tag s.own s.later (λ e. d (seen-tag ∙ e))

-- the ways that a step along a chain goes
module _ (table : List ℕ) (start tag link : ℕ) (x : Chain table start tag link) (some : 0 < link) where
  pub chain_within : start + 5 * (link - 1) + 5 ≤ length table
  chain_within = seen-within table start tag link x.owns (chain_seen table start tag link x some)

  pub chain_falls : ahead (length table) (get_or table (start + 5 * (link - 1) + 4) 0) < ahead (length table) link
  chain_falls = seen_falls table start tag link x.owns (chain_seen table start tag link x some)

  pub chain_plain : (sofar : ℕ) → tag_at table (start + 5 * (link - 1)) ≡ tag → get_or table (start + 5 * (link - 1) + 2) 0 ≡ 0 →
      last_group sofar tag x.owns ≡ sofar
  chain_plain sofar e z = seen_hit table start tag link x.owns (chain_seen table start tag link x some) sofar e ∙ rw (eq-eqb _ _ z)

  pub chain_group : (sofar : ℕ) → tag_at table (start + 5 * (link - 1)) ≡ tag → (get_or table (start + 5 * (link - 1) + 2) 0 ≡ 0 → ⊥) →
      last_group sofar tag x.owns ≡ get_or table (start + 5 * (link - 1) + 2) 0
  chain_group sofar e z = seen_hit table start tag link x.owns (chain_seen table start tag link x some) sofar e ∙ rw (ne_eqb _ _ z)

  pub chain_on : (next sofar : ℕ) → (tag_at table (start + 5 * (link - 1)) ≡ tag → ⊥) → next ≡ get_or table (start + 5 * (link - 1) + 4) 0 →
      (y : Chain table start tag next) × (last_group sofar tag x.owns ≡ last_group sofar tag y.owns)
  chain_on next sofar d e =
      rw e (
        seen-on table start tag link x.owns (chain_seen table start tag link x some),
        seen_other table start tag link x.owns (chain_seen table start tag link x some) d sofar,
      )
