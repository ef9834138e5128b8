-- The steps of linking: with no item linked the heads are clear; an item's four stores link it before those behind it; and with all of them linked
-- the level is the part that the items mean.
use Rattle.std.specs.Prelude.{◌≡◌, refl, Bool, true, false, replicate, eqb}
use Rattle.std.proofs.Common.{sym, ◌∙◌, take-append-drop, take-add, drop-drop, drop-cons}
use Rattle.std.proofs.Math.Path.{ap}
use mathlib.Core.List.{List, [], ◌∷◌, ◌++◌, append_assoc}
use Prim.Native.Nat.{ℕ, zero, suc, ◌+◌, ◌-◌, ◌*◌, ◌/◌, ◌%◌, ◌≤◌, ◌<◌}
use native.Mathlib.Omega.{arith}
use Rattle.std.proofs.Math.ListN.{length, get_or, set, take, drop, length-append, length-drop, length-set, get_or-append}
use Rattle.std.proofs.Math.Seq.{length-take-le, get_or-append-add}
use Rattle.field_rules.specs.Choice.{pick}
use Rattle.dictionary_layout_rules.specs.Table.{mark}
use Rattle.dictionary_tables_rules.specs.Table.{heads_for, tag_at}
use Rattle.dictionary_tables_rules.specs.Laid.{Own, part_size, first_under, last_group, first_marked, item_words, items_words, head_words, part_words}
use Rattle.dictionary_pressing.specs.Linking.{own_at, owns_from, items_start, owns_behind, heads_since, cleared, linked_from, linked, links_put, Linking, Chain}
use Rattle.dictionary_pressing.specs.ChainLaws.{last-own}
use Rattle.dictionary_pressing.specs.HeadLaws.{heads-set, heads-length, heads_get, heads_clear, heads-all, head_below, set_in, set_head}

owns_length : (table : List ℕ) (at left : ℕ) → length (owns_from table at left) ≡ left
unfolding owns_from
owns_length table at zero = refl
owns_length table at (suc left) = rw (owns_length table (at + 5) left)

-- five words of a table
five_words : (table : List ℕ) (at : ℕ) → at + 5 ≤ length table →
    drop at table ≡ get_or table at 0 ∷ get_or table (at + 1) 0 ∷ get_or table (at + 2) 0 ∷ get_or table (at + 3) 0 ∷ get_or table (at + 4) 0 ∷ drop (at + 5) table
five_words table at h =
    let a : at + 1 ≡ suc at = omega arith in
    let b : at + 2 ≡ suc (suc at) = omega arith in
    let c : at + 3 ≡ suc (suc (suc at)) = omega arith in
    let d : at + 4 ≡ suc (suc (suc (suc at))) = omega arith in
    let e : at + 5 ≡ suc (suc (suc (suc (suc at)))) = omega arith in
    rw (a, b, c, d, e)
    (drop-cons table at 0 (omega arith)
    ∙ ap (λ (l : List ℕ). get_or table at 0 ∷ l) (drop-cons table (suc at) 0 (omega arith)
    ∙ ap (λ (l : List ℕ). get_or table (suc at) 0 ∷ l) (drop-cons table (suc (suc at)) 0 (omega arith)
    ∙ ap (λ (l : List ℕ). get_or table (suc (suc at)) 0 ∷ l) (drop-cons table (suc (suc (suc at))) 0 (omega arith)
    ∙ ap (λ (l : List ℕ). get_or table (suc (suc (suc at))) 0 ∷ l) (drop-cons table (suc (suc (suc (suc at)))) 0 (omega arith))))))

-- the three stores into an item
set-item : (q more : List ℕ) (a b c d e g m f at : ℕ) → length q ≡ at →
    set (set (set (q ++ (a ∷ b ∷ c ∷ d ∷ e ∷ more)) (at + 2) g) (at + 3) m) (at + 4) f ≡ q ++ (a ∷ b ∷ g ∷ m ∷ f ∷ more)
set-item q more a b c d e g m f at h =
    ap (λ (l : List ℕ). set (set l (at + 3) m) (at + 4) f) (set_in q (a ∷ b ∷ []) c (d ∷ e ∷ more) g (at + 2) (omega arith))
    ∙ ap (λ (l : List ℕ). set l (at + 4) f) (set_in q (a ∷ b ∷ g ∷ []) d (e ∷ more) m (at + 3) (omega arith))
    ∙ set_in q (a ∷ b ∷ g ∷ m ∷ []) e more f (at + 4) (omega arith)

-- an item's words by what they hold
words_of : (heads link : ℕ) (own : Own) (later : List Own) (low high group marks next : ℕ) → own.tag ≡ low + 65536 * high → low < 65536 →
    group ≡ last_group 0 own.tag (own ∷ later) →
    marks ≡ 2 * first_marked (link + 1) later + mark own.required → next ≡ first_under heads (own.tag % heads) (link + 1) later →
    item_words heads link own later ≡ low ∷ high ∷ group ∷ marks ∷ next ∷ []
unfolding item_words
words_of heads link own later low high group marks next e h g m n =
    let a : own.tag % 65536 ≡ low = omega arith in
    let b : own.tag / 65536 ≡ high = omega arith in
    cc

-- one item more stands behind
behind-on : (table : List ℕ) (level count i : ℕ) → i < count →
    owns_behind table level count i ≡ own_at table (items_start level count + 5 * i) ∷ owns_behind table level count (i + 1)
unfolding owns_behind owns_from
behind-on table level count i h =
    let n : count - i ≡ suc (count - (i + 1)) = omega arith in
    let e : items_start level count + 5 * i + 5 ≡ items_start level count + 5 * (i + 1) = omega arith in
    rw (n, e)

behind-none : (table : List ℕ) (level count : ℕ) → owns_behind table level count count ≡ []
unfolding owns_behind
behind-none table level count = let n : count - count ≡ 0 = omega arith in rw n (unfold owns_from in refl)

module _ (table : List ℕ) (level count : ℕ) (room : level + part_size count ≤ length table) where
  start-within : items_start level count + 5 * count ≤ length table
  unfolding items_start part_size
  start-within = omega arith

  pub link_start : cleared table level count ≡ linked_from table level count count
  unfolding cleared linked_from items_words
  link_start =
      let n : length (drop (items_start level count) table) ≡ length table - items_start level count = length-drop (items_start level count) table in
      let e : items_start level count + 5 * count ≡ level + part_size count = (unfold items_start part_size in omega arith) in
      rw (behind-none table level count, heads_clear (heads_for count) (heads_for count) 0 (count + 1))
      (ap (λ (l : List ℕ). take level table ++ (count ∷ (replicate (heads_for count) 0 ++ l)))
      (sym (take-append-drop (5 * count) (drop (items_start level count) table))
      ∙ ap (λ (l : List ℕ). take (5 * count) (drop (items_start level count) table) ++ l) (drop-drop (5 * count) (items_start level count) table
      ∙ ap (λ (k : ℕ). drop k table) e)))

  pub link-end : linked_from table level count 0 ≡ linked table level count
  unfolding linked_from linked part_words owns_behind
  link-end =
      let z : items_start level count + 5 * 0 ≡ items_start level count = omega arith in
      let n : count - 0 ≡ count = omega arith in
      rw (z, n, owns_length table (items_start level count) count, heads-all (heads_for count) (heads_for count) 0 (owns_from table (items_start level count) count))
      (ap (λ (l : List ℕ). take level table ++ (count ∷ l))
      (sym (append_assoc (head_words (heads_for count) (heads_for count) 0 (owns_from table (items_start level count) count))
      (items_words (heads_for count) 1 (owns_from table (items_start level count) count)) (drop (level + part_size count) table))))

  -- what stands before an item
  ahead-length : (i : ℕ) (heads : List ℕ) → i ≤ count → length heads ≡ heads_for count →
      length (take level table ++ (count ∷ (heads ++ take (5 * i) (drop (items_start level count) table)))) ≡ items_start level count + 5 * i
  unfolding items_start
  ahead-length i heads h e =
      let d = length-drop (items_start level count) table in
      let w = start-within in
      omega (
        arith,
        length-append (take level table) (count ∷ (heads ++ take (5 * i) (drop (items_start level count) table))),
        length-take-le level table (omega arith),
        length-append heads (take (5 * i) (drop (items_start level count) table)),
        length-take-le (5 * i) (drop (items_start level count) table) (omega arith),
      )

  -- the item before those that are linked
  module _ (i : ℕ) (before : i < count) where
    abbrev at : ℕ
    at = items_start level count + 5 * i

    abbrev own : Own
    own = own_at table at

    abbrev later : List Own
    later = owns_behind table level count (i + 1)

    abbrev heads : List ℕ
    heads = heads_since (heads_for count) (heads_for count) 0 (i + 1 + 1) later

    abbrev raw : List ℕ
    raw = take (5 * i) (drop (items_start level count) table)

    abbrev done : List ℕ
    done = items_words (heads_for count) (i + 1 + 1) later ++ drop (level + part_size count) table

    five_here : take (5 * (i + 1)) (drop (items_start level count) table) ≡
        raw ++ (get_or table at 0 ∷ get_or table (at + 1) 0 ∷ get_or table (at + 2) 0 ∷ get_or table (at + 3) 0 ∷ get_or table (at + 4) 0 ∷ [])
    five_here =
        let n : 5 * (i + 1) ≡ 5 * i + 5 = omega arith in
        rw n (take-add (5 * i) 5 (drop (items_start level count) table)
        ∙ ap (λ (l : List ℕ). raw ++ take 5 l) (drop-drop (5 * i) (items_start level count) table ∙ five_words table at (omega (arith, start-within))))

    abbrev front : List ℕ
    front = take level table ++ (count ∷ (heads ++ raw))

    front_length : length front ≡ at
    front_length = ahead-length i heads (omega arith) (heads-length (heads_for count) (heads_for count) 0 (i + 1 + 1) later)

    now_linked : linked_from table level count (i + 1) ≡
        front ++ (get_or table at 0 ∷ get_or table (at + 1) 0 ∷ get_or table (at + 2) 0 ∷ get_or table (at + 3) 0 ∷ get_or table (at + 4) 0 ∷ done)
    unfolding linked_from
    now_linked = rw five_here (simp append_assoc)

    -- it reads as it was written
    pub link-read : (k : ℕ) → k < 5 → get_or (linked_from table level count (i + 1)) (at + k) 0 ≡ get_or table (at + k) 0
    link-read k h =
        let n : at + k ≡ length front + k = omega (arith, front_length) in
        ap (λ (l : List ℕ). get_or l (at + k) 0) now_linked
        ∙ ap (λ (m : ℕ). get_or (front ++ (get_or table at 0 ∷ get_or table (at + 1) 0 ∷ get_or table (at + 2) 0 ∷ get_or table (at + 3) 0 ∷ get_or table (at + 4) 0
        ∷ done)) m 0) n
        ∙ get_or-append-add front (get_or table at 0 ∷ get_or table (at + 1) 0 ∷ get_or table (at + 2) 0 ∷ get_or table (at + 3) 0 ∷ get_or table (at + 4) 0 ∷ done) k 0
        ∙ go k h
      where
        go : (k : ℕ) → k < 5 → get_or (get_or table at 0 ∷ get_or table (at + 1) 0 ∷ get_or table (at + 2) 0 ∷ get_or table (at + 3) 0 ∷ get_or table (at + 4) 0
            ∷ done) k 0 ≡ get_or table (at + k) 0
        go zero h = let z : at + 0 ≡ at = omega arith in rw z
        go (suc zero) h = refl
        go (suc (suc zero)) h = refl
        go (suc (suc (suc zero))) h = refl
        go (suc (suc (suc (suc zero)))) h = refl
        go (suc (suc (suc (suc (suc k))))) h = absurd (omega arith)

    -- its head has the link to the first item behind it
    pub link_head : get_or (linked_from table level count (i + 1)) (level + 1 + own.tag % heads_for count) 0 ≡
        first_under (heads_for count) (own.tag % heads_for count) (i + 1 + 1) later
    unfolding linked_from
    link_head =
        let head : ℕ = own.tag % heads_for count in
        let below : head < heads_for count = head_below count own.tag in
        let size : length heads ≡ heads_for count = heads-length (heads_for count) (heads_for count) 0 (i + 1 + 1) later in
        let n : level + 1 + head ≡ length (take level table ++ (count ∷ [])) + head =
        omega (arith, length-append (take level table) (count ∷ []), length-take-le level table (omega arith)) in
        let rest : List ℕ = take (5 * (i + 1)) (drop (items_start level count) table) ++ done in
        ap (λ (m : ℕ). get_or (take level table ++ (count ∷ (heads ++ rest))) m 0) n
        ∙ ap (λ (l : List ℕ). get_or l (length (take level table ++ (count ∷ [])) + head) 0)
        (sym (append_assoc (take level table) (count ∷ []) (heads ++ rest)))
        ∙ get_or-append-add (take level table ++ (count ∷ [])) (heads ++ rest) head 0
        ∙ get_or-append heads rest 0 head (omega arith)
        ∙ heads_get (heads_for count) (heads_for count) 0 (i + 1 + 1) head later below
        ∙ (let z : 0 + head ≡ head = omega arith in rw z)

    pub link_chain : (tag : ℕ) → Chain (linked_from table level count (i + 1)) (items_start level count) tag
        (first_under (heads_for count) (tag % heads_for count) (i + 1 + 1) later)
    unfolding linked_from
    link_chain tag =
        record {
          heads = heads_for count;
          place = i + 1;
          owns = later;
          front = take level table ++ (count ∷ (heads ++ take (5 * (i + 1)) (drop (items_start level count) table)));
          back = drop (level + part_size count) table;
          whole = simp append_assoc;
          starts = ahead-length (i + 1) heads (omega arith) (heads-length (heads_for count) (heads_for count) 0 (i + 1 + 1) later);
          leads = refl;
        }

    -- and four stores link it
    pub link-step : (group marks link : ℕ) → get_or table at 0 < 65536 → group ≡ last_group 0 own.tag (own ∷ later) →
        marks ≡ 2 * first_marked (i + 1 + 1) later + mark own.required →
        link ≡ first_under (heads_for count) (own.tag % heads_for count) (i + 1 + 1) later →
        set (set (set (set (linked_from table level count (i + 1)) (at + 2) group) (at + 3) marks) (at + 4) link) (level + 1 + own.tag % heads_for count)
        (i + 1) ≡ linked_from table level count i
    link-step group marks link low g m l =
        let words : List ℕ = get_or table at 0 ∷ get_or table (at + 1) 0 ∷ group ∷ marks ∷ link ∷ done in
        let head : ℕ = own.tag % heads_for count in
        ap (λ (u : List ℕ). set (set (set (set u (at + 2) group) (at + 3) marks) (at + 4) link) (level + 1 + head) (i + 1)) now_linked
        ∙ ap (λ (u : List ℕ). set u (level + 1 + head) (i + 1))
        (set-item front done (get_or table at 0) (get_or table (at + 1) 0) (get_or table (at + 2) 0) (get_or table (at + 3) 0)
        (get_or table (at + 4) 0) group marks link at front_length ∙ regroup words)
        ∙ set_head (take level table) heads (raw ++ words) count level head (i + 1) (length-take-le level table (omega arith))
        (rw heads-length (head_below count own.tag))
        ∙ ap (λ (l : List ℕ). take level table ++ (count ∷ (l ++ (raw ++ words))))
        (heads-set (heads_for count) (heads_for count) 0 (i + 1) head own later (head_below count own.tag) (omega arith))
        ∙ relinked
      where
        regroup : (words : List ℕ) → front ++ words ≡ take level table ++ (count ∷ (heads ++ (raw ++ words)))
        regroup words = simp append_assoc

        words_mean : item_words (heads_for count) (i + 1) own later ≡ get_or table at 0 ∷ get_or table (at + 1) 0 ∷ group ∷ marks ∷ link ∷ []
        words_mean = words_of (heads_for count) (i + 1) own later (get_or table at 0) (get_or table (at + 1) 0) group marks link (unfold own_at tag_at in
            refl) low g m l

        relinked : take level table ++ (count
            ∷ (heads_since (heads_for count) (heads_for count) 0 (i + 1) (own ∷ later)
            ++ (raw ++ (get_or table at 0 ∷ get_or table (at + 1) 0 ∷ group ∷ marks ∷ link ∷ done)))) ≡ linked_from table level count i
        relinked = unfold linked_from items_words in rw (behind-on table level count i before, words_mean)

-- a marked item is one of them
marked-within : (link : ℕ) (owns : List Own) → 1 ≤ link → first_marked link owns < link + length owns
unfolding first_marked
marked-within link [] l = omega arith
marked-within link (own ∷ owns) l = go own.required (marked-within (link + 1) owns (omega arith))
  where
    go : (r : Bool) → first_marked (link + 1) owns < link + 1 + length owns → pick r link (first_marked (link + 1) owns) < link + suc (length owns)
    go true h = omega arith
    go false h = omega arith

-- linking starts on a level that is clear
pub linking_start : (table : List ℕ) (level count : ℕ) → level + part_size count ≤ length table → 2 * length table < 18446744073709551616 → count < 32768 →
    table ≡ cleared table level count → Linking table table level count count 0
linking_start table level count room fits few clear =
    record {
      counted = omega arith;
      few = few;
      room = room;
      fits = fits;
      kept = refl;
      sofar = clear
          ∙ link_start table level count room;
      marks = rw (behind-none table level count) (unfold first_marked in refl);
    }

module _ (start table : List ℕ) (level count i marked : ℕ) (s : Linking start table level count i marked) where
  pub linking_end : i ≡ 0 → table ≡ linked start level count
  linking_end e = s.sofar ∙ rw e (link-end start level count s.room)

  pub marked-few : marked < 32768
  marked-few = omega (arith, s.marks, marked-within (i + 1) (owns_behind start level count i) (omega arith), s.counted, s.few, behind-length)
    where
      behind-length : length (owns_behind start level count i) ≡ count - i
      behind-length = unfold owns_behind in owns_length start (items_start level count + 5 * i) (count - i)

  -- the item whose turn it is
  module _ (some : 0 < i) where
    abbrev item : ℕ
    item = items_start level count + 5 * (i - 1)

    one_more : i ≡ i - 1 + 1
    one_more = omega arith

    turn_table : table ≡ linked_from start level count (i - 1 + 1)
    turn_table = s.sofar ∙ ap (λ (n : ℕ). linked_from start level count n) one_more

    turn_word : (k : ℕ) → k < 5 → get_or table (item + k) 0 ≡ get_or start (item + k) 0
    turn_word k h = ap (λ (l : List ℕ). get_or l (item + k) 0) turn_table ∙ link-read start level count s.room (i - 1) (omega (arith, s.counted)) k h

    turn_own : own_at table item ≡ own_at start item
    unfolding own_at tag_at
    turn_own =
        let z : item + 0 ≡ item = omega arith in
        rw (rw z at (turn_word 0 (omega arith)), turn_word 1 (omega arith), turn_word 2 (omega arith), turn_word 3 (omega arith))

    abbrev behind : List Own
    behind = owns_behind start level count (i - 1 + 1)

    turn_tag : tag_at table item ≡ (own_at start item).tag
    unfolding own_at
    turn_tag = ap (λ (own : Own). own.tag) turn_own

    turn_link : (tag : ℕ) → tag ≡ tag_at table item →
        get_or table (level + 1 + tag % heads_for count) 0 ≡ first_under (heads_for count) (tag % heads_for count) (i - 1 + 1 + 1) behind
    turn_link tag e =
        rw (e ∙ turn_tag) (ap (λ (l : List ℕ). get_or l (level + 1 + (own_at start item).tag % heads_for count) 0) turn_table
        ∙ link_head start level count s.room (i - 1) (omega (arith, s.counted)))

    pub turn_chain : (tag : ℕ) → tag ≡ tag_at table item →
        (x : Chain table (items_start level count) tag (get_or table (level + 1 + tag % heads_for count) 0)) × (x.owns ≡ behind)
    turn_chain tag e = rw (turn_link tag e, turn_table)
        (link_chain start level count s.room (i - 1) (omega (arith, s.counted)) tag, unfold link_chain in refl)

    turn_required : eqb (get_or table (item + 3) 0) 1 ≡ (own_at start item).required
    unfolding own_at
    turn_required = ap (λ (own : Own). own.required) turn_own

    turn_group : get_or table (item + 2) 0 ≡ (own_at start item).group
    unfolding own_at
    turn_group = ap (λ (own : Own). own.group) turn_own

    turn_marked : marked ≡ first_marked (i - 1 + 1 + 1) behind
    turn_marked = s.marks ∙ ap (λ (n : ℕ). first_marked (n + 1) (owns_behind start level count n)) one_more

    turn_last : (tag group : ℕ) → tag ≡ tag_at table item →
        ((x : Chain table (items_start level count) tag (get_or table (level + 1 + tag % heads_for count) 0)) →
        group ≡ last_group (get_or table (item + 2) 0) tag x.owns) →
        group ≡ last_group 0 (own_at start item).tag (own_at start item ∷ behind)
    turn_last tag group t g =
        let x = turn_chain tag t in
        g x.0 ∙ rw (x.1, turn_group, t ∙ turn_tag) (sym (last-own (own_at start item) behind))

    -- its stores link it
    pub turn_on : (tag group link : ℕ) (required : Bool) → tag ≡ tag_at table item → link ≡ get_or table (level + 1 + tag % heads_for count) 0 →
        required ≡ eqb (get_or table (item + 3) 0) 1 →
        ((x : Chain table (items_start level count) tag (get_or table (level + 1 + tag % heads_for count) 0)) →
        group ≡ last_group (get_or table (item + 2) 0) tag x.owns) → get_or table item 0 < 65536 →
        Linking start (links_put table item (level + 1 + tag % heads_for count) group (2 * marked + mark required) link (i - 1 + 1)) level count (i - 1)
        (pick required (i - 1 + 1) marked)
    turn_on tag group link required t l r g low =
        record {
          counted = omega (arith, s.counted);
          few = s.few;
          room = s.room;
          fits = s.fits;
          kept = unfold links_put in simp length-set s.kept;
          sofar = unfold links_put in put;
          marks = rw (behind-on start level count (i - 1) (omega (arith, s.counted)), r ∙ turn_required, turn_marked) (unfold first_marked in refl);
        }
      where
        put : set (set (set (set table (item + 2) group) (item + 3) (2 * marked + mark required)) (item + 4) link) (level + 1 + tag % heads_for count)
            (i - 1 + 1) ≡ linked_from start level count (i - 1)
        put =
            ap (λ (u : List ℕ). set (set (set (set u (item + 2) group) (item + 3) (2 * marked + mark required)) (item + 4) link)
            (level + 1 + tag % heads_for count) (i - 1 + 1)) turn_table
            ∙ ap (λ (n : ℕ). set (set (set (set (linked_from start level count (i - 1 + 1)) (item + 2) group) (item + 3) (2 * marked + mark required))
            (item + 4) link) (level + 1 + n % heads_for count) (i - 1 + 1)) (t ∙ turn_tag)
            ∙ link-step start level count s.room (i - 1) (omega (arith, s.counted)) group (2 * marked + mark required) link
            (let z : item + 0 ≡ item = omega arith in omega (arith, rw z at (turn_word 0 (omega arith))))
            (turn_last tag group t g)
            (rw (turn_marked, r ∙ turn_required))
            (l ∙ turn_link tag t ∙ ap (λ (n : ℕ). first_under (heads_for count) (n % heads_for count) (i - 1 + 1 + 1) behind) (t ∙ turn_tag))

    -- a turn, by what the code knows of it
    abbrev Turn : ℕ → Type 0
    Turn heads =
        (tag group link word marks next : ℕ) (required : Bool) (after : List ℕ) → tag ≡ tag_at table (level + 1 + heads + 5 * (i - 1)) →
        word ≡ get_or table (level + 1 + tag % heads) 0 → link ≡ word →
        required ≡ eqb (get_or table (level + 1 + heads + 5 * (i - 1) + 3) 0) 1 →
        ((x : Chain table (level + 1 + heads) tag link) → group ≡ last_group (get_or table (level + 1 + heads + 5 * (i - 1) + 2) 0) tag x.owns) →
        get_or table (level + 1 + heads + 5 * (i - 1)) 0 < 65536 → marks ≡ 2 * marked + mark required →
        after ≡ links_put table (level + 1 + heads + 5 * (i - 1)) (level + 1 + tag % heads) group marks word (i - 1 + 1) →
        next ≡ pick required (i - 1 + 1) marked → Linking start after level count (i - 1) next

    turn_at : Turn (heads_for count)
    unfolding items_start
    turn_at tag group link word marks next required after t w l r g low m a n =
        rw (a, m, n) (turn_on tag group word required t w r (rw (l ∙ w) at g) low)

    pub turn : (heads : ℕ) → heads ≡ heads_for count → Turn heads
    turn heads e = rw e turn_at
