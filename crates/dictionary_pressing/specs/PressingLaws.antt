-- Pressing, once all is written: over words that have room a level's items stand as written and the levels within as they are in the end;
-- linked, the level is what the layout means.
use Rattle.std.specs.Prelude.{◌≡◌, refl, Bool, List, [], ◌∷◌, ◌++◌, ℕ, zero, suc, ◌+◌, ◌*◌, ◌/◌, ◌%◌, ◌≤◌, length, get_or, set, take, drop}
use Rattle.std.proofs.Common.{sym, ap, ◌∙◌, append_assoc, length-append, length-drop, take-append-drop, length-take-le, get_or-append-add, take_at, drop_at, take-take, drop-drop}
use native.Mathlib.Omega.{arith}
use Rattle.std.proofs.lemmas.List.{take-append-le}
use Rattle.dictionary_layout_rules.proofs.TabledLaws.{mark-read}
use Rattle.dictionary_layout_rules.specs.Layout.{Layout, end, field, group}
use Rattle.dictionary_layout_rules.specs.Table.{mark}
use Rattle.dictionary_tables_rules.specs.Table.{tag_at}
use Rattle.dictionary_tables_rules.specs.Laid.{Own, own_count, part_size, inner_size, table_size, own_items, part_words, inner_words, level_words}
use Rattle.dictionary_tables_rules.proofs.Tabled.{own_items-length, level_length}
use Rattle.dictionary_pressing.specs.Linking.{own_at, owns_from, items_start, linked}
use Rattle.dictionary_pressing.specs.HeadLaws.{set_in}
use Rattle.dictionary_pressing.specs.Pressing.{put_item, pressed, press_items, raw_item, raw_items}

raw-length : (owns : List Own) → length (raw_items owns) ≡ 5 * length owns
unfolding raw_items raw_item
raw-length [] = refl
raw-length (own ∷ owns) = omega (arith, raw-length owns)

-- an item reads as it was written
raw-own : (p z : List ℕ) (own : Own) (at : ℕ) → length p ≡ at → own_at (p ++ (raw_item own ++ z)) at ≡ own
unfolding own_at tag_at raw_item
raw-own p z own at e =
    let words : List ℕ = (own.tag % 65536) ∷ (own.tag / 65536) ∷ own.group ∷ mark own.required ∷ 0 ∷ z in
    let t : (own.tag % 65536) + 65536 * (own.tag / 65536) ≡ own.tag = omega arith in
    rw (word words 0 at (omega arith), word words 1 (at + 1) (omega arith), word words 2 (at + 2) (omega arith), word words 3 (at + 3) (omega arith))
    (rw (t, mark-read own.required))
  where
    word : (words : List ℕ) (k place : ℕ) → place ≡ length p + k → get_or (p ++ words) place 0 ≡ get_or words k 0
    word words k place e = rw (e, get_or-append-add)

pub raw_owns : (p z : List ℕ) (owns : List Own) (at count : ℕ) → length p ≡ at → length owns ≡ count → owns_from (p ++ (raw_items owns ++ z)) at count ≡ owns
unfolding owns_from raw_items raw_item
raw_owns p z [] at zero e n = refl
raw_owns p z [] at (suc count) e n = absurd (omega arith)
raw_owns p z (own ∷ owns) at zero e n = absurd (omega arith)
raw_owns p z (own ∷ owns) at (suc count) e n =
    rw (append_assoc (raw_item own) (raw_items owns) z, raw-own p (raw_items owns ++ z) own at e)
    (ap (λ (l : List Own). own ∷ l) (ap (λ (l : List ℕ). owns_from l (at + 5) count) (sym (append_assoc p (raw_item own) (raw_items owns ++ z)))
    ∙ raw_owns (p ++ raw_item own) z owns (at + 5) count (length-append p (raw_item own) ∙ omega arith) (omega arith)))

-- an item is written over five words
put-over : (before more : List ℕ) (a b c d e at tag leads : ℕ) (required : Bool) → length before ≡ at →
    put_item (before ++ (a ∷ b ∷ c ∷ d ∷ e ∷ more)) at tag leads required ≡
    before ++ (raw_item (record { tag = tag; required = required; group = leads }) ++ more)
unfolding put_item raw_item
put-over before more a b c d e at tag leads required h =
    let low : ℕ = tag % 65536 in
    let high : ℕ = tag / 65536 in
    ap (λ (l : List ℕ). set (set (set (set l (at + 1) high) (at + 2) leads) (at + 3) (mark required)) (at + 4) 0)
    (set_in before [] a (b ∷ c ∷ d ∷ e ∷ more) low at (omega arith))
    ∙ ap (λ (l : List ℕ). set (set (set l (at + 2) leads) (at + 3) (mark required)) (at + 4) 0)
    (set_in before (low ∷ []) b (c ∷ d ∷ e ∷ more) high (at + 1) (omega arith))
    ∙ ap (λ (l : List ℕ). set (set l (at + 3) (mark required)) (at + 4) 0) (set_in before (low ∷ high ∷ []) c (d ∷ e ∷ more) leads (at + 2) (omega arith))
    ∙ ap (λ (l : List ℕ). set l (at + 4) 0) (set_in before (low ∷ high ∷ leads ∷ []) d (e ∷ more) (mark required) (at + 3) (omega arith))
    ∙ set_in before (low ∷ high ∷ leads ∷ mark required ∷ []) e more 0 (at + 4) (omega arith)

-- a level is written over as many words as it takes
pressed-over : (level : ℕ) (layout : Layout) (before old after : List ℕ) → length before ≡ level → length old ≡ table_size layout →
    pressed level layout (before ++ (old ++ after)) ≡ before ++ (level_words level layout ++ after)
unfolding pressed
pressed-over level layout before old after e o =
    let t : take level (before ++ (old ++ after)) ≡ before = take_at before (old ++ after) level e in
    let d : drop (level + table_size layout) ((before ++ old) ++ after) ≡
    after = drop_at (before ++ old) after (level + table_size layout) (length-append before old ∙ omega arith) in
    rw (t, ← append_assoc before old after, d)

-- five words and the rest of a list that is long enough
record Five (l : List ℕ) (n : ℕ) : Type 0 where
  a : ℕ
  b : ℕ
  c : ℕ
  d : ℕ
  e : ℕ
  more : List ℕ
  whole : l ≡ a ∷ b ∷ c ∷ d ∷ e ∷ more
  size : length more ≡ n

five : (l : List ℕ) (n : ℕ) → length l ≡ 5 + n → Five l n
five [] n h = absurd (omega arith)
five (a ∷ []) n h = absurd (omega arith)
five (a ∷ b ∷ []) n h = absurd (omega arith)
five (a ∷ b ∷ c ∷ []) n h = absurd (omega arith)
five (a ∷ b ∷ c ∷ d ∷ []) n h = absurd (omega arith)
five (a ∷ b ∷ c ∷ d ∷ e ∷ more) n h = record { a = a; b = b; c = c; d = d; e = e; more = more; whole = refl; size = omega arith }

-- an item over the first words of those that are left
put_first : (before old after : List ℕ) (n at tag leads : ℕ) (required : Bool) → length before ≡ at → (f : Five old n) →
    put_item (before ++ (old ++ after)) at tag leads required ≡
    (before ++ raw_item (record { tag = tag; required = required; group = leads })) ++ (f.more ++ after)
put_first before old after n at tag leads required h f =
    ap (λ (l : List ℕ). put_item (before ++ (l ++ after)) at tag leads required) f.whole
    ∙ put-over before (f.more ++ after) f.a f.b f.c f.d f.e at tag leads required h
    ∙ sym (append_assoc before (raw_item (record { tag = tag; required = required; group = leads })) (f.more ++ after))

item-length : (p : List ℕ) (own : Own) (at : ℕ) → length p ≡ at → length (p ++ raw_item own) ≡ at + 5
item-length p own at e = length-append p (raw_item own) ∙ unfold raw_item in omega arith

module _ (a raw old mid one two level words after : List ℕ) where
  regroup : (a ++ raw) ++ (old ++ (mid ++ ((one ++ two) ++ after))) ≡ ((a ++ raw) ++ (old ++ mid)) ++ (one ++ (two ++ after))
  regroup = simp append_assoc

  regroup_on : ((a ++ raw) ++ (old ++ mid)) ++ (level ++ (two ++ after)) ≡ (a ++ raw) ++ (old ++ ((mid ++ level) ++ (two ++ after)))
  regroup_on = simp append_assoc

  regroup_end : (a ++ raw) ++ (old ++ ((mid ++ level) ++ (words ++ after))) ≡ a ++ ((raw ++ old) ++ (mid ++ ((level ++ words) ++ after)))
  regroup_end = simp append_assoc

-- written over as many words as they take, a level's items and the levels within take their places
pub press_over : (slot free : ℕ) (layout : Layout) (a old mid inner z : List ℕ) → length a ≡ slot → length old ≡ 5 * own_count layout →
    slot + 5 * own_count layout + length mid ≡ free → length inner ≡ inner_size layout →
    press_items slot free layout (a ++ (old ++ (mid ++ (inner ++ z)))) ≡ a ++ (raw_items (own_items free layout) ++ (mid ++ (inner_words free layout ++ z)))
unfolding press_items own_items inner_words raw_items own_count inner_size
press_over slot free end a [] mid [] z e o f i = refl
press_over slot free end a [] mid (x ∷ inner) z e o f i = absurd (omega arith)
press_over slot free end a (x ∷ old) mid inner z e o f i = absurd (omega arith)
press_over slot free (field tag required rest) a old mid inner z e o f i =
    let v = five old (5 * own_count rest) (omega arith) in
    let own : Own = record { tag = tag; required = required; group = 0 } in
    ap (λ (l : List ℕ). press_items (slot + 5) free rest l) (put_first a old (mid ++ (inner ++ z)) (5 * own_count rest) slot tag 0 required e v)
    ∙ press_over (slot + 5) free rest (a ++ raw_item own) v.more mid inner z (item-length a own slot e) v.size (omega arith) i
    ∙ simp append_assoc
press_over slot free (group tag required inner rest) a old mid words z e o f i =
    let v = five old (5 * own_count rest) (omega arith) in
    let own : Own = record { tag = tag; required = required; group = free } in
    let one : List ℕ = take (table_size inner) words in
    let two : List ℕ = drop (table_size inner) words in
    let level : List ℕ = level_words free inner in
    let here = item-length a own slot e in
    ap (λ (l : List ℕ). press_items (slot + 5) (free + table_size inner) rest (pressed free inner l))
    (put_first a old (mid ++ (words ++ z)) (5 * own_count rest) slot tag free required e v
    ∙ ap (λ (l : List ℕ). (a ++ raw_item own) ++ (v.more ++ (mid ++ (l ++ z)))) (sym (take-append-drop (table_size inner) words))
    ∙ regroup a (raw_item own) v.more mid one two level words z)
    ∙ ap (λ (l : List ℕ). press_items (slot + 5) (free + table_size inner) rest l)
    (pressed-over free inner ((a ++ raw_item own) ++ (v.more ++ mid)) one (two ++ z)
    (omega (arith, length-append (a ++ raw_item own) (v.more ++ mid), length-append v.more mid, here, v.size))
    (length-take-le (table_size inner) words (omega arith))
    ∙ regroup_on a (raw_item own) v.more mid one two level words z)
    ∙ press_over (slot + 5) (free + table_size inner) rest (a ++ raw_item own) v.more (mid ++ level) two z here v.size
    (omega (arith, length-append mid level, level_length free inner)) (length-drop (table_size inner) words ∙ omega arith)
    ∙ regroup_end a (raw_item own) (raw_items (own_items (free + table_size inner) rest)) mid one two level (inner_words (free + table_size inner) rest) z

split_three : (table : List ℕ) (at one next two last : ℕ) → next ≡ at + one → last ≡ next + two →
    table ≡ take at table ++ (take one (drop at table) ++ (take two (drop next table) ++ drop last table))
split_three table at one next two last e f =
    sym (take-append-drop at table)
    ∙ ap (λ (l : List ℕ). take at table ++ l) (sym (take-append-drop one (drop at table))
    ∙ ap (λ (l : List ℕ). take one (drop at table) ++ l) (drop-drop one at table ∙ ap (λ (n : ℕ). drop n table) (sym e)
    ∙ sym (take-append-drop two (drop next table))
    ∙ ap (λ (l : List ℕ). take two (drop next table) ++ l) (drop-drop two next table ∙ ap (λ (n : ℕ). drop n table) (sym f))))

-- a level's items linked, with the levels within behind them
pub press_linked : (level : ℕ) (layout : Layout) (table : List ℕ) → level + table_size layout ≤ length table →
    linked (press_items (items_start level (own_count layout)) (level + part_size (own_count layout)) layout table) level (own_count layout) ≡
    pressed level layout table
unfolding pressed linked
press_linked level layout table h =
    let n : ℕ = own_count layout in
    let body : List ℕ = inner_words (level + part_size n) layout ++ drop (level + table_size layout) table in
    let front : take level (take (items_start level n) table ++ (raw_items owns ++ body)) ≡ take level table =
    take-append-le level (take (items_start level n) table) (raw_items owns ++ body) (omega (arith, start-length, level_start))
    ∙ take-take level (items_start level n) table level_start in
    let read : owns_from (take (items_start level n) table ++ (raw_items owns ++ body)) (items_start level n) n ≡ owns =
    raw_owns (take (items_start level n) table) body owns (items_start level n) n start-length (own_items-length (level + part_size n) layout) in
    let behind : drop (level + part_size n) (take (items_start level n) table ++ (raw_items owns ++ body)) ≡ body =
    ap (λ (l : List ℕ). drop (level + part_size n) l) (sym (append_assoc (take (items_start level n) table) (raw_items owns) body))
    ∙ drop_at (take (items_start level n) table ++ raw_items owns) body (level + part_size n)
    (omega (
      arith,
      length-append (take (items_start level n) table) (raw_items owns),
      start-length,
      raw-length owns,
      own_items-length (level + part_size n) layout,
      start-part,
    )) in
    rw (written, front, read, behind)
    (ap (λ (l : List ℕ). take level table ++ l)
    (sym (append_assoc (part_words owns) (inner_words (level + part_size n) layout) (drop (level + table_size layout) table))))
  where
    owns : List Own
    owns = own_items (level + part_size (own_count layout)) layout

    start-part : items_start level (own_count layout) + 5 * own_count layout ≡ level + part_size (own_count layout)
    start-part = unfold items_start part_size in omega arith

    level_start : level ≤ items_start level (own_count layout)
    level_start = unfold items_start in omega arith

    start-length : length (take (items_start level (own_count layout)) table) ≡ items_start level (own_count layout)
    start-length = length-take-le (items_start level (own_count layout)) table (omega (arith, start-part))

    split : table ≡ take (items_start level (own_count layout)) table
        ++ (take (5 * own_count layout) (drop (items_start level (own_count layout)) table)
        ++ ([] ++ (take (inner_size layout) (drop (level + part_size (own_count layout)) table) ++ drop (level + table_size layout) table)))
    split = split_three table (items_start level (own_count layout)) (5 * own_count layout) (level + part_size (own_count layout)) (inner_size layout)
        (level + table_size layout) (omega (arith, start-part)) (omega arith)

    written : press_items (items_start level (own_count layout)) (level + part_size (own_count layout)) layout table ≡
        take (items_start level (own_count layout)) table
        ++ (raw_items owns ++ (inner_words (level + part_size (own_count layout)) layout ++ drop (level + table_size layout) table))
    written =
        ap (λ (l : List ℕ). press_items (items_start level (own_count layout)) (level + part_size (own_count layout)) layout l) split
        ∙ press_over (items_start level (own_count layout)) (level + part_size (own_count layout)) layout (take (items_start level (own_count layout)) table)
        (take (5 * own_count layout) (drop (items_start level (own_count layout)) table)) []
        (take (inner_size layout) (drop (level + part_size (own_count layout)) table)) (drop (level + table_size layout) table) start-length
        (length-take-le (5 * own_count layout) (drop (items_start level (own_count layout)) table)
        (omega (arith, length-drop (items_start level (own_count layout)) table, start-part)))
        (omega (arith, start-part))
        (length-take-le (inner_size layout) (drop (level + part_size (own_count layout)) table)
        (omega (arith, length-drop (level + part_size (own_count layout)) table)))
