-- Records that are laid as a map's rows stand for that map, and those behind them are laid as the rows behind it.
use Rattle.std.proofs.Math.Path.{◌≡◌, refl, sym, ap}
use Rattle.std.proofs.Common.{◌∙◌, take_at, drop_at, Option, Some, None}
use Rattle.std.specs.Prelude.{true, false, ℕ, ◌+◌, ◌≤◌, ◌<◌, take, drop}
use mathlib.Core.List.{List, [], ◌∷◌, ◌++◌, append_assoc}
use native.Mathlib.Omega.{arith}
use Rattle.std.proofs.Math.ListN.{length}
use Rattle.build_records.specs.Records.{value_at}
use Rattle.field_rules.specs.Choice.{pick}
use Rattle.build_records.specs.declared.Record.{Record}
use Rattle.message_maps.specs.Map.{Map, end, field, entry, values_in}
use Rattle.message_maps.specs.Rows.{Row, row, laid}
use Rattle.message_lent_rules.specs.LentLaws.{both}
use Rattle.message_take_over.specs.declared.Joins.{Joins}
use Rattle.message_take_over.specs.declared.Joins.TheVariants.{Open, Entry, Nowhere}
use Rattle.message_take_over.specs.Taking.{nearest_in, joins_of, is_joined, is_next, are_next, own_rows, rows_behind, values_at}
use Rattle.message_take_over.specs.JoinLaws.{joins-first, joins-other}
use Rattle.message_take_over.specs.StepLaws.{next_is}
use Rattle.message_take_over.specs.Derived.{Own, Stands, no_more, own, in_entry}
use Rattle.message_take_over.specs.StandLaws.{passed, passed-append, Context, own_context, past_entry, past_map}
use Rattle.message_take_over.specs.GoesLaws.{value_size}
use Rattle.message_take_over.proofs.BackLaws.{open_top, open_number, entry_number, First, first-row}

pub next_cons : (size part used : ℕ) (before : List Record) (r : Record) (rs : List Record)
    → are_next size part used before (r ∷ rs) ≡ pick (is_next size part used before r) (are_next size r.part (used + r.length) (r ∷ before) rs) false
unfolding are_next
next_cons size part used before r rs = refl

texts_cons : (bytes : List ℕ) (r : Record) (rs : List Record) → values_at bytes (r ∷ rs) ≡ value_at bytes r ++ values_at bytes rs
unfolding values_at
texts_cons bytes r rs = refl

-- two lists that start alike in length
split_same : (a b c d : List ℕ) → length a ≡ length b → a ++ c ≡ b ++ d → (a ≡ b) × (c ≡ d)
split_same a b c d n e = (
  sym (take_at a c (length b) n) ∙ ap (take (length b)) e ∙ take_at b d (length b) refl,
  sym (drop_at a c (length b) n) ∙ ap (drop (length b)) e ∙ drop_at b d (length b) refl,
)

-- a row that comes behind those of a map stands higher
pub data Lower (level : ℕ) : List Row → Type 0 where
  lower-none : Lower level []
  lower-row : (k l t x : ℕ) {rows : List Row} → l < level → Lower level (row k l t x ∷ rows)

lower-laid : (level : ℕ) (m : Map) (tail : List Row) → Lower level tail → Lower (level + 1) (laid level m ++ tail)
unfolding laid
lower-laid level end tail lower-none = lower-none
lower-laid level end tail (lower-row k l t x h) = lower-row k l t x (omega arith)
lower-laid level (field t v rest) tail h = lower-row 1 level t (length v) (omega arith)
lower-laid level (entry s d inner rest) tail h = lower-row 2 level s d (omega arith)

pub nowhere_not : is_joined Nowhere ≡ true → ⊥
unfolding is_joined
nowhere_not e = let z : ◌≡◌ {A = ℕ} 0 1 = cc in omega arith

module _ (bytes : List ℕ) (part : ℕ) where
  -- the first record, by its first row
  record Leads (used : ℕ) (before rs : List Record) (texts : List ℕ) (joined : Joins) (r : Record) : Type 0 where
    more : List Record
    is : rs ≡ r ∷ more
    of : r.part ≡ part
    inside : r.place + r.length ≤ length bytes
    joins : joins_of before r ≡ joined
    some : is_joined joined ≡ true
    value : value_at bytes r ++ values_at bytes more ≡ texts
    next : are_next (length bytes) part (used + r.length) (r ∷ before) more ≡ true

  leads : (used : ℕ) (before rs : List Record) (texts : List ℕ) (rows : List Row) → are_next (length bytes) part used before rs ≡ true
      → values_at bytes rs ≡ texts → (f : First part before rs rows) → (j : Joins) → joins_of before f.head ≡ j → Leads used before rs texts j f.head
  leads used before rs texts rows ok t f j e =
      let r = f.head in
      let split =
      both (is_next (length bytes) part used before r) (are_next (length bytes) r.part (used + r.length) (r ∷ before) f.more)
      (sym (next_cons (length bytes) part used before r f.more) ∙ ap (are_next (length bytes) part used before) (sym f.is) ∙ ok) in
      record {
        more = f.more;
        is = f.is;
        of = f.of;
        inside = (next_is (length bytes) part used before r split.0).inside;
        joins = e;
        some = ap is_joined (sym e) ∙ (next_is (length bytes) part used before r split.0).joined;
        value = sym (texts_cons bytes r f.more) ∙ ap (values_at bytes) (sym f.is) ∙ t;
        next = ap (λ (p : ℕ). are_next (length bytes) p (used + r.length) (r ∷ before) f.more) (sym f.of) ∙ split.1;
      }

  -- a field's row is that of a record that joined the map
  record OwnFirst (used : ℕ) (before rs : List Record) (depth t : ℕ) (v : List ℕ) (rows : List Row) (texts : List ℕ) : Type 0 where
    r : Record
    lead : Leads used before rs (v ++ texts) Open r
    deep : r.depth ≡ depth
    tagged : r.tag ≡ t
    valued : value_at bytes r ≡ v
    behind : values_at bytes lead.more ≡ texts
    rowed : rows_behind part (r ∷ before) lead.more ≡ rows

  own_first : (used : ℕ) (before rs : List Record) (depth t : ℕ) (v : List ℕ) (rows : List Row) (texts : List ℕ)
      → are_next (length bytes) part used before rs ≡ true → values_at bytes rs ≡ v ++ texts → rows_behind part before rs ≡ row 1 (depth + 1) t (length v) ∷ rows
      → OwnFirst used before rs depth t v rows texts
  own_first used before rs depth t v rows texts ok q e =
      let f = first-row (length bytes) part used before rs 1 (depth + 1) t (length v) rows ok (λ p. omega (arith, p.0)) e in
      by_joins f (joins_of before f.head) refl f.lays
    where
      by_joins : (f : First part before rs (row 1 (depth + 1) t (length v) ∷ rows)) (j : Joins) → joins_of before f.head ≡ j
          → own_rows j f.head ++ rows_behind part (f.head ∷ before) f.more ≡ row 1 (depth + 1) t (length v) ∷ rows
          → OwnFirst used before rs depth t v rows texts
      by_joins f Open j l =
          let r = f.head in
          let first : row 1 (r.depth + 1) r.tag r.length ≡ row 1 (depth + 1) t (length v) = unfold own_rows in
          cc in let d : r.depth + 1 ≡ depth + 1 = cc in
          let s : r.length ≡ length v = cc in
          let lead = leads used before rs (v ++ texts) _ ok q f Open j in
          let w = split_same (value_at bytes r) v _ texts (value_size bytes r lead.inside ∙ s) lead.value in
          record { r = r; lead = lead; deep = omega arith; tagged = cc; valued = w.0; behind = w.1; rowed = unfold own_rows in cc }
      by_joins f (Entry start) j l =
          let z : row 2 f.head.depth start f.head.tag ≡ row 1 (depth + 1) t (length v) = unfold own_rows in
          cc in let y : ◌≡◌ {A = ℕ} 2 1 = cc in absurd (omega arith)
      by_joins f Nowhere j l = absurd (nowhere_not (leads used before rs (v ++ texts) _ ok q f Nowhere j).some)

  -- an entry's head is that of a record that began it, and that record's own row follows
  record EntryFirst (used : ℕ) (before rs : List Record) (depth s d : ℕ) (rows : List Row) (texts : List ℕ) : Type 0 where
    r : Record
    lead : Leads used before rs texts (Entry s) r
    deep : r.depth ≡ depth + 1
    tagged : r.tag ≡ d
    rowed : row 1 (depth + 1 + 1) r.tag r.length ∷ rows_behind part (r ∷ before) lead.more ≡ rows

  entry_first : (used : ℕ) (before rs : List Record) (depth s d : ℕ) (rows : List Row) (texts : List ℕ) → are_next (length bytes) part used before rs ≡ true
      → values_at bytes rs ≡ texts → rows_behind part before rs ≡ row 2 (depth + 1) s d ∷ rows → EntryFirst used before rs depth s d rows texts
  unfolding leads
  entry_first used before rs depth s d rows texts ok q e =
      let f = first-row (length bytes) part used before rs 2 (depth + 1) s d rows ok (λ p. omega (arith, p.1)) e in
      by_joins f (joins_of before f.head) refl f.lays
    where
      by_joins : (f : First part before rs (row 2 (depth + 1) s d ∷ rows)) (j : Joins) → joins_of before f.head ≡ j
          → own_rows j f.head ++ rows_behind part (f.head ∷ before) f.more ≡ row 2 (depth + 1) s d ∷ rows
          → EntryFirst used before rs depth s d rows texts
      by_joins f Open j l =
          let z : row 1 (f.head.depth + 1) f.head.tag f.head.length ≡ row 2 (depth + 1) s d = unfold own_rows in
          cc in let y : ◌≡◌ {A = ℕ} 1 2 = cc in absurd (omega arith)
      by_joins f (Entry start) j l =
          let r = f.head in
          let first : row 2 r.depth start r.tag ≡ row 2 (depth + 1) s d = unfold own_rows in
          cc in let others : row 1 (r.depth + 1) r.tag r.length ∷ rows_behind part (r ∷ before) f.more ≡ rows =
          unfold own_rows in cc in let deep : r.depth ≡ depth + 1 = cc in
          let same : start ≡ s = cc in
          record {
            r = r;
            lead = leads used before rs texts _ ok q f (Entry s) (j ∙ ap Entry same);
            deep = deep;
            tagged = cc;
            rowed = ap (λ (n : ℕ). row 1 (n + 1) r.tag r.length ∷ rows_behind part (r ∷ before) f.more) (sym deep) ∙ others;
          }
      by_joins f Nowhere j l = absurd (nowhere_not (leads used before rs texts _ ok q f Nowhere j).some)

  -- records that are laid as a map's rows, and then others
  pub record Back (depth number start entries : ℕ) (m : Map) (before rs : List Record) (tail : List Row) (texts : List ℕ) : Type 0 where
    pub own_records : List Record
    pub others : List Record
    pub is : rs ≡ own_records ++ others
    pub stands : Stands bytes part depth number start entries m own_records
    pub rowed : rows_behind part (passed before own_records) others ≡ tail
    pub behind : values_at bytes others ≡ texts
    pub used : ℕ
    pub next : are_next (length bytes) part used (passed before own_records) others ≡ true

  back_field : {depth number start entries used : ℕ} {before rs : List Record} {t : ℕ} {v : List ℕ} {rest : Map} {tail : List Row} {texts texts' : List ℕ}
      {rows : List Row} (o : OwnFirst used before rs depth t v rows texts')
      → o.r.number ≡ number
      → Back depth number o.r.tag 0 rest (o.r ∷ before) o.lead.more tail texts
      → Back depth number start entries (field t v rest) before rs tail texts
  unfolding passed
  back_field {depth} {number} {start} {entries} {before = before} {rest = rest} o n b =
      record {
        own_records = o.r ∷ b.own_records;
        others = b.others;
        is = o.lead.is ∙ ap (λ (l : List Record). o.r ∷ l) b.is;
        stands =
            rw (← o.tagged, ← o.valued) (own o.r (record { of = o.lead.of; deep = o.deep; numbered = n; inside = o.lead.inside }) b.stands);
        rowed = b.rowed;
        behind = b.behind;
        used = b.used;
        next = b.next;
      }

  -- an entry: its first record, its other fields, and what follows it
  module _ {depth number start entries used : ℕ} {before rs : List Record} (c : Context bytes part depth number start entries before) {d s : ℕ}
      {inner rest : Map} {v : List ℕ} {tail rows : List Row} {texts texts' : List ℕ} where
    back-entry : (e : EntryFirst used before rs depth s d rows texts') → (o : Own bytes part (depth + 1) (entries + 1) e.r) → s ≡ start
        → value_at bytes e.r ≡ v
        → {tail' : List Row} {texts'' : List ℕ} (b : Back (depth + 1) (entries + 1) e.r.tag 0 inner (e.r ∷ before) e.lead.more tail' texts'')
        → Back depth number start (entries + 1) rest (passed (e.r ∷ before) b.own_records) b.others tail texts
        → Back depth number start entries (entry s d (field d v inner) rest) before rs tail texts
    unfolding passed
    back-entry e o same value b f =
        let joined : passed (e.r ∷ before) (b.own_records ++ f.own_records) ≡ passed (passed (e.r ∷ before) b.own_records) f.own_records =
        passed-append (e.r ∷ before) b.own_records f.own_records in
        record {
          own_records = e.r ∷ (b.own_records ++ f.own_records);
          others = f.others;
          is =
              e.lead.is ∙ ap (λ (l : List Record). e.r ∷ l) (b.is ∙ ap (λ (l : List Record). b.own_records ++ l) f.is
              ∙ sym (append_assoc b.own_records f.own_records f.others));
          stands = rw (same, ← e.tagged, ← value) (in_entry e.r o b.stands f.stands);
          rowed = ap (λ (l : List Record). rows_behind part l f.others) joined ∙ f.rowed;
          behind = f.behind;
          used = f.used;
          next = ap (λ (l : List Record). are_next (length bytes) part f.used l f.others) joined ∙ f.next;
        }

  -- behind an entry's head stands its first field
  no_field : (depth : ℕ) (rest : Map) (tail : List Row) (t x : ℕ) (rows : List Row) → Lower (depth + 1) tail
      → row 1 (depth + 1 + 1) t x ∷ rows ≡ laid (depth + 1) rest ++ tail → ⊥
  unfolding laid
  no_field depth end tail t x rows lower-none e = let z : ◌≡◌ {A = ℕ} 0 1 = cc in omega arith
  no_field depth end tail t x rows (lower-row k l u y h) e =
      let f : row 1 (depth + 1 + 1) t x ≡ row k l u y = cc in let z : depth + 1 + 1 ≡ l = cc in omega arith
  no_field depth (field u v rest) tail t x rows h e =
      let f : row 1 (depth + 1 + 1) t x ≡ row 1 (depth + 1) u (length v) = cc in let z : depth + 1 + 1 ≡ depth + 1 = cc in omega arith
  no_field depth (entry s d inner rest) tail t x rows h e =
      let f : row 1 (depth + 1 + 1) t x ≡ row 2 (depth + 1) s d = cc in let z : ◌≡◌ {A = ℕ} 1 2 = cc in omega arith

  pub back : (depth number start entries used : ℕ) (m : Map) (before rs : List Record) (tail : List Row) (texts : List ℕ) → (depth ≡ 0 → number ≡ 0)
      → Context bytes part depth number start entries before → are_next (length bytes) part used before rs ≡ true
      → rows_behind part before rs ≡ laid (depth + 1) m ++ tail → values_at bytes rs ≡ values_in m ++ texts → Lower (depth + 1) tail
      → Back depth number start entries m before rs tail texts
  unfolding laid values_in passed
  back depth number start entries used end before rs tail texts top c ok e q low =
      record { own_records = []; others = rs; is = refl; stands = no_more; rowed = e; behind = q; used = used; next = ok }
  back depth number start entries used (field t v rest) before rs tail texts top c ok e q low =
      let o = own_first used before rs depth t v (laid (depth + 1) rest ++ tail) (values_in rest ++ texts) ok (q ∙ append_assoc v (values_in rest) texts) e in
      let r = o.r in
      let n = open_number bytes part r c o.lead.of o.deep top o.lead.joins in
      let own-it : Own bytes part depth number r = record { of = o.lead.of; deep = o.deep; numbered = n; inside = o.lead.inside } in
      back_field o n (back depth number r.tag 0 (used + r.length) rest (r ∷ before) o.lead.more tail texts top
      (own_context bytes part r before own-it) o.lead.next o.rowed o.behind low)
  back depth number start entries used (entry s d end rest) before rs tail texts top c ok e q low =
      let f = entry_first used before rs depth s d (laid (depth + 1) rest ++ tail) _ ok q e in
      absurd (no_field depth rest tail _ _ _ low f.rowed)
  back depth number start entries used (entry s d (entry s' d' inner' rest') rest) before rs tail texts top c ok e q low =
      let f = entry_first used before rs depth s d _ _ ok q e in
      let g : row 1 (depth + 1 + 1) f.r.tag f.r.length ≡ row 2 (depth + 1 + 1) s' d' = let h = f.rowed in cc in
      let z : ◌≡◌ {A = ℕ} 1 2 = cc in absurd (omega arith)
  back depth number start entries used (entry s d (field t v inner) rest) before rs tail texts top c ok e q low =
      let f =
      entry_first used before rs depth s d ((row 1 (depth + 1 + 1) t (length v) ∷ (laid (depth + 1 + 1) inner ++ laid (depth + 1) rest)) ++ tail) _ ok q e in
      let r = f.r in
      let n = entry_number bytes part r c f.lead.of s f.deep f.lead.joins in
      let o : Own bytes part (depth + 1) (entries + 1) r = record { of = f.lead.of; deep = f.deep; numbered = n.0; inside = f.lead.inside } in
      let rowed : row 1 (depth + 1 + 1) r.tag r.length ∷ rows_behind part (r ∷ before) f.lead.more
      ≡ row 1 (depth + 1 + 1) t (length v) ∷ ((laid (depth + 1 + 1) inner ++ laid (depth + 1) rest) ++ tail) =
      f.rowed in
      let first : row 1 (depth + 1 + 1) r.tag r.length ≡ row 1 (depth + 1 + 1) t (length v) = cc in
      let tag : r.tag ≡ t = cc in
      let size : r.length ≡ length v = cc in
      let rows : rows_behind part (r ∷ before) f.lead.more ≡ laid (depth + 1 + 1) inner ++ (laid (depth + 1) rest ++ tail) =
      (let g : rows_behind part (r ∷ before) f.lead.more ≡ (laid (depth + 1 + 1) inner ++ laid (depth + 1) rest) ++ tail = cc in g)
      ∙ append_assoc (laid (depth + 1 + 1) inner) (laid (depth + 1) rest) tail in
      let w =
      split_same (value_at bytes r) v _ (values_in inner ++ (values_in rest ++ texts)) (value_size bytes r o.inside ∙ size)
      (f.lead.value ∙ append_assoc (v ++ values_in inner) (values_in rest) texts ∙ append_assoc v (values_in inner) (values_in rest ++ texts)) in
      let opened = own_context bytes part r before o in
      let b =
      back (depth + 1) (entries + 1) r.tag 0 (used + r.length) inner (r ∷ before) f.lead.more (laid (depth + 1) rest ++ tail) (values_in rest ++ texts)
      (λ z. absurd (omega arith)) opened f.lead.next rows w.1 (lower-laid (depth + 1) rest tail low) in
      let after = past_map bytes part b.stands (r ∷ before) opened in
      let g =
      back depth number start (entries + 1) b.used rest (passed (r ∷ before) b.own_records) b.others tail texts top
      (past_entry bytes part r c o b.stands after) b.next b.rowed b.behind low in
      finish f o n.1 w.0 tag b g
    where
      finish : {rows : List Row} {texts' : List ℕ} (f : EntryFirst used before rs depth s d rows texts') (o : Own bytes part (depth + 1) (entries + 1) f.r)
          → s ≡ start → value_at bytes f.r ≡ v → f.r.tag ≡ t
          → {tail' : List Row} {texts'' : List ℕ} (b : Back (depth + 1) (entries + 1) f.r.tag 0 inner (f.r ∷ before) f.lead.more tail' texts'')
          → Back depth number start (entries + 1) rest (passed (f.r ∷ before) b.own_records) b.others tail texts
          → Back depth number start entries (entry s d (field t v inner) rest) before rs tail texts
      finish f o same value tag b g =
          let k : t ≡ d = sym tag ∙ f.tagged in
          rw k (back-entry c f o same value b g)

  -- a part's own map, behind other parts: no record of it can join an entry first
  pub part-back : (used : ℕ) (m : Map) (before rs : List Record) (tail : List Row) (texts : List ℕ)
      → ((depth : ℕ) (q : Record) → nearest_in depth before ≡ Some q → q.part < part) → are_next (length bytes) part used before rs ≡ true
      → rows_behind part before rs ≡ laid 1 m ++ tail → values_at bytes rs ≡ values_in m ++ texts → Lower 1 tail → Back 0 0 0 0 m before rs tail texts
  unfolding laid values_in passed
  part-back used end before rs tail texts earlier ok e q low =
      record { own_records = []; others = rs; is = refl; stands = no_more; rowed = e; behind = q; used = used; next = ok }
  part-back used (field t v rest) before rs tail texts earlier ok e q low =
      let o = own_first used before rs 0 t v (laid 1 rest ++ tail) (values_in rest ++ texts) ok (q ∙ append_assoc v (values_in rest) texts) e in
      let r = o.r in
      let n = open_top before r o.deep o.lead.joins in
      let own-it : Own bytes part 0 0 r = record { of = o.lead.of; deep = o.deep; numbered = n; inside = o.lead.inside } in
      back_field o n (back 0 0 r.tag 0 (used + r.length) rest (r ∷ before) o.lead.more tail texts (λ z. refl) (own_context bytes part r before own-it)
      o.lead.next o.rowed o.behind low)
  part-back used (entry s d inner rest) before rs tail texts earlier ok e q low =
      let f = entry_first used before rs 0 s d _ _ ok q e in
      absurd (by_nearest f (nearest_in f.r.depth before) refl)
    where
      by_nearest : {rows : List Row} {texts' : List ℕ} (f : EntryFirst used before rs 0 s d rows texts') (n : Option Record) → nearest_in f.r.depth before ≡ n
          → ⊥
      by_nearest f None n =
          let j = sym f.lead.joins ∙ joins-first before f.r (λ z. omega (arith, z, f.deep)) n in let y : ◌≡◌ {A = ℕ} 0 1 = cc in omega arith
      by_nearest f (Some p) n =
          let j =
          sym f.lead.joins ∙ joins-other before f.r (λ z. omega (arith, z, f.deep)) p n
          (λ z. omega (arith, z, earlier f.r.depth p n, f.lead.of)) in
          let y : ◌≡◌ {A = ℕ} 0 1 = cc in
          omega arith
