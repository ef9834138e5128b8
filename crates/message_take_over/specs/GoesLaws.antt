-- Records that stand for a map are laid as its rows, and each may come next.
use Rattle.std.proofs.Math.Path.{◌≡◌, refl, sym, ap}
use Rattle.std.proofs.Common.{◌∙◌, length-append, length-take, length-drop}
use Rattle.std.specs.Prelude.{true, ℕ, ◌+◌, ◌-◌, ◌≤◌, length}
use mathlib.Core.List.{List, [], ◌∷◌, ◌++◌, append_assoc}
use native.Mathlib.Omega.{arith}
use borrow.Author.Tests.{le-leb}
use Rattle.build_records.specs.Records.{value_at}
use Rattle.build_records.specs.declared.Record.{Record}
use Rattle.message_maps.specs.Map.{Map, field, entry, values_in}
use Rattle.message_maps.specs.Rows.{Row, row, laid}
use Rattle.message_lent_rules.specs.Formed.{is_formed}
use Rattle.message_take_over.specs.declared.Joins.{Joins}
use Rattle.message_take_over.specs.declared.Joins.TheVariants.{Open, Entry}
use Rattle.message_take_over.specs.Taking.{joins_of, is_joined, has_room, is_next, are_next, part_heads, own_rows, record_rows, rows_behind, values_at}
use Rattle.message_take_over.specs.LayingLaws.{heads-none}
use Rattle.message_take_over.specs.JoinLaws.{joins-own}
use Rattle.message_take_over.specs.Derived.{Own, Stands, no_more, own, in_entry}
use Rattle.message_take_over.specs.StandLaws.{passed, passed-append, Context, own_context, own-joins, entry-joins, past_entry, past_map}

module _ (bytes : List ℕ) where
  pub texts_append : (rs ss : List Record) → values_at bytes (rs ++ ss) ≡ values_at bytes rs ++ values_at bytes ss
  unfolding values_at
  texts_append [] ss = refl
  texts_append (r ∷ rs) ss =
      ap (λ (l : List ℕ). value_at bytes r ++ l) (texts_append rs ss) ∙ sym (append_assoc (value_at bytes r) (values_at bytes rs) (values_at bytes ss))

  -- the values are those of the map
  pub stand_texts : {part depth number start entries : ℕ} {m : Map} {rs : List Record} → Stands bytes part depth number start entries m rs
      → values_at bytes rs ≡ values_in m
  unfolding values_at values_in
  stand_texts no_more = refl
  stand_texts (own r o more) = ap (λ (l : List ℕ). value_at bytes r ++ l) (stand_texts more)
  stand_texts (in_entry {inner = inner} {rest = rest} {rs = rs} {ss = ss} r o in-it more) =
      ap (λ (l : List ℕ). value_at bytes r ++ l) (texts_append rs ss)
      ∙ rw (stand_texts in-it, stand_texts more) (sym (append_assoc (value_at bytes r) (values_in inner) (values_in rest)))

  pub value_size : (r : Record) → r.place + r.length ≤ length bytes → length (value_at bytes r) ≡ r.length
  unfolding value_at
  value_size r h = simp (length-take, length-drop) (omega arith)

  module _ (part : ℕ) (last : part ≤ 3) where
    -- records of a part are laid as rows, and each may come next where their values have room
    pub record Goes (before rs : List Record) (rows : List Row) : Type 0 where
      pub rowed : (tail : List Record) → rows_behind part before (rs ++ tail) ≡ rows ++ rows_behind part (passed before rs) tail
      pub nexts : (used : ℕ) (tail : List Record) → used + length (values_at bytes rs) ≤ 8192
          → are_next (length bytes) part used before (rs ++ tail) ≡ are_next (length bytes) part (used + length (values_at bytes rs)) (passed before rs) tail

    goes_none : (before : List Record) → Goes before [] []
    goes_none before =
        record { rowed = λ tail. unfold passed in refl; nexts = λ used tail h. unfold passed values_at in (let e : used + 0 ≡ used = omega arith in rw e) }

    goes-append : {before rs ss : List Record} {x y : List Row} → Goes before rs x → Goes (passed before rs) ss y → Goes before (rs ++ ss) (x ++ y)
    goes-append {before} {rs} {ss} {x} {y} f g = record { rowed = rowed-both; nexts = nexts_both }
      where
        rowed-both : (tail : List Record) → rows_behind part before ((rs ++ ss) ++ tail) ≡ (x ++ y) ++ rows_behind part (passed before (rs ++ ss)) tail
        rowed-both tail =
            ap (rows_behind part before) (append_assoc rs ss tail) ∙ f.rowed (ss ++ tail) ∙ ap (λ (l : List Row). x ++ l) (g.rowed tail)
            ∙ sym (append_assoc x y (rows_behind part (passed (passed before rs) ss) tail))
            ∙ ap (λ (b : List Record). (x ++ y) ++ rows_behind part b tail) (sym (passed-append before rs ss))

        nexts_both : (used : ℕ) (tail : List Record) → used + length (values_at bytes (rs ++ ss)) ≤ 8192
            → are_next (length bytes) part used before ((rs ++ ss) ++ tail)
            ≡ are_next (length bytes) part (used + length (values_at bytes (rs ++ ss))) (passed before (rs ++ ss)) tail
        nexts_both used tail h =
            let n : length (values_at bytes (rs ++ ss)) ≡ length (values_at bytes rs) + length (values_at bytes ss) =
            ap length (texts_append rs ss) ∙ length-append (values_at bytes rs) (values_at bytes ss) in
            let e : used + length (values_at bytes rs) + length (values_at bytes ss) ≡ used + length (values_at bytes (rs ++ ss)) = omega (arith, n) in
            ap (are_next (length bytes) part used before) (append_assoc rs ss tail)
            ∙ f.nexts used (ss ++ tail) (omega (arith, n))
            ∙ g.nexts (used + length (values_at bytes rs)) tail (omega (arith, n))
            ∙ rw (e, passed-append before rs ss)

    -- one record that joins something
    row_step : (before : List Record) (r : Record) (rs : List Record) (j : Joins) → joins_of before r ≡ j → r.part ≡ part
        → rows_behind part before (r ∷ rs) ≡ own_rows j r ++ rows_behind part (r ∷ before) rs
    unfolding rows_behind record_rows
    row_step before r rs j e p =
        ap (λ (k : Joins). (part_heads (r.part - part) part ++ own_rows k r) ++ rows_behind r.part (r ∷ before) rs) e
        ∙ ap (λ (q : ℕ). (part_heads (q - part) part ++ own_rows j r) ++ rows_behind q (r ∷ before) rs) p
        ∙ ap (λ (l : List Row). (l ++ own_rows j r) ++ rows_behind part (r ∷ before) rs) (heads-none part)

    record_next : (used : ℕ) (before : List Record) (r : Record) (j : Joins) → joins_of before r ≡ j → is_joined j ≡ true → r.part ≡ part
        → r.place + r.length ≤ length bytes → used + r.length ≤ 8192 → is_next (length bytes) part used before r ≡ true
    unfolding is_next has_room
    record_next used before r j e joined p inside room =
        rw (
          le-leb part r.part (omega arith),
          le-leb r.part 3 (omega arith),
          le-leb (r.place + r.length) (length bytes) inside,
          le-leb (used + r.length) 8192 room,
        ) (ap is_joined e ∙ joined)

    next-step : (used : ℕ) (before : List Record) (r : Record) (rs : List Record) → is_next (length bytes) part used before r ≡ true → r.part ≡ part
        → are_next (length bytes) part used before (r ∷ rs) ≡ are_next (length bytes) part (used + r.length) (r ∷ before) rs
    unfolding are_next
    next-step used before r rs ok p = rw ok (ap (λ (q : ℕ). are_next (length bytes) q (used + r.length) (r ∷ before) rs) p)

    goes_record : {depth number : ℕ} {before rs : List Record} {rows : List Row} (r : Record) (j : Joins) → joins_of before r ≡ j → is_joined j ≡ true
        → Own bytes part depth number r → Goes (r ∷ before) rs rows → Goes before (r ∷ rs) (own_rows j r ++ rows)
    unfolding passed values_at
    goes_record {before = before} {rs = rs} {rows = rows} r j e joined o g = record { rowed = rowed-one; nexts = nexts_one }
      where
        rowed-one : (tail : List Record) → rows_behind part before (r ∷ (rs ++ tail)) ≡ (own_rows j r ++ rows) ++ rows_behind part (passed (r ∷ before) rs) tail
        rowed-one tail =
            row_step before r (rs ++ tail) j e o.of ∙ ap (λ (l : List Row). own_rows j r ++ l) (g.rowed tail) ∙ sym (append_assoc (own_rows j r) rows _)

        nexts_one : (used : ℕ) (tail : List Record) → used + length (value_at bytes r ++ values_at bytes rs) ≤ 8192
            → are_next (length bytes) part used before (r ∷ (rs ++ tail))
            ≡ are_next (length bytes) part (used + length (value_at bytes r ++ values_at bytes rs)) (passed (r ∷ before) rs) tail
        nexts_one used tail h =
            let n : length (value_at bytes r ++ values_at bytes rs) ≡ r.length + length (values_at bytes rs) =
            length-append (value_at bytes r) (values_at bytes rs) ∙ ap (λ (k : ℕ). k + length (values_at bytes rs)) (value_size r o.inside) in
            let f : used + r.length + length (values_at bytes rs) ≡ used + length (value_at bytes r ++ values_at bytes rs) = omega (arith, n) in
            next-step used before r (rs ++ tail) (record_next used before r j e joined o.of o.inside (omega (arith, n))) o.of
            ∙ g.nexts (used + r.length) tail (omega (arith, n))
            ∙ ap (λ (k : ℕ). are_next (length bytes) part k (passed (r ∷ before) rs) tail) f

    laid-length : (r : Record) (level : ℕ) → r.place + r.length ≤ length bytes
        → row 1 level r.tag r.length ≡ row 1 level r.tag (length (value_at bytes r))
    laid-length r level h = ap (row 1 level r.tag) (sym (value_size r h))

    open_rows : {depth number : ℕ} (r : Record) (rest : Map) → Own bytes part depth number r
        → own_rows Open r ++ laid (depth + 1) rest ≡ laid (depth + 1) (field r.tag (value_at bytes r) rest)
    unfolding own_rows laid
    open_rows {depth} r rest o =
        ap (λ (d : ℕ). row 1 (d + 1) r.tag r.length ∷ laid (depth + 1) rest) o.deep
        ∙ ap (λ (x : Row). x ∷ laid (depth + 1) rest) (laid-length r (depth + 1) o.inside)

    entry_rows : (depth start : ℕ) {number : ℕ} (r : Record) (inner rest : Map) → Own bytes part (depth + 1) number r
        → own_rows (Entry start) r ++ (laid (depth + 1 + 1) inner ++ laid (depth + 1) rest)
        ≡ laid (depth + 1) (entry start r.tag (field r.tag (value_at bytes r) inner) rest)
    unfolding own_rows laid
    entry_rows depth start r inner rest o =
        ap (λ (d : ℕ). row 2 d start r.tag ∷ row 1 (d + 1) r.tag r.length ∷ (laid (depth + 1 + 1) inner ++ laid (depth + 1) rest)) o.deep
        ∙ ap (λ (x : Row). row 2 (depth + 1) start r.tag ∷ x ∷ (laid (depth + 1 + 1) inner ++ laid (depth + 1) rest))
        (laid-length r (depth + 1 + 1) o.inside)

    map-goes : {depth number start entries : ℕ} {m : Map} {rs : List Record} → Stands bytes part depth number start entries m rs → (depth ≡ 0 → number ≡ 0)
        → (before : List Record) → Context bytes part depth number start entries before → Goes before rs (laid (depth + 1) m)
    map-goes no_more top before c = unfold laid in goes_none before
    map-goes (own {rest = rest} r o more) top before c =
        rw (← (open_rows r rest o)) (goes_record r Open (own-joins bytes part r c o top) (unfold is_joined in refl) o
        (map-goes more top (r ∷ before) (own_context bytes part r before o)))
    map-goes (in_entry {depth = depth} {start = start} {inner = inner} {rest = rest} {rs = rs} r o in-it more) top before c =
        let opened = own_context bytes part r before o in
        let a = past_map bytes part in-it (r ∷ before) opened in
        rw (← (entry_rows depth start r inner rest o))
        (goes_record r (Entry start) (entry-joins bytes part r c o) (unfold is_joined in refl) o
        (goes-append (map-goes in-it (λ z. absurd (omega arith)) (r ∷ before) opened)
        (map-goes more top (passed (r ∷ before) rs) (past_entry bytes part r c o in-it a))))

    -- a part's own map, behind whatever parts came before
    pub part-goes : {m : Map} {rs : List Record} → Stands bytes part 0 0 0 0 m rs → is_formed m ≡ true → (before : List Record) → Goes before rs (laid 1 m)
    part-goes no_more f before = unfold laid in goes_none before
    part-goes (own {rest = rest} r o more) f before =
        rw (← (open_rows r rest o)) (goes_record r Open (joins-own before r o.deep o.numbered) (unfold is_joined in refl) o
        (map-goes more (λ z. refl) (r ∷ before) (own_context bytes part r before o)))
    part-goes (in_entry r o in-it more) f before = let z : ◌≡◌ {A = ℕ} 0 1 = unfold is_formed in cc in absurd (omega arith)
