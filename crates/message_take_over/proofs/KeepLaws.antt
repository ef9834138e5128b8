-- What is taken over has the records that were given: the message that is left is the one that they stand for.
use Rattle.std.proofs.Math.Path.{◌≡◌, ap}
use Rattle.std.specs.Prelude.{refl, Bool, length, leb}
use Rattle.std.proofs.Common.{sym, ◌∙◌, Some}
use Rattle.std.proofs.Math.Bool.{true, false}
use mathlib.Core.List.{List, [], ◌∷◌, ◌++◌, append-nil}
use Prim.Native.Nat.{ℕ, zero, suc, ◌+◌, ◌-◌, ◌≤◌, ◌<◌}
use native.Mathlib.Omega.{arith}
use Rattle.field_rules.specs.Choice.{pick}
use Rattle.build_records.specs.declared.Record.{Record}
use Rattle.message_maps.specs.Map.{Map, values_in}
use Rattle.message_maps.specs.Rows.{Row, row, laid}
use Rattle.message_lent_rules.specs.LentLaws.{both}
use Rattle.message_lent_rules.specs.Meaning.{Message, parts}
use Rattle.message_take_over.specs.declared.Joins.{Joins}
use Rattle.message_take_over.specs.declared.Joins.TheVariants.{Open, Entry, Nowhere}
use Rattle.message_take_over.specs.Taking.{nearest_in, joins_of, is_joined, is_next, are_next, part_heads, own_rows, record_rows, rows_behind, rows_of, values_at}
use Rattle.message_take_over.specs.StepLaws.{next_is}
use Rattle.message_take_over.specs.Derived.{Stands, no_more, own, in_entry, StandFor}
use Rattle.message_take_over.specs.StandLaws.{passed, passed-append}
use Rattle.message_take_over.proofs.BackLaws.{entry-deep}
use Rattle.message_take_over.proofs.MapBackLaws.{next_cons, nowhere_not, lower-none, lower-row, part-back}
use Rattle.message_take_over.proofs.TakenLaws.{Later, later-none, later-some, rows_open, next_open}

-- every record before is of a part or an earlier one
record UpTo (part : ℕ) (before : List Record) : Type 0 where
  up_to : (depth : ℕ) (q : Record) → nearest_in depth before ≡ Some q → q.part ≤ part

up_to-none : (part : ℕ) → UpTo part []
up_to-none part = record { up_to = λ depth q e. let z : ◌≡◌ {A = ℕ} 0 1 = unfold nearest_in in cc in absurd (omega arith) }

up_to_record : (part : ℕ) (r : Record) (before : List Record) → r.part ≤ part → UpTo part before → UpTo part (r ∷ before)
up_to_record part r before h u = record { up_to = λ depth q e. by_test depth q (leb r.depth depth) (unfold nearest_in in e) }
  where
    by_test : (depth : ℕ) (q : Record) (b : Bool) → pick b (Some r) (nearest_in depth before) ≡ Some q → q.part ≤ part
    by_test depth q true e = let same : r ≡ q = cc in omega (arith, ap (λ (x : Record). x.part) same)
    by_test depth q false e = u.up_to depth q e

up_to_past : {bytes : List ℕ} {part depth number start entries : ℕ} {m : Map} {rs : List Record} → Stands bytes part depth number start entries m rs
    → (before : List Record) → UpTo part before → UpTo part (passed before rs)
unfolding passed
up_to_past no_more before u = u
up_to_past {part = part} (own r o more) before u = up_to_past more (r ∷ before) (up_to_record part r before (omega (arith, o.of)) u)
up_to_past {part = part} (in_entry {rs = rs} {ss = ss} r o inner more) before u =
    same (sym (passed-append (r ∷ before) rs ss))
    (up_to_past more (passed (r ∷ before) rs) (up_to_past inner (r ∷ before) (up_to_record part r before (omega (arith, o.of)) u)))
  where
    same : {a b : List Record} → a ≡ b → UpTo part a → UpTo part b
    same e v = rw (← e) v

up_to-next : (part next : ℕ) (before : List Record) → part ≤ next → UpTo part before → UpTo next before
up_to-next part next before h u = record { up_to = λ depth q e. omega (arith, u.up_to depth q e) }

-- where a part's head comes next, the next record is of that part or a later one
own_not_head : (size part used : ℕ) (before : List Record) (r : Record) (rs : List Record) (rows more : List Row) (p : ℕ)
    → are_next size part used before (r ∷ rs) ≡ true → own_rows (joins_of before r) r ++ more ≡ row 2 0 p 0 ∷ rows → ⊥
own_not_head size part used before r rs rows more p ok e = by_joins (joins_of before r) refl e
  where
    joined : is_joined (joins_of before r) ≡ true
    joined = (next_is size part used before r (both (is_next size part used before r) _ (sym (next_cons size part used before r rs) ∙ ok)).0).joined

    by_joins : (j : Joins) → joins_of before r ≡ j → own_rows j r ++ more ≡ row 2 0 p 0 ∷ rows → ⊥
    by_joins Open j e = let f : row 1 (r.depth + 1) r.tag r.length ≡ row 2 0 p 0 = unfold own_rows in cc in let z : ◌≡◌ {A = ℕ} 1 2 = cc in omega arith
    by_joins (Entry start) j e =
        let f : row 2 r.depth start r.tag ≡ row 2 0 p 0 = unfold own_rows in cc in let z : r.depth ≡ 0 = cc in entry-deep before r start j z
    by_joins Nowhere j e = nowhere_not (ap is_joined (sym j) ∙ joined)

later-next : (size part used : ℕ) (before rs : List Record) (rows : List Row) (p : ℕ) → are_next size part used before rs ≡ true
    → rows_behind part before rs ≡ row 2 0 p 0 ∷ rows → Later (part + 1) rs
later-next size part used before [] rows p ok e = later-none
later-next size part used before (r ∷ rs) rows p ok e = by_heads (r.part - part) refl (unfold rows_behind record_rows in e)
  where
    by_heads : (n : ℕ) → r.part - part ≡ n → (part_heads n part ++ own_rows (joins_of before r) r) ++ rows_behind r.part (r ∷ before) rs ≡ row 2 0 p 0 ∷ rows
        → Later (part + 1) (r ∷ rs)
    by_heads zero n e = absurd (own_not_head size part used before r rs rows (rows_behind r.part (r ∷ before) rs) p ok (unfold part_heads in e))
    by_heads (suc m) n e = later-some {r = r} {rs = rs} (omega arith)

-- and where nothing comes next, there is none
none-next : (size part used : ℕ) (before rs : List Record) → are_next size part used before rs ≡ true → rows_behind part before rs ≡ [] → rs ≡ []
none-next size part used before [] ok e = refl
none-next size part used before (r ∷ rs) ok e = absurd (by_heads (r.part - part) (joins_of before r) refl (unfold rows_behind record_rows in e))
  where
    joined : is_joined (joins_of before r) ≡ true
    joined = (next_is size part used before r (both (is_next size part used before r) _ (sym (next_cons size part used before r rs) ∙ ok)).0).joined

    by_heads : (n : ℕ) (j : Joins) → joins_of before r ≡ j → (part_heads n part ++ own_rows j r) ++ rows_behind r.part (r ∷ before) rs ≡ [] → ⊥
    by_heads zero Open j e = let z : ◌≡◌ {A = ℕ} 0 1 = unfold part_heads own_rows in cc in omega arith
    by_heads zero (Entry start) j e = let z : ◌≡◌ {A = ℕ} 0 1 = unfold part_heads own_rows in cc in omega arith
    by_heads zero Nowhere j e = nowhere_not (ap is_joined (sym j) ∙ joined)
    by_heads (suc n) k j e = let z : ◌≡◌ {A = ℕ} 0 1 = unfold part_heads in cc in omega arith

-- the three parts, one behind the other
module _ (bytes : List ℕ) where
  opens : (part used : ℕ) (before rs : List Record) (rows : List Row) → part < 3 → are_next (length bytes) part used before rs ≡ true
      → rows_behind part before rs ≡ row 2 0 (part + 1) 0 ∷ rows
      → (are_next (length bytes) (part + 1) used before rs ≡ true) × (rows_behind (part + 1) before rs ≡ rows)
  opens part used before rs rows h ok e =
      let l = later-next (length bytes) part used before rs rows (part + 1) ok e in
      let q : row 2 0 (part + 1) 0 ∷ rows_behind (part + 1) before rs ≡ row 2 0 (part + 1) 0 ∷ rows = sym (rows_open part before rs h l) ∙ e in
      (sym (next_open (length bytes) part used before rs l) ∙ ok, cc)

  pub stand_back : (m : Message) (rs : List Record) → are_next (length bytes) 1 0 [] rs ≡ true → rows_of rs ≡ laid 0 (parts m)
      → values_at bytes rs ≡ values_in (parts m) → StandFor bytes m rs
  stand_back m rs ok e q =
      let third = laid 1 m.trailer ++ [] in
      let second = laid 1 m.body ++ (row 2 0 3 0 ∷ third) in
      let rows : rows_behind 1 [] rs ≡ laid 1 m.header ++ (row 2 0 2 0 ∷ second) = behind_head (unfold rows_of parts laid in e) in
      let texts : values_at bytes rs ≡ values_in m.header ++ (values_in m.body ++ (values_in m.trailer ++ [])) = unfold parts values_in in q in let h =
      part-back bytes 1 0 m.header [] rs (row 2 0 2 0 ∷ second) (values_in m.body ++ (values_in m.trailer ++ []))
      (λ depth p n. omega (arith, (up_to-none 0).up_to depth p n)) ok rows texts (lower-row 2 0 2 0 (omega arith)) in
      let u = up_to_past h.stands [] (up_to-none 1) in
      let a = opens 1 h.used (passed [] h.own_records) h.others second (omega arith) h.next h.rowed in
      let b =
      part-back bytes 2 h.used m.body (passed [] h.own_records) h.others (row 2 0 3 0 ∷ third) (values_in m.trailer ++ [])
      (λ depth p n. omega (arith, u.up_to depth p n)) a.0 a.1 h.behind (lower-row 2 0 3 0 (omega arith)) in
      let w = up_to_past b.stands (passed [] h.own_records) (up_to-next 1 2 _ (omega arith) u) in
      let c = opens 2 b.used (passed (passed [] h.own_records) b.own_records) b.others third (omega arith) b.next b.rowed in
      let t =
      part-back bytes 3 b.used m.trailer (passed (passed [] h.own_records) b.own_records) b.others [] []
      (λ depth p n. omega (arith, w.up_to depth p n)) c.0 c.1 b.behind lower-none in
      let none : t.others ≡ [] = none-next (length bytes) 3 t.used _ t.others t.next t.rowed in
      record {
        of_header = h.own_records;
        of_body = b.own_records;
        of_trailer = t.own_records;
        all =
            h.is ∙ ap (λ (l : List Record). h.own_records ++ l)
            (b.is ∙ ap (λ (l : List Record). b.own_records ++ l) (t.is ∙ ap (λ (l : List Record). t.own_records ++ l) none
            ∙ append-nil t.own_records));
        header = h.stands;
        body = b.stands;
        trailer = t.stands;
      }
    where
      behind_head : {a b : List Row} → row 2 0 1 0 ∷ a ≡ row 2 0 1 0 ∷ b → a ≡ b
      behind_head e = cc
