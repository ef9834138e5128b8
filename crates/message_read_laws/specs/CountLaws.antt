-- Each field that is read goes into the records, and what is left to read grows less by as much.
use Rattle.std.specs.Prelude.{◌≡◌, refl, Bool, true, false, List, [], ◌∷◌, ◌++◌, ℕ, zero, suc, ◌+◌, ◌-◌, ◌≤◌, take, drop, eqb, Ok}
use Rattle.std.proofs.Common.{sym, ap, ◌∙◌, arith, length-append, take-append-drop}
use Rattle.std.proofs.Math.ListN.{length}
use Rattle.field_rules.proofs.SpelledLaws.{step-tag}
use Rattle.field_rules.specs.declared.Mode.{Mode}
use Rattle.field_rules.specs.Choice.{pick}
use Rattle.field_rules.specs.Field.{field_at}
use Rattle.field_rules.proofs.FieldsLaws.{step-lies, by_fields, step-inside, each_read}
use Rattle.field_rules.specs.Fields.{Fields, field, fields_from, Each, each_field}
use Rattle.field_rules.specs.declared.Cursor.{Cursor}
use Rattle.field_rules.specs.declared.Field.{Field}
use Rattle.std.proofs.lemmas.Bool.{eqb-false}
use Rattle.build_records.specs.Records.{stored}
use Rattle.build_records.specs.declared.Record.{Record}
use Rattle.build_group_rules.specs.Reading.{joined_list}
use Rattle.build_nesting_laws.specs.Entries.{all_none, all_more, all_append, all-stored}
use Rattle.message_read_laws.specs.ShapeLaws.{all_left, all_right}
use Rattle.message_read_laws.specs.Counting.{total, budget, Fine, Of, Counts, Grows}

pub total-append : (rs ss : List Record) → total (rs ++ ss) ≡ total rs + total ss
unfolding total
total-append [] ss = omega arith
total-append (r ∷ rs) ss = omega (arith, total-append rs ss)

-- three ways to keep a record
stored_longer : (r : Record) (rs : List Record) → length (stored r rs) ≤ length rs + 1
unfolding stored
stored_longer r [] = omega arith
stored_longer r (x ∷ rs) = by_tests (eqb x.depth r.depth) (eqb x.tag r.tag) (stored_longer r rs)
  where
    by_tests : (d t : Bool) → length (stored r rs) ≤ length rs + 1
        → length (pick d (pick t (r ∷ rs) (x ∷ stored r rs)) (x ∷ stored r rs)) ≤ length (x ∷ rs) + 1
    by_tests true true h = omega arith
    by_tests true false h = omega arith
    by_tests false t h = omega arith

stored-larger : (r : Record) (rs : List Record) → total (stored r rs) ≤ total rs + r.length
unfolding stored total
stored-larger r [] = omega arith
stored-larger r (x ∷ rs) = by_tests (eqb x.depth r.depth) (eqb x.tag r.tag) (stored-larger r rs)
  where
    by_tests : (d t : Bool) → total (stored r rs) ≤ total rs + r.length
        → total (pick d (pick t (r ∷ rs) (x ∷ stored r rs)) (x ∷ stored r rs)) ≤ x.length + total rs + r.length
    by_tests true true h = omega arith
    by_tests true false h = omega arith
    by_tests false t h = omega arith

pub grows_stored : (r : Record) (rs : List Record) → Grows r rs (stored r rs)
grows_stored r rs =
    record { tags = λ t a. all-stored _ r t a; places = λ message part p a. all-stored _ r p a; longer = stored_longer r rs; larger = stored-larger r rs }

pub grows_last : (r : Record) (rs : List Record) → Grows r rs (rs ++ (r ∷ []))
grows_last r rs =
    record {
      tags = λ t a. all_append _ a (all_more t all_none);
      places = λ message part p a. all_append _ a (all_more p all_none);
      longer = omega (arith, length-append rs (r ∷ []));
      larger = (unfold total in omega (arith, total-append rs (r ∷ [])));
    }

pub grows_joined : (start : ℕ) (r : Record) (rs : List Record) → Grows r rs (joined_list start r rs)
unfolding joined_list
grows_joined start r rs =
    let before = take start rs in
    let own = drop start rs in
    let whole : before ++ own ≡ rs = take-append-drop start rs in
    let n = ap length whole in
    let t = ap total whole in
    record {
      tags = λ p a. all_append _ (all_left before own (rw (sym whole) at a)) (all-stored _ r p (all_right before own (rw (sym whole) at a)));
      places = λ message part p a. all_append _ (all_left before own (rw (sym whole) at a)) (all-stored _ r p (all_right before own (rw (sym whole) at a)));
      longer = omega (arith, n, length-append before own, length-append before (stored r own), stored_longer r own);
      larger = omega (arith, t, total-append before own, total-append before (stored r own), stored-larger r own);
    }

-- a field is read, and goes into the records
pub first_fine : {message : List ℕ} {f : Field} {rest : Fields} → Each (Fine message) (field f rest) → Fine message f
first_fine (each_field p e) = p

pub rest_fine : {message : List ℕ} {f : Field} {rest : Fields} → Each (Fine message) (field f rest) → Each (Fine message) rest
rest_fine (each_field p e) = e

pub counts-on : {message : List ℕ} {part most bytes : ℕ} {f : Field} {rest : Fields} {room : ℕ} {rs grown : List Record} (r : Record)
    → Counts message part most bytes (field f rest) (suc room) rs → Of part f r → Grows r rs grown → Counts message part most bytes rest room grown
unfolding budget
counts-on {message} {part} r c o g =
    let fine = first_fine c.each in
    record {
      tagged = g.tags (record { some = λ z. fine.some (sym o.tagged ∙ z) }) c.tagged;
      placed = g.places message part (record { of = o.of; inside = omega (arith, fine.inside, o.placed, o.sized) }) c.placed;
      few = omega (arith, c.few, g.longer);
      small = omega (arith, c.small, g.larger, o.sized);
      each = rest_fine c.each;
    }

-- the fields of a message are fine, and take no more bytes than there are
module _ (mode : Mode) (message : List ℕ) where
  pub read_fine : (c : Cursor) (f : Field) → field_at mode message c ≡ Ok f → Fine message f
  read_fine c f e = record { some = step-tag mode message c f e; inside = (step-inside mode message c f e).within }

  pub all_fine : (c : Cursor) → Each (Fine message) (fields_from mode message c)
  all_fine = each_read mode message (Fine message) read_fine

  pub all-budget : (c : Cursor) → budget (fields_from mode message c) ≤ length message - c.at
  unfolding budget
  all-budget =
      by_fields mode message (λ c fields. budget fields ≤ length message - c.at) (λ c cause place e. omega arith)
      (λ c f e later. let l = step-lies mode message c f e in omega (arith, l.ends, l.within, l.falls, l.value_after, later))
