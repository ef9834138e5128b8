-- What the encoding writes of a map is what is written of the records that stand for it: each record is one field of the map, in map order,
-- and every entry stands behind the count of its run.
use Rattle.std.specs.Prelude.{◌≡◌, Bool, false, ℕ, ◌+◌, length, eqb}
use Rattle.std.proofs.Math.Path.{refl, ap}
use Rattle.std.proofs.Common.{sym, ◌∙◌, arith, eq-eqb}
use Rattle.std.proofs.Math.Bool.{true}
use mathlib.Core.List.{List, [], ◌∷◌, ◌++◌, append_assoc}
use Rattle.std.proofs.Math.ListN.{length-append}
use Rattle.std.proofs.lemmas.Bool.{eqb-false}
use Rattle.build_records.specs.Records.{value_at}
use Rattle.field_rules.specs.Choice.{pick}
use Rattle.field_rules.specs.Decimal.{decimal}
use Rattle.field_rules.specs.Field.{field_bytes}
use Rattle.build_records.specs.declared.Record.{Record}
use Rattle.message_maps.specs.Map.{Map, field, holds, holds_any, field_count}
use Rattle.message_lent_rules.specs.Formed.{is_formed}
use Rattle.message_lent_rules.specs.StandLaws.{field_formed, entry_formed}
use Rattle.message_take_over.specs.Derived.{Stands, no_more, own, in_entry}
use Rattle.encode_rules.specs.Encoding.{text, bytes_of}
use Rattle.encode_rows.specs.WritingLaws.{text-length}
use Rattle.encode_rules.specs.Encode.{lacks_count}
use Rattle.encode_rewriting_laws.specs.Written.{written}

pub written-append : (separator : ℕ) (bytes : List ℕ) (rs ss : List Record) → written separator bytes (rs ++ ss) ≡ written separator bytes rs ++ written separator bytes ss
unfolding written
written-append separator bytes [] ss = refl
written-append separator bytes (r ∷ rs) ss =
    let here = field_bytes separator (decimal r.tag) (value_at bytes r) in
    ap (λ (s : List ℕ). here ++ s) (written-append separator bytes rs ss) ∙ sym (append_assoc here (written separator bytes rs) (written separator bytes ss))

whichever : (b : Bool) {x : Bool} → x ≡ true → pick b true x ≡ true
whichever true h = refl
whichever false h = h

module _ {bytes : List ℕ} {part : ℕ} where
  pub text-written : (separator : ℕ) {depth number start entries : ℕ} {map : Map} {rs : List Record} → Stands bytes part depth number start entries map rs → text separator map ≡ written separator bytes rs
  unfolding text written
  text-written separator no_more = refl
  text-written separator (own r o more) = ap (λ (s : List ℕ). field_bytes separator (decimal r.tag) (value_at bytes r) ++ s) (text-written separator more)
  text-written separator (in_entry {rs = rs} {ss = ss} r o inner more) =
      let here = field_bytes separator (decimal r.tag) (value_at bytes r) in
      rw (text-written separator inner, text-written separator more, written-append separator bytes rs ss)
      (append_assoc here (written separator bytes rs) (written separator bytes ss))

  pub bytes-written : (separator : ℕ) {depth number start entries : ℕ} {map : Map} {rs : List Record} → Stands bytes part depth number start entries map rs → bytes_of map ≡ length (written separator bytes rs)
  bytes-written separator {map = map} s = sym (text-length separator map) ∙ ap length (text-written separator s)

  -- an entry has its first field, so there are as many fields as records
  pub stands-count : {depth number start entries : ℕ} {map : Map} {rs : List Record} → Stands bytes part depth number start entries map rs → field_count map ≡ length rs
  unfolding field_count holds_any
  stands-count no_more = refl
  stands-count (own r o more) = omega (arith, stands-count more)
  stands-count (in_entry {rs = rs} {ss = ss} r o inner more) = omega (arith, stands-count inner, stands-count more, length-append rs ss)

  -- no run stands without its count: what is left of a map, behind a field that the map holds
  counted-on : {depth number start entries : ℕ} {map : Map} {rs : List Record} (whole : Map) → Stands bytes part depth number start entries map rs → is_formed map ≡ true
      → ((start ≡ 0 → ⊥) → holds start whole ≡ true) → ((tag : ℕ) → holds tag map ≡ true → holds tag whole ≡ true) → lacks_count whole map ≡ false
  unfolding lacks_count holds
  counted-on whole no_more formed before held = refl
  counted-on whole (own {rest = rest} r o more) formed before held =
      counted-on whole more (field_formed r.tag _ rest formed).rest_formed
      (λ some. held r.tag (rw (eq-eqb r.tag r.tag refl)))
      (λ tag h. held tag (whichever (eqb r.tag tag) h))
  counted-on whole (in_entry {start = start} {inner = inner} {rest = rest} r o within more) formed before held =
      let f = entry_formed start r.tag (field r.tag (value_at bytes r) inner) rest formed in
      let there : holds start whole ≡ true = before (eqb-false start 0 f.some) in
      rw (there, counted-on (field r.tag (value_at bytes r) inner) within (field_formed r.tag (value_at bytes r) inner f.own_formed).rest_formed (λ some. rw (eq-eqb r.tag r.tag refl)) (λ tag h. whichever (eqb r.tag tag) h))
      (counted-on whole more f.rest_formed before held)

  pub stands-counted : {depth number entries : ℕ} {map : Map} {rs : List Record} → Stands bytes part depth number 0 entries map rs → is_formed map ≡ true → lacks_count map map ≡ false
  stands-counted {map = map} s formed = counted-on map s formed (λ some. absurd (some refl)) (λ tag h. h)
