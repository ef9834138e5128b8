-- The header as it is written: 8, 9 and 35 stand in it once and without runs, so each is written once, and all the rest behind them in map
-- order.
use Rattle.std.specs.Prelude.{◌≡◌, Bool, List, [], ◌++◌, length}
use Rattle.std.proofs.Math.Path.{refl, sym, ap}
use Rattle.std.proofs.Common.{◌∙◌, append-nil, arith, eqb-true, eq-eqb}
use Rattle.std.proofs.Math.Bool.{true, false}
use Prim.Native.Nat.{ℕ, suc, ◌+◌}
use Rattle.std.proofs.Math.Dec.{eqb}
use Rattle.field_rules.specs.Choice.{pick}
use Rattle.field_rules.specs.Decimal.{decimal}
use Rattle.field_rules.specs.Field.{field_bytes}
use Rattle.message_maps.specs.Map.{Map, end, field, entry, joined, holds, replaced, without_field, past_leading, run_on, without_run, stored, some, value_under}
use Rattle.message_lent_rules.specs.Formed.{stands, is_formed}
use Rattle.message_lent_rules.specs.StandLaws.{never, nor, field_formed, entry_formed}
use Rattle.message_lent_rules.specs.StoredLaws.{formed_stored, formed_without}
use Rattle.message_rules.specs.SplitLaws.{field_gone}
use Rattle.encode_rules.specs.Encoding.{text, text_under, is_first, is_rest, header_text}
use Rattle.encoder.specs.CountLaws.{gone_once}
use Rattle.encoder.specs.FoundLaws.{hangs}
use Rattle.encoder.specs.SizeLaws.{size_under}
use Rattle.encode_rewriting_laws.proofs.EncodedBuilt.{under_absent, under_rest}

-- ===== leaving out =====

pub hangs_without : (start gone : ℕ) (m : Map) → hangs start (without_field gone m) ≡ hangs start m
unfolding hangs without_field
hangs_without start gone end = refl
hangs_without start gone (field t v rest) = by_test (eqb t gone) (hangs_without start gone rest)
  where
    by_test : (b : Bool) → hangs start (without_field gone rest) ≡ hangs start rest
        → hangs start (pick b rest (field t v (without_field gone rest))) ≡ hangs start rest
    by_test true h = refl
    by_test false h = h
hangs_without start gone (entry s d own rest) = ap (pick (eqb s start) true) (hangs_without start gone rest)

pub holds_without : (tag gone : ℕ) (m : Map) → holds tag m ≡ false → holds tag (without_field gone m) ≡ false
unfolding holds without_field
holds_without tag gone end h = refl
holds_without tag gone (field t v rest) h =
    let n = nor (eqb t tag) (holds tag rest) h in
    by_test (eqb t gone) n.0 n.1 (holds_without tag gone rest n.1)
  where
    by_test : (b : Bool) → eqb t tag ≡ false → holds tag rest ≡ false → holds tag (without_field gone rest) ≡ false
        → holds tag (pick b rest (field t v (without_field gone rest))) ≡ false
    by_test true e h again = h
    by_test false e h again = rw e again
holds_without tag gone (entry s d own rest) h = holds_without tag gone rest h

-- a tag that is held no more, and on which no run hangs, stands nowhere
nowhere : (tag : ℕ) (m : Map) → holds tag m ≡ false → hangs tag m ≡ false → stands tag m ≡ false
unfolding holds hangs stands
nowhere tag end h k = refl
nowhere tag (field t v rest) h k = let n = nor (eqb t tag) (holds tag rest) h in rw n.0 (nowhere tag rest n.1 k)
nowhere tag (entry s d own rest) h k = let n = nor (eqb s tag) (hangs tag rest) k in rw n.0 (nowhere tag rest h n.1)

-- what is not chosen may be left out
under_without : (chosen : ℕ → Bool) (separator tag : ℕ) (m : Map) → chosen tag ≡ false
    → text_under chosen separator (without_field tag m) ≡ text_under chosen separator m
unfolding text_under without_field
under_without chosen separator tag end h = refl
under_without chosen separator tag (field t v rest) h = by_test (eqb t tag) refl (under_without chosen separator tag rest h)
  where
    by_test : (b : Bool) → eqb t tag ≡ b → text_under chosen separator (without_field tag rest) ≡ text_under chosen separator rest
        → text_under chosen separator (pick b rest (field t v (without_field tag rest))) ≡ pick (chosen t) (field_bytes separator (decimal t) v) []
        ++ text_under chosen separator rest
    by_test true e again = let other : chosen t ≡ false = ap chosen (eqb-true t tag e) ∙ h in rw other
    by_test false e again = ap (λ (s : List ℕ). pick (chosen t) (field_bytes separator (decimal t) v) [] ++ s) again
under_without chosen separator tag (entry s d own rest) h =
    ap (λ (l : List ℕ). pick (chosen s) (text separator own) [] ++ l) (under_without chosen separator tag rest h)

-- ===== storing =====

no_run : (tag : ℕ) (m : Map) → hangs tag m ≡ false → (without_run tag m ≡ m) × (run_on tag m ≡ end)
unfolding hangs without_run run_on
no_run tag end h = (refl, refl)
no_run tag (field t v rest) h = let r = no_run tag rest h in (ap (field t v) r.0, r.1)
no_run tag (entry s d own rest) h =
    let n = nor (eqb s tag) (hangs tag rest) h in
    let r = no_run tag rest n.1 in
    rw n.0 (ap (entry s d own) r.0, r.1)

replaced_gone : (tag : ℕ) (value : List ℕ) (m : Map) → without_field tag (replaced tag value m) ≡ without_field tag m
unfolding without_field replaced
replaced_gone tag value end = refl
replaced_gone tag value (field t v rest) = by_test (eqb t tag) refl (replaced_gone tag value rest)
  where
    by_test : (b : Bool) → eqb t tag ≡ b → without_field tag (replaced tag value rest) ≡ without_field tag rest
        → without_field tag (pick b (field t value rest) (field t v (replaced tag value rest))) ≡ pick b rest (field t v (without_field tag rest))
    by_test true e again = rw e
    by_test false e again = rw e (ap (field t v) again)
replaced_gone tag value (entry s d own rest) = ap (entry s d own) (replaced_gone tag value rest)

replaced-seen : (tag : ℕ) (value : List ℕ) (m : Map) → holds tag m ≡ true → value_under tag (replaced tag value m) ≡ some value
unfolding holds replaced value_under
replaced-seen tag value end h = never (sym h)
replaced-seen tag value (field t v rest) h = by_test (eqb t tag) refl h (replaced-seen tag value rest)
  where
    by_test : (b : Bool) → eqb t tag ≡ b → pick b true (holds tag rest) ≡ true
        → (holds tag rest ≡ true → value_under tag (replaced tag value rest) ≡ some value)
        → value_under tag (pick b (field t value rest) (field t v (replaced tag value rest))) ≡ some value
    by_test true e k again = rw e
    by_test false e k again = rw e (again k)
replaced-seen tag value (entry s d own rest) h = replaced-seen tag value rest h

last_gone : (tag : ℕ) (value : List ℕ) (m : Map) → holds tag m ≡ false
    → (without_field tag (joined m (field tag value end)) ≡ m) × (value_under tag (joined m (field tag value end)) ≡ some value)
unfolding holds without_field joined value_under
last_gone tag value end h = (rw (eq-eqb tag tag refl), rw (eq-eqb tag tag refl))
last_gone tag value (field t v rest) h =
    let n = nor (eqb t tag) (holds tag rest) h in
    let r = last_gone tag value rest n.1 in
    rw n.0 (ap (field t v) r.0, r.1)
last_gone tag value (entry s d own rest) h = let r = last_gone tag value rest h in (ap (entry s d own) r.0, r.1)

-- a stored field is seen, and without it the map is as it was without it
pub stored_gone : (tag : ℕ) (value : List ℕ) (m : Map) → hangs tag m ≡ false
    → (without_field tag (stored tag value m) ≡ without_field tag m) × (value_under tag (stored tag value m) ≡ some value)
unfolding stored
stored_gone tag value m h = by_test (holds tag m) refl
  where
    by_test : (b : Bool) → holds tag m ≡ b
        → (without_field tag (pick b (replaced tag value m) (joined (without_run tag m) (field tag value (run_on tag m)))) ≡ without_field tag m)
        × (value_under tag (pick b (replaced tag value m) (joined (without_run tag m) (field tag value (run_on tag m)))) ≡ some value)
    by_test true e = (replaced_gone tag value m, replaced-seen tag value m e)
    by_test false e =
        let r = no_run tag m h in
        let l = last_gone tag value m e in
        rw (r.0, r.1) (l.0 ∙ sym (field_gone tag m e), l.1)

-- ===== writing =====

-- a tag that is held once, and on which no run hangs, is written once
alone-behind : (tag : ℕ) (m : Map) → stands tag (past_leading tag m) ≡ false → hangs tag m ≡ false → stands tag m ≡ false
unfolding hangs past_leading
alone-behind tag end h k = h
alone-behind tag (field t v rest) h k = h
alone-behind tag (entry s d own rest) h k = rw (nor (eqb s tag) (hangs tag rest) k).0 at h

pub under-held : (separator tag : ℕ) (value : List ℕ) (m : Map) → is_formed m ≡ true → hangs tag m ≡ false → value_under tag m ≡ some value
    → (text_under (λ t. eqb t tag) separator m ≡ field_bytes separator (decimal tag) value) × (size_under tag m ≡ length (decimal tag) + length value + 2)
unfolding text_under hangs value_under size_under
under-held separator tag value end formed h seen = let z : ◌≡◌ {A = ℕ} 0 1 = cc in absurd (omega arith)
under-held separator tag value (field t v rest) formed h seen =
    let f = field_formed t v rest formed in
    by_test (eqb t tag) refl seen f.once (λ k. under-held separator tag value rest f.rest_formed h k)
  where
    by_test : (b : Bool) → eqb t tag ≡ b → pick b (some v) (value_under tag rest) ≡ some value → stands t (past_leading t rest) ≡ false
        → (value_under tag rest ≡ some value → (text_under (λ t. eqb t tag) separator rest ≡ field_bytes separator (decimal tag) value)
        × (size_under tag rest ≡ length (decimal tag) + length value + 2))
        → (pick b (field_bytes separator (decimal t) v) [] ++ text_under (λ t. eqb t tag) separator rest ≡ field_bytes separator (decimal tag) value)
        × (pick b (length (decimal t) + length v + 2) (size_under tag rest) ≡ length (decimal tag) + length value + 2)
    by_test true e k once again =
        let same : t ≡ tag = eqb-true t tag e in
        let is : v ≡ value = cc in
        let behind : stands tag rest ≡ false = alone-behind tag rest (rw same at once) h in
        rw (same, is, under_absent separator tag rest behind) (append-nil (field_bytes separator (decimal tag) value), refl)
    by_test false e k once again = again k
under-held separator tag value (entry s d own rest) formed h seen =
    let n = nor (eqb s tag) (hangs tag rest) h in
    rw n.0 (under-held separator tag value rest (entry_formed s d own rest formed).rest_formed n.1 seen)

-- the value of another field stays
pub seen_without : (tag gone : ℕ) (m : Map) → eqb gone tag ≡ false → value_under tag (without_field gone m) ≡ value_under tag m
unfolding value_under without_field
seen_without tag gone end h = refl
seen_without tag gone (field t v rest) h = by_test (eqb t gone) refl (seen_without tag gone rest h)
  where
    by_test : (b : Bool) → eqb t gone ≡ b → value_under tag (without_field gone rest) ≡ value_under tag rest
        → value_under tag (pick b rest (field t v (without_field gone rest))) ≡ pick (eqb t tag) (some v) (value_under tag rest)
    by_test true e again = let other : eqb t tag ≡ false = ap (λ (n : ℕ). eqb n tag) (eqb-true t gone e) ∙ h in rw other
    by_test false e again = ap (pick (eqb t tag) (some v)) again
seen_without tag gone (entry s d own rest) h = seen_without tag gone rest h

-- the header without what encoding sets itself, and without 8 and 35
unfoldable pub others_of : Map → Map
others_of header = without_field 35 (without_field 8 (without_field 9 header))

pub others_fewer : (header : Map) (tag : ℕ) → holds tag header ≡ false → holds tag (others_of header) ≡ false
unfolding others_of
others_fewer header tag h =
    holds_without tag 35 (without_field 8 (without_field 9 header)) (holds_without tag 8 (without_field 9 header) (holds_without tag 9 header h))

others-hang : (header : Map) (tag : ℕ) → hangs tag (others_of header) ≡ hangs tag header
unfolding others_of
others-hang header tag =
    hangs_without tag 35 (without_field 8 (without_field 9 header)) ∙ hangs_without tag 8 (without_field 9 header) ∙ hangs_without tag 9 header

module _ (header : Map) (formed : is_formed header ≡ true) where
  abbrev first : Map
  first = without_field 9 header

  abbrev second : Map
  second = without_field 8 (without_field 9 header)

  second_formed : is_formed second ≡ true
  second_formed = formed_without 8 first (formed_without 9 header formed)

  pub others_formed : is_formed (others_of header) ≡ true
  unfolding others_of
  others_formed = formed_without 35 second second_formed

  pub others-held : (holds 8 (others_of header) ≡ false) × (holds 9 (others_of header) ≡ false) × (holds 35 (others_of header) ≡ false)
  unfolding others_of
  others-held = (
    holds_without 8 35 second (gone_once 8 first (formed_without 9 header formed)),
    holds_without 9 35 second (holds_without 9 8 first (gone_once 9 header formed)),
    gone_once 35 second second_formed,
  )

module _ (header : Map) (formed : is_formed header ≡ true) (eight : hangs 8 header ≡ false) (nine : hangs 9 header ≡ false)
    (type : hangs 35 header ≡ false) where
  rest-others : (separator : ℕ) → text_under is_rest separator (without_field 9 header) ≡ text separator (others_of header)
  unfolding is_rest is_first
  rest-others separator =
      let held = others-held header formed in
      sym (under_without is_rest separator 8 (without_field 9 header) refl)
      ∙ sym (under_without is_rest separator 35 (without_field 8 (without_field 9 header)) refl)
      ∙ (unfold others_of in
      under_rest separator (others_of header) (nowhere 8 (others_of header) held.0 (others-hang header 8 ∙ eight))
      (nowhere 9 (others_of header) held.1 (others-hang header 9 ∙ nine)) (nowhere 35 (others_of header) held.2 (others-hang header 35 ∙ type)))

  -- "write the header's 8, 9, 35, then the rest in map order"
  pub header-written : (separator : ℕ) (begin size msg_type : List ℕ) → value_under 8 header ≡ some begin → value_under 35 header ≡ some msg_type
      → header_text separator (stored 9 size header) ≡ field_bytes separator (decimal 8) begin
      ++ (field_bytes separator (decimal 9) size ++ (field_bytes separator (decimal 35) msg_type ++ text separator (others_of header)))
  unfolding header_text is_rest is_first
  header-written separator begin size msg_type begins types =
      let new : Map = stored 9 size header in
      let g = stored_gone 9 size header nine in
      let same : (chosen : ℕ → Bool) → chosen 9 ≡ false → text_under chosen separator new ≡ text_under chosen separator (without_field 9 header) =
      λ chosen h. sym (under_without chosen separator 9 new h) ∙ ap (text_under chosen separator) g.0 in
      let new-hangs : hangs 9 new ≡ false = sym (hangs_without 9 9 new) ∙ ap (hangs 9) g.0 ∙ hangs_without 9 9 header ∙ nine in
      let new_formed : is_formed new ≡ true = formed_stored 9 size header (λ e. omega arith) formed in
      let first : Map = without_field 9 header in
      let first-formed : is_formed first ≡ true = formed_without 9 header formed in
      let eight-written = (under-held separator 8 begin first first-formed (hangs_without 8 9 header ∙ eight) (seen_without 8 9 header refl ∙ begins)).0 in
      let type-written = (under-held separator 35 msg_type first first-formed (hangs_without 35 9 header ∙ type) (seen_without 35 9 header refl ∙ types)).0 in
      rw (
        same (λ tag. eqb tag 8) refl,
        same (λ tag. eqb tag 35) refl,
        same is_rest refl,
        eight-written,
        type-written,
        (under-held separator 9 size new new_formed new-hangs g.1).0,
        rest-others separator,
      )
