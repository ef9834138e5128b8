-- What the operations leave is a message again, and means what the rules say: the message before with one part changed. One law to each
-- operation, for all that it may answer.
use Rattle.std.specs.Prelude.{◌≡◌, refl, Bool, false, List, ◌++◌, ℕ, ◌≤◌, eqb}
use Rattle.std.proofs.Math.Path.{ap}
use Rattle.std.proofs.Common.{◌∙◌}
use Rattle.std.proofs.Math.Bool.{true}
use native.Mathlib.Omega.{arith}
use Rattle.std.proofs.Math.ListN.{length, length-append}
use borrow.Author.Tests.{eqb-false, le-leb}
use Rattle.message_maps.specs.Map.{Map, end, without_field, stored, field_count, values_in}
use Rattle.message_lent_rules.specs.Lent.{is_message}
use Rattle.message_lent_rules.specs.Meaning.{Message, parts, words_of, value_bytes_of, message_in}
use Rattle.message_lent_rules.specs.Formed.{is_formed, Formed, Within}
use Rattle.message_lent_rules.proofs.FormedLaws.{lent_formed, Lends, IsLayout, is_layout_lends}
use Rattle.message_lent_rules.specs.StoredLaws.{formed_stored, formed_without}
use Rattle.message_rules.specs.Changes.{after, part_of, with_part, field_total, value_total, judged, of_message, no_fields, emptying, new_message, making, storing, removing}
use Rattle.message_rules.specs.ChangeLaws.{remove-on}
use Rattle.message_rules.specs.Answered.{Answered, made-with, none_lent, said_of-made, answered_by, not_storable, answered-judged, NotLent, answered-store}
use Rattle.message_rules.specs.PartLaws.{part_split}
use Rattle.message_rules.specs.StoreLaws.{count_without, values_without}
use Rattle.message_rules.specs.declared.Part.{Part}
use Rattle.message_rules.specs.declared.Part.TheVariants.{Header, Body, Trailer}
use Rattle.message_rules.specs.declared.Change.TheVariants.{Made}

-- a formed message's parts are formed, and with a formed map in a part it is formed
pub part_formed : (part : Part) (m : Message) → Formed m → is_formed (part_of part m) ≡ true
unfolding part_of
part_formed Header m f = f.header
part_formed Body m f = f.body
part_formed Trailer m f = f.trailer

pub with_part_formed : (part : Part) (x : Map) (m : Message) → Formed m → is_formed x ≡ true → Formed (with_part part x m)
unfolding with_part
with_part_formed Header x m f h = record { header = h; body = f.body; trailer = f.trailer }
with_part_formed Body x m f h = record { header = f.header; body = h; trailer = f.trailer }
with_part_formed Trailer x m f h = record { header = f.header; body = f.body; trailer = h }

-- within the limits, as this crate counts
pub totals_within : (m : Message) → Formed m → value_total m ≤ 8192 → field_total m ≤ 1024 → Within m
unfolding value_total field_total
totals_within m f small few = record { formed = f; small = small; few = few }

pub within_totals : (m : Message) → Within m → (value_total m ≤ 8192) × (field_total m ≤ 1024)
unfolding value_total field_total
within_totals m w = (w.small, w.few)

-- a message that is judged is left where it is formed, and its run whole
pub judged-answered : {none : Type 0} {said : List ℕ → List ℕ → Type 0} {words values : List ℕ} (whole : Bool) (m : Message) → (whole ≡ true → Formed m)
    → (IsLayout m (words_of m) (value_bytes_of m) → said (words_of m) (value_bytes_of m)) → Answered none said words values (judged words values whole m)
unfolding judged
judged-answered whole m formed made =
    answered-judged (value_total m) whole (field_total m) (words_of m) (value_bytes_of m) (λ small is_whole few.
    made (record { within = totals_within m (formed is_whole) small few; words_are = refl; values_are = refl }))

-- an empty message, and a new one
none_formed : Formed no_fields
unfolding no_fields is_formed
none_formed = record { header = refl; body = refl; trailer = refl }

module _ (words values : List ℕ) where
  pub empty-answered : Answered (NotLent words values) (IsLayout no_fields) words values (emptying words values)
  unfolding emptying
  empty-answered =
      answered-store
      (made-with (words_of no_fields) (value_bytes_of no_fields)
      (record {
        within = record { formed = none_formed; small = unfold no_fields parts values_in in omega arith; few = unfold no_fields field_count in omega arith };
        words_are = refl;
        values_are = refl;
      }))

  pub new-answered : (begin_string message_type : List ℕ) → Answered (NotLent words values) (IsLayout (new_message begin_string message_type)) words values (making begin_string message_type words values)
  unfolding making new_message
  new-answered begin_string message_type =
      let header = stored 35 message_type (stored 8 begin_string end) in
      let formed = formed_stored 35 message_type (stored 8 begin_string end) (λ e. omega arith) (formed_stored 8 begin_string end (λ e. omega arith) (unfold is_formed in refl)) in
      answered-store (judged-answered true (with_part Header header no_fields) (λ u. with_part_formed Header header no_fields none_formed formed) (λ l. l))

  -- what `empty` and `new` leave where they answer 0
  pub empty_lends : (w v : List ℕ) → emptying words values ≡ after Made w v → Lends w v no_fields
  empty_lends w v e = is_layout_lends no_fields w v (said_of-made empty-answered w v e)

  pub new_lends : (begin_string message_type w v : List ℕ) → making begin_string message_type words values ≡ after Made w v → Lends w v (new_message begin_string message_type)
  new_lends begin_string message_type w v e = is_layout_lends (new_message begin_string message_type) w v (said_of-made (new-answered begin_string message_type) w v e)

module _ (part : Part) (tag : ℕ) (words values : List ℕ) where
  -- a field is stored
  pub store-answered : (value : List ℕ)
      → Answered (is_message words values ≡ false) (λ w v. (is_message words values ≡ true) × IsLayout (with_part part (stored tag value (part_of part (message_in words values))) (message_in words values)) w v) words values (storing part tag value words values)
  unfolding storing of_message
  store-answered value =
      answered_by (is_message words values)
      (λ h.
      let m = message_in words values in
      let f = (lent_formed words values h).formed in
      answered_by (eqb tag 0) (λ e. not_storable) (λ e.
      judged-answered true (with_part part (stored tag value (part_of part m)) m)
      (λ u. with_part_formed part (stored tag value (part_of part m)) m f (formed_stored tag value (part_of part m) (eqb-false tag 0 e) (part_formed part m f))) (λ l. (h, l))))
      none_lent

  -- a field is removed
  pub remove-answered : Answered (is_message words values ≡ false) (λ w v. (is_message words values ≡ true) × IsLayout (with_part part (without_field tag (part_of part (message_in words values))) (message_in words values)) w v) words values (removing part tag words values)
  unfolding removing of_message
  remove-answered =
      answered_by (is_message words values)
      (λ h.
      let m = message_in words values in
      let f = (lent_formed words values h).formed in
      judged-answered true (with_part part (without_field tag (part_of part m)) m)
      (λ u. with_part_formed part (without_field tag (part_of part m)) m f (formed_without tag (part_of part m) (part_formed part m f))) (λ l. (h, l)))
      none_lent

  -- what `store` and `remove` leave where they answer 0
  pub store_lends : (value w v : List ℕ) → storing part tag value words values ≡ after Made w v
      → (is_message words values ≡ true) × Lends w v (with_part part (stored tag value (part_of part (message_in words values))) (message_in words values))
  store_lends value w v e = let l = said_of-made (store-answered value) w v e in (l.0, is_layout_lends _ w v l.1)

  pub remove_lends : (w v : List ℕ) → removing part tag words values ≡ after Made w v
      → (is_message words values ≡ true) × Lends w v (with_part part (without_field tag (part_of part (message_in words values))) (message_in words values))
  remove_lends w v e = let l = said_of-made remove-answered w v e in (l.0, is_layout_lends _ w v l.1)

  -- a field is always removed, held or not: what is left is the layout of the message without it, with zeros behind
  pub remove-made : is_message words values ≡ true
      → removing part tag words values ≡ after Made (words_of (with_part part (without_field tag (part_of part (message_in words values))) (message_in words values))) (value_bytes_of (with_part part (without_field tag (part_of part (message_in words values))) (message_in words values)))
  unfolding judged value_total
  remove-made h =
      let m = message_in words values in
      let own = part_of part m in
      let less = without_field tag own in
      let s = part_split part m in
      let limits = within_totals m (lent_formed words values h) in
      let fewer : field_total (with_part part less m) ≤ 1024 = omega (arith, s.fields less, s.fields own, ap field_total s.same, count_without tag own, limits.1) in
      let smaller : length (values_in (parts (with_part part less m))) ≤ 8192 =
      omega (
        arith,
        ap length (s.texts less),
        ap length (s.texts own),
        ap (λ (n : Message). length (values_in (parts n))) s.same,
        length-append s.values-before (values_in less ++ s.values-behind),
        length-append (values_in less) s.values-behind,
        length-append s.values-before (values_in own ++ s.values-behind),
        length-append (values_in own) s.values-behind,
        values_without tag own,
        limits.0,
      ) in
      remove-on part tag words values h ∙ rw (le-leb _ _ smaller, le-leb _ _ fewer)
