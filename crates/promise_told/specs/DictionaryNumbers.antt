-- The numbers of a dictionary's records fit in 32 bits: two or four bytes each, and places within 60,000. So does what its check returns.
use Rattle.std.specs.Prelude.{◌≡◌, refl, Bool, true, List, ℕ, zero, suc, ◌+◌, ◌-◌, ◌≤◌, ◌<◌, ◌^◌, take, drop, get_or, eqb, ltb, Option, Some, None, Result, Ok, Err}
use Rattle.std.proofs.Math.Bool.{false}
use native.Mathlib.Omega.{arith}
use Rattle.std.proofs.Math.ListN.{length}
use Rattle.std.proofs.Common.{length-drop, ltb-false}
use Rattle.field_rules.specs.Choice.{pick}
use Rattle.dictionary_rules.specs.Record.{low_first, record_body_length, with_tag, with_mark, zero_filled, known_tag, opens_component, opens_message, field_item_lem}
use Rattle.dictionary_rules.specs.Record.{component_item_lem, opens_group, record_body, with_body, with_kind, record_from, record_at}
use Rattle.dictionary_rules.specs.Records.{Records, ends, bad, whole, followed_by, records_within, records_from}
use Rattle.dictionary_rules.specs.Names.{Looks, looks_in, named, no_names}
use Rattle.dictionary_rules.specs.Step.{depth_of, opened, opens, grown, at_top_lem, inside, closed_before, known_before, not_empty, not_too_deep, once_component}
use Rattle.dictionary_rules.specs.Step.{once_message, not_too_many, on_tag, on_component, on_message, on_field, on_item, on_group, closes_owner, closes_group}
use Rattle.dictionary_rules.specs.Step.{closes_innermost, on_close, step_of, present, at_end}
use Rattle.dictionary_rules.specs.Check.{outcome, on_step, walked, too_long, read_of, answer_of, check_of, values_of_check}
use Rattle.dictionary_rules.specs.declared.Record.{Record}
use Rattle.dictionary_rules.specs.declared.Record.TheVariants.{KnownTag, OpensComponent, OpensMessage, FieldItem, ComponentItem, OpensGroup, Closes}
use Rattle.dictionary_rules.specs.declared.RecordRead.{RecordRead}
use Rattle.dictionary_rules.specs.declared.RecordRead.TheVariants.{Whole, Bad, End}
use Rattle.dictionary_rules.specs.declared.Checked.{Checked}
use Rattle.dictionary_rules.specs.declared.Checked.TheVariants.{Passes, TooLong, BadRecord}
use Rattle.dictionary_rules.specs.declared.Component.{Component}
use Rattle.dictionary_rules.specs.declared.Group.{Group}
use Rattle.dictionary_rules.specs.declared.Groups.{Groups}
use Rattle.dictionary_rules.specs.declared.Groups.TheVariants.{NoGroup, OneGroup, TwoGroups, ThreeGroups, FourGroups}
use Rattle.dictionary_rules.specs.declared.Owner.{Owner}
use Rattle.dictionary_rules.specs.declared.Owner.TheVariants.{OfComponent, OfMessage}
use Rattle.dictionary_rules.specs.declared.Open.{Open}
use Rattle.dictionary_rules.specs.declared.State.{State}
use Rattle.dictionary_rules.specs.declared.State.TheVariants.{TopLevel, Inside}
use Rattle.dictionary_rules.specs.declared.Note.{Note}
use Rattle.dictionary_meaning_rules.proofs.MsgTypeText.{Bytes, no_bytes, a_byte, take-bytes, drop-bytes}

-- ===== the records =====

-- "Numbers low byte first": of four bytes, or of fewer
four_low : {s : List ℕ} → Bytes s → low_first (take 4 s) < 2 ^ 32
unfolding low_first
four_low no_bytes = omega arith
four_low (a_byte a no_bytes) = omega (arith, a)
four_low (a_byte a (a_byte b no_bytes)) = omega (arith, a, b)
four_low (a_byte a (a_byte b (a_byte c no_bytes))) = omega (arith, a, b, c)
four_low (a_byte a (a_byte b (a_byte c (a_byte d s)))) = omega (arith, a, b, c, d)

two-low : {s : List ℕ} → Bytes s → low_first (take 2 s) < 2 ^ 32
unfolding low_first
two-low no_bytes = omega arith
two-low (a_byte a no_bytes) = omega (arith, a)
two-low (a_byte a (a_byte b s)) = omega (arith, a, b)

-- the numbers of a record that an answer can tell
abbrev pub RecordSmall : Record → Type 0
RecordSmall (KnownTag tag) = Unit {0}
RecordSmall (OpensComponent number) = Unit {0}
RecordSmall (OpensMessage msg_type) = Unit {0}
RecordSmall (FieldItem tag required) = tag < 2 ^ 32
RecordSmall (ComponentItem required number) = number < 2 ^ 32
RecordSmall (OpensGroup tag required) = tag < 2 ^ 32
RecordSmall Closes = Unit {0}

abbrev BodySmall : Option Record → Type 0
BodySmall None = Unit {0}
BodySmall (Some r) = RecordSmall r

body-pick : (b : Bool) (x y : Option Record) → BodySmall x → BodySmall y → BodySmall (pick b x y)
body-pick true x y p q = p
body-pick false x y p q = q

body_small : (kind : ℕ) {body : List ℕ} → Bytes body → BodySmall (record_body kind body)
unfolding record_body known_tag opens_component opens_message field_item_lem component_item_lem opens_group with_mark with_tag
body_small kind {body} b =
    body-pick (eqb kind 1) _ _ (body-pick (eqb (low_first (take 4 body)) 0) _ _ tt tt)
    (body-pick (eqb kind 2) _ _ tt
    (body-pick (eqb kind 3) _ _ (body-pick (eqb (get_or body 0 0) 0) _ _ tt (body-pick (zero_filled false body) _ _ tt tt))
    (body-pick (eqb kind 4) _ _ (body-pick (ltb 1 (get_or body 4 0)) _ _ tt (body-pick (eqb (low_first (take 4 body)) 0) _ _ tt (four_low b)))
    (body-pick (eqb kind 5) _ _ (body-pick (ltb 1 (get_or body 2 0)) _ _ tt (two-low b))
    (body-pick (eqb kind 6) _ _ (body-pick (ltb 1 (get_or body 4 0)) _ _ tt (body-pick (eqb (low_first (take 4 body)) 0) _ _ tt (four_low b)))
    (body-pick (eqb kind 7) _ _ tt tt))))))

abbrev ReadSmall : ℕ → ℕ → RecordRead → Type 0
ReadSmall most place End = Unit {0}
ReadSmall most place Bad = place ≤ most
ReadSmall most place (Whole r next) = (place ≤ most) × RecordSmall r

from_small : (most place : ℕ) {s : List ℕ} → Bytes s → (1 ≤ length s → place ≤ most) → ReadSmall most place (record_from place s)
unfolding record_from with_kind
from_small most place no_bytes h = tt
from_small most place (a_byte {b = kind} {s = rest} k b) h = by_test (ltb (length rest) (record_body_length kind))
  where
    with_body_lem : (next : ℕ) (body : Option Record) → BodySmall body → ReadSmall most place (with_body next body)
    with_body_lem next None q = unfold with_body in h (omega arith)
    with_body_lem next (Some r) q = unfold with_body in (h (omega arith), q)

    by_test : (t : Bool)
        → ReadSmall most place (pick t Bad (with_body (place + 1 + record_body_length kind) (record_body kind (take (record_body_length kind) rest))))
    by_test true = h (omega arith)
    by_test false = with_body_lem _ _ (body_small kind (take-bytes (record_body_length kind) b))

-- all records, with their places and how they end
pub data RecordsSmall (most : ℕ) : Records → Type 0 where
  ends_small : {size : ℕ} → size ≤ most → RecordsSmall most (ends size)
  bad_small : {place : ℕ} → place ≤ most → RecordsSmall most (bad place)
  whole_small : {place : ℕ} {r : Record} {rest : Records} → place ≤ most → RecordSmall r → RecordsSmall most rest → RecordsSmall most (whole place r rest)

within_small : (fuel : ℕ) (dictionary : List ℕ) → Bytes dictionary → (place : ℕ) → RecordsSmall (length dictionary) (records_within fuel dictionary place)
unfolding records_within record_at
within_small zero dictionary b place = ends_small {size = length dictionary} (omega arith)
within_small (suc fuel) dictionary b place =
    by_read (record_from place (drop place dictionary))
    (from_small (length dictionary) place (drop-bytes place b) (λ some. omega (arith, some, length-drop place dictionary)))
    (λ next. records_within fuel dictionary next) (λ next. within_small fuel dictionary b next)
  where
    by_read : (read : RecordRead) → ReadSmall (length dictionary) place read → (rest : ℕ → Records)
        → ((next : ℕ) → RecordsSmall (length dictionary) (rest next))
        → RecordsSmall (length dictionary) (followed_by (length dictionary) place read rest)
    by_read End q rest later = unfold followed_by in ends_small {size = length dictionary} (omega arith)
    by_read Bad q rest later = unfold followed_by in bad_small q
    by_read (Whole r next) q rest later = unfold followed_by in whole_small q.0 q.1 (later next)

pub records_small : (dictionary : List ℕ) → Bytes dictionary → RecordsSmall (length dictionary) (records_from dictionary 0)
unfolding records_from
records_small dictionary b = within_small (length dictionary - 0) dictionary b 0

-- ===== the check =====

-- the value that an answer returns
unfoldable pub value_of_check : Checked → ℕ
value_of_check checked = get_or (values_of_check checked) 0 0

abbrev GroupsSmall : Groups → Type 0
GroupsSmall NoGroup = Unit {0}
GroupsSmall (OneGroup a) = a.tag < 2 ^ 32
GroupsSmall (TwoGroups a b) = (a.tag < 2 ^ 32) × (b.tag < 2 ^ 32)
GroupsSmall (ThreeGroups a b c) = (a.tag < 2 ^ 32) × (b.tag < 2 ^ 32) × (c.tag < 2 ^ 32)
GroupsSmall (FourGroups a b c d) = (a.tag < 2 ^ 32) × (b.tag < 2 ^ 32) × (c.tag < 2 ^ 32) × (d.tag < 2 ^ 32)

abbrev StateSmall : State → Type 0
StateSmall TopLevel = Unit {0}
StateSmall (Inside o) = GroupsSmall o.groups

abbrev StepSmall : Result (State × Note) Checked → Type 0
StepSmall (Err checked) = value_of_check checked < 2 ^ 32
StepSmall (Ok (state, note)) = StateSmall state

step-pick : (b : Bool) (x y : Result (State × Note) Checked) → StepSmall x → StepSmall y → StepSmall (pick b x y)
step-pick true x y p q = p
step-pick false x y p q = q

-- a group opens inside those that are open
opened_small : (tag since : ℕ) (groups : Groups) → tag < 2 ^ 32 → GroupsSmall groups → GroupsSmall (opened (record { tag = tag; since = since }) groups)
unfolding opened
opened_small tag since NoGroup t g = t
opened_small tag since (OneGroup a) t g = (t, g)
opened_small tag since (TwoGroups a b) t g = (t, g.0, g.1)
opened_small tag since (ThreeGroups a b c) t g = (t, g.0, g.1, g.2)
opened_small tag since (FourGroups a b c d) t g = g

module _ (place : ℕ) (near : place ≤ 60000) where
  bad_record : value_of_check (BadRecord place) < 2 ^ 32
  unfolding value_of_check values_of_check
  bad_record = omega (arith, near)

  top_small : (state : State) (step : Result (State × Note) Checked) → StepSmall step → StepSmall (at_top_lem state place step)
  unfolding at_top_lem
  top_small TopLevel step p = p
  top_small (Inside o) step p = bad_record

  inside_small : (state : State) (step : Open → Result (State × Note) Checked) → StateSmall state → ((o : Open) → GroupsSmall o.groups → StepSmall (step o))
      → StepSmall (inside state place step)
  unfolding inside
  inside_small TopLevel step s p = bad_record
  inside_small (Inside o) step s p = p o s

  deep_small : (depth : ℕ) (step : Result (State × Note) Checked) → StepSmall step → StepSmall (not_too_deep depth place step)
  unfolding not_too_deep
  deep_small depth step p = step-pick (ltb 4 depth) _ _ (unfold value_of_check values_of_check in omega (arith, near)) p

  many_small : (items : ℕ) (step : Result (State × Note) Checked) → StepSmall step → StepSmall (not_too_many items place step)
  unfolding not_too_many
  many_small items step p = step-pick (ltb 1024 items) _ _ (unfold value_of_check values_of_check in omega (arith, near)) p

  component_once : (looked : Option Component) (step : Result (State × Note) Checked) → StepSmall step → StepSmall (once_component looked place step)
  unfolding once_component
  component_once None step p = p
  component_once (Some c) step p = unfold value_of_check values_of_check in omega (arith, near)

  message_once : (placed : Option ℕ) (step : Result (State × Note) Checked) → StepSmall step → StepSmall (once_message placed place step)
  unfolding once_message
  message_once None step p = p
  message_once (Some earlier) step p = unfold value_of_check values_of_check in omega (arith, near)

  known_small : (known : Bool) (tag : ℕ) (step : Result (State × Note) Checked) → tag < 2 ^ 32 → StepSmall step → StepSmall (known_before known tag step)
  unfolding known_before
  known_small known tag step t p = step-pick known _ _ p (unfold value_of_check values_of_check in t)

  closed_small : (looked : Option Component) (number : ℕ) (step : Component → Result (State × Note) Checked) → number < 2 ^ 32 → ((c : Component) → StepSmall (step c))
      → StepSmall (closed_before looked number step)
  unfolding closed_before
  closed_small None number step n p = unfold value_of_check values_of_check in n
  closed_small (Some c) number step n p = p c

  group-closes : (o : Open) (g : Group) (groups : Groups) → g.tag < 2 ^ 32 → GroupsSmall groups → StepSmall (closes_group o g groups)
  unfolding closes_group not_empty grown
  group-closes o g groups t s = step-pick (eqb o.items g.since) _ _ (unfold value_of_check values_of_check in t) s

  owner_closes : (o : Open) (owner : Owner) → StepSmall (closes_owner o owner)
  unfolding closes_owner
  owner_closes o (OfComponent number) = tt
  owner_closes o OfMessage = tt

  closes_small : (o : Open) (groups : Groups) → GroupsSmall groups → StepSmall (closes_innermost o groups)
  unfolding closes_innermost
  closes_small o NoGroup g = owner_closes o o.owner
  closes_small o (OneGroup a) g = group-closes o a NoGroup g tt
  closes_small o (TwoGroups a b) g = group-closes o a (OneGroup b) g.0 g.1
  closes_small o (ThreeGroups a b c) g = group-closes o a (TwoGroups b c) g.0 (g.1, g.2)
  closes_small o (FourGroups a b c d) g = group-closes o a (ThreeGroups b c d) g.0 (g.1, g.2, g.3)

  step_small : (looks : Looks) (state : State) (r : Record) → RecordSmall r → StateSmall state → StepSmall (step_of looks state place r)
  unfolding step_of on_tag on_component on_message on_field on_item on_group on_close opens grown
  step_small looks state (KnownTag tag) r s = top_small state _ tt
  step_small looks state (OpensComponent number) r s = top_small state _ (component_once (looks.component number) _ tt)
  step_small looks state (OpensMessage msg_type) r s = top_small state _ (message_once (looks.message msg_type) _ tt)
  step_small looks state (FieldItem tag required) r s =
      inside_small state _ s (λ o g. known_small (looks.known tag) tag _ r (many_small (o.items + 1) _ g))
  step_small looks state (ComponentItem required number) r s =
      inside_small state _ s
      (λ o g. closed_small (looks.component number) number _ r (λ c. deep_small (depth_of o.groups + c.depth) _ (many_small (o.items + c.items) _ g)))
  step_small looks state (OpensGroup tag required) r s =
      inside_small state _ s
      (λ o g. known_small (looks.known tag) tag _ r
      (deep_small (depth_of o.groups + 1) _ (many_small (o.items + 1) _ (opened_small tag (o.items + 1) o.groups r g))))
  step_small looks state Closes r s = inside_small state _ s (λ o g. closes_small o o.groups g)

end_small : (looks : Looks) (state : State) (size : ℕ) → size ≤ 60000 → value_of_check (at_end looks state size) < 2 ^ 32
unfolding at_end value_of_check values_of_check present
end_small looks (Inside o) size near = omega (arith, near)
end_small looks TopLevel size near = by_looked (looks.component 0) (looks.component 1)
  where
    by_looked : (zeroth first : Option Component) → value_of_check (present zeroth 0 (present first 1 Passes)) < 2 ^ 32
    by_looked None first = omega arith
    by_looked (Some c) None = omega arith
    by_looked (Some c) (Some d) = omega arith

walked_small : {S : Type 0} (looks : S → Looks) (noted : S → Note → S) (most : ℕ) (rs : Records) (state : State) (store : S) → most ≤ 60000
    → RecordsSmall most rs → StateSmall state
    → value_of_check (answer_of (walked looks noted rs state store)) < 2 ^ 32
unfolding walked answer_of
walked_small looks noted most (ends size) state store near (ends_small h) s = end_small (looks store) state size (omega (arith, h, near))
walked_small looks noted most (bad place) state store near (bad_small h) s = bad_record place (omega (arith, h, near))
walked_small {S} looks noted most (whole place r rest) state store near (whole_small h small later) s =
    by_step (step_of (looks store) state place r) (step_small place (omega (arith, h, near)) (looks store) state r small s)
    (λ state₁ store₁ p. walked_small looks noted most rest state₁ store₁ near later p)
  where
    by_step : (step : Result (State × Note) Checked) → StepSmall step
        → ((state₁ : State) (store₁ : S) → StateSmall state₁ → value_of_check (answer_of (walked looks noted rest state₁ store₁)) < 2 ^ 32)
        → value_of_check (answer_of (on_step store step (λ state₁ note. walked looks noted rest state₁ (noted store note)))) < 2 ^ 32
    by_step (Err checked) p later = unfold on_step in p
    by_step (Ok (state₁, note)) p later = unfold on_step in later state₁ (noted store note) p

-- what a dictionary's check returns fits in 32 bits
pub check_small : (dictionary : List ℕ) → Bytes dictionary → value_of_check (check_of dictionary) < 2 ^ 32
unfolding check_of read_of too_long
check_small dictionary b = by_test (ltb 60000 (length dictionary)) refl
  where
    by_test : (t : Bool) → ltb 60000 (length dictionary) ≡ t
        → value_of_check (answer_of (pick t (outcome TooLong no_names) (walked looks_in named (records_from dictionary 0) TopLevel no_names))) < 2 ^ 32
    by_test true e = unfold value_of_check values_of_check answer_of in omega arith
    by_test false e =
        walked_small looks_in named (length dictionary) (records_from dictionary 0) TopLevel no_names (ltb-false 60000 (length dictionary) e)
        (records_small dictionary b) tt
