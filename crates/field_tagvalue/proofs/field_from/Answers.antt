-- `field_from` meets its contract. Each let-else keeps what was found in a lemma typed by its place; each return cites the law of its way.
use mathlib.Core.Path.{◌≡◌, sym, ap, ◌∙◌}
use Prim.Native.Nat.{ℕ, ◌+◌, ◌-◌, ◌^◌, ◌≤◌, ◌<◌}
use native.Mathlib.Omega.{arith}
use lib.ListN.{length, drop, take, length-drop}
use Rattle.field_rules.specs.Find.{find_in}
use Rattle.field_rules.proofs.FindLaws.{find_in_lem, find_behind, find_moved, find_moved-none}
use Rattle.field_rules.specs.Field.{start_at}
use Rattle.field_rules.specs.Number.{tag_of}
use Rattle.field_rules.proofs.FieldLaws.{no_equals, no_separator, bad-tag, one_field}
use Rattle.field_tagvalue.specs.Tagged.{or_zero}
use Rattle.field_tagvalue.specs.TaggedLaws.{equals-none, equals-told, zero_none, some-tag}
use Rattle.field_tagvalue.proofs.field_from.Goals as goal
use Rattle.field_tagvalue.proofs.field_from.Goals.{In-Some, In-Some-find_from}
use Rattle.field_rules.specs.declared.Field.{Field}
use Rattle.std.proofs.Common.{Some, Ok}

pub returns-in_default : goal.returns-in_default
returns-in_default c = sym (no_equals _ _ _ (equals-none _ (sym c.read_tag.ensures ∙ c.in_default.is)))

-- the place of `=`, and the tag before it
told : (c : In-Some) → let s = c.args.rest.now in (find_in 61 0 s ≡ Some c.in-Some.equals) × (or_zero (tag_of (take c.in-Some.equals s)) ≡ c.in-Some.tag)
told c = equals-told _ _ _ (sym c.read_tag.ensures ∙ c.in-Some.is)

equals-in : (c : In-Some) → c.in-Some.equals < length c.args.rest.now
equals-in c = find_in_lem 61 _ _ (told c).0

pub overflow_add-value : goal.overflow_add-value
overflow_add-value c = omega (arith, equals-in c)

pub returns-in_default-find_from : goal.returns-in_default-find_from
returns-in_default-find_from c = sym (no_separator _ _ _ _ (told (goal.at.returns-in_default-find_from c).In-Some).0 (find_moved-none _ _ _ (sym c.find_from.ensures ∙ c.in_default-find_from.is)))

-- the separator after it, as it is found
separator-found : (c : In-Some-find_from) → let v = c.in-Some.equals + 1 in
    find_in c.args.mode.separator v (drop v c.args.rest.now)
    ≡ Some c.in-Some-find_from.end
separator-found c = sym c.find_from.ensures ∙ c.in-Some-find_from.is

-- and as the rules count: behind `=`
separator-at : (c : In-Some-find_from) → let v = c.in-Some.equals + 1 in
    find_in c.args.mode.separator 0 (drop v c.args.rest.now)
    ≡ Some (c.in-Some-find_from.end - v)
separator-at c = find_moved _ _ _ _ (separator-found c)

pub returns-then-tag-eq0 : goal.returns-then-tag-eq0
returns-then-tag-eq0 c = sym (bad-tag _ _ _ _ _ (told (goal.at.returns-then-tag-eq0 c).In-Some).0 (separator-at (goal.at.returns-then-tag-eq0 c).In-Some-find_from) (zero_none _ ((told (goal.at.returns-then-tag-eq0 c).In-Some).1 ∙ c.if-tag-eq0.true)))

-- it stands behind `=`, within the part
behind : (c : In-Some-find_from) → (c.in-Some.equals + 1 ≤ c.in-Some-find_from.end) × (c.in-Some-find_from.end < length c.args.rest.now)
behind c = let after = find_behind _ _ _ _ (separator-found c) in
    (after, omega (arith, after, find_in_lem _ _ _ (separator-at c), length-drop (c.in-Some.equals + 1) c.args.rest.now))

-- the sums reach the part's end at most
room : (c : In-Some-find_from) → c.args.at + c.in-Some-find_from.end + 1 < 2 ^ 63
room c = omega (arith, behind c, c.requires)

pub overflow_add-at : goal.overflow_add-at
overflow_add-at c = omega (arith, room (goal.at.overflow_add-at c).In-Some-find_from)

pub overflow_add-at-2 : goal.overflow_add-at-2
overflow_add-at-2 c = omega (arith, room (goal.at.overflow_add-at-2 c).In-Some-find_from)

pub overflow_add-result : goal.overflow_add-result
overflow_add-result c = let station = (goal.at.overflow_add-result c).In-Some-find_from in omega (arith, room station, behind station)

pub overflow_sub-result : goal.overflow_sub-result
overflow_sub-result c = (behind (goal.at.overflow_sub-result c).In-Some-find_from).0

-- the next field starts behind the separator
next-starts : (at tag value end : ℕ) → value ≤ end
    → ◌≡◌ {A = Field} (record { first = at; tag = tag; place = at + value; length = end - value; next = start_at (at + value + (end - value) + 1) })
    (record { first = at; tag = tag; place = at + value; length = end - value; next = start_at (at + end + 1) })
next-starts at tag value end h =
    ap (λ (n : ℕ). record { first = at; tag = tag; place = at + value; length = end - value; next = start_at n }) (omega arith)

pub returns : goal.returns
returns c =
    let station = (goal.at.returns c).In-Some-find_from in
    let tag = some-tag _ _ (told (goal.at.returns c).In-Some).1 c.if-tag-eq0.false in
    rw c.start_at-next.ensures (sym (one_field _ _ _ _ _ _ (told (goal.at.returns c).In-Some).0 (separator-at station) tag ∙ ap Ok (next-starts _ _ _ _ (behind station).0)))
