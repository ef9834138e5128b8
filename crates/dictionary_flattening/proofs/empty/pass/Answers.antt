use mathlib.Core.Path.{sym, ◌∙◌}
use native.Mathlib.Omega.{arith}
use Rattle.dictionary_rules.specs.Index.{component_at}
use Rattle.dictionary_flattening.specs.Leaps.{Leads, Leaps}
use Rattle.dictionary_flattening.proofs.LeapsLaws.{leads_nowhere, leads_on, leads_leaping, leaps_kept, leaps_reached}
use Rattle.dictionary_flattening.proofs.empty.pass.Goals as goal

pub loop-at-init : goal.loop-at-init
loop-at-init c = (leads_nowhere, leads_nowhere, c.requires.1)

pub known_from-known-requires : goal.known_from-known-requires
known_from-known-requires c = c.loop-at.invariant.2.size

pub loop-at-smaller-then-at-known : goal.loop-at-smaller-then-at-known
loop-at-smaller-then-at-known c =
    let leapt : Leads c.args.bytes.now (component_at c.args.index.now) c.loop-at.at c.known_from-known.result = rw c.known_from-known.ensures (c.loop-at.invariant.2.told c.loop-at.at (omega (arith, c.if-at-known.true, c.known_from-known.ensures))) in
    omega (arith, (leapt).within c.if-at-known.true, c.if-at-known.true)

pub loop-at-preserved-then-at-known : goal.loop-at-preserved-then-at-known
loop-at-preserved-then-at-known c =
    let leapt : Leads c.args.bytes.now (component_at c.args.index.now) c.loop-at.at c.known_from-known.result = rw c.known_from-known.ensures (c.loop-at.invariant.2.told c.loop-at.at (omega (arith, c.if-at-known.true, c.known_from-known.ensures))) in
    let on = leapt in
    (leads_on c.loop-at.invariant.0 on, rw c.leaping_since-since.ensures (leads_leaping c.loop-at.invariant.1 on), c.loop-at.invariant.2)

pub keep_reached-since-requires : goal.keep_reached-since-requires
keep_reached-since-requires c = c.loop-at.invariant.2.size

pub past_item-next-requires : goal.past_item-next-requires
past_item-next-requires c = c.requires.0

pub keep-requires : goal.keep-requires
keep-requires c =
    let reached : Leaps c.args.bytes.now (component_at c.args.index.now) c.keep_reached-since.new.leaps × Leads c.args.bytes.now (component_at c.args.index.now)
    c.keep_reached-since.result c.loop-at.at = rw (c.keep_reached-since.ensures.0, c.keep_reached-since.ensures.1) (leaps_reached c.loop-at.invariant.2 c.loop-at.invariant.1) in
    (reached).0.size

pub shape_of-leaps-then-next-at : goal.shape_of-leaps-then-next-at
shape_of-leaps-then-next-at c = c.keep.auto.leaps ∙ c.keep_reached-since.auto.leaps ∙ c.loop-at.invariant.2.size ∙ sym c.requires.1.size

pub returns-then-next-at : goal.returns-then-next-at
returns-then-next-at c =
    let reached : Leaps c.args.bytes.now (component_at c.args.index.now) c.keep_reached-since.new.leaps × Leads c.args.bytes.now (component_at c.args.index.now)
    c.keep_reached-since.result c.loop-at.at = rw (c.keep_reached-since.ensures.0, c.keep_reached-since.ensures.1) (leaps_reached c.loop-at.invariant.2 c.loop-at.invariant.1) in
    let h = reached in
    record { leads = c.loop-at.invariant.0; leaps = rw c.keep.ensures (leaps_kept h.0 h.1) }

pub loop-at-smaller : goal.loop-at-smaller
loop-at-smaller c = omega (arith, c.past_item-next.ensures.within c.if-next-at.false, c.if-next-at.false)

pub loop-at-preserved : goal.loop-at-preserved
loop-at-preserved c =
    let reached : Leaps c.args.bytes.now (component_at c.args.index.now) c.keep_reached-since.new.leaps × Leads c.args.bytes.now (component_at c.args.index.now)
    c.keep_reached-since.result c.loop-at.at = rw (c.keep_reached-since.ensures.0, c.keep_reached-since.ensures.1) (leaps_reached c.loop-at.invariant.2 c.loop-at.invariant.1) in
    let h = reached in
    let on = c.past_item-next.ensures in
    (leads_on c.loop-at.invariant.0 on, leads_on h.1 on, h.0)
