use mathlib.Core.Path.{◌≡◌, sym, ap, ◌∙◌}
use Prim.Native.Nat.{◌<◌}
use native.Mathlib.Numerals.{add-one}
use native.Mathlib.Omega.{arith}
use Rattle.dictionary_chains.specs.Chain.{key_room, key_of, entry_at, branch_of, way_of}
use Rattle.dictionary_chains.proofs.WordLaws.{head_small, key_small}
use Rattle.dictionary_chains.proofs.WayLaws.{strayed-late, strayed-early, follow_none, follow_hit, follow_stray, follow_on}
use Rattle.dictionary_chains.proofs.way_of.Goals as goal

pub link_at-link-requires : goal.link_at-link-requires
link_at-link-requires c = (c.requires.0, omega (arith, head_small c.args.table c.args.key, c.head_of-cell.ensures))

pub loop-link-init : goal.loop-link-init
loop-link-init c = unfold way_of in rw (c.link_at-link.ensures, c.head_of-cell.ensures)

pub returns-then-key_of-key : goal.returns-then-key_of-key
returns-then-key_of-key c =
    let met : c.key_of.result ≡ key_of c.args.table (entry_at c.args.index.now c.loop-link.link) = c.key_of.ensures ∙ ap (key_of _) c.entry_at.ensures in
    sym (c.loop-link.invariant ∙ follow_hit _ _ _ _ _ _ _ c.loop-link-test.true (sym (met) ∙ c.if-key_of-key.true))

pub returns-then-turns-most : goal.returns-then-turns-most
returns-then-turns-most c =
    let met : c.key_of.result ≡ key_of c.args.table (entry_at c.args.index.now c.loop-link.link) = c.key_of.ensures ∙ ap (key_of _) c.entry_at.ensures in
    let met-small : c.key_of.result < key_room c.args.table = omega (
      arith,
      c.key_of.ensures,
      key_small c.args.table c.entry_at.result (omega arith) (omega arith) (omega arith) (omega arith),
    ) in
    sym (c.loop-link.invariant
    ∙ follow_stray _ _ _ _ _ _ _ c.loop-link-test.true (λ e. c.if-key_of-key.false (met ∙ e))
    (strayed-late _ _ _ _ (omega (arith, c.if-turns-most.true, c.most_turns-most.ensures)) (omega (arith, met, met-small)) c.requires.1))

pub link_at-link-requires-in-loop-link : goal.link_at-link-requires-in-loop-link
link_at-link-requires-in-loop-link c = (c.requires.0, omega arith)

pub loop-link-preserved : goal.loop-link-preserved
loop-link-preserved c =
    let met : c.key_of.result ≡ key_of c.args.table (entry_at c.args.index.now c.loop-link.link) = c.key_of.ensures ∙ ap (key_of _) c.entry_at.ensures in
    c.loop-link.invariant
    ∙ follow_on _ _ _ _ _ _ _ c.loop-link-test.true (λ e. c.if-key_of-key.false (met ∙ e))
    (strayed-early _ _ _ _ (omega (arith, c.most_turns-most.ensures)))
    ∙ unfold branch_of in rw (c.link_at-link-in-loop-link.ensures, add-one)

pub returns : goal.returns
returns c = sym (c.loop-link.invariant ∙ follow_none _ _ _ _ _ _ _ c.loop-link-test.false)
