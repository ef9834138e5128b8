use Rattle.std.proofs.Common.{◌≡◌, ◌+◌, ◌-◌, ℕ, List, [], ◌∷◌, ◌++◌, length, take, drop, get_or, refl, sym, ap, ◌∙◌, arith, append_assoc, length-append, take-append-drop, take_at, get_or-append-add, eqb-true}
use Rattle.std.proofs.lemmas.Bool.{eqb-false}
use Rattle.std.proofs.Math.Seq.{take-length}
use Rattle.dictionary_meaning_rules.proofs.MsgTypeLaws.{back_start, number_fits, back_on, name_empty, name_long, name_zero, name_good}
use Rattle.dictionary_flattening.proofs.name_of.Goals as goal
use Rattle.dictionary_flattening.proofs.name_of.Goals.{then-is_empty-via-then-is_empty, then-is_empty-via-else-is_empty+then-msgtype-gt8}

pub returns-then-is_empty : goal.returns-then-is_empty
returns-then-is_empty c =
    elim c.then-is_empty.branch [
      | then-is_empty-via-then-is_empty w ↦ sym (name_empty _ (eqb-true _ _ (sym c.is_empty.ensures ∙ w.if-is_empty.true)))
      | then-is_empty-via-else-is_empty+then-msgtype-gt8 w ↦ sym (name_long _ w.if-msgtype-gt8.true)
    ]

-- the last of the bytes that are left is read, and those before it are still the front of the whole
module _ (whole left front : List ℕ) (byte : ℕ) (fits : left ≡ take (length left) whole) (last : left ≡ front ++ (byte ∷ [])) where
  pub one_less : length left ≡ length front + 1
  one_less = omega (arith, ap length last, length-append front (byte ∷ []))

  joined : whole ≡ front ++ (byte ∷ drop (length left) whole)
  joined =
      sym (take-append-drop (length left) whole) ∙ ap (λ (l : List ℕ). l ++ drop (length left) whole) (sym fits ∙ last)
      ∙ append_assoc front (byte ∷ []) (drop (length left) whole)

  pub front_left : front ≡ take (length front) whole
  front_left = sym (ap (λ (l : List ℕ). take (length front) l) joined ∙ take_at front (byte ∷ drop (length left) whole) (length front) refl)

  pub byte_at : get_or whole (length left - 1) 0 ≡ byte
  byte_at =
      let z : length left - 1 ≡ length front + 0 = omega (arith, one_less) in
      rw z (ap (λ (l : List ℕ). get_or l (length front + 0) 0) joined ∙ get_or-append-add front (byte ∷ drop (length left) whole) 0 0)

pub loop-byte-init : goal.loop-byte-init
loop-byte-init c =
    let all : c.into_iter-byte-iterator.result.iter.rest.now ≡ c.args.msgtype.now = rw (c.into_iter-byte-iterator.ensures.into_iter_gives, c.rev-byte-items.ensures.source) c.iter.ensures.rest in
    record { front = rw all (sym (take-length c.args.msgtype.now)); read = rw all (back_start c.args.msgtype.now (omega arith)) }

pub returns-then-byte-eq0 : goal.returns-then-byte-eq0
returns-then-byte-eq0 c =
    let left = c.loop-byte.byte-iterator.iter.rest.now in
    let inv = c.loop-byte.invariant in
    let less = one_less _ _ _ _ inv.front c.in-Some.ensures.steps in
    sym (name_zero c.args.msgtype.now (length left - 1) (omega (arith, inv.read.within, less)) (byte_at _ _ _ _ inv.front c.in-Some.ensures.steps ∙ c.if-byte-eq0.true))

pub overflow_mul-number : goal.overflow_mul-number
overflow_mul-number c = omega (arith, number_fits _ _ _ c.loop-byte.invariant.read (omega (arith, one_less _ _ _ _ c.loop-byte.invariant.front c.in-Some.ensures.steps)))

pub overflow_add-number : goal.overflow_add-number
overflow_add-number c =
    omega (
      arith,
      number_fits _ _ _ c.loop-byte.invariant.read (omega (arith, one_less _ _ _ _ c.loop-byte.invariant.front c.in-Some.ensures.steps)),
      c.from.ensures,
    )

pub loop-byte-preserved : goal.loop-byte-preserved
loop-byte-preserved c =
    let inv = c.loop-byte.invariant in
    let last = c.in-Some.ensures.steps in
    let here = byte_at _ _ _ _ inv.front last in
    let less = one_less _ _ _ _ inv.front last in
    let left : length c.loop-byte.byte-iterator.iter.rest.now - 1 ≡ length c.next.new.self.iter.rest.now = omega (arith, less) in
    let on = back_on _ _ _ inv.read (omega (arith, less)) (λ z. c.if-byte-eq0.false (sym here ∙ z)) (omega (arith, here)) in
    record { front = front_left _ _ _ _ inv.front last; read = rw c.from.ensures (rw (here, left) at on) }

pub returns : goal.returns
returns c =
    sym (name_good _ _ _ c.in-None.ensures.steps.0 (eqb-false _ _ (sym c.is_empty.ensures ∙ c.if-is_empty.false)) c.loop-byte.invariant.read)
