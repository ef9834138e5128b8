-- A state that a call left is read by the next call as it was meant.
use Rattle.std.specs.Prelude.{ℕ, eqb, ◌≡◌, refl, Bool, true, false}
use Rattle.std.proofs.Common.{arith, sym, ap, ◌∙◌, eqb-true}
use Rattle.std.proofs.lemmas.Bool.{eqb-false}
use Rattle.field_rules.specs.Choice.{pick}
use Rattle.frame_parser_rules.specs.declared.State.{State}
use Rattle.frame_parser_rules.specs.Framer.{fresh}
use Rattle.frame_hunter_rules.specs.declared.State.{State as Hunter}
use Rattle.frame_hunter_rules.specs.Bytes.{fresh_state, state_of}
use Rattle.face_framers.specs.declared.PortedState.{PortedState}
use Rattle.face_framers.specs.declared.HunterState.{HunterState}
use Rattle.face_framers.specs.States.{is_set, mark_left, ported_in, ported_out, ported_fresh, hunter_in, hunter_out, hunter_fresh}
use Rattle.face_framers.proofs.MarkLaws.{unset, set-mark, left_unset, left-kept}

same-mark : (mark : ℕ) → mark_left mark (is_set mark) ≡ mark
same-mark mark = go (eqb mark 0) refl
  where
    go : (b : Bool) → eqb mark 0 ≡ b → mark_left mark (is_set mark) ≡ mark
    go true e = let z : mark ≡ 0 = eqb-true mark 0 e in rw (sym (unset mark z)) (sym (left_unset mark false refl) ∙ sym z)
    go false e = rw (sym (set-mark mark (eqb-false mark 0 e))) (sym (left-kept mark true refl (eqb-false mark 0 e)))

read_back : (mark : ℕ) (b : Bool) → is_set (mark_left mark b) ≡ b
unfolding mark_left
read_back mark false = sym (unset 0 refl)
read_back mark true = go (is_set mark) refl
  where
    go : (c : Bool) → is_set mark ≡ c → is_set (pick c mark 1) ≡ true
    go true e = e
    go false e = sym (set-mark 1 (λ z. omega arith))

-- NOTHING OF A STATE IS LOST between two calls, whatever was lent
pub ported-kept : (lent : PortedState) (s : State) → ported_in (ported_out lent s) ≡ s
unfolding ported_in ported_out
ported-kept lent s = rw (read_back lent.ended s.ended, read_back lent.over s.over) refl

pub hunter-kept : (lent : HunterState) (s : Hunter) → hunter_in (hunter_out lent s) ≡ s
unfolding hunter_in hunter_out
hunter-kept lent s = rw (read_back lent.ended s.ended) refl

-- AS IT WAS: a call that leaves what the state means leaves every byte of it
pub ported_as_it_was : (lent : PortedState) → ported_out lent (ported_in lent) ≡ lent
unfolding ported_in ported_out
ported_as_it_was lent = rw (same-mark lent.ended, same-mark lent.over) refl

pub hunter_as_it_was : (lent : HunterState) → hunter_out lent (hunter_in lent) ≡ lent
unfolding hunter_in hunter_out
hunter_as_it_was lent = rw (same-mark lent.ended) refl

-- marks that calls left from zeros on are 0 or 1, and what they were before doesn't show
plain-mark : (a b : Bool) → mark_left (mark_left 0 a) b ≡ mark_left 0 b
unfolding mark_left is_set
plain-mark a true = go a
  where
    go : (a : Bool) → ◌≡◌ {A = ℕ} (pick (pick (eqb (pick a 1 0) 0) false true) (pick a 1 0) 1) 1
    go true = refl
    go false = refl
plain-mark a false = refl

pub ported_plain_lem : (a b : State) → ported_out (ported_out ported_fresh a) b ≡ ported_out ported_fresh b
unfolding ported_out
ported_plain_lem a b = rw (plain-mark a.ended b.ended, plain-mark a.over b.over) refl

pub hunter_plain_lem : (a b : Hunter) → hunter_out (hunter_out hunter_fresh a) b ≡ hunter_out hunter_fresh b
unfolding hunter_out
hunter_plain_lem a b = rw (plain-mark a.ended b.ended) refl

-- reset leaves zeros, and a call reads them as a fresh state
pub ported-zeros : ported_out ported_fresh fresh ≡ ported_fresh
unfolding ported_out mark_left fresh
ported-zeros = refl

pub hunter-zeros : hunter_out hunter_fresh fresh_state ≡ hunter_fresh
unfolding hunter_out mark_left fresh_state state_of
hunter-zeros = refl

pub ported_fresh_lem : ported_in ported_fresh ≡ fresh
ported_fresh_lem = sym (ap ported_in ported-zeros) ∙ ported-kept ported_fresh fresh

pub hunter_fresh_lem : hunter_in hunter_fresh ≡ fresh_state
hunter_fresh_lem = sym (ap hunter_in hunter-zeros) ∙ hunter-kept hunter_fresh fresh_state
