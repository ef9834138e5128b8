-- Marks as they are read and left, and states as they are lent, read and told.
use Rattle.std.specs.Prelude.{ℕ, ◌≡◌, refl, Bool, true, false}
use Rattle.std.proofs.Common.{sym, ap, eq-eqb, ne_eqb}
use Rattle.field_rules.specs.Choice.{pick}
use Rattle.frame_parser_rules.specs.declared.State.{State}
use Rattle.frame_parser_rules.specs.declared.Answer.{Answer}
use Rattle.frame_parser_rules.specs.Framer.{number_of_parser}
use Rattle.frame_hunter_rules.specs.declared.State.{State as Hunter}
use Rattle.frame_hunter_rules.specs.declared.Answer.{Answer as Hunted}
use Rattle.frame_hunter_rules.specs.Bytes.{number_of_hunter}
use Rattle.face_framers.specs.declared.PortedState.{PortedState}
use Rattle.face_framers.specs.declared.PortedReply.{PortedReply}
use Rattle.face_framers.specs.declared.HunterState.{HunterState}
use Rattle.face_framers.specs.declared.HunterReply.{HunterReply}
use Rattle.face_framers.specs.States.{is_set, mark_left, ported_in, ported_out, ported_told, hunter_in, hunter_out, hunter_told}

pub unset : (mark : ℕ) → mark ≡ 0 → false ≡ is_set mark
unfolding is_set
unset mark e = sym (ap (λ (b : Bool). pick b false true) (eq-eqb mark 0 e))

pub set-mark : (mark : ℕ) → (mark ≡ 0 → ⊥) → true ≡ is_set mark
unfolding is_set
set-mark mark e = sym (ap (λ (b : Bool). pick b false true) (ne_eqb mark 0 e))

pub ported-read : (s : PortedState) (b c : Bool) → b ≡ is_set s.ended → c ≡ is_set s.over → ◌≡◌ {A = State} (record { used = s.used; ended = b; over = c }) (ported_in s)
unfolding ported_in
ported-read s b c eb ec = rw (eb, ec) refl

pub hunter-read : (s : HunterState) (b : Bool) → b ≡ is_set s.ended → ◌≡◌ {A = Hunter} (record { used = s.used; dropped = s.dropped; ended = b }) (hunter_in s)
unfolding hunter_in
hunter-read s b eb = rw eb refl

pub ported-reply : (lent : PortedState) (s : State) (answer : Answer) (b c n : ℕ) → b ≡ mark_left lent.ended s.ended → c ≡ mark_left lent.over s.over → n ≡ number_of_parser answer
    → ◌≡◌ {A = PortedReply} (record { state = record { used = s.used; ended = b; over = c }; number = n }) (ported_told lent s answer)
unfolding ported_out
ported-reply lent s answer b c n eb ec en = rw (eb, ec, en) refl

pub hunter-reply : (lent : HunterState) (s : Hunter) (answer : Hunted) (b n : ℕ) → b ≡ mark_left lent.ended s.ended → n ≡ number_of_hunter answer
    → ◌≡◌ {A = HunterReply} (record { state = record { used = s.used; dropped = s.dropped; ended = b }; number = n }) (hunter_told lent s answer)
unfolding hunter_out
hunter-reply lent s answer b n eb en = rw (eb, en) refl

-- ---- a mark that is left

pub left_unset : (mark : ℕ) (set : Bool) → set ≡ false → 0 ≡ mark_left mark set
unfolding mark_left
left_unset mark set e = rw e refl

pub left-new : (mark : ℕ) (set : Bool) → set ≡ true → mark ≡ 0 → 1 ≡ mark_left mark set
unfolding mark_left
left-new mark set e z = rw (e, sym (unset mark z)) refl

pub left-kept : (mark : ℕ) (set : Bool) → set ≡ true → (mark ≡ 0 → ⊥) → mark ≡ mark_left mark set
unfolding mark_left
left-kept mark set e z = rw (e, sym (set-mark mark z)) refl
