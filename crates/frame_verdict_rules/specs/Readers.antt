-- Readers with three outcomes, and the small readers of which the verdict is made. Each refuses as soon as no continuation can be right.
use Rattle.std.specs.Prelude.{Bool, List, [], ◌∷◌, ℕ, zero, suc, ◌+◌, ◌-◌, ◌*◌, eqb, leb, ltb}
use Rattle.field_rules.specs.Choice.{pick}
use Rattle.field_rules.specs.Number.{is_digit}
use Rattle.frame_verdict_rules.specs.Frame.{separator}

-- `a` was read, and these bytes are left; no continuation can be read; all is well so far, and the bytes do not reach
pub data Out (A : Type 0) : Type 0 where
  on : A → List ℕ → Out A
  bad : Out A
  short : Out A

abbrev pub Reader : Type 0 → Type 0
Reader A = List ℕ → Out A

-- one after the other
infixl 20 ◌>>=◌
unfoldable pub ◌>>=◌ : {A B : Type 0} → Reader A → (A → Reader B) → Reader B
◌>>=◌ p q s = elim (p s) [ on a r ↦ q a r | bad ↦ bad | short ↦ short ]

-- exactly these bytes
unfoldable pub literal : List ℕ → Reader (Unit {0})
literal [] s = on tt s
literal (p ∷ ps) [] = short
literal (p ∷ ps) (x ∷ xs) = pick (eqb p x) (literal ps xs) bad

unfoldable pub with_head : ℕ → Out (List ℕ) → Out (List ℕ)
with_head x (on a r) = on (x ∷ a) r
with_head x bad = bad
with_head x short = short

-- any n bytes
unfoldable pub any : ℕ → Reader (List ℕ)
any zero s = on [] s
any (suc n) [] = short
any (suc n) (x ∷ xs) = with_head x (any n xs)

-- A byte of a text that a separator ends: it ends the text, belongs to it or is wrong.
pub data Kind : Type 0 where
  ends : Kind
  goes : Kind
  wrong : Kind

-- a text byte by byte: `kind` judges its first byte, and `next` reads on behind it
unfoldable pub headed : (ℕ → Kind) → (ℕ → Reader (List ℕ)) → Reader (List ℕ)
headed kind next [] = short
headed kind next (x ∷ xs) = elim (kind x) [ ends ↦ on [] xs | goes ↦ with_head x (next x xs) | wrong ↦ bad ]

-- a byte of a text that still lacks `least` bytes and has room for `most`
unfoldable pub text_kind : ℕ → ℕ → ℕ → Kind
text_kind least most x = pick (eqb x separator) (pick (eqb least 0) ends wrong) (pick (eqb most 0) wrong goes)

-- at least `least` and at most `most` bytes without separator, and a separator
unfoldable pub text : ℕ → ℕ → Reader (List ℕ)
text least zero s = headed (text_kind least 0) (λ x r. bad) s
text least (suc most) s = headed (text_kind least (suc most)) (λ x. text (least - 1) most) s

-- "1 to 16 bytes without separator, separator"
unfoldable pub begin_string : Reader (List ℕ)
begin_string = text 1 16

-- The digits so far are worth v and at most `left` may follow. N can still be at least 4, as `35=` and a separator need, and still
-- fit the `room` that the frame has for N and the digits that follow.
unfoldable pub may_become : ℕ → ℕ → ℕ → Bool
may_become left room v = pick (ltb v 4) (ltb 0 left) (leb v room)

-- a byte behind digits worth v
unfoldable pub digit_kind : ℕ → ℕ → ℕ → ℕ → Kind
digit_kind left room v x =
    pick (eqb x separator) (pick (leb 4 v) ends wrong)
    (pick (is_digit x) (pick (eqb left 0) wrong (pick (may_become (left - 1) (room - 1) (v * 10 + (x - 48))) goes wrong)) wrong)

-- "one to five digits of value N, separator", from digits worth v on
unfoldable pub body_length : ℕ → ℕ → ℕ → Reader (List ℕ)
body_length zero room v s = headed (digit_kind 0 room v) (λ x r. bad) s
body_length (suc left) room v s = headed (digit_kind (suc left) room v) (λ x. body_length left (room - 1) (v * 10 + (x - 48))) s
