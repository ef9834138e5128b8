-- Fields whose records are alike have the same tags: records that follow one reading and their like that follow another tell so.
-- Fewer fields agree where more do.
use Rattle.std.proofs.Common.{sym, ◌∙◌, arith}
use Rattle.std.specs.Prelude.{List, ℕ, zero, suc, ◌+◌, ◌≤◌, length}
use Rattle.field_rules.specs.Fields.{Fields}
use Rattle.build_records.specs.declared.Record.{Record}
use Rattle.build_order_laws.specs.Follows.{Follows, no_field, one_field}
use Rattle.build_order_laws.specs.Agree.{Agree, enough, same, Similar, none, more}

pub agree_less : {m n : ℕ} {fields others : Fields} → m ≤ n → Agree n fields others → Agree m fields others
agree_less {m = zero} h a = enough
agree_less {m = suc m} h enough = absurd (omega arith)
agree_less {m = suc m} h (same {n} t a) = let l : m ≤ n = omega arith in same t (agree_less l a)

-- the fields of records that are alike have the same tags, and so on where the fields behind them have
pub follows_agree_on : {part other m : ℕ} {fields others last end : Fields} {rs qs : List Record} → Follows part fields rs last → Follows other others qs end → Similar rs qs → Agree m last end → Agree (length rs + m) fields others
follows_agree_on {part = part} {other = other} {m = m} {end = end} (no_field {fields = fields}) (one_field {f = f} {rest = rest} {rs = rs} q p g) x25 a = elim x25 [ ]
follows_agree_on {part = part} {other = other} {m = m} {others = others} (one_field {rest = rest} {last = last} {rs = rs} r o f) no_field x16 a = elim x16 [ ]
follows_agree_on no_field no_field none a = agree_less (omega arith) a
follows_agree_on (one_field r o f) (one_field q p g) (more b s) a = agree_less (omega arith) (same (sym o.tagged ∙ b.tag ∙ p.tagged) (follows_agree_on f g s a))

pub follows_agree : {part other : ℕ} {fields others last end : Fields} {rs qs : List Record} → Follows part fields rs last → Follows other others qs end → Similar rs qs → Agree (length rs) fields others
follows_agree f g s = agree_less (omega arith) (follows_agree_on f g s enough)
