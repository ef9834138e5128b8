-- The fields of a copy beside those that its records were read of: record by record they have the same tag, so they agree.
-- The copy's 10 stands behind them, where the message has a 10 too or nothing that can be read.
use Rattle.std.specs.Prelude.{◌≡◌, Bool, true, false, List, [], ◌∷◌, ◌++◌, ℕ, suc, ◌+◌, ◌≤◌, length, eqb, Option, Some, None}
use Rattle.std.proofs.Common.{sym, ◌∙◌, arith, eq-eqb}
use Rattle.field_rules.specs.Choice.{pick}
use Rattle.field_rules.specs.Fields.{Fields, field}
use Rattle.field_rules.specs.declared.Field.{Field}
use Rattle.build_records.specs.declared.Record.{Record}
use Rattle.build_order_laws.specs.Counted.{trailer_fields}
use Rattle.build_order_laws.specs.Follows.{Follows, no_field, one_field, Reaches, here, further}
use Rattle.build_order_laws.specs.TrailerStores.{Last, at-stop, at_end}
use Rattle.build_order_laws.specs.Agree.{Agree, enough, same}
use Rattle.build_order_laws.specs.AgreeLaws.{agree_less}
use Rattle.encode_rewriting_laws.proofs.Copied.{onto, Copied, copied_none, copied_more}

-- fields that were read, and those of a copy of their records and of others; how it goes on behind them is a parameter
pub copied_agree : {part m : ℕ} {bytes copy : List ℕ} {fields last : Fields} (end : Fields) {rs : List Record} (ss : List Record) {fs : List Field} → Follows part fields rs last → Copied bytes copy (rs ++ ss) fs
    → ((gs : List Field) → Copied bytes copy ss gs → Agree m last (onto gs end)) → Agree (length rs + m) fields (onto fs end)
unfolding onto
copied_agree end ss {fs = fs} no_field copied behind = agree_less (omega arith) (behind fs copied)
copied_agree end ss (one_field r of follows) (copied_more q f tag value copied) behind = agree_less (omega arith) (same (sym of.tagged ∙ sym tag) (copied_agree end ss follows copied behind))

pub copied_none_agree : {m : ℕ} {bytes copy : List ℕ} {last end : Fields} {gs : List Field} → Copied bytes copy [] gs → Agree m last end → Agree m last (onto gs end)
unfolding onto
copied_none_agree copied_none a = a

-- whether a 10 stopped the trailer, as a number of fields
unfoldable pub stop_fields : Option Field → ℕ
stop_fields (Some f) = 1
stop_fields None = 0

pub end_agree : {stop : Option Field} {last : Fields} → Last stop last → (checksum : Field) (end : Fields) → checksum.tag ≡ 10 → Agree (stop_fields stop) last (field checksum end)
unfolding stop_fields
end_agree (at-stop ten) checksum end e = same (ten ∙ sym e) enough
end_agree at_end checksum end e = enough

-- the field that ended the body is one of the trailer's, or the 10 that stopped it
pub trailer-some : {stop : Option Field} {last fields more : Fields} {g : Field} {rs : List Record} → Last stop last → Follows 3 fields rs last → fields ≡ field g more → 1 ≤ length rs + stop_fields stop
unfolding stop_fields
trailer-some (at-stop ten) follows e = omega arith
trailer-some at_end no_field e = let z : ◌≡◌ {A = ℕ} 0 1 = cc in absurd (omega arith)
trailer-some at_end (one_field r of follows) e = omega arith

-- all fields of a copy are read before what stands behind them
pub reaches-onto : (fs : List Field) (end : Fields) → Reaches (onto fs end) (length fs) end
unfolding onto
reaches-onto [] end = here
reaches-onto (f ∷ fs) end = further (reaches-onto fs end)

-- what is reached from the start is reached from the middle
pub reaches-rest : {fields middle end : Fields} {n m k : ℕ} → Reaches fields n middle → Reaches fields m end → m ≡ n + k → Reaches middle k end
reaches-rest {k = k} here b e = let d : _ ≡ k = e ∙ omega arith in rw (← d) b
reaches-rest (further a) here e = absurd (omega arith)
reaches-rest (further a) (further b) e = reaches-rest a b (omega arith)

-- the trailer takes no field behind a tag 10
pub ten_ends : {fields rest : Fields} {n : ℕ} {f : Field} → Reaches fields n (field f rest) → f.tag ≡ 10 → trailer_fields fields ≤ n
unfolding trailer_fields
ten_ends {f = f} here ten = rw (eq-eqb f.tag 10 ten) (omega arith)
ten_ends (further {f = g} {rest = more} {n = n} reaches) ten = by_tag (eqb g.tag 10) (ten_ends reaches ten)
  where
    by_tag : (b : Bool) → trailer_fields more ≤ n → pick b 0 (suc (trailer_fields more)) ≤ suc n
    by_tag true l = omega arith
    by_tag false l = omega arith
