-- A formed map stays formed when a field is removed or stored. A new field takes its run along: its tag is left nowhere in front, and its
-- run is of no other tag.
use Rattle.std.specs.Prelude.{◌≡◌, Bool, true, false, List, ℕ, eqb}
use Rattle.std.proofs.Math.Path.{refl}
use Rattle.std.proofs.Common.{sym, ap, ◌∙◌, eqb-true, ne_eqb}
use Rattle.field_rules.specs.Choice.{pick}
use Rattle.message_maps.specs.Map.{Map, end, field, entry, joined, holds, replaced, without_field, leading, past_leading, run_on, without_run, stored}
use Rattle.message_lent_rules.specs.Formed.{stands, is_formed}
use Rattle.message_lent_rules.specs.StandLaws.{never, nor, not_so, field_formed, formed_field, entry_formed, past_same}
use Rattle.message_lent_rules.specs.KeptLaws.{formed_fewer, fewer_replaced, fewer_without, fewer_run, fewer_without_run, formed_joined}

-- "Removing keeps order"
pub formed_without : (tag : ℕ) (m : Map) → is_formed m ≡ true → is_formed (without_field tag m) ≡ true
formed_without tag m = formed_fewer (fewer_without tag m)

-- the run on a tag is of that tag alone
leading_past : (start : ℕ) (m : Map) → stands start (past_leading start (leading start m)) ≡ false
unfolding leading
leading_past start end = unfold stands past_leading in refl
leading_past start (field t v rest) = unfold stands past_leading in refl
leading_past start (entry s d own rest) = by_test (eqb s start) refl (leading_past start rest)
  where
    by_test : (b : Bool) → eqb s start ≡ b → stands start (past_leading start (leading start rest)) ≡ false → stands start (past_leading start (pick b (entry s d own (leading start rest)) end)) ≡ false
    by_test true e again = past_same start s d own (leading start rest) e ∙ again
    by_test false e again = unfold stands past_leading in refl

run_past : (start : ℕ) (m : Map) → stands start (past_leading start (run_on start m)) ≡ false
unfolding run_on
run_past start end = unfold stands past_leading in refl
run_past start (field t v rest) = run_past start rest
run_past start (entry s d own rest) = by_test (eqb s start) refl (run_past start rest)
  where
    by_test : (b : Bool) → eqb s start ≡ b → stands start (past_leading start (run_on start rest)) ≡ false → stands start (past_leading start (pick b (entry s d own (leading start rest)) (run_on start rest))) ≡ false
    by_test true e again = past_same start s d own (leading start rest) e ∙ leading_past start rest
    by_test false e again = again

-- an entry of a tag is of no other
other-entry : (u start s d : ℕ) (own rest : Map) → eqb start u ≡ false → eqb s start ≡ true → stands u rest ≡ false → stands u (entry s d own rest) ≡ false
unfolding stands
other-entry u start s d own rest n e h = rw (ap (λ (t : ℕ). eqb t u) (eqb-true s start e) ∙ n) h

leading_only : (u start : ℕ) (m : Map) → eqb start u ≡ false → stands u (leading start m) ≡ false
unfolding leading
leading_only u start end n = unfold stands in refl
leading_only u start (field t v rest) n = unfold stands in refl
leading_only u start (entry s d own rest) n = by_test (eqb s start) refl (leading_only u start rest n)
  where
    by_test : (b : Bool) → eqb s start ≡ b → stands u (leading start rest) ≡ false → stands u (pick b (entry s d own (leading start rest)) end) ≡ false
    by_test true e again = other-entry u start s d own (leading start rest) n e again
    by_test false e again = unfold stands in refl

run_only : (u start : ℕ) (m : Map) → eqb start u ≡ false → stands u (run_on start m) ≡ false
unfolding run_on
run_only u start end n = unfold stands in refl
run_only u start (field t v rest) n = run_only u start rest n
run_only u start (entry s d own rest) n = by_test (eqb s start) refl (run_only u start rest n)
  where
    by_test : (b : Bool) → eqb s start ≡ b → stands u (run_on start rest) ≡ false → stands u (pick b (entry s d own (leading start rest)) (run_on start rest)) ≡ false
    by_test true e again = other-entry u start s d own (leading start rest) n e (leading_only u start rest n)
    by_test false e again = again

-- without its field and its run a tag stands nowhere
run_gone : (tag : ℕ) (m : Map) → holds tag m ≡ false → is_formed m ≡ true → stands tag (without_run tag m) ≡ false
unfolding holds without_run stands
run_gone tag end absent formed = refl
run_gone tag (field t v rest) absent formed =
    let n = nor (eqb t tag) _ absent in
    rw n.0 (run_gone tag rest n.1 (field_formed t v rest formed).rest_formed)
run_gone tag (entry s d own rest) absent formed =
    let it = entry_formed s d own rest formed in
    by_test (eqb s tag) refl it.once (run_gone tag rest absent it.rest_formed)
  where
    by_test : (b : Bool) → eqb s tag ≡ b → stands s (past_leading s rest) ≡ false → stands tag (without_run tag rest) ≡ false → stands tag (pick b (past_leading tag rest) (entry s d own (without_run tag rest))) ≡ false
    by_test true e once again = ap (λ (t : ℕ). stands t (past_leading t rest)) (sym (eqb-true s tag e)) ∙ once
    by_test false e once again = rw e again

-- and what is new has no tag that is left
new_apart : (tag : ℕ) (value : List ℕ) (m : Map) → holds tag m ≡ false → is_formed m ≡ true → (u : ℕ) → stands u (without_run tag m) ≡ true → stands u (field tag value (run_on tag m)) ≡ false
unfolding stands
new_apart tag value m absent formed u h =
    let other : eqb tag u ≡ false = not_so (eqb tag u) (λ e. never (sym h ∙ ap (λ (t : ℕ). stands t (without_run tag m)) (sym (eqb-true tag u e)) ∙ run_gone tag m absent formed)) in
    rw other (run_only u tag m other)

-- "Fields in order of first storing; storing a held tag replaces the value and keeps the position"
pub formed_stored : (tag : ℕ) (value : List ℕ) (m : Map) → (tag ≡ 0 → ⊥) → is_formed m ≡ true → is_formed (stored tag value m) ≡ true
unfolding stored
formed_stored tag value m some formed = by_test (holds tag m) refl
  where
    by_test : (b : Bool) → holds tag m ≡ b → is_formed (pick b (replaced tag value m) (joined (without_run tag m) (field tag value (run_on tag m)))) ≡ true
    by_test true e = formed_fewer (fewer_replaced tag value m) formed
    by_test false e =
        formed_joined (without_run tag m) (field tag value (run_on tag m)) (formed_fewer (fewer_without_run tag m) formed)
        (formed_field tag value (run_on tag m) (record { some = ne_eqb tag 0 some; once = run_past tag m; rest_formed = formed_fewer (fewer_run tag m) formed }))
        (new_apart tag value m e formed)
