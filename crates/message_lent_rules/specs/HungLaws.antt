-- A formed map stays formed when a run is hung: the run brings no tag but its start tag, and stands behind its count, where the run before
-- stood, or last.
use Rattle.std.specs.Prelude.{◌≡◌, Bool, true, false, List, ℕ, eqb}
use Rattle.std.proofs.Math.Path.{refl}
use Rattle.std.proofs.Common.{sym, ap, ◌∙◌, ⊎_elim, eqb-true, ne_eqb}
use Rattle.std.proofs.lemmas.Bool.{eqb-false}
use Rattle.field_rules.specs.Choice.{pick, pick_same}
use Rattle.message_maps.specs.Map.{Map, end, field, entry, joined, holds, past_leading, hung_on_count, hung_alone, hung}
use Rattle.message_lent_rules.specs.LentLaws.{both}
use Rattle.message_lent_rules.specs.Formed.{stands, goes_on, is_formed, is_run}
use Rattle.message_lent_rules.specs.StandLaws.{either, never, nor, not_so, field_formed, formed_field, entry_formed, formed_entry, past_none, goes_none, behind-field, past_field, past_entry, past_same}
use Rattle.message_lent_rules.specs.KeptLaws.{fewer_stands, formed_fewer, fewer_past_leading, joined-none, formed_joined}

other_way : (a b : ℕ) → eqb a b ≡ false → eqb b a ≡ false
other_way a b h = ne_eqb b a (λ e. eqb-false a b h (sym e))

-- where a run came to hang
pub data Hangs (start : ℕ) (run : Map) : Map → Map → Type 0 where
  hangs-last : Hangs start run end run
  hangs_instead : {s d : ℕ} {own rest : Map} → eqb s start ≡ true → Hangs start run (entry s d own rest) (joined run (past_leading start rest))
  hangs-on : {t : ℕ} {v : List ℕ} {rest : Map} → eqb t start ≡ true → Hangs start run (field t v rest) (field t v (joined run (past_leading start rest)))
  hangs_past_field : {t : ℕ} {v : List ℕ} {rest left : Map} → eqb t start ≡ false → Hangs start run rest left → Hangs start run (field t v rest) (field t v left)
  hangs_past_entry : {s d : ℕ} {own rest left : Map} → eqb s start ≡ false → Hangs start run rest left → Hangs start run (entry s d own rest) (entry s d own left)

-- a count that is held stands, and not among what leads
holds-stands : (u : ℕ) (m : Map) → holds u m ≡ true → stands u m ≡ true
unfolding holds stands
holds-stands u end h = h
holds-stands u (field t v rest) h = by_test (eqb t u) h (holds-stands u rest)
  where
    by_test : (b : Bool) → pick b true (holds u rest) ≡ true → (holds u rest ≡ true → stands u rest ≡ true) → pick b true (stands u rest) ≡ true
    by_test true k again = refl
    by_test false k again = again k
holds-stands u (entry s d own rest) h = rw (holds-stands u rest h) (pick_same (eqb s u) true)

holds_past : (u : ℕ) (m : Map) → holds u m ≡ true → stands u (past_leading u m) ≡ true
unfolding holds past_leading
holds_past u end h = never (sym h)
holds_past u (field t v rest) h = holds-stands u (field t v rest) h
holds_past u (entry s d own rest) h = by_test (eqb s u) (holds_past u rest h)
  where
    by_test : (b : Bool) → stands u (past_leading u rest) ≡ true → stands u (pick b (past_leading u rest) (entry s d own rest)) ≡ true
    by_test true again = again
    by_test false again = holds-stands u (entry s d own rest) h

-- `hung` hangs a run in one of these ways
hung-on_count : (start : ℕ) (run m : Map) → holds start m ≡ true → is_formed m ≡ true → Hangs start run m (hung_on_count start run m)
unfolding holds hung_on_count
hung-on_count start run end h formed = never (sym h)
hung-on_count start run (field t v rest) h formed = by_test (eqb t start) refl h (λ k. hung-on_count start run rest k (field_formed t v rest formed).rest_formed)
  where
    by_test : (b : Bool) → eqb t start ≡ b → pick b true (holds start rest) ≡ true → (holds start rest ≡ true → Hangs start run rest (hung_on_count start run rest))
        → Hangs start run (field t v rest) (pick b (field t v (joined run (past_leading start rest))) (field t v (hung_on_count start run rest)))
    by_test true e k again = hangs-on e
    by_test false e k again = hangs_past_field e (again k)
hung-on_count start run (entry s d own rest) h formed =
    let it = entry_formed s d own rest formed in
    let other : eqb s start ≡ false = not_so (eqb s start) (λ e. never (sym (holds_past start rest h) ∙ ap (λ (t : ℕ). stands t (past_leading t rest)) (sym (eqb-true s start e)) ∙ it.once)) in
    hangs_past_entry other (hung-on_count start run rest h it.rest_formed)

hung_alone_lem : (start : ℕ) (run m : Map) → holds start m ≡ false → Hangs start run m (hung_alone start run m)
unfolding holds hung_alone
hung_alone_lem start run end h = hangs-last
hung_alone_lem start run (field t v rest) h = let n = nor (eqb t start) _ h in hangs_past_field n.0 (hung_alone_lem start run rest n.1)
hung_alone_lem start run (entry s d own rest) h = by_test (eqb s start) refl (hung_alone_lem start run rest h)
  where
    by_test : (b : Bool) → eqb s start ≡ b → Hangs start run rest (hung_alone start run rest) → Hangs start run (entry s d own rest) (pick b (joined run (past_leading start rest)) (entry s d own (hung_alone start run rest)))
    by_test true e again = hangs_instead e
    by_test false e again = hangs_past_entry e again

pub hung-hangs : (start : ℕ) (run m : Map) → is_formed m ≡ true → Hangs start run m (hung start run m)
unfolding hung
hung-hangs start run m formed = by_test (holds start m) refl
  where
    by_test : (b : Bool) → holds start m ≡ b → Hangs start run m (pick b (hung_on_count start run m) (hung_alone start run m))
    by_test true e = hung-on_count start run m e formed
    by_test false e = hung_alone_lem start run m e

-- a run is of its start tag alone
run-other : (start delimiter u : ℕ) (run : Map) → is_run start delimiter run ≡ true → eqb start u ≡ false → stands u run ≡ false
unfolding is_run stands
run-other start delimiter u end h n = refl
run-other start delimiter u (field t v rest) h n = never (sym h)
run-other start delimiter u (entry s d own rest) h n =
    let a = both (eqb s start) _ h in
    let b = both (eqb d delimiter) _ a.1 in
    rw (ap (λ (t : ℕ). eqb t u) (eqb-true s start a.0) ∙ n) (run-other start delimiter u rest b.1 n)

run_leads : (start delimiter : ℕ) (run behind : Map) → is_run start delimiter run ≡ true → stands start behind ≡ false → stands start (past_leading start (joined run behind)) ≡ false
unfolding is_run joined
run_leads start delimiter end behind h k = past_none start behind k
run_leads start delimiter (field t v rest) behind h k = never (sym h)
run_leads start delimiter (entry s d own rest) behind h k =
    let a = both (eqb s start) _ h in
    past_same start s d own (joined rest behind) a.0 ∙ run_leads start delimiter rest behind (both (eqb d delimiter) _ a.1).1 k

module _ (start delimiter : ℕ) (run : Map) (whole : is_run start delimiter run ≡ true) where
  -- behind it no other tag stands that didn't
  behind-none : (u : ℕ) (rest : Map) → eqb start u ≡ false → stands u rest ≡ false → stands u (joined run (past_leading start rest)) ≡ false
  behind-none u rest n h = joined-none u run (past_leading start rest) (run-other start delimiter u run whole n) (fewer_stands u (fewer_past_leading start rest) h)

  hangs-stands : (u : ℕ) {m left : Map} → eqb start u ≡ false → Hangs start run m left → stands u m ≡ false → stands u left ≡ false
  unfolding stands
  hangs-stands u n hangs-last h = run-other start delimiter u run whole n
  hangs-stands u n (hangs_instead {s} {d} {own} {rest} e) h = behind-none u rest n (nor (eqb s u) _ h).1
  hangs-stands u n (hangs-on {t} {v} {rest} e) h = let k = nor (eqb t u) _ h in rw k.0 (behind-none u rest n k.1)
  hangs-stands u n (hangs_past_field {t} e f) h = let k = nor (eqb t u) _ h in rw k.0 (hangs-stands u n f k.1)
  hangs-stands u n (hangs_past_entry {s} e f) h = let k = nor (eqb s u) _ h in rw k.0 (hangs-stands u n f k.1)

  -- another tag than the start tag doesn't stand behind an entry of the start tag
  behind_instead : (u s d : ℕ) (own rest : Map) → eqb start u ≡ false → eqb s start ≡ true → stands u (past_leading u (entry s d own rest)) ≡ false → stands u (joined run (past_leading start rest)) ≡ false
  behind_instead u s d own rest n e h =
      behind-none u rest n (sym (past_entry u s d own rest (ap (λ (t : ℕ). eqb t u) (eqb-true s start e) ∙ n)) ∙ h)

  hangs_once : (u : ℕ) {m left : Map} → eqb start u ≡ false → Hangs start run m left → stands u (past_leading u m) ≡ false → stands u (past_leading u left) ≡ false
  hangs_once u n hangs-last h = past_none u run (run-other start delimiter u run whole n)
  hangs_once u n (hangs_instead {s} {d} {own} {rest} e) h = past_none u _ (behind_instead u s d own rest n e h)
  hangs_once u n (hangs-on {t} {v} {rest} e) h =
      let k = behind-field u t v rest h in
      past_field u t v (joined run (past_leading start rest)) k.0 ∙ behind-none u rest n k.1
  hangs_once u n (hangs_past_field {t} {v} {rest} {left} e f) h =
      let k = behind-field u t v rest h in
      past_field u t v left k.0 ∙ hangs-stands u n f k.1
  hangs_once u n (hangs_past_entry {s} {d} {own} {rest} {left} e f) h =
      ⊎_elim
      (λ q. past_same u s d own left q ∙ hangs_once u n f (sym (past_same u s d own rest q) ∙ h))
      (λ q. past_entry u s d own left q ∙ hangs-stands u n f (sym (past_entry u s d own rest q) ∙ h))
      (either (eqb s u))

  hangs-goes : (u x : ℕ) {m left : Map} → eqb start u ≡ false → Hangs start run m left → stands u (past_leading u m) ≡ false → goes_on u x m ≡ true → goes_on u x left ≡ true
  unfolding goes_on
  hangs-goes u x n hangs-last h g = goes_none u x run (run-other start delimiter u run whole n)
  hangs-goes u x n (hangs_instead {s} {d} {own} {rest} e) h g = goes_none u x _ (behind_instead u s d own rest n e h)
  hangs-goes u x n (hangs-on e) h g = refl
  hangs-goes u x n (hangs_past_field e f) h g = refl
  hangs-goes u x n (hangs_past_entry e f) h g = g

  module _ (run_formed : is_formed run ≡ true) where
    -- a run and what stood behind the run before
    run-behind : (rest : Map) → is_formed rest ≡ true → stands start (past_leading start rest) ≡ false → is_formed (joined run (past_leading start rest)) ≡ true
    run-behind rest formed once =
        formed_joined run (past_leading start rest) run_formed (formed_fewer (fewer_past_leading start rest) formed) (λ u h.
        let same : start ≡ u = ⊎_elim (λ e. eqb-true start u e) (λ e. never (sym h ∙ run-other start delimiter u run whole e)) (either (eqb start u)) in
        ap (λ (t : ℕ). stands t (past_leading start rest)) (sym same) ∙ once)

    hangs_formed : {m left : Map} → Hangs start run m left → is_formed m ≡ true → is_formed left ≡ true
    hangs_formed hangs-last formed = run_formed
    hangs_formed (hangs_instead {s} {d} {own} {rest} e) formed =
        let it = entry_formed s d own rest formed in
        run-behind rest it.rest_formed (ap (λ (t : ℕ). stands t (past_leading t rest)) (sym (eqb-true s start e)) ∙ it.once)
    hangs_formed (hangs-on {t} {v} {rest} e) formed =
        let it = field_formed t v rest formed in
        let same : t ≡ start = eqb-true t start e in
        let once : stands start (past_leading start rest) ≡ false = ap (λ (t : ℕ). stands t (past_leading t rest)) (sym same) ∙ it.once in
        formed_field t v (joined run (past_leading start rest))
        (record {
          some = it.some;
          once = rw same (run_leads start delimiter run (past_leading start rest) whole once);
          rest_formed = run-behind rest it.rest_formed once;
        })
    hangs_formed (hangs_past_field {t} {v} {rest} {left} e f) formed =
        let it = field_formed t v rest formed in
        formed_field t v left
        (record {
          some = it.some;
          once = hangs_once t (other_way t start e) f it.once;
          rest_formed = hangs_formed f it.rest_formed;
        })
    hangs_formed (hangs_past_entry {s} {d} {own} {rest} {left} e f) formed =
        let it = entry_formed s d own rest formed in
        formed_entry s d own left
        (record {
          some = it.some;
          delimited = it.delimited;
          once = hangs_once s (other_way s start e) f it.once;
          on = hangs-goes s d (other_way s start e) f it.once it.on;
          own_formed = it.own_formed;
          rest_formed = hangs_formed f it.rest_formed;
        })

-- "A group run hangs on its start tag; a second run replaces the first."
pub formed_hung : (start delimiter : ℕ) (run m : Map) → is_run start delimiter run ≡ true → is_formed run ≡ true → is_formed m ≡ true → is_formed (hung start run m) ≡ true
formed_hung start delimiter run m whole run_formed formed = hangs_formed start delimiter run whole run_formed (hung-hangs start run m formed) formed
