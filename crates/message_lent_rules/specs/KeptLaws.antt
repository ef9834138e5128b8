-- What a formed map keeps: with fewer fields or entries, or other values, it is formed; two formed maps that have no tag in common are
-- formed one behind the other.
use Rattle.std.specs.Prelude.{◌≡◌, refl, Bool, true, false, List, ℕ, eqb}
use Rattle.std.proofs.Common.{sym, ◌∙◌, ⊎_elim, eqb-true, eq-eqb}
use Rattle.field_rules.specs.Choice.{pick, pick_same}
use Rattle.message_maps.specs.Map.{Map, end, field, entry, joined, replaced, without_field, leading, past_leading, run_on, without_run}
use Rattle.message_lent_rules.specs.Formed.{stands, goes_on, is_formed}
use Rattle.message_lent_rules.specs.StandLaws.{either, nor, field_formed, formed_field, entry_formed, formed_entry, past_none, goes_none, behind-field, past_field, past_entry, past_same}

-- a map with fields or entries left out, and with other values
pub data Fewer : Map → Map → Type 0 where
  fewer_end : Fewer end end
  field-kept : {t : ℕ} {v w : List ℕ} {rest left : Map} → Fewer rest left → Fewer (field t v rest) (field t w left)
  field_out : {t : ℕ} {v : List ℕ} {rest left : Map} → Fewer rest left → Fewer (field t v rest) left
  entry_kept : {s d : ℕ} {own rest left : Map} → Fewer rest left → Fewer (entry s d own rest) (entry s d own left)
  entry_out : {s d : ℕ} {own rest left : Map} → Fewer rest left → Fewer (entry s d own rest) left

pub fewer_stands : (u : ℕ) {m left : Map} → Fewer m left → stands u m ≡ false → stands u left ≡ false
unfolding stands
fewer_stands u fewer_end h = refl
fewer_stands u (field-kept {t} f) h = let n = nor (eqb t u) _ h in rw n.0 (fewer_stands u f n.1)
fewer_stands u (field_out {t} f) h = fewer_stands u f (nor (eqb t u) _ h).1
fewer_stands u (entry_kept {s} f) h = let n = nor (eqb s u) _ h in rw n.0 (fewer_stands u f n.1)
fewer_stands u (entry_out {s} f) h = fewer_stands u f (nor (eqb s u) _ h).1

-- a tag that stands no more behind its run does so with fewer
pub fewer_past : (u : ℕ) {m left : Map} → Fewer m left → stands u (past_leading u m) ≡ false → stands u (past_leading u left) ≡ false
fewer_past u fewer_end h = h
fewer_past u (field-kept {t} {v} {w} {rest} {left} f) h =
    let n = behind-field u t v rest h in
    past_field u t w left n.0 ∙ fewer_stands u f n.1
fewer_past u (field_out {t} {v} {rest} {left} f) h = past_none u left (fewer_stands u f (behind-field u t v rest h).1)
fewer_past u (entry_kept {s} {d} {own} {rest} {left} f) h =
    ⊎_elim
    (λ e. past_same u s d own left e ∙ fewer_past u f (sym (past_same u s d own rest e) ∙ h))
    (λ e. past_entry u s d own left e ∙ fewer_stands u f (sym (past_entry u s d own rest e) ∙ h))
    (either (eqb s u))
fewer_past u (entry_out {s} {d} {own} {rest} {left} f) h =
    ⊎_elim
    (λ e. fewer_past u f (sym (past_same u s d own rest e) ∙ h))
    (λ e. past_none u left (fewer_stands u f (sym (past_entry u s d own rest e) ∙ h)))
    (either (eqb s u))

-- and an entry that then comes next has the delimiter of its run
fewer_goes : (u n : ℕ) {m left : Map} → Fewer m left → is_formed m ≡ true → stands u (past_leading u m) ≡ false → goes_on u n m ≡ true → goes_on u n left ≡ true
unfolding goes_on
fewer_goes u n fewer_end formed h g = refl
fewer_goes u n (field-kept f) formed h g = refl
fewer_goes u n (field_out {t} {v} {rest} {left} f) formed h g = goes_none u n left (fewer_stands u f (behind-field u t v rest h).1)
fewer_goes u n (entry_kept f) formed h g = g
fewer_goes u n (entry_out {s} {d} {own} {rest} {left} f) formed h g =
    ⊎_elim
    (λ e.
    let it = entry_formed s d own rest formed in
    let tag : s ≡ u = eqb-true s u e in
    let delimiter : n ≡ d = eqb-true n d (rw e at g) in
    fewer_goes u n f it.rest_formed (sym (past_same u s d own rest e) ∙ h) (rw (← tag, delimiter) it.on))
    (λ e. goes_none u n left (fewer_stands u f (sym (past_entry u s d own rest e) ∙ h)))
    (either (eqb s u))

pub formed_fewer : {m left : Map} → Fewer m left → is_formed m ≡ true → is_formed left ≡ true
formed_fewer fewer_end formed = formed
formed_fewer (field-kept {t} {v} {w} {rest} {left} f) formed =
    let it = field_formed t v rest formed in
    formed_field t w left
    (record { some = it.some; once = fewer_past t f it.once; rest_formed = formed_fewer f it.rest_formed })
formed_fewer (field_out {t} {v} {rest} f) formed = formed_fewer f (field_formed t v rest formed).rest_formed
formed_fewer (entry_kept {s} {d} {own} {rest} {left} f) formed =
    let it = entry_formed s d own rest formed in
    formed_entry s d own left
    (record {
      some = it.some;
      delimited = it.delimited;
      once = fewer_past s f it.once;
      on = fewer_goes s d f it.rest_formed it.once it.on;
      own_formed = it.own_formed;
      rest_formed = formed_fewer f it.rest_formed;
    })
formed_fewer (entry_out {s} {d} {own} {rest} f) formed = formed_fewer f (entry_formed s d own rest formed).rest_formed

-- the operations that leave things out
fewer_pick : (b : Bool) {m a c : Map} → Fewer m a → Fewer m c → Fewer m (pick b a c)
fewer_pick true f g = f
fewer_pick false f g = g

fewer_same : (m : Map) → Fewer m m
fewer_same end = fewer_end
fewer_same (field t v rest) = field-kept (fewer_same rest)
fewer_same (entry s d own rest) = entry_kept (fewer_same rest)

fewer_none : (m : Map) → Fewer m end
fewer_none end = fewer_end
fewer_none (field t v rest) = field_out (fewer_none rest)
fewer_none (entry s d own rest) = entry_out (fewer_none rest)

pub fewer_replaced : (tag : ℕ) (value : List ℕ) (m : Map) → Fewer m (replaced tag value m)
unfolding replaced
fewer_replaced tag value end = fewer_end
fewer_replaced tag value (field t v rest) = fewer_pick (eqb t tag) (field-kept (fewer_same rest)) (field-kept (fewer_replaced tag value rest))
fewer_replaced tag value (entry s d own rest) = entry_kept (fewer_replaced tag value rest)

pub fewer_without : (tag : ℕ) (m : Map) → Fewer m (without_field tag m)
unfolding without_field
fewer_without tag end = fewer_end
fewer_without tag (field t v rest) = fewer_pick (eqb t tag) (field_out (fewer_same rest)) (field-kept (fewer_without tag rest))
fewer_without tag (entry s d own rest) = entry_kept (fewer_without tag rest)

fewer_leading : (start : ℕ) (m : Map) → Fewer m (leading start m)
unfolding leading
fewer_leading start end = fewer_end
fewer_leading start (field t v rest) = fewer_none (field t v rest)
fewer_leading start (entry s d own rest) = fewer_pick (eqb s start) (entry_kept (fewer_leading start rest)) (fewer_none (entry s d own rest))

pub fewer_past_leading : (start : ℕ) (m : Map) → Fewer m (past_leading start m)
unfolding past_leading
fewer_past_leading start end = fewer_end
fewer_past_leading start (field t v rest) = fewer_same (field t v rest)
fewer_past_leading start (entry s d own rest) = fewer_pick (eqb s start) (entry_out (fewer_past_leading start rest)) (fewer_same (entry s d own rest))

pub fewer_run : (start : ℕ) (m : Map) → Fewer m (run_on start m)
unfolding run_on
fewer_run start end = fewer_end
fewer_run start (field t v rest) = field_out (fewer_run start rest)
fewer_run start (entry s d own rest) = fewer_pick (eqb s start) (entry_kept (fewer_leading start rest)) (entry_out (fewer_run start rest))

pub fewer_without_run : (start : ℕ) (m : Map) → Fewer m (without_run start m)
unfolding without_run
fewer_without_run start end = fewer_end
fewer_without_run start (field t v rest) = field-kept (fewer_without_run start rest)
fewer_without_run start (entry s d own rest) = fewer_pick (eqb s start) (entry_out (fewer_past_leading start rest)) (entry_kept (fewer_without_run start rest))

-- one map behind another
pub stands-joined : (u : ℕ) (a b : Map) → stands u (joined a b) ≡ pick (stands u a) true (stands u b)
unfolding stands joined
stands-joined u end b = refl
stands-joined u (field t v rest) b = by_test (eqb t u) (stands-joined u rest b)
  where
    by_test : (c : Bool) → stands u (joined rest b) ≡ pick (stands u rest) true (stands u b) → pick c true (stands u (joined rest b)) ≡ pick (pick c true (stands u rest)) true (stands u b)
    by_test true again = refl
    by_test false again = again
stands-joined u (entry s d own rest) b = by_test (eqb s u) (stands-joined u rest b)
  where
    by_test : (c : Bool) → stands u (joined rest b) ≡ pick (stands u rest) true (stands u b) → pick c true (stands u (joined rest b)) ≡ pick (pick c true (stands u rest)) true (stands u b)
    by_test true again = refl
    by_test false again = again

pub joined-none : (u : ℕ) (a b : Map) → stands u a ≡ false → stands u b ≡ false → stands u (joined a b) ≡ false
joined-none u a b h k = stands-joined u a b ∙ rw h k

joined_past : (u : ℕ) (a b : Map) → stands u (past_leading u a) ≡ false → stands u b ≡ false → stands u (past_leading u (joined a b)) ≡ false
unfolding joined
joined_past u end b h k = past_none u b k
joined_past u (field t v rest) b h k =
    let n = behind-field u t v rest h in
    past_field u t v (joined rest b) n.0 ∙ joined-none u rest b n.1 k
joined_past u (entry s d own rest) b h k =
    ⊎_elim
    (λ e. past_same u s d own (joined rest b) e ∙ joined_past u rest b (sym (past_same u s d own rest e) ∙ h) k)
    (λ e. past_entry u s d own (joined rest b) e ∙ joined-none u rest b (sym (past_entry u s d own rest e) ∙ h) k)
    (either (eqb s u))

joined-goes : (s d : ℕ) (a b : Map) → goes_on s d a ≡ true → stands s b ≡ false → goes_on s d (joined a b) ≡ true
unfolding joined goes_on
joined-goes s d end b g k = goes_none s d b k
joined-goes s d (field t v rest) b g k = refl
joined-goes s d (entry t e own rest) b g k = g

pub formed_joined : (a b : Map) → is_formed a ≡ true → is_formed b ≡ true → ((u : ℕ) → stands u a ≡ true → stands u b ≡ false) → is_formed (joined a b) ≡ true
unfolding joined stands
formed_joined end b h k apart = k
formed_joined (field t v rest) b h k apart =
    let it = field_formed t v rest h in
    let other = apart t (rw (eq-eqb t t refl)) in
    formed_field t v (joined rest b)
    (record {
      some = it.some;
      once = joined_past t rest b it.once other;
      rest_formed = formed_joined rest b it.rest_formed k (λ u e. apart u (rw e (pick_same (eqb t u) true)));
    })
formed_joined (entry s d own rest) b h k apart =
    let it = entry_formed s d own rest h in
    let other = apart s (rw (eq-eqb s s refl)) in
    formed_entry s d own (joined rest b)
    (record {
      some = it.some;
      delimited = it.delimited;
      once = joined_past s rest b it.once other;
      on = joined-goes s d rest b it.on other;
      own_formed = it.own_formed;
      rest_formed = formed_joined rest b it.rest_formed k (λ u e. apart u (rw e (pick_same (eqb s u) true)));
    })
