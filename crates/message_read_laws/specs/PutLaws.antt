-- Storing a field, and a count with its run, keeps a map formed: it is what RULES.md, Field maps, says of storing, where every run has its count.
use Rattle.std.proofs.Math.Path.{◌≡◌, refl, sym, ap}
use Rattle.std.proofs.Common.{◌∙◌, arith}
use Rattle.std.specs.Prelude.{Bool, List, ℕ}
use Rattle.std.proofs.Math.Bool.{true, false}
use Rattle.std.proofs.Math.Dec.{eqb}
use borrow.Author.Tests.{eqb-true, eq-eqb, ne_eqb}
use Rattle.field_rules.specs.Choice.{pick}
use Rattle.message_maps.specs.Map.{Map, end, field, entry, joined, holds, replaced, past_leading, hung_on_count, hung}
use Rattle.message_lent_rules.specs.Formed.{stands, goes_on, is_formed, is_run}
use Rattle.message_lent_rules.specs.LentLaws.{both}
use Rattle.message_lent_rules.specs.StandLaws.{nor, formed_field, formed_entry}
use Rattle.message_lent_rules.specs.KeptLaws.{formed_fewer, fewer_replaced, formed_joined}
use Rattle.message_lent_rules.specs.HungLaws.{formed_hung}
use Rattle.message_read_laws.specs.Shapes.{put, put_run}

-- a run: entries of one start tag
module _ (s d : ℕ) where
  pub run_only : (m : Map) → is_run s d m ≡ true → past_leading s m ≡ end
  unfolding is_run past_leading
  run_only end h = refl
  run_only (field t v rest) h = let z : ◌≡◌ {A = ℕ} 0 1 = cc in absurd (omega arith)
  run_only (entry t e own rest) h = let a = both (eqb t s) _ h in let b = both (eqb e d) _ a.1 in rw a.0 (run_only rest b.1)

  pub run-others : (u : ℕ) (m : Map) → is_run s d m ≡ true → (s ≡ u → ⊥) → stands u m ≡ false
  unfolding is_run stands
  run-others u end h n = refl
  run-others u (field t v rest) h n = let z : ◌≡◌ {A = ℕ} 0 1 = cc in absurd (omega arith)
  run-others u (entry t e own rest) h n =
      let a = both (eqb t s) _ h in
      let b = both (eqb e d) _ a.1 in
      let t-is : t ≡ s = eqb-true t s a.0 in
      rw (ne_eqb t u (λ q. n (sym t-is ∙ q))) (run-others u rest b.1 n)

  pub run-goes_on : (m : Map) → is_run s d m ≡ true → goes_on s d m ≡ true
  unfolding is_run goes_on
  run-goes_on end h = refl
  run-goes_on (field t v rest) h = refl
  run-goes_on (entry t e own rest) h =
      let a = both (eqb t s) _ h in
      let b = both (eqb e d) _ a.1 in
      rw a.0 (eq-eqb d e (sym (eqb-true e d b.0)))

  pub run-joined : (a b : Map) → is_run s d a ≡ true → is_run s d b ≡ true → is_run s d (joined a b) ≡ true
  unfolding is_run joined
  run-joined end b h k = k
  run-joined (field t v rest) b h k = let z : ◌≡◌ {A = ℕ} 0 1 = cc in absurd (omega arith)
  run-joined (entry t e own rest) b h k = let x = both (eqb t s) _ h in let y = both (eqb e d) _ x.1 in rw (x.0, y.0) (run-joined rest b y.1 k)

-- each entry's own map is formed
pub data AllFormed : Map → Type 0 where
  formed_none : AllFormed end
  formed_more : {s d : ℕ} {own rest : Map} → is_formed own ≡ true → AllFormed rest → AllFormed (entry s d own rest)

pub all-joined : {a b : Map} → AllFormed a → AllFormed b → AllFormed (joined a b)
unfolding joined
all-joined formed_none g = g
all-joined (formed_more f more) g = formed_more f (all-joined more g)

pub run_is_formed : (s d : ℕ) {m : Map} → (s ≡ 0 → ⊥) → (d ≡ 0 → ⊥) → AllFormed m → is_run s d m ≡ true → is_formed m ≡ true
unfolding is_run
run_is_formed s d start some formed_none h = unfold is_formed in refl
run_is_formed s d start some (formed_more {s = t} {d = e} {own = own} {rest = rest} f more) h =
    let a = both (eqb t s) _ h in
    let b = both (eqb e d) _ a.1 in
    let t-is : t ≡ s = eqb-true t s a.0 in
    let e-is : e ≡ d = eqb-true e d b.0 in
    let only : stands s (past_leading s rest) ≡ false = ap (stands s) (run_only s d rest b.1) ∙ (unfold stands in refl) in
    rw (t-is, e-is) (formed_entry s d own rest
    (record {
      some = ne_eqb s 0 start;
      delimited = ne_eqb d 0 some;
      once = only;
      on = run-goes_on s d rest b.1;
      own_formed = f;
      rest_formed = run_is_formed s d start some more b.1;
    }))

-- what storing makes of maps, in the words of RULES.md, Field maps
module _ (tag : ℕ) (value : List ℕ) where
  put-held : (m : Map) → holds tag m ≡ true → put tag value m ≡ replaced tag value m
  unfolding put replaced holds
  put-held end h = let z : ◌≡◌ {A = ℕ} 0 1 = cc in absurd (omega arith)
  put-held (field t v rest) h = here (eqb t tag) h (put-held rest)
    where
      here : (b : Bool) → pick b true (holds tag rest) ≡ true → (holds tag rest ≡ true → put tag value rest ≡ replaced tag value rest)
          → pick b (field t value rest) (field t v (put tag value rest)) ≡ pick b (field t value rest) (field t v (replaced tag value rest))
      here true h again = refl
      here false h again = ap (field t v) (again h)
  put-held (entry s d own rest) h = ap (entry s d own) (put-held rest h)

  put-new : (m : Map) → holds tag m ≡ false → put tag value m ≡ joined m (field tag value end)
  unfolding put joined holds
  put-new end h = refl
  put-new (field t v rest) h = let n = nor (eqb t tag) (holds tag rest) h in rw n.0 (ap (field t v) (put-new rest n.1))
  put-new (entry s d own rest) h = ap (entry s d own) (put-new rest h)

  run-held : (run m : Map) → holds tag m ≡ true → put_run tag value run m ≡ hung_on_count tag run (replaced tag value m)
  unfolding put_run replaced holds hung_on_count
  run-held run end h = let z : ◌≡◌ {A = ℕ} 0 1 = cc in absurd (omega arith)
  run-held run (field t v rest) h = here (eqb t tag) refl h (run-held run rest)
    where
      here : (b : Bool) → eqb t tag ≡ b → pick b true (holds tag rest) ≡ true
          → (holds tag rest ≡ true → put_run tag value run rest ≡ hung_on_count tag run (replaced tag value rest))
          → pick b (field t value (joined run (past_leading tag rest))) (field t v (put_run tag value run rest))
          ≡ hung_on_count tag run (pick b (field t value rest) (field t v (replaced tag value rest)))
      here true e h again = rw e
      here false e h again = rw e (ap (field t v) (again h))
  run-held run (entry s d own rest) h = ap (entry s d own) (run-held run rest h)

  run-new : (run m : Map) → holds tag m ≡ false → put_run tag value run m ≡ joined m (field tag value run)
  unfolding put_run joined holds
  run-new run end h = refl
  run-new run (field t v rest) h = let n = nor (eqb t tag) (holds tag rest) h in rw n.0 (ap (field t v) (run-new run rest n.1))
  run-new run (entry s d own rest) h = ap (entry s d own) (run-new run rest h)

  holds-replaced : (m : Map) → holds tag m ≡ true → holds tag (replaced tag value m) ≡ true
  unfolding holds replaced
  holds-replaced end h = h
  holds-replaced (field t v rest) h = here (eqb t tag) refl h (holds-replaced rest)
    where
      here : (b : Bool) → eqb t tag ≡ b → pick b true (holds tag rest) ≡ true → (holds tag rest ≡ true → holds tag (replaced tag value rest) ≡ true)
          → holds tag (pick b (field t value rest) (field t v (replaced tag value rest))) ≡ true
      here true e h again = rw e
      here false e h again = rw e (again h)
  holds-replaced (entry s d own rest) h = holds-replaced rest h

  -- they stay formed
  formed_new : (m x : Map) → is_formed m ≡ true → is_formed (field tag value x) ≡ true → stands tag m ≡ false
      → ((u : ℕ) → (eqb tag u ≡ true → ⊥) → stands u x ≡ false) → is_formed (joined m (field tag value x)) ≡ true
  formed_new m x f g none other = formed_joined m (field tag value x) f g (λ u s. by_tag u (eqb tag u) refl s)
    where
      by_tag : (u : ℕ) (b : Bool) → eqb tag u ≡ b → stands u m ≡ true → stands u (field tag value x) ≡ false
      by_tag u true e s =
          let same : tag ≡ u = eqb-true tag u e in
          let z : true ≡ false = sym s ∙ ap (λ (w : ℕ). stands w m) (sym same) ∙ none in
          let y : ◌≡◌ {A = ℕ} 0 1 = cc in
          absurd (omega arith)
      by_tag u false e s = unfold stands in rw e (other u (λ t. let z : true ≡ false = sym t ∙ e in let y : ◌≡◌ {A = ℕ} 0 1 = cc in omega arith))

  module _ (some : tag ≡ 0 → ⊥) where
    field-alone : is_formed (field tag value end) ≡ true
    field-alone =
        formed_field tag value end (record { some = ne_eqb tag 0 some; once = unfold past_leading stands in refl; rest_formed = unfold is_formed in refl })

    pub new_formed : (m : Map) → is_formed m ≡ true → stands tag m ≡ false → is_formed (joined m (field tag value end)) ≡ true
    new_formed m f none = formed_new m end f field-alone none (λ u n. unfold stands in refl)

    pub put_formed : (m : Map) → is_formed m ≡ true → (holds tag m ≡ false → stands tag m ≡ false) → is_formed (put tag value m) ≡ true
    put_formed m f none = by_holds (holds tag m) refl
      where
        by_holds : (b : Bool) → holds tag m ≡ b → is_formed (put tag value m) ≡ true
        by_holds true h = rw (put-held m h) (formed_fewer (fewer_replaced tag value m) f)
        by_holds false h = rw (put-new m h) (new_formed m f (none h))

    module _ (d : ℕ) (run : Map) (runs : is_run tag d run ≡ true) (g : is_formed run ≡ true) where
      count_formed : is_formed (field tag value run) ≡ true
      count_formed =
          formed_field tag value run (record {
            some = ne_eqb tag 0 some;
            once = ap (stands tag) (run_only tag d run runs)
                ∙ (unfold stands in refl);
            rest_formed = g;
          })

      pub new-run_formed : (m : Map) → is_formed m ≡ true → stands tag m ≡ false → is_formed (joined m (field tag value run)) ≡ true
      new-run_formed m f none = formed_new m run f count_formed none (λ u n. run-others tag d u run runs (λ e. n (eq-eqb tag u e)))

      pub put_run_formed : (m : Map) → is_formed m ≡ true → (holds tag m ≡ false → stands tag m ≡ false) → is_formed (put_run tag value run m) ≡ true
      put_run_formed m f none = by_holds (holds tag m) refl
        where
          by_holds : (b : Bool) → holds tag m ≡ b → is_formed (put_run tag value run m) ≡ true
          by_holds true h =
              let r = replaced tag value m in
              let same : hung tag run r ≡ hung_on_count tag run r = unfold hung in rw (holds-replaced m h) in
              rw (run-held run m h, ← same) (formed_hung tag d run r runs g (formed_fewer (fewer_replaced tag value m) f))
          by_holds false h = rw (run-new run m h) (new-run_formed m f (none h))
