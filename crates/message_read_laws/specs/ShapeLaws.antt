-- Storing records and storing fields go together: what has the shape of a map has the shape of the map with the field stored.
use Rattle.std.specs.Prelude.{◌≡◌, Bool, true, false, ℕ, ◌+◌, ◌<◌}
use Rattle.std.proofs.Math.Path.{refl, sym}
use Rattle.std.proofs.Common.{ap, ◌∙◌, arith, eqb-true, eq-eqb, ne_eqb}
use mathlib.Core.List.{List, [], ◌∷◌, ◌++◌, append_assoc}
use Rattle.std.proofs.Math.Dec.{eqb}
use Rattle.std.proofs.lemmas.Bool.{eqb-false}
use Rattle.field_rules.specs.Choice.{pick}
use Rattle.build_records.specs.Records.{stored, value_at}
use Rattle.build_records.specs.declared.Record.{Record}
use Rattle.message_maps.specs.Map.{Map, field, entry, joined, holds, past_leading}
use Rattle.message_lent_rules.specs.Formed.{stands}
use Rattle.message_lent_rules.specs.StandLaws.{nor}
use Rattle.build_nesting_laws.specs.Formed.{Own}
use Rattle.build_nesting_laws.specs.Entries.{All, all_none, all_more, all_append, all_map, Deep, Other}
use Rattle.build_body_rules.specs.Body.{behind_run, stored_run}
use Rattle.message_take_over.specs.Derived.{Stands, no_more as stands-none, own as stands-own, in_entry as stands-entry}
use Rattle.message_read_laws.specs.Shapes.{Shapes, no_more, one-own, one_entry, Loose, Placed, put, put_run}

pub all_first : {P : Record → Type 0} {r : Record} {rs : List Record} → All P (r ∷ rs) → P r
all_first (all_more p a) = p

pub all_rest : {P : Record → Type 0} {r : Record} {rs : List Record} → All P (r ∷ rs) → All P rs
all_rest (all_more p a) = a

pub all_left : {P : Record → Type 0} (rs ss : List Record) → All P (rs ++ ss) → All P rs
all_left [] ss a = all_none
all_left (r ∷ rs) ss a = all_more (all_first a) (all_left rs ss (all_rest a))

pub all_right : {P : Record → Type 0} (rs ss : List Record) → All P (rs ++ ss) → All P ss
all_right [] ss a = a
all_right (r ∷ rs) ss a = all_right rs ss (all_rest a)

module _ (bytes : List ℕ) where
  -- records of a shape whose values lie in the bytes stand for the map
  pub shapes_stand : {part depth number start entries : ℕ} {m : Map} {rs : List Record} → Shapes bytes depth number start entries m rs
      → All (Placed bytes part) rs → Stands bytes part depth number start entries m rs
  shapes_stand no_more a = stands-none
  shapes_stand (one-own r o more) a =
      let p = all_first a in
      stands-own r (record { of = p.of; deep = o.deep; numbered = o.numbered; inside = p.inside }) (shapes_stand more (all_rest a))
  shapes_stand (one_entry {rs = rs} {ss = ss} r o inner more) a =
      let p = all_first a in
      stands-entry r (record { of = p.of; deep = o.deep; numbered = o.numbered; inside = p.inside }) (shapes_stand inner (all_left rs ss (all_rest a)))
      (shapes_stand more (all_right rs ss (all_rest a)))

  shapes_deep : {depth number start entries : ℕ} {m : Map} {rs : List Record} → Shapes bytes depth number start entries m rs → All (Deep depth) rs
  shapes_deep no_more = all_none
  shapes_deep (one-own r o more) = all_more {r = r} (record { deep = omega (arith, o.deep) }) (shapes_deep more)
  shapes_deep (one_entry r o inner more) =
      all_more {r = r} (record { deep = omega (arith, o.deep) })
      (all_append _ (all_map (λ x d. record { deep = omega (arith, d.deep) }) (shapes_deep inner)) (shapes_deep more))

  -- behind a map
  pub shapes_append : {depth number start entries : ℕ} {m x : Map} {rs ys : List Record} → Shapes bytes depth number start entries m rs
      → Loose bytes depth number x ys → Shapes bytes depth number start entries (joined m x) (rs ++ ys)
  unfolding joined
  shapes_append no_more l = l.shapes _ _
  shapes_append (one-own r o more) l = one-own r o (shapes_append more l)
  shapes_append {depth} {number} {start} {entries} {ys = ys} (one_entry {inner = inner} {rest = rest} {rs = rs} {ss = ss} r o in-it more) l =
      moved (one_entry r o in-it (shapes_append more l))
    where
      moved : {x : Map} → Shapes bytes depth number start entries x (r ∷ (rs ++ (ss ++ ys)))
          → Shapes bytes depth number start entries x (r ∷ ((rs ++ ss) ++ ys))
      moved s = rw (append_assoc rs ss ys) s

  -- a field is stored
  stored-deeper : (r : Record) (rs ss : List Record) → All (Deep (r.depth + 1)) rs → stored r (rs ++ ss) ≡ rs ++ stored r ss
  unfolding stored
  stored-deeper r [] ss a = refl
  stored-deeper r (x ∷ rs) ss a =
      rw (ne_eqb x.depth r.depth (λ e. omega (arith, (all_first a).deep))) (ap (λ (l : List Record). x ∷ l) (stored-deeper r rs ss (all_rest a)))

  stored-behind : (x r : Record) (rs : List Record) → r.depth < x.depth → stored r (x ∷ rs) ≡ x ∷ stored r rs
  unfolding stored
  stored-behind x r rs h = rw (ne_eqb x.depth r.depth (λ e. omega arith))

  stored_none : (r : Record) → stored r [] ≡ r ∷ []
  unfolding stored
  stored_none r = refl

  pub shapes_put : {depth number start entries : ℕ} {m : Map} {rs : List Record} → Shapes bytes depth number start entries m rs → (r : Record)
      → Own depth number r → Shapes bytes depth number start entries (put r.tag (value_at bytes r) m) (stored r rs)
  unfolding put
  shapes_put no_more r o = rw (stored_none r) (one-own r o no_more)
  shapes_put {depth} {number} {start} {entries} (one-own {rest = rest} {rs = rs} q p more) r o = here (eqb q.tag r.tag) refl (shapes_put more r o)
    where
      same-depth : (b : Bool) → eqb q.tag r.tag ≡ b → stored r (q ∷ rs) ≡ pick b (r ∷ rs) (q ∷ stored r rs)
      same-depth b e = unfold stored in rw (eq-eqb q.depth r.depth (p.deep ∙ sym o.deep), e)

      here : (b : Bool) → eqb q.tag r.tag ≡ b → Shapes bytes depth number q.tag 0 (put r.tag (value_at bytes r) rest) (stored r rs)
          → Shapes bytes depth number start entries (pick b (field q.tag (value_at bytes r) rest)
          (field q.tag (value_at bytes q) (put r.tag (value_at bytes r) rest))) (stored r (q ∷ rs))
      here true e again = let t : q.tag ≡ r.tag = eqb-true _ _ e in rw (same-depth true e, t) (one-own r o (rw t at more))
      here false e again = rw (same-depth false e) (one-own q p again)
  shapes_put {depth} {number} {start} {entries} (one_entry {inner = inner} {rest = rest} {rs = rs} {ss = ss} q p in-it more) r o =
      moved (one_entry q p in-it (shapes_put more r o))
    where
      all-deeper : All (Deep (r.depth + 1)) rs
      all-deeper = all_map (λ x d. record { deep = omega (arith, d.deep, o.deep) }) (shapes_deep in-it)

      moved : {x : Map} → Shapes bytes depth number start entries x (q ∷ (rs ++ stored r ss))
          → Shapes bytes depth number start entries x (stored r (q ∷ (rs ++ ss)))
      moved s = rw (stored-behind q r (rs ++ ss) (omega (arith, p.deep, o.deep)), stored-deeper r rs ss all-deeper) s

  -- a count is stored with its run, in a part's own map
  behind-deeper : (rs ss : List Record) → All (Deep 1) rs → behind_run (rs ++ ss) ≡ behind_run ss
  unfolding behind_run
  behind-deeper [] ss a = refl
  behind-deeper (x ∷ rs) ss a = rw (ne_eqb x.depth 0 (λ e. omega (arith, (all_first a).deep))) (behind-deeper rs ss (all_rest a))

  behind-own : (r : Record) (rs : List Record) → r.depth ≡ 0 → behind_run (r ∷ rs) ≡ r ∷ rs
  unfolding behind_run
  behind-own r rs e = rw (eq-eqb r.depth 0 e)

  loose_past : {number start entries : ℕ} {m : Map} {rs : List Record} → Shapes bytes 0 number start entries m rs
      → Loose bytes 0 number (past_leading start m) (behind_run rs)
  unfolding past_leading
  loose_past no_more = unfold behind_run in record { shapes = λ s k. no_more }
  loose_past (one-own {rs = rs} r o more) = record { shapes = λ s k. rw (behind-own r rs o.deep) (one-own r o more) }
  loose_past {number} {start} (one_entry {inner = inner} {rest = rest} {rs = rs} {ss = ss} r o in-it more) = moved (loose_past more)
    where
      gone : behind_run (r ∷ (rs ++ ss)) ≡ behind_run ss
      gone = behind-deeper (r ∷ rs) ss (all_more {r = r} (record { deep = omega (arith, o.deep) }) (shapes_deep in-it))

      moved : Loose bytes 0 number (past_leading start rest) (behind_run ss)
          → Loose bytes 0 number (pick (eqb start start) (past_leading start rest) (entry start r.tag (field r.tag (value_at bytes r) inner) rest))
          (behind_run (r ∷ (rs ++ ss)))
      moved l = rw (eq-eqb start start refl, gone) l

  -- the records of a run hang on their count
  run-behind : (x r : Record) (run rs : List Record) → r.depth < x.depth → stored_run r run (x ∷ rs) ≡ x ∷ stored_run r run rs
  unfolding stored_run
  run-behind x r run rs h = rw (ne_eqb x.depth r.depth (λ e. omega arith))

  run-deeper : (r : Record) (run rs ss : List Record) → All (Deep (r.depth + 1)) rs → stored_run r run (rs ++ ss) ≡ rs ++ stored_run r run ss
  unfolding stored_run
  run-deeper r run [] ss a = refl
  run-deeper r run (x ∷ rs) ss a =
      rw (ne_eqb x.depth r.depth (λ e. omega (arith, (all_first a).deep))) (ap (λ (l : List Record). x ∷ l) (run-deeper r run rs ss (all_rest a)))

  run_none : (r : Record) (run : List Record) → stored_run r run [] ≡ r ∷ run
  unfolding stored_run
  run_none r run = refl

  pub shapes_put_run : {number start entries : ℕ} {m hung-map : Map} {rs run : List Record} → Shapes bytes 0 number start entries m rs → (r : Record)
      → Own 0 number r → Shapes bytes 0 number r.tag 0 hung-map run
      → Shapes bytes 0 number start entries (put_run r.tag (value_at bytes r) hung-map m) (stored_run r run rs)
  unfolding put_run
  shapes_put_run no_more r o h = rw (run_none r _) (one-own r o h)
  shapes_put_run {number} {start} {entries} {hung-map = hung-map} {run = run} (one-own {rest = rest} {rs = rs} q p more) r o h =
      here (eqb q.tag r.tag) refl (shapes_put_run more r o h)
    where
      same-depth : (b : Bool) → eqb q.tag r.tag ≡ b → stored_run r run (q ∷ rs) ≡ pick b (r ∷ (run ++ behind_run rs)) (q ∷ stored_run r run rs)
      same-depth b e = unfold stored_run in rw (eq-eqb q.depth r.depth (p.deep ∙ sym o.deep), e)

      here : (b : Bool) → eqb q.tag r.tag ≡ b → Shapes bytes 0 number q.tag 0 (put_run r.tag (value_at bytes r) hung-map rest) (stored_run r run rs)
          → Shapes bytes 0 number start entries (pick b (field q.tag (value_at bytes r) (joined hung-map (past_leading r.tag rest)))
          (field q.tag (value_at bytes q) (put_run r.tag (value_at bytes r) hung-map rest))) (stored_run r run (q ∷ rs))
      here true e again = let t : q.tag ≡ r.tag = eqb-true _ _ e in rw (same-depth true e, t) (one-own r o (shapes_append h (loose_past (rw t at more))))
      here false e again = rw (same-depth false e) (one-own q p again)
  shapes_put_run {number} {start} {entries} {run = run} (one_entry {rs = rs} {ss = ss} q p in-it more) r o h =
      moved (one_entry q p in-it (shapes_put_run more r o h))
    where
      all-deeper : All (Deep (r.depth + 1)) rs
      all-deeper = all_map (λ x d. record { deep = omega (arith, d.deep, o.deep) }) (shapes_deep in-it)

      moved : {x : Map} → Shapes bytes 0 number start entries x (q ∷ (rs ++ stored_run r run ss))
          → Shapes bytes 0 number start entries x (stored_run r run (q ∷ (rs ++ ss)))
      moved s = rw (run-behind q r run (rs ++ ss) (omega (arith, p.deep, o.deep)), run-deeper r run rs ss all-deeper) s

  -- a start tag is that of a field before it
  pub not_stands : {depth number start entries : ℕ} {m : Map} {rs : List Record} (tag : ℕ) → Shapes bytes depth number start entries m rs → (start ≡ tag → ⊥)
      → holds tag m ≡ false → stands tag m ≡ false
  unfolding holds stands
  not_stands tag no_more s h = refl
  not_stands tag (one-own {rest = rest} r o more) s h =
      let n = nor (eqb r.tag tag) (holds tag rest) h in rw n.0 (not_stands tag more (eqb-false r.tag tag n.0) n.1)
  not_stands {start = start} tag (one_entry r o inner more) s h = rw (ne_eqb start tag s) (not_stands tag more s h)

  -- a tag that none of the own records has
  pub not_held : {depth number start entries : ℕ} {m : Map} {rs : List Record} (tag : ℕ) → Shapes bytes depth number start entries m rs
      → All (Other depth tag) rs → holds tag m ≡ false
  unfolding holds
  not_held tag no_more a = refl
  not_held tag (one-own r o more) a = rw (ne_eqb r.tag tag (λ e. (all_first a).other o.deep e)) (not_held tag more (all_rest a))
  not_held tag (one_entry {rs = rs} {ss = ss} r o inner more) a = not_held tag more (all_right rs ss (all_rest a))
