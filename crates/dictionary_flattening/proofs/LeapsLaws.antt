-- Laws of what specs/Leaps.antt defines.
use Rattle.std.proofs.Math.Path.{◌≡◌, refl, sym}
use Rattle.std.proofs.Common.{◌∙◌, Option, None}
use Rattle.std.specs.Prelude.{Bool, List, ℕ, ◌-◌, ◌%◌, ◌≤◌, ◌<◌, length, set, replicate}
use Rattle.std.proofs.Math.Bool.{true, false}
use native.Mathlib.Omega.{arith}
use Rattle.std.proofs.Math.ListN.{get_or, length-set, length-replicate, get_or-replicate, get_or-eq_default}
use Rattle.std.proofs.Math.Seq.{get_or-set_same, get_or-set_other}
use Rattle.std.proofs.Math.Dec.{eqb, ltb}
use borrow.Author.Tests.{eqb-true, eqb-false, ltb-true, ltb-false}
use Rattle.field_rules.specs.Choice.{pick}
use Rattle.dictionary_rules.specs.Record.{record_at}
use Rattle.dictionary_rules.specs.RecordsLaws.{record_falls}
use Rattle.dictionary_rules.specs.declared.Record.TheVariants.{ComponentItem}
use Rattle.dictionary_rules.specs.declared.RecordRead.TheVariants.{Whole}
use Rattle.dictionary_meaning_rules.specs.Laying.{stands_at, lay_items}
use Rattle.dictionary_meaning_rules.proofs.LayingLaws.{lay_advances, lay_empty, lay_down}
use Rattle.dictionary_flattening.specs.Leaps.{Leads, Leaps, leap_from, leap_kept, leap_word, leap_words, leaping_since, reached_leaps, reached_since, slot}
use Rattle.dictionary_rules.specs.declared.Component.{Component}

module _ {bytes : List ℕ} {components : ℕ → Option Component} where
  pub leads_nowhere : {at : ℕ} → Leads bytes components at at
  leads_nowhere = record { onward = omega arith; within = λ h. absurd (omega arith); same = λ inner rises row table. refl }

  pub leads_on : {from at to : ℕ} → Leads bytes components from at → Leads bytes components at to → Leads bytes components from to
  leads_on {from} {at} {to} p q =
      record {
        onward = omega (arith, p.onward, q.onward);
        within = λ h. go (ltb at to) refl h;
        same = λ inner rises row table. p.same inner rises row table ∙ q.same inner rises row table;
      }
    where
      go : (t : Bool) → ltb at to ≡ t → from < to → to ≤ length bytes
      go true e h = q.within (ltb-true at to e)
      go false e h =
          let a : to ≤ at = ltb-false at to e in
          let b : at ≤ length bytes = p.within (omega arith) in omega arith

  pub leads_past : {at next number : ℕ} {required : Bool} → record_at bytes at ≡ Whole (ComponentItem required number) next
      → stands_at components number ≡ None → Leads bytes components at next
  leads_past {at} {next} {number} {required} e s =
      let f = record_falls bytes at _ next e in
      record {
        onward = omega arith;
        within = λ h. f.1;
        same = λ inner rises row table. lay_empty inner bytes components rises at row table number required next e s;
      }

-- no two places share a word
word_once : (a b : ℕ) → leap_word a < leap_words → leap_word a ≡ leap_word b → a ≡ b
unfolding leap_word
word_once a b = go (ltb a 65536) (ltb (a % 64) 4) (ltb b 65536) (ltb (b % 64) 4) refl refl refl refl
  where
    go : (s t u v : Bool) → ltb a 65536 ≡ s → ltb (a % 64) 4 ≡ t → ltb b 65536 ≡ u → ltb (b % 64) 4 ≡ v
        → pick s (pick t (slot a) leap_words) leap_words < leap_words
        → pick s (pick t (slot a) leap_words) leap_words ≡ pick u (pick v (slot b) leap_words) leap_words → a ≡ b
    go false t u v p q r w h e = absurd (omega arith)
    go true false u v p q r w h e = absurd (omega arith)
    go true true false v p q r w h e = absurd (omega arith)
    go true true true false p q r w h e = absurd (omega arith)
    go true true true true p q r w h e =
        omega (arith, ltb-true a 65536 p, ltb-true (a % 64) 4 q, ltb-true b 65536 r, ltb-true (b % 64) 4 w)

module _ {bytes : List ℕ} {components : ℕ → Option Component} where
  -- nothing is told at first
  pub leaps_none : Leaps bytes components (replicate leap_words 0)
  unfolding leap_from
  leaps_none =
      record {
        size = length-replicate {A = ℕ} leap_words 0;
        told = λ at h. absurd (omega (arith, untold (leap_word at) (ltb (leap_word at) leap_words) refl));
      }
    where
      untold : (word : ℕ) (t : Bool) → ltb word leap_words ≡ t → ◌≡◌ {A = ℕ} (get_or (replicate leap_words 0) word 0) 0
      untold word true e = get_or-replicate leap_words word 0 0 (ltb-true _ _ e)
      untold word false e = get_or-eq_default (replicate leap_words 0) 0 {n = word} (omega (
        arith,
        length-replicate {A = ℕ} leap_words 0,
        ltb-false word leap_words e,
      ))

  told_more : (leaps : List ℕ) (from to at : ℕ) → Leaps bytes components leaps → Leads bytes components from to → leap_word from < leap_words
      → at < leap_from (set leaps (leap_word from) to) at → Leads bytes components at (leap_from (set leaps (leap_word from) to) at)
  unfolding leap_from
  told_more leaps from to at l p has = go (eqb (leap_word at) (leap_word from)) refl
    where
      go : (u : Bool) → eqb (leap_word at) (leap_word from) ≡ u → at < get_or (set leaps (leap_word from) to) (leap_word at) 0
          → Leads bytes components at (get_or (set leaps (leap_word from) to) (leap_word at) 0)
      go true q h =
          let same : leap_word from ≡ leap_word at = sym (eqb-true _ _ q) in
          let here : from ≡ at = word_once from at has same in
          rw (← here, get_or-set_same leaps (leap_word from) to 0 (omega (arith, l.size))) p
      go false q h =
          let other : get_or (set leaps (leap_word from) to) (leap_word at) 0 ≡ get_or leaps (leap_word at) 0 = get_or-set_other leaps (leap_word from)
          (leap_word at) to 0 (eqb-false _ _ q) in
          rw other (l.told at (rw other at h))

  pub leaps_kept : {leaps : List ℕ} {from to : ℕ} → Leaps bytes components leaps → Leads bytes components from to
      → Leaps bytes components (leap_kept leaps from to)
  unfolding leap_kept
  leaps_kept {leaps} {from} {to} l p = go (ltb (leap_word from) leap_words) (ltb to 65536) refl
    where
      go : (s t : Bool) → ltb (leap_word from) leap_words ≡ s → Leaps bytes components (pick s (pick t (set leaps (leap_word from) to) leaps) leaps)
      go false t e = l
      go true false e = l
      go true true e =
          record { size = length-set leaps (leap_word from) to ∙ l.size; told = λ at h. told_more leaps from to at l p (ltb-true _ _ e) h }

  pub leaps_reached : {leaps : List ℕ} {since at : ℕ} → Leaps bytes components leaps → Leads bytes components since at
      → Leaps bytes components (reached_leaps leaps since at) × Leads bytes components (reached_since since at) at
  unfolding reached_leaps reached_since
  leaps_reached {leaps} {since} {at} l p = go (ltb (leap_word at) leap_words)
    where
      go : (t : Bool) → Leaps bytes components (pick t (leap_kept leaps since at) leaps) × Leads bytes components (pick t at since) at
      go true = (leaps_kept l p, leads_nowhere)
      go false = (l, p)

  pub leads_leaping : {since at to : ℕ} → Leads bytes components since at → Leads bytes components at to → Leads bytes components (leaping_since since at) to
  unfolding leaping_since
  leads_leaping {since} {at} {to} p q = go (ltb (leap_word since) leap_words)
    where
      go : (t : Bool) → Leads bytes components (pick t since at) to
      go true = leads_on p q
      go false = q

  -- so a message's items may be laid from where such a row ends
  pub leads_items : {from to : ℕ} → Leads bytes components from to → (depth row : ℕ) (table : List ℕ) → (depth ≡ 0 → ⊥)
      → lay_items depth bytes components from row table ≡ lay_items depth bytes components to row table
  leads_items p depth row table some =
      lay_down bytes components _ row table depth some
      ∙ p.same (lay_items (depth - 1) bytes components) (lay_advances (depth - 1) bytes components) row table
      ∙ sym (lay_down bytes components _ row table depth some)
