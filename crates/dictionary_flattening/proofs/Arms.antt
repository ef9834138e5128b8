-- What an arm says that stands for several cases: none of the dictionary's records can be read, or it is none of an item.
use mathlib.Core.Path.{◌≡◌, refl, sym}
use Rattle.std.proofs.Common.{ap, Bool, Option, Some, None, ℕ}
use mathlib.Core.List.{List}
use Prim.Native.Nat.{ℕ, ◌≤◌, ◌<◌}
use native.Mathlib.Omega.{arith}
use lib.ListN.{length}
use Rattle.dictionary_rules.specs.Record.{record_at}
use Rattle.dictionary_rules.specs.declared.Record.{Record}
use Rattle.dictionary_rules.specs.declared.Record.TheVariants.{KnownTag, OpensComponent, OpensMessage, FieldItem, ComponentItem, OpensGroup, Closes}
use Rattle.dictionary_rules.specs.declared.RecordRead.{RecordRead}
use Rattle.dictionary_rules.specs.declared.RecordRead.TheVariants.{Whole, Bad, End}
use Rattle.dictionary_meaning_rules.specs.Laying.{Laying, laying, Step, items_from}
use Rattle.dictionary_meaning_rules.proofs.LayingLaws.{Advances, breaks, reaches, Advancing, lay_bad, lay_end, lay_known_tag, lay_opens_component, lay_opens_message}
use Rattle.dictionary_rules.specs.declared.Component.{Component}

-- a record that was read is the one that its arm names, and so is what was laid
pub read_as : {read : RecordRead} {r named : Record} {next : ℕ} → read ≡ Whole r next → r ≡ named → read ≡ Whole named next
read_as e n = cc

pub laid_as : {outcome : Laying} {r named : Option (ℕ × ℕ)} {table : List ℕ} → laying r table ≡ outcome → r ≡ named → outcome ≡ laying named table
laid_as e n = cc

module _ (inner : Step) (bytes : List ℕ) (components : ℕ → Option Component) (rises : Advancing (length bytes) inner) (at row : ℕ) (table : List ℕ) where
  pub unread : (read : RecordRead) → read ≡ record_at bytes at → ((r : Record) (next : ℕ) → read ≡ Whole r next → ⊥)
      → items_from inner bytes components at row table ≡ laying None table
  unread (Whole r next) e k = absurd (k r next refl)
  unread Bad e k = lay_bad inner bytes components rises at row table (sym e)
  unread End e k = lay_end inner bytes components rises at row table (sym e)

  pub top_level : (r : Record) (next : ℕ) → record_at bytes at ≡ Whole r next
      → ((tag : ℕ) (required : Bool) → r ≡ FieldItem tag required → ⊥)
      → ((required : Bool) (number : ℕ) → r ≡ ComponentItem required number → ⊥)
      → ((tag : ℕ) (required : Bool) → r ≡ OpensGroup tag required → ⊥) → (r ≡ Closes → ⊥)
      → items_from inner bytes components at row table ≡ laying None table
  top_level (KnownTag tag) next e f c g s = lay_known_tag inner bytes components rises at row table tag next e
  top_level (OpensComponent number) next e f c g s = lay_opens_component inner bytes components rises at row table number next e
  top_level (OpensMessage msg_type) next e f c g s = lay_opens_message inner bytes components rises at row table msg_type next e
  top_level (FieldItem tag required) next e f c g s = absurd (f tag required refl)
  top_level (ComponentItem required number) next e f c g s = absurd (c required number refl)
  top_level (OpensGroup tag required) next e f c g s = absurd (g tag required refl)
  top_level Closes next e f c g s = absurd (s refl)

-- what an outcome says of the place and the row that it names
pub reached : {limit at row after end : ℕ} {outcome : Laying} {table : List ℕ} → Advances limit at row outcome → outcome ≡ laying (Some (after, end)) table → (at < after) × (after ≤ limit) × (row ≤ end) × (end ≤ 1024)
reached breaks e = let z : ◌≡◌ {A = ℕ} 0 1 = cc in absurd (omega arith)
reached {limit} {at} {row} {after} {end} (reaches {after = came} {end = upto} a b c d) e =
    let both : ◌≡◌ {A = ℕ × ℕ} (came, upto) (after, end) = cc in
    let p : came ≡ after = ap (λ (m : ℕ × ℕ). m.0) both in
    let q : upto ≡ end = ap (λ (m : ℕ × ℕ). m.1) both in
    (omega arith, omega arith, omega arith, omega arith)
