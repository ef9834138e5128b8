-- What an arm says that stands for several cases, where tags are listed: no record can be read, or it is none of an item.
use mathlib.Core.Path.{◌≡◌, refl, sym}
use Rattle.std.proofs.Common.{Bool, None}
use mathlib.Core.List.{List}
use Prim.Native.Nat.{ℕ}
use Rattle.dictionary_rules.specs.Record.{record_at}
use Rattle.dictionary_rules.specs.declared.Record.{Record}
use Rattle.dictionary_rules.specs.declared.Record.TheVariants.{KnownTag, OpensComponent, OpensMessage, FieldItem, ComponentItem, OpensGroup, Closes}
use Rattle.dictionary_rules.specs.declared.RecordRead.{RecordRead}
use Rattle.dictionary_rules.specs.declared.RecordRead.TheVariants.{Whole, Bad, End}
use Rattle.dictionary_meaning_rules.specs.PlainTags.{listing, tags_from}
use Rattle.dictionary_meaning_rules.proofs.PlainTagsLaws.{tags-bad, tags-end, tags-known, tags-opens, tags-message}

module _ (d : List ℕ) (at groups count : ℕ) (tags : List ℕ) where
  pub unread_tags : (read : RecordRead) → read ≡ record_at d at → ((r : Record) (next : ℕ) → read ≡ Whole r next → ⊥)
      → tags_from d at groups count tags ≡ listing None tags
  unread_tags (Whole r next) e k = absurd (k r next refl)
  unread_tags Bad e k = tags-bad d at groups count tags (sym e)
  unread_tags End e k = tags-end d at groups count tags (sym e)

  pub top_level_tags : (r : Record) (next : ℕ) → record_at d at ≡ Whole r next
      → ((tag : ℕ) (required : Bool) → r ≡ FieldItem tag required → ⊥)
      → ((required : Bool) (number : ℕ) → r ≡ ComponentItem required number → ⊥)
      → ((tag : ℕ) (required : Bool) → r ≡ OpensGroup tag required → ⊥) → (r ≡ Closes → ⊥)
      → tags_from d at groups count tags ≡ listing None tags
  top_level_tags (KnownTag tag) next e f c g s = tags-known d at groups count tags next tag e
  top_level_tags (OpensComponent number) next e f c g s = tags-opens d at groups count tags next number e
  top_level_tags (OpensMessage msg_type) next e f c g s = tags-message d at groups count tags next msg_type e
  top_level_tags (FieldItem tag required) next e f c g s = absurd (f tag required refl)
  top_level_tags (ComponentItem required number) next e f c g s = absurd (c required number refl)
  top_level_tags (OpensGroup tag required) next e f c g s = absurd (g tag required refl)
  top_level_tags Closes next e f c g s = absurd (s refl)
