-- The laws of listing tags: each way that it goes at a record, and that items that stand there are listed as the plain fields of what
-- they mean.
use Rattle.std.specs.Prelude.{◌≡◌, Bool, set}
use Rattle.std.proofs.Math.Path.{refl, sym}
use Rattle.std.proofs.Common.{◌∙◌, arith, Some, None}
use mathlib.Core.List.{List}
use Prim.Native.Nat.{ℕ, zero, suc, ◌+◌, ◌-◌, ◌≤◌, ◌<◌}
use Rattle.std.proofs.Math.ListN.{length}
use borrow.Author.Tests.{eq-eqb, ne_eqb, le-leb, lt-leb}
use Rattle.dictionary_rules.specs.Record.{record_at}
use Rattle.dictionary_rules.specs.RecordsLaws.{record_falls}
use Rattle.dictionary_rules.specs.declared.Record.{Record}
use Rattle.dictionary_rules.specs.declared.Record.TheVariants.{KnownTag, OpensComponent, OpensMessage, FieldItem, ComponentItem, OpensGroup, Closes}
use Rattle.dictionary_rules.specs.declared.RecordRead.{RecordRead}
use Rattle.dictionary_rules.specs.declared.RecordRead.TheVariants.{Whole, Bad, End}
use Rattle.dictionary_rules.specs.Index.{component_at}
use Rattle.dictionary_rules.specs.declared.Component.{Component}
use Rattle.dictionary_meaning_rules.specs.PlainTags.{Listing, listing, TagStep, tag_on, tag_read, tags_within, tags_from, component_tags, plain_tags}

-- two ways to go on that agree from a place on make the same of a record before it
tag_agrees : (rest other : TagStep) (next : ℕ) → ((at groups count : ℕ) (tags : List ℕ) → next ≤ at → rest at groups count tags ≡ other at groups count tags) → (groups count : ℕ) (tags : List ℕ) (r : Record) → tag_on rest groups count tags r next ≡ tag_on other groups count tags r next
unfolding tag_on
tag_agrees rest other next a groups count tags (FieldItem tag required) = rw (a next groups (count + 1) (set tags count tag) (omega arith), a next groups count tags (omega arith))
tag_agrees rest other next a groups count tags (ComponentItem required number) = a next groups count tags (omega arith)
tag_agrees rest other next a groups count tags (OpensGroup tag required) = a next (groups + 1) count tags (omega arith)
tag_agrees rest other next a groups count tags Closes = rw (a next (groups - 1) count tags (omega arith))
tag_agrees rest other next a groups count tags (KnownTag tag) = refl
tag_agrees rest other next a groups count tags (OpensComponent number) = refl
tag_agrees rest other next a groups count tags (OpensMessage msg_type) = refl

module _ (d : List ℕ) where
  read_past : (rest : TagStep) (at groups count : ℕ) (tags : List ℕ) → length d ≤ at → tag_read rest groups count tags (record_at d at) ≡ listing None tags
  read_past rest at groups count tags h = go (record_at d at) (record_falls d at)
    where
      go : (read : RecordRead) → ((r : Record) (next : ℕ) → read ≡ Whole r next → (at < next) × (next ≤ length d)) → tag_read rest groups count tags read ≡ listing None tags
      go (Whole r next) n = let w = n r next refl in absurd (omega arith)
      go Bad n = unfold tag_read in refl
      go End n = unfold tag_read in refl

  fuel_agrees : (f g at groups count : ℕ) (tags : List ℕ) → length d - at ≤ f → length d - at ≤ g → tags_within f d at groups count tags ≡ tags_within g d at groups count tags
  unfolding tags_within
  fuel_agrees zero zero at groups count tags p q = refl
  fuel_agrees zero (suc g) at groups count tags p q = sym (read_past (tags_within g d) at groups count tags (omega arith))
  fuel_agrees (suc f) zero at groups count tags p q = read_past (tags_within f d) at groups count tags (omega arith)
  fuel_agrees (suc f) (suc g) at groups count tags p q = go (record_at d at) (record_falls d at) (fuel_agrees f g)
    where
      go : (read : RecordRead) → ((r : Record) (next : ℕ) → read ≡ Whole r next → (at < next) × (next ≤ length d)) → ((at groups count : ℕ) (tags : List ℕ) → length d - at ≤ f → length d - at ≤ g → tags_within f d at groups count tags ≡ tags_within g d at groups count tags) → tag_read (tags_within f d) groups count tags read ≡ tag_read (tags_within g d) groups count tags read
      go (Whole r next) n again = let w = n r next refl in
          unfold tag_read in tag_agrees (tags_within f d) (tags_within g d) next (λ at₁ groups₁ count₁ tags₁ h. again at₁ groups₁ count₁ tags₁ (omega arith) (omega arith)) groups count tags r
      go Bad n again = unfold tag_read in refl
      go End n again = unfold tag_read in refl

  module _ (at groups count : ℕ) (tags : List ℕ) where
    abbrev here : Listing
    here = tags_from d at groups count tags

    tags-read : here ≡ tag_read (tags_within (length d) d) groups count tags (record_at d at)
    unfolding tags_from
    tags-read = fuel_agrees (length d - at) (suc (length d)) at groups count tags (omega arith) (omega arith) ∙ (unfold tags_within in refl)

    tags-step : (r : Record) (next : ℕ) → record_at d at ≡ Whole r next → here ≡ tag_on (tags_from d) groups count tags r next
    tags-step r next e =
        tags-read ∙ first
        ∙ tag_agrees (tags_within (length d) d) (tags_from d) next (λ at₁ groups₁ count₁ tags₁ h. unfold tags_from in fuel_agrees (length d) (length d - at₁) at₁ groups₁ count₁ tags₁ (omega arith) (omega arith)) groups count tags r
      where
        first : tag_read (tags_within (length d) d) groups count tags (record_at d at) ≡ tag_on (tags_within (length d) d) groups count tags r next
        first = unfold tag_read in rw e

    pub tags-bad : record_at d at ≡ Bad → here ≡ listing None tags
    unfolding tag_read
    tags-bad e = tags-read ∙ rw e

    pub tags-end : record_at d at ≡ End → here ≡ listing None tags
    unfolding tag_read
    tags-end e = tags-read ∙ rw e

    module _ (next : ℕ) where
      module _ (tag : ℕ) (required : Bool) (e : record_at d at ≡ Whole (FieldItem tag required) next) where
        pub tags-field : groups ≡ 0 → count < 1024 → here ≡ tags_from d next groups (count + 1) (set tags count tag)
        unfolding tag_on
        tags-field o h = tags-step _ _ e ∙ rw (eq-eqb _ _ o, lt-leb _ _ h)

        pub tags_full : groups ≡ 0 → 1024 ≤ count → here ≡ listing None tags
        unfolding tag_on
        tags_full o h = tags-step _ _ e ∙ rw (eq-eqb _ _ o, le-leb _ _ h)

        pub tags_within_lem : (groups ≡ 0 → ⊥) → here ≡ tags_from d next groups count tags
        unfolding tag_on
        tags_within_lem o = tags-step _ _ e ∙ rw (ne_eqb _ _ o)

      pub tags-component : (number : ℕ) (required : Bool) → record_at d at ≡ Whole (ComponentItem required number) next → here ≡ tags_from d next groups count tags
      unfolding tag_on
      tags-component number required e = tags-step _ _ e

      pub tags-group : (tag : ℕ) (required : Bool) → record_at d at ≡ Whole (OpensGroup tag required) next → here ≡ tags_from d next (groups + 1) count tags
      unfolding tag_on
      tags-group tag required e = tags-step _ _ e

      pub tags-closed : record_at d at ≡ Whole Closes next → groups ≡ 0 → here ≡ listing (Some count) tags
      unfolding tag_on
      tags-closed e o = tags-step _ _ e ∙ rw (eq-eqb _ _ o)

      pub tags-closes : record_at d at ≡ Whole Closes next → (groups ≡ 0 → ⊥) → here ≡ tags_from d next (groups - 1) count tags
      unfolding tag_on
      tags-closes e o = tags-step _ _ e ∙ rw (ne_eqb _ _ o)

      pub tags-known : (tag : ℕ) → record_at d at ≡ Whole (KnownTag tag) next → here ≡ listing None tags
      unfolding tag_on
      tags-known tag e = tags-step _ _ e

      pub tags-opens : (number : ℕ) → record_at d at ≡ Whole (OpensComponent number) next → here ≡ listing None tags
      unfolding tag_on
      tags-opens number e = tags-step _ _ e

      pub tags-message : (msg_type : ℕ) → record_at d at ≡ Whole (OpensMessage msg_type) next → here ≡ listing None tags
      unfolding tag_on
      tags-message msg_type e = tags-step _ _ e

module _ (d index : List ℕ) (number : ℕ) (tags : List ℕ) where
  pub plain_missing : component_at index number ≡ None → plain_tags d index number tags ≡ listing None tags
  unfolding plain_tags component_tags
  plain_missing e = rw e

  pub plain_closed : (c : Component) → component_at index number ≡ Some c → plain_tags d index number tags ≡ tags_from d (c.place + 3) 0 0 tags
  unfolding plain_tags component_tags
  plain_closed c e = rw e
