-- The header and trailer tags of a dictionary that passes: what is listed of component 0 or 1 is what the tree has.
use Rattle.std.specs.Prelude.{◌≡◌, List, [], ◌∷◌, ◌++◌, set, take, drop}
use Rattle.std.proofs.Math.Path.{refl}
use Rattle.std.proofs.Common.{sym, ap, ◌∙◌, append_assoc, length-append, take-append-drop, length-take-le, Some}
use Prim.Native.Nat.{ℕ, suc, ◌+◌, ◌-◌, ◌≤◌}
use native.Mathlib.Omega.{arith}
use Rattle.std.proofs.Math.ListN.{length}
use Rattle.std.proofs.lemmas.List.{set_at}
use Rattle.dictionary_chains.specs.Chain.{index_words}
use Rattle.dictionary_layout_rules.specs.Layout.{items}
use Rattle.dictionary_layout_rules.specs.Tree.{Nodes, nothing, field_item_lem, component_item_lem, group_item_lem, plain_fields, header_tags_lem, trailer_tags_lem, flattened}
use Rattle.dictionary_rules.specs.Records.{records_from}
use Rattle.dictionary_rules.specs.Check.{store_of, check_of}
use Rattle.dictionary_rules.specs.Index.{component_at}
use Rattle.dictionary_rules.specs.Check.{prepared_of}
use Rattle.dictionary_rules.specs.declared.Checked.TheVariants.{Passes}
use Rattle.dictionary_rules.specs.declared.Component.{Component}
use Rattle.dictionary_meaning_rules.specs.Meaning.{Items, declarations_of, Defined, nodes_of, expanded, defined_after, meaning_of, dictionary_of}
use Rattle.dictionary_meaning_rules.proofs.Written.{items-followed}
use Rattle.dictionary_meaning_rules.proofs.Layable.{Reads, reads-close, reads-field, reads-component, reads-group}
use Rattle.dictionary_meaning_rules.proofs.Passing.{OwnItems}
use Rattle.dictionary_meaning_rules.proofs.Prepared.{component-laid, standard_there}
use Rattle.dictionary_meaning_rules.specs.PlainTags.{listing, tags_from, plain_tags}
use Rattle.dictionary_meaning_rules.proofs.PlainTagsLaws.{tags-field, tags_within_lem, tags-component, tags-group, tags-closed, tags-closes, plain_closed}

-- tags written one after the other
unfoldable pub listed : List ℕ → ℕ → List ℕ → List ℕ
listed list at [] = list
listed list at (tag ∷ tags) = listed (set list at tag) (at + 1) tags

listed-over : (tags before old after : List ℕ) (at : ℕ) → length before ≡ at → length old ≡ length tags → listed (before ++ (old ++ after)) at tags ≡ before ++ (tags ++ after)
unfolding listed
listed-over [] before [] after at b o = refl
listed-over [] before (x ∷ old) after at b o = absurd (omega arith)
listed-over (tag ∷ tags) before [] after at b o = absurd (omega arith)
listed-over (tag ∷ tags) before (x ∷ old) after at b o =
    ap (λ (l : List ℕ). listed l (at + 1) tags) (set_at before x (old ++ after) tag at b ∙ sym (append_assoc before (tag ∷ []) (old ++ after)))
    ∙ listed-over tags (before ++ (tag ∷ [])) old after (at + 1) (length-append before (tag ∷ []) ∙ omega arith) (omega arith)
    ∙ append_assoc before (tag ∷ []) (tags ++ after)

-- the tags come first, and the rest of the list stays
pub listed-first : (list tags : List ℕ) → length tags ≤ length list → listed list 0 tags ≡ tags ++ drop (length tags) list
listed-first list tags h =
    ap (λ (l : List ℕ). listed l 0 tags) (sym (take-append-drop (length tags) list))
    ∙ listed-over tags [] (take (length tags) list) (drop (length tags) list) 0 refl (length-take-le (length tags) list h)

-- no more plain fields than items
fields-few : (nodes : Nodes) → length (plain_fields nodes) ≤ items (flattened nodes)
unfolding plain_fields flattened items
fields-few nothing = omega arith
fields-few (field_item_lem tag required rest) = omega (arith, fields-few rest)
fields-few (component_item_lem required inner rest) = omega (arith, fields-few rest, items-followed (flattened inner) (flattened rest))
fields-few (group_item_lem tag required inner rest) = omega (arith, fields-few rest)

module _ (d : List ℕ) where
  -- what lies in a group is passed over
  passes_over : {at after : ℕ} {level : Items} → Reads d at level after → (groups count : ℕ) (tags : List ℕ) → tags_from d at (suc groups) count tags ≡ tags_from d after groups count tags
  passes_over {at} {after} (reads-close e) groups count tags =
      let n : suc groups - 1 ≡ groups = omega arith in
      tags-closes d at (suc groups) count tags after e (λ z. absurd (omega arith)) ∙ rw n
  passes_over {at} (reads-field {next} {tag} {required} e r) groups count tags =
      tags_within_lem d at (suc groups) count tags next tag required e (λ z. absurd (omega arith)) ∙ passes_over r groups count tags
  passes_over {at} (reads-component {next} {number} {required} e r) groups count tags =
      tags-component d at (suc groups) count tags next number required e ∙ passes_over r groups count tags
  passes_over {at} (reads-group {next} {upto} {tag} {required} e i r) groups count tags =
      let n : suc groups + 1 ≡ suc (suc groups) = omega arith in
      tags-group d at (suc groups) count tags next tag required e ∙ rw n (passes_over i (suc groups) count tags) ∙ passes_over r groups count tags

  -- the plain fields of a level are listed
  fields-listed : {at after : ℕ} {level : Items} → Reads d at level after → (defined : List Defined) (count : ℕ) (tags : List ℕ) → count + length (plain_fields (expanded defined level)) ≤ 1024 → tags_from d at 0 count tags ≡ listing (Some (count + length (plain_fields (expanded defined level)))) (listed tags count (plain_fields (expanded defined level)))
  unfolding plain_fields expanded listed
  fields-listed {at} {after} (reads-close e) defined count tags h =
      let n : count + 0 ≡ count = omega arith in
      tags-closed d at 0 count tags after e refl ∙ rw n
  fields-listed {at} (reads-field {next} {tag} {required} {rest} e r) defined count tags h =
      let n : count + 1 + length (plain_fields (expanded defined rest)) ≡ count + suc (length (plain_fields (expanded defined rest))) = omega arith in
      tags-field d at 0 count tags next tag required e refl (omega arith) ∙ fields-listed r defined (count + 1) (set tags count tag) (omega arith) ∙ rw n
  fields-listed {at} (reads-component {next} {number} {required} e r) defined count tags h =
      tags-component d at 0 count tags next number required e ∙ fields-listed r defined count tags h
  fields-listed {at} (reads-group {next} {upto} {tag} {required} e i r) defined count tags h =
      tags-group d at 0 count tags next tag required e ∙ passes_over i 0 count tags ∙ fields-listed r defined count tags h

-- the tags of a component that stands at its place
own-listed : (d index : List ℕ) (number : ℕ) (c : Component) (nodes : Nodes) (tags : List ℕ) → component_at index number ≡ Some c → OwnItems d (c.place + 3) nodes → length (plain_fields nodes) ≤ 1024 → plain_tags d index number tags ≡ listing (Some (length (plain_fields nodes))) (listed tags 0 (plain_fields nodes))
own-listed d index number c nodes tags e own h =
    let few : 0 + length (plain_fields (expanded own.before own.level)) ≤ 1024 = omega (arith, ap (λ (n : Nodes). length (plain_fields n)) own.same) in
    let n : 0 + length (plain_fields (expanded own.before own.level)) ≡ length (plain_fields (expanded own.before own.level)) = omega arith in
    rw own.same (plain_closed d index number tags c e ∙ fields-listed d own.reads own.before 0 tags few ∙ rw n)

module _ (d : List ℕ) (passes : check_of d ≡ Passes) (index : List ℕ) (size : length index ≡ index_words) (list : List ℕ) (room : 1024 ≤ length list) where
  abbrev made : List ℕ
  made = store_of (prepared_of d index)

  component-listed : (number : ℕ) (c : Component) → component_at made number ≡ Some c → let tags : List ℕ = plain_fields (nodes_of (defined_after [] (declarations_of (records_from d 0))) number) in plain_tags d made number list ≡ listing (Some (length tags)) (tags ++ drop (length tags) list)
  component-listed number c e =
      let k = component-laid d passes index size number c e in
      let few : length (plain_fields (nodes_of (defined_after [] (declarations_of (records_from d 0))) number)) ≤ 1024 = omega (arith, fields-few (nodes_of (defined_after [] (declarations_of (records_from d 0))) number), k.count, k.limit) in
      own-listed d made number c _ list e k.own few
      ∙ ap (λ (l : List ℕ). listing (Some (length (plain_fields (nodes_of (defined_after [] (declarations_of (records_from d 0))) number)))) l) (listed-first list _ (omega arith))

  -- "Header and trailer tags are the plain field items directly in components 0 and 1."
  pub header-listed : let tags : List ℕ = header_tags_lem (dictionary_of d) in plain_tags d made 0 list ≡ listing (Some (length tags)) (tags ++ drop (length tags) list)
  unfolding header_tags_lem dictionary_of meaning_of
  header-listed = component-listed 0 (standard_there d passes index size).0.0 (standard_there d passes index size).0.1

  pub trailer-listed : let tags : List ℕ = trailer_tags_lem (dictionary_of d) in plain_tags d made 1 list ≡ listing (Some (length tags)) (tags ++ drop (length tags) list)
  unfolding trailer_tags_lem dictionary_of meaning_of
  trailer-listed = component-listed 1 (standard_there d passes index size).1.0 (standard_there d passes index size).1.1
