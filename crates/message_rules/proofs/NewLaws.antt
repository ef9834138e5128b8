-- A new message is an empty one in which 8 and then 35 are stored: after each call what is lent is the message that the definition names.
use Rattle.std.specs.Prelude.{◌≡◌, false, ℕ, ◌+◌, ◌-◌, ◌≤◌}
use Rattle.std.proofs.Math.Path.{refl}
use Rattle.std.proofs.Common.{sym, ◌∙◌, length-append, take_at}
use Rattle.std.proofs.Math.Bool.{true}
use mathlib.Core.List.{List, [], ◌∷◌, ◌++◌, append-nil}
use native.Mathlib.Omega.{arith}
use Rattle.std.proofs.Math.ListN.{length, replicate}
use Rattle.std.proofs.Math.Dec.{leb}
use borrow.Author.Tests.{le-leb, eq-eqb, ne_eqb}
use Rattle.message_maps.specs.Map.{end, field, joined, holds, without_run, run_on, stored, field_count, values_in}
use Rattle.message_maps.specs.Rows.{row, laid, flat, padded, row_at, rows_from, sizes, size_of, level_of, matches, message_words, message_rows}
use Rattle.message_maps.specs.RowsLaws.{padded-length}
use Rattle.message_lent_rules.specs.Lent.{held_before, deepest, field_allowed, head_allowed, row_allowed, rows_allowed, delimiter_is, is_part, next_part, parts_from, is_own, own_below, weight, fields_in, row_count, rows_of, is_laid, is_message}
use Rattle.message_lent_rules.specs.Meaning.{Message, parts, words_of, value_bytes_of, opened, with_field, with_entry, with_row, open_in, outermost, third_of, second_of, parts_in, message_in}
use Rattle.message_rules.specs.Changes.{after, of_store, part_of, with_part, field_total, value_total, judged, no_fields, new_message, emptying, making, storing}
use Rattle.message_rules.specs.ChangeLaws.{store-on, empty-made}
use Rattle.message_rules.specs.declared.Change.{Change}
use Rattle.message_rules.specs.declared.Change.TheVariants.{Made, NoMessage, NotStorable}
use Rattle.message_rules.specs.declared.Part.TheVariants.{Header}

-- what is lent after each step
unfoldable begun : List ℕ → Message
begun begin_string = record { header = field 8 begin_string end; body = end; trailer = end }

empty-held : is_message (words_of no_fields) (value_bytes_of no_fields) ≡ true
unfolding is_message is_laid rows_of row_count rows_from row_at no_fields words_of value_bytes_of parts laid flat padded values_in rows_allowed row_allowed head_allowed field_allowed held_before deepest delimiter_is is_part next_part parts_from is_own own_below weight fields_in sizes size_of level_of matches
empty-held = refl

empty_means : message_in (words_of no_fields) (value_bytes_of no_fields) ≡ no_fields
unfolding message_in rows_of row_count rows_from row_at no_fields words_of value_bytes_of parts laid flat padded values_in opened with_field with_entry with_row open_in outermost third_of second_of parts_in size_of
empty_means = refl

module _ (begin_string : List ℕ) (small : length begin_string ≤ 8192) where
  begun_rows : rows_of (words_of (begun begin_string)) ≡ row 2 0 1 0 ∷ row 1 1 8 (length begin_string) ∷ row 2 0 2 0 ∷ row 2 0 3 0 ∷ []
  unfolding rows_of row_count rows_from row_at words_of parts laid flat padded begun
  begun_rows = refl

  begun-held : is_message (words_of (begun begin_string)) (value_bytes_of (begun begin_string)) ≡ true
  unfolding is_message is_laid
  begun-held =
      let w : length (words_of (begun begin_string)) ≡ message_words = unfold words_of padded begun parts laid flat in refl in
      let v : length (value_bytes_of (begun begin_string)) ≡ 8192 = unfold value_bytes_of in padded-length 8192 _ (unfold begun parts values_in in simp append-nil (omega arith)) in
      let c : leb (row_count (words_of (begun begin_string))) message_rows ≡ true = unfold row_count words_of padded begun parts laid flat in refl in
      let n : sizes (row 2 0 1 0 ∷ row 1 1 8 (length begin_string) ∷ row 2 0 2 0 ∷ row 2 0 3 0 ∷ []) ≤ 8192 = unfold sizes size_of in omega arith in
      rw (eq-eqb _ _ w, eq-eqb _ _ v, begun_rows, c, le-leb _ _ n)
      (unfold rows_allowed row_allowed head_allowed field_allowed held_before deepest delimiter_is is_part next_part parts_from is_own own_below weight fields_in level_of matches in refl)

  begun_means : message_in (words_of (begun begin_string)) (value_bytes_of (begun begin_string)) ≡ begun begin_string
  unfolding message_in begun
  begun_means =
      let v : value_bytes_of (begun begin_string) ≡ begin_string ++ replicate (8192 - length begin_string) 0 = unfold value_bytes_of begun parts values_in padded in simp append-nil in
      rw (begun_rows, v)
      (unfold opened with_field with_entry with_row open_in outermost third_of second_of parts_in size_of in
      rw (take_at begin_string (replicate (8192 - length begin_string) 0) (length begin_string) refl))

-- what is within its limits is done
judged-made : (words values : List ℕ) (m : Message) → value_total m ≤ 8192 → field_total m ≤ 1024 → judged words values true m ≡ after Made (words_of m) (value_bytes_of m)
unfolding judged
judged-made words values m v f = rw (le-leb _ _ v, le-leb _ _ f)

module _ (begin_string message_type : List ℕ) where
  new-values : value_total (new_message begin_string message_type) ≡ length begin_string + length message_type
  unfolding value_total new_message with_part no_fields stored holds joined without_run run_on parts values_in
  new-values = simp (append-nil, length-append)

  new-fields : field_total (new_message begin_string message_type) ≡ 2
  unfolding field_total new_message with_part no_fields stored holds joined without_run run_on field_count
  new-fields = refl

  module _ (words values : List ℕ) where
    pub new-short : (length words ≡ message_words → ⊥) → making begin_string message_type words values ≡ after NoMessage words values
    unfolding making of_store
    new-short h = rw (ne_eqb _ _ h)

    pub new-store : length words ≡ message_words → (length values ≡ 8192 → ⊥) → making begin_string message_type words values ≡ after NoMessage words values
    unfolding making of_store
    new-store h k = rw (eq-eqb _ _ h, ne_eqb _ _ k)

    pub new_large : length words ≡ message_words → length values ≡ 8192 → leb (length begin_string + length message_type) 8192 ≡ false → making begin_string message_type words values ≡ after NotStorable words values
    unfolding making of_store judged
    new_large h k l = rw (eq-eqb _ _ h, eq-eqb _ _ k, new-values, l)

    new-made : length words ≡ message_words → length values ≡ 8192 → length begin_string + length message_type ≤ 8192
        → making begin_string message_type words values ≡ after Made (words_of (new_message begin_string message_type)) (value_bytes_of (new_message begin_string message_type))
    unfolding making of_store
    new-made h k l =
        rw (eq-eqb _ _ h, eq-eqb _ _ k) (judged-made words values (new_message begin_string message_type) (omega (arith, new-values)) (omega (arith, new-fields)))

    module _ (whole : length words ≡ message_words) (store : length values ≡ 8192) (room : length begin_string + length message_type ≤ 8192) where
      new-begun : storing Header 8 begin_string (words_of no_fields) (value_bytes_of no_fields) ≡ after Made (words_of (begun begin_string)) (value_bytes_of (begun begin_string))
      new-begun =
          let e : with_part Header (stored 8 begin_string (part_of Header no_fields)) no_fields ≡ begun begin_string = unfold with_part part_of no_fields stored holds joined without_run run_on begun in refl in
          store-on Header 8 (words_of no_fields) (value_bytes_of no_fields) begin_string empty-held (λ e. omega arith)
          ∙ rw (empty_means, e)
          (judged-made _ _ _ (unfold value_total begun parts values_in in simp append-nil (omega arith)) (unfold field_total begun field_count in omega arith))

      new-typed : storing Header 35 message_type (words_of (begun begin_string)) (value_bytes_of (begun begin_string)) ≡ after Made (words_of (new_message begin_string message_type)) (value_bytes_of (new_message begin_string message_type))
      new-typed =
          let small : length begin_string ≤ 8192 = omega arith in
          let e : with_part Header (stored 35 message_type (part_of Header (begun begin_string))) (begun begin_string) ≡ new_message begin_string message_type = unfold with_part part_of no_fields new_message stored holds joined without_run run_on begun in refl in
          store-on Header 35 (words_of (begun begin_string)) (value_bytes_of (begun begin_string)) message_type (begun-held begin_string small) (λ e. omega arith)
          ∙ rw (begun_means begin_string small, e)
          (judged-made _ _ (new_message begin_string message_type) (omega (arith, new-values)) (omega (arith, new-fields)))

      -- the calls one after the other
      pub new-done : (first second third : Change) (words₁ values₁ words₂ values₂ words₃ values₃ : List ℕ)
          → after first words₁ values₁ ≡ emptying words values
          → after second words₂ values₂ ≡ storing Header 8 begin_string words₁ values₁
          → after third words₃ values₃ ≡ storing Header 35 message_type words₂ values₂
          → after third words₃ values₃ ≡ making begin_string message_type words values
      new-done first second third words₁ values₁ words₂ values₂ words₃ values₃ one two three =
          let a : after first words₁ values₁ ≡ after Made (words_of no_fields) (value_bytes_of no_fields) = one ∙ empty-made words values whole store in
          let w₁ : words₁ ≡ words_of no_fields = cc in
          let v₁ : values₁ ≡ value_bytes_of no_fields = cc in
          let b : after second words₂ values₂ ≡ after Made (words_of (begun begin_string)) (value_bytes_of (begun begin_string)) = two ∙ rw (w₁, v₁) new-begun in
          let w₂ : words₂ ≡ words_of (begun begin_string) = cc in
          let v₂ : values₂ ≡ value_bytes_of (begun begin_string) = cc in
          three ∙ rw (w₂, v₂) new-typed ∙ sym (new-made whole store room)
