-- `read_checked` meets its contract: a dictionary that is refused is the answer, and one that passes left its index, through which the message is
-- read as the dictionary means.
use mathlib.Core.Path.{◌≡◌, sym, ap, ◌∙◌}
use Prim.Native.Nat.{ℕ}
use native.Mathlib.Omega.{arith}
use lib.ListN.{length, length-replicate}
use Rattle.dictionary_chains.specs.Chain.{index_words}
use Rattle.dictionary_prepared.proofs.MemoryLaws.{index-length, index-left, zero_passes}
use Rattle.builder.proofs.HeadedLaws.{bytes_of}
use Rattle.builder.proofs.ReadingLaws.{refused-dictionary, passing_dictionary, prepared_by}
use Rattle.builder.proofs.ThroughLaws.{through_means, sound_none}
use Rattle.builder.proofs.read_checked.Goals as goal

pub returns-then-number_of-ne0 : goal.returns-then-number_of-ne0
returns-then-number_of-ne0 c = record { words_after = c.refused.ensures.0 _ ∙ refused-dictionary _ _ _ _ c.prepare-checked.ensures.value (λ z. c.if-number_of-ne0.true (c.number_of.ensures ∙ z)) _; records_le_record_room = omega (arith, c.refused.ensures.1) }

pub slice_bounds-read_message-end : goal.slice_bounds-read_message-end
slice_bounds-read_message-end c =
    let sized : ◌≡◌ {A = ℕ} (length c.prepare-checked.new.index) index_words = ap length (index-left _ _ _ c.prepare-checked.ensures.index_after) ∙ index-length _ (sym c.prepare-checked.ensures.value ∙ zero_passes _ (sym c.number_of.ensures ∙ c.if-number_of-ne0.false)) in
    length-replicate {A = ℕ} index_words 0 ∙ sym (sized)

pub read_message-requires : goal.read_message-requires
read_message-requires c =
    let sized : ◌≡◌ {A = ℕ} (length c.prepare-checked.new.index) index_words = ap length (index-left _ _ _ c.prepare-checked.ensures.index_after) ∙ index-length _ (sym c.prepare-checked.ensures.value ∙ zero_passes _ (sym c.number_of.ensures ∙ c.if-number_of-ne0.false)) in
    (c.requires.0, c.requires.1, sized)

pub returns : goal.returns
returns c = let z = sym c.number_of.ensures ∙ c.if-number_of-ne0.false in
    let p = prepared_by _ _ c.prepare-checked.ensures.value z _ _ (length-replicate {A = ℕ} index_words 0) c.prepare-checked.ensures.index_after in record {
      words_after = c.read_message.ensures.words_after
          ∙ through_means _ _ p (bytes_of _ (λ i. (c.shared_slice_known-2-1.given i).fits)) _ (sound_none _ _) _ (bytes_of _ (λ i. (c.shared_slice_known-1.given i).fits)) _
          ∙ passing_dictionary _ _ _ _ c.prepare-checked.ensures.value z;
      records_le_record_room = c.read_message.ensures.records_le_record_room;
    }
