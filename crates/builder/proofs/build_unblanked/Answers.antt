-- `build_unblanked` meets its contract: memory that was not prepared and what is refused first are the answer; else what was read through the memory
-- is shown, where the words behind it are seen as zeros.
use mathlib.Core.Path.{◌≡◌, sym, ap, ◌∙◌}
use mathlib.Core.Bool.{true}
use native.Mathlib.Omega.{arith}
use mathlib.Core.List.{List}
use Prim.Native.Nat.{ℕ, ◌-◌}
use lib.ListN.{length, get_or, take, drop, length-drop}
use lib.Seq.{length-take-le, take_all}
use Rattle.builder.specs.Build.{shown}
use Rattle.builder.specs.Through.{message_through}
use Rattle.builder.proofs.ReadingLaws.{judged-refuses, judged-reads, reads_short, reads-lent, told-untouched, told-read}
use Rattle.builder.proofs.ThroughLaws.{over_none, over-some}
use Rattle.dictionary_chains.specs.Chain.{index_words}
use Rattle.build_records.specs.Records.{record_words}
use Rattle.dictionary_prepared.specs.Memory.{front, head_words, is_prepared, records_in, index_in, tables_in}
use Rattle.dictionary_prepared.proofs.MemoryLaws.{index-size, prepared-room, prepared_copy}
use Rattle.builder.proofs.build_unblanked.Goals as goal

pub returns-then-not-is_prepared : goal.returns-then-not-is_prepared
returns-then-not-is_prepared c = let u = c.untouched.ensures in
    record { words_after = told-untouched _ _ _ u ∙ sym (over_none _ _ _ _ _ _ (sym c.is_prepared.ensures ∙ c.if-not-is_prepared.true)); records_le_record_room = (rw u (omega arith), omega arith) }

pub returns-then-number_of-ne0 : goal.returns-then-number_of-ne0
returns-then-number_of-ne0 c = let u = c.untouched-then-number_of-ne0.ensures in
    record {
      words_after = told-untouched _ _ _ u
          ∙ sym (over-some _ _ _ _ _ _ (sym c.is_prepared.ensures ∙ c.if-not-is_prepared.false) ∙ judged-refuses _ _ _ _ _ _ c.refused_first-first.ensures _ c.number_of.ensures c.if-number_of-ne0.true);
      records_le_record_room = (rw u (omega arith), omega arith);
    }

pub bounds-memory-2 : goal.bounds-memory-2
bounds-memory-2 c =
    let stands : is_prepared c.args.copy.now c.args.memory.now ≡ true = sym c.is_prepared.ensures ∙ c.if-not-is_prepared.false in
    omega (arith, prepared-room _ _ (stands))

pub slice_bounds-index-end : goal.slice_bounds-index-end
slice_bounds-index-end c =
    let stands : is_prepared c.args.copy.now c.args.memory.now ≡ true = sym c.is_prepared.ensures ∙ c.if-not-is_prepared.false in
    omega (arith, prepared-room _ _ (stands))

pub slice_bounds-tables-count : goal.slice_bounds-tables-count
slice_bounds-tables-count c =
    let stands : is_prepared c.args.copy.now c.args.memory.now ≡ true = sym c.is_prepared.ensures ∙ c.if-not-is_prepared.false in
    omega (arith, prepared-room _ _ (stands))

pub slice_bounds-tables-start : goal.slice_bounds-tables-start
slice_bounds-tables-start c =
    let stands : is_prepared c.args.copy.now c.args.memory.now ≡ true = sym c.is_prepared.ensures ∙ c.if-not-is_prepared.false in
    omega (arith, prepared-room _ _ (stands))

pub slice_bounds-read_message-end : goal.slice_bounds-read_message-end
slice_bounds-read_message-end c =
    let stands : is_prepared c.args.copy.now c.args.memory.now ≡ true = sym c.is_prepared.ensures ∙ c.if-not-is_prepared.false in
    sym (length-take-le _ _ (omega (arith, c.from-size.ensures, prepared_copy _ _ (stands))))

pub read_message-read-requires : goal.read_message-read-requires
unfolding index_in
read_message-read-requires c =
    let stands : is_prepared c.args.copy.now c.args.memory.now ≡ true = sym c.is_prepared.ensures ∙ c.if-not-is_prepared.false in
    (omega (arith, reads_short _ _ _ _ c.refused_first-first.ensures (sym c.number_of.ensures ∙ c.if-number_of-ne0.false)), omega arith, index-size _ _ (stands))

pub returns : goal.returns
unfolding records_in index_in tables_in
returns c =
    let stands : is_prepared c.args.copy.now c.args.memory.now ≡ true = sym c.is_prepared.ensures ∙ c.if-not-is_prepared.false in
    let first = c.refused_first-first.ensures in
    let none = c.number_of.ensures in
    let size : length c.read_message-read.new.words ≡ record_words = omega (arith, c.read_message-read.auto.words) in
    let index : List ℕ = take index_words (drop front c.args.memory.now) in
    let tables : List ℕ = drop head_words c.args.memory.now in record {
      words_after = told-read _ _ _ _ c.answered.ensures (reads-lent _ _ _ _ first (sym none ∙ c.if-number_of-ne0.false)) c.read_message-read.ensures.records_le_record_room size
          ∙ ap (shown _) (c.read_message-read.ensures.words_after
          ∙ ap (λ (k : ℕ). message_through (take k c.args.copy.now) index (take (length c.args.memory.now - head_words) tables) c.args.config c.args.message.now) c.from-size.ensures
          ∙ ap (λ (t : List ℕ). message_through (take (get_or c.args.memory.now 2 0) c.args.copy.now) index t c.args.config c.args.message.now) (take_all (length c.args.memory.now - head_words) tables (omega (arith, length-drop head_words c.args.memory.now))))
          ∙ sym (over-some _ _ _ _ _ _ (stands) ∙ judged-reads _ _ _ _ _ _ first _ none c.if-number_of-ne0.false);
      records_le_record_room = (rw c.answered.ensures c.read_message-read.ensures.records_le_record_room, size);
    }
