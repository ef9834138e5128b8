-- `prepare` meets its contract: nothing was written where a test or the check refuses; a dictionary that passes is short enough for its length
-- to be one word, and its check left an index of the size that the head takes.
use mathlib.Core.Path.{◌≡◌, sym, ap, ◌∙◌}
use Prim.Native.Nat.{◌-◌}
use native.Mathlib.Omega.{arith}
use lib.ListN.{length}
use borrow.Rule.Slice.PartMut.{same_len_mid}
use Rattle.dictionary_chains.specs.Chain.{index_words}
use Rattle.dictionary_rules.specs.Check.{check_of}
use Rattle.dictionary_rules.specs.declared.Checked.TheVariants.{Passes}
use Rattle.dictionary_prepared.proofs.MemoryLaws.{zero_passes, passes_short, index-left, index-length}
use Rattle.dictionary_prepared.specs.Memory.{head_words, index_for}
use Rattle.dictionary_prepared.proofs.MemoryLaws.{prepare_few, prepare_small, prepare_refused, prepare_ready, ready_left, rest-laid}
use Rattle.dictionary_directory.specs.Directory.{lay_tables}
use Rattle.dictionary_prepared.proofs.prepare.Goals as goal

pub returns-then-memory-lt-HEAD : goal.returns-then-memory-lt-HEAD
returns-then-memory-lt-HEAD c = sym (prepare_few _ _ _ c.if-memory-lt-HEAD.true)

pub returns-then-copy-dictionary : goal.returns-then-copy-dictionary
returns-then-copy-dictionary c = sym (prepare_small _ _ _ c.if-memory-lt-HEAD.false c.if-copy-dictionary.true)

pub returns-then-number_of-ne0 : goal.returns-then-number_of-ne0
returns-then-number_of-ne0 c = sym (prepare_refused _ _ _ c.if-memory-lt-HEAD.false c.if-copy-dictionary.false _ c.prepare-checked.ensures.value (λ z. c.if-number_of-ne0.true (c.number_of.ensures ∙ z)))

pub overflow_cast-dictionary : goal.overflow_cast-dictionary
overflow_cast-dictionary c =
    let passes : check_of c.args.dictionary.now ≡ Passes = sym c.prepare-checked.ensures.value ∙ zero_passes _ (sym c.number_of.ensures ∙ c.if-number_of-ne0.false) in
    omega (arith, passes_short _ (passes))

pub slice_bounds-put_head-end : goal.slice_bounds-put_head-end
slice_bounds-put_head-end c =
    let passes : check_of c.args.dictionary.now ≡ Passes = sym c.prepare-checked.ensures.value ∙ zero_passes _ (sym c.number_of.ensures ∙ c.if-number_of-ne0.false) in
    let made : c.prepare-checked.new.index ≡ index_for c.args.dictionary.now = index-left _ _ _ c.prepare-checked.ensures.index_after in
    let size : length c.prepare-checked.new.index ≡ index_words = ap length (made) ∙ index-length _ (passes) in
    sym (size)

pub put_head-requires : goal.put_head-requires
put_head-requires c =
    let passes : check_of c.args.dictionary.now ≡ Passes = sym c.prepare-checked.ensures.value ∙ zero_passes _ (sym c.number_of.ensures ∙ c.if-number_of-ne0.false) in
    let made : c.prepare-checked.new.index ≡ index_for c.args.dictionary.now = index-left _ _ _ c.prepare-checked.ensures.index_after in
    let size : length c.prepare-checked.new.index ≡ index_words = ap length (made) ∙ index-length _ (passes) in
    (size, c.if-memory-lt-HEAD.false)

pub slice_bounds-lay_tables-end : goal.slice_bounds-lay_tables-end
slice_bounds-lay_tables-end c =
    let passes : check_of c.args.dictionary.now ≡ Passes = sym c.prepare-checked.ensures.value ∙ zero_passes _ (sym c.number_of.ensures ∙ c.if-number_of-ne0.false) in
    let made : c.prepare-checked.new.index ≡ index_for c.args.dictionary.now = index-left _ _ _ c.prepare-checked.ensures.index_after in
    let size : length c.prepare-checked.new.index ≡ index_words = ap length (made) ∙ index-length _ (passes) in
    sym (size)

pub slice_bounds-lay_tables-count : goal.slice_bounds-lay_tables-count
slice_bounds-lay_tables-count c = omega (arith, c.put_head.auto.memory, c.if-memory-lt-HEAD.false)

pub lay_tables-requires : goal.lay_tables-requires
lay_tables-requires c =
    let passes : check_of c.args.dictionary.now ≡ Passes = sym c.prepare-checked.ensures.value ∙ zero_passes _ (sym c.number_of.ensures ∙ c.if-number_of-ne0.false) in
    let made : c.prepare-checked.new.index ≡ index_for c.args.dictionary.now = index-left _ _ _ c.prepare-checked.ensures.index_after in
    let size : length c.prepare-checked.new.index ≡ index_words = ap length (made) ∙ index-length _ (passes) in
    size

pub shape_of-memory : goal.shape_of-memory
shape_of-memory c = same_len_mid head_words (length c.put_head.new.memory - head_words) c.put_head.new.memory c.lay_tables.new.tables c.lay_tables.auto.tables ∙ c.put_head.auto.memory

pub returns : goal.returns
returns c =
    let made : c.prepare-checked.new.index ≡ index_for c.args.dictionary.now = index-left _ _ _ c.prepare-checked.ensures.index_after in
    let passes : check_of c.args.dictionary.now ≡ Passes = sym c.prepare-checked.ensures.value ∙ zero_passes _ (sym c.number_of.ensures ∙ c.if-number_of-ne0.false) in
    let size : length c.prepare-checked.new.index ≡ index_words = ap length (made) ∙ index-length _ (passes) in
    ready_left _ _ c.args.memory.now _ _ _ c.copy.ensures.target_after
    (rest-laid index_words _ _ _ (size) _ c.put_head.ensures (lay_tables c.args.dictionary.now _) _ c.lay_tables.ensures) (made)
    ∙ sym (prepare_ready _ _ _ c.if-memory-lt-HEAD.false c.if-copy-dictionary.false _ c.prepare-checked.ensures.value (sym c.number_of.ensures ∙ c.if-number_of-ne0.false))
