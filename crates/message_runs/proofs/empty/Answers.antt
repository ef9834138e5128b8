-- `empty` meets its contract: no row, and no value.
use mathlib.Core.Path.{◌≡◌, sym}
use Prim.Native.Nat.{ℕ}
use native.Mathlib.Omega.{arith}
use borrow.Author.Rules.{rules}
use Rattle.message_runs.specs.DraftLaws.{empty-words, empty-values, start-short, start-store, start-made}
use Rattle.message_runs.proofs.empty.Goals as goal

pub returns-then-words-ne-WORDS : goal.returns-then-words-ne-WORDS
returns-then-words-ne-WORDS c = sym (start-short _ _ c.if-words-ne-WORDS.true)

pub returns-then-values-ne8192 : goal.returns-then-values-ne8192
returns-then-values-ne8192 c = sym (start-store _ _ c.if-words-ne-WORDS.false c.if-values-ne8192.true)

pub returns : goal.returns
returns c = rw (empty-words _ _ c.if-words-ne-WORDS.false c.splice_words.ensures, empty-values _ _ c.splice_bytes.ensures)
    (sym (start-made _ _ c.if-words-ne-WORDS.false c.if-values-ne8192.false))

pub splice_words-requires : goal.splice_words-requires
splice_words-requires c = record { from_le_to = search rules; words_value = λ e. let z : ◌≡◌ {A = ℕ} 0 1 = cc in absurd (omega arith) }

pub splice_bytes-requires : goal.splice_bytes-requires
splice_bytes-requires c = record { from_le_to = search rules; values_value = λ e. let z : ◌≡◌ {A = ℕ} 0 1 = cc in absurd (omega arith) }
