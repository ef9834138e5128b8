-- `new` meets its contract: what has no room is refused first, so that each of the three calls is done.
use mathlib.Core.Path.{sym, ◌∙◌}
use borrow.Author.Tests.{leb-true}
use Rattle.message_rules.proofs.NewLaws.{new-short, new-store, new_large, new-done}
use Rattle.message.proofs.new.Goals as goal

pub returns-then-words-ne-WORDS : goal.returns-then-words-ne-WORDS
returns-then-words-ne-WORDS c = sym (new-short _ _ _ _ c.if-words-ne-WORDS.true)

pub returns-then-values-ne8192 : goal.returns-then-values-ne8192
returns-then-values-ne8192 c = sym (new-store _ _ _ _ c.if-words-ne-WORDS.false c.if-values-ne8192.true)

pub returns-then-not-fits : goal.returns-then-not-fits
returns-then-not-fits c = sym (new_large _ _ _ _ c.if-words-ne-WORDS.false c.if-values-ne8192.false
    (sym c.fits.ensures ∙ c.if-not-fits.true))

pub returns : goal.returns
returns c = new-done _ _ _ _ c.if-words-ne-WORDS.false c.if-values-ne8192.false (leb-true _ _ (sym c.fits.ensures ∙ c.if-not-fits.false)) _ _ _ _ _ _ _ _ _ c.empty.ensures
    c.store.ensures c.store-2.ensures
