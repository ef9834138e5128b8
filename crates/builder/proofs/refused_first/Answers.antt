-- `refused_first` meets its contract: each return cites the law of its way.
use mathlib.Core.Path.{sym, ◌∙◌}
use Rattle.builder.proofs.ReadingLaws.{first-separator, first-few, first_long, first-none}
use Rattle.builder.proofs.refused_first.Goals as goal

pub returns-then-is_refused_separator : goal.returns-then-is_refused_separator
returns-then-is_refused_separator c = first-separator _ _ _ (sym c.is_refused_separator.ensures ∙ c.if-is_refused_separator.true)

pub returns-then-lent-lt1024 : goal.returns-then-lent-lt1024
returns-then-lent-lt1024 c = first-few _ _ _ (sym c.is_refused_separator.ensures ∙ c.if-is_refused_separator.false) c.if-lent-lt1024.true

pub returns-then-message-gt8192 : goal.returns-then-message-gt8192
returns-then-message-gt8192 c = first_long _ _ _ (sym c.is_refused_separator.ensures ∙ c.if-is_refused_separator.false) c.if-lent-lt1024.false c.if-message-gt8192.true

pub returns : goal.returns
returns c = first-none _ _ _ (sym c.is_refused_separator.ensures ∙ c.if-is_refused_separator.false) c.if-lent-lt1024.false c.if-message-gt8192.false
