-- `end` meets its contract: each return cites the law of `BytesLaws` for its way.
use Rattle.std.proofs.Common.{sym, ◌∙◌}
use Rattle.frame_hunter_rules.proofs.BytesLaws.{end-unfit, end-ended, end_fine}
use Rattle.frame_hunter.proofs.end.Goals as goal

pub returns-then-unfit_store : goal.returns-then-unfit_store
returns-then-unfit_store c = record { reply_is = sym (end-unfit _ _ (sym c.unfit_store.ensures ∙ c.if-unfit_store.true)).reply }

pub returns-then-state : goal.returns-then-state
returns-then-state c = record { reply_is = sym (end-ended _ _ (sym c.unfit_store.ensures ∙ c.if-unfit_store.false) c.if-state.true).reply }

pub returns : goal.returns
returns c = record { reply_is = sym (end_fine _ _ (sym c.unfit_store.ensures ∙ c.if-unfit_store.false) c.if-state.false).reply }
