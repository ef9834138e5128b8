-- `accepted` meets its contract: one law for each test that refuses, and one for the look-up.
use mathlib.Core.Path.{sym, ap, ◌∙◌}
use mathlib.Core.Bool.{not}
use Rattle.build_groups.proofs.LookUps.{validated, not_user_defined, unknown}
use Rattle.build_groups.proofs.accepted.Goals as goal
use Rattle.build_groups.proofs.accepted.Goals.{then-config-via-then-config, then-config-via-else-config+then-tag-lt-USER_DEFINED}

pub returns-then-config : goal.returns-then-config
returns-then-config c =
    sym (elim c.then-config.branch [
      | then-config-via-then-config w ↦ validated _ _ _ w.if-config.true
      | then-config-via-else-config+then-tag-lt-USER_DEFINED w ↦ not_user_defined _ _ _ w.if-tag-lt-USER_DEFINED.true
    ])

pub returns : goal.returns
returns c = sym (unknown _ _ _ c.if-config.false c.if-tag-lt-USER_DEFINED.false ∙ ap not (sym c.tag_known.ensures))
