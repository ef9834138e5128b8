-- `verdict_from` meets its contract: each arm is a case of the definition.
use mathlib.Core.Path.{sym, ap}
use Rattle.frame_verdict_rules.specs.Verdict.{as_verdict}
use Rattle.frame_verdict.proofs.verdict_from.Goals as goal

pub returns-in-On : goal.returns-in-On
unfolding as_verdict
returns-in-On c = sym (ap as_verdict c.in-On.is)

pub returns-in-Bad : goal.returns-in-Bad
unfolding as_verdict
returns-in-Bad c = sym (ap as_verdict c.in-Bad.is)

pub returns-in-Short : goal.returns-in-Short
unfolding as_verdict
returns-in-Short c = sym (ap as_verdict c.in-Short.is)
