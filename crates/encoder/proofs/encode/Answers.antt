-- `encode` meets its contract: it is judged, and then refused or written.
use mathlib.Core.Path.{sym, ◌∙◌}
use Rattle.encoder.specs.VerdictLaws.{fit_to-encode, encodes, refuses}
use Rattle.encoder.proofs.encode.Goals as goal

pub write_encoding-requires : goal.write_encoding-requires
write_encoding-requires c = fit_to-encode _ _ _ _ _ (sym c.judge.ensures ∙ c.in-Ok.is)

pub returns-in-Ok : goal.returns-in-Ok
returns-in-Ok c = c.write_encoding.ensures ∙ sym (encodes _ _ _ _ _ (sym c.judge.ensures ∙ c.in-Ok.is))

pub returns-in-Err : goal.returns-in-Err
returns-in-Err c = sym (refuses _ _ _ _ _ (sym c.judge.ensures ∙ c.in-Err.is))
