-- `body_length` meets its contract, kind by kind.
use mathlib.Core.Path.{sym}
use native.Mathlib.Omega.{arith}
use Rattle.dictionary_rules.specs.RecordLaws.{length-other}
use Rattle.dictionary_rules.specs.Record.{record_body_length}
use Rattle.dictionary_records.proofs.body_length.Goals as goal

pub returns-in-1 : goal.returns-in-1
unfolding record_body_length
returns-in-1 c = rw c.in-1.is

pub returns-in-2 : goal.returns-in-2
unfolding record_body_length
returns-in-2 c = rw c.in-2.is

pub returns-in-3 : goal.returns-in-3
unfolding record_body_length
returns-in-3 c = rw c.in-3.is

pub returns-in-4 : goal.returns-in-4
unfolding record_body_length
returns-in-4 c = rw c.in-4.is

pub returns-in-5 : goal.returns-in-5
unfolding record_body_length
returns-in-5 c = rw c.in-5.is

pub returns-in-6 : goal.returns-in-6
unfolding record_body_length
returns-in-6 c = rw c.in-6.is

pub returns-in_default : goal.returns-in_default
returns-in_default c = sym (length-other _ (λ e. omega arith) (λ e. omega arith) (λ e. omega arith) (λ e. omega arith) (λ e. omega arith) (λ e. omega arith))
