-- `open_run` meets its contract: a count that is held keeps its place and loses its run, a new one comes last.
-- Each way cites its law.
use mathlib.Core.Path.{sym, ◌∙◌}
use Prim.Native.Nat.{◌<◌}
use native.Mathlib.Omega.{arith}
use mathlib.Core.List.{[]}
use Rattle.build_parts.specs.Parts.{part_of}
use Rattle.build_body_rules.proofs.RunLaws.{open_held, open_new, held-within}
use Rattle.build_body.proofs.open_run.Goals as goal
use Rattle.build_body.proofs.open_run.Goals.{In-Some}

pub store-requires : goal.store-requires
store-requires c = record { records_in_bounds = (omega arith, c.requires.from_le_records.2); covers = c.requires.covers }

-- the index where the count was held
held_at : (c : In-Some) → c.in-Some.i < c.args.records
unfolding part_of
held_at c = held-within _ _ _ _ c.args.stored (omega arith) (sym c.store.ensures.value ∙ c.in-Some.is)

pub overflow_add-place : goal.overflow_add-place
overflow_add-place c = omega (arith, held_at c)

pub drop_run-requires : goal.drop_run-requires
drop_run-requires c = (omega (arith, held_at (goal.at.drop_run-requires c).In-Some), omega (arith, c.store.auto.words))

pub shape_of-words-in-Some : goal.shape_of-words-in-Some
shape_of-words-in-Some c = c.drop_run.auto.words ∙ c.store.auto.words

pub returns-in-Some : goal.returns-in-Some
unfolding part_of
returns-in-Some c = record { opened = open_held _ _ _ _ _ _ _ _ (omega arith) (omega arith) c.store.auto.words (c.drop_run.auto.words ∙ c.store.auto.words) (sym c.store.ensures.value ∙ c.in-Some.is) c.store.ensures.words_after c.drop_run.ensures; seen_after = c.store.ensures.seen_after }

pub returns-in-None : goal.returns-in-None
unfolding part_of
returns-in-None c = record { opened = open_new _ [] _ _ _ _ (omega arith) (omega arith) (sym c.store.ensures.value ∙ c.in-None.is) c.store.ensures.words_after; seen_after = c.store.ensures.seen_after }
