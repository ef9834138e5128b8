-- `entry_in` meets its contract: what is found in the rows that were opened is what the map has that is named.
use mathlib.Core.Path.{sym, ◌∙◌}
use Rattle.message_look_ups.specs.OpeningLaws.{sized_here}
use Rattle.message_look_ups.specs.LookUpLaws.{OpeningTold, opening-told, entry-none, entry_shut, ranged, entry_open}
use Rattle.message_look_ups.specs.declared.Opened.TheVariants.{Within}
use Rattle.message_look_ups.proofs.entry_in.Goals as goal
use Rattle.message_look_ups.proofs.entry_in.Goals.{In-Within}

pub returns-in-NoMessage : goal.returns-in-NoMessage
returns-in-NoMessage c = sym (entry-none _ _ _ _ _ (opening-told _ _ _ _ (sym c.open_map.ensures ∙ c.in-NoMessage.is)))

pub returns-in-Absent : goal.returns-in-Absent
returns-in-Absent c = sym (entry_shut _ _ _ _ _ (opening-told _ _ _ _ (sym c.open_map.ensures ∙ c.in-Absent.is)))

told_at : (c : In-Within) → OpeningTold c.args.map c.args.words.now c.args.values.now (Within c.in-Within.rows)
told_at c = opening-told _ _ _ _ (sym c.open_map.ensures ∙ c.in-Within.is)

pub entry_from-requires : goal.entry_from-requires
entry_from-requires c = let r = ranged _ _ _ _ (told_at c) in (r.forwards, r.few, (sized_here _ _ r.lent).whole)

pub returns-in-Within : goal.returns-in-Within
returns-in-Within c = c.entry_from.ensures ∙ entry_open _ _ _ _ _ _ (told_at (goal.at.returns-in-Within c).In-Within)
