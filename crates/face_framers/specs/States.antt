-- The framers' states as a caller lends them, and what is told of a call: "Used length, dropped count and ended mark lent by &mut to thin
-- push, take and end entries."
use Rattle.std.specs.Prelude.{ℕ, Bool, true, false, eqb}
use Rattle.field_rules.specs.Choice.{pick}
use Rattle.frame_parser_rules.specs.declared.State.{State}
use Rattle.frame_parser_rules.specs.declared.Answer.{Answer}
use Rattle.frame_parser_rules.specs.Framer.{number_of_parser}
use Rattle.frame_hunter_rules.specs.declared.State.{State as Hunter}
use Rattle.frame_hunter_rules.specs.declared.Answer.{Answer as Hunted}
use Rattle.frame_hunter_rules.specs.Bytes.{number_of_hunter}
use Rattle.face_framers.specs.declared.PortedState.{PortedState}
use Rattle.face_framers.specs.declared.PortedReply.{PortedReply}
use Rattle.face_framers.specs.declared.HunterState.{HunterState}
use Rattle.face_framers.specs.declared.HunterReply.{HunterReply}

-- what isn't 0 is set, so that every byte is a mark
unfoldable pub is_set : ℕ → Bool
is_set mark = pick (eqb mark 0) false true

-- "as it was": a mark that stays set keeps its byte; one that is set anew is 1
unfoldable pub mark_left : ℕ → Bool → ℕ
mark_left mark set = pick set (pick (is_set mark) mark 1) 0

-- ===== the ported framer =====

unfoldable pub ported_in : PortedState → State
ported_in s = record { used = s.used; ended = is_set s.ended; over = is_set s.over }

-- the state that is left, over the one that was lent
unfoldable pub ported_out : PortedState → State → PortedState
ported_out lent s = record { used = s.used; ended = mark_left lent.ended s.ended; over = mark_left lent.over s.over }

abbrev pub ported_told : PortedState → State → Answer → PortedReply
ported_told lent s answer = record { state = ported_out lent s; number = number_of_parser answer }

-- "Reset gives a fresh, empty state.": zeros
abbrev pub ported_fresh : PortedState
ported_fresh = record { used = 0; ended = 0; over = 0 }

abbrev pub ported_reset : PortedReply
ported_reset = record { state = ported_fresh; number = 0 }

-- ===== the hunting framer =====

unfoldable pub hunter_in : HunterState → Hunter
hunter_in s = record { used = s.used; dropped = s.dropped; ended = is_set s.ended }

unfoldable pub hunter_out : HunterState → Hunter → HunterState
hunter_out lent s = record { used = s.used; dropped = s.dropped; ended = mark_left lent.ended s.ended }

abbrev pub hunter_told : HunterState → Hunter → Hunted → HunterReply
hunter_told lent s answer = record { state = hunter_out lent s; number = number_of_hunter answer }

abbrev pub hunter_fresh : HunterState
hunter_fresh = record { used = 0; dropped = 0; ended = 0 }

abbrev pub hunter_reset : HunterReply
hunter_reset = record { state = hunter_fresh; number = 0 }
