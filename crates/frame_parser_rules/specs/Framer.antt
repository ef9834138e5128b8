-- The ported framer's calls. Each call's answer is the first that the rules' order gives; what it leaves of state, store and output
-- follows from the answer.
use Rattle.std.specs.Prelude.{ℕ, ◌+◌, ◌-◌, Bool, true, false, List, ◌++◌, length, take, drop, leb, ltb, eqb, Option, Some, None}
use Rattle.field_rules.specs.Choice.{pick}
use Rattle.field_rules.specs.Decimal.{written_at}
use Rattle.frame_parser_rules.specs.Announced.{announced_in}
use Rattle.frame_parser_rules.specs.declared.Announced.{Announced}
use Rattle.frame_parser_rules.specs.declared.Announced.TheVariants.{Ends, Over, Unknown}
use Rattle.frame_parser_rules.specs.declared.State.{State}
use Rattle.frame_parser_rules.specs.declared.Answer.{Answer}
use Rattle.frame_parser_rules.specs.declared.Answer.TheVariants.{Accepted, Message, OverLong, ShortOutput, StoreFull, AfterEnd, BadStore}
use Rattle.frame_parser_rules.specs.declared.Outcome.{Outcome}

-- ===== answers =====

-- the number returned
unfoldable pub number_of_parser : Answer → ℕ
number_of_parser Accepted = 0
number_of_parser (Message n) = 0
number_of_parser OverLong = 20
number_of_parser ShortOutput = 23
number_of_parser StoreFull = 25
number_of_parser AfterEnd = 26
number_of_parser BadStore = 27

-- the value returned: a take's "length .., 0 if none is ready"; no other answer has one
unfoldable pub length_returned : Answer → ℕ
length_returned Accepted = 0
length_returned (Message n) = n
length_returned OverLong = 0
length_returned ShortOutput = 0
length_returned StoreFull = 0
length_returned AfterEnd = 0
length_returned BadStore = 0

-- a refusal leaves things as they were (20 in a take apart, which keeps its mark)
unfoldable pub where_accepted {ℓ} : {A : Type ℓ} → Answer → A → A → A
where_accepted answer changed same = pick (eqb (number_of_parser answer) 0) changed same

abbrev pub answers_with : State → Answer → Outcome
answers_with state answer = record { state = state; answer = answer }

-- ===== states =====

-- "Reset gives a fresh, empty state."
unfoldable pub fresh : State
fresh = record { used = 0; ended = false; over = false }

-- "keeps only that mark"
unfoldable pub only_mark : State
only_mark = record { used = 0; ended = false; over = true }

-- the bytes that were given and not yet handed out
unfoldable pub held : State → List ℕ → List ℕ
held state store = take state.used store

-- 27, "first: store not 16,384 bytes, used length past it"
unfoldable pub unusable : ℕ → List ℕ → Bool
unusable used store = pick (eqb (length store) 16384) (ltb 16384 used) true

-- ===== a chunk =====

-- "a chunk or end 26, 20, 25", and 25 where the "chunk would take the store past 16,384 bytes"
unfoldable pub push_answer : State → List ℕ → List ℕ → Answer
push_answer state store chunk =
    pick (unusable state.used store) BadStore
    (pick state.ended AfterEnd (pick state.over OverLong (pick (leb (state.used + length chunk) 16384) Accepted StoreFull)))

unfoldable pub with_chunk : State → List ℕ → State
with_chunk state chunk = record { used = state.used + length chunk; ended = state.ended; over = state.over }

unfoldable pub pushed : State → List ℕ → List ℕ → Outcome
pushed state store chunk =
    let answer = push_answer state store chunk in
    answers_with (where_accepted answer (with_chunk state chunk) state) answer

-- the chunk stands behind the bytes that were held, and what stood past it stays
unfoldable pub pushed_store : State → List ℕ → List ℕ → List ℕ
pushed_store state store chunk = where_accepted (push_answer state store chunk) (written_at state.used chunk store) store

-- ===== the end =====

-- "a chunk or end 26, 20"
unfoldable pub end_answer : State → List ℕ → Answer
end_answer state store =
    pick (unusable state.used store) BadStore (pick state.ended AfterEnd (pick state.over OverLong Accepted))

unfoldable pub with_end : State → State
with_end state = record { used = state.used; ended = true; over = state.over }

unfoldable pub finished : State → List ℕ → Outcome
finished state store =
    let answer = end_answer state store in answers_with (where_accepted answer (with_end state) state) answer

-- ===== a take =====

-- "its length returned, 0 if none is ready"; 20 "when a take meets such a length", be its bytes there or not
unfoldable pub ready_of : ℕ → Announced → Option ℕ
ready_of used (Ends end) = Some (pick (leb end used) end 0)
ready_of used Over = None
ready_of used Unknown = Some 0

unfoldable pub ready_answer : Option ℕ → Answer
ready_answer (Some n) = Message n
ready_answer None = OverLong

-- "a take 23, 20", and 23 where the output is "under 8,192 bytes at any take"
unfoldable pub take_answer : State → List ℕ → List ℕ → Answer
take_answer state store output =
    pick (unusable state.used store) BadStore
    (pick (ltb (length output) 8192) ShortOutput
    (pick state.over OverLong (ready_answer (ready_of state.used (announced_in (held state store))))))

-- a message handed out is used no more; 20 "keeps only that mark"
unfoldable pub take_state : State → Answer → State
take_state state Accepted = state
take_state state (Message n) = record { used = state.used - n; ended = state.ended; over = state.over }
take_state state OverLong = only_mark
take_state state ShortOutput = state
take_state state StoreFull = state
take_state state AfterEnd = state
take_state state BadStore = state

unfoldable pub taken : State → List ℕ → List ℕ → Outcome
taken state store output = let answer = take_answer state store output in answers_with (take_state state answer) answer

-- bytes moved to the front of the store, whose rest stays
unfoldable pub moved_to_front : List ℕ → List ℕ → List ℕ
moved_to_front bytes store = bytes ++ drop (length bytes) store

-- the bytes behind the message move to the front
unfoldable pub taken_store : State → List ℕ → List ℕ → List ℕ
taken_store state store output =
    let answer = take_answer state store output in
    where_accepted answer (moved_to_front (drop (length_returned answer) (held state store)) store) store

-- "A frame .. is written at the start of the output ..; the rest of the output stays."
unfoldable pub taken_output : State → List ℕ → List ℕ → List ℕ
taken_output state store output =
    let answer = take_answer state store output in
    where_accepted answer (moved_to_front (take (length_returned answer) (held state store)) output) output
