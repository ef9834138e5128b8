-- Worked examples of this crate's definitions, one table to a definition, each under one statement that antt computes.
-- A wrong definition is refused here, whatever code is proved against it.
use Rattle.std.specs.Prelude.{◌≡◌, refl, Bool, true, false, List, [], ◌∷◌, ◌++◌, map, ℕ, ◌-◌, length, take, replicate}
use Prim.Native.String.{String}
use Rattle.field_rules.specs.Text.{bytes}
use Rattle.field_rules.specs.Find.{find_in}
use Rattle.field_rules.specs.Decimal.{written_at}
use Rattle.frame_parser_rules.specs.Announced.{digit_of, nominal, find_from, with_separator, with_equals, value_from, message_end, limited, with_second, with_first, announced_in}
use Rattle.frame_parser_rules.specs.Framer.{number_of_parser, length_returned, where_accepted, fresh, only_mark, held, unusable, push_answer, with_chunk, pushed, pushed_store, end_answer, ready_of, ready_answer, take_answer, take_state, taken, moved_to_front, taken_store, taken_output}
use Rattle.frame_parser_rules.specs.declared.Announced.TheVariants.{Ends, Over, Unknown}
use Rattle.frame_parser_rules.specs.declared.State.{State}
use Rattle.frame_parser_rules.specs.declared.Answer.{Answer}

abbrev Table : Type 0 → Type 0
Table A = List (String × A)

abbrev Holds : {A : Type 0} → (List ℕ → A) → Table A → Type 0
Holds f table = map (λ row. f (bytes row.0)) table ≡ map (λ row. row.1) table

-- "times 10 and plus (byte minus 48, wrapped to a byte), both wrapping"
numbers : Holds (nominal 0) (("5", 5) ∷ ("00023", 23) ∷ ("", 0) ∷ (":", 10) ∷ ("/", 255) ∷ ("//", 2805) ∷ ("18446744073709551615", 18446744073709551615) ∷ ("18446744073709551616", 0) ∷ ("18446744073709551621", 5) ∷ [])
unfolding nominal digit_of
numbers = refl

-- P1, what has arrived of it, the limit, numbers that wrap, a sum that passes 2^64, and texts that no message has
announced : Holds announced_in (("8=FIX.4.4|9=5|35=0|10=163|", Ends 26) ∷ ("8=FIX.4.4|9=5|", Ends 26) ∷ ("8=FIX.4.4|9=5", Unknown)
    ∷ ("8=FIX.4.4|9", Unknown) ∷ ("8=FIX.4.4", Unknown) ∷ ("8", Unknown) ∷ ("", Unknown) ∷ ("8=|9=8175|", Ends 8192) ∷ ("8=|9=8176|", Over)
    ∷ ("8=|9=|", Ends 13) ∷ ("8=|9=/|", Ends 269) ∷ ("8=|9=18446744073709551621|", Ends 38) ∷ ("8=|9=18446744073709551615|", Over) ∷ ("=|=5|", Ends 17)
    ∷ ("8|=a|9|=1|", Ends 18) ∷ [])
unfolding announced_in with_first with_second value_from with_equals with_separator find_from find_in limited message_end nominal digit_of
announced = refl

-- a store of 16,384 bytes that starts so
abbrev store : String → List ℕ
store text = bytes text ++ replicate (16384 - length (bytes text)) 0

abbrev state : ℕ → Bool → Bool → State
state used ended over = record { used = used; ended = ended; over = over }

-- an answer's number and value
abbrev answered : Answer → ℕ × ℕ
answered answer = (number_of_parser answer, length_returned answer)

abbrev zeros : ℕ → List ℕ
zeros n = replicate n 0

-- a chunk: one that fills the store and one byte more; the orders 27, 26, 20, 25
chunks : map (λ (row : State × (List ℕ × ℕ)). answered (push_answer row.0 row.1.0 (zeros row.1.1))) ((fresh, (store "", 16384))
    ∷ (fresh, (store "", 16385)) ∷ (state 16383 false false, (store "", 1)) ∷ (state 16383 false false, (store "", 2))
    ∷ (state 16384 false false, (store "", 0)) ∷ (state 9000 true true, (store "", 9000)) ∷ (state 9000 false true, (store "", 9000))
    ∷ (state 16385 true true, (store "", 0)) ∷ (fresh, (zeros 16383, 0)) ∷ (fresh, (zeros 16385, 0)) ∷ []) ≡ (0, 0) ∷ (25, 0) ∷ (0, 0) ∷ (25, 0) ∷ (0, 0)
    ∷ (26, 0) ∷ (20, 0) ∷ (27, 0) ∷ (27, 0) ∷ (27, 0) ∷ []
unfolding number_of_parser length_returned fresh push_answer unusable
chunks = refl

-- the end: 27, 26, 20
ends : map (λ (state : State). answered (end_answer state (store ""))) (fresh ∷ state 5 true false ∷ state 5 true true ∷ only_mark ∷ state 16385 true true ∷ []) ≡ (0, 0) ∷ (26, 0) ∷ (26, 0) ∷ (20, 0) ∷ (27, 0) ∷ []
unfolding number_of_parser length_returned fresh only_mark end_answer unusable
ends = refl

-- a take: P1 whole and short of a byte, after the end, two bytes behind it; 20 before its bytes are there; the orders 27, 23, 20
takes : map (λ (row : State × (String
    × ℕ)). answered (take_answer row.0 (store row.1.0) (zeros row.1.1))) ((state 26 false false, ("8=FIX.4.4|9=5|35=0|10=163|", 8192))
    ∷ (state 25 false false, ("8=FIX.4.4|9=5|35=0|10=163|", 8192)) ∷ (state 26 true false, ("8=FIX.4.4|9=5|35=0|10=163|", 8192))
    ∷ (state 28 false false, ("8=FIX.4.4|9=5|35=0|10=163|8=", 9000)) ∷ (state 10 false false, ("8=|9=8176|", 8192))
    ∷ (state 10 false false, ("8=|9=8175|", 8192)) ∷ (fresh, ("", 8192)) ∷ (fresh, ("", 8191)) ∷ (only_mark, ("", 8191)) ∷ (only_mark, ("", 8192))
    ∷ (state 16385 true true, ("", 0)) ∷ []) ≡ (0, 26) ∷ (0, 0) ∷ (0, 26) ∷ (0, 26) ∷ (20, 0) ∷ (0, 0) ∷ (0, 0) ∷ (23, 0) ∷ (23, 0) ∷ (20, 0) ∷ (27, 0) ∷ []
unfolding number_of_parser length_returned fresh only_mark take_answer unusable ready_answer ready_of held announced_in with_first with_second value_from with_equals with_separator find_from find_in limited message_end nominal digit_of
takes = refl

-- the start of what a take leaves: state, store and an output of 8,192 dots
abbrev after_take : State → String → State × (List ℕ × List ℕ)
after_take before text =
    let output : List ℕ = replicate 8192 46 in
    ((taken before (store text) output).state, (take 28 (taken_store before (store text) output), take 28 (taken_output before (store text) output)))

-- the bytes behind the message are in front, the rest of the store and of the output stays; nothing is ready; and 20 keeps only its
-- mark and moves nothing
leaves : (after_take (state 28 true false) "8=FIX.4.4|9=5|35=0|10=163|35" ≡ (state 2 true false, (bytes "35FIX.4.4|9=5|35=0|10=163|35", bytes "8=FIX.4.4|9=5|35=0|10=163|..")))
    × (after_take (state 14 false false) "8=FIX.4.4|9=5|xxxxxxxxxxxxxx" ≡ (state 14 false false, (bytes "8=FIX.4.4|9=5|xxxxxxxxxxxxxx", bytes "............................")))
    × (after_take (state 12 true false) "8=|9=123456|xxxxxxxxxxxxxxxx" ≡ (only_mark, (bytes "8=|9=123456|xxxxxxxxxxxxxxxx", bytes "............................")))
unfolding number_of_parser length_returned where_accepted only_mark taken taken_store taken_output moved_to_front take_state take_answer unusable ready_answer ready_of held announced_in with_first with_second value_from with_equals with_separator find_from find_in limited message_end nominal digit_of
leaves = (refl, refl, refl)

-- the start of what a chunk leaves
abbrev after_push : State → String → State × List ℕ
after_push before chunk =
    let bytes-held = store "8=FIX.4.4|xxxxxxxxxxxxxxxxxx" in
    ((pushed before bytes-held (bytes chunk)).state, take 28 (pushed_store before bytes-held (bytes chunk)))

-- it stands behind the bytes held, and the rest of the store stays; a refused one leaves all as it was
filled : (after_push (state 10 false false) "9=5|" ≡ (state 14 false false, bytes "8=FIX.4.4|9=5|xxxxxxxxxxxxxx"))
    × (after_push (state 10 true false) "9=5|" ≡ (state 10 true false, bytes "8=FIX.4.4|xxxxxxxxxxxxxxxxxx"))
    × (after_push only_mark "9=5|" ≡ (only_mark, bytes "8=FIX.4.4|xxxxxxxxxxxxxxxxxx"))
unfolding number_of_parser where_accepted only_mark pushed pushed_store with_chunk written_at push_answer unusable
filled = (refl, refl, refl)
