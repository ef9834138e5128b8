-- Worked examples of this crate's definitions, one table under one statement, which antt computes.
-- A wrong definition is refused here, whatever code is proved against it.
use Rattle.std.specs.Prelude.{◌≡◌, refl, List, [], ◌∷◌, ◌++◌, map, Bool, true, false, ℕ, zero, suc, replicate}
use Rattle.std.proofs.Common.{arith}
use Rattle.message_maps.specs.Rows.{message_words}
use Rattle.field_rules.specs.Text.{bytes}
use Rattle.message_maps.specs.Map.{Map, end, field, entry, joined, holds, holds_any, replaced, without_field, leading, past_leading, run_on, without_run, stored, field_count, values_in}
use Rattle.message_lent_rules.specs.Meaning.{Message, parts, words_of, value_bytes_of}
use Rattle.message_lent_rules.specs.Formed.{stands, goes_on, is_formed, Within}
use Rattle.message_lent_rules.proofs.FormedLaws.{Lends, layout_lends}
use Rattle.message_rules.specs.Changes.{After, after, number_of_change, part_of, with_part, field_total, value_total, judged, of_message, of_store, no_fields, emptying, new_message, storing, removing}
use Rattle.message_rules.specs.declared.Part.{Part}
use Rattle.message_rules.specs.declared.Part.TheVariants.{Header, Body, Trailer}
use Rattle.message_rules.specs.declared.Change.{Change}
use Rattle.message_rules.specs.declared.Change.TheVariants.{Made, NoMessage, NotStorable, NoRun, TooManyFields}

-- a new message has 8 and then 35 in its header, and nothing else
new_messages : new_message (bytes "FIX.4.4") (bytes "0") ∷ new_message [] (bytes "D") ∷ []
    ≡ record { header = field 8 (bytes "FIX.4.4") (field 35 (bytes "0") end); body = end; trailer = end } ∷ record { header = field 8 [] (field 35 (bytes "D") end); body = end; trailer = end } ∷ []
unfolding new_message with_part no_fields stored holds joined without_run run_on
new_messages = refl

-- P5: a replaced field keeps its place. A new one comes last, and the run that waited for it stands behind it.
order : Map
order = field 38 (bytes "600") (entry 78 79 (field 79 (bytes "A") end) (field 58 (bytes "x") end))

stores : stored 38 (bytes "800") order ∷ stored 78 (bytes "1") order ∷ without_field 38 order ∷ []
    ≡ field 38 (bytes "800") (entry 78 79 (field 79 (bytes "A") end) (field 58 (bytes "x") end))
    ∷ field 38 (bytes "600") (field 58 (bytes "x") (field 78 (bytes "1") (entry 78 79 (field 79 (bytes "A") end) end)))
    ∷ entry 78 79 (field 79 (bytes "A") end) (field 58 (bytes "x") end)
    ∷ []
unfolding order stored holds joined without_run run_on replaced without_field leading past_leading
stores = refl

-- so many fields, each with an empty value and a tag of its own
many : ℕ → Map
many zero = end
many (suc n) = field (suc n) [] (many n)

abbrev in_body : Map → Message
in_body body = record { header = end; body = body; trailer = end }

-- "judged by what it would leave: 41, 42, 21", each at its limit and in this order; what is refused leaves words and values as they were
abbrev cases : List (Bool × Message)
cases =
    (true, in_body (field 1 (replicate 8192 0) end))
    ∷ (true, in_body (field 1 (replicate 8193 0) end))
    ∷ (false, in_body (field 1 (replicate 8193 0) end))
    ∷ (true, in_body (many 1024))
    ∷ (true, in_body (many 1025))
    ∷ (false, in_body (many 1025))
    ∷ []

abbrev number : After → ℕ
number (after change words values) = number_of_change change

abbrev leaves : After → List ℕ
leaves (after Made words values) = []
leaves (after NoMessage words values) = words ++ values
leaves (after NotStorable words values) = words ++ values
leaves (after NoRun words values) = words ++ values
leaves (after TooManyFields words values) = words ++ values

judging : map (λ (c : Bool × Message). number (judged (7 ∷ []) (8 ∷ []) c.0 c.1)) cases ≡ 0 ∷ 41 ∷ 41 ∷ 0 ∷ 21 ∷ 42 ∷ []
unfolding judged number_of_change value_total field_total values_in parts field_count many
judging = refl

keeping : map (λ (c : Bool × Message). leaves (judged (7 ∷ []) (8 ∷ []) c.0 c.1)) cases ≡ [] ∷ (7 ∷ 8 ∷ []) ∷ (7 ∷ 8 ∷ []) ∷ [] ∷ (7 ∷ 8 ∷ []) ∷ (7 ∷ 8 ∷ []) ∷ []
unfolding judged value_total field_total values_in parts field_count many
keeping = refl

-- an order with a run behind its count
abbrev dealt : Map → Message
dealt body = record { header = field 35 (bytes "D") end; body = body; trailer = end }

abbrev allocated : Message
allocated = dealt (field 38 (bytes "600") (field 78 (bytes "1") (entry 78 79 (field 79 (bytes "A") end) (field 58 (bytes "x") end))))

allocated-lent : Lends (words_of allocated) (value_bytes_of allocated) allocated
unfolding is_formed stands goes_on past_leading values_in parts field_count holds_any
allocated-lent = layout_lends allocated (record { formed = record { header = refl; body = refl; trailer = refl }; small = omega arith; few = omega arith })

abbrev left : Message → After
left m = after Made (words_of m) (value_bytes_of m)

-- a replaced field keeps its place (P5); tag 0 is refused; a removed count leaves its run; what is not held leaves the message as it was
calls :
    (storing Body 38 (bytes "800") (words_of allocated) (value_bytes_of allocated) ≡ left (dealt (field 38 (bytes "800") (field 78 (bytes "1") (entry 78 79 (field 79 (bytes "A") end) (field 58 (bytes "x") end))))))
    × (storing Trailer 0 (bytes "x") (words_of allocated) (value_bytes_of allocated) ≡ after NotStorable (words_of allocated) (value_bytes_of allocated))
    × (removing Body 78 (words_of allocated) (value_bytes_of allocated) ≡ left (dealt (field 38 (bytes "600") (entry 78 79 (field 79 (bytes "A") end) (field 58 (bytes "x") end)))))
    × (removing Header 38 (words_of allocated) (value_bytes_of allocated) ≡ left allocated)
unfolding storing removing of_message judged value_total field_total values_in parts field_count holds_any part_of with_part holds stored replaced without_field
calls =
    let lent = allocated-lent in
    (rw (lent.is_message, lent.meant), rw lent.is_message, rw (lent.is_message, lent.meant), rw (lent.is_message, lent.meant))

-- what is emptied holds nothing of what it held, and other lengths are none of a message
emptied : (emptying (replicate message_words 7) (replicate 8192 7) ≡ left no_fields) × (emptying (replicate 8204 7) (replicate 8192 7) ≡ after NoMessage (replicate 8204 7) (replicate 8192 7))
unfolding emptying of_store
emptied = (refl, refl)
