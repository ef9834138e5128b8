-- Worked examples of this crate's definitions, one table to a definition, each under one statement that antt computes.
use Rattle.std.specs.Prelude.{◌≡◌, refl, List, [], ◌∷◌, map, ℕ, ◌*◌, Option, Some, None}
use Rattle.build_records.specs.Records.{laid, records_of, leftover, on_records, blank, record_at, replaced, pushed, inserted, pulled, removed, between, held_from, stored_at, stored_between, stored, stride, record_room, record_words}
use Rattle.build_records.specs.declared.Record.{Record}

-- a field of the body with a tag and a place
abbrev body : ℕ → ℕ → Record
body tag place = record { part = 2; depth = 0; number = 0; tag = tag; place = place; length = 1 }

abbrev order : List Record
order = body 38 10 ∷ body 58 20 ∷ body 44 30 ∷ blank ∷ []

abbrev tags : List Record → List (ℕ × ℕ)
tags rs = map (λ (r : Record). (r.tag, r.place)) rs

words : laid (record { part = 1; depth = 2; number = 3; tag = 4; place = 5; length = 6 } ∷ []) ≡ 1 ∷ 2 ∷ 3 ∷ 4 ∷ 5 ∷ 6 ∷ []
unfolding laid
words = refl

-- words that make no whole record stay
rest-stays : on_records (replaced 0 (body 58 7)) (1 ∷ 2 ∷ 3 ∷ 4 ∷ 5 ∷ 6 ∷ 77 ∷ 78 ∷ []) ≡ 2 ∷ 0 ∷ 0 ∷ 58 ∷ 7 ∷ 1 ∷ 77 ∷ 78 ∷ []
unfolding on_records replaced records_of leftover laid
rest-stays = refl

-- in at the start, in the middle, at the end, past the end, and without room
insertions : map tags (inserted 3 0 (body 1 1) order ∷ inserted 3 2 (body 1 1) order ∷ inserted 3 3 (body 1 1) order ∷ inserted 3 4 (body 1 1) order ∷ inserted 4 0 (body 1 1) order ∷ []) ≡ ((1, 1) ∷ (38, 10) ∷ (58, 20) ∷ (44, 30) ∷ []) ∷ ((38, 10) ∷ (58, 20) ∷ (1, 1) ∷ (44, 30) ∷ []) ∷ ((38, 10) ∷ (58, 20) ∷ (44, 30) ∷ (1, 1) ∷ []) ∷ tags order ∷ tags order ∷ []
unfolding inserted pushed
insertions = refl

-- "Removing keeps order."
removals : map tags (removed 3 0 1 order ∷ removed 3 1 1 order ∷ removed 3 1 2 order ∷ removed 3 0 0 order ∷ removed 3 0 4 order ∷ removed 5 0 1 order ∷ []) ≡ ((58, 20) ∷ (44, 30) ∷ (44, 30) ∷ (0, 0) ∷ []) ∷ ((38, 10) ∷ (44, 30) ∷ (44, 30) ∷ (0, 0) ∷ []) ∷ tags order ∷ tags order ∷ tags order ∷ tags order ∷ []
unfolding removed pulled record_at
removals = refl

-- P5, `38=600|58=x|38=800|`: "38 is 800 and stands first"
stores : map tags (stored (body 38 40) (body 38 10 ∷ body 58 20 ∷ []) ∷ stored (body 44 40) (body 38 10 ∷ body 58 20 ∷ [])
    ∷ stored_between 3 0 2 (body 38 40) order ∷ stored_between 3 0 2 (body 44 40) order ∷ stored_between 3 0 3 (body 44 40) order ∷ []) ≡ ((38, 40) ∷ (58, 20)
    ∷ []) ∷ ((38, 10) ∷ (58, 20) ∷ (44, 40) ∷ []) ∷ ((38, 40) ∷ (58, 20) ∷ (44, 30) ∷ (0, 0) ∷ []) ∷ ((38, 10) ∷ (58, 20) ∷ (44, 40) ∷ (44, 30) ∷ [])
    ∷ ((38, 10) ∷ (58, 20) ∷ (44, 40) ∷ (0, 0) ∷ []) ∷ []
unfolding stored stored_between stored_at held_from between replaced inserted pushed
stores = refl

-- the depth counts as well as the tag
holdings : map {B = Option ℕ} (λ (row : ℕ × ℕ × ℕ × ℕ). held_from row.0 row.2 row.3 (between row.0 row.1 order)) ((0, 3, 0, 58) ∷ (2, 3, 0, 58) ∷ (0, 1, 0, 58) ∷ (0, 3, 1, 58) ∷ (1, 9, 0, 44) ∷ []) ≡ Some 1 ∷ None ∷ None ∷ None ∷ Some 2 ∷ []
unfolding held_from between
holdings = refl

-- as many words as the records take
sizes : record_words ≡ stride * record_room
sizes = refl
