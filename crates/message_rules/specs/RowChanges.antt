-- A change as the rows and values show it: where a part's rows stand, what a cut of rows makes of the words, and a field put in its place. The
-- code is proved against this layer, and the laws say that it comes to what `Changes` says of the message.
use Rattle.std.specs.Prelude.{ℕ, ◌+◌, ◌-◌, ◌*◌, ◌≤◌, ◌<◌, ◌≡◌, Bool, true, List, [], ◌∷◌, length, drop, set, replicate, ltb, Option, Some, None}
use Rattle.field_rules.specs.Choice.{pick}
use Rattle.message_maps.specs.Rows.{laid, rows_from, find_from, run_end_from, sizes, padded, spliced, message_words, message_rows}
use Rattle.message_lent_rules.specs.Lent.{fields_in, is_message}
use Rattle.message_lent_rules.specs.Meaning.{Message, parts, words_of, value_bytes_of, message_in}
use Rattle.message_rules.specs.Changes.{After, judged_by}
use Rattle.message_rules.specs.declared.Part.{Part}
use Rattle.message_rules.specs.declared.Part.TheVariants.{Header, Body, Trailer}
use Rattle.message_rules.specs.declared.Span.{Span}
use Rattle.message_rules.specs.declared.Cut.{Cut}

-- the rows of the heads of body and trailer
unfoldable pub body_head : Message → ℕ
body_head m = 1 + length (laid 1 m.header)

unfoldable pub trailer_head : Message → ℕ
trailer_head m = 1 + length (laid 1 m.header) + 1 + length (laid 1 m.body)

-- where a part's rows stand
unfoldable pub span_of : Part → Message → Span
span_of Header m =
    record { from = 1; to = 1 + length (laid 1 m.header); count = length (laid 0 (parts m)) }
span_of Body m =
    record {
      from = 1 + length (laid 1 m.header) + 1;
      to = 1 + length (laid 1 m.header) + 1 + length (laid 1 m.body);
      count = length (laid 0 (parts m));
    }
span_of Trailer m =
    record {
      from = 1 + length (laid 1 m.header) + 1 + length (laid 1 m.body) + 1;
      to = length (laid 0 (parts m));
      count = length (laid 0 (parts m));
    }

unfoldable pub located_in : Part → List ℕ → List ℕ → Option Span
located_in part words values = pick (is_message words values) (Some (span_of part (message_in words values))) None

-- the layer of words: what a cut of rows makes of them
unfoldable pub place_of : List ℕ → ℕ → ℕ
place_of words i = sizes (rows_from (i - 0) 0 words)

pub record Cuttable (words values : List ℕ) (cut : Cut) (rows : List ℕ) (added fields : ℕ) : Type 0 where
  pub whole : length words ≡ message_words
  pub store : length values ≡ 8192
  pub forwards : cut.from ≤ cut.kept
  pub back : cut.kept ≤ cut.to
  pub on : cut.to ≤ cut.until
  pub last : cut.until ≤ cut.count
  pub few : cut.count ≤ message_rows
  pub four : length rows ≡ 4 * added
  pub room : fields ≤ 1024 → (cut.from + (cut.until - cut.to) + (cut.to - cut.kept) + (cut.count - cut.until)) + added ≤ message_rows
  pub within : place_of words cut.count ≤ 8192

-- zeros behind the rows and behind the values, where they are known to stand there
unfoldable pub BlankFrom : Bool → ℕ → List ℕ → List ℕ → Type 0
BlankFrom blank count words values =
    blank ≡ true
    → (drop (4 * count + 1) words ≡ replicate (message_words - (4 * count + 1)) 0)
    × (drop (place_of words count) values ≡ replicate (8192 - place_of words count) 0)

unfoldable pub Blank : Bool → List ℕ → List ℕ → Type 0
Blank blank words values =
    blank ≡ true → (words ≡ words_of (message_in words values)) × (values ≡ value_bytes_of (message_in words values))

unfoldable pub cut_rows : Cut → ℕ
cut_rows cut = cut.from + (cut.until - cut.to) + (cut.to - cut.kept) + (cut.count - cut.until)

unfoldable pub cut_size : List ℕ → Cut → ℕ
cut_size words cut =
    place_of words cut.from + (place_of words cut.until - place_of words cut.to)
    + (place_of words cut.to - place_of words cut.kept)
    + (place_of words cut.count - place_of words cut.until)

unfoldable pub cut_words : Cut → List ℕ → ℕ → List ℕ → List ℕ
cut_words cut rows added words =
    set
    (padded message_words (spliced (4 * cut.from + 1) (4 * cut.to + 1) (4 * cut.kept + 1) (4 * cut.until + 1) (4 * cut.count + 1) rows words))
    0 (cut_rows cut + added)

unfoldable pub cut_values : Cut → List ℕ → List ℕ → List ℕ → List ℕ
cut_values cut bytes words values =
    padded 8192
    (spliced (place_of words cut.from) (place_of words cut.to) (place_of words cut.kept) (place_of words cut.until) (place_of words cut.count) bytes values)

unfoldable pub changed_at : Cut → List ℕ → ℕ → List ℕ → Bool → ℕ → List ℕ → List ℕ → After
changed_at cut rows added bytes whole fields words values =
    judged_by words values (cut_size words cut + length bytes) whole fields (cut_words cut rows added words) (cut_values cut bytes words values)

-- the row of a field in a part
unfoldable pub field_row : ℕ → List ℕ → List ℕ
field_row tag value = 1 ∷ 1 ∷ tag ∷ length value ∷ []

unfoldable pub field_place : Span → ℕ → List ℕ → ℕ
field_place span tag words = find_from 1 1 tag span.from (rows_from (span.to - span.from) span.from words)

unfoldable pub run_place : Span → ℕ → List ℕ → ℕ
run_place span tag words = find_from 2 1 tag span.from (rows_from (span.to - span.from) span.from words)

unfoldable pub run_stop : Span → ℕ → List ℕ → ℕ
run_stop span tag words = run_end_from 1 tag (run_place span tag words) (rows_from (span.to - run_place span tag words) (run_place span tag words) words)

-- how many rows a field has that is looked for up to the end of its map: none where it isn't held
unfoldable pub held_rows : ℕ → ℕ → ℕ
held_rows at to = pick (ltb at to) 1 0

-- the cut of one row, and the cut that moves a run behind what follows it in its part
unfoldable pub one_row : ℕ → ℕ → Cut
one_row at count = record { from = at; to = at + 1; kept = at + 1; until = at + 1; count = count }

unfoldable pub run_last : ℕ → ℕ → Span → Cut
run_last first last span = record { from = first; to = last; kept = first; until = span.to; count = span.count }

-- a field is put in its place, or last with its run
unfoldable pub put_at : Span → ℕ → List ℕ → ℕ → List ℕ → List ℕ → After
put_at span tag value fields words values =
    pick (ltb (field_place span tag words) span.to)
    (changed_at (one_row (field_place span tag words) span.count) (field_row tag value) 1 value true fields words values)
    (changed_at (run_last (run_place span tag words) (run_stop span tag words) span) (field_row tag value) 1 value true (fields + 1) words values)

-- the number of fields that a change is judged by: no row stores more than one, so of few rows none is counted
unfoldable pub counted_fields : List ℕ → ℕ → ℕ
counted_fields words count = pick (ltb count 1024) 0 (fields_in 1 (rows_from (count - 0) 0 words))

pub record Ready (words values : List ℕ) (span : Span) (tag : ℕ) (value : List ℕ) (fields : ℕ) : Type 0 where
  pub whole : length words ≡ message_words
  pub forwards : span.from ≤ span.to
  pub last : span.to ≤ span.count
  pub few : span.count ≤ message_rows
  pub small : length value ≤ 8192
  pub counted : fields < 8192
  pub replaces : field_place span tag words < span.to → Cuttable words values (one_row (field_place span tag words) span.count) (field_row tag value) 1 fields
  pub appends : span.to ≤ field_place span tag words → Cuttable words values (run_last (run_place span tag words) (run_stop span tag words) span) (field_row tag value) 1 (fields + 1)
