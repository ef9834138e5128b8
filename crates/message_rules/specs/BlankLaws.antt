-- Zeros behind a message: where words and values are the layout of the message that they hold, nothing else stands behind it.
use Rattle.std.specs.Prelude.{◌≡◌, refl, Bool, true, false, List, [], ◌∷◌, ◌++◌, ℕ, ◌+◌, ◌-◌, ◌*◌, length, drop, replicate}
use Rattle.std.proofs.Common.{sym, ap, ◌∙◌, arith, drop_at}
use Rattle.std.proofs.Math.Nat.{sub-zero}
use Rattle.message_maps.specs.Map.{Map, values_in}
use Rattle.message_maps.specs.Rows.{laid, flat, padded, rows_from, sizes, message_words}
use Rattle.message_lent_rules.specs.Lent.{row_count, rows_of, is_message}
use Rattle.message_lent_rules.specs.LaidLaws.{sizes-laid}
use Rattle.message_lent_rules.specs.LentLaws.{message-held}
use Rattle.message_lent_rules.specs.Meaning.{Message, parts, words_of, value_bytes_of, message_in}
use Rattle.message_lent_rules.proofs.MeaningLaws.{means, flat-length}
use Rattle.message_rules.specs.RowChanges.{place_of, span_of, BlankFrom, Blank}
use Rattle.message_rules.specs.PlaceLaws.{PartsAt, parts_at}
use Rattle.message_rules.specs.declared.Part.{Part}
use Rattle.message_rules.specs.declared.Part.TheVariants.{Header, Body, Trailer}

-- where zeros aren't known to stand behind, nothing is claimed
pub not_blank : (count : ℕ) (words values : List ℕ) → BlankFrom false count words values
unfolding BlankFrom
not_blank count words values e = let z : ◌≡◌ {A = ℕ} 0 1 = cc in absurd (omega arith)

pub never_blank : (words values : List ℕ) → Blank false words values
unfolding Blank
never_blank words values e = let z : ◌≡◌ {A = ℕ} 0 1 = cc in absurd (omega arith)

-- what is left by a change is a layout with zeros behind it
pub left-blank : (b : Bool) (words values : List ℕ) (m : Message) → message_in words values ≡ m → words ≡ words_of m → values ≡ value_bytes_of m → Blank b words values
unfolding Blank
left-blank b words values m same w v e = rw same (w, v)

span_count : (part : Part) (m : Message) → (span_of part m).count ≡ length (laid 0 (parts m))
unfolding span_of
span_count Header m = refl
span_count Body m = refl
span_count Trailer m = refl

behind : (limit : ℕ) (used : List ℕ) (n : ℕ) → length used ≡ n → drop n (padded limit used) ≡ replicate (limit - n) 0
unfolding padded
behind limit used n e = drop_at used _ n e ∙ rw e

place-all : (words : List ℕ) (map : Map) → rows_of words ≡ laid 0 map → place_of words (row_count words) ≡ length (values_in map)
unfolding place_of rows_of
place-all words map e = ap sizes e ∙ sizes-laid 0 map

pub blank-behind : (b : Bool) (words values : List ℕ) (part : Part) → is_message words values ≡ true → Blank b words values → BlankFrom b (span_of part (message_in words values)).count words values
unfolding Blank BlankFrom words_of value_bytes_of
blank-behind b words values part lent blank e =
    let m = message_in words values in
    let same = means words values (message-held words values lent) in
    let count = (parts_at words m same.rows).count in
    let n : ℕ = length (laid 0 (parts m)) in
    let place = ap (place_of words) (sym count) ∙ place-all words (parts m) same.rows in
    let long : length (n ∷ flat (laid 0 (parts m))) ≡ 4 * n + 1 = omega (arith, flat-length (laid 0 (parts m))) in
    rw (span_count part m, place) (
      ap (drop (4 * n + 1)) (blank e).0 ∙ behind message_words (n ∷ flat (laid 0 (parts m))) (4 * n + 1) long,
      ap (drop (length (values_in (parts m)))) (blank e).1 ∙ behind 8192 (values_in (parts m)) (length (values_in (parts m))) refl,
    )
