-- Texts that are no messages of the standard, refused for their tags: a tag twice, a tag in another's place, a count that is not the number
-- of entries, a part of the message within another. Each has the right BodyLength and CheckSum. In quotation marks: a row of the table
-- "From the standard" of docs/DIFFERENCES.md.
use Rattle.std.specs.Prelude.{◌≡◌, refl, Bool, true, false, List, [], ◌∷◌, ◌++◌, ℕ, ◌<◌}
use Rattle.std.proofs.Common.{ap, subst, inl, inr, arith}
use Prim.Native.String.{String}
use Rattle.field_rules.specs.Choice.{pick}
use Rattle.field_rules.specs.Text.{bytes}
use Rattle.standard_rules.specs.Standard.{All, worth_after, Told, told, Distinct, placed, Message}
use Rattle.standard_rules.specs.Reading.{just, walk, step, goes, end, by_length, others, others_are}
use Rattle.standard_rules.proofs.StandardLaws.{tags, times, Followed, followed, stand, OpensNone, distinct_behind, all_once, one_of, placed-refused, Later, header-first, trailer-last, once_at_most, counted, counted-at_most}
use Rattle.standard_rules.proofs.Samples.{delimiter_of, header_tags, trailer_tags, Sample, lookup, no_member, only_allocations, never, apart, framed}

-- ===== a tag twice =====

-- the dealer's repeat: 38 stands twice, and no tag is a count
abbrev pub repeat : String
repeat = "8=F|9=22|35=D|38=1|58=x|38=800|10=191|"

repeat-fields : (m : Message Sample (bytes repeat)) → others m ≡ told 38 (bytes "1") ∷ told 58 (bytes "x") ∷ told 38 (bytes "800") ∷ []
unfolding walk step goes end by_length
repeat-fields m = others_are lookup m

pub repeat-refused : Message Sample (bytes repeat) → ⊥
repeat-refused m =
    let tags-are : tags (others m) ≡ 38 ∷ 58 ∷ 38 ∷ [] = ap tags (repeat-fields m) in
    let no-counts : All (OpensNone Sample) (tags (others m)) =
    rw tags-are (All.also (λ d. never refl) (All.also (λ d. never refl) (All.also (λ d. never refl) All.none))) in
    twice (subst Distinct tags-are (distinct_behind placed _ (all_once m no-counts).distinct))
  where
    twice : Distinct (38 ∷ 58 ∷ 38 ∷ []) → ⊥
    twice (Distinct.fresh (All.also _ (All.also n _)) _) = n refl

-- "D with `38=1|38=2|`": fields don't repeat
abbrev pub repeat-at_once : String
repeat-at_once = "8=F|9=15|35=D|38=1|38=2|10=056|"

repeat-at_once_fields : (m : Message Sample (bytes repeat-at_once)) → others m ≡ told 38 (bytes "1") ∷ told 38 (bytes "2") ∷ []
unfolding walk step goes end by_length
repeat-at_once_fields m = others_are lookup m

pub repeat-at_once_refused : Message Sample (bytes repeat-at_once) → ⊥
repeat-at_once_refused m = omega (arith, ap (λ (fs : List Told). times 38 (tags fs)) (repeat-at_once_fields m), once_at_most m 38 (no_member 38 refl refl refl))

-- the repeat behind an entry: 38 is in no group's entries
abbrev pub repeat-behind : String
repeat-behind = "8=F|9=32|35=D|78=1|79=A|38=1|58=x|38=800|10=141|"

repeat-behind-fields : (m : Message Sample (bytes repeat-behind))
    → others m ≡ told 78 (bytes "1") ∷ told 79 (bytes "A") ∷ told 38 (bytes "1") ∷ told 58 (bytes "x") ∷ told 38 (bytes "800") ∷ []
unfolding walk step goes end by_length
repeat-behind-fields m = others_are lookup m

pub repeat-behind-refused : Message Sample (bytes repeat-behind) → ⊥
repeat-behind-refused m = omega (arith, ap (λ (fs : List Told). times 38 (tags fs)) (repeat-behind-fields m), once_at_most m 38 (no_member 38 refl refl refl))

-- "D with `78=1|79=A|80=5|58=x|78=1|79=B|80=6|`": a group stands once, for 78 is in no group's entries either
abbrev pub group_again : String
group_again = "8=F|9=40|35=D|78=1|79=A|80=5|58=x|78=1|79=B|80=6|10=246|"

group_again_fields : (m : Message Sample (bytes group_again))
    → others m ≡ told 78 (bytes "1") ∷ told 79 (bytes "A") ∷ told 80 (bytes "5") ∷ told 58 (bytes "x")
    ∷ told 78 (bytes "1") ∷ told 79 (bytes "B") ∷ told 80 (bytes "6") ∷ []
unfolding walk step goes end by_length
group_again_fields m = others_are lookup m

pub group_again_refused : Message Sample (bytes group_again) → ⊥
group_again_refused m = omega (arith, ap (λ (fs : List Told). times 78 (tags fs)) (group_again_fields m), once_at_most m 78 (no_member 78 refl refl refl))

-- ===== BodyLength, MsgType and CheckSum have places of their own =====

-- "`0` with `9=7|` after 35": fields don't repeat
abbrev pub length_again : String
length_again = "8=F|9=9|35=0|9=7|10=240|"

length_again_fields : (m : Message Sample (bytes length_again)) → others m ≡ told 9 (bytes "7") ∷ []
unfolding walk step goes end by_length
length_again_fields m = others_are lookup m

pub length_again_refused : Message Sample (bytes length_again) → ⊥
length_again_refused m = placed-refused m 9 (length_again_fields m) refl refl

-- "`0` with `35=x|35=0|`": the same
abbrev pub type_again : String
type_again = "8=F|9=10|35=x|35=0|10=136|"

type_again_fields : (m : Message Sample (bytes type_again)) → others m ≡ told 35 (bytes "0") ∷ []
unfolding walk step goes end by_length
type_again_fields m = others_are lookup m

pub type_again_refused : Message Sample (bytes type_again) → ⊥
type_again_refused m = placed-refused m 35 (type_again_fields m) refl refl

-- a 10 before the CheckSum: CheckSum is the last field
abbrev pub sum_again : String
sum_again = "8=F|9=10|35=0|10=1|10=058|"

sum_again_fields : (m : Message Sample (bytes sum_again)) → others m ≡ told 10 (bytes "1") ∷ []
unfolding walk step goes end by_length
sum_again_fields m = others_are lookup m

pub sum_again_refused : Message Sample (bytes sum_again) → ⊥
sum_again_refused m = placed-refused m 10 (sum_again_fields m) refl refl

-- "`0` with `10=|x` before the CheckSum": the same, and what follows is no field
abbrev pub sum-early : String
sum-early = "8=F|9=10|35=0|10=|x10=129|"

sum-early-fields : (m : Message Sample (bytes sum-early)) → others m ≡ told 10 (bytes "") ∷ []
unfolding walk step goes end by_length
sum-early-fields m = others_are lookup m

pub sum-early-refused : Message Sample (bytes sum-early) → ⊥
sum-early-refused m = placed-refused m 10 (sum-early-fields m) refl refl

-- a 10 inside an entry
abbrev pub sum_in_entry : String
sum_in_entry = "8=F|9=20|35=0|78=1|79=A|10=x|10=079|"

sum_in_entry-fields : (m : Message Sample (bytes sum_in_entry)) → others m ≡ told 78 (bytes "1") ∷ told 79 (bytes "A") ∷ told 10 (bytes "x") ∷ []
unfolding walk step goes end by_length
sum_in_entry-fields m = others_are lookup m

pub sum_in_entry-refused : Message Sample (bytes sum_in_entry) → ⊥
sum_in_entry-refused m = placed-refused m 10 (sum_in_entry-fields m) refl refl

-- and between an entry's fields
abbrev pub inner : String
inner = "8=F|9=27|35=D|78=1|79=A|10=001|80=5|10=094|"

inner-fields : (m : Message Sample (bytes inner))
    → others m ≡ told 78 (bytes "1") ∷ told 79 (bytes "A") ∷ told 10 (bytes "001") ∷ told 80 (bytes "5") ∷ []
unfolding walk step goes end by_length
inner-fields m = others_are lookup m

pub inner-refused : Message Sample (bytes inner) → ⊥
inner-refused m = placed-refused m 10 (inner-fields m) refl refl

-- ===== a count is the number of entries, and entries start with the delimiter =====

-- 78 counts none
abbrev pub none-counted : String
none-counted = "8=F|9=15|35=D|78=0|58=x|10=131|"

none-counted_fields : (m : Message Sample (bytes none-counted)) → others m ≡ told 78 (bytes "0") ∷ told 58 (bytes "x") ∷ []
unfolding walk step goes end by_length
none-counted_fields m = others_are lookup m

pub none-counted-refused : Message Sample (bytes none-counted) → ⊥
none-counted-refused m = first (subst (Followed Sample) (none-counted_fields m) (followed (stand m)))
  where
    first : Followed Sample (told 78 (bytes "0") ∷ told 58 (bytes "x") ∷ []) → ⊥
    first (Followed.field x _) = x.no_delimiter 79 refl
    first (Followed.count _ o _ _) = omega (arith, o)

-- a count tag whose delimiter does not stand behind it so often
too_few : (c k n : ℕ) (v : List ℕ) (fs : List Told) → delimiter_of c ≡ just k → worth_after 0 v ≡ n → times k (tags fs) < n → Followed Sample (told c v ∷ fs) → ⊥
too_few c k n v fs e w l (Followed.field x _) = x.no_delimiter k e
too_few c k n v fs e w l (Followed.count {d = d} g _ le _) =
    let same : k ≡ d = cc in
    absurd (omega (arith, ap (λ (x : ℕ). times x (tags fs)) same))

-- "D with `78=2|79=A|80=5|`": the count is the number of entries
abbrev pub counts-two : String
counts-two = "8=F|9=20|35=D|78=2|79=A|80=5|10=040|"

counts-two-fields : (m : Message Sample (bytes counts-two)) → others m ≡ told 78 (bytes "2") ∷ told 79 (bytes "A") ∷ told 80 (bytes "5") ∷ []
unfolding walk step goes end by_length
counts-two-fields m = others_are lookup m

pub counts-two-refused : Message Sample (bytes counts-two) → ⊥
counts-two-refused m =
    too_few 78 79 2 (bytes "2") (told 79 (bytes "A") ∷ told 80 (bytes "5") ∷ []) refl refl (omega arith)
    (subst (Followed Sample) (counts-two-fields m) (followed (stand m)))

-- 78 counts five entries, and one stands there
abbrev pub short : String
short = "8=F|9=15|35=D|78=5|79=A|10=084|"

short-fields : (m : Message Sample (bytes short)) → others m ≡ told 78 (bytes "5") ∷ told 79 (bytes "A") ∷ []
unfolding walk step goes end by_length
short-fields m = others_are lookup m

pub short-refused : Message Sample (bytes short) → ⊥
short-refused m =
    too_few 78 79 5 (bytes "5") (told 79 (bytes "A") ∷ []) refl refl (omega arith)
    (subst (Followed Sample) (short-fields m) (followed (stand m)))

-- an entry that does not start with the delimiter
abbrev pub unstarted : String
unstarted = "8=F|9=25|35=D|78=2|79=A|80=1|80=2|10=001|"

unstarted-fields : (m : Message Sample (bytes unstarted))
    → others m ≡ told 78 (bytes "2") ∷ told 79 (bytes "A") ∷ told 80 (bytes "1") ∷ told 80 (bytes "2") ∷ []
unfolding walk step goes end by_length
unstarted-fields m = others_are lookup m

pub unstarted-refused : Message Sample (bytes unstarted) → ⊥
unstarted-refused m =
    too_few 78 79 2 (bytes "2") (told 79 (bytes "A") ∷ told 80 (bytes "1") ∷ told 80 (bytes "2") ∷ []) refl refl (omega arith)
    (subst (Followed Sample) (unstarted-fields m) (followed (stand m)))

-- the same the other way round: 78 counts one entry, and two stand there
abbrev pub counts-one : String
counts-one = "8=F|9=30|35=D|78=1|79=A|80=5|79=B|80=6|10=244|"

counts-one-fields : (m : Message Sample (bytes counts-one))
    → others m ≡ told 78 (bytes "1") ∷ told 79 (bytes "A") ∷ told 80 (bytes "5") ∷ told 79 (bytes "B") ∷ told 80 (bytes "6") ∷ []
unfolding walk step goes end by_length
counts-one-fields m = others_are lookup m

pub counts-one-refused : Message Sample (bytes counts-one) → ⊥
counts-one-refused m =
    let fs = counts-one-fields m in
    omega (
      arith,
      ap (λ (fs : List Told). times 79 (tags fs)) fs,
      ap (counted 78) fs,
      counted-at_most m 78 79 (only_allocations 79 refl refl) (λ o. apart o refl),
    )

-- a tag twice in an entry
abbrev pub entry-repeat : String
entry-repeat = "8=F|9=25|35=D|78=1|79=A|80=1|80=2|10=000|"

entry-repeat-fields : (m : Message Sample (bytes entry-repeat))
    → others m ≡ told 78 (bytes "1") ∷ told 79 (bytes "A") ∷ told 80 (bytes "1") ∷ told 80 (bytes "2") ∷ []
unfolding walk step goes end by_length
entry-repeat-fields m = others_are lookup m

pub entry-repeat-refused : Message Sample (bytes entry-repeat) → ⊥
entry-repeat-refused m =
    let fs = entry-repeat-fields m in
    omega (
      arith,
      ap (λ (fs : List Told). times 80 (tags fs)) fs,
      ap (counted 78) fs,
      counted-at_most m 78 80 (only_allocations 80 refl refl) (λ o. apart o refl),
    )

-- ===== header, body, trailer =====

sequence_number : Later Sample 34 → ⊥
sequence_number (inl b) = b.no_header refl
sequence_number (inr e) = apart refl e

-- a header tag behind a body tag
abbrev pub late : String
late = "8=F|9=15|35=D|58=x|34=2|10=125|"

late-fields : (m : Message Sample (bytes late)) → others m ≡ told 58 (bytes "x") ∷ told 34 (bytes "2") ∷ []
unfolding walk step goes end by_length
late-fields m = others_are lookup m

pub late-refused : Message Sample (bytes late) → ⊥
late-refused m = second (header-first m [] (told 58 (bytes "x")) (told 34 (bytes "2") ∷ []) (late-fields m) (λ h. apart refl h))
  where
    second : All (Later Sample) (58 ∷ 34 ∷ []) → ⊥
    second (All.also _ (All.also l _)) = sequence_number l

-- a header tag inside an entry
abbrev pub header_in_entry : String
header_in_entry = "8=F|9=20|35=D|78=1|79=A|34=2|10=035|"

header_in_entry-fields : (m : Message Sample (bytes header_in_entry)) → others m ≡ told 78 (bytes "1") ∷ told 79 (bytes "A") ∷ told 34 (bytes "2") ∷ []
unfolding walk step goes end by_length
header_in_entry-fields m = others_are lookup m

pub header_in_entry-refused : Message Sample (bytes header_in_entry) → ⊥
header_in_entry-refused m =
    third (header-first m [] (told 78 (bytes "1")) (told 79 (bytes "A") ∷ told 34 (bytes "2") ∷ []) (header_in_entry-fields m) (λ h. apart refl h))
  where
    third : All (Later Sample) (78 ∷ 79 ∷ 34 ∷ []) → ⊥
    third (All.also _ (All.also _ (All.also l _))) = sequence_number l

-- from a field of the trailer on, one is none of it
abbrev trailing : List ℕ → Bool
trailing [] = true
trailing (t ∷ ts) = pick (one_of trailer_tags t) (trailing ts) false

all-trailing : (ts : List ℕ) → All Sample.Trailer ts → trailing ts ≡ true
all-trailing [] All.none = refl
all-trailing (t ∷ ts) (All.also e a) = rw e (all-trailing ts a)

trailer-refused : {text : List ℕ} (m : Message Sample text) (es : List Told) (f : Told) (fs : List Told)
    → others m ≡ es ++ (f ∷ fs) → one_of header_tags f.tag ≡ false → one_of trailer_tags f.tag ≡ true → trailing (tags (f ∷ fs)) ≡ false → ⊥
trailer-refused m es f fs e h t n = apart n (all-trailing _ (trailer-last m es f fs e (λ k. apart h k) (λ b. b.no_trailer t)))

-- a trailer tag before a body tag
abbrev pub early : String
early = "8=F|9=20|35=D|93=1|89=s|58=x|10=159|"

early-fields : (m : Message Sample (bytes early)) → others m ≡ told 93 (bytes "1") ∷ told 89 (bytes "s") ∷ told 58 (bytes "x") ∷ []
unfolding walk step goes end by_length
early-fields m = others_are lookup m

pub early-refused : Message Sample (bytes early) → ⊥
early-refused m = trailer-refused m [] (told 93 (bytes "1")) (told 89 (bytes "s") ∷ told 58 (bytes "x") ∷ []) (early-fields m) refl refl refl

-- trailer tags in the middle of the body
abbrev pub middle : String
middle = "8=F|9=25|35=D|58=x|93=1|89=s|38=1|10=126|"

middle-fields : (m : Message Sample (bytes middle))
    → others m ≡ told 58 (bytes "x") ∷ told 93 (bytes "1") ∷ told 89 (bytes "s") ∷ told 38 (bytes "1") ∷ []
unfolding walk step goes end by_length
middle-fields m = others_are lookup m

pub middle-refused : Message Sample (bytes middle) → ⊥
middle-refused m = trailer-refused m (told 58 (bytes "x") ∷ []) (told 93 (bytes "1")) (told 89 (bytes "s") ∷ told 38 (bytes "1") ∷ []) (middle-fields m) refl refl refl

-- a body tag behind the trailer
abbrev pub behind-trailer : String
behind-trailer = "8=F|9=20|35=D|93=1|89=s|38=1|10=086|"

behind-trailer_fields : (m : Message Sample (bytes behind-trailer)) → others m ≡ told 93 (bytes "1") ∷ told 89 (bytes "s") ∷ told 38 (bytes "1") ∷ []
unfolding walk step goes end by_length
behind-trailer_fields m = others_are lookup m

pub behind-trailer-refused : Message Sample (bytes behind-trailer) → ⊥
behind-trailer-refused m = trailer-refused m [] (told 93 (bytes "1")) (told 89 (bytes "s") ∷ told 38 (bytes "1") ∷ []) (behind-trailer_fields m) refl refl refl

-- "`0` with `93=|38=|`": 38 is no trailer field; the values are empty besides
abbrev pub no_trailer : String
no_trailer = "8=F|9=13|35=0|93=|38=|10=192|"

no_trailer_fields : (m : Message Sample (bytes no_trailer)) → others m ≡ told 93 (bytes "") ∷ told 38 (bytes "") ∷ []
unfolding walk step goes end by_length
no_trailer_fields m = others_are lookup m

pub no_trailer-refused : Message Sample (bytes no_trailer) → ⊥
no_trailer-refused m = trailer-refused m [] (told 93 (bytes "")) (told 38 (bytes "") ∷ []) (no_trailer_fields m) refl refl refl

-- ===== and not for their frame =====

all-framed : framed
    (repeat ∷ repeat-at_once ∷ repeat-behind ∷ group_again ∷ length_again ∷ type_again ∷ sum_again ∷ sum-early ∷ sum_in_entry ∷ inner ∷ none-counted
    ∷ counts-two ∷ short ∷ unstarted ∷ counts-one ∷ entry-repeat ∷ late ∷ header_in_entry ∷ early ∷ middle ∷ behind-trailer ∷ no_trailer ∷ []) ≡ true
all-framed = refl
