-- The frame's reader is exact: it reads frames, and only frames.
use Rattle.std.specs.Prelude.{◌≡◌, refl, true, List, [], ◌∷◌, ◌++◌, ℕ, ◌+◌, ◌-◌, ◌/◌, ◌%◌, ◌≤◌, ◌<◌, length}
use Rattle.std.proofs.Common.{sym, ap, ◌∙◌, append_assoc, arith, length-append, le-leb}
use Rattle.field_rules.specs.Number.{is_digit, all_digits, worth}
use Rattle.field_rules.specs.CheckSum.{sum_of, checksum_digits}
use Rattle.frame_verdict_rules.specs.Frame.{separator, begin_tag, length_tag, type_tag, sum_tag, frame_most, All, all_none, all_more, Byte, IsBeginString, lead, IsFrame}
use Rattle.frame_verdict_rules.specs.Readers.{may_become}
use Rattle.frame_verdict_rules.specs.Verdict.{framing, checksum_for, body_reader, frame_reader}
use Rattle.frame_verdict_rules.specs.Exact.{Exact, Then, then_exact, exact_same}
use Rattle.frame_verdict_rules.specs.Literals.{Literal, literal_exact, small_bytes, Any, any_exact}
use Rattle.frame_verdict_rules.specs.Texts.{Ended, begin_exact, begin-short}
use Rattle.frame_verdict_rules.specs.Lengths.{Fitting, CanFit, length_exact, digit_range, digits_head, digits_tail, digits_more}

-- ---- three digits

is_digit_lem : (x : ℕ) → 48 ≤ x → x ≤ 57 → is_digit x ≡ true
unfolding is_digit
is_digit_lem x h k = rw (le-leb 48 x h, le-leb x 57 k)

three_worth : (c : ℕ) → c < 256 → worth 0 (checksum_digits c) ≡ c
unfolding worth checksum_digits
three_worth c h = omega arith

no_digit_wrong : all_digits [] ≡ true
unfolding all_digits
no_digit_wrong = refl

three_digits_lem : (c : ℕ) → c < 256 → all_digits (checksum_digits c) ≡ true
unfolding checksum_digits
three_digits_lem c h =
    digits_more (48 + c / 100) _ (is_digit_lem _ (omega arith) (omega arith))
    (digits_more (48 + c / 10 % 10) _ (is_digit_lem _ (omega arith) (omega arith)) (digits_more (48 + c % 10) _ (is_digit_lem _ (omega arith) (omega arith)) no_digit_wrong))

three_size : (c : ℕ) → length (checksum_digits c) ≡ 3
unfolding checksum_digits
three_size c = refl

three_bytes : (c : ℕ) → c < 256 → All Byte (checksum_digits c)
unfolding checksum_digits
three_bytes c h = all_more {x = 48 + c / 100} (omega arith) (all_more {x = 48 + c / 10 % 10} (omega arith) (all_more {x = 48 + c % 10} (omega arith) all_none))

-- three digits that are worth c are its digits
are_three : (s : List ℕ) (c : ℕ) → length s ≡ 3 → all_digits s ≡ true → worth 0 s ≡ c → s ≡ checksum_digits c
unfolding checksum_digits worth
are_three [] c l a v = absurd (omega arith)
are_three (x ∷ []) c l a v = absurd (omega arith)
are_three (x ∷ y ∷ []) c l a v = absurd (omega arith)
are_three (x ∷ y ∷ z ∷ []) c l a v =
    let dx = digit_range x (digits_head x (y ∷ z ∷ []) a) in
    let a₂ = digits_tail x (y ∷ z ∷ []) a in
    let dy = digit_range y (digits_head y (z ∷ []) a₂) in
    let dz = digit_range z (digits_head z [] (digits_tail y (z ∷ []) a₂)) in
    let ex : x ≡ 48 + c / 100 = omega arith in
    let ey : y ≡ 48 + c / 10 % 10 = omega arith in
    let ez : z ≡ 48 + c % 10 = omega arith in
    cc
are_three (x ∷ y ∷ z ∷ u ∷ s) c l a v = absurd (omega arith)

-- ---- the stages, from the last to the first

-- the N bytes by what stands between `35=` and their last separator
abbrev pub body_of : List ℕ → List ℕ
body_of middle = type_tag ++ (middle ++ (separator ∷ []))

abbrev AfterSum : Unit {0} → List ℕ → Type 0
AfterSum = Literal (separator ∷ [])

abbrev AfterTag : List ℕ → Unit {0} → List ℕ → Type 0
AfterTag s = Then (Literal (checksum_for s)) (λ (e : Unit {0}). AfterSum)

abbrev AfterBody : List ℕ → Unit {0} → List ℕ → Type 0
AfterBody s = Then (Literal sum_tag) (λ (e : Unit {0}). AfterTag s)

abbrev AfterMiddle : List ℕ → Unit {0} → List ℕ → Type 0
AfterMiddle s = Then (Literal (separator ∷ [])) (λ (e : Unit {0}). AfterBody s)

abbrev AfterType : List ℕ → ℕ → Unit {0} → List ℕ → Type 0
AfterType before n = Then (Any (n - 4)) (λ (middle : List ℕ). AfterMiddle (before ++ body_of middle))

-- what follows the digits' separator
abbrev pub BodyStages : List ℕ → ℕ → Unit {0} → List ℕ → Type 0
BodyStages before n = Then (Literal type_tag) (λ (e : Unit {0}). AfterType before n)

abbrev room_after : List ℕ → ℕ
room_after begin = frame_most - (framing + length begin)

abbrev AfterNumber : List ℕ → Unit {0} → List ℕ → Type 0
AfterNumber begin = Then (Ended (Fitting 5 (room_after begin) 0)) (λ (digits : List ℕ). BodyStages (lead begin digits) (worth 0 digits))

abbrev AfterBegin : List ℕ → Unit {0} → List ℕ → Type 0
AfterBegin begin = Then (Literal length_tag) (λ (e : Unit {0}). AfterNumber begin)

abbrev AfterOpen : Unit {0} → List ℕ → Type 0
AfterOpen = Then (Ended IsBeginString) (λ (begin : List ℕ). AfterBegin begin)

abbrev Stages : Unit {0} → List ℕ → Type 0
Stages = Then (Literal begin_tag) (λ (e : Unit {0}). AfterOpen)

pub sum-bytes : (s : List ℕ) → All Byte (checksum_for s)
unfolding checksum_for
sum-bytes s = three_bytes (sum_of s % 256) (omega arith)

pub body_exact : (before : List ℕ) (n : ℕ) → Exact (body_reader before n) (BodyStages before n)
unfolding body_reader
body_exact before n =
    then_exact _ _ _ _ (literal_exact type_tag (small_bytes type_tag tt)) (λ e₁ w₁ m₁.
    then_exact _ _ _ _ (any_exact (n - 4)) (λ middle w₂ m₂.
    then_exact _ _ _ _ (literal_exact (separator ∷ []) (small_bytes (separator ∷ []) tt)) (λ e₃ w₃ m₃.
    then_exact _ _ _ _ (literal_exact sum_tag (small_bytes sum_tag tt)) (λ e₄ w₄ m₄.
    then_exact _ _ _ _ (literal_exact (checksum_for (before ++ body_of middle)) (sum-bytes _)) (λ e₅ w₅ m₅.
    literal_exact (separator ∷ []) (small_bytes (separator ∷ []) tt))))))

-- at first any length can come about: the BeginString leaves room enough
pub can_fit : (begin : List ℕ) → IsBeginString begin → CanFit 5 (room_after begin) 0
unfolding may_become
can_fit begin b = record { may = refl; wide = omega (arith, begin-short b) }

stages_exact : Exact frame_reader Stages
unfolding frame_reader
stages_exact =
    then_exact _ _ _ _ (literal_exact begin_tag (small_bytes begin_tag tt)) (λ e₁ w₁ m₁.
    then_exact _ _ _ _ begin_exact (λ begin w₂ m₂.
    then_exact _ _ _ _ (literal_exact length_tag (small_bytes length_tag tt)) (λ e₂ w₃ m₃.
    then_exact _ _ _ _ (length_exact 5 (room_after begin) 0 (can_fit begin m₂.1)) (λ digits w₄ m₄.
    body_exact (lead begin digits) (worth 0 digits)))))

-- ---- a frame by its parts

-- the parts, joined
abbrev spelled : List ℕ → List ℕ → List ℕ → List ℕ
spelled begin digits middle = (lead begin digits ++ body_of middle) ++ (sum_tag ++ (checksum_for (lead begin digits ++ body_of middle) ++ (separator ∷ [])))

record Parts (begin digits middle w : List ℕ) : Type 0 where
  is_begin : IsBeginString begin
  is_length : Fitting 5 (room_after begin) 0 digits
  middle-size : length middle ≡ worth 0 digits - 4
  whole : w ≡ spelled begin digits middle

-- the stages' words one behind the other are the parts, joined
spell : (begin digits middle sum : List ℕ) → begin_tag ++ ((begin ++ (separator ∷ [])) ++ (length_tag ++ ((digits ++ (separator ∷ [])) ++ (type_tag ++ (middle ++ ((separator ∷ []) ++ (sum_tag ++ (sum ++ (separator ∷ []))))))))) ≡ (lead begin digits ++ body_of middle) ++ (sum_tag ++ (sum ++ (separator ∷ [])))
spell begin digits middle sum = simp append_assoc

-- the length of a frame by its parts
frame_length : (begin digits body sum : List ℕ) → length sum ≡ 3 → length ((lead begin digits ++ body) ++ (sum_tag ++ (sum ++ (separator ∷ [])))) ≡ framing + length begin + length digits + length body
frame_length begin digits body sum h = simp length-append (omega arith)

worth-of-none : worth 0 [] ≡ 0
unfolding worth
worth-of-none = refl

some_digits : (digits : List ℕ) → 4 ≤ worth 0 digits → 1 ≤ length digits
some_digits [] h = absurd (omega (arith, worth-of-none))
some_digits (d ∷ digits) h = omega arith

sum_is_three : (s : List ℕ) → length (checksum_for s) ≡ 3
unfolding checksum_for
sum_is_three s = three_size _

sum_is_digits : (s : List ℕ) → all_digits (checksum_for s) ≡ true
unfolding checksum_for
sum_is_digits s = three_digits_lem (sum_of s % 256) (omega arith)

sum_is-worth : (s : List ℕ) → worth 0 (checksum_for s) ≡ sum_of s % 256
unfolding checksum_for
sum_is-worth s = three_worth (sum_of s % 256) (omega arith)

sum_is_for : (sum s : List ℕ) → length sum ≡ 3 → all_digits sum ≡ true → worth 0 sum ≡ sum_of s % 256 → sum ≡ checksum_for s
unfolding checksum_for
sum_is_for sum s l d v = are_three sum _ l d v

parts_frame : (begin digits middle w : List ℕ) → Parts begin digits middle w → IsFrame w
parts_frame begin digits middle w k =
    let body : List ℕ = body_of middle in
    let all : List ℕ = lead begin digits ++ body in
    let n : worth 0 digits ≡ length body = omega (arith, length-append middle (separator ∷ []), k.middle-size, k.is_length.least) in
    let l : length w ≡ framing + length begin + length digits + length body = ap length k.whole ∙ frame_length begin digits body (checksum_for all) (sum_is_three all) in
    record {
      begin = begin;
      digits = digits;
      body = body;
      sum = checksum_for all;
      whole = k.whole;
      begins = k.is_begin;
      digits_least = some_digits digits k.is_length.least;
      digits_most = k.is_length.few;
      digits_are = k.is_length.digits;
      announced = n;
      body-starts = (middle ++ (separator ∷ []), refl);
      body-ends = (type_tag ++ middle, refl);
      sum-size = sum_is_three all;
      sum_digits = sum_is_digits all;
      sum_is_lem = sum_is-worth all;
      small = omega (arith, l, n, k.is_length.fits, begin-short k.is_begin);
    }

-- ---- a body that starts `35=` and ends with a separator

abbrev last_of : ℕ → List ℕ → ℕ
last_of d [] = d
last_of d (x ∷ xs) = last_of x xs

last_snoc : (d y : ℕ) (u : List ℕ) → last_of d (u ++ (y ∷ [])) ≡ y
last_snoc d y [] = refl
last_snoc d y (x ∷ u) = last_snoc x y u

front-last : (x : ℕ) (xs : List ℕ) → (m : List ℕ) × (x ∷ xs ≡ m ++ (last_of x xs ∷ []))
front-last x [] = ([], refl)
front-last x (y ∷ xs) = let i : (m : List ℕ) × (y ∷ xs ≡ m ++ (last_of y xs ∷ [])) = front-last y xs in (x ∷ i.0, ap (λ (l : List ℕ). x ∷ l) i.1)

-- the two ends of the N bytes do not overlap, as a separator is no byte of `35=`
body-middle : (body u v : List ℕ) → body ≡ type_tag ++ u → body ≡ v ++ (separator ∷ []) → (middle : List ℕ) × (body ≡ body_of middle)
body-middle body [] v p q = absurd (omega (arith, ap (last_of 0) (sym p ∙ q), last_snoc 0 separator v))
body-middle body (x ∷ u) v p q =
    let e : last_of x u ≡ separator = ap (last_of 0) (sym p ∙ q) ∙ last_snoc 0 separator v in
    let f : (m : List ℕ) × (x ∷ u ≡ m ++ (last_of x u ∷ [])) = front-last x u in
    (f.0, p ∙ ap (λ (l : List ℕ). type_tag ++ l) (f.1 ∙ ap (λ (y : ℕ). f.0 ++ (y ∷ [])) e))

frame_parts : (w : List ℕ) (f : IsFrame w) → (middle : List ℕ) × Parts f.begin f.digits middle w
frame_parts w f = go (body-middle f.body f.body-starts.0 f.body-ends.0 f.body-starts.1 f.body-ends.1)
  where
    go : (middle : List ℕ) × (f.body ≡ body_of middle) → (middle : List ℕ) × Parts f.begin f.digits middle w
    go m =
        let lb : length f.body ≡ 4 + length m.0 = ap length m.1 ∙ simp length-append (omega arith) in
        let lw : length w ≡ framing + length f.begin + length f.digits + length f.body = ap length f.whole ∙ frame_length f.begin f.digits f.body f.sum f.sum-size in
        let es : f.sum ≡ checksum_for (lead f.begin f.digits ++ f.body) = sum_is_for f.sum _ f.sum-size f.sum_digits f.sum_is_lem in
        let ew : w ≡ (lead f.begin f.digits ++ f.body) ++ (sum_tag ++ (checksum_for (lead f.begin f.digits ++ f.body) ++ (separator ∷ []))) = rw es at f.whole in (
          m.0,
          record {
            is_begin = f.begins;
            is_length = record { few = f.digits_most; digits = f.digits_are; least = omega (arith, f.announced, lb); fits = omega (arith, f.announced, f.small, lw, begin-short f.begins) };
            middle-size = omega (arith, f.announced, lb);
            whole = rw m.1 at ew;
          },
        )

-- ---- from the stages to the parts and back

stages_parts : (e : Unit {0}) (w : List ℕ) → Stages e w → IsFrame w
stages_parts e w k = go k.in_second
  where
    go : AfterOpen e k.v → IsFrame w
    go k₁ =
        let begin : List ℕ = k₁.first in
        let k₂ : AfterBegin begin e k₁.v = k₁.in_second in
        let k₃ : AfterNumber begin e k₂.v = k₂.in_second in
        let digits : List ℕ = k₃.first in
        let before : List ℕ = lead begin digits in
        let k₄ : BodyStages before (worth 0 digits) e k₃.v = k₃.in_second in
        let k₅ : AfterType before (worth 0 digits) e k₄.v = k₄.in_second in
        let middle : List ℕ = k₅.first in
        let k₆ : AfterMiddle (before ++ body_of middle) e k₅.v = k₅.in_second in
        let k₇ : AfterBody (before ++ body_of middle) e k₆.v = k₆.in_second in
        let k₈ : AfterTag (before ++ body_of middle) e k₇.v = k₇.in_second in
        let all : w ≡ begin_tag ++ ((begin ++ (separator ∷ [])) ++ (length_tag ++ ((digits ++ (separator ∷ [])) ++ (type_tag ++ (middle ++ ((separator ∷ []) ++ (sum_tag ++ (checksum_for (before ++ body_of middle) ++ (separator ∷ []))))))))) =
        cc (k.joins, k.in_first, k₁.joins, k₁.in_first.0, k₂.joins, k₂.in_first, k₃.joins, k₃.in_first.0, k₄.joins, k₄.in_first, k₅.joins, k₅.in_first.0, k₆.joins, k₆.in_first, k₇.joins, k₇.in_first, k₈.joins, k₈.in_first, k₈.in_second) in
        parts_frame begin digits middle w (record { is_begin = k₁.in_first.1; is_length = k₃.in_first.1; middle-size = k₅.in_first.1; whole = all ∙ spell begin digits middle (checksum_for (before ++ body_of middle)) })

parts_stages : (begin digits middle w : List ℕ) → Parts begin digits middle w → Stages tt w
parts_stages begin digits middle w k =
    let sum : List ℕ = checksum_for (lead begin digits ++ body_of middle) in
    record {
      first = tt;
      u = begin_tag;
      in_first = refl;
      v = _;
      joins = k.whole ∙ sym (spell begin digits middle sum);
      in_second = record {
        first = begin;
        u = begin ++ (separator ∷ []);
        in_first = (refl, k.is_begin);
        v = _;
        joins = refl;
        in_second = record {
          first = tt;
          u = length_tag;
          in_first = refl;
          v = _;
          joins = refl;
          in_second = record {
            first = digits;
            u = digits ++ (separator ∷ []);
            in_first = (refl, k.is_length);
            v = _;
            joins = refl;
            in_second = record {
              first = tt;
              u = type_tag;
              in_first = refl;
              v = _;
              joins = refl;
              in_second = record {
                first = middle;
                u = middle;
                in_first = (refl, k.middle-size);
                v = _;
                joins = refl;
                in_second = record {
                  first = tt;
                  u = separator ∷ [];
                  in_first = refl;
                  v = _;
                  joins = refl;
                  in_second = record {
                    first = tt;
                    u = sum_tag;
                    in_first = refl;
                    v = _;
                    joins = refl;
                    in_second = record { first = tt; u = sum; in_first = refl; v = separator ∷ []; joins = refl; in_second = refl };
                  };
                };
              };
            };
          };
        };
      };
    }

-- THE FRAME'S READER IS EXACT
pub frame_exact : Exact frame_reader (λ (e : Unit {0}) (w : List ℕ). IsFrame w)
frame_exact = exact_same frame_reader Stages _ stages_parts (λ e w f. let p = frame_parts w f in parts_stages _ _ p.0 w p.1) stages_exact

-- no frame is empty
pub frame_size : (w : List ℕ) → IsFrame w → framing ≤ length w
frame_size w f = omega (arith, ap length f.whole, frame_length f.begin f.digits f.body f.sum f.sum-size)
