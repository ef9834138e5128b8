-- The stages of `verdict_of` over lists: `8=`, the BeginString, `9=`, the announced length, and what follows it.
use mathlib.Core.Path.{◌≡◌, refl, sym, ap, ◌∙◌}
use mathlib.Core.Logic.{◌⊎◌}
use mathlib.Core.List.{List, [], ◌∷◌, ◌++◌, append_assoc}
use Prim.Native.Nat.{ℕ, ◌+◌, ◌-◌, ◌≤◌}
use native.Mathlib.Omega.{arith}
use lib.ListN.{length, take, drop, length-append}
use Rattle.field_rules.specs.Number.{worth}
use Rattle.frame_verdict_rules.specs.Frame.{separator, begin_tag, length_tag, frame_most, IsBeginString, lead}
use Rattle.frame_verdict_rules.specs.Readers.{Out, bad, short, Reader, ◌>>=◌, literal, begin_string, body_length}
use Rattle.frame_verdict_rules.specs.Verdict.{framing, body_reader, frame_reader, stage_of, length_of, as_verdict, verdict_of}
use Rattle.frame_verdict_rules.specs.Texts.{Ended, begin_exact, begin-short}
use Rattle.frame_verdict_rules.specs.Lengths.{Fitting, length_exact}
use Rattle.frame_verdict_rules.proofs.FrameExact.{can_fit}
use Rattle.frame_verdict_rules.specs.declared.Stage.{Stage}
use Rattle.frame_verdict_rules.specs.declared.Stage.TheVariants.{On, Bad, Short}
use Rattle.frame_verdict_rules.specs.declared.Length.TheVariants.{Announced, BadLength, ShortLength}
use Rattle.frame_verdict_rules.specs.declared.Verdict.{Verdict}
use Rattle.frame_verdict_rules.specs.declared.Verdict.TheVariants.{Never, Wait}
use Rattle.frame_verdict.proofs.Places.{Reached, stands, literal-on, read-on, refuses, Counted, length-on, length-bad, length-short}

abbrev room_after : List ℕ → ℕ
room_after begin = frame_most - (framing + length begin)

abbrev after_number : List ℕ → Reader (Unit {0})
after_number begin = body_length 5 (room_after begin) 0 >>= (λ digits. body_reader (lead begin digits) (worth 0 digits))

abbrev after_begin : List ℕ → Reader (Unit {0})
after_begin begin = literal length_tag >>= (λ e. after_number begin)

abbrev pub after_open : Reader (Unit {0})
after_open = begin_string >>= after_begin

abbrev begin_read : List ℕ → List ℕ
begin_read begin = begin_tag ++ (begin ++ (separator ∷ []))

spell_lead : (begin digits : List ℕ) → (begin_read begin ++ length_tag) ++ (digits ++ (separator ∷ [])) ≡ lead begin digits
spell_lead begin digits = simp append_assoc

lead-length : (begin digits : List ℕ) → length (lead begin digits) ≡ 6 + length begin + length digits
lead-length begin digits = simp length-append (omega arith)

module _ (s : List ℕ) where
  abbrev pub whole : Out (Unit {0})
  whole = frame_reader s

  start : Reached whole s (literal begin_tag >>= (λ e. after_open)) [] 0
  unfolding frame_reader
  start = record { goes_on = refl; so_far = refl; inside = omega arith }

  pub open_refused : (k : Stage) → k ≡ stage_of s (literal begin_tag s) → (k ≡ Bad) ⊎ (k ≡ Short) → k ≡ stage_of s whole
  open_refused = refuses whole s _ _ [] 0 start

  -- ---- after `8=`
  pub open_read : (at : ℕ) → On at ≡ stage_of s (literal begin_tag s) → Reached whole s after_open begin_tag at
  open_read at k = literal-on whole s begin_tag (λ e. after_open) [] 0 start at k

  pub begin-refused : (at : ℕ) → Reached whole s after_open begin_tag at → (k : Stage) → k ≡ stage_of s (begin_string (drop at s)) → (k ≡ Bad) ⊎ (k ≡ Short) → k ≡ stage_of s whole
  begin-refused at r = refuses whole s _ _ _ at r

  -- ---- after the BeginString
  pub record Begun (at : ℕ) : Type 0 where
    pub begin : List ℕ
    pub is_begin : IsBeginString begin
    pub reached : Reached whole s (after_begin begin) (begin_read begin) at

  pub begin_read_lem : (at e : ℕ) → Reached whole s after_open begin_tag at → On e ≡ stage_of s (begin_string (drop at s)) → Begun e
  begin_read_lem at e r k =
      let d = read-on whole s begin_string after_begin begin_tag at r (Ended IsBeginString) begin_exact e k in
      record { begin = d.value; is_begin = d.is_word.1; reached = rw d.is_word.0 at d.reached }

  pub number-refused : (at : ℕ) (b : Begun at) (k : Stage) → k ≡ stage_of s (literal length_tag (drop at s)) → (k ≡ Bad) ⊎ (k ≡ Short) → k ≡ stage_of s whole
  number-refused at b = refuses whole s _ _ _ at b.reached

  -- ---- after `9=`
  pub record Numbered (at : ℕ) : Type 0 where
    pub begin : List ℕ
    pub is_begin : IsBeginString begin
    pub reached : Reached whole s (after_number begin) (begin_read begin ++ length_tag) at
    pub place : at ≡ 5 + length begin
    pub room : 8184 - at ≡ room_after begin
    pub wide : (1005 ≤ 8184 - at) × (at ≤ 8184)

  pub number_read : (at e : ℕ) → Begun at → On e ≡ stage_of s (literal length_tag (drop at s)) → Numbered e
  number_read at e b k =
      let r : Reached whole s (after_number b.begin) (begin_read b.begin ++ length_tag) e = literal-on whole s length_tag (λ e. after_number b.begin) _ at b.reached e k in
      let p : e ≡ 5 + length b.begin = stands whole s _ _ e r ∙ simp length-append (omega arith) in
      record { begin = b.begin; is_begin = b.is_begin; reached = r; place = p; room = omega (arith, begin-short b.is_begin); wide = (omega (arith, begin-short b.is_begin), omega (arith, begin-short b.is_begin)) }

  -- ---- after the announced length
  pub record Body (n at : ℕ) : Type 0 where
    pub inside : at ≤ length s
    pub early : at ≤ 8192
    pub least : 4 ≤ n
    pub most : n ≤ 8192
    pub goes_on : whole ≡ body_reader (take at s) n (drop at s)

  module _ (at : ℕ) (i : Numbered at) where
    counted : (n e : ℕ) → Counted whole s (room_after i.begin) (λ digits. body_reader (lead i.begin digits) (worth 0 digits)) (begin_read i.begin ++ length_tag) at i.reached (Ended (Fitting 5 (room_after i.begin) 0)) n e → Body n e
    counted n e d =
        let w : (begin_read i.begin ++ length_tag) ++ d.word ≡ lead i.begin d.digits = ap (λ (x : List ℕ). (begin_read i.begin ++ length_tag) ++ x) d.is_word.0 ∙ spell_lead i.begin d.digits in
        let t : take e s ≡ lead i.begin d.digits = d.reached.so_far ∙ w in
        let l : e ≡ 6 + length i.begin + length d.digits = stands whole s _ _ e d.reached ∙ ap length w ∙ lead-length i.begin d.digits in
        record {
          inside = d.reached.inside;
          early = omega (arith, l, d.is_word.1.few, begin-short i.is_begin);
          least = omega (arith, d.counts, d.is_word.1.least);
          most = omega (arith, d.counts, d.is_word.1.fits);
          goes_on = d.reached.goes_on ∙ cc (t, d.counts);
        }

    pub length-read : (n e : ℕ) → Announced n e ≡ length_of 0 s (body_length 5 (8184 - at) 0 (drop at s)) → Body n e
    length-read n e k =
        counted n e (length-on whole s (room_after i.begin) _ _ at i.reached (Ended (Fitting 5 (room_after i.begin) 0)) (length_exact 5 (room_after i.begin) 0 (can_fit i.begin i.is_begin)) n e (rw i.room at k))

    pub length-refused : BadLength ≡ length_of 0 s (body_length 5 (8184 - at) 0 (drop at s)) → Never ≡ verdict_of s
    unfolding verdict_of as_verdict stage_of
    length-refused k = let z : whole ≡ bad = length-bad whole s _ _ _ at i.reached (rw i.room at k) in rw z

    pub length_waits : ShortLength ≡ length_of 0 s (body_length 5 (8184 - at) 0 (drop at s)) → Wait ≡ verdict_of s
    unfolding verdict_of as_verdict stage_of
    length_waits k = let z : whole ≡ short = length-short whole s _ _ _ at i.reached (rw i.room at k) in rw z

  -- ---- the answers
  pub as_whole : (r : Verdict) (k : Stage) → r ≡ as_verdict k → k ≡ stage_of s whole → r ≡ verdict_of s
  unfolding verdict_of
  as_whole r k e m = e ∙ ap as_verdict m

  pub as_body : (n at : ℕ) (r : Verdict) → Body n at → r ≡ as_verdict (stage_of s (body_reader (take at s) n (drop at s))) → r ≡ verdict_of s
  unfolding verdict_of
  as_body n at r b e = e ∙ ap (λ (o : Out (Unit {0})). as_verdict (stage_of s o)) (sym b.goes_on)
