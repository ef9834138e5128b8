-- The stages of `verdict_of_body` over lists: `35=`, the middle, the closing separator with `10=`, the three digits, the last separator.
use mathlib.Core.Path.{◌≡◌, refl, ◌∙◌}
use mathlib.Core.Logic.{◌⊎◌}
use mathlib.Core.List.{List, [], ◌∷◌, ◌++◌, append_assoc}
use Prim.Native.Nat.{ℕ, ◌+◌, ◌-◌, ◌≤◌, ◌<◌}
use native.Mathlib.Omega.{arith}
use lib.ListN.{length, take, drop, length-append}
use lib.Seq.{length-take-le}
use Rattle.frame_verdict_rules.specs.Frame.{separator, type_tag, sum_tag}
use Rattle.frame_verdict_rules.specs.Readers.{Out, short, Reader, ◌>>=◌, literal, any}
use Rattle.frame_verdict_rules.specs.Verdict.{checksum_for, body_reader, stage_of, as_verdict}
use Rattle.frame_verdict_rules.proofs.FrameExact.{body_of}
use Rattle.frame_verdict_rules.specs.declared.Stage.{Stage}
use Rattle.frame_verdict_rules.specs.declared.Stage.TheVariants.{On, Bad, Short}
use Rattle.frame_verdict_rules.specs.declared.Verdict.TheVariants.{Wait}
use Rattle.frame_verdict.proofs.Places.{Reached, stands, literal-on, refuses, last, any-on, any-short}

module _ (s : List ℕ) (body n : ℕ) where
  abbrev before : List ℕ
  before = take body s

  abbrev middle : List ℕ
  middle = take (n - 4) (drop (body + 3) s)

  -- all before `10=`
  abbrev pub all : List ℕ
  all = before ++ body_of middle

  abbrev sum_reader : List ℕ → Reader (Unit {0})
  sum_reader t = literal (checksum_for t) >>= (λ e. literal (separator ∷ []))

  abbrev tag_reader : List ℕ → Reader (Unit {0})
  tag_reader t = literal sum_tag >>= (λ e. sum_reader t)

  abbrev end_reader : List ℕ → Reader (Unit {0})
  end_reader t = literal (separator ∷ []) >>= (λ e. tag_reader t)

  abbrev middle_reader : Reader (Unit {0})
  middle_reader = any (n - 4) >>= (λ m. end_reader (before ++ body_of m))

  abbrev whole : Out (Unit {0})
  whole = body_reader before n (drop body s)

  module _ (h : body ≤ length s) (four : 4 ≤ n) where
    start : Reached whole s (literal type_tag >>= (λ e. middle_reader)) before body
    unfolding body_reader
    start = record { goes_on = refl; so_far = refl; inside = h }

    pub type-refused : (k : Stage) → k ≡ stage_of s (literal type_tag (drop body s)) → (k ≡ Bad) ⊎ (k ≡ Short) → k ≡ stage_of s whole
    type-refused = refuses whole s _ _ before body start

    module _ (e : ℕ) (k : On e ≡ stage_of s (literal type_tag (drop body s))) where
      typed : Reached whole s middle_reader (before ++ type_tag) (body + 3)
      typed =
          let r : Reached whole s middle_reader (before ++ type_tag) e = literal-on whole s type_tag (λ e. middle_reader) before body start e k in
          let m : e ≡ body + 3 = stands whole s _ _ e r ∙ length-append before type_tag ∙ omega (arith, length-take-le body s h) in
          rw (← m) r

      pub middle-short : length s < body + n - 1 → Wait ≡ as_verdict (stage_of s whole)
      unfolding as_verdict stage_of
      middle-short l = let z : whole ≡ short = any-short whole s (n - 4) _ _ (body + 3) typed (omega arith) in rw z

      module _ (l : body + n - 1 ≤ length s) where
        abbrev read : List ℕ
        read = (before ++ type_tag) ++ middle

        middled : Reached whole s (end_reader all) read (body + n - 1)
        middled = any-on whole s (n - 4) _ _ (body + 3) typed (body + n - 1) (omega arith) l

        pub end_refused : (k : Stage) → k ≡ stage_of s (literal (separator ∷ []) (drop (body + n - 1) s)) → (k ≡ Bad) ⊎ (k ≡ Short) → k ≡ stage_of s whole
        end_refused = refuses whole s _ _ read (body + n - 1) middled

        module _ (tag : ℕ) (k₂ : On tag ≡ stage_of s (literal (separator ∷ []) (drop (body + n - 1) s))) where
          ended : Reached whole s (tag_reader all) (read ++ (separator ∷ [])) tag
          ended = literal-on whole s (separator ∷ []) (λ e. tag_reader all) read (body + n - 1) middled tag k₂

          pub end-inside : tag ≤ length s
          end-inside = ended.inside

          -- what is summed is all before `10=`
          pub summed : take tag s ≡ all
          summed = let d : read ++ (separator ∷ []) ≡ all = simp append_assoc in ended.so_far ∙ d

          pub tag-refused : (k : Stage) → k ≡ stage_of s (literal sum_tag (drop tag s)) → (k ≡ Bad) ⊎ (k ≡ Short) → k ≡ stage_of s whole
          tag-refused = refuses whole s _ _ _ tag ended

          module _ (sum : ℕ) (k₃ : On sum ≡ stage_of s (literal sum_tag (drop tag s))) where
            tagged : Reached whole s (sum_reader all) ((read ++ (separator ∷ [])) ++ sum_tag) sum
            tagged = literal-on whole s sum_tag (λ e. sum_reader all) _ tag ended sum k₃

            pub tag-inside : sum ≤ length s
            tag-inside = tagged.inside

            pub sum-refused : (k : Stage) → k ≡ stage_of s (literal (checksum_for all) (drop sum s)) → (k ≡ Bad) ⊎ (k ≡ Short) → k ≡ stage_of s whole
            sum-refused = refuses whole s _ _ _ sum tagged

            module _ (end : ℕ) (k₄ : On end ≡ stage_of s (literal (checksum_for all) (drop sum s))) where
              sum-read : Reached whole s (literal (separator ∷ [])) (((read ++ (separator ∷ [])) ++ sum_tag) ++ checksum_for all) end
              sum-read = literal-on whole s (checksum_for all) (λ e. literal (separator ∷ [])) _ sum tagged end k₄

              pub sum_inside : end ≤ length s
              sum_inside = sum-read.inside

              pub closed : (k : Stage) → k ≡ stage_of s (literal (separator ∷ []) (drop end s)) → k ≡ stage_of s whole
              closed = last whole s _ _ end sum-read
