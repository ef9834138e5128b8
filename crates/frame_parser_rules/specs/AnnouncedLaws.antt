-- The laws of what is announced: one for each way that reading it goes, and that more bytes change nothing once it is known.
-- A text of digits that is worth less than 2^64 makes the number that it is worth.
use Rattle.std.specs.Prelude.{◌≡◌, refl, ◌⊎◌, Bool, true, false, List, [], ◌∷◌, ◌++◌, ℕ, ◌+◌, ◌*◌, ◌-◌, ◌%◌, ◌^◌, ◌≤◌, ◌<◌, get_or, take, drop, eqb, leb, Option, Some, None}
use Rattle.std.proofs.Common.{sym, ◌∙◌, inl, inr, append_assoc, mod-eq_of_lt, add-one, arith, length-append, length-drop, drop_of_length-le, drop-cons, drop_at, le-leb, leb-true}
use Rattle.std.proofs.Math.Path.{ap}
use Rattle.std.proofs.Math.ListN.{length}
use Rattle.std.proofs.lemmas.List.{drop-append-le, take-append-le}
use Rattle.std.proofs.lemmas.Bool.{lt-leb}
use Rattle.field_rules.specs.Choice.{pick}
use Rattle.field_rules.specs.Find.{find_in}
use Rattle.field_rules.proofs.FindLaws.{Absent, Splits, find_splits, find_joins}
use Rattle.field_rules.specs.Number.{worth, all_digits}
use Rattle.field_rules.proofs.NumberLaws.{worth-least}
use Rattle.field_rules.proofs.DecimalLaws.{all_digits-first}
use Rattle.frame_parser_rules.specs.Announced.{digit_of, nominal, find_from, with_separator, with_equals, value_from, message_end, limited, with_second, with_first, announced_in}
use Rattle.frame_parser_rules.specs.declared.Announced.TheVariants.{Ends, Over, Unknown}

-- ===== the number =====

module _ (text : List ℕ) (i n : ℕ) where
  pub nominal-step : i < length text → nominal n (drop i text) ≡ nominal ((n * 10 % 2 ^ 64 + digit_of (get_or text i 0)) % 2 ^ 64) (drop (i + 1) text)
  unfolding nominal
  nominal-step h = rw (drop-cons text i 0, add-one)

  pub nominal-end : length text ≤ i → nominal n (drop i text) ≡ n
  unfolding nominal
  nominal-end h = rw (drop_of_length-le text h)

pub digit_wraps : (byte digit : ℕ) → byte < 256 → digit < 256 → (digit + 48) % 2 ^ 8 ≡ byte → digit ≡ digit_of byte
unfolding digit_of
digit_wraps byte digit h d e = omega arith

-- the wrapping number is what the digits are worth, where that is a 64-bit number
pub nominal-worth : (text : List ℕ) (n : ℕ) → all_digits text ≡ true → worth n text < 2 ^ 64 → nominal n text ≡ worth n text
unfolding nominal worth digit_of
nominal-worth [] n all small = refl
nominal-worth (byte ∷ text) n all small =
    let first = all_digits-first byte text all in
    let digit : (byte + 256 - 48) % 256 ≡ byte - 48 = omega (arith, first.0, first.1) in
    let below : n * 10 + (byte - 48) < 2 ^ 64 = omega (arith, worth-least text (n * 10 + (byte - 48))) in
    let tenfold : n * 10 < 2 ^ 64 = omega arith in
    rw (digit, mod-eq_of_lt tenfold, mod-eq_of_lt below) (nominal-worth text (n * 10 + (byte - 48)) first.2 small)

-- ===== finding from a place on =====

nowhere : (b k m : ℕ) (s : List ℕ) → find_in b k s ≡ None → find_in b m s ≡ None
unfolding find_in
nowhere b k m [] h = refl
nowhere b k m (x ∷ s) h = by_test (eqb x b) h (nowhere b (k + 1) (m + 1) s)
  where
    by_test : (t : Bool) → pick t (Some k) (find_in b (k + 1) s) ≡ None → (find_in b (k + 1) s ≡ None → find_in b (m + 1) s ≡ None) → pick t (Some m) (find_in b (m + 1) s) ≡ None
    by_test true h r = let z : ◌≡◌ {A = ℕ} 0 1 = cc in absurd (omega arith)
    by_test false h r = r h

module _ (b at : ℕ) (held : List ℕ) where
  pub from_past : length held < at → find_from b at held ≡ None
  unfolding find_from find_in
  from_past h = rw (drop_of_length-le held {i = at} (omega arith))

  pub from-none : find_in b 0 (drop at held) ≡ None → find_from b at held ≡ None
  unfolding find_from
  from-none h = nowhere b 0 at (drop at held) h

  pub from_offset : (q : ℕ) → find_in b 0 (drop at held) ≡ Some q → find_from b at held ≡ Some (at + q)
  unfolding find_from
  from_offset q h =
      let sp = find_splits b (drop at held) q h in
      rw sp.whole (find_joins b at sp.before sp.after sp.absent ∙ ap Some (omega (arith, sp.size)))

  -- a place that is found from a place on is the first occurrence from there on
  pub from_splits : (q : ℕ) → find_from b at held ≡ Some q → (offset : ℕ) × (q ≡ at + offset) × Splits b (drop at held) offset
  from_splits q h = by_found (find_in b 0 (drop at held)) refl
    where
      by_found : (f : Option ℕ) → find_in b 0 (drop at held) ≡ f → (offset : ℕ) × (q ≡ at + offset) × Splits b (drop at held) offset
      by_found (Some p) e =
          let r : Some (at + p) ≡ Some q = sym (from_offset p e) ∙ h in
          let m : at + p ≡ q = cc in
          (p, sym m, find_splits b (drop at held) p e)
      by_found None e =
          let r : None ≡ Some q = sym (from-none e) ∙ h in
          let z : ◌≡◌ {A = ℕ} 0 1 = cc in absurd (omega arith)

  pub from_in : (q : ℕ) → find_from b at held ≡ Some q → (at ≤ q) × (q < length held)
  from_in q h =
      let f = from_splits q h in
      let sp : Splits b (drop at held) f.0 = f.2 in
      let sizes = simp (length-append, length-drop) at (ap length sp.whole) in
      (omega (arith, f.1), omega (arith, f.1, sp.size, sizes))

  -- more bytes behind change nothing
  pub from-stays : (q : ℕ) (more : List ℕ) → find_from b at held ≡ Some q → find_from b at (held ++ more) ≡ Some q
  unfolding find_from
  from-stays q more h =
      let f = from_splits q h in
      let sp : Splits b (drop at held) f.0 = f.2 in
      let start : at ≤ length held = omega (arith, from_in q h) in
      rw (drop-append-le at held more start, sp.whole, append_assoc)
      (find_joins b at sp.before (sp.after ++ more) sp.absent ∙ ap Some (omega (arith, f.1, sp.size)))

-- the first occurrence behind bytes that were passed is found
pub from-joins : (b at : ℕ) (passed before after : List ℕ) → length passed ≡ at → Absent b before → find_from b at (passed ++ (before ++ b ∷ after)) ≡ Some (at + length before)
unfolding find_from
from-joins b at passed before after size absent =
    rw (drop_at passed (before ++ b ∷ after) at size) (find_joins b at before after absent)

-- ===== a value =====

module _ (at : ℕ) (held : List ℕ) where
  pub value_no_equals : find_from 61 at held ≡ None → value_from at held ≡ None
  unfolding value_from with_equals
  value_no_equals e = rw e

  pub value_no_separator : (equals : ℕ) → find_from 61 at held ≡ Some equals → find_from 1 (equals + 1) held ≡ None → value_from at held ≡ None
  unfolding value_from with_equals with_separator
  value_no_separator equals e f = rw (e, f)

  pub value_between : (equals last : ℕ) → find_from 61 at held ≡ Some equals → find_from 1 (equals + 1) held ≡ Some last → value_from at held ≡ Some ((equals + 1), last)
  unfolding value_from with_equals with_separator
  value_between equals last e f = rw (e, f)

-- a value's `=` and separator, as they were found
pub record Standing (at : ℕ) (held : List ℕ) (first last : ℕ) : Type 0 where
  pub equals : ℕ
  pub starts : first ≡ equals + 1
  pub equals-at : find_from 61 at held ≡ Some equals
  pub separator-at : find_from 1 (equals + 1) held ≡ Some last

pub value_stands : (at : ℕ) (held : List ℕ) (first last : ℕ) → value_from at held ≡ Some (first, last) → Standing at held first last
value_stands at held first last h = by_equals (find_from 61 at held) refl
  where
    by_separator : (q : ℕ) → find_from 61 at held ≡ Some q → (f : Option ℕ) → find_from 1 (q + 1) held ≡ f → Standing at held first last
    by_separator q e (Some p) g =
        let r : ◌≡◌ {A = Option (ℕ × ℕ)} (Some (q + 1, p)) (Some (first, last)) = sym (value_between at held q p e g) ∙ h in
        let both : ◌≡◌ {A = ℕ × ℕ} (q + 1, p) (first, last) = cc in
        let l : p ≡ last = ap (λ (v : ℕ × ℕ). v.1) both in
        let s : q + 1 ≡ first = ap (λ (v : ℕ × ℕ). v.0) both in
        record { equals = q; starts = sym s; equals-at = e; separator-at = g ∙ ap Some l }
    by_separator q e None g =
        let r : ◌≡◌ {A = Option (ℕ × ℕ)} None (Some (first, last)) = sym (value_no_separator at held q e g) ∙ h in
        let z : ◌≡◌ {A = ℕ} 0 1 = cc in absurd (omega arith)

    by_equals : (f : Option ℕ) → find_from 61 at held ≡ f → Standing at held first last
    by_equals (Some q) e = by_separator q e (find_from 1 (q + 1) held) refl
    by_equals None e =
        let r : ◌≡◌ {A = Option (ℕ × ℕ)} None (Some (first, last)) = sym (value_no_equals at held e) ∙ h in
        let z : ◌≡◌ {A = ℕ} 0 1 = cc in absurd (omega arith)

module _ (at : ℕ) (held : List ℕ) (first last : ℕ) (h : value_from at held ≡ Some (first, last)) where
  pub value_in : (at < first) × (first ≤ last) × (last < length held)
  value_in =
      let s = value_stands at held first last h in
      let e = from_in 61 at held s.equals s.equals-at in
      let f = from_in 1 (s.equals + 1) held last s.separator-at in
      (omega (arith, s.starts, e.0), omega (arith, s.starts, f.0), f.1)

  pub value_stays : (more : List ℕ) → value_from at (held ++ more) ≡ Some (first, last)
  value_stays more =
      let s = value_stands at held first last h in
      value_between at (held ++ more) s.equals last (from-stays 61 at held s.equals more s.equals-at) (from-stays 1 (s.equals + 1) held last more s.separator-at)
      ∙ ap (λ (x : ℕ). Some (x, last)) (sym s.starts)

-- ===== the message end =====

module _ (end : ℕ) where
  pub limit_over : 8192 < end → limited end ≡ Over
  unfolding limited
  limit_over h = rw (lt-leb _ _ h)

  pub limit_ends : end ≤ 8192 → limited end ≡ Ends end
  unfolding limited
  limit_ends h = rw (le-leb _ _ h)

module _ (held : List ℕ) where
  pub announced_no_first : value_from 0 held ≡ None → announced_in held ≡ Unknown
  unfolding announced_in with_first
  announced_no_first e = rw e

  module _ (begins ends : ℕ) (e : value_from 0 held ≡ Some (begins, ends)) where
    pub announced_no_second : value_from (ends + 1) held ≡ None → announced_in held ≡ Unknown
    unfolding announced_in with_first with_second
    announced_no_second f = rw (e, f)

    pub announced_second : (first last : ℕ) → value_from (ends + 1) held ≡ Some (first, last) → announced_in held ≡ limited (message_end last (nominal 0 (take (last - first) (drop first held))))
    unfolding announced_in with_first with_second
    announced_second first last f = rw (e, f)

-- what is announced stays announced, whatever bytes follow
pub announced_stays : (held more : List ℕ) → (announced_in held ≡ Unknown) ⊎ (announced_in (held ++ more) ≡ announced_in held)
announced_stays held more = by_first (value_from 0 held) refl
  where
    by_second : (begins ends : ℕ) → value_from 0 held ≡ Some (begins, ends) → (v : Option (ℕ × ℕ)) → value_from (ends + 1) held ≡ v → (announced_in held ≡ Unknown) ⊎ (announced_in (held ++ more) ≡ announced_in held)
    by_second begins ends e None f = inl (announced_no_second held begins ends e f)
    by_second begins ends e (Some (first, last)) f =
        let bounds = value_in (ends + 1) held first last f in
        let text : take (last - first) (drop first (held ++ more)) ≡ take (last - first) (drop first held) =
        rw (drop-append-le first held more (omega (arith, bounds)))
        (take-append-le (last - first) (drop first held) more (omega (arith, bounds, length-drop first held))) in
        inr (announced_second (held ++ more) begins ends (value_stays 0 held begins ends e more) first last (value_stays (ends + 1) held first last f more)
        ∙ ap (λ (t : List ℕ). limited (message_end last (nominal 0 t))) text
        ∙ sym (announced_second held begins ends e first last f))

    by_first : (v : Option (ℕ × ℕ)) → value_from 0 held ≡ v → (announced_in held ≡ Unknown) ⊎ (announced_in (held ++ more) ≡ announced_in held)
    by_first None e = inl (announced_no_first held e)
    by_first (Some (begins, ends)) e = by_second begins ends e (value_from (ends + 1) held) refl

-- an end that is announced lies within the limit
limited_in : (end n : ℕ) → limited end ≡ Ends n → n ≤ 8192
unfolding limited
limited_in end n h = by_test (leb end 8192) refl h
  where
    by_test : (b : Bool) → leb end 8192 ≡ b → pick b (Ends end) Over ≡ Ends n → n ≤ 8192
    by_test true e l = let same : end ≡ n = cc in omega (arith, leb-true end 8192 e)
    by_test false e l = let z : ◌≡◌ {A = ℕ} 0 1 = cc in absurd (omega arith)

second_in : (held : List ℕ) (n : ℕ) (v : Option (ℕ × ℕ)) → with_second held v ≡ Ends n → n ≤ 8192
unfolding with_second
second_in held n None h = let z : ◌≡◌ {A = ℕ} 0 1 = cc in absurd (omega arith)
second_in held n (Some (first, last)) h = limited_in _ n h

first_in : (held : List ℕ) (n : ℕ) (v : Option (ℕ × ℕ)) → with_first held v ≡ Ends n → n ≤ 8192
unfolding with_first
first_in held n None h = let z : ◌≡◌ {A = ℕ} 0 1 = cc in absurd (omega arith)
first_in held n (Some (first, last)) h = second_in held n (value_from (last + 1) held) h

pub announced_limit : (held : List ℕ) (n : ℕ) → announced_in held ≡ Ends n → n ≤ 8192
unfolding announced_in
announced_limit held n h = first_in held n (value_from 0 held) h
