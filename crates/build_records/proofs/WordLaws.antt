-- Words and the records that they hold: laying records out and reading them again come to the same, so a change of the words that is
-- told by the records can be undone, joined to another, and followed index by index.
use Rattle.std.specs.Prelude.{◌≡◌, refl, List, [], ◌∷◌, ◌++◌, ℕ, zero, suc, ◌+◌, ◌*◌, ◌/◌, ◌≤◌, ◌<◌, length, get_or, set}
use Rattle.std.proofs.Common.{sym, ap, ◌∙◌, append-nil, arith, length-append}
use Rattle.std.proofs.Math.ListN.{get_or-eq_default}
use Rattle.std.proofs.Math.Seq.{set_out}
use Rattle.build_records.specs.Records.{laid, records_of, leftover, on_records, blank, record_at, replaced, stride}
use Rattle.build_records.specs.declared.Record.{Record}

-- nothing is lost
pub words-whole : (ws : List ℕ) → laid (records_of ws) ++ leftover ws ≡ ws
unfolding laid records_of leftover
words-whole (a ∷ b ∷ c ∷ d ∷ e ∷ f ∷ ws) = ap (λ (l : List ℕ). a ∷ b ∷ c ∷ d ∷ e ∷ f ∷ l) (words-whole ws)
words-whole (a ∷ b ∷ c ∷ d ∷ e ∷ []) = refl
words-whole (a ∷ b ∷ c ∷ d ∷ []) = refl
words-whole (a ∷ b ∷ c ∷ []) = refl
words-whole (a ∷ b ∷ []) = refl
words-whole (a ∷ []) = refl
words-whole [] = refl

-- what was laid out is read again
pub records_laid : (rs : List Record) (ws : List ℕ) → records_of (laid rs ++ ws) ≡ rs ++ records_of ws
unfolding laid records_of
records_laid [] ws = refl
records_laid (r ∷ rs) ws = ap (λ (l : List Record). r ∷ l) (records_laid rs ws)

pub leftover-laid : (rs : List Record) (ws : List ℕ) → leftover (laid rs ++ ws) ≡ leftover ws
unfolding laid leftover
leftover-laid [] ws = refl
leftover-laid (r ∷ rs) ws = leftover-laid rs ws

pub records_leftover : (ws : List ℕ) → records_of (leftover ws) ≡ []
unfolding records_of leftover
records_leftover (a ∷ b ∷ c ∷ d ∷ e ∷ f ∷ ws) = records_leftover ws
records_leftover (a ∷ b ∷ c ∷ d ∷ e ∷ []) = refl
records_leftover (a ∷ b ∷ c ∷ d ∷ []) = refl
records_leftover (a ∷ b ∷ c ∷ []) = refl
records_leftover (a ∷ b ∷ []) = refl
records_leftover (a ∷ []) = refl
records_leftover [] = refl

pub leftover-leftover : (ws : List ℕ) → leftover (leftover ws) ≡ leftover ws
unfolding leftover
leftover-leftover (a ∷ b ∷ c ∷ d ∷ e ∷ f ∷ ws) = leftover-leftover ws
leftover-leftover (a ∷ b ∷ c ∷ d ∷ e ∷ []) = refl
leftover-leftover (a ∷ b ∷ c ∷ d ∷ []) = refl
leftover-leftover (a ∷ b ∷ c ∷ []) = refl
leftover-leftover (a ∷ b ∷ []) = refl
leftover-leftover (a ∷ []) = refl
leftover-leftover [] = refl

pub laid-append : (rs ss : List Record) → laid (rs ++ ss) ≡ laid rs ++ laid ss
unfolding laid
laid-append [] ss = refl
laid-append (r ∷ rs) ss = ap (λ (l : List ℕ). r.part ∷ r.depth ∷ r.number ∷ r.tag ∷ r.place ∷ r.length ∷ l) (laid-append rs ss)

pub laid-length : (rs : List Record) → length (laid rs) ≡ stride * length rs
unfolding laid
laid-length [] = refl
laid-length (r ∷ rs) = omega (arith, laid-length rs)

leftover-length : (ws : List ℕ) → length (leftover ws) < 6
unfolding leftover
leftover-length (a ∷ b ∷ c ∷ d ∷ e ∷ f ∷ ws) = leftover-length ws
leftover-length (a ∷ b ∷ c ∷ d ∷ e ∷ []) = omega arith
leftover-length (a ∷ b ∷ c ∷ d ∷ []) = omega arith
leftover-length (a ∷ b ∷ c ∷ []) = omega arith
leftover-length (a ∷ b ∷ []) = omega arith
leftover-length (a ∷ []) = omega arith
leftover-length [] = omega arith

-- six words to a record
pub records_length : (ws : List ℕ) → length (records_of ws) ≡ length ws / stride
records_length ws =
    omega (arith, ap length (words-whole ws), length-append (laid (records_of ws)) (leftover ws), laid-length (records_of ws), leftover-length ws)

-- the words after a change hold what the change says
pub records_on : (change : List Record → List Record) (ws : List ℕ) → records_of (on_records change ws) ≡ change (records_of ws)
unfolding on_records
records_on change ws = records_laid (change (records_of ws)) (leftover ws) ∙ rw (records_leftover ws) (append-nil _)

pub leftover-on : (change : List Record → List Record) (ws : List ℕ) → leftover (on_records change ws) ≡ leftover ws
unfolding on_records
leftover-on change ws = leftover-laid (change (records_of ws)) (leftover ws) ∙ leftover-leftover ws

-- words are equal where they hold the same records and the same rest
pub words_same : (ws vs : List ℕ) → records_of ws ≡ records_of vs → leftover ws ≡ leftover vs → ws ≡ vs
words_same ws vs r l = sym (words-whole ws) ∙ rw (r, l) (words-whole vs)

-- one change and then another
pub on_again : (change next : List Record → List Record) (ws : List ℕ) → on_records next (on_records change ws) ≡ on_records (λ rs. next (change rs)) ws
on_again change next ws =
    words_same _ _ (records_on next (on_records change ws) ∙ ap next (records_on change ws) ∙ sym (records_on (λ rs. next (change rs)) ws)) (leftover-on next (on_records change ws) ∙ leftover-on change ws ∙ sym (leftover-on (λ rs. next (change rs)) ws))

-- changes that come to the same records come to the same words
pub on_same : (change other : List Record → List Record) (ws : List ℕ) → change (records_of ws) ≡ other (records_of ws) → on_records change ws ≡ on_records other ws
unfolding on_records
on_same change other ws e = rw e

-- a change that changes nothing
pub on-nothing : (change : List Record → List Record) (ws : List ℕ) → change (records_of ws) ≡ records_of ws → on_records change ws ≡ ws
unfolding on_records
on-nothing change ws e = rw e (words-whole ws)

pub length-on : (change : List Record → List Record) (ws : List ℕ) → length (change (records_of ws)) ≡ length (records_of ws) → length (on_records change ws) ≡ length ws
unfolding on_records
length-on change ws e =
    omega (arith, e, length-append (laid (change (records_of ws))) (leftover ws), laid-length (change (records_of ws)), laid-length (records_of ws), ap length (words-whole ws), length-append (laid (records_of ws)) (leftover ws))

-- six further words
abbrev behind : ℕ → ℕ
behind n = suc (suc (suc (suc (suc (suc n)))))

words-at : (i : ℕ) (ws : List ℕ) (a b c d e f : ℕ) → i < length (records_of ws) → a ≡ stride * i → b ≡ stride * i + 1 → c ≡ stride * i + 2 → d ≡ stride * i + 3 → e ≡ stride * i + 4 → f ≡ stride * i + 5 →
    record_at i (records_of ws) ≡ record { part = get_or ws a 0; depth = get_or ws b 0; number = get_or ws c 0; tag = get_or ws d 0; place = get_or ws e 0; length = get_or ws f 0 }
unfolding record_at records_of
words-at zero (x ∷ y ∷ z ∷ u ∷ v ∷ w ∷ ws) a b c d e f h p q r s t o = rw (p, q, r, s, t, o)
words-at (suc i) (x ∷ y ∷ z ∷ u ∷ v ∷ w ∷ ws) a b c d e f h p q r s t o =
    let p₁ : a ≡ behind (stride * i) = omega arith in
    let q₁ : b ≡ behind (stride * i + 1) = omega arith in
    let r₁ : c ≡ behind (stride * i + 2) = omega arith in
    let s₁ : d ≡ behind (stride * i + 3) = omega arith in
    let t₁ : e ≡ behind (stride * i + 4) = omega arith in
    let o₁ : f ≡ behind (stride * i + 5) = omega arith in
    rw (p₁, q₁, r₁, s₁, t₁, o₁) (words-at i ws (stride * i) (stride * i + 1) (stride * i + 2) (stride * i + 3) (stride * i + 4) (stride * i + 5) (omega arith) refl refl refl refl refl refl)
words-at i (x ∷ y ∷ z ∷ u ∷ v ∷ []) a b c d e f h p q r s t o = absurd (omega arith)
words-at i (x ∷ y ∷ z ∷ u ∷ []) a b c d e f h p q r s t o = absurd (omega arith)
words-at i (x ∷ y ∷ z ∷ []) a b c d e f h p q r s t o = absurd (omega arith)
words-at i (x ∷ y ∷ []) a b c d e f h p q r s t o = absurd (omega arith)
words-at i (x ∷ []) a b c d e f h p q r s t o = absurd (omega arith)
words-at i [] a b c d e f h p q r s t o = absurd (omega arith)

-- a record's words stand where its index says
pub record_words : (i : ℕ) (ws : List ℕ) → i < length ws / stride →
    record_at i (records_of ws) ≡ record { part = get_or ws (stride * i) 0; depth = get_or ws (stride * i + 1) 0; number = get_or ws (stride * i + 2) 0; tag = get_or ws (stride * i + 3) 0; place = get_or ws (stride * i + 4) 0; length = get_or ws (stride * i + 5) 0 }
record_words i ws h = words-at i ws (stride * i) (stride * i + 1) (stride * i + 2) (stride * i + 3) (stride * i + 4) (stride * i + 5) (omega (arith, records_length ws)) refl refl refl refl refl refl

pub record_past : (i : ℕ) (ws : List ℕ) → length ws / stride ≤ i → record_at i (records_of ws) ≡ blank
unfolding record_at
record_past i ws h = get_or-eq_default (records_of ws) blank (omega (arith, records_length ws))

sets-at : (i : ℕ) (ws : List ℕ) (x : Record) (a b c d e f : ℕ) → i < length (records_of ws) → a ≡ stride * i → b ≡ stride * i + 1 → c ≡ stride * i + 2 → d ≡ stride * i + 3 → e ≡ stride * i + 4 → f ≡ stride * i + 5 →
    set (set (set (set (set (set ws a x.part) b x.depth) c x.number) d x.tag) e x.place) f x.length ≡ on_records (replaced i x) ws
unfolding on_records replaced records_of laid leftover
sets-at zero (g ∷ y ∷ z ∷ u ∷ v ∷ w ∷ ws) x a b c d e f h p q r s t o =
    rw (p, q, r, s, t, o) (ap (λ (l : List ℕ). x.part ∷ x.depth ∷ x.number ∷ x.tag ∷ x.place ∷ x.length ∷ l) (sym (words-whole ws)))
sets-at (suc i) (g ∷ y ∷ z ∷ u ∷ v ∷ w ∷ ws) x a b c d e f h p q r s t o =
    let p₁ : a ≡ behind (stride * i) = omega arith in
    let q₁ : b ≡ behind (stride * i + 1) = omega arith in
    let r₁ : c ≡ behind (stride * i + 2) = omega arith in
    let s₁ : d ≡ behind (stride * i + 3) = omega arith in
    let t₁ : e ≡ behind (stride * i + 4) = omega arith in
    let o₁ : f ≡ behind (stride * i + 5) = omega arith in
    rw (p₁, q₁, r₁, s₁, t₁, o₁) (ap (λ (l : List ℕ). g ∷ y ∷ z ∷ u ∷ v ∷ w ∷ l) (sets-at i ws x (stride * i) (stride * i + 1) (stride * i + 2) (stride * i + 3) (stride * i + 4) (stride * i + 5) (omega arith) refl refl refl refl refl refl))
sets-at i (g ∷ y ∷ z ∷ u ∷ v ∷ []) x a b c d e f h p q r s t o = absurd (omega arith)
sets-at i (g ∷ y ∷ z ∷ u ∷ []) x a b c d e f h p q r s t o = absurd (omega arith)
sets-at i (g ∷ y ∷ z ∷ []) x a b c d e f h p q r s t o = absurd (omega arith)
sets-at i (g ∷ y ∷ []) x a b c d e f h p q r s t o = absurd (omega arith)
sets-at i (g ∷ []) x a b c d e f h p q r s t o = absurd (omega arith)
sets-at i [] x a b c d e f h p q r s t o = absurd (omega arith)

-- storing a record's words replaces it
pub replaced-words : (i : ℕ) (ws : List ℕ) (x : Record) → i < length ws / stride →
    set (set (set (set (set (set ws (stride * i) x.part) (stride * i + 1) x.depth) (stride * i + 2) x.number) (stride * i + 3) x.tag) (stride * i + 4) x.place) (stride * i + 5) x.length ≡ on_records (replaced i x) ws
replaced-words i ws x h = sets-at i ws x (stride * i) (stride * i + 1) (stride * i + 2) (stride * i + 3) (stride * i + 4) (stride * i + 5) (omega (arith, records_length ws)) refl refl refl refl refl refl

pub replaced_past : (i : ℕ) (ws : List ℕ) (x : Record) → length ws / stride ≤ i → on_records (replaced i x) ws ≡ ws
replaced_past i ws x h = on-nothing (replaced i x) ws (unfold replaced in set_out (records_of ws) i x (omega (arith, records_length ws)))
