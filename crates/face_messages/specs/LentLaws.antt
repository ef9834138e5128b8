-- How a record in twelve bytes is read off the words, and what a caller reads of a build: over how many of the lent records is written, and what they hold then.
use Rattle.std.specs.Prelude.{ℕ, zero, suc, ◌*◌, ◌≤◌, ◌<◌, ◌%◌, ◌^◌, ◌≡◌, refl, Bool, true, false, List, [], ◌∷◌, ◌++◌, leb, ltb, length, get_or, take, drop}
use Rattle.std.proofs.Common.{sym, ◌∙◌, arith, le-leb, leb-false, get_or-take}
use Rattle.std.proofs.Math.Path.{ap, subst}
use Rattle.std.proofs.lemmas.Bool.{lt-leb}
use Rattle.field_rules.specs.Choice.{pick}
use Rattle.field_rules.specs.Separator.{is_refused_separator}
use Rattle.build_config.specs.declared.Config.{Config}
use Rattle.build_records.specs.declared.Record.{Record}
use Rattle.build_records.specs.Records.{blank, records_of, record_at, stride}
use Rattle.build_answers.specs.declared.Answer.{Answer}
use Rattle.build_answers.specs.Answer.{number_of, values_of}
use Rattle.build_rules.specs.Message.{Outcome}
use Rattle.dictionary_prepared.specs.Memory.{is_prepared}
use Rattle.builder.specs.Build.{BuildOutcome, untouched, shown, judged, build_of}
use Rattle.builder.specs.Through.{build_over}
use Rattle.face_told.specs.Told.{told}
use Rattle.face_messages.specs.declared.FieldRecord.{FieldRecord}
use Rattle.face_messages.specs.declared.Shown.{Shown}
use Rattle.face_messages.specs.Lent.{blank_field, field_of, field_record_at, table, shown_of, told_of, filled, records_lent}

pub field_past : (words : List ℕ) (shown i : ℕ) → shown ≤ i → blank_field ≡ field_record_at words shown i
unfolding field_record_at
field_past words shown i h = rw (le-leb shown i h) refl

pub field-shown : (words : List ℕ) (shown i : ℕ) (r : Record) (a b c d e : ℕ) → i < shown → r ≡ record_at i (records_of words)
    → a ≡ r.part % 2 ^ 8 → b ≡ r.depth % 2 ^ 8 → c ≡ r.number % 2 ^ 16 → d ≡ r.place % 2 ^ 16 → e ≡ r.length % 2 ^ 16
    → ◌≡◌ {A = FieldRecord} (record { part = a; depth = b; entry = c; tag = r.tag; place = d; length = e }) (field_record_at words shown i)
unfolding field_record_at field_of
field-shown words shown i r a b c d e h eq ea eb ec ed ee = rw (lt-leb shown i h, ea, eb, ec, ed, ee, eq) refl

-- a build writes over no more records than are lent
pick-written : (b : Bool) (x y : BuildOutcome) (lent : ℕ) → x.written ≤ lent → y.written ≤ lent → (pick b x y).written ≤ lent
pick-written true x y lent hx hy = hx
pick-written false x y lent hx hy = hy

untouched-written : (answer : Answer) (words : List ℕ) (lent : ℕ) → (untouched answer words).written ≤ lent
unfolding untouched
untouched-written answer words lent = omega arith

judged-written : (message : List ℕ) (config : Config) (lent : ℕ) (words : List ℕ) (outcome : Outcome) → (judged message config lent words outcome).written ≤ lent
unfolding shown
judged-written message config lent words outcome =
    pick-written (is_refused_separator config.mode.separator) _ _ lent (untouched-written _ words lent)
    (pick-written (ltb lent 1024) _ _ lent (untouched-written _ words lent) (pick-written (ltb 8192 (length message)) _ _ lent (untouched-written _ words lent) (omega arith)))

pub written-lent : (message : List ℕ) (config : Config) (dictionary : List ℕ) (lent : ℕ) (words : List ℕ) → (build_of message config dictionary lent words).written ≤ lent
unfolding build_of
written-lent message config dictionary lent words = judged-written message config lent words _

pub written_over : (message : List ℕ) (config : Config) (copy memory : List ℕ) (lent : ℕ) (words : List ℕ) → (build_over message config copy memory lent words).written ≤ lent
unfolding build_over
written_over message config copy memory lent words = pick-written (is_prepared copy memory) _ _ lent (judged-written message config lent words _) (untouched-written _ words lent)

-- ===== the records that are shown =====

six : (n : ℕ) → stride * suc n ≡ suc (suc (suc (suc (suc (suc (stride * n))))))
six n = omega arith

-- the first words hold the first records
records_take : (n : ℕ) (words : List ℕ) → records_of (take (stride * n) words) ≡ take n (records_of words)
unfolding records_of
records_take zero words = refl
records_take (suc n) (a ∷ b ∷ c ∷ d ∷ e ∷ f ∷ words) = rw (six n) (ap (record { part = a; depth = b; number = c; tag = d; place = e; length = f } ∷◌) (records_take n words))
records_take (suc n) (a ∷ b ∷ c ∷ d ∷ e ∷ []) = rw (six n) refl
records_take (suc n) (a ∷ b ∷ c ∷ d ∷ []) = rw (six n) refl
records_take (suc n) (a ∷ b ∷ c ∷ []) = rw (six n) refl
records_take (suc n) (a ∷ b ∷ []) = rw (six n) refl
records_take (suc n) (a ∷ []) = rw (six n) refl
records_take (suc n) [] = rw (six n) refl

-- a record is read alike from words that agree where it is shown
field_alike : (words others : List ℕ) (shown i : ℕ) → take (stride * shown) words ≡ take (stride * shown) others → field_record_at words shown i ≡ field_record_at others shown i
unfolding field_record_at record_at
field_alike words others shown i e = go (leb shown i) refl
  where
    first : (ws : List ℕ) → i < shown → get_or (records_of ws) i blank ≡ get_or (records_of (take (stride * shown) ws)) i blank
    first ws h = sym (get_or-take shown (records_of ws) i blank h) ∙ ap (λ (rs : List Record). get_or rs i blank) (sym (records_take shown ws))

    go : (past : Bool) → leb shown i ≡ past → pick past blank_field (field_of (get_or (records_of words) i blank)) ≡ pick past blank_field (field_of (get_or (records_of others) i blank))
    go true p = refl
    go false p =
        let h : i < shown = leb-false shown i p in
        ap field_of (first words h ∙ ap (λ (ws : List ℕ). get_or (records_of ws) i blank) e ∙ sym (first others h))

table_alike : {A : Type 0} (f g : ℕ → A) (n : ℕ) → ((k : ℕ) → f k ≡ g k) → table f n ≡ table g n
unfolding table
table_alike f g zero h = refl
table_alike f g (suc n) h = λ i. h 0 i ∷ table_alike (λ k. f (suc k)) (λ k. g (suc k)) n (λ k. h (suc k)) i

-- and so lent records are filled alike from them
filled_alike : (words others : List ℕ) (shown written : ℕ) (lent : List FieldRecord) → take (stride * shown) words ≡ take (stride * shown) others → filled words shown written lent ≡ filled others shown written lent
unfolding filled
filled_alike words others shown written lent e =
    ap (λ (fs : List FieldRecord). fs ++ drop written lent) (table_alike (field_record_at words shown) (field_record_at others shown) written (λ k. field_alike words others shown k e))

-- ===== what is said of a build =====

-- what the core says of a build over its words, of whatever kind the build is: of all words, or of the records that are shown; and what the caller reads of one
abbrev pub SaidWhole : BuildOutcome → Shown → List ℕ → List ℕ → Type 0
SaidWhole built r left out = (r ≡ shown_of built) × (left ≡ built.words) × (out ≡ told_of built)

abbrev pub Said : BuildOutcome → Shown → List ℕ → List ℕ → Type 0
Said built r left out = (r ≡ shown_of built) × (take (stride * r.records) left ≡ take (stride * r.records) built.words) × (out ≡ told_of built)

pub said_whole : (built : BuildOutcome) (r : Shown) (left out : List ℕ) → SaidWhole built r left out → Said built r left out
said_whole built r left out said = (said.0, ap (take (stride * r.records)) said.1, said.2)

abbrev pub Reads : BuildOutcome → List FieldRecord → ℕ → List FieldRecord → List ℕ → Type 0
Reads built before number after out = (number ≡ number_of built.answer) × (after ≡ records_lent built before) × (out ≡ told built.records (values_of built.answer))

module _ (built : BuildOutcome) (r : Shown) (left out : List ℕ) (said : Said built r left out) where
  pub said_within : (lent : ℕ) → built.written ≤ lent → r.written ≤ lent
  unfolding shown_of
  said_within lent few = subst (λ (z : Shown). z.written ≤ lent) (sym said.0) few

  -- the caller reads what the core says, where the lent records are filled from the core's words
  pub said_reads : (before after : List FieldRecord) → after ≡ filled left r.records r.written before → Reads built before r.number after out
  unfolding shown_of told_of records_lent
  said_reads before after e = (
    ap (λ (z : Shown). z.number) said.0,
    e ∙ filled_alike left built.words r.records r.written before said.1 ∙ ap (λ (z : Shown). filled built.words z.records z.written before) said.0,
    said.2,
  )
