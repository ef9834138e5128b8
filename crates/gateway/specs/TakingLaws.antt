-- The words that lent records are put into are theirs, and as many are read as taking over looks at: it answers as it does of all that are lent.
use Rattle.std.specs.Prelude.{ℕ, zero, suc, ◌-◌, ◌*◌, ◌≤◌, ◌<◌, ◌≡◌, refl, Bool, true, false, List, [], ◌∷◌, ◌++◌, eqb, leb, ltb, length, take, drop, get_or, set, replicate}
use Rattle.std.proofs.Common.{sym, ap, ◌∙◌, append_assoc, append-nil, not-suc-le-zero, le_of_suc-le-suc, arith, ltb-false, leb-true, leb-false, le-leb, take_at, take-take, length-take-le}
use Rattle.std.proofs.lemmas.Bool.{lt-leb}
use Rattle.std.proofs.lemmas.List.{length-replicate}
use Rattle.message_maps.specs.Rows.{message_words}
use Rattle.field_rules.specs.Choice.{pick, pick_same}
use Rattle.build_records.specs.declared.Record.{Record}
use Rattle.build_records.specs.Records.{laid, records_of, leftover, on_records, replaced, between, record_words, stride}
use Rattle.build_records.proofs.WordLaws.{words-whole, records_laid, records_on, records_length, laid-append, laid-length}
use Rattle.message_take_over.specs.declared.Taken.TheVariants.{NoMessage}
use Rattle.message_take_over.specs.Taking.{AfterTaking, after, taking_over}
use Rattle.face_messages.specs.declared.FieldRecord.{FieldRecord}
use Rattle.face_messages.specs.Lent.{blank_field, table, record_of_lent, records_from, words_lent, read_count, put_fields}
use Rattle.face_messages.specs.TakeLaws.{read_past, read-over, read_all}
use Rattle.gateway.specs.Sets.{sets, sets-part}

pub put_next : (fs : List FieldRecord) (i : ℕ) (words : List ℕ)
    → on_records (replaced i (record_of_lent (get_or fs i blank_field))) (put_fields fs i words) ≡ put_fields fs (suc i) words
unfolding put_fields
put_next fs i words = refl

-- record i of those that are lent
abbrev nth : List FieldRecord → ℕ → Record
nth fs i = record_of_lent (get_or fs i blank_field)

put_records : (fs : List FieldRecord) (n : ℕ) (words : List ℕ) → records_of (put_fields fs n words) ≡ sets (nth fs) (records_of words) n
unfolding put_fields replaced
put_records fs zero words = refl
put_records fs (suc n) words =
    records_on (replaced n (nth fs n)) (put_fields fs n words) ∙ ap (λ (rs : List Record). set rs n (nth fs n)) (put_records fs n words)

table-read : (fs : List FieldRecord) (n : ℕ) → n ≤ length fs → table (nth fs) n ≡ records_from (take n fs)
unfolding table records_from
table-read fs zero h = refl
table-read [] (suc n) h = absurd (not-suc-le-zero h)
table-read (f ∷ fs) (suc n) h = ap (λ (rs : List Record). record_of_lent f ∷ rs) (table-read fs n (le_of_suc-le-suc h))

pub length_from : (fs : List FieldRecord) → length (records_from fs) ≡ length fs
unfolding records_from
length_from [] = refl
length_from (f ∷ fs) = ap suc (length_from fs)

pub take-from : (n : ℕ) (fs : List FieldRecord) → records_from (take n fs) ≡ take n (records_from fs)
unfolding records_from
take-from zero fs = refl
take-from (suc n) [] = refl
take-from (suc n) (f ∷ fs) = ap (λ (rs : List Record). record_of_lent f ∷ rs) (take-from n fs)

-- what is put into blank words stands at their start
pub put-words : (fs : List FieldRecord) (n : ℕ) → n ≤ length fs → n ≤ 1024
    → take (stride * n) (put_fields fs n (replicate record_words 0)) ≡ words_lent (take n fs)
unfolding words_lent
put-words fs n lent most = ap (take (stride * n)) whole ∙ take_at (laid read) (laid rest ++ leftover put) (stride * n) size
  where
    put : List ℕ
    put = put_fields fs n (replicate record_words 0)

    read : List Record
    read = records_from (take n fs)

    blanks : List Record
    blanks = records_of (replicate record_words 0)

    rest : List Record
    rest = drop n blanks

    many : n ≤ length blanks
    many = omega (arith, records_length (replicate record_words 0), length-replicate {A = ℕ} record_words 0)

    records : records_of put ≡ read ++ rest
    records = put_records fs n (replicate record_words 0) ∙ sets-part (nth fs) blanks n many ∙ ap (λ (rs : List Record). rs ++ rest) (table-read fs n lent)

    whole : put ≡ laid read ++ (laid rest ++ leftover put)
    whole =
        sym (words-whole put) ∙ ap (λ (rs : List Record). laid rs ++ leftover put) records ∙ ap (λ (ws : List ℕ). ws ++ leftover put) (laid-append read rest)
        ∙ append_assoc (laid read) (laid rest) (leftover put)

    size : length (laid read) ≡ stride * n
    size = laid-length read ∙ ap (λ (k : ℕ). stride * k) (length_from (take n fs) ∙ length-take-le n fs lent)

-- the records that words of lent records hold
pub lent_records : (fs : List FieldRecord) → records_of (words_lent fs) ≡ records_from fs
unfolding words_lent records_of
lent_records fs = ap records_of (sym (append-nil (laid (records_from fs)))) ∙ records_laid (records_from fs) [] ∙ append-nil (records_from fs)

-- what taking over answers hangs on whether so many records stand there, and on the first of them
same_answer : (records other : List ℕ) (count : ℕ) (bytes words values : List ℕ)
    → leb count (length (records_of records)) ≡ leb count (length (records_of other)) → between 0 count (records_of records) ≡ between 0 count (records_of other)
    → taking_over records count bytes words values ≡ taking_over other count bytes words values
unfolding taking_over
same_answer records other count bytes words values e f = rw (e, f) refl

none-there : (records : List ℕ) (count : ℕ) (bytes words values : List ℕ) → leb count (length (records_of records)) ≡ false
    → taking_over records count bytes words values ≡ after NoMessage words values
unfolding taking_over
none-there records count bytes words values e =
    rw e (ap (λ (x : AfterTaking). pick (eqb (length words) message_words) x (after NoMessage words values))
    (pick_same (eqb (length values) 8192) (after NoMessage words values)) ∙ pick_same (eqb (length words) message_words) (after NoMessage words values))

too_many : (records : List ℕ) (count : ℕ) (bytes words values : List ℕ) → leb count 1024 ≡ false
    → taking_over records count bytes words values ≡ after NoMessage words values
unfolding taking_over
too_many records count bytes words values e =
    rw e
    (ap (λ (x : AfterTaking). pick (eqb (length words) message_words) (pick (eqb (length values) 8192) x (after NoMessage words values))
    (after NoMessage words values)) (pick_same (leb count (length (records_of records))) (after NoMessage words values))
    ∙ ap (λ (x : AfterTaking). pick (eqb (length words) message_words) x (after NoMessage words values))
    (pick_same (eqb (length values) 8192) (after NoMessage words values))
    ∙ pick_same (eqb (length words) message_words) (after NoMessage words values))

-- how many records stand in words of lent ones
lent_length : (fs : List FieldRecord) → length (records_of (words_lent fs)) ≡ length fs
lent_length fs = ap length (lent_records fs) ∙ length_from fs

pub first_of : (count : ℕ) (rs : List Record) → between 0 count rs ≡ take count rs
unfolding between
first_of count rs = let e : count - 0 ≡ count = omega arith in ap (λ (n : ℕ). take n rs) e

first-same : (fs : List FieldRecord) (count : ℕ) → between 0 count (records_of (words_lent (take count fs))) ≡ between 0 count (records_of (words_lent fs))
first-same fs count =
    first_of count (records_of (words_lent (take count fs))) ∙ ap (take count) (lent_records (take count fs) ∙ take-from count fs)
    ∙ take-take count count (records_from fs) (omega arith)
    ∙ ap (take count) (sym (lent_records fs)) ∙ sym (first_of count (records_of (words_lent fs)))

module _ (fs : List FieldRecord) (count : ℕ) (bytes words values : List ℕ) where
  abbrev of : List FieldRecord → AfterTaking
  of gs = taking_over (words_lent gs) count bytes words values

  -- all of them are read
  read_same : count ≤ length fs → of (take count fs) ≡ of fs
  read_same h =
      same_answer (words_lent (take count fs)) (words_lent fs) count bytes words values
      (le-leb count _ (omega (arith, lent_length (take count fs), length-take-le count fs h)) ∙ sym (le-leb count _ (omega (arith, lent_length fs, h))))
      (first-same fs count)

  -- none is read, and the count is refused
  none-same : 0 < count → of fs ≡ after NoMessage words values → of [] ≡ of fs
  none-same h e = none-there (words_lent []) count bytes words values (lt-leb count _ (omega (arith, lent_length [], h))) ∙ sym e

  by_count : (a : Bool) → leb count (length fs) ≡ a → (b : Bool) → leb count 1024 ≡ b → of (take (read_count (length fs) count) fs) ≡ of fs
  by_count true ea true eb =
      ap (λ (n : ℕ). of (take n fs)) (sym (read_all (length fs) count (leb-true count (length fs) ea) (leb-true count 1024 eb)))
      ∙ read_same (leb-true count (length fs) ea)
  by_count true ea false eb =
      ap (λ (n : ℕ). of (take n fs)) (sym (read-over (length fs) count (leb-true count (length fs) ea) (leb-false count 1024 eb)))
      ∙ none-same (omega (arith, leb-false count 1024 eb)) (too_many (words_lent fs) count bytes words values eb)
  by_count false ea b eb =
      ap (λ (n : ℕ). of (take n fs)) (sym (read_past (length fs) count (leb-false count (length fs) ea)))
      ∙ none-same (omega (arith, leb-false count (length fs) ea))
      (none-there (words_lent fs) count bytes words values (lt-leb count _ (omega (arith, lent_length fs, leb-false count (length fs) ea))))

  -- it answers as it does of all that are lent
  pub taking-read : of (take (read_count (length fs) count) fs) ≡ of fs
  taking-read = by_count (leb count (length fs)) refl (leb count 1024) refl

-- no more are read than are lent, and than there is room for
pub read-within : (lent count : ℕ) → read_count lent count ≤ lent
unfolding read_count
read-within lent count = by_tests (ltb lent count) refl
  where
    by_tests : (a : Bool) → ltb lent count ≡ a → pick a 0 (pick (ltb 1024 count) 0 count) ≤ lent
    by_tests true e = omega arith
    by_tests false e = inner (ltb 1024 count)
      where
        inner : (b : Bool) → pick b 0 count ≤ lent
        inner true = omega arith
        inner false = ltb-false lent count e

pub read_most : (lent count : ℕ) → read_count lent count ≤ 1024
unfolding read_count
read_most lent count = by_tests (ltb lent count)
  where
    inner : (b : Bool) → ltb 1024 count ≡ b → pick b 0 count ≤ 1024
    inner true e = omega arith
    inner false e = ltb-false 1024 count e

    by_tests : (a : Bool) → pick a 0 (pick (ltb 1024 count) 0 count) ≤ 1024
    by_tests true = omega arith
    by_tests false = inner (ltb 1024 count) refl

-- what the walk hears of the core, as its caller reads it
pub taken_from : (fs : List FieldRecord) (count read : ℕ) (laid bytes words values : List ℕ) → read ≡ read_count (length fs) count
    → laid ≡ put_fields fs read (replicate record_words 0)
    → taking_over (take (stride * read) laid) count bytes words values ≡ taking_over (words_lent fs) count bytes words values
taken_from fs count read laid bytes words values er el =
    ap (λ (ws : List ℕ). taking_over ws count bytes words values)
    (ap (take (stride * read)) el ∙ ap (λ (n : ℕ). take (stride * n) (put_fields fs n (replicate record_words 0))) er
    ∙ put-words fs (read_count (length fs) count) (read-within (length fs) count) (read_most (length fs) count))
    ∙ taking-read fs count bytes words values
