-- One law for each way of the small functions around a build: the records that are shown, blanking, the standard tags.
use Rattle.std.specs.Prelude.{◌≡◌, List, [], ◌∷◌, ◌++◌, ℕ, suc, ◌+◌, ◌-◌, ◌*◌, ◌≤◌, ◌<◌, length, take, drop, set, get_or, replicate}
use Rattle.std.proofs.Common.{sym, ap, ◌∙◌, append_assoc, append-nil, arith, length-append, take-append-drop, drop_of_length-le, drop-cons, length-take-le, take_at}
use Rattle.std.proofs.lemmas.List.{length-replicate, replicate-append-replicate, set_at}
use borrow.Author.Tests.{eq-eqb, ne_eqb, le-leb, lt-leb}
use Rattle.build_config.specs.declared.Config.{Config}
use Rattle.dictionary_rules.specs.Check.{number_of_check}
use Rattle.dictionary_rules.specs.declared.Checked.{Checked}
use Rattle.dictionary_meaning_rules.specs.Meaning.{dictionary_of}
use Rattle.build_records.specs.Records.{records_of, leftover, laid, between, record_words, record_room, stride}
use Rattle.build_records.proofs.WordLaws.{words-whole, laid-append, laid-length, records_length}
use Rattle.build_records.specs.declared.Record.{Record}
use Rattle.build_answers.specs.declared.Answer.{Answer}
use Rattle.build_answers.specs.declared.Answer.TheVariants.{BadDictionary}
use Rattle.build_answers.specs.Answer.{number_of}
use Rattle.build_parts.specs.Parts.{part_of}
use Rattle.build_parts.specs.PartLaws.{parted, part_length}
use Rattle.build_rules.specs.Message.{refusal, message_read}
use Rattle.builder.specs.Reading.{shown_count}
use Rattle.builder.specs.Build.{words_with, checked_read}

module _ (answer : Answer) (header n : ℕ) (e : n ≡ number_of answer) where
  pub shows-none : n < 1 → shown_count answer header ≡ 0
  unfolding shown_count
  shows-none h = rw (← e, lt-leb 1 n h)

  pub shows_nothing : 1 ≤ n → 4 < n → shown_count answer header ≡ 0
  unfolding shown_count
  shows_nothing l h = rw (← e, le-leb 1 n l, lt-leb n 4 h)

  pub shows-header : 1 ≤ n → n ≤ 4 → shown_count answer header ≡ header
  unfolding shown_count
  shows-header l h = rw (← e, le-leb 1 n l, le-leb n 4 h)

-- blanking one word more
pub blank_step : (words : List ℕ) (n i : ℕ) → n ≤ i → i < length words → set (take n words ++ (replicate (i - n) 0 ++ drop i words)) i 0 ≡ take n words ++ (replicate (i + 1 - n) 0 ++ drop (i + 1) words)
blank_step words n i l h =
    let one : suc i ≡ i + 1 = omega arith in
    let more : i + 1 - n ≡ i - n + 1 = omega arith in
    let front : List ℕ = take n words ++ replicate (i - n) 0 in
    let size : length front ≡ i = length-append (take n words) (replicate (i - n) 0) ∙ omega (arith, length-take-le n words (omega arith), length-replicate {A = ℕ} (i - n) 0) in
    ap (λ (rest : List ℕ). set (take n words ++ (replicate (i - n) 0 ++ rest)) i 0) (drop-cons words i 0 h)
    ∙ ap (λ (l : List ℕ). set l i 0) (sym (append_assoc (take n words) (replicate (i - n) 0) (get_or words i 0 ∷ drop (suc i) words)))
    ∙ set_at front (get_or words i 0) (drop (suc i) words) 0 i size
    ∙ append_assoc (take n words) (replicate (i - n) 0) (0 ∷ drop (suc i) words)
    ∙ ap (λ (l : List ℕ). take n words ++ l) (sym (append_assoc (replicate (i - n) 0) (0 ∷ []) (drop (suc i) words)) ∙ ap (λ (l : List ℕ). l ++ drop (suc i) words) (replicate-append-replicate {A = ℕ} (i - n) 1 0))
    ∙ rw (one, more)

pub blank-start : (words : List ℕ) (n : ℕ) → words ≡ take n words ++ (replicate (n - n) 0 ++ drop n words)
blank-start words n = let none : n - n ≡ 0 = omega arith in rw none (sym (take-append-drop n words))

pub blank-end : (words : List ℕ) (n i : ℕ) → length words ≡ record_words → i ≡ record_words → take n words ++ (replicate (i - n) 0 ++ drop i words) ≡ take n words ++ replicate (record_words - n) 0
blank-end words n i size e = ap (λ (l : List ℕ). take n words ++ (replicate (i - n) 0 ++ l)) (drop_of_length-le words {i = i} (omega arith)) ∙ rw e (ap (λ (l : List ℕ). take n words ++ l) (append-nil (replicate (record_words - n) 0)))

-- the words of so many records, and zeros behind them
pub blanked : (words : List ℕ) (n : ℕ) → length words ≡ record_words → n ≤ record_room → take (stride * n) words ++ replicate (record_words - stride * n) 0 ≡ words_with (part_of 0 n words)
unfolding words_with part_of
blanked words n size few =
    let rs : List Record = records_of words in
    let count : length (between 0 n rs) ≡ n = part_length rs 0 n (omega arith) (omega (arith, records_length words)) ∙ omega arith in
    let whole : words ≡ laid (between 0 n rs) ++ (laid (drop n rs) ++ leftover words) =
    sym (words-whole words) ∙ ap (λ (l : List Record). laid l ++ leftover words) (parted rs 0 n (omega arith)) ∙ ap (λ (l : List ℕ). l ++ leftover words) (laid-append (between 0 n rs) (drop n rs)) ∙ append_assoc (laid (between 0 n rs)) (laid (drop n rs)) (leftover words) in
    let long : length (laid (between 0 n rs)) ≡ stride * n = laid-length (between 0 n rs) ∙ omega (arith, count) in
    let front : take (stride * n) words ≡ laid (between 0 n rs) = ap (take (stride * n)) whole ∙ take_at (laid (between 0 n rs)) (laid (drop n rs) ++ leftover words) (stride * n) long in
    rw (front, long)

pub part_count : (words : List ℕ) (n : ℕ) → length words ≡ record_words → n ≤ record_room → length (part_of 0 n words) ≡ n
unfolding part_of
part_count words n size few = part_length (records_of words) 0 n (omega arith) (omega (arith, records_length words)) ∙ omega arith

module _ (message : List ℕ) (config : Config) (d : List ℕ) (checked : Checked) where
  pub check-refuses : (number_of_check checked ≡ 0 → ⊥) → checked_read message config d checked ≡ refusal (BadDictionary checked) []
  unfolding checked_read
  check-refuses n = rw (ne_eqb (number_of_check checked) 0 n)

  pub check-reads : number_of_check checked ≡ 0 → checked_read message config d checked ≡ message_read (dictionary_of d) config message
  unfolding checked_read
  check-reads e = rw (eq-eqb (number_of_check checked) 0 e)
