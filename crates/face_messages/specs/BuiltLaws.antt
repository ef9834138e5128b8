-- What is told of a build follows from its outcome.
use Rattle.std.specs.Prelude.{ℕ, ◌*◌, ◌≤◌, ◌≡◌, List, length, take}
use Rattle.std.proofs.Common.{sym, ap, ◌∙◌, subst}
use Rattle.build_answers.specs.Answer.{number_of, values_of}
use Rattle.build_records.specs.Records.{record_words, record_room, stride}
use Rattle.builder.specs.declared.Built.{Built}
use Rattle.builder.specs.Build.{BuildOutcome, built_told, shown_words}
use Rattle.builder.proofs.ReadingLaws.{shown-front}
use Rattle.face_told.specs.Told.{told}
use Rattle.face_messages.specs.declared.Shown.{Shown}
use Rattle.face_messages.specs.Lent.{shown_of, told_of}

-- a build's answer, words and values are those of its outcome
pub built_told_lem : (b : Built) (words : List ℕ) (o : BuildOutcome) → built_told b words ≡ o → (r : Shown)
    → r ≡ record { number = number_of b.answer; records = b.records; written = b.written } → (out : List ℕ)
    → out ≡ told b.records (values_of b.answer) →
    (r ≡ shown_of o) × (words ≡ o.words) × (out ≡ told_of o)
unfolding built_told shown_of told_of
built_told_lem b words o e r s out t = (s ∙ ap shown_of e, ap (λ (x : BuildOutcome). x.words) e, t ∙ ap told_of e)

-- and of words that are left as they were behind the records, those of the records are the outcome's
pub unblanked_told : (b : Built) (words : List ℕ) (o : BuildOutcome) → built_told b (shown_words b words) ≡ o
    → (b.records ≤ record_room) × (length words ≡ record_words) → (r : Shown)
    → r ≡ record { number = number_of b.answer; records = b.records; written = b.written } → (out : List ℕ)
    → out ≡ told b.records (values_of b.answer) →
    (r ≡ shown_of o) × (take (stride * r.records) words ≡ take (stride * r.records) o.words) × (out ≡ told_of o)
unblanked_told b words o e (few, size) r s out t =
    let whole = built_told_lem b (shown_words b words) o e r s out t in (
      whole.0,
      subst (λ (n : ℕ). take (stride * n) words ≡ take (stride * n) o.words) (sym (ap (λ (z : Shown). z.records) s))
          (sym (shown-front b words few size) ∙ ap (take (stride * b.records)) whole.1),
      whole.2,
    )
