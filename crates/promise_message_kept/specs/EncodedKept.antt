-- What encoding leaves is a message, with zeros behind it; what it refuses leaves everything as it was, and 27 is answered where no message is lent.
use Rattle.std.specs.Prelude.{◌≡◌, refl, true, List, ◌++◌, ℕ, length, Result, Ok, Err}
use Rattle.std.proofs.Common.{◌∙◌, arith}
use Rattle.std.proofs.Math.ListN.{drop}
use Rattle.message_lent_rules.specs.Lent.{is_message}
use Rattle.message_lent_rules.specs.Meaning.{Message, words_of, value_bytes_of, message_in}
use Rattle.message_lent_rules.proofs.FormedLaws.{IsLayout, is_layout_lends}
use Rattle.encode_rules.specs.Encoding.{encoding, encoded_message}
use Rattle.encode_rules.specs.Encode.{encode_verdict, left, encoded, encoding_of, number_of_encoding}
use Rattle.encode_rules.specs.declared.Encoding.{Encoding}
use Rattle.encode_rules.specs.declared.Encoding.TheVariants.{Written, NoMessage, InvalidSeparator, Incomplete, TooLong, TooManyFields, NoRoom}
use Rattle.encoder.specs.VerdictLaws.{encodes, refuses}
use Rattle.encoder.specs.EncodedLaws.{never_written, never_none, encode_layout}
use Rattle.promise_message_kept.specs.Calls.{written}
use Rattle.promise_message_kept.specs.Keeping.{Keeps, refused_keeps, made_keeps}

-- an encoding that is written
written_keeps : {zeroed : List ℕ → List ℕ → Type 0} {fit : Type 0} {words values : List ℕ} (n : ℕ) (w v output : List ℕ) → is_message w v ≡ true → zeroed w v
    → Keeps is_message zeroed fit words values (written (left (Written n) w v output))
unfolding written number_of_encoding
written_keeps n w v output lent zeros = made_keeps w v lent zeros

pub encoded-kept : (separator : ℕ) (words values output : List ℕ) (zeroed : List ℕ → List ℕ → Type 0) (fit : Type 0) → ((m : Message) (w v : List ℕ) → IsLayout m w v → zeroed w v)
    → Keeps is_message zeroed fit words values (written (encoding_of separator words values output))
encoded-kept separator words values output zeroed fit zeros = by_verdict (encode_verdict separator words values (length output)) refl
  where
    by_refusal : (r : Encoding) → encode_verdict separator words values (length output) ≡ Err r → Keeps is_message zeroed fit words values (record { answer = number_of_encoding r; words = words; values = values })
    by_refusal (Written n) d = absurd (never_written separator words values (length output) n d)
    by_refusal NoMessage d = unfold number_of_encoding in refused_keeps 27 (λ e. omega arith) (λ h f e. never_none separator words values (length output) h d)
    by_refusal InvalidSeparator d = unfold number_of_encoding in refused_keeps 22 (λ e. omega arith) (λ h f e. omega arith)
    by_refusal Incomplete d = unfold number_of_encoding in refused_keeps 43 (λ e. omega arith) (λ h f e. omega arith)
    by_refusal TooLong d = unfold number_of_encoding in refused_keeps 20 (λ e. omega arith) (λ h f e. omega arith)
    by_refusal TooManyFields d = unfold number_of_encoding in refused_keeps 21 (λ e. omega arith) (λ h f e. omega arith)
    by_refusal NoRoom d = unfold number_of_encoding in refused_keeps 23 (λ e. omega arith) (λ h f e. omega arith)

    by_verdict : (d : Result ℕ Encoding) → encode_verdict separator words values (length output) ≡ d → Keeps is_message zeroed fit words values (written (encoding_of separator words values output))
    by_verdict (Err r) d = rw (refuses separator words values output r d) (unfold written in by_refusal r d)
    by_verdict (Ok body) d =
        let m = message_in words values in
        let n = encoded_message separator m in
        let e : encoding_of separator words values output ≡ left (Written (length (encoding separator m))) (words_of n) (value_bytes_of n) (encoding separator m ++ drop (length (encoding separator m)) output) =
        encodes separator words values output body d ∙ (unfold encoded in refl) in
        let l = (encode_layout separator words values output _ (words_of n) (value_bytes_of n) _ e).1 in
        rw e (written_keeps (length (encoding separator m)) (words_of n) (value_bytes_of n) (encoding separator m ++ drop (length (encoding separator m)) output) (is_layout_lends n _ _ l).is_message (zeros n _ _ l))
