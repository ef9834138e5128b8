-- The lengths that are told are 8,192 at the most: of an encoding, of a message from the ported framer, of a frame from the hunting one.
use Rattle.std.specs.Prelude.{ℕ, ◌≤◌, ◌≡◌, Bool, List, length, take, ltb, Option, Some, None, Result, Ok, Err}
use Rattle.std.proofs.Math.Path.{refl, ap}
use Rattle.std.proofs.Math.Bool.{true, false}
use native.Mathlib.Omega.{arith}
use Rattle.std.proofs.Common.{ltb-true, ltb-false}
use Rattle.field_rules.specs.Choice.{pick}
use Rattle.encode_rules.specs.Encode.{length_of_encoding, encode_verdict, encoded, encoding_of}
use Rattle.encode_rules.specs.declared.Encoding.{Encoding}
use Rattle.encoder.specs.VerdictLaws.{fit_to-encode, encodes, refuses}
use Rattle.encoder.specs.EncodedLaws.{never_written}
use Rattle.encode_rules.specs.declared.Encoding.TheVariants as encodings
use Rattle.frame_verdict_rules.specs.Frame.{frame_most}
use Rattle.frame_parser_rules.specs.Announced.{announced_in}
use Rattle.frame_parser_rules.specs.AnnouncedLaws.{announced_limit}
use Rattle.frame_parser_rules.specs.Framer.{length_returned, held, unusable, ready_of, ready_answer, take_answer, taken}
use Rattle.frame_parser_rules.proofs.FramerLaws.{ready_in}
use Rattle.frame_parser_rules.specs.declared.State.{State}
use Rattle.frame_parser_rules.specs.declared.Answer.TheVariants as answers
use Rattle.frame_verdict_rules.specs.Verdict.{verdict_of}
use Rattle.frame_hunter_rules.specs.Hunt.{hunt_from}
use Rattle.frame_hunter_rules.specs.Bytes.{unfit, refused_take_lem, unmoved, took_from}
use Rattle.frame_hunter_rules.proofs.BytesLaws.{fits, hunt_small, take_fine, take-unfit, take_short}
use Rattle.frame_hunter_rules.specs.declared.State.{State as HunterState}
use Rattle.frame_hunter_rules.specs.declared.Taken.{Taken}
use Rattle.face_told.specs.Told.{encoding_length}

-- "Encode: .. 20": an encoding that is longer is refused
pub encoded_small : (separator : ℕ) (words values output : List ℕ) → encoding_length (encoding_of separator words values output) ≤ 8192
encoded_small separator words values output = by_verdict (encode_verdict separator words values (length output)) refl
  where
    refused_none : (e : Encoding) → encode_verdict separator words values (length output) ≡ Err e → length_of_encoding e ≤ 8192
    refused_none (encodings.Written n) v = absurd (never_written separator words values (length output) n v)
    refused_none encodings.NoMessage v = unfold length_of_encoding in omega arith
    refused_none encodings.InvalidSeparator v = unfold length_of_encoding in omega arith
    refused_none encodings.Incomplete v = unfold length_of_encoding in omega arith
    refused_none encodings.TooLong v = unfold length_of_encoding in omega arith
    refused_none encodings.TooManyFields v = unfold length_of_encoding in omega arith
    refused_none encodings.NoRoom v = unfold length_of_encoding in omega arith

    by_verdict : (d : Result ℕ Encoding) → encode_verdict separator words values (length output) ≡ d → encoding_length (encoding_of separator words values output) ≤ 8192
    by_verdict (Ok body) d =
        rw (encodes separator words values output body d)
        (unfold encoded encoding_length length_of_encoding in (fit_to-encode separator words values output body d).short)
    by_verdict (Err e) d = rw (refuses separator words values output e d) (unfold encoding_length in refused_none e d)

-- a message from the ported framer's store, whatever state and store are lent
pub ported_small : (state : State) (store output : List ℕ) → length_returned (taken state store output).answer ≤ 8192
unfolding taken take_answer
ported_small state store output = by_tests (unusable state.used store) (ltb (length output) 8192) state.over
  where
    by_ready : (r : Option ℕ) → ready_of state.used (announced_in (held state store)) ≡ r → length_returned (ready_answer r) ≤ 8192
    by_ready (Some n) e =
        unfold ready_answer length_returned in (ready_in state.used n (announced_in (held state store)) (announced_limit (held state store)) e).1
    by_ready None e = unfold ready_answer length_returned in omega arith

    by_tests : (x y z : Bool)
        → length_returned
        (pick x answers.BadStore
        (pick y answers.ShortOutput (pick z answers.OverLong (ready_answer (ready_of state.used (announced_in (held state store)))))))
        ≤ 8192
    by_tests true y z = unfold length_returned in omega arith
    by_tests false true z = unfold length_returned in omega arith
    by_tests false false true = unfold length_returned in omega arith
    by_tests false false false = by_ready _ refl

-- a frame from the hunting framer's store
pub hunter_small : (state : HunterState) (store output : List ℕ) → (took_from state store output).taken.length ≤ 8192
hunter_small state store output = by_unfit (unfit state (length store)) refl
  where
    by_output : (b : Bool) → ltb (length output) frame_most ≡ b → unfit state (length store) ≡ false → (took_from state store output).taken.length ≤ 8192
    by_output true e u = rw (take_short state store output u (ltb-true (length output) frame_most e)) (unfold unmoved refused_take_lem in omega arith)
    by_output false e u =
        let h = hunt_from verdict_of state.ended (take state.used store) in
        let m = take_fine state store output h u (ltb-false (length output) frame_most e) refl in
        omega (arith, ap (λ (t : Taken). t.length) m.taken_is, hunt_small state store output h (fits state store u) refl)

    by_unfit : (b : Bool) → unfit state (length store) ≡ b → (took_from state store output).taken.length ≤ 8192
    by_unfit true u = rw (take-unfit state store output u) (unfold unmoved refused_take_lem in omega arith)
    by_unfit false u = by_output (ltb (length output) frame_most) refl u
