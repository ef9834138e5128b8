-- `write_tail` meets its contract: after each piece, what is left on what is written is the whole.
use mathlib.Core.Path.{◌≡◌, ap, ◌∙◌}
use mathlib.Core.List.{List, [], ◌∷◌, ◌++◌}
use Prim.Native.Nat.{ℕ, ◌+◌, ◌≤◌}
use native.Mathlib.Omega.{arith}
use lib.ListN.{length, take}
use Rattle.field_rules.specs.CheckSum.{checksum_digits}
use Rattle.field_rules.specs.Decimal.{written_at}
use Rattle.encode_rules.specs.Encoding.{sum_digits}
use Rattle.encode_rows.specs.Writing.{tail_of}
use Rattle.encode_rows.specs.WritingLaws.{Rest, rest-start, rest-step, rest-room, rest-last, rest-done}
use Rattle.encode_rows.proofs.write_tail.Goals as goal

pub write_bytes-second-requires : goal.write_bytes-second-requires
unfolding tail_of
write_bytes-second-requires c =
    let digits-at : c.checksum_digits-digits.result ≡ sum_digits (take c.args.at c.args.output.now) = unfold sum_digits in c.checksum_digits-digits.ensures ∙ ap checksum_digits c.sum_before-sum.ensures in
    let room_at : c.args.at + length (tail_of c.args.separator (take c.args.at c.args.output.now)) ≤ length c.args.output.now = unfold tail_of sum_digits checksum_digits in omega (arith, c.requires) in
    let rest-1 : Rest c.args.at (tail_of c.args.separator (take c.args.at c.args.output.now)) c.args.output.now c.write_bytes-first.new.output c.write_bytes-first.result
    (sum_digits (take c.args.at c.args.output.now) ++ (c.args.separator ∷ [])) = unfold tail_of in rest-step _ _ _ _ _ (room_at) (49 ∷ 48 ∷ 61 ∷ []) (sum_digits (take c.args.at c.args.output.now) ++ (c.args.separator ∷ [])) (rest-start _ _ _) _ _
    c.write_bytes-first.ensures.value c.write_bytes-first.ensures.output_after in
    rw (digits-at) (rest-room _ _ _ _ _ (room_at) (sum_digits (take c.args.at c.args.output.now)) (c.args.separator ∷ [])
    (rest-1))

pub write_bytes-requires : goal.write_bytes-requires
unfolding tail_of
write_bytes-requires c =
    let room_at : c.args.at + length (tail_of c.args.separator (take c.args.at c.args.output.now)) ≤ length c.args.output.now = unfold tail_of sum_digits checksum_digits in omega (arith, c.requires) in
    let digits-at : c.checksum_digits-digits.result ≡ sum_digits (take c.args.at c.args.output.now) = unfold sum_digits in c.checksum_digits-digits.ensures ∙ ap checksum_digits c.sum_before-sum.ensures in
    let rest-1 : Rest c.args.at (tail_of c.args.separator (take c.args.at c.args.output.now)) c.args.output.now c.write_bytes-first.new.output c.write_bytes-first.result
    (sum_digits (take c.args.at c.args.output.now) ++ (c.args.separator ∷ [])) = unfold tail_of in rest-step _ _ _ _ _ (room_at) (49 ∷ 48 ∷ 61 ∷ []) (sum_digits (take c.args.at c.args.output.now) ++ (c.args.separator ∷ [])) (rest-start _ _ _) _ _
    c.write_bytes-first.ensures.value c.write_bytes-first.ensures.output_after in
    let rest-2 : Rest c.args.at (tail_of c.args.separator (take c.args.at c.args.output.now)) c.args.output.now c.write_bytes-second.new.output c.write_bytes-second.result
    (c.args.separator ∷ []) = rest-step _ _ _ _ _ (room_at) (sum_digits (take c.args.at c.args.output.now)) (c.args.separator ∷ []) (rest-1) _ _
    (c.write_bytes-second.ensures.value ∙ ap (λ (l : List ℕ). c.write_bytes-first.result + length l) (digits-at))
    (c.write_bytes-second.ensures.output_after ∙ ap (λ (l : List ℕ). written_at c.write_bytes-first.result l c.write_bytes-first.new.output)
    (digits-at)) in
    rest-last _ _ _ _ _ (room_at) _ (rest-2)

pub returns : goal.returns
unfolding tail_of
returns c =
    let room_at : c.args.at + length (tail_of c.args.separator (take c.args.at c.args.output.now)) ≤ length c.args.output.now = unfold tail_of sum_digits checksum_digits in omega (arith, c.requires) in
    let digits-at : c.checksum_digits-digits.result ≡ sum_digits (take c.args.at c.args.output.now) = unfold sum_digits in c.checksum_digits-digits.ensures ∙ ap checksum_digits c.sum_before-sum.ensures in
    let rest-1 : Rest c.args.at (tail_of c.args.separator (take c.args.at c.args.output.now)) c.args.output.now c.write_bytes-first.new.output c.write_bytes-first.result
    (sum_digits (take c.args.at c.args.output.now) ++ (c.args.separator ∷ [])) = unfold tail_of in rest-step _ _ _ _ _ (room_at) (49 ∷ 48 ∷ 61 ∷ []) (sum_digits (take c.args.at c.args.output.now) ++ (c.args.separator ∷ [])) (rest-start _ _ _) _ _
    c.write_bytes-first.ensures.value c.write_bytes-first.ensures.output_after in
    let rest-2 : Rest c.args.at (tail_of c.args.separator (take c.args.at c.args.output.now)) c.args.output.now c.write_bytes-second.new.output c.write_bytes-second.result
    (c.args.separator ∷ []) = rest-step _ _ _ _ _ (room_at) (sum_digits (take c.args.at c.args.output.now)) (c.args.separator ∷ []) (rest-1) _ _
    (c.write_bytes-second.ensures.value ∙ ap (λ (l : List ℕ). c.write_bytes-first.result + length l) (digits-at))
    (c.write_bytes-second.ensures.output_after ∙ ap (λ (l : List ℕ). written_at c.write_bytes-first.result l c.write_bytes-first.new.output)
    (digits-at)) in
    (rest-done _ _ _ _ _ (room_at) _ (rest-2) _ _ c.write_bytes.ensures.value
    c.write_bytes.ensures.output_after).1
