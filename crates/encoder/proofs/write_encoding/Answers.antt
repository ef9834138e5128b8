-- `write_encoding` meets its contract: each step leaves the message that the next one asks for, with zeros behind it.
use mathlib.Core.Path.{◌≡◌, refl, ap, ◌∙◌}
use mathlib.Core.List.{List, ◌++◌}
use Prim.Native.Nat.{ℕ, ◌-◌, ◌≤◌}
use native.Mathlib.Omega.{arith}
use lib.ListN.{length, take, drop}
use Rattle.message_lent_rules.specs.Meaning.{message_in}
use Rattle.message_lent_rules.proofs.FormedLaws.{Lends}
use Rattle.encode_rules.specs.Encoding.{dropped, measured, encoding}
use Rattle.encoder.specs.SizeLaws.{encoding_length}
use Rattle.encoder.specs.LeavingLaws.{after-drop, blank-drop, after-length, blank-length, has_room, writes, sum-read, after-sum, all_left}
use Rattle.encoder.proofs.write_encoding.Goals as goal

pub set_body_length-requires : goal.set_body_length-requires
set_body_length-requires c =
    let dropped-left : Lends c.remove_in.new.words c.remove_in.new.values (dropped (message_in c.args.words.now c.args.values.now)) = after-drop _ _ _ _ _ c.requires _ _ _ c.remove_in.ensures in
    record { values_value = (dropped-left).is_message; blank = blank-drop _ _ _ _ _ c.requires _ _ _ c.remove_in.ensures }

pub write_message-length-requires : goal.write_message-length-requires
write_message-length-requires c =
    let dropped-left : Lends c.remove_in.new.words c.remove_in.new.values (dropped (message_in c.args.words.now c.args.values.now)) = after-drop _ _ _ _ _ c.requires _ _ _ c.remove_in.ensures in
    let measured-left : Lends c.set_body_length.new.words c.set_body_length.new.values (measured (dropped (message_in c.args.words.now c.args.values.now))) = after-length _ _ _ _ _ c.requires _ _ (dropped-left) _ _ _ c.set_body_length.ensures in
    let room = has_room _ _ _ _ c.args.output.now (measured-left) in
    record { values_value = (measured-left).is_message; values_len_bound = (room 8192 c.requires.short, room _ c.requires.room) }

pub overflow_sub-first : goal.overflow_sub-first
overflow_sub-first c =
    let dropped-left : Lends c.remove_in.new.words c.remove_in.new.values (dropped (message_in c.args.words.now c.args.values.now)) = after-drop _ _ _ _ _ c.requires _ _ _ c.remove_in.ensures in
    let measured-left : Lends c.set_body_length.new.words c.set_body_length.new.values (measured (dropped (message_in c.args.words.now c.args.values.now))) = after-length _ _ _ _ _ c.requires _ _ (dropped-left) _ _ _ c.set_body_length.ensures in
    let written : (c.write_message-length.result ≡ length (encoding c.args.separator (message_in c.args.words.now c.args.values.now)))
    × (c.write_message-length.new.output ≡ encoding c.args.separator (message_in c.args.words.now c.args.values.now)
    ++ drop (length (encoding c.args.separator (message_in c.args.words.now c.args.values.now))) c.args.output.now) = writes _ _ _ _ _ (measured-left) c.requires.room _ _ c.write_message-length.ensures.value c.write_message-length.ensures.output_after in
    let long : 10 ≤ c.write_message-length.result = omega (arith, (written).0, encoding_length c.args.separator (message_in c.args.words.now c.args.values.now)) in
    omega (arith, long)

pub overflow_sub-last : goal.overflow_sub-last
overflow_sub-last c =
    let dropped-left : Lends c.remove_in.new.words c.remove_in.new.values (dropped (message_in c.args.words.now c.args.values.now)) = after-drop _ _ _ _ _ c.requires _ _ _ c.remove_in.ensures in
    let measured-left : Lends c.set_body_length.new.words c.set_body_length.new.values (measured (dropped (message_in c.args.words.now c.args.values.now))) = after-length _ _ _ _ _ c.requires _ _ (dropped-left) _ _ _ c.set_body_length.ensures in
    let written : (c.write_message-length.result ≡ length (encoding c.args.separator (message_in c.args.words.now c.args.values.now)))
    × (c.write_message-length.new.output ≡ encoding c.args.separator (message_in c.args.words.now c.args.values.now)
    ++ drop (length (encoding c.args.separator (message_in c.args.words.now c.args.values.now))) c.args.output.now) = writes _ _ _ _ _ (measured-left) c.requires.room _ _ c.write_message-length.ensures.value c.write_message-length.ensures.output_after in
    let long : 10 ≤ c.write_message-length.result = omega (arith, (written).0, encoding_length c.args.separator (message_in c.args.words.now c.args.values.now)) in
    omega (arith, long)

pub slice_bounds-store_in-count : goal.slice_bounds-store_in-count
slice_bounds-store_in-count c =
    let dropped-left : Lends c.remove_in.new.words c.remove_in.new.values (dropped (message_in c.args.words.now c.args.values.now)) = after-drop _ _ _ _ _ c.requires _ _ _ c.remove_in.ensures in
    let measured-left : Lends c.set_body_length.new.words c.set_body_length.new.values (measured (dropped (message_in c.args.words.now c.args.values.now))) = after-length _ _ _ _ _ c.requires _ _ (dropped-left) _ _ _ c.set_body_length.ensures in
    let written : (c.write_message-length.result ≡ length (encoding c.args.separator (message_in c.args.words.now c.args.values.now)))
    × (c.write_message-length.new.output ≡ encoding c.args.separator (message_in c.args.words.now c.args.values.now)
    ++ drop (length (encoding c.args.separator (message_in c.args.words.now c.args.values.now))) c.args.output.now) = writes _ _ _ _ _ (measured-left) c.requires.room _ _ c.write_message-length.ensures.value c.write_message-length.ensures.output_after in
    let long : 10 ≤ c.write_message-length.result = omega (arith, (written).0, encoding_length c.args.separator (message_in c.args.words.now c.args.values.now)) in
    omega (arith, long)

pub slice_bounds-store_in-end : goal.slice_bounds-store_in-end
slice_bounds-store_in-end c =
    let dropped-left : Lends c.remove_in.new.words c.remove_in.new.values (dropped (message_in c.args.words.now c.args.values.now)) = after-drop _ _ _ _ _ c.requires _ _ _ c.remove_in.ensures in
    let measured-left : Lends c.set_body_length.new.words c.set_body_length.new.values (measured (dropped (message_in c.args.words.now c.args.values.now))) = after-length _ _ _ _ _ c.requires _ _ (dropped-left) _ _ _ c.set_body_length.ensures in
    let written : (c.write_message-length.result ≡ length (encoding c.args.separator (message_in c.args.words.now c.args.values.now)))
    × (c.write_message-length.new.output ≡ encoding c.args.separator (message_in c.args.words.now c.args.values.now)
    ++ drop (length (encoding c.args.separator (message_in c.args.words.now c.args.values.now))) c.args.output.now) = writes _ _ _ _ _ (measured-left) c.requires.room _ _ c.write_message-length.ensures.value c.write_message-length.ensures.output_after in
    let long : 10 ≤ c.write_message-length.result = omega (arith, (written).0, encoding_length c.args.separator (message_in c.args.words.now c.args.values.now)) in
    omega (arith, long, (written).0, c.requires.room)

pub store_in-requires : goal.store_in-requires
store_in-requires c =
    let dropped-left : Lends c.remove_in.new.words c.remove_in.new.values (dropped (message_in c.args.words.now c.args.values.now)) = after-drop _ _ _ _ _ c.requires _ _ _ c.remove_in.ensures in
    let measured-left : Lends c.set_body_length.new.words c.set_body_length.new.values (measured (dropped (message_in c.args.words.now c.args.values.now))) = after-length _ _ _ _ _ c.requires _ _ (dropped-left) _ _ _ c.set_body_length.ensures in
    record { values_value = (measured-left).is_message; blank = blank-length _ _ _ _ _ c.requires _ _ (dropped-left) _ _ _ c.set_body_length.ensures }

pub returns : goal.returns
returns c =
    let dropped-left : Lends c.remove_in.new.words c.remove_in.new.values (dropped (message_in c.args.words.now c.args.values.now)) = after-drop _ _ _ _ _ c.requires _ _ _ c.remove_in.ensures in
    let measured-left : Lends c.set_body_length.new.words c.set_body_length.new.values (measured (dropped (message_in c.args.words.now c.args.values.now))) = after-length _ _ _ _ _ c.requires _ _ (dropped-left) _ _ _ c.set_body_length.ensures in
    let written : (c.write_message-length.result ≡ length (encoding c.args.separator (message_in c.args.words.now c.args.values.now)))
    × (c.write_message-length.new.output ≡ encoding c.args.separator (message_in c.args.words.now c.args.values.now)
    ++ drop (length (encoding c.args.separator (message_in c.args.words.now c.args.values.now))) c.args.output.now) = writes _ _ _ _ _ (measured-left) c.requires.room _ _ c.write_message-length.ensures.value c.write_message-length.ensures.output_after in
    let out = (written).1 in
    let n = c.write_message-length.result in
    let digits =
    ap (λ (o : List ℕ). take (n - 1 - (n - 4)) (drop (n - 4) o)) out
    ∙ sum-read c.args.separator (message_in c.args.words.now c.args.values.now) _ n (n - 4) (n - 1) (written).0 refl refl in
    let held = after-sum _ _ _ _ _ c.requires _ _ (measured-left) _ digits _ _ _ c.store_in.ensures in
    all_left _ _ _ _ _ c.requires _ _ _ _ (written).0 held.0 held.1 out
