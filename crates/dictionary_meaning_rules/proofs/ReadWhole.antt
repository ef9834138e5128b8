-- A dictionary that passes the check is read whole: its records are known tags, components and messages with their items up to the end, each
-- item up to a close, and no record ends the reading before. So what the definition says of other records is never met.
use Rattle.std.specs.Prelude.{◌≡◌, refl, List, ℕ, zero, suc, ◌<◌}
use Rattle.std.proofs.Common.{arith}
use Rattle.dictionary_rules.specs.Records.{Records, ends, bad, whole, records_from}
use Rattle.dictionary_rules.specs.Check.{store_of, read_of, check_of}
use Rattle.dictionary_rules.specs.Names.{Names, named, no_names}
use Rattle.dictionary_rules.specs.Step.{opens}
use Rattle.dictionary_rules.specs.declared.Checked.TheVariants.{Passes}
use Rattle.dictionary_rules.specs.declared.Note.TheVariants.{NamesMessage}
use Rattle.dictionary_rules.specs.declared.Owner.TheVariants.{OfComponent, OfMessage}
use Rattle.dictionary_rules.specs.declared.Record.TheVariants.{KnownTag, OpensComponent, OpensMessage, FieldItem, ComponentItem, OpensGroup, Closes}
use Rattle.dictionary_rules.specs.declared.State.TheVariants.{TopLevel}
use Rattle.dictionary_meaning_rules.specs.Meaning.{size_of, declarations_of}
use Rattle.dictionary_meaning_rules.proofs.Bodies.{Declared, declared-none, tag_then, component_then, message_then, declared-end, declared-tag, declared-component, declared-message}
use Rattle.dictionary_meaning_rules.specs.Steps.{Passing, tag-goes, component-opens, message-opens, field-stops, item-stops, group-stops, close-stops, bad-stops}
use Rattle.dictionary_meaning_rules.proofs.Inside.{next_of, closes-inside}
use Rattle.dictionary_meaning_rules.proofs.Passing.{one_level_of}
use Rattle.dictionary_meaning_rules.proofs.Prepared.{reads_passing}

whole-within : (bytes : List ℕ) (final : Names) (fuel : ℕ) (rs : Records) (at : ℕ) (names : Names) → size_of rs < fuel → records_from bytes at ≡ rs →
    Passing final rs TopLevel names → Declared rs (declarations_of rs)
unfolding size_of
whole-within bytes final zero rs at names h e p = absurd (omega arith)
whole-within bytes final (suc fuel) (ends size) at names h e p = rw (declared-end size) declared-none
whole-within bytes final (suc fuel) (bad place) at names h e p = bad-stops final names place TopLevel p
whole-within bytes final (suc fuel) (whole place (FieldItem tag required) rest) at names h e p = field-stops final place rest names tag required p
whole-within bytes final (suc fuel) (whole place (ComponentItem required number) rest) at names h e p = item-stops final place rest names number required p
whole-within bytes final (suc fuel) (whole place (OpensGroup tag required) rest) at names h e p = group-stops final place rest names tag required p
whole-within bytes final (suc fuel) (whole place Closes rest) at names h e p = close-stops final place rest names p
whole-within bytes final (suc fuel) (whole place (KnownTag tag) rest) at names h e p =
    let n = next_of bytes at place (KnownTag tag) rest e in
    let g = tag-goes final place rest names tag p in
    rw (declared-tag place rest tag) (tag_then (whole-within bytes final fuel rest n.next g.later (omega arith) n.there g.passes))
whole-within bytes final (suc fuel) (whole place (OpensComponent number) rest) at names h e p =
    let n = next_of bytes at place (OpensComponent number) rest e in
    let g = component-opens final place rest names number p in
    let c = closes-inside bytes final names rest n.next (opens (OfComponent number) place) n.there g.1 in
    let o = one_level_of bytes final names n.next rest (OfComponent number) place n.there c in
    rw (declared-component place rest number o.holds)
    (component_then o.holds (whole-within bytes final fuel c.rest c.after _ (omega (arith, c.fewer)) c.there c.passes))
whole-within bytes final (suc fuel) (whole place (OpensMessage msg_type) rest) at names h e p =
    let n = next_of bytes at place (OpensMessage msg_type) rest e in
    let g = message-opens final place rest names msg_type p in
    let later : Names = named names (NamesMessage place msg_type) in
    let c = closes-inside bytes final later rest n.next (opens OfMessage place) n.there g.1 in
    let o = one_level_of bytes final later n.next rest OfMessage place n.there c in
    rw (declared-message place rest msg_type o.holds)
    (message_then o.holds (whole-within bytes final fuel c.rest c.after _ (omega (arith, c.fewer)) c.there c.passes))

pub passes_whole : (d : List ℕ) → check_of d ≡ Passes → Declared (records_from d 0) (declarations_of (records_from d 0))
passes_whole d passes =
    whole-within d (store_of (read_of d)) (suc (size_of (records_from d 0))) (records_from d 0) 0 no_names (omega arith) refl (reads_passing d passes)
