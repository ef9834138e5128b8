-- The known tags of a dictionary that passes: the index knows a tag exactly if the tree does.
use Rattle.std.specs.Prelude.{◌≡◌, refl, Bool, true, false, ℕ, zero, suc, ◌<◌, eqb, length}
use Rattle.std.proofs.Common.{sym, ◌∙◌, arith, eq-eqb, ne_eqb, eqb-true}
use Rattle.std.proofs.Math.Path.{ap}
use mathlib.Core.List.{List, [], ◌∷◌}
use Rattle.std.proofs.lemmas.Bool.{eqb-false}
use Rattle.dictionary_chains.specs.Chain.{index_words}
use Rattle.field_rules.specs.Choice.{pick}
use Rattle.dictionary_layout_rules.specs.Tree.{holds_tag, knows}
use Rattle.dictionary_rules.specs.Records.{Records, ends, bad, whole, records_from}
use Rattle.dictionary_rules.specs.declared.Record.TheVariants.{KnownTag, OpensComponent, OpensMessage, FieldItem, ComponentItem, OpensGroup, Closes}
use Rattle.dictionary_rules.specs.Step.{opens}
use Rattle.dictionary_rules.specs.Names.{Names, is_known, named, no_names}
use Rattle.dictionary_rules.specs.Check.{store_of, read_of, check_of}
use Rattle.dictionary_rules.specs.Index.{tag_at}
use Rattle.dictionary_rules.specs.Check.{prepared_of}
use Rattle.dictionary_rules.specs.declared.Checked.TheVariants.{Passes}
use Rattle.dictionary_rules.specs.declared.Owner.{Owner}
use Rattle.dictionary_rules.specs.declared.Owner.TheVariants.{OfComponent, OfMessage}
use Rattle.dictionary_rules.specs.declared.Open.{Open}
use Rattle.dictionary_rules.specs.declared.State.TheVariants.{TopLevel}
use Rattle.dictionary_rules.specs.declared.Note.TheVariants.{NamesMessage}
use Rattle.dictionary_meaning_rules.specs.Meaning.{Declaration, known_tag, tag_in, tags_from, meaning_of, dictionary_of, size_of, declarations_of}
use Rattle.dictionary_meaning_rules.specs.Steps.{Passing, note_of, tag-goes, component-opens, message-opens, field-stops, item-stops, group-stops, close-stops, bad-stops, end_passes}
use Rattle.dictionary_meaning_rules.proofs.Bodies.{declared-end, declared-tag, declared-component, declared-message}
use Rattle.dictionary_meaning_rules.proofs.Inside.{next_of, closes-inside}
use Rattle.dictionary_meaning_rules.proofs.Passing.{one_level_of}
use Rattle.dictionary_meaning_rules.proofs.Prepared.{reads_passing, agreeing}

-- known so far, or among declarations
abbrev known_with : Names → List Declaration → ℕ → Bool
known_with names declarations tag = pick (is_known names.tags tag) true (holds_tag tag (tags_from declarations))

pick-none : (b : Bool) → pick b true false ≡ b
pick-none true = refl
pick-none false = refl

eqb_turned : (a b : ℕ) → eqb a b ≡ eqb b a
eqb_turned a b = go (eqb a b) refl
  where
    go : (t : Bool) → eqb a b ≡ t → eqb a b ≡ eqb b a
    go true e = e ∙ sym (eq-eqb b a (sym (eqb-true a b e)))
    go false e = e ∙ sym (ne_eqb b a (λ z. eqb-false a b e (sym z)))

pick_turned : (a b c : Bool) → pick (pick a true b) true c ≡ pick b true (pick a true c)
pick_turned true true c = refl
pick_turned true false c = refl
pick_turned false b c = refl

end_known : (final names : Names) (tag : ℕ) → names ≡ final → is_known final.tags tag ≡ known_with names [] tag
unfolding tags_from holds_tag
end_known final names tag e = ap (λ (n : Names). is_known n.tags tag) (sym e) ∙ sym (pick-none (is_known names.tags tag))

tag-known : (names later : Names) (new tag : ℕ) (declarations : List Declaration) → is_known later.tags tag ≡ pick (eqb tag new) true (is_known names.tags tag) → known_with later declarations tag ≡ known_with names (known_tag new ∷ declarations) tag
unfolding tags_from tag_in holds_tag
tag-known names later new tag declarations e =
    ap (λ (b : Bool). pick b true (holds_tag tag (tags_from declarations))) e
    ∙ pick_turned (eqb tag new) (is_known names.tags tag) (holds_tag tag (tags_from declarations))
    ∙ ap (λ (b : Bool). pick (is_known names.tags tag) true (pick b true (holds_tag tag (tags_from declarations)))) (eqb_turned tag new)

note_tags : (names : Names) (o : Open) (owner : Owner) → (named names (note_of o owner)).tags ≡ names.tags
unfolding note_of named
note_tags names o (OfComponent number) = refl
note_tags names o OfMessage = refl

same_known : (names other : Names) (declarations : List Declaration) (tag : ℕ) → names.tags ≡ other.tags →
    known_with names declarations tag ≡ known_with other declarations tag
same_known names other declarations tag t = ap (λ (tags : List ℕ). pick (is_known tags tag) true (holds_tag tag (tags_from declarations))) t

known_step : (bytes : List ℕ) (final : Names) (tag : ℕ) (rs : Records) (at : ℕ) (names : Names) → ((fewer : Records) (there : ℕ) (later : Names) →
    size_of fewer < size_of rs → records_from bytes there ≡ fewer → Passing final fewer TopLevel later → is_known final.tags tag
    ≡ known_with later (declarations_of fewer) tag) → records_from bytes at ≡ rs → Passing final rs TopLevel names → is_known final.tags tag
    ≡ known_with names (declarations_of rs) tag
unfolding size_of tags_from tag_in
known_step bytes final tag (ends size) at names again e p = rw (declared-end size) (end_known final names tag (end_passes final names size p).0)
known_step bytes final tag (bad place) at names again e p = bad-stops final names place TopLevel p
known_step bytes final tag (whole place (FieldItem t required) rest) at names again e p = field-stops final place rest names t required p
known_step bytes final tag (whole place (ComponentItem required number) rest) at names again e p = item-stops final place rest names number required p
known_step bytes final tag (whole place (OpensGroup t required) rest) at names again e p = group-stops final place rest names t required p
known_step bytes final tag (whole place Closes rest) at names again e p = close-stops final place rest names p
known_step bytes final tag (whole place (KnownTag new) rest) at names again e p =
    let n = next_of bytes at place (KnownTag new) rest e in
    let g = tag-goes final place rest names new p in
    again rest n.next g.later (omega arith) n.there g.passes ∙ tag-known names g.later new tag (declarations_of rest) (g.tags tag)
    ∙ ap (λ (declared : List Declaration). known_with names declared tag) (sym (declared-tag place rest new))
known_step bytes final tag (whole place (OpensComponent number) rest) at names again e p =
    let n = next_of bytes at place (OpensComponent number) rest e in
    let g = component-opens final place rest names number p in
    let c = closes-inside bytes final names rest n.next (opens (OfComponent number) place) n.there g.1 in
    let o = one_level_of bytes final names n.next rest (OfComponent number) place n.there c in
    again c.rest c.after (named names (note_of c.last c.last.owner)) (omega (arith, c.fewer)) c.there c.passes
    ∙ same_known (named names (note_of c.last c.last.owner)) names (declarations_of c.rest) tag (note_tags names c.last c.last.owner)
    ∙ ap (λ (declared : List Declaration). known_with names declared tag) (sym (declared-component place rest number o.holds))
known_step bytes final tag (whole place (OpensMessage msg_type) rest) at names again e p =
    let n = next_of bytes at place (OpensMessage msg_type) rest e in
    let g = message-opens final place rest names msg_type p in
    let later : Names = named names (NamesMessage place msg_type) in
    let same : later.tags ≡ names.tags = (unfold named in refl) in
    let c = closes-inside bytes final later rest n.next (opens OfMessage place) n.there g.1 in
    let o = one_level_of bytes final later n.next rest OfMessage place n.there c in
    again c.rest c.after (named later (note_of c.last c.last.owner)) (omega (arith, c.fewer)) c.there c.passes
    ∙ same_known (named later (note_of c.last c.last.owner)) names (declarations_of c.rest) tag (note_tags later c.last c.last.owner ∙ same)
    ∙ ap (λ (declared : List Declaration). known_with names declared tag) (sym (declared-message place rest msg_type o.holds))

known-within : (bytes : List ℕ) (final : Names) (tag fuel : ℕ) (rs : Records) (at : ℕ) (names : Names) → size_of rs < fuel → records_from bytes at ≡ rs → Passing final rs TopLevel names → is_known final.tags tag ≡ known_with names (declarations_of rs) tag
known-within bytes final tag zero rs at names h e p = absurd (omega arith)
known-within bytes final tag (suc fuel) rs at names h e p = known_step bytes final tag rs at names (λ fewer there later l q w. known-within bytes final tag fuel fewer there later (omega arith) q w) e p

pub tags-known : (d : List ℕ) → check_of d ≡ Passes → (index : List ℕ) → length index ≡ index_words → (tag : ℕ) → tag_at (store_of (prepared_of d index)) tag ≡ knows (dictionary_of d) tag
unfolding knows dictionary_of meaning_of
tags-known d passes index size tag =
    (agreeing d passes index size).1.tags tag
    ∙ known-within d (store_of (read_of d)) tag (suc (size_of (records_from d 0))) (records_from d 0) 0 no_names (omega arith) refl (reads_passing d passes)
    ∙ (unfold no_names is_known in refl)
