-- The same grammar once more as a relation: which items records hold up to a close, and which records stand behind it. What holds by it is
-- what the definition reads (`holds-body`), and more steps than there are records change nothing, so later proofs cite three laws only:
-- what a known tag, a component and a message that open at top level declare.
use Rattle.std.specs.Prelude.{◌≡◌, Bool, List, [], ◌∷◌, ℕ, zero, suc, ◌≤◌, ◌<◌}
use Rattle.std.proofs.Math.Path.{refl}
use Rattle.std.proofs.Common.{arith}
use Rattle.dictionary_rules.specs.Records.{Records, ends, bad, whole, records_from}
use Rattle.dictionary_rules.specs.RecordsLaws.{records_whole}
use Rattle.dictionary_rules.specs.declared.Record.TheVariants.{KnownTag, OpensComponent, OpensMessage, FieldItem, ComponentItem, OpensGroup, Closes}
use Rattle.dictionary_meaning_rules.specs.Meaning.{Items, closed, field_then_lem, component_then_lem, group_then_lem, item_before, no_items, body_of, msg_type_bytes, Declaration, known_tag, component, message, declarations_in, size_of, declarations_of}
use Rattle.dictionary_meaning_rules.proofs.Layable.{Reads, reads-close, reads-field, reads-component, reads-group}

pub data Holds : Records → Items → Records → Type 0 where
  holds-close : {place : ℕ} {rest : Records} → Holds (whole place Closes rest) closed rest
  holds-field : {place tag : ℕ} {required : Bool} {rest after : Records} {items : Items} → Holds rest items after →
      Holds (whole place (FieldItem tag required) rest) (field_then_lem tag required items) after
  holds-component : {place number : ℕ} {required : Bool} {rest after : Records} {items : Items} → Holds rest items after →
      Holds (whole place (ComponentItem required number) rest) (component_then_lem number required items) after
  holds-group : {place tag : ℕ} {required : Bool} {rest behind after : Records} {inner items : Items} → Holds rest inner behind → Holds behind items after →
      Holds (whole place (OpensGroup tag required) rest) (group_then_lem tag required inner items) after

-- known tags, components and messages with their items, one after the other up to the end, and nothing else
pub data Declared : Records → List Declaration → Type 0 where
  declared-none : {size : ℕ} → Declared (ends size) []
  tag_then : {place tag : ℕ} {rest : Records} {more : List Declaration} → Declared rest more → Declared (whole place (KnownTag tag) rest) (known_tag tag ∷ more)
  component_then : {place number : ℕ} {rest after : Records} {items : Items} {more : List Declaration} → Holds rest items after → Declared after more →
      Declared (whole place (OpensComponent number) rest) (component number items ∷ more)
  message_then : {place msg_type : ℕ} {rest after : Records} {items : Items} {more : List Declaration} → Holds rest items after → Declared after more →
      Declared (whole place (OpensMessage msg_type) rest) (message (msg_type_bytes msg_type) items ∷ more)

-- several levels that are open: what each of them still holds, the innermost first
pub data HoldsAll : Records → List Items → Records → Type 0 where
  holds-none : {rs : Records} → HoldsAll rs [] rs
  holds_more : {rs behind after : Records} {level : Items} {levels : List Items} → Holds rs level behind → HoldsAll behind levels after →
      HoldsAll rs (level ∷ levels) after

-- items that stand in the bytes are held by the records that are read there
pub reads_hold : (bytes : List ℕ) {at after : ℕ} {items : Items} → Reads bytes at items after → Holds (records_from bytes at) items (records_from bytes after)
reads_hold bytes {at} (reads-close {next} e) = rw (records_whole bytes at Closes next e) holds-close
reads_hold bytes {at} (reads-field {next} {tag} {required} e r) = rw (records_whole bytes at (FieldItem tag required) next e) (holds-field (reads_hold bytes r))
reads_hold bytes {at} (reads-component {next} {number} {required} e r) =
    rw (records_whole bytes at (ComponentItem required number) next e) (holds-component (reads_hold bytes r))
reads_hold bytes {at} (reads-group {next} {tag} {required} e i r) =
    rw (records_whole bytes at (OpensGroup tag required) next e) (holds-group (reads_hold bytes i) (reads_hold bytes r))

pub holds_fewer : {rs after : Records} {items : Items} → Holds rs items after → size_of after < size_of rs
unfolding size_of
holds_fewer holds-close = omega arith
holds_fewer (holds-field h) = omega (arith, holds_fewer h)
holds_fewer (holds-component h) = omega (arith, holds_fewer h)
holds_fewer (holds-group i h) = omega (arith, holds_fewer i, holds_fewer h)

holds-body : (steps : ℕ) {rs after : Records} {items : Items} → Holds rs items after → size_of rs ≤ steps →
    body_of steps rs ≡ record { items = items; after = after }
unfolding body_of no_items item_before size_of
holds-body zero h k = absurd (omega (arith, holds_fewer h))
holds-body (suc steps) holds-close k = refl
holds-body (suc steps) (holds-field h) k = rw (holds-body steps h (omega arith))
holds-body (suc steps) (holds-component h) k = rw (holds-body steps h (omega arith))
holds-body (suc steps) (holds-group i h) k = rw (holds-body steps i (omega arith), holds-body steps h (omega (arith, holds_fewer i)))

-- a body leaves no more records than it was read from
left_over : (steps : ℕ) (rs : Records) → size_of (body_of steps rs).after ≤ size_of rs
unfolding body_of no_items item_before size_of
left_over zero rs = omega arith
left_over (suc steps) (ends size) = omega arith
left_over (suc steps) (bad place) = omega arith
left_over (suc steps) (whole place Closes rest) = omega arith
left_over (suc steps) (whole place (FieldItem tag required) rest) = omega (arith, left_over steps rest)
left_over (suc steps) (whole place (ComponentItem required number) rest) = omega (arith, left_over steps rest)
left_over (suc steps) (whole place (OpensGroup tag required) rest) =
    omega (arith, left_over steps rest, left_over steps (body_of steps rest).after)
left_over (suc steps) (whole place (KnownTag tag) rest) = omega arith
left_over (suc steps) (whole place (OpensComponent number) rest) = omega arith
left_over (suc steps) (whole place (OpensMessage msg_type) rest) = omega arith

-- as many steps as there are records are enough
same_body : (a b : ℕ) (rs : Records) → size_of rs ≤ a → size_of rs ≤ b → body_of a rs ≡ body_of b rs
unfolding body_of size_of
same_body zero zero rs h k = refl
same_body zero (suc b) (ends size) h k = refl
same_body zero (suc b) (bad place) h k = refl
same_body zero (suc b) (whole place r rest) h k = absurd (omega arith)
same_body (suc a) zero (ends size) h k = refl
same_body (suc a) zero (bad place) h k = refl
same_body (suc a) zero (whole place r rest) h k = absurd (omega arith)
same_body (suc a) (suc b) (ends size) h k = refl
same_body (suc a) (suc b) (bad place) h k = refl
same_body (suc a) (suc b) (whole place Closes rest) h k = refl
same_body (suc a) (suc b) (whole place (FieldItem tag required) rest) h k = rw (same_body a b rest (omega arith) (omega arith))
same_body (suc a) (suc b) (whole place (ComponentItem required number) rest) h k = rw (same_body a b rest (omega arith) (omega arith))
same_body (suc a) (suc b) (whole place (OpensGroup tag required) rest) h k =
    let inner = same_body a b rest (omega arith) (omega arith) in
    let l = left_over b rest in
    rw (inner, same_body a b (body_of b rest).after (omega arith) (omega arith))
same_body (suc a) (suc b) (whole place (KnownTag tag) rest) h k = refl
same_body (suc a) (suc b) (whole place (OpensComponent number) rest) h k = refl
same_body (suc a) (suc b) (whole place (OpensMessage msg_type) rest) h k = refl

same_declarations : (a b : ℕ) (rs : Records) → size_of rs ≤ a → size_of rs ≤ b → declarations_in a rs ≡ declarations_in b rs
unfolding declarations_in size_of
same_declarations zero zero rs h k = refl
same_declarations zero (suc b) (ends size) h k = refl
same_declarations zero (suc b) (bad place) h k = refl
same_declarations zero (suc b) (whole place r rest) h k = absurd (omega arith)
same_declarations (suc a) zero (ends size) h k = refl
same_declarations (suc a) zero (bad place) h k = refl
same_declarations (suc a) zero (whole place r rest) h k = absurd (omega arith)
same_declarations (suc a) (suc b) (ends size) h k = refl
same_declarations (suc a) (suc b) (bad place) h k = refl
same_declarations (suc a) (suc b) (whole place (KnownTag tag) rest) h k = rw (same_declarations a b rest (omega arith) (omega arith))
same_declarations (suc a) (suc b) (whole place (OpensComponent number) rest) h k =
    let l = left_over b rest in
    rw (same_body a b rest (omega arith) (omega arith), same_declarations a b (body_of b rest).after (omega arith) (omega arith))
same_declarations (suc a) (suc b) (whole place (OpensMessage msg_type) rest) h k =
    let l = left_over b rest in
    rw (same_body a b rest (omega arith) (omega arith), same_declarations a b (body_of b rest).after (omega arith) (omega arith))
same_declarations (suc a) (suc b) (whole place (FieldItem tag required) rest) h k = refl
same_declarations (suc a) (suc b) (whole place (ComponentItem required number) rest) h k = refl
same_declarations (suc a) (suc b) (whole place (OpensGroup tag required) rest) h k = refl
same_declarations (suc a) (suc b) (whole place Closes rest) h k = refl

-- what stands at top level
pub declared-end : (size : ℕ) → declarations_of (ends size) ≡ []
unfolding declarations_of declarations_in size_of
declared-end size = refl

module _ (place : ℕ) (rest : Records) where
  pub declared-tag : (tag : ℕ) → declarations_of (whole place (KnownTag tag) rest) ≡ known_tag tag ∷ declarations_of rest
  unfolding declarations_of declarations_in size_of
  declared-tag tag = refl

  behind-close : {items : Items} {after : Records} (declares : Items → Declaration) → Holds rest items after →
      declares (body_of (size_of rest) rest).items ∷ declarations_in (size_of rest) (body_of (size_of rest) rest).after ≡ declares items ∷ declarations_of after
  unfolding declarations_of
  behind-close {items} {after} declares h =
      rw (holds-body (size_of rest) h (omega arith), same_declarations (size_of rest) (size_of after) after (omega (arith, holds_fewer h)) (omega arith))

  pub declared-component : {items : Items} {after : Records} (number : ℕ) → Holds rest items after →
      declarations_of (whole place (OpensComponent number) rest) ≡ component number items ∷ declarations_of after
  declared-component number h = (unfold declarations_of declarations_in size_of in behind-close (component number) h)

  pub declared-message : {items : Items} {after : Records} (msg_type : ℕ) → Holds rest items after →
      declarations_of (whole place (OpensMessage msg_type) rest) ≡ message (msg_type_bytes msg_type) items ∷ declarations_of after
  declared-message msg_type h = (unfold declarations_of declarations_in size_of in behind-close (message (msg_type_bytes msg_type)) h)
