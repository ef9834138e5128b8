-- A whole message whose records stand in the order of reading: all of them can be written, so what they are rewritten to is sound and
-- reads like them.
use Rattle.std.specs.Prelude.{◌≡◌, refl, false, List, ◌∷◌, ◌++◌, ℕ, ◌≤◌, length}
use Rattle.field_rules.specs.declared.Mode.{Mode}
use Rattle.field_rules.specs.Field.{start_at}
use Rattle.field_rules.specs.Number.{is_digit}
use Rattle.field_rules.specs.Fields.{Fields, fields_from}
use Rattle.build_records.specs.declared.Record.{Record}
use Rattle.build_nesting_laws.specs.Entries.{All, all_more, all_append}
use Rattle.build_order_laws.specs.Follows.{Follows}
use Rattle.encode_rewriting_laws.specs.ReadPlaces.{follows_cursor}
use Rattle.encode_rewriting_laws.proofs.ReadRewritten.{ReadsLike, rewritten_sound}
use Rattle.encode_rewriting_laws.proofs.ReadWritten.{Writable, follows_writable}
use Rattle.encode_rewriting_laws.specs.Written.{rewritten}

-- header, body and trailer were read one behind the other, and their records stand in that order
pub record Followed (mode : Mode) (message : List ℕ) (header body trailer : List Record) (last : Fields) : Type 0 where
  pub behind_header : Fields
  pub behind_body : Fields
  pub header_follows : Follows 1 (fields_from mode message (start_at 0)) header behind_header
  pub body_follows : Follows 2 behind_header body behind_body
  pub trailer_follows : Follows 3 behind_body trailer last

module _ {mode : Mode} {message : List ℕ} {header body trailer : List Record} {last : Fields} where
  pub followed_writable : Followed mode message header body trailer last → All (Writable mode.separator message) (header ++ (body ++ trailer))
  followed_writable w =
      let first = follows_cursor mode message w.header_follows (start_at 0) refl in
      let second = follows_cursor mode message w.body_follows first.cursor first.left in
      all_append (Writable mode.separator message) (follows_writable mode message w.header_follows (start_at 0) refl)
      (all_append (Writable mode.separator message) (follows_writable mode message w.body_follows first.cursor first.left)
      (follows_writable mode message w.trailer_follows second.cursor second.left))

all_rest : (P : Record → Type 0) {r : Record} {rs : List Record} → All P (r ∷ rs) → P r × All P rs
all_rest P (all_more p a) = (p, a)

-- what the records of a message are rewritten to reads like them
pub followed_sound : (mode : Mode) (message : List ℕ) (begin size type : Record) (others body trailer : List Record) (last : Fields) → Followed mode message (begin ∷ size ∷ type ∷ others) body trailer last
    → is_digit mode.separator ≡ false → begin.tag ≡ 8 → type.tag ≡ 35 → length (rewritten mode.separator message begin (type ∷ (others ++ (body ++ trailer)))) ≤ 8192
    → ReadsLike mode message (rewritten mode.separator message begin (type ∷ (others ++ (body ++ trailer)))) begin type (others ++ (body ++ trailer))
followed_sound mode message begin size type others body trailer last followed other eight thirty-five small =
    let (begins, behind-begin) = all_rest (Writable mode.separator message) (followed_writable followed) in
    let (sizes, behind-size) = all_rest (Writable mode.separator message) behind-begin in
    let (types, behind_type) = all_rest (Writable mode.separator message) behind-size in
    rewritten_sound mode other message begin type (others ++ (body ++ trailer)) eight thirty-five begins types behind_type small
