-- What it is that a message of the standard fits a dictionary: its header and trailer are plain fields of the dictionary's, MsgType is in it,
-- and the body fits the layout of that MsgType, field by field and group by group. The standard's own structure is what is looked at.
use Rattle.std.specs.Prelude.{◌≡◌, Bool, true, false, List, [], ◌∷◌, ◌++◌, ℕ, suc}
use Rattle.standard_rules.specs.Standard.{Tables, NoCount, All, Told, told, Int, Stretch, members, entries, Stands, Message}
use Rattle.standard_rules.proofs.StandardLaws.{tags}
use Rattle.standard_rules.specs.Reading.{others}
use Rattle.build_config.specs.declared.Config.{Config}
use Rattle.dictionary_layout_rules.specs.Layout.{Layout, group_of, required_tags}
use Rattle.dictionary_layout_rules.specs.Layout.{entries as entries_laid_out}
use Rattle.dictionary_layout_rules.specs.Tree.{Dictionary, holds_tag, knows, header_tags_lem, trailer_tags_lem, laid_out, layout_of}
use Rattle.build_records.specs.declared.Record.{Record}
use Rattle.build_group_rules.specs.Reading.{accepted, layout_rules}
use Rattle.build_body_rules.specs.Body.{plain, counts, other}
use Rattle.build_body_rules.specs.Kinds.{body_kind}
use Rattle.promise_standard.specs.Groups.{numbered, Tell, tag_behind, entries_of, Leaves, Fits}

module _ {T : Tables} {Here : ℕ → Type 0} where
  -- Each entry has the fields that its layout requires: every required tag of the level is a tag of the entry's members; and so have the
  -- entries of the groups in it. Members outside entries are asked for nothing.
  abbrev pub HasRequired : Layout → {stretch : Stretch} {fs : List Told} → Stands T Here stretch fs → Type 0
  HasRequired layout Stands.no_member = Unit {0}
  HasRequired layout (Stands.field _ _ s) = HasRequired layout s
  HasRequired layout (Stands.group {t = t} _ _ _ g s) =
      ((inner : Layout) → group_of t layout ≡ entries_laid_out inner → HasRequired inner g) × HasRequired layout s
  HasRequired layout Stands.no_entry = Unit {0}
  HasRequired layout (Stands.entry {d = d} {ts = ts} m _ _ g) =
      All (λ t. holds_tag t (d ∷ ts) ≡ true) (required_tags layout) × HasRequired layout m × HasRequired layout g

  -- The body fits a layout where `next` is the tag behind it. A field outside groups is a field of the layout that is no group, or an unknown
  -- user tag that is accepted. A group is a group of the layout, its entries fit the layout of that group and have what it requires, and the
  -- tag behind them is none that it would take.
  pub data BodyFits (accepts : ℕ → Bool) (layout : Layout) (next : ℕ) : (ts : List ℕ) → (fs : List Told) → Stands T Here (members ts) fs
      → Type 0 where
    no_member : BodyFits accepts layout next _ _ Stands.no_member
    field : {t : ℕ} {v : List ℕ} {ts : List ℕ} {fs : List Told} {may : Here t} {single : NoCount T t} {s : Stands T Here (members ts) fs}
        → body_kind (layout_rules accepts) layout t ≡ plain
        → BodyFits accepts layout next _ _ s → BodyFits accepts layout next _ _ (Stands.field {t = t} {v = v} may single s)
    group : {inner : Layout} {t d n : ℕ} {count : List ℕ} {ts : List ℕ} {gs fs : List Told} {may : Here t} {opening : T.Group t d} {i : Int count (suc n)}
        {g : Stands T Here (entries t d (suc n)) gs} {s : Stands T Here (members ts) fs} → body_kind (layout_rules accepts) layout t ≡ counts inner
        → Fits (layout_rules accepts) (entries_of inner 1) (tag_behind next fs) _ _ g → HasRequired inner g
        → Leaves (layout_rules accepts) inner (tag_behind next fs)
        → BodyFits accepts layout next _ _ s → BodyFits accepts layout next _ _ (Stands.group {t = t} may opening i g s)

-- the header's fields, with those that have places of their own
abbrev pub header_fields : {T : Tables} {bytes : List ℕ} → Message T bytes → List Told
header_fields m = told 8 m.begin_string ∷ (told 9 m.body_length ∷ (told 35 m.msg_type ∷ m.header))

-- "The verified CheckSum stands first in the trailer."
abbrev pub trailer_fields : {T : Tables} {bytes : List ℕ} → Message T bytes → List Told
trailer_fields m = told 10 m.check-sum ∷ m.trailer

-- depth and entry number of each: those with places of their own stand outside groups, the others where the standard's structure has them
abbrev pub header_numbers : {T : Tables} {bytes : List ℕ} → Message T bytes → List (ℕ × ℕ)
header_numbers m = (0, 0) ∷ ((0, 0) ∷ ((0, 0) ∷ numbered 0 0 m.header_is))

abbrev pub trailer_numbers : {T : Tables} {bytes : List ℕ} → Message T bytes → List (ℕ × ℕ)
trailer_numbers m = (0, 0) ∷ numbered 0 0 m.trailer_is

-- all fields of a message, in order
abbrev pub fields_of : {T : Tables} {bytes : List ℕ} → Message T bytes → List Told
fields_of m = told 8 m.begin_string ∷ (told 9 m.body_length ∷ (told 35 m.msg_type ∷ (others m ++ (told 10 m.check-sum ∷ []))))

-- the tags behind the body and behind the header: CheckSum (10) is the last of all
abbrev pub behind_body : {T : Tables} {bytes : List ℕ} → Message T bytes → ℕ
behind_body m = tag_behind 10 m.trailer

abbrev pub behind_header : {T : Tables} {bytes : List ℕ} → Message T bytes → ℕ
behind_header m = tag_behind (behind_body m) m.body

-- A message of the standard fits a dictionary, read with a config. Of 8, 9, 35 and 10 nothing is asked but that the field behind the body is
-- a trailer tag: integrity finds them at their places.
pub record FitsDictionary (dictionary : Dictionary) (config : Config) {T : Tables} {bytes : List ℕ} (m : Message T bytes) : Type 0 where
  -- no field of the header opens a group, and each is a header tag of the dictionary
  pub header-plain : All (NoCount T) (tags m.header)
  pub header-known : All (λ t. holds_tag t (header_tags_lem dictionary) ≡ true) (tags m.header)
  -- the field behind the header is none of its header tags
  pub header-ends : holds_tag (behind_header m) (header_tags_lem dictionary) ≡ false
  -- MsgType is in the dictionary
  pub layout : Layout
  pub type-known : layout_of dictionary m.msg_type ≡ laid_out layout
  -- the body fits the layout of the MsgType
  pub body_fits : BodyFits (accepted config (knows dictionary)) layout (behind_body m) m.body-tags m.body m.body_is
  -- the field behind the body is a trailer tag of the dictionary, and none that the body takes
  pub body-ends : body_kind (layout_rules (accepted config (knows dictionary))) layout (behind_body m) ≡ other
  pub trailer-known : holds_tag (behind_body m) (trailer_tags_lem dictionary) ≡ true
  -- no field of the trailer opens a group
  pub trailer-plain : All (NoCount T) (tags m.trailer)

-- Records tell a message: its fields in order, but CheckSum (10) first in the trailer, with the depths and entry numbers that the standard's
-- structure gives them.
pub record TellMessage {T : Tables} {bytes : List ℕ} (m : Message T bytes) (records : List Record) : Type 0 where
  pub header_records : List Record
  pub body_records : List Record
  pub trailer_records : List Record
  pub in_order : records ≡ header_records ++ (body_records ++ trailer_records)
  pub header_tells : Tell bytes 1 (header_numbers m) (header_fields m) header_records
  pub body_tells : Tell bytes 2 (numbered 0 0 m.body_is) m.body body_records
  pub trailer_tells : Tell bytes 3 (trailer_numbers m) (trailer_fields m) trailer_records
