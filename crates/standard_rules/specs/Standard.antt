-- The FIX TagValue encoding, written from the public technical standard of that name: what a field, a repeating group and a message
-- are, and not how one is read. FIX's own tables say what a tag is for. It imports nothing of the project. A byte is a number; a text
-- is a list of bytes.
use Rattle.std.specs.Prelude.{◌≡◌, List, [], ◌∷◌, ◌++◌, ◌≢◌, ℕ, zero, suc, ◌+◌, ◌*◌, ◌-◌, ◌%◌, ◌≤◌, length}

-- ===== tables =====

-- FIX's own tables of fields: l is the length tag of data tag t; c is the count tag of a group whose entries start with d,
-- and t may be a member of them; t may stand outside groups; t is a tag of the standard header, or of the standard trailer.
pub record Tables : Type 1 where
  pub Pair : (l t : ℕ) → Type 0
  pub Group : (c d : ℕ) → Type 0
  pub Member : (c t : ℕ) → Type 0
  pub Outside : (t : ℕ) → Type 0
  pub Header : (t : ℕ) → Type 0
  pub Trailer : (t : ℕ) → Type 0

-- what is neither of the header nor of the trailer is of the body
pub record Body (T : Tables) (t : ℕ) : Type 0 where
  pub no_header : T.Header t → ⊥
  pub no_trailer : T.Trailer t → ⊥

-- no length tag has it for its data tag
pub record NoData (T : Tables) (t : ℕ) : Type 0 where
  pub no_length : (l : ℕ) → T.Pair l t → ⊥

-- it opens no group
pub record NoCount (T : Tables) (t : ℕ) : Type 0 where
  pub no_delimiter : (d : ℕ) → T.Group t d → ⊥

-- ===== characters =====

-- the field delimiter, and `=` between tag and value
abbrev pub SOH : ℕ
SOH = 1

abbrev pub equals : ℕ
equals = 61

-- each number of a list has the property
pub data All (P : ℕ → Type 0) : List ℕ → Type 0 where
  none : All P []
  also : {x : ℕ} {xs : List ℕ} → P x → All P xs → All P (x ∷ xs)

-- `0` to `9`
abbrev pub Digit : ℕ → Type 0
Digit x = (48 ≤ x) × (x ≤ 57)

abbrev pub NotDelimiter : ℕ → Type 0
NotDelimiter x = x ≢ SOH

-- what digits are worth, the highest first, after digits worth n
abbrev pub worth_after : ℕ → List ℕ → ℕ
worth_after n [] = n
worth_after n (d ∷ ds) = worth_after (n * 10 + (d - 48)) ds

-- an int that is not negative: one or more digits. "00023" is 23.
pub record Int (text : List ℕ) (n : ℕ) : Type 0 where
  pub some : 1 ≤ length text
  pub digits : All Digit text
  pub worth : worth_after 0 text ≡ n

-- a tag number: an int that is positive and has no leading zero
pub record TagNum (text : List ℕ) (tag : ℕ) : Type 0 where
  pub highest : ℕ
  pub others : List ℕ
  pub starts : text ≡ highest ∷ others
  pub no_leading_zero : highest ≢ 48
  pub int : Int text tag

-- ===== fields =====

-- a value that is not data: one or more bytes, none of them the delimiter
pub record Value (bytes : List ℕ) : Type 0 where
  pub some : 1 ≤ length bytes
  pub plain : All NotDelimiter bytes

-- a field: tag number, `=`, value, delimiter
pub record Field (tag : ℕ) (value bytes : List ℕ) : Type 0 where
  pub text : List ℕ
  pub is_tag : TagNum text tag
  pub is_value : Value value
  pub whole : bytes ≡ text ++ (equals ∷ (value ++ (SOH ∷ [])))

-- a data field, whose value is any bytes, straight after the length field that says how many they are
pub record DataField (length_tag : ℕ) (count : List ℕ) (tag : ℕ) (value bytes : List ℕ) : Type 0 where
  pub length-bytes : List ℕ
  pub text : List ℕ
  pub length-field : Field length_tag count length-bytes
  pub counts : Int count (length value)
  pub is_tag : TagNum text tag
  pub some : 1 ≤ length value
  pub whole : bytes ≡ length-bytes ++ (text ++ (equals ∷ (value ++ (SOH ∷ []))))

-- what a field tells
pub record Told : Type 0 where
  pub tag : ℕ
  pub value : List ℕ

abbrev pub told : ℕ → List ℕ → Told
told t v = record { tag = t; value = v }

-- A sequence of fields. A data tag stands nowhere but straight after its length.
pub data Fields (T : Tables) : List Told → List ℕ → Type 0 where
  no_field : Fields T [] []
  plain : {t : ℕ} {v bytes rest : List ℕ} {fs : List Told}
      → Field t v bytes → NoData T t → Fields T fs rest
      → Fields T (told t v ∷ fs) (bytes ++ rest)
  paired : {l t : ℕ} {count v bytes rest : List ℕ} {fs : List Told}
      → T.Pair l t → DataField l count t v bytes → Fields T fs rest
      → Fields T (told l count ∷ (told t v ∷ fs)) (bytes ++ rest)

-- ===== repeating groups =====

-- no number stands twice
pub data Distinct : List ℕ → Type 0 where
  empty : Distinct []
  fresh : {x : ℕ} {xs : List ℕ} → All (λ y. y ≢ x) xs → Distinct xs → Distinct (x ∷ xs)

-- BeginString, BodyLength, MsgType and CheckSum, which have places of their own
abbrev pub placed : List ℕ
placed = 8 ∷ 9 ∷ 35 ∷ 10 ∷ []

-- no tag stands twice, and none is one of those
pub record Once (tags : List ℕ) : Type 0 where
  pub distinct : Distinct (placed ++ tags)

-- what a stretch of fields is: members, that is fields and whole groups, of which these are the tags; or so many entries of a count's
-- group
pub data Stretch : Type 0 where
  members : List ℕ → Stretch
  entries : (count delimiter : ℕ) → ℕ → Stretch

-- A count tag always opens its group: a count field, whose value is a positive int, and that many entries. An entry is members that
-- start with the group's delimiter and are members of its entries in the tables; no tag stands twice among them. Members may be groups
-- again. `Here`: which tags may stand in this part of the message, in its entries too.
pub data Stands (T : Tables) (Here : ℕ → Type 0) : Stretch → List Told → Type 0 where
  no_member : Stands T Here (members []) []
  field : {t : ℕ} {v : List ℕ} {ts : List ℕ} {fs : List Told}
      → Here t → NoCount T t → Stands T Here (members ts) fs
      → Stands T Here (members (t ∷ ts)) (told t v ∷ fs)
  group : {t d n : ℕ} {count : List ℕ} {ts : List ℕ} {gs fs : List Told}
      → Here t → T.Group t d → Int count (suc n) → Stands T Here (entries t d (suc n)) gs → Stands T Here (members ts) fs
      → Stands T Here (members (t ∷ ts)) (told t count ∷ (gs ++ fs))
  no_entry : {c d : ℕ} → Stands T Here (entries c d zero) []
  entry : {c d n : ℕ} {ts : List ℕ} {fs gs : List Told}
      → Stands T Here (members (d ∷ ts)) fs → All (T.Member c) (d ∷ ts) → Once (d ∷ ts) → Stands T Here (entries c d n) gs
      → Stands T Here (entries c d (suc n)) (fs ++ gs)

-- ===== messages =====

abbrev pub total : List ℕ → ℕ
total [] = 0
total (x ∷ xs) = x + total xs

-- BeginString, BodyLength, MsgType first, in this order; then members of the header, of the body, of the trailer; CheckSum last.
-- Outside groups stand tags that the tables have there, and none twice. BodyLength counts the bytes from MsgType's field up to
-- CheckSum's. CheckSum is the sum of all bytes before its field, mod 256, in three digits.
pub record Message (T : Tables) (bytes : List ℕ) : Type 0 where
  pub begin_string : List ℕ
  pub body_length : List ℕ
  pub msg_type : List ℕ
  pub header : List Told
  pub body : List Told
  pub trailer : List Told
  pub check-sum : List ℕ
  pub first : List ℕ
  pub second : List ℕ
  pub counted : List ℕ
  pub last : List ℕ
  pub header_tags : List ℕ
  pub body-tags : List ℕ
  pub trailer_tags : List ℕ
  pub whole : bytes ≡ first ++ (second ++ (counted ++ last))
  pub first_is : Field 8 begin_string first
  pub second_is : Field 9 body_length second
  pub counted_is : Fields T (told 35 msg_type ∷ (header ++ (body ++ trailer))) counted
  pub last_is : Field 10 check-sum last
  pub length_is_lem : Int body_length (length counted)
  pub sum_is_lem : Int check-sum (total (first ++ (second ++ counted)) % 256)
  pub three_digits_lem : length check-sum ≡ 3
  pub header_is : Stands T T.Header (members header_tags) header
  pub body_is : Stands T (Body T) (members body-tags) body
  pub trailer_is : Stands T T.Trailer (members trailer_tags) trailer
  pub no_tag-twice : Once (header_tags ++ (body-tags ++ trailer_tags))
  pub outside_groups : All T.Outside (header_tags ++ (body-tags ++ trailer_tags))
