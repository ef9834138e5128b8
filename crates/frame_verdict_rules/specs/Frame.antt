-- What a frame of the hunting framer is, in the words of RULES.md, Hunting framer. Nothing here is computed.
use Rattle.std.specs.Prelude.{◌≡◌, true, List, [], ◌∷◌, ◌++◌, ◌≢◌, ℕ, ◌%◌, ◌≤◌, length, take}
use Rattle.field_rules.specs.Number.{all_digits, worth}
use Rattle.field_rules.specs.CheckSum.{sum_of}

-- "Separator 0x01"
abbrev pub separator : ℕ
separator = 1

-- the byte strings `8=`, `9=`, `35=`, `10=`
abbrev pub begin_tag : List ℕ
begin_tag = 56 ∷ 61 ∷ []

abbrev pub length_tag : List ℕ
length_tag = 57 ∷ 61 ∷ []

abbrev pub type_tag : List ℕ
type_tag = 51 ∷ 53 ∷ 61 ∷ []

abbrev pub sum_tag : List ℕ
sum_tag = 49 ∷ 48 ∷ 61 ∷ []

-- "at most 8,192 bytes"
abbrev pub frame_most : ℕ
frame_most = 8192

-- each element has the property
pub data All (P : ℕ → Type 0) : List ℕ → Type 0 where
  all_none : All P []
  all_more : {x : ℕ} {xs : List ℕ} → P x → All P xs → All P (x ∷ xs)

-- a number that a byte can hold
abbrev pub Byte : ℕ → Type 0
Byte x = x ≤ 255

abbrev pub NoSeparator : ℕ → Type 0
NoSeparator x = x ≢ separator

-- "1 to 16 bytes without separator": the BeginString, here and nowhere else
pub record IsBeginString (begin : List ℕ) : Type 0 where
  pub least : 1 ≤ length begin
  pub most : length begin ≤ 16
  pub clean : All NoSeparator begin

-- all before the N bytes: "`8=`, 1 to 16 bytes without separator, separator, `9=`, one to five digits of value N, separator"
abbrev pub lead : List ℕ → List ℕ → List ℕ
lead begin digits = begin_tag ++ (begin ++ (separator ∷ (length_tag ++ (digits ++ (separator ∷ [])))))

-- a frame, phrase by phrase
pub record IsFrame (s : List ℕ) : Type 0 where
  pub begin : List ℕ
  pub digits : List ℕ
  pub body : List ℕ
  pub sum : List ℕ
  -- ".. N bytes .., `10=`, three digits .., separator"
  pub whole : s ≡ (lead begin digits ++ body) ++ (sum_tag ++ (sum ++ (separator ∷ [])))
  pub begins : IsBeginString begin
  -- "one to five digits of value N"
  pub digits_least : 1 ≤ length digits
  pub digits_most : length digits ≤ 5
  pub digits_are : all_digits digits ≡ true
  pub announced : worth 0 digits ≡ length body
  -- "N bytes that start `35=` and end with a separator"
  pub body-starts : (u : List ℕ) × (body ≡ type_tag ++ u)
  pub body-ends : (u : List ℕ) × (body ≡ u ++ (separator ∷ []))
  -- "three digits equal to the sum mod 256 of all before `10=`"
  pub sum-size : length sum ≡ 3
  pub sum_digits : all_digits sum ≡ true
  pub sum_is_lem : worth 0 sum ≡ sum_of (lead begin digits ++ body) % 256
  pub small : length s ≤ frame_most

-- the first n bytes of s are a frame
pub record Starts (s : List ℕ) (n : ℕ) : Type 0 where
  pub inside : n ≤ length s
  pub framed : IsFrame (take n s)

-- "a frame that starts there"
abbrev pub StartsFrame : List ℕ → Type 0
StartsFrame s = (n : ℕ) × Starts s n

-- some continuation makes one start here; where there is none, "no continuation makes one"
abbrev pub CanStart : List ℕ → Type 0
CanStart s = (t : List ℕ) × All Byte t × StartsFrame (s ++ t)
