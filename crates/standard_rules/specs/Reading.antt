-- One way to read: the fields of a text are cut at the first `=` and at the first delimiter, or by the length. So a text has at most
-- one list of fields, and it can be computed.
use Rattle.std.specs.Prelude.{◌≡◌, Bool, true, false, length, eqb}
use Rattle.std.proofs.Math.Path.{refl, ap}
use Rattle.std.proofs.Common.{sym, ◌∙◌, subst, arith, ne_eqb, eq-eqb}
use mathlib.Core.List.{List, [], ◌∷◌, ◌++◌, append_assoc, append-nil}
use Prim.Native.Nat.{ℕ, zero, suc, ◌+◌, ◌*◌, ◌-◌}
use Rattle.field_rules.specs.Choice.{pick}
use Rattle.standard_rules.specs.Standard.{Tables, All, Digit, NotDelimiter, worth_after, Int, TagNum, Field, DataField, NoData, Told, told, Fields, Message}

-- what a table has beside a tag: for a data tag its length, for a count tag its delimiter
pub data Beside : Type 0 where
  nothing : Beside
  just : ℕ → Beside

-- a table of data tags that can be looked up; 8, 9, 10 and length tags are no data tags
pub record Lookup (T : Tables) (length_of : ℕ → Beside) : Type 0 where
  pub none : (t : ℕ) → NoData T t → length_of t ≡ nothing
  pub some : (l t : ℕ) → T.Pair l t → length_of t ≡ just l
  pub lengths : (l t : ℕ) → T.Pair l t → NoData T l
  pub eight : NoData T 8
  pub nine : NoData T 9
  pub ten : NoData T 10

-- what was read: fields, and whether the text went on with a data tag that is not straight after its length
pub data Reading : Type 0 where
  done : Reading
  stuck : Reading
  read : Told → Reading → Reading

abbrev pub reads : List Told → Reading
reads [] = done
reads (f ∷ fs) = read f (reads fs)

abbrev pub listed : Reading → List Told
listed done = []
listed stuck = []
listed (read f r) = f ∷ listed r

all_listed : (fs : List Told) → listed (reads fs) ≡ fs
all_listed [] = refl
all_listed (f ∷ fs) = ap (λ (gs : List Told). f ∷ gs) (all_listed fs)

-- within a tag, after this field, its digits worth n so far; within a value; within data, so many bytes to go;
-- at a data tag that is not straight after its length
pub data State : Type 0 where
  in_tag : Told → ℕ → State
  in_value : ℕ → List ℕ → State
  in_data : ℕ → ℕ → List ℕ → State
  astray : State

-- behind `=`
unfoldable pub by_length : Told → ℕ → Beside → State
by_length before t nothing = in_value t []
by_length before t (just l) = pick (eqb before.tag l) (in_data t (worth_after 0 before.value) []) astray

-- what one byte makes of a state: the next, or a field that is complete
pub data Step : Type 0 where
  on : State → Step
  complete : Told → Step

unfoldable pub step : (ℕ → Beside) → ℕ → State → Step
step L x (in_tag before n) = pick (eqb x 61) (on (by_length before n (L n))) (on (in_tag before (n * 10 + (x - 48))))
step L x (in_value t v) = pick (eqb x 1) (complete (told t v)) (on (in_value t (v ++ (x ∷ []))))
step L x (in_data t zero v) = complete (told t v)
step L x (in_data t (suc n) v) = on (in_data t n (v ++ (x ∷ [])))
step L x astray = on astray

-- what the text's end makes of it. A text that ends within a field is not told from one that ends behind it: no law needs it.
unfoldable pub end : State → Reading
end (in_tag before n) = done
end (in_value t v) = done
end (in_data t n v) = done
end astray = stuck

unfoldable pub goes : Step → (State → Reading) → Reading
goes (on st) w = w st
goes (complete f) w = read f (w (in_tag f 0))

unfoldable pub walk : (ℕ → Beside) → List ℕ → State → Reading
walk L [] st = end st
walk L (x ∷ s) st = goes (step L x st) (walk L s)

-- the fields of a text, read from its start
abbrev pub reading : (ℕ → Beside) → List ℕ → Reading
reading L s = walk L s (in_tag (told 0 []) 0)

-- ===== a field of the standard is read =====

pub regroup : (text v rest : List ℕ) → (text ++ (61 ∷ (v ++ (1 ∷ [])))) ++ rest ≡ text ++ (61 ∷ (v ++ (1 ∷ rest)))
regroup text v rest = simp append_assoc

pub regroup₂ : (a text v rest : List ℕ) → (a ++ (text ++ (61 ∷ (v ++ (1 ∷ []))))) ++ rest ≡ a ++ (text ++ (61 ∷ (v ++ (1 ∷ rest))))
regroup₂ a text v rest = simp append_assoc

module _ (L : ℕ → Beside) where
  tag-walk : (before : Told) (n : ℕ) (text rest : List ℕ) → All Digit text
      → walk L (text ++ (61 ∷ rest)) (in_tag before n) ≡ walk L rest (by_length before (worth_after n text) (L (worth_after n text)))
  unfolding walk step goes
  tag-walk before n _ rest All.none = refl
  tag-walk before n _ rest (All.also {x = x} {xs = text} d a) =
      ap (λ (b : Bool). goes (pick b (on (by_length before n (L n))) (on (in_tag before (n * 10 + (x - 48))))) (walk L (text ++ (61 ∷ rest))))
      (ne_eqb x 61 (λ e. omega (arith, d)))
      ∙ tag-walk before (n * 10 + (x - 48)) text rest a

  value_walk : (t : ℕ) (v value rest : List ℕ) → All NotDelimiter value
      → walk L (value ++ (1 ∷ rest)) (in_value t v) ≡ read (told t (v ++ value)) (walk L rest (in_tag (told t (v ++ value)) 0))
  unfolding walk step goes
  value_walk t v _ rest All.none = rw append-nil
  value_walk t v _ rest (All.also {x = x} {xs = value} d a) =
      ap (λ (b : Bool). goes (pick b (complete (told t v)) (on (in_value t (v ++ (x ∷ []))))) (walk L (value ++ (1 ∷ rest)))) (ne_eqb x 1 d)
      ∙ value_walk t (v ++ (x ∷ [])) value rest a ∙ simp append_assoc

  data_walk : (t : ℕ) (v value rest : List ℕ)
      → walk L (value ++ (1 ∷ rest)) (in_data t (length value) v) ≡ read (told t (v ++ value)) (walk L rest (in_tag (told t (v ++ value)) 0))
  unfolding walk step goes
  data_walk t v [] rest = rw append-nil
  data_walk t v (x ∷ value) rest = data_walk t (v ++ (x ∷ [])) value rest ∙ simp append_assoc

  -- a tag that is no data tag, and its value
  field-walk : (before : Told) (t : ℕ) (v bytes rest : List ℕ) → Field t v bytes → L t ≡ nothing
      → walk L (bytes ++ rest) (in_tag before 0) ≡ read (told t v) (walk L rest (in_tag (told t v) 0))
  unfolding by_length
  field-walk before t v bytes rest f e =
      let text : List ℕ = f.text in
      ap (λ (s : List ℕ). walk L (s ++ rest) (in_tag before 0)) f.whole
      ∙ ap (λ (s : List ℕ). walk L s (in_tag before 0)) (regroup text v rest)
      ∙ tag-walk before 0 text (v ++ (1 ∷ rest)) f.is_tag.int.digits
      ∙ ap (λ (n : ℕ). walk L (v ++ (1 ∷ rest)) (by_length before n (L n))) f.is_tag.int.worth
      ∙ ap (λ (l : Beside). walk L (v ++ (1 ∷ rest)) (by_length before t l)) e
      ∙ value_walk t [] v rest f.is_value.plain

  -- a data tag behind its length
  behind-length : (l t : ℕ) (count text v rest : List ℕ) → Int count (length v) → TagNum text t → L t ≡ just l
      → walk L (text ++ (61 ∷ (v ++ (1 ∷ rest)))) (in_tag (told l count) 0) ≡ read (told t v) (walk L rest (in_tag (told t v) 0))
  unfolding by_length
  behind-length l t count text v rest counts is_tag e =
      tag-walk (told l count) 0 text (v ++ (1 ∷ rest)) is_tag.int.digits
      ∙ ap (λ (n : ℕ). walk L (v ++ (1 ∷ rest)) (by_length (told l count) n (L n))) is_tag.int.worth
      ∙ ap (λ (k : Beside). walk L (v ++ (1 ∷ rest)) (by_length (told l count) t k)) e
      ∙ ap (λ (b : Bool). walk L (v ++ (1 ∷ rest)) (pick b (in_data t (worth_after 0 count) []) astray)) (eq-eqb l l refl)
      ∙ ap (λ (n : ℕ). walk L (v ++ (1 ∷ rest)) (in_data t n [])) counts.worth
      ∙ data_walk t [] v rest

  paired-walk : (before : Told) (l t : ℕ) (count v bytes rest : List ℕ) → DataField l count t v bytes → L l ≡ nothing → L t ≡ just l
      → walk L (bytes ++ rest) (in_tag before 0) ≡ read (told l count) (read (told t v) (walk L rest (in_tag (told t v) 0)))
  paired-walk before l t count v bytes rest d e₁ e₂ =
      ap (λ (s : List ℕ). walk L (s ++ rest) (in_tag before 0)) d.whole
      ∙ ap (λ (s : List ℕ). walk L s (in_tag before 0)) (regroup₂ d.length-bytes d.text v rest)
      ∙ field-walk before l count d.length-bytes (d.text ++ (61 ∷ (v ++ (1 ∷ rest)))) d.length-field e₁
      ∙ ap (λ (r : Reading). read (told l count) r) (behind-length l t count d.text v rest d.counts d.is_tag e₂)

module _ {T : Tables} {length_of : ℕ → Beside} (L : Lookup T length_of) where
  -- the fields of a text are those that are read
  pub fields_read : (before : Told) (fs : List Told) (bytes : List ℕ) → Fields T fs bytes → walk length_of bytes (in_tag before 0) ≡ reads fs
  unfolding walk end
  fields_read before _ _ Fields.no_field = refl
  fields_read before _ _ (Fields.plain {t = t} {v = v} {bytes = b} {rest = rest} {fs = fs} f n more) =
      field-walk length_of before t v b rest f (L.none t n) ∙ ap (λ (r : Reading). read (told t v) r) (fields_read (told t v) fs rest more)
  fields_read before _ _ (Fields.paired {l = l} {t = t} {count = count} {v = v} {bytes = b} {rest = rest} {fs = fs} p d more) =
      paired-walk length_of before l t count v b rest d (L.none l (L.lengths l t p)) (L.some l t p)
      ∙ ap (λ (r : Reading). read (told l count) (read (told t v) r)) (fields_read (told t v) fs rest more)

  -- a text has one list of fields
  pub fields_unique : (fs gs : List Told) (bytes : List ℕ) → Fields T fs bytes → Fields T gs bytes → fs ≡ gs
  fields_unique fs gs bytes f g =
      sym (all_listed fs) ∙ ap listed (sym (fields_read (told 0 []) fs bytes f) ∙ fields_read (told 0 []) gs bytes g) ∙ all_listed gs

pub fields-append : {T : Tables} (fs gs : List Told) (a b : List ℕ) → Fields T fs a → Fields T gs b → Fields T (fs ++ gs) (a ++ b)
fields-append _ gs _ b Fields.no_field g = g
fields-append _ gs _ b (Fields.plain {bytes = x} {rest = rest} {fs = fs} f n more) g = rw append_assoc (Fields.plain f n (fields-append fs gs rest b more g))
fields-append _ gs _ b (Fields.paired {bytes = x} {rest = rest} {fs = fs} p d more) g = rw append_assoc (Fields.paired p d (fields-append fs gs rest b more g))

-- ===== a message of the standard is read =====

abbrev pub others : {T : Tables} {bytes : List ℕ} → Message T bytes → List Told
others m = m.header ++ (m.body ++ m.trailer)

-- all but the last
abbrev keep : Told → Reading → List Told
keep f done = []
keep f stuck = []
keep f (read g r) = f ∷ keep g r

kept : (f : Told) (fs : List Told) (last : Told) → keep f (reads (fs ++ (last ∷ []))) ≡ f ∷ fs
kept f [] last = refl
kept f (g ∷ fs) last = ap (λ (gs : List Told). f ∷ gs) (kept g fs last)

-- from the third field up to the last
abbrev pub inside : Reading → List Told
inside (read _ (read _ (read f r))) = keep f r
inside (read _ (read _ done)) = []
inside (read _ (read _ stuck)) = []
inside (read _ done) = []
inside (read _ stuck) = []
inside done = []
inside stuck = []

abbrev pub behind : List Told → List Told
behind [] = []
behind (f ∷ fs) = fs

abbrev pub ended : Reading → Bool
ended done = true
ended stuck = false
ended (read f r) = ended r

all-ended : (fs : List Told) → ended (reads fs) ≡ true
all-ended [] = refl
all-ended (f ∷ fs) = all-ended fs

-- a message's fields, from BeginString to CheckSum
abbrev pub fields : {T : Tables} {bytes : List ℕ} → Message T bytes → List Told
fields m = told 8 m.begin_string ∷ (told 9 m.body_length ∷ (told 35 m.msg_type ∷ (others m ++ (told 10 m.check-sum ∷ []))))

-- the value of the first field, and of the last
abbrev pub first_value : List Told → List ℕ
first_value [] = []
first_value (f ∷ fs) = f.value

abbrev pub last_value : List Told → List ℕ
last_value [] = []
last_value (f ∷ []) = f.value
last_value (f ∷ (g ∷ fs)) = last_value (g ∷ fs)

last-told : (f : Told) (fs : List Told) (last : Told) → last_value (f ∷ (fs ++ (last ∷ []))) ≡ last.value
last-told f [] last = refl
last-told f (g ∷ fs) last = last-told g fs last

module _ {T : Tables} {length_of : ℕ → Beside} (L : Lookup T length_of) {bytes : List ℕ} (m : Message T bytes) where
  -- the whole text is a sequence of fields
  pub message-fields : Fields T (fields m) bytes
  message-fields =
      let last : Fields T (told 10 m.check-sum ∷ []) m.last =
      subst (λ (s : List ℕ). Fields T (told 10 m.check-sum ∷ []) s) (append-nil m.last) (Fields.plain m.last_is L.ten Fields.no_field) in
      let rest = fields-append (told 35 m.msg_type ∷ others m) (told 10 m.check-sum ∷ []) m.counted m.last m.counted_is last in
      subst (λ (s : List ℕ). Fields T (fields m) s) (sym m.whole) (Fields.plain m.first_is L.eight (Fields.plain m.second_is L.nine rest))

  pub message_read : reading length_of bytes ≡ reads (fields m)
  message_read = fields_read L (told 0 []) _ bytes message-fields

  -- ALL FIELDS are those that are read
  pub fields_are : fields m ≡ listed (reading length_of bytes)
  fields_are = sym (ap listed message_read ∙ all_listed (fields m))

  -- BeginString, BodyLength and CheckSum as they are written
  pub begin_string_is : m.begin_string ≡ first_value (listed (reading length_of bytes))
  begin_string_is = ap first_value fields_are

  pub body_length_is : m.body_length ≡ first_value (behind (listed (reading length_of bytes)))
  body_length_is = ap (λ (fs : List Told). first_value (behind fs)) fields_are

  pub check-sum_is : m.check-sum ≡ last_value (listed (reading length_of bytes))
  check-sum_is =
      sym (last-told (told 8 m.begin_string) (told 9 m.body_length ∷ (told 35 m.msg_type ∷ others m)) (told 10 m.check-sum))
      ∙ ap last_value fields_are

  told_are : told 35 m.msg_type ∷ others m ≡ inside (reading length_of bytes)
  told_are = sym (ap inside message_read ∙ kept (told 35 m.msg_type) (others m) (told 10 m.check-sum))

  -- THE FIELDS between MsgType and CheckSum are those that are read there
  pub others_are : others m ≡ behind (inside (reading length_of bytes))
  others_are = ap behind told_are

  -- and reading does not get stuck
  pub never_stuck : ended (reading length_of bytes) ≡ true
  never_stuck = ap ended message_read ∙ all-ended (others m ++ (told 10 m.check-sum ∷ []))
