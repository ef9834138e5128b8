-- Reading against the standard: the fields of a message of the standard are read one by one, each with its tag and its value, up to the end.
-- Where a data field's value holds a delimiter, and where a tag passes 4,294,967,295, they are not: both are asked for.
use Rattle.std.specs.Prelude.{◌≡◌, refl, true, List, [], ◌∷◌, ◌++◌, ℕ, ◌+◌, ◌≤◌, length, Ok}
use Rattle.std.proofs.Common.{sym, ap, ◌∙◌, append_assoc, append-nil, arith, length-append}
use Rattle.field_rules.specs.declared.Mode.{Mode}
use Rattle.field_rules.specs.Field.{start_at, field_at, value_of, separated_by}
use Rattle.field_rules.specs.Fields.{Fields, field, fields_from}
use Rattle.field_rules.proofs.FieldsLaws.{fields-field}
use Rattle.standard_rules.specs.Standard as standard
use Rattle.standard_rules.specs.Standard.{Tables, SOH, All, NotDelimiter, Told, told}
use Rattle.standard_rules.proofs.FieldReads.{standard_field}
use Rattle.field_rules.specs.declared.Cursor.{Cursor}
use Rattle.field_rules.specs.declared.Field.{Field}

-- how fields of the standard are read
abbrev pub standard_mode : Mode
standard_mode = separated_by SOH

-- the fields that were read tell these tags and values, up to where reading stands then
pub data ReadsAs (message : List ℕ) : Fields → List Told → Fields → Type 0 where
  no_field : {fields : Fields} → ReadsAs message fields [] fields
  one_field : {f : Field} {t : ℕ} {v : List ℕ} {rest last : Fields} {ts : List Told} → f.tag ≡ t → value_of message f ≡ v → ReadsAs message rest ts last → ReadsAs message (field f rest) (told t v ∷ ts) last

-- tags that the rules read, and no delimiter in a value
pub data Readable : List Told → Type 0 where
  none : Readable []
  also : {t : ℕ} {v : List ℕ} {ts : List Told} → t ≤ 4294967295 → All NotDelimiter v → Readable ts → Readable (told t v ∷ ts)

-- one field of the standard is one field read
pub reads-one : (message before bytes after : List ℕ) (n m t : ℕ) (v : List ℕ) → message ≡ before ++ (bytes ++ after) → n ≡ length before → m ≡ n + length bytes → standard.Field t v bytes → t ≤ 4294967295
    → (f : Field) × (field_at standard_mode message (start_at n) ≡ Ok f) × (f.tag ≡ t) × (value_of message f ≡ v) × (f.next ≡ start_at m)
reads-one message before bytes after n m t v w p q s small =
    let r = standard_field t v bytes before after s small in
    (r.got, rw (w, p) r.reads, r.tag_is, rw w r.value_is, r.next_is ∙ ap (λ (k : ℕ). start_at k) (omega arith))

regroup : (message before a b after : List ℕ) → message ≡ before ++ ((a ++ b) ++ after) → message ≡ before ++ (a ++ (b ++ after))
regroup message before a b after w = w ∙ simp append_assoc

behind : (message before a b after : List ℕ) → message ≡ before ++ (a ++ (b ++ after)) → message ≡ (before ++ a) ++ (b ++ after)
behind message before a b after w = w ∙ sym (append_assoc before a (b ++ after))

-- a data field without a delimiter in its value is a field like any other
data_field : (t : ℕ) (text v : List ℕ) → standard.TagNum text t → 1 ≤ length v → All NotDelimiter v → standard.Field t v (text ++ (61 ∷ (v ++ (1 ∷ []))))
data_field t text v is_tag some plain = record { text = text; is_tag = is_tag; is_value = record { some = some; plain = plain }; whole = refl }

module _ (message : List ℕ) where
  -- a field that was read, and then those behind it
  pub reads_then : (n m t : ℕ) (v : List ℕ) (ts : List Told) (last : Fields) → (f : Field) × (field_at standard_mode message (start_at n) ≡ Ok f) × (f.tag ≡ t) × (value_of message f ≡ v) × (f.next ≡ start_at m)
      → ReadsAs message (fields_from standard_mode message (start_at m)) ts last → ReadsAs message (fields_from standard_mode message (start_at n)) (told t v ∷ ts) last
  reads_then n m t v ts last (f, reads, tag, value, next) more =
      let rest : ReadsAs message (fields_from standard_mode message f.next) ts last = rw next more in
      rw (fields-field standard_mode message (start_at n) f reads) (one_field tag value rest)

  pub reads-append : (F G H : Fields) (ts us : List Told) → ReadsAs message F ts G → ReadsAs message G us H → ReadsAs message F (ts ++ us) H
  reads-append F G H _ us no_field b = b
  reads-append F G H _ us (one_field tag value a) b = one_field tag value (reads-append _ G H _ us a b)

  module _ {T : Tables} where
    -- a sequence of fields of the standard is read field by field
    pub fields_read : (fs : List Told) (bytes before after : List ℕ) (n m : ℕ) → message ≡ before ++ (bytes ++ after) → n ≡ length before → m ≡ n + length bytes → standard.Fields T fs bytes → Readable fs
        → ReadsAs message (fields_from standard_mode message (start_at n)) fs (fields_from standard_mode message (start_at m))
    fields_read _ _ before after n m w p q standard.Fields.no_field r =
        let same : m ≡ n = omega arith in rw same no_field
    fields_read _ _ before after n m w p q (standard.Fields.plain {t = t} {v = v} {bytes = b} {rest = rest} {fs = fs} s x more) (also small plain r) =
        let w₁ = regroup message before b rest after w in
        let k : ℕ = n + length b in
        let size = length-append b rest in
        reads_then n k t v fs _ (reads-one message before b (rest ++ after) n k t v w₁ p refl s small)
        (fields_read fs rest (before ++ b) after k m (behind message before b rest after w₁) (omega (arith, length-append before b)) (omega arith) more r)
    fields_read _ _ before after n m w p q (standard.Fields.paired {l = l} {t = t} {count = count} {v = v} {bytes = b} {rest = rest} {fs = fs} x d more) (also small plain (also small₂ plain₂ r)) =
        let a : List ℕ = d.length-bytes in
        let c : List ℕ = d.text ++ (61 ∷ (v ++ (1 ∷ []))) in
        let w₀ : message ≡ before ++ ((a ++ (c ++ rest)) ++ after) = w ∙ ap (λ (y : List ℕ). before ++ ((y ++ rest) ++ after)) d.whole ∙ ap (λ (y : List ℕ). before ++ (y ++ after)) (append_assoc a c rest) in
        let w₁ = regroup message before a (c ++ rest) after w₀ in
        let w₂ = regroup message (before ++ a) c rest after (behind message before a (c ++ rest) after w₁) in
        let k : ℕ = n + length a in
        let j : ℕ = k + length c in
        let size : length b + length rest ≡ length a + length c + length rest = omega (arith, ap length d.whole, length-append a c) in
        let whole = length-append b rest in
        let at-data : k ≡ length (before ++ a) = omega (arith, length-append before a) in
        let at_rest : j ≡ length ((before ++ a) ++ c) = omega (arith, length-append (before ++ a) c) in
        reads_then n k l count (told t v ∷ fs) _ (reads-one message before a ((c ++ rest) ++ after) n k l count w₁ p refl d.length-field small)
        (reads_then k j t v fs _ (reads-one message (before ++ a) c (rest ++ after) k j t v w₂ at-data refl (data_field t d.text v d.is_tag d.some plain₂) small₂)
        (fields_read fs rest ((before ++ a) ++ c) after j m (behind message (before ++ a) c rest after w₂) at_rest (omega arith) more r))

    -- the first of them, whatever stands in the others
    pub first_read : (t : ℕ) (v : List ℕ) (fs : List Told) (bytes before after : List ℕ) (n : ℕ) → message ≡ before ++ (bytes ++ after) → n ≡ length before → standard.Fields T (told t v ∷ fs) bytes → t ≤ 4294967295
        → (f : Field) × (field_at standard_mode message (start_at n) ≡ Ok f) × (f.tag ≡ t) × (value_of message f ≡ v)
    first_read t v fs bytes before after n w p s small = by_form (told t v ∷ fs) bytes w s refl
      where
        by_form : (gs : List Told) (bytes : List ℕ) → message ≡ before ++ (bytes ++ after) → standard.Fields T gs bytes → gs ≡ told t v ∷ fs → (f : Field) × (field_at standard_mode message (start_at n) ≡ Ok f) × (f.tag ≡ t) × (value_of message f ≡ v)
        by_form _ _ w standard.Fields.no_field e = let z : ◌≡◌ {A = ℕ} 0 1 = cc in absurd (omega arith)
        by_form _ _ w (standard.Fields.plain {t = u} {v = x} {bytes = b} {rest = rest} s y more) e =
            let same : told u x ≡ told t v = cc in
            let r = reads-one message before b (rest ++ after) n (n + length b) u x (regroup message before b rest after w) p refl s (omega (arith, ap (λ (f : Told). f.tag) same)) in
            (r.0, r.1, r.2 ∙ ap (λ (f : Told). f.tag) same, r.3 ∙ ap (λ (f : Told). f.value) same)
        by_form _ _ w (standard.Fields.paired {l = l} {count = count} {v = x} {bytes = b} {rest = rest} y d more) e =
            let same : told l count ≡ told t v = cc in
            let a : List ℕ = d.length-bytes in
            let c : List ℕ = d.text ++ (61 ∷ (x ++ (1 ∷ []))) in
            let w₀ : message ≡ before ++ ((a ++ (c ++ rest)) ++ after) = w ∙ ap (λ (y : List ℕ). before ++ ((y ++ rest) ++ after)) d.whole ∙ ap (λ (y : List ℕ). before ++ (y ++ after)) (append_assoc a c rest) in
            let r = reads-one message before a ((c ++ rest) ++ after) n (n + length a) l count (regroup message before a (c ++ rest) after w₀) p refl d.length-field (omega (arith, ap (λ (f : Told). f.tag) same)) in
            (r.0, r.1, r.2 ∙ ap (λ (f : Told). f.tag) same, r.3 ∙ ap (λ (f : Told). f.value) same)
