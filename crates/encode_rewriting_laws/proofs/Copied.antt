-- What was written reads as what was copied: wherever the text of records stands, fields with their tags and values are read there, one
-- for each, and reading goes on behind them.
use Rattle.std.specs.Prelude.{◌≡◌, refl, true, false, List, [], ◌∷◌, ◌++◌, ◌≢◌, ℕ, suc, ◌+◌, ◌≤◌, length, drop}
use Rattle.std.proofs.Common.{ap, ◌∙◌, append_assoc, arith, length-append, le-leb}
use Rattle.std.proofs.Math.Seq.{drop-append_seam}
use Rattle.build_records.specs.Records.{value_at}
use Rattle.field_rules.proofs.SpelledLaws.{text_value, text-fields}
use Rattle.field_rules.specs.declared.Mode.{Mode}
use Rattle.field_rules.specs.Decimal.{decimal}
use Rattle.field_rules.proofs.DecimalLaws.{decimal_digits, decimal-reads}
use Rattle.field_rules.specs.Field.{start_at, field_bytes, value_of}
use Rattle.field_rules.proofs.FieldTextLaws.{spelt}
use Rattle.field_rules.specs.Fields.{Fields, field, fields_from}
use Rattle.field_rules.specs.declared.Field.{Field}
use Rattle.build_records.specs.declared.Record.{Record}
use Rattle.build_nesting_laws.specs.Entries.{All, all_none, all_more}
use Rattle.encode_rewriting_laws.proofs.ReadWritten.{Writable}
use Rattle.encode_rewriting_laws.specs.Written.{written}

-- fields that are read before others
unfoldable pub onto : List Field → Fields → Fields
onto [] rest = rest
onto (f ∷ fs) rest = field f (onto fs rest)

-- fields of a copy, one for each record: they have the record's tag, and its value
pub data Copied (bytes copy : List ℕ) : List Record → List Field → Type 0 where
  copied_none : Copied bytes copy [] []
  copied_more : {rs : List Record} {fs : List Field} (r : Record) (f : Field) → f.tag ≡ r.tag → value_of copy f ≡ value_at bytes r → Copied bytes copy rs fs → Copied bytes copy (r ∷ rs) (f ∷ fs)

pub copied_length : {bytes copy : List ℕ} {rs : List Record} {fs : List Field} → Copied bytes copy rs fs → length fs ≡ length rs
copied_length copied_none = refl
copied_length (copied_more r f tag value rest) = ap suc (copied_length rest)

-- the text of records was read at a place: a field for each, and then what stands behind
pub record CopiedAt (mode : Mode) (bytes copy : List ℕ) (at : ℕ) (rs : List Record) : Type 0 where
  pub fields : List Field
  pub copied : Copied bytes copy rs fields
  pub reads : fields_from mode copy (start_at at) ≡ onto fields (fields_from mode copy (start_at (at + length (written mode.separator bytes rs))))

-- a record's text before the text of others
copied_on : (mode : Mode) (bytes : List ℕ) (r : Record) (rs : List Record) → Writable mode.separator bytes r → (copy pre post : List ℕ) → copy ≡ pre ++ (field_bytes mode.separator (decimal r.tag) (value_at bytes r) ++ post)
    → CopiedAt mode bytes copy (length (pre ++ field_bytes mode.separator (decimal r.tag) (value_at bytes r))) rs → CopiedAt mode bytes copy (length pre) (r ∷ rs)
unfolding written onto
copied_on mode bytes r rs writable copy pre post whole later =
    let reads-tag = decimal-reads r.tag writable.least writable.most in
    let text = field_bytes mode.separator (decimal r.tag) (value_at bytes r) in
    let size : length (pre ++ text) + length (written mode.separator bytes rs) ≡ length pre + length (text ++ written mode.separator bytes rs) =
    omega (arith, length-append pre text, length-append text (written mode.separator bytes rs)) in
    let f : Field = spelt (length pre) r.tag (decimal r.tag) (value_at bytes r) in
    let value : value_of copy f ≡ value_at bytes r = text_value mode r.tag copy pre (decimal r.tag) (value_at bytes r) post whole reads-tag (decimal_digits r.tag) writable.no_separator in
    record {
      fields = f ∷ later.fields;
      copied = copied_more r f refl value later.copied;
      reads =
          text-fields mode r.tag copy pre (decimal r.tag) (value_at bytes r) post whole reads-tag (decimal_digits r.tag) writable.no_separator
          ∙ ap (λ (rest : Fields). field f rest) (later.reads ∙ ap (λ (n : ℕ). onto later.fields (fields_from mode copy (start_at n))) size);
    }

pub copied_read : (mode : Mode) (bytes : List ℕ) (rs : List Record) → All (Writable mode.separator bytes) rs → (copy pre post : List ℕ) → copy ≡ pre ++ (written mode.separator bytes rs ++ post) → CopiedAt mode bytes copy (length pre) rs
unfolding written onto
copied_read mode bytes [] all_none copy pre post whole =
    record { fields = []; copied = copied_none; reads = ap (λ (n : ℕ). fields_from mode copy (start_at n)) (omega arith) }
copied_read mode bytes (r ∷ rs) (all_more writable more) copy pre post whole =
    copied_on mode bytes r rs writable copy pre (written mode.separator bytes rs ++ post) (whole ∙ simp append_assoc)
    (copied_read mode bytes rs more copy (pre ++ field_bytes mode.separator (decimal r.tag) (value_at bytes r)) post (whole ∙ simp append_assoc))
