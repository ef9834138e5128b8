-- The header and the trailer of a message of the standard: plain fields, none of them twice, each with a record of its own, in order.
use Rattle.std.specs.Prelude.{◌≡◌, true, false, ◌≢◌, length}
use Rattle.std.proofs.Math.Path.{refl, ap}
use Rattle.std.proofs.Common.{sym, ◌∙◌}
use mathlib.Core.List.{List, [], ◌∷◌, ◌++◌, append_assoc, append-nil}
use Prim.Native.Nat.{ℕ, suc, ◌+◌}
use native.Mathlib.Omega.{arith}
use Rattle.field_rules.specs.Field.{value_of}
use Rattle.field_rules.specs.Fields.{Fields, field}
use Rattle.standard_rules.specs.Standard.{Tables, NoCount, All, Told, told, members, Stands}
use Rattle.standard_rules.proofs.StandardLaws.{tags}
use Rattle.field_rules.specs.declared.Field.{Field}
use Rattle.dictionary_layout_rules.specs.Tree.{holds_tag}
use Rattle.build_records.specs.Records.{stored}
use Rattle.build_records.specs.declared.Record.{Record}
use Rattle.build_parts.specs.Parts.{ended, part_record}
use Rattle.build_parts.specs.Header.{header_from}
use Rattle.build_parts.specs.Trailer.{stopped, trailer_from}
use Rattle.build_parts.specs.TrailerLaws.{trailer-stops, trailer_takes}
use Rattle.promise_standard.specs.Reading.{ReadsAs, no_field, one_field}
use Rattle.promise_standard.specs.Groups.{numbered, Tell, no_record, one_record}
use Rattle.promise_standard.specs.GroupOwn.{Fresh, fresh_record}
use Rattle.promise_standard_build.proofs.BodyWalk.{fresh-stored}

-- depth and entry number of fields that stand outside groups
unfoldable pub outside : List Told → List (ℕ × ℕ)
outside [] = []
outside (f ∷ fs) = (0, 0) ∷ outside fs

-- where no field opens a group, all stand outside groups
pub plain-outside : {T : Tables} {Here : ℕ → Type 0} {ts : List ℕ} {fs : List Told} (s : Stands T Here (members ts) fs) → All (NoCount T) (tags fs)
    → numbered 0 0 s ≡ outside fs
unfolding numbered outside
plain-outside Stands.no_member a = refl
plain-outside (Stands.field _ _ s) (All.also n a) = ap (λ (l : List (ℕ × ℕ)). (0, 0) ∷ l) (plain-outside s a)
plain-outside (Stands.group {d = d} _ opening i g s) (All.also n a) = absurd (n.no_delimiter d opening)

-- the record of a field that is new comes last, and those still to come are new behind it
module _ (part : ℕ) (f : Field) (t : ℕ) (ts : List ℕ) (done : List Record) (same : f.tag ≡ t) (fresh : Fresh 0 0 (t ∷ ts) done) where
  pub part-stored : stored (part_record part f) done ≡ done ++ (part_record part f ∷ [])
  unfolding part_record
  part-stored = fresh-stored (part_record part f) t ts done refl same fresh

  pub part-fresh : Fresh 0 0 ts (done ++ (part_record part f ∷ []))
  unfolding part_record
  part-fresh = fresh_record 0 0 t ts done (part_record part f) same fresh

module _ (message : List ℕ) (part : ℕ) where
  -- the records of fields that were read one by one, behind those so far
  pub record Recorded (fs : List Told) (done : List Record) (comes_to : List Record → Type 0) : Type 0 where
    pub records : List Record
    pub walked : comes_to (done ++ records)
    pub tells : Tell message part (outside fs) fs records

  -- a plain field more
  recorded_more : {t : ℕ} {v : List ℕ} {fs : List Told} {done : List Record} {comes_to here : List Record → Type 0} (f : Field) → f.tag ≡ t
      → value_of message f ≡ v → ((l : List Record) → comes_to l → here l) → Recorded fs (done ++ (part_record part f ∷ [])) comes_to
      → Recorded (told t v ∷ fs) done here
  unfolding part_record value_of outside
  recorded_more {done = done} f same value goes r = record {
    records = part_record part f ∷ r.records;
    walked = goes _ (rw (append_assoc done (part_record part f ∷ []) r.records) at r.walked);
    tells = one_record refl refl refl same value r.tells;
  }

header_takes : (known : List ℕ) (f : Field) (later : Fields) (n room : ℕ) (done : List Record) → n ≡ suc room → holds_tag f.tag known ≡ true
    → header_from known (field f later) n done ≡ header_from known later room (stored (part_record 1 f) done)
unfolding header_from
header_takes known f later n room done e h = rw (e, h)

module _ (message : List ℕ) (x : Field) (rest : Fields) (left : ℕ) where
  -- the header up to the first field that is not of it
  pub header-walk : (known : List ℕ) (fs : List Told) (done : List Record) (fields : Fields) → ReadsAs message fields fs (field x rest)
      → All (λ t. holds_tag t known ≡ true) (tags fs) → holds_tag x.tag known ≡ false → Fresh 0 0 (tags fs) done
      → Recorded message 1 fs done (λ rs. header_from known fields (length fs + suc left) done ≡ ended x rest left rs)
  unfolding header_from outside
  header-walk known _ done _ no_field a over fresh =
      record { records = []; walked = let room : 0 + suc left ≡ suc left = omega arith in rw (room, over, append-nil done); tells = no_record }
  header-walk known _ done _ (one_field {f = f} {t = t} {v = v} {rest = later} {ts = fs} same value reads) (All.also h a) over fresh =
      let last = part-stored 1 f t (tags fs) done same fresh in
      recorded_more message 1 f same value (λ l e. header_takes known f later (suc (length fs) + suc left) (length fs + suc left) done (omega arith)
      (rw same h) ∙ ap (header_from known later (length fs + suc left)) last
      ∙ e) (header-walk known fs (done ++ (part_record 1 f ∷ [])) later reads a over (part-fresh 1 f t (tags fs) done same fresh))

  -- the trailer up to CheckSum
  pub trailer-walk : (fs : List Told) (done : List Record) (fields : Fields) → ReadsAs message fields fs (field x rest) → All (λ t. t ≢ 10) (tags fs)
      → x.tag ≡ 10 → Fresh 0 0 (tags fs) done
      → Recorded message 3 fs done (λ rs. trailer_from fields (length fs + suc left) done ≡ stopped x rs)
  unfolding outside
  trailer-walk _ done _ no_field a ten fresh =
      record {
        records = [];
        walked = ap (λ (n : ℕ). trailer_from (field x rest) n done) (omega arith) ∙ trailer-stops x rest left done ten
            ∙ ap (λ (l : List Record). stopped x l) (sym (append-nil done));
        tells = no_record;
      }
  trailer-walk _ done _ (one_field {f = f} {t = t} {v = v} {rest = later} {ts = fs} same value reads) (All.also h a) ten fresh =
      let last = part-stored 3 f t (tags fs) done same fresh in
      recorded_more message 3 f same value (λ l e. ap (λ (n : ℕ). trailer_from (field f later) n done) (omega arith)
      ∙ trailer_takes f later (length fs + suc left) done (λ ten. h (sym same ∙ ten)) ∙ ap (trailer_from later (length fs + suc left)) last
      ∙ e) (trailer-walk fs (done ++ (part_record 3 f ∷ [])) later reads a ten (part-fresh 3 f t (tags fs) done same fresh))
