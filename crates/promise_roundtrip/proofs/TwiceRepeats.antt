-- Where a tag was stored twice in one map, two fields with the tag stand there: in header, body or trailer an earlier and a later one, of which the
-- earlier has no record; or in an entry of a run that was read, which takes only unknown user tags twice.
use Rattle.std.specs.Prelude.{◌≡◌, refl, Bool, true, false, List, [], ◌∷◌, ◌++◌, ℕ, eqb}
use Rattle.std.proofs.Common.{sym, ap, ◌∙◌, append_assoc, arith, eqb-true}
use Rattle.std.proofs.lemmas.Bool.{eqb-false}
use Rattle.field_rules.specs.Choice.{pick}
use Rattle.field_rules.specs.Fields.{Fields, unreadable, field}
use Rattle.field_rules.specs.declared.Field.{Field}
use Rattle.dictionary_layout_rules.specs.Tree.{holds_tag}
use Rattle.build_records.specs.Records.{stored}
use Rattle.build_records.specs.declared.Record.{Record}
use Rattle.build_required_rules.specs.Required.{has}
use Rattle.build_nesting_laws.specs.Entries.{All, Deep}
use Rattle.build_parts.specs.Parts.{part_record}
use Rattle.build_body_rules.specs.Body.{stored_run}
use Rattle.build_order_laws.specs.Twice.{twice_in_header, twice_in_trailer}
use Rattle.promise_roundtrip.specs.UnderTag.{under, Single}
use Rattle.promise_roundtrip.specs.LastRead.{latest, header_takes, trailer_takes}
use Rattle.promise_roundtrip.proofs.LastReadLaws.{field-under, field-single, count_under, count-single}
use Rattle.promise_roundtrip.specs.LaterHeld.{Repeats}

-- a field with a tag among fields
record Found (tag : ℕ) (fs : List Field) : Type 0 where
  before : List Field
  that : Field
  after : List Field
  is : fs ≡ before ++ (that ∷ after)
  tagged : that.tag ≡ tag

-- what a map holds under a tag was one of the fields that were stored
has_some : (depth tag : ℕ) (rs : List Record) → has depth tag rs ≡ true → under depth tag rs ≡ [] → ⊥
unfolding has under
has_some depth tag [] h e = let z : ◌≡◌ {A = ℕ} 0 1 = cc in omega arith
has_some depth tag (r ∷ rs) h e = by_tests (eqb r.depth depth) (eqb r.tag tag) h e (has_some depth tag rs)
  where
    by_tests : (d t : Bool) → pick d (pick t true (has depth tag rs)) (has depth tag rs) ≡ true
        → pick d (pick t (r ∷ under depth tag rs) (under depth tag rs)) (under depth tag rs) ≡ [] → (has depth tag rs ≡ true → under depth tag rs ≡ [] → ⊥)
        → ⊥
    by_tests true true h e later = let z : ◌≡◌ {A = ℕ} 0 1 = cc in omega arith
    by_tests true false h e later = later h e
    by_tests false t h e later = later h e

found_some : (part tag : ℕ) (fs : List Field) → (latest part tag [] fs ≡ [] → ⊥) → Found tag fs
unfolding latest
found_some part tag [] some = absurd (some refl)
found_some part tag (f ∷ fs) some = by_tag (eqb f.tag tag) refl some (found_some part tag fs)
  where
    by_tag : (b : Bool) → eqb f.tag tag ≡ b → (latest part tag (pick b (part_record part f ∷ []) []) fs ≡ [] → ⊥)
        → ((latest part tag [] fs ≡ [] → ⊥) → Found tag fs) → Found tag (f ∷ fs)
    by_tag true e some later = record { before = []; that = f; after = fs; is = refl; tagged = eqb-true _ _ e }
    by_tag false e some later =
        let l = later some in
        record { before = f ∷ l.before; that = l.that; after = l.after; is = ap (λ (fs₁ : List Field). f ∷ fs₁) l.is; tagged = l.tagged }

latest-last : (part tag : ℕ) (held : List Record) (fs : List Field) (f : Field)
    → latest part tag held (fs ++ (f ∷ [])) ≡ pick (eqb f.tag tag) (part_record part f ∷ []) (latest part tag held fs)
unfolding latest
latest-last part tag held [] f = refl
latest-last part tag held (g ∷ fs) f = latest-last part tag (pick (eqb g.tag tag) (part_record part g ∷ []) held) fs f

-- two fields with the same tag stand among fields
pub record RepeatedIn (fs : List Field) : Type 0 where
  pub earlier : Field
  pub later : Field
  pub repeats : Repeats fs earlier later

-- records that hold the last of some fields, under the tags that are asked for
pub record HoldsLast (Asked : ℕ → Type 0) (part : ℕ) (fs : List Field) (rs : List Record) : Type 0 where
  pub single : Single 0 rs
  pub same : (tag : ℕ) → Asked tag → under 0 tag rs ≡ latest part tag [] fs

module _ (Asked : ℕ → Type 0) (part : ℕ) (fs : List Field) (f : Field) (rest : List Field) (rs : List Record) (h : HoldsLast Asked part fs rs) where
  -- a field whose tag they hold
  pub repeated_now : Asked f.tag → has 0 f.tag rs ≡ true → RepeatedIn (fs ++ (f ∷ rest))
  repeated_now asked held =
      let l = found_some part f.tag fs (λ e. has_some 0 f.tag rs held (h.same f.tag asked ∙ e)) in
      record {
        earlier = l.that;
        later = f;
        repeats =
            record {
              before = l.before;
              between = l.after;
              after = rest;
              is = ap (λ (fs₁ : List Field). fs₁ ++ (f ∷ rest)) l.is
                  ∙ append_assoc l.before (l.that ∷ l.after) (f ∷ rest);
              same_tag = l.tagged;
            };
      }

  -- or a later one
  repeated_later : RepeatedIn ((fs ++ (f ∷ [])) ++ rest) → RepeatedIn (fs ++ (f ∷ rest))
  repeated_later r = record { earlier = r.earlier; later = r.later; repeats = rw (append_assoc fs (f ∷ []) rest) at r.repeats }

  pub stored-holds : HoldsLast Asked part (fs ++ (f ∷ [])) (stored (part_record part f) rs)
  stored-holds =
      record {
        single = field-single part f rs h.single;
        same =
            λ tag asked. field-under part f rs h.single tag ∙ ap (pick (eqb f.tag tag) (part_record part f ∷ [])) (h.same tag asked)
            ∙ sym (latest-last part tag [] fs f);
      }

  pub run_holds : (es : List Record) → All (Deep 1) es → HoldsLast Asked part (fs ++ (f ∷ [])) (stored_run (part_record part f) es rs)
  run_holds es deeper =
      record {
        single = count-single part f rs h.single es deeper;
        same =
            λ tag asked. count_under part f rs h.single es deeper tag ∙ ap (pick (eqb f.tag tag) (part_record part f ∷ [])) (h.same tag asked)
            ∙ sym (latest-last part tag [] fs f);
      }

-- every tag is asked for, or every tag but 10
abbrev pub Any : ℕ → Type 0
Any tag = Unit {0}

abbrev pub NotTen : ℕ → Type 0
NotTen tag = tag ≡ 10 → ⊥

pub header_repeats : (tags : List ℕ) (fs : List Field) (fields : Fields) (rs : List Record) → HoldsLast Any 1 fs rs → twice_in_header tags fields rs ≡ true
    → RepeatedIn (fs ++ header_takes tags fields)
unfolding twice_in_header header_takes
header_repeats tags fs (unreadable cause place) rs h e = let z : ◌≡◌ {A = ℕ} 0 1 = cc in absurd (omega arith)
header_repeats tags fs (field f rest) rs h e =
    by_tests (holds_tag f.tag tags) (has 0 f.tag rs) refl e
    (header_repeats tags (fs ++ (f ∷ [])) rest (stored (part_record 1 f) rs) (stored-holds Any 1 fs f (header_takes tags rest) rs h))
  where
    by_tests : (b d : Bool) → has 0 f.tag rs ≡ d → pick b (pick d true (twice_in_header tags rest (stored (part_record 1 f) rs))) false ≡ true
        → (twice_in_header tags rest (stored (part_record 1 f) rs) ≡ true → RepeatedIn ((fs ++ (f ∷ [])) ++ header_takes tags rest))
        → RepeatedIn (fs ++ pick b (f ∷ header_takes tags rest) [])
    by_tests true true d e later = repeated_now Any 1 fs f (header_takes tags rest) rs h tt d
    by_tests true false d e later = repeated_later Any 1 fs f (header_takes tags rest) rs h (later e)
    by_tests false x d e later = let z : ◌≡◌ {A = ℕ} 0 1 = cc in absurd (omega arith)

-- the verified 10 is the only 10
pub trailer_repeats : (fs : List Field) (fields : Fields) (rs : List Record) → HoldsLast NotTen 3 fs rs → twice_in_trailer fields rs ≡ true
    → RepeatedIn (fs ++ trailer_takes fields)
unfolding twice_in_trailer trailer_takes
trailer_repeats fs (unreadable cause place) rs h e = let z : ◌≡◌ {A = ℕ} 0 1 = cc in absurd (omega arith)
trailer_repeats fs (field f rest) rs h e =
    by_tests (eqb f.tag 10) (has 0 f.tag rs) refl refl e
    (trailer_repeats (fs ++ (f ∷ [])) rest (stored (part_record 3 f) rs) (stored-holds NotTen 3 fs f (trailer_takes rest) rs h))
  where
    by_tests : (b d : Bool) → eqb f.tag 10 ≡ b → has 0 f.tag rs ≡ d
        → pick b false (pick d true (twice_in_trailer rest (stored (part_record 3 f) rs))) ≡ true
        → (twice_in_trailer rest (stored (part_record 3 f) rs) ≡ true → RepeatedIn ((fs ++ (f ∷ [])) ++ trailer_takes rest))
        → RepeatedIn (fs ++ pick b [] (f ∷ trailer_takes rest))
    by_tests true x b d e later = let z : ◌≡◌ {A = ℕ} 0 1 = cc in absurd (omega arith)
    by_tests false true b d e later = repeated_now NotTen 3 fs f (trailer_takes rest) rs h (eqb-false _ _ b) d
    by_tests false false b d e later = repeated_later NotTen 3 fs f (trailer_takes rest) rs h (later e)
