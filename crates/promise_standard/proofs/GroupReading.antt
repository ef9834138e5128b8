-- "a repeating group of the standard that fits its layout is read as exactly its entries". By the form of what fits: members and entries are
-- walked off their frame, and the field behind them is taken by what is open below.
use Rattle.std.specs.Prelude.{◌≡◌, refl, ◌⊎◌, Bool, true, length}
use Rattle.std.proofs.Math.Path.{sym, ap}
use Rattle.std.proofs.Common.{◌∙◌, inl, inr, arith}
use mathlib.Core.List.{List, [], ◌∷◌, ◌++◌, append_assoc, append-nil}
use Prim.Native.Nat.{ℕ, zero, suc, ◌+◌, ◌≤◌, ◌<◌}
use Rattle.std.proofs.Math.ListN.{length-append}
use Rattle.field_rules.specs.Fields.{Fields, field}
use Rattle.standard_rules.specs.Standard.{Tables, NoCount, All, placed, Told, told, Int, Once, Stretch, members, entries, Stands}
use Rattle.field_rules.specs.declared.Field.{Field}
use Rattle.build_records.specs.declared.Record.{Record}
use Rattle.dictionary_layout_rules.specs.Layout.{Layout}
use Rattle.build_group_rules.specs.Groups.{none, opened, Rules, opens, plain, count, ends, entry_kind, OpenGroup, Frame, run, outermost, entry, entry_record, ended, walk, taking}
use Rattle.build_group_rules.specs.Reading.{list_store, layout_rules}
use Rattle.promise_standard.specs.Reading.{ReadsAs, no_field, one_field}
use Rattle.standard_rules.proofs.StandardLaws.{distinct_behind}
use Rattle.promise_standard.specs.Groups.{numbered, records_as, tag_behind, Part, entries_of, members_of, Leaves, Rises, Joins, Fits}
use Rattle.promise_standard.specs.GroupOwn.{Fresh, fresh-entry, fresh-field, fresh-nested, fresh-joined}
use Rattle.promise_standard.proofs.GroupSteps.{kind_delimiter, kind_leaves, kind_joins, entry-joined, kind_plain, kind_count, walk-next, none-takes, run-opens, run_passes, entry-takes, entry-counts, entry_passes, reads_split, numbered_each, records_behind}

-- the tag behind an entry is the delimiter again, or the one behind all entries
entries-first : {T : Tables} {Here : ℕ → Type 0} {stretch : Stretch} {gs : List Told} (c d n next : ℕ) → Stands T Here stretch gs → stretch ≡ entries c d n → (tag_behind next gs ≡ d) ⊎ (tag_behind next gs ≡ next)
unfolding tag_behind
entries-first c d n next Stands.no_entry e = inr refl
entries-first c d n next (Stands.entry {d = k} (Stands.field _ _ m) _ x g) e = let same : k ≡ d = cc in inl same
entries-first c d n next (Stands.entry {d = k} (Stands.group _ _ i h m) _ x g) e = let same : k ≡ d = cc in inl same
entries-first c d n next Stands.no_member e = let z : ◌≡◌ {A = ℕ} 0 1 = cc in absurd (omega arith)
entries-first c d n next (Stands.field _ _ m) e = let z : ◌≡◌ {A = ℕ} 0 1 = cc in absurd (omega arith)
entries-first c d n next (Stands.group _ _ i g m) e = let z : ◌≡◌ {A = ℕ} 0 1 = cc in absurd (omega arith)

-- one or more entries have one or more fields
pub some-fields : {T : Tables} {Here : ℕ → Type 0} {stretch : Stretch} {gs : List Told} (c d n : ℕ) → Stands T Here stretch gs → stretch ≡ entries c d (suc n) → 1 ≤ length gs
some-fields c d n Stands.no_entry e = let z : zero ≡ suc n = cc in absurd (omega arith)
some-fields c d n (Stands.entry (Stands.field _ _ m) _ x g) e = omega arith
some-fields c d n (Stands.entry (Stands.group _ _ i h m) _ x g) e = omega arith
some-fields c d n Stands.no_member e = let z : ◌≡◌ {A = ℕ} 0 1 = cc in absurd (omega arith)
some-fields c d n (Stands.field _ _ m) e = omega arith
some-fields c d n (Stands.group _ _ i g m) e = omega arith

-- the tags of members
abbrev pub tags_of : Stretch → List ℕ
tags_of (members ts) = ts
tags_of (entries c d n) = []

module _ {L : Type 0} (rules : Rules L) (message : List ℕ) where
  -- What it is to be read: the fields of a stretch leave their frame with the records that the standard's structure gives them, and the field
  -- behind them is taken by what is open below.
  abbrev pub Walks : Frame L → List (ℕ × ℕ) → List Told → ℕ → List Record → Type 0
  Walks frame ns fs next done =
      (left : ℕ) (below : List (Frame L)) (fields : Fields) (x : Field) (rest : Fields) → x.tag ≡ next → ReadsAs message fields fs (field x rest)
      → walk rules list_store (length fs + suc left) (frame ∷ below) done fields ≡ taking rules list_store left below (done ++ records_as ns fields) x rest

  -- nothing of an entry takes the tag, whatever came last
  abbrev pub Over : L → ℕ → ℕ → Type 0
  Over level depth tag = (last : ℕ) → entry_kind rules level depth last tag ≡ ends

  module _ (T : Tables) (Here : ℕ → Type 0) where
    abbrev pub Reads : Part L → ℕ → (stretch : Stretch) → (fs : List Told) → Stands T Here stretch fs → Type 0
    Reads (members_of level depth last) next stretch fs s = (group number start : ℕ) (done : List Record) → Over level depth next → Fresh start depth (tags_of stretch) done
        → Walks (entry (record { level = level; tag = group; depth = depth }) (record { number = number; last = last; start = start })) (numbered depth number s) fs next done
    Reads (entries_of level depth) next stretch fs s =
        (group number : ℕ) (done : List Record) → Leaves rules level next → 1 ≤ number + length fs → Walks (run (record { level = level; tag = group; depth = depth }) number) (numbered depth number s) fs next done

    reads_no_member : (level : L) (depth last next : ℕ) → Reads (members_of level depth last) next _ [] Stands.no_member
    unfolding numbered records_as
    reads_no_member level depth last next group number start done over fresh left below _ x rest tag no_field =
        walk-next rules done x rest _ _ left (omega arith)
        ∙ entry_passes rules done x rest below left _ _ (rw tag (over last))
        ∙ ap (λ (l : List Record). taking rules list_store left below l x rest) (sym (append-nil done))

    reads_no_entry : (level : L) (depth next c d : ℕ) → Reads (entries_of level depth) next _ [] (Stands.no_entry {c = c} {d = d})
    unfolding numbered records_as
    reads_no_entry level depth next c d group number done leaves some left below _ x rest tag no_field =
        walk-next rules done x rest _ _ left (omega arith)
        ∙ run_passes rules done x rest below left _ number (rw tag leaves.no_delimiter) (omega arith)
        ∙ ap (λ (l : List Record). taking rules list_store left below l x rest) (sym (append-nil done))

    reads_plain : (level : L) (depth last next position t : ℕ) (v : List ℕ) {ts : List ℕ} {fs : List Told} (may : Here t) (single : NoCount T t) (s : Stands T Here (members ts) fs) → Rises rules level last position t → (rules.group level t ≡ none) ⊎ (4 ≤ depth)
        → Reads (members_of level depth position) next _ fs s → Reads (members_of level depth last) next _ (told t v ∷ fs) (Stands.field {t = t} {v = v} may single s)
    unfolding numbered records_as
    reads_plain level depth last next position t v {ts = ts} {fs = fs} may single s rises g more group number start done over fresh left below _ x rest tag (one_field {f = f} {rest = later} same value reads) =
        let r : Record = entry_record depth number f in
        walk-next rules done f later _ _ (length fs + suc left) (omega arith)
        ∙ entry-takes rules done f later below _ _ _ position (rw same (kind_plain rules level depth last position t rises g))
        ∙ more group number start (done ++ (r ∷ [])) over (fresh-field start depth number t ts done f same fresh) left below later x rest tag reads
        ∙ ap (λ (l : List Record). taking rules list_store left below l x rest) (append_assoc done (r ∷ []) (records_as (numbered depth number s) later))

    reads-user : (level : L) (depth last next t : ℕ) (v : List ℕ) {ts : List ℕ} {fs : List Told} (may : Here t) (single : NoCount T t) (s : Stands T Here
        (members ts) fs) → Joins rules level t → Reads (members_of level depth last) next _ fs s → Reads (members_of level depth last) next _ (told t v
        ∷ fs) (Stands.field {t = t} {v = v} may single s)
    unfolding numbered records_as
    reads-user level depth last next t v {ts = ts} {fs = fs} may single s joins more group number start done over fresh left below _ x rest tag (one_field {f = f} {rest = later} same value reads) =
        let r : Record = entry_record depth number f in
        walk-next rules done f later _ _ (length fs + suc left) (omega arith)
        ∙ entry-joined rules done f later below _ _ _ (rw same (kind_joins rules level depth last t joins))
        ∙ ap (λ (l : List Record). walk rules list_store (length fs + suc left) (entry (record { level = level; tag = group; depth = depth }) (record { number = number; last = last; start = start }) ∷ below) l later) (fresh-joined start depth number t ts done f same fresh)
        ∙ more group number start (done ++ (r ∷ [])) over (fresh-field start depth number t ts done f same fresh) left below later x rest tag reads
        ∙ ap (λ (l : List Record). taking rules list_store left below l x rest) (append_assoc done (r ∷ []) (records_as (numbered depth number s) later))

    reads-nested : (level inner : L) (depth last next position t : ℕ) {d n : ℕ} {count : List ℕ} {ts : List ℕ} {gs fs : List Told} (may : Here t)
        (opening : T.Group t d) (i : Int count (suc n)) (g : Stands T Here (entries t d (suc n)) gs) (s : Stands T Here (members ts) fs) →
        Rises rules level last position t → rules.group level t ≡ opened inner → depth < 4
        → Leaves rules inner (tag_behind next fs) → 1 ≤ length gs → Reads (entries_of inner (depth + 1)) (tag_behind next fs) _ gs g → Reads (members_of level depth position) next _ fs s → Reads (members_of level depth last) next _ (told t count ∷ (gs ++ fs)) (Stands.group {t = t} may opening i g s)
    unfolding numbered records_as
    reads-nested level inner depth last next position t {ts = ts} {gs = gs} {fs = fs} may opening i g s rises opens-inner deep leaves some inside more group number start done over fresh left below _ x rest tag (one_field {f = f} {rest = later} same value reads) =
        let r : Record = entry_record depth number f in
        let cut = reads_split message x rest later gs fs reads in
        let inner-records : List Record = records_as (numbered (depth + 1) 0 g) later in
        let size = length-append gs fs in
        walk-next rules done f later _ _ (length gs + suc (length fs + left)) (omega arith)
        ∙ entry-counts rules done f later below _ _ _ inner position (rw same (kind_count rules level inner depth last position t rises opens-inner deep))
        ∙ inside f.tag 0 (done ++ (r
        ∷ [])) leaves (omega arith) (length fs + left) (entry (record { level = level; tag = group; depth = depth })
        (record { number = number; last = position; start = start }) ∷ below) later cut.next cut.rest (cut.tag_is
        ∙ ap (λ (n : ℕ). tag_behind n fs) tag) cut.reads_first
        ∙ sym (walk-next rules ((done ++ (r ∷ [])) ++ inner-records) cut.next cut.rest (entry (record { level = level; tag = group; depth = depth }) (record { number = number; last = position; start = start }) ∷ below) (length fs + suc left) (length fs + left) (omega arith))
        ∙ more group number start ((done ++ (r ∷ [])) ++ inner-records) over (fresh-nested start depth ts (done ++ (r ∷ [])) g later (fresh-field start depth number t ts done f same fresh)) left below (field cut.next cut.rest) x rest tag cut.reads_second
        ∙ ap (λ (l : List Record). taking rules list_store left below l x rest)
        (records_behind message done r later (field cut.next cut.rest) gs (numbered (depth + 1) 0 g) (numbered depth number s) cut.reads_first (numbered_each (depth + 1) 0 g))

    over-entry : {gs : List Told} (level : L) (depth c d n next : ℕ) → opens rules level d ≡ true → Leaves rules level next → Stands T Here (entries c d n) gs → Over level depth (tag_behind next gs)
    over-entry {gs} level depth c d n next o leaves g = by_next (entries-first c d n next g refl)
      where
        by_next : (tag_behind next gs ≡ d) ⊎ (tag_behind next gs ≡ next) → Over level depth (tag_behind next gs)
        by_next (inl e) last = rw e (kind_delimiter rules level depth last d o)
        by_next (inr e) last = rw e (kind_leaves rules level depth last next leaves)

    reads-starts : (level : L) (depth next c d n : ℕ) (v : List ℕ) {ts : List ℕ} {fs gs : List Told} (may : Here d) (single : NoCount T d) (m : Stands T Here (members ts) fs) (own : All (T.Member c) (d ∷ ts)) (once : Once (d ∷ ts)) (g : Stands T Here (entries c d n) gs) → opens rules level d ≡ true
        → Reads (members_of level depth 0) (tag_behind next gs) _ fs m → Reads (entries_of level depth) next _ gs g → Reads (entries_of level depth) next _ (told d v ∷ (fs ++ gs)) (Stands.entry (Stands.field {t = d} {v = v} may single m) own once g)
    unfolding numbered records_as
    reads-starts level depth next c d n v {ts = ts} {fs = fs} {gs = gs} may single m own once g o first more group number done leaves some left below _ x rest tag (one_field {f = f} {rest = later} same value reads) =
        let r : Record = entry_record depth (number + 1) f in
        let cut = reads_split message x rest later fs gs reads in
        let records : List Record = records_as (numbered depth (number + 1) m) later in
        let size = length-append fs gs in
        walk-next rules done f later _ _ (length fs + suc (length gs + left)) (omega arith)
        ∙ run-opens rules done f later below _ _ number (rw same o)
        ∙ first group (number + 1) (length done) (done ++ (r
        ∷ [])) (over-entry level depth c d n next o leaves g) (fresh-field (length done) depth (number + 1) d ts done f same (fresh-entry depth (d
        ∷ ts) done (distinct_behind placed (d
        ∷ ts) once.distinct))) (length gs + left) (run (record { level = level; tag = group; depth = depth }) (number + 1)
        ∷ below) later cut.next cut.rest (cut.tag_is ∙ ap (λ (n : ℕ). tag_behind n gs) tag) cut.reads_first
        ∙ sym (walk-next rules ((done ++ (r ∷ [])) ++ records) cut.next cut.rest (run (record { level = level; tag = group; depth = depth }) (number + 1) ∷ below) (length gs + suc left) (length gs + left) (omega arith))
        ∙ more group (number + 1) ((done ++ (r ∷ [])) ++ records) leaves (omega arith) left below (field cut.next cut.rest) x rest tag cut.reads_second
        ∙ ap (λ (l : List Record). taking rules list_store left below l x rest)
        (records_behind message done r later (field cut.next cut.rest) fs (numbered depth (number + 1) m) (numbered depth (number + 1) g) cut.reads_first (numbered_each depth (number + 1) m))

    -- whatever fits is read
    pub fits_read : {part : Part L} {next : ℕ} {stretch : Stretch} {fs : List Told} {s : Stands T Here stretch fs} → Fits rules part next stretch fs s → Reads part next stretch fs s
    fits_read (Fits.no_member {level} {depth} {last} {next}) = reads_no_member level depth last next
    fits_read (Fits.plain {level} {depth} {last} {next} {position} {t} {v} {may = may} {single = single} {s = s} rises g more) = reads_plain level depth last next position t v may single s rises g (fits_read more)
    fits_read (Fits.user {level} {depth} {last} {next} {t} {v} {may = may} {single = single} {s = s} joins more) = reads-user level depth last next t v may single s joins (fits_read more)
    fits_read (Fits.nested {level} {inner} {depth} {last} {next} {position} {t} {may = may} {opening = opening} {i = i} {g = g} {s = s} rises o deep leaves inside more) =
        reads-nested level inner depth last next position t may opening i g s rises o (omega (arith, deep)) leaves (some-fields _ _ _ g refl) (fits_read inside) (fits_read more)
    fits_read (Fits.no_entry {level} {depth} {next} {c} {d}) = reads_no_entry level depth next c d
    fits_read (Fits.starts {level} {depth} {next} {c} {d} {n} {v} {may = may} {single = single} {m = m} {own = own} {once = once} {g = g} o first more) = reads-starts level depth next c d n v may single m own once g o (fits_read first) (fits_read more)

    -- THE STANDARD, repeating groups: the entries of a group that fits its layout are read as exactly its entries, each field with the depth
    -- and the entry number that the standard's structure gives it, and reading ends at the field behind them.
    pub group-read : {c d n : ℕ} {gs : List Told} (s : Stands T Here (entries c d (suc n)) gs) (group : OpenGroup L) (left : ℕ) (done : List Record) (fields : Fields) (x : Field) (rest : Fields)
        → Fits rules (entries_of group.level group.depth) x.tag (entries c d (suc n)) gs s → Leaves rules group.level x.tag
        → ReadsAs message fields gs (field x rest) → walk rules list_store (length gs + suc left) (run group 0 ∷ []) done fields
        ≡ ended x rest left (done ++ records_as (numbered group.depth 0 s) fields)
    group-read {c} {d} {n} {gs} s group left done fields x rest fits leaves reads =
        fits_read fits group.tag 0 done leaves (omega (arith, some-fields c d n s refl)) left [] fields x rest refl reads
        ∙ none-takes rules (done ++ records_as (numbered group.depth 0 s) fields) x rest left

-- the same for layouts, from the first level on
pub layout_group-read : {T : Tables} {Here : ℕ → Type 0} {c d n : ℕ} {gs : List Told} (message : List ℕ) (accepts : ℕ →
    Bool) (s : Stands T Here (entries c d (suc n)) gs) (layout : Layout) (tag left : ℕ) (fields : Fields) (x : Field) (rest : Fields) →
    Fits (layout_rules accepts) (entries_of layout 1) x.tag (entries c d (suc n)) gs s → Leaves (layout_rules accepts) layout x.tag
    → ReadsAs message fields gs (field x rest) → walk (layout_rules accepts) list_store (length gs + suc left) (run (outermost tag layout) 0 ∷ []) [] fields
    ≡ ended x rest left (records_as (numbered 1 0 s) fields)
layout_group-read message accepts s layout tag left fields x rest fits leaves reads =
    group-read (layout_rules accepts) message _ _ s (outermost tag layout) left [] fields x rest fits leaves reads
