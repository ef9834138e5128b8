-- The check of a run finds nothing missing exactly where each entry has the fields that its layout requires: the records of a run fall into
-- its entries, and those of an entry into its members, as the standard's structure has them.
use Rattle.std.proofs.Math.Path.{◌≡◌, refl, sym, ap, subst}
use Rattle.std.proofs.Common.{◌∙◌, arith}
use Rattle.std.specs.Prelude.{◌↔◌, Bool, true, false}
use mathlib.Core.List.{List, [], ◌∷◌, ◌++◌, append-nil}
use Prim.Native.Nat.{ℕ, zero, suc, ◌+◌, ◌<◌}
use borrow.Author.Tests.{eq-eqb, ne_eqb}
use Rattle.field_rules.specs.Choice.{pick}
use Rattle.field_rules.specs.Fields.{Fields, unreadable, field}
use Rattle.standard_rules.specs.Standard.{Tables, NoCount, All, Told, told, Int, Once, Stretch, members, entries, Stands}
use Rattle.standard_rules.proofs.StandardLaws.{all_map as all-numbers}
use Rattle.field_rules.specs.declared.Field.{Field}
use Rattle.dictionary_layout_rules.specs.Layout.{Layout, group_of, required_tags}
use Rattle.dictionary_layout_rules.specs.Layout.{Group, none as no_group, entries as entries_laid_out}
use Rattle.dictionary_layout_rules.specs.Tree.{holds_tag}
use Rattle.build_records.specs.declared.Record.{Record}
use Rattle.build_group_rules.specs.Groups.{Opened, none, opened, opens, entry_record}
use Rattle.build_group_rules.specs.Reading.{layout_rules, opened_as}
use Rattle.build_nesting_laws.specs.Entries.{all_none, all_more, all_append, all_map}
use Rattle.build_nesting_laws.specs.Entries.{All as AllRecords}
use Rattle.build_required_rules.specs.Required.{or_else, has, fields_lack, before, shallow, run_lacks, nested_lack, entries_lack, opens_entry, entry_lack, run_lack}
use Rattle.build_required_rules.specs.RequiredLaws.{shallow-here, shallow_not}
use Rattle.build_required_rules.specs.Checking.{layout_demands}
use Rattle.build_required_rules.specs.declared.Lack.{Lack}
use Rattle.build_required_rules.specs.declared.Lack.TheVariants.{Missing, Complete}
use Rattle.promise_standard.specs.Reading.{ReadsAs, one_field}
use Rattle.promise_standard.specs.Groups.{numbered, records_as, tag_behind, Part, entries_of, members_of, Fits}
use Rattle.promise_standard.specs.GroupOwn.{Deep, deep_none, deep_more, numbered-deep}
use Rattle.promise_standard.proofs.GroupSteps.{reads_split, numbered_each, records_split}
use Rattle.promise_standard_build.specs.Fitting.{HasRequired}

-- ===== records of a kind, and those behind them =====

module _ (test : Record → Bool) where
  pub before-append : {rs : List Record} (more : List Record) → AllRecords (λ r. test r ≡ false) rs → before test (rs ++ more) ≡ rs ++ before test more
  unfolding before
  before-append more all_none = refl
  before-append more (all_more {r = r} h a) = rw (h, before-append more a)

  entries-append : (check : List Record → Lack) {rs : List Record} (more : List Record) → AllRecords (λ r. test r ≡ false) rs
      → entries_lack check test (rs ++ more) ≡ entries_lack check test more
  unfolding entries_lack
  entries-append check more all_none = refl
  entries-append check more (all_more {r = r} h a) = rw (h, entries-append check more a)

-- a record stands deeper
abbrev Deeper : ℕ → Record → Type 0
Deeper depth r = depth < r.depth

module _ (depth : ℕ) (nested : Layout → ℕ → List Record → Lack) (groups : ℕ → Opened Layout) where
  nested-append : {rs : List Record} (more : List Record) → AllRecords (Deeper depth) rs
      → nested_lack nested groups depth (rs ++ more) ≡ nested_lack nested groups depth more
  unfolding nested_lack
  nested-append more all_none = refl
  nested-append more (all_more {r = r} h a) = rw (ne_eqb r.depth depth (λ e. omega arith), nested-append more a)

  -- a field with no deeper records behind it has no run
  nested-field : (r : Record) (rs : List Record) → r.depth ≡ depth → ((inner : Layout) (tag : ℕ) → nested inner tag [] ≡ Complete)
      → before (shallow depth) rs ≡ [] → nested_lack nested groups depth (r ∷ rs) ≡ nested_lack nested groups depth rs
  unfolding nested_lack
  nested-field r rs own empty none-deeper = rw (eq-eqb _ _ own, none-deeper) (by_group (groups r.tag))
    where
      by_group : (o : Opened Layout) → or_else (run_lacks nested o r.tag []) (nested_lack nested groups depth rs) ≡ nested_lack nested groups depth rs
      by_group none = unfold or_else run_lacks in refl
      by_group (opened inner) = unfold or_else run_lacks in rw (empty inner r.tag)

  -- a count with its run
  nested-run : (inner : Layout) (r : Record) (run rs : List Record) → r.depth ≡ depth → groups r.tag ≡ opened inner → AllRecords (Deeper depth) run
      → before (shallow depth) rs ≡ [] → nested_lack nested groups depth (r ∷ (run ++ rs)) ≡ or_else (nested inner r.tag run)
      (nested_lack nested groups depth rs)
  unfolding nested_lack run_lacks
  nested-run inner r run rs own g deep none-deeper =
      let whole : before (shallow depth) (run ++ rs) ≡ run = before-append (shallow depth) rs (all_map (λ x h. shallow_not depth x h) deep)
      ∙ ap (λ (l : List Record). run ++ l) none-deeper ∙ append-nil run in
      rw (eq-eqb _ _ own, g, whole, nested-append rs deep)

has-behind : {depth : ℕ} {rs : List Record} (tag : ℕ) (more : List Record) → AllRecords (Deeper depth) rs → has depth tag (rs ++ more) ≡ has depth tag more
unfolding has
has-behind tag more all_none = refl
has-behind {depth} tag more (all_more {r = r} h a) = rw (ne_eqb r.depth depth (λ e. omega arith), has-behind tag more a)

-- nothing is missing of two where nothing is missing of either
else_both : (a b : Lack) → (or_else a b ≡ Complete) ↔ ((a ≡ Complete) × (b ≡ Complete))
else_both (Missing tag group) b =
    (λ e. let z : ◌≡◌ {A = ℕ} 0 1 = unfold or_else in cc in absurd (omega arith), λ p. let q = p.0 in let z : ◌≡◌ {A = ℕ} 0 1 = cc in absurd (omega arith))
else_both Complete b = (λ e. (refl, unfold or_else in e), λ p. unfold or_else in p.1)

all-behind : {P : ℕ → Type 0} {t : ℕ} {ts : List ℕ} → All P (t ∷ ts) → All P ts
all-behind (All.also p a) = a

not_first : (depth t : ℕ) (ts : List ℕ) (rs : List Record) → has depth t rs ≡ false → All (λ t. has depth t rs ≡ true) (t ∷ ts) → ⊥
not_first depth t ts rs e (All.also p a) = let z : ◌≡◌ {A = ℕ} 0 1 = cc in absurd (omega arith)

-- no field is missing where each required one stands among the records
fields_exact : (tags : List ℕ) (group depth : ℕ) (rs : List Record) → (fields_lack tags group depth rs ≡ Complete) ↔ All (λ t. has depth t rs ≡ true) tags
unfolding fields_lack
fields_exact [] group depth rs = (λ e. All.none, λ a. refl)
fields_exact (t ∷ tags) group depth rs = by_test (has depth t rs) refl (fields_exact tags group depth rs)
  where
    by_test : (b : Bool) → has depth t rs ≡ b → (fields_lack tags group depth rs ≡ Complete) ↔ All (λ t. has depth t rs ≡ true) tags
        → (pick b (fields_lack tags group depth rs) (Missing t group) ≡ Complete) ↔ All (λ t. has depth t rs ≡ true) (t ∷ tags)
    by_test true e later = (λ c. All.also e (later.0 c), λ a. later.1 (all-behind a))
    by_test false e later = (λ c. let z : ◌≡◌ {A = ℕ} 0 1 = cc in absurd (omega arith), λ a. absurd (not_first depth t tags rs e a))

-- nothing is missing of no records
empty-complete : (levels : ℕ) (layout : Layout) (group depth : ℕ) → run_lack layout_demands levels layout group depth [] ≡ Complete
unfolding run_lack entries_lack
empty-complete zero layout group depth = refl
empty-complete (suc levels) layout group depth = refl

-- ===== the records of the standard's structure =====

deep_records : {depth : ℕ} {ns : List (ℕ × ℕ)} (fields : Fields) → Deep depth ns → AllRecords (Deeper depth) (records_as ns fields)
unfolding records_as entry_record
deep_records fields deep_none = all_none
deep_records (unreadable cause place) (deep_more h a) = all_none
deep_records (field f rest) (deep_more {n = n} h a) = all_more {r = entry_record n.0 n.1 f} h (deep_records rest a)

pub nested-deeper : {T : Tables} {Here : ℕ → Type 0} {stretch : Stretch} {fs : List Told} (depth : ℕ) (fields : Fields) (g : Stands T Here stretch fs)
    → AllRecords (Deeper depth) (records_as (numbered (depth + 1) 0 g) fields)
nested-deeper depth fields g = deep_records fields (numbered-deep depth (depth + 1) 0 g (omega arith))

-- a record that stands deeper opens no entry
deeper_not : (layout : Layout) (depth : ℕ) (r : Record) → depth < r.depth → opens_entry layout_demands layout depth r ≡ false
unfolding opens_entry
deeper_not layout depth r h = rw (ne_eqb r.depth depth (λ e. omega arith))

own-opens : (accepts : ℕ → Bool) (layout : Layout) (depth : ℕ) (r : Record) → r.depth ≡ depth
    → opens_entry layout_demands layout depth r ≡ opens (layout_rules accepts) layout r.tag
unfolding opens_entry opens layout_demands layout_rules
own-opens accepts layout depth r own = rw (eq-eqb _ _ own)

module _ (message : List ℕ) {T : Tables} {Here : ℕ → Type 0} where
  -- members start at their own depth
  pub members-shallow : {ts : List ℕ} {fs : List Told} (depth number : ℕ) (fields : Fields) (later : Fields) (s : Stands T Here (members ts) fs)
      → ReadsAs message fields fs later → before (shallow depth) (records_as (numbered depth number s) fields) ≡ []
  unfolding numbered records_as before entry_record
  members-shallow depth number fields later Stands.no_member reads = refl
  members-shallow depth number _ later (Stands.field _ _ s) (one_field {f = f} same value reads) =
      rw (shallow-here depth (entry_record depth number f) (omega arith))
  members-shallow depth number _ later (Stands.group _ _ i g s) (one_field {f = f} same value reads) =
      rw (shallow-here depth (entry_record depth number f) (omega arith))

  -- the tags of an entry's own records are those of its members
  members_have : {ts : List ℕ} {fs : List Told} (depth number tag : ℕ) (fields : Fields) (x : Field) (rest : Fields) (s : Stands T Here (members ts) fs)
      → ReadsAs message fields fs (field x rest) → has depth tag (records_as (numbered depth number s) fields) ≡ holds_tag tag ts
  unfolding numbered records_as has holds_tag entry_record
  members_have depth number tag fields x rest Stands.no_member reads = refl
  members_have depth number tag _ x rest (Stands.field {t = t} _ _ s) (one_field {f = f} {rest = later} same value reads) =
      rw (eq-eqb depth depth refl, same, members_have depth number tag later x rest s reads)
  members_have depth number tag _ x rest (Stands.group {t = t} {ts = ts} {gs = gs} {fs = fs} _ _ i g s) (one_field {f = f} {rest = later} same value reads) =
      let cut = reads_split message x rest later gs fs reads in
      let parts = records_split message later (field cut.next cut.rest) gs (numbered (depth + 1) 0 g) (numbered depth number s) cut.reads_first
      (numbered_each (depth + 1) 0 g) in
      rw (
        eq-eqb depth depth refl,
        same,
        parts,
        has-behind tag (records_as (numbered depth number s) (field cut.next cut.rest))
            (nested-deeper depth later g),
        members_have depth number tag (field cut.next cut.rest) x rest s cut.reads_second,
      )

abbrev level_of : Part Layout → Layout
level_of (entries_of layout depth) = layout
level_of (members_of layout depth last) = layout

-- the check of the runs that hang on an entry's records
abbrev runs_lack : ℕ → Layout → ℕ → List Record → Lack
runs_lack levels layout depth rs = nested_lack (λ inner tag es. run_lack layout_demands levels inner tag (depth + 1) es) (layout_demands.group layout) depth rs

-- a field of the entry that is not its delimiter
own_not : (accepts : ℕ → Bool) (layout : Layout) (depth number t : ℕ) (f : Field) → f.tag ≡ t → opens (layout_rules accepts) layout t ≡ false
    → opens_entry layout_demands layout depth (entry_record depth number f) ≡ false
unfolding entry_record
own_not accepts layout depth number t f same o =
    own-opens accepts layout depth (entry_record depth number f) refl ∙ ap (opens (layout_rules accepts) layout) same ∙ o

group-laid : (accepts : ℕ → Bool) (t : ℕ) (layout inner : Layout) → (layout_rules accepts).group layout t ≡ opened inner
    → group_of t layout ≡ entries_laid_out inner
unfolding layout_rules opened_as
group-laid accepts t layout inner o = by_group (group_of t layout) o
  where
    by_group : (g : Group) → opened_as g ≡ opened inner → g ≡ entries_laid_out inner
    by_group no_group e = let z : ◌≡◌ {A = ℕ} 0 1 = cc in absurd (omega arith)
    by_group (entries_laid_out layout) e = ap entries_laid_out (cc)

one_layout : (inner other : Layout) → entries_laid_out inner ≡ entries_laid_out other → inner ≡ other
one_layout inner other e = cc

-- an entry, and the entries behind it
entry_shape : (levels : ℕ) (layout : Layout) (group depth : ℕ) (r : Record) (ms es : List Record) → opens_entry layout_demands layout depth r ≡ true
    → AllRecords (λ x. opens_entry layout_demands layout depth x ≡ false) ms → before (opens_entry layout_demands layout depth) es ≡ []
    → run_lack layout_demands (suc levels) layout group depth (r ∷ (ms ++ es))
    ≡ or_else (or_else (fields_lack (required_tags layout) group depth (r ∷ ms)) (runs_lack levels layout depth (r ∷ ms)))
    (run_lack layout_demands (suc levels) layout group depth es)
unfolding run_lack entries_lack entry_lack layout_demands
entry_shape levels layout group depth r ms es o not e =
    let own : before (opens_entry layout_demands layout depth) (ms ++ es) ≡ ms = before-append (opens_entry layout_demands layout depth) es not
    ∙ ap (λ (l : List Record). ms ++ l) e ∙ append-nil ms in
    rw (
      o,
      own,
      entries-append (opens_entry layout_demands layout depth)
          (entry_lack layout_demands (λ inner tag entries. run_lack layout_demands levels inner tag (depth + 1) entries) layout group depth) es not,
    )

module _ (message : List ℕ) (accepts : ℕ → Bool) (T : Tables) (Here : ℕ → Type 0) where
  -- no member but the delimiter opens an entry
  members_not : {stretch : Stretch} {fs : List Told} {s : Stands T Here stretch fs} (layout : Layout) (depth last next number : ℕ) (fields : Fields)
      (x : Field) (rest : Fields)
      → Fits (layout_rules accepts) (members_of layout depth last) next stretch fs s → ReadsAs message fields fs (field x rest)
      → AllRecords (λ r. opens_entry layout_demands layout depth r ≡ false) (records_as (numbered depth number s) fields)
  unfolding numbered records_as
  members_not layout depth last next number fields x rest Fits.no_member reads = all_none
  members_not layout depth last next number _ x rest (Fits.plain {position = position} {t = t} rises g more)
      (one_field {f = f} {rest = later} same value reads) =
      all_more (own_not accepts layout depth number t f same rises.no_delimiter) (members_not layout depth position next number later x rest more reads)
  members_not layout depth last next number _ x rest (Fits.user {t = t} joins more) (one_field {f = f} {rest = later} same value reads) =
      all_more (own_not accepts layout depth number t f same joins.no_delimiter) (members_not layout depth last next number later x rest more reads)
  members_not layout depth last next number _ x rest (Fits.nested {position = position} {t = t} {gs = gs} {fs = fs} {g = g} {s = s}
      rises o deep leaves inside more) (one_field {f = f} {rest = later} same value reads) =
      let cut = reads_split message x rest later gs fs reads in
      let behind : Fields = field cut.next cut.rest in
      let parts = records_split message later behind gs (numbered (depth + 1) 0 g) (numbered depth number s) cut.reads_first
      (numbered_each (depth + 1) 0 g) in
      rw parts (all_more (own_not accepts layout depth number t f same rises.no_delimiter)
      (all_append _ (all_map (λ r h. deeper_not layout depth r h) (nested-deeper depth later g))
      (members_not layout depth position next number behind x rest more cut.reads_second)))

  -- entries start with a record that opens one
  entries_open : {stretch : Stretch} {gs : List Told} (layout : Layout) (depth number next : ℕ) (fields : Fields) (x : Field) (rest : Fields)
      {s : Stands T Here stretch gs} → Fits (layout_rules accepts) (entries_of layout depth) next stretch gs s → ReadsAs message fields gs (field x rest)
      → before (opens_entry layout_demands layout depth) (records_as (numbered depth number s) fields) ≡ []
  unfolding numbered records_as before entry_record
  entries_open layout depth number next fields x rest Fits.no_entry reads = refl
  entries_open layout depth number next _ x rest (Fits.starts o first more) (one_field {f = f} same value reads) =
      rw (own-opens accepts layout depth (entry_record depth (number + 1) f) refl, same, o)

  -- The check, level by level: nothing is missing of the runs of members, or of entries, exactly where they have what is required.
  abbrev Exact : Part Layout → (stretch : Stretch) → (fs : List Told) → Stands T Here stretch fs → Type 0
  Exact (members_of layout depth last) stretch fs s =
      (levels number : ℕ) (fields : Fields) (x : Field) (rest : Fields) → levels + depth ≡ 4 → ReadsAs message fields fs (field x rest)
      → (runs_lack levels layout depth (records_as (numbered depth number s) fields) ≡ Complete) ↔ HasRequired layout s
  Exact (entries_of layout depth) stretch fs s =
      (levels group number : ℕ) (fields : Fields) (x : Field) (rest : Fields) → levels + depth ≡ 4 → ReadsAs message fields fs (field x rest)
      → (run_lack layout_demands (suc levels) layout group depth (records_as (numbered depth number s) fields) ≡ Complete) ↔ HasRequired layout s

  exact_no_member : (layout : Layout) (depth last : ℕ) → Exact (members_of layout depth last) _ [] Stands.no_member
  unfolding numbered records_as nested_lack
  exact_no_member layout depth last levels number fields x rest l reads = (λ e. tt, λ h. refl)

  exact_no_entry : (layout : Layout) (depth c d : ℕ) → Exact (entries_of layout depth) _ [] (Stands.no_entry {c = c} {d = d})
  unfolding numbered records_as
  exact_no_entry layout depth c d levels group number fields x rest l reads = (λ e. tt, λ h. empty-complete (suc levels) layout group depth)

  -- a plain field has no run
  field_shape : (layout : Layout) (depth number levels : ℕ) {ts : List ℕ} {fs : List Told} (s : Stands T Here (members ts) fs) (f : Field) (later : Fields)
      (x : Field) (rest : Fields) → ReadsAs message later fs (field x rest)
      → runs_lack levels layout depth (entry_record depth number f ∷ records_as (numbered depth number s) later)
      ≡ runs_lack levels layout depth (records_as (numbered depth number s) later)
  unfolding entry_record
  field_shape layout depth number levels s f later x rest reads =
      nested-field depth _ (layout_demands.group layout) (entry_record depth number f) _ refl (λ inner tag. empty-complete levels inner tag (depth + 1))
      (members-shallow message depth number later (field x rest) s reads)

  exact_field : (layout : Layout) (depth last position t : ℕ) (v : List ℕ) {ts : List ℕ} {fs : List Told} (may : Here t) (single : NoCount T t)
      (s : Stands T Here (members ts) fs) → Exact (members_of layout depth position) _ fs s → Exact (members_of layout depth last) _ (told t v ∷ fs)
      (Stands.field {t = t} {v = v} may single s)
  unfolding numbered records_as
  exact_field layout depth last position t v may single s more levels number _ x rest l (one_field {f = f} {rest = later} same value reads) =
      rw (field_shape layout depth number levels s f later x rest reads) (more levels number later x rest l reads)

  exact_group : (layout inner : Layout) (depth last position t : ℕ) {d n : ℕ} {count : List ℕ} {ts : List ℕ} {gs fs : List Told} (may : Here t)
      (opening : T.Group t d) (i : Int count (suc n)) (g : Stands T Here (entries t d (suc n)) gs) (s : Stands T Here (members ts) fs)
      → group_of t layout ≡ entries_laid_out inner → depth < 4 → Exact (entries_of inner (depth + 1)) _ gs g → Exact (members_of layout depth position) _ fs s
      → Exact (members_of layout depth last) _ (told t count ∷ (gs ++ fs)) (Stands.group {t = t} may opening i g s)
  unfolding numbered records_as layout_demands opened_as entry_record
  exact_group layout inner depth last position t may opening i g s is-group deep inside more zero number fields x rest l reads = absurd (omega arith)
  exact_group layout inner depth last position t {gs = gs} {fs = fs} may opening i g s is-group deep inside more (suc levels) number _ x rest l
      (one_field {f = f} {rest = later} same value reads) =
      let cut = reads_split message x rest later gs fs reads in
      let behind : Fields = field cut.next cut.rest in
      let parts = records_split message later behind gs (numbered (depth + 1) 0 g) (numbered depth number s) cut.reads_first
      (numbered_each (depth + 1) 0 g) in
      let run : List Record = records_as (numbered (depth + 1) 0 g) later in
      let own = inside levels f.tag 0 later cut.next cut.rest (omega arith) cut.reads_first in
      let others = more (suc levels) number behind x rest l cut.reads_second in
      let shape = nested-run depth (λ inner tag es. run_lack layout_demands (suc levels) inner tag (depth + 1) es) (layout_demands.group layout) inner
      (entry_record depth number f) run (records_as (numbered depth number s) behind) refl (rw (same, is-group)) (nested-deeper depth later g)
      (members-shallow message depth number behind (field x rest) s cut.reads_second) in
      let both = else_both (run_lack layout_demands (suc levels) inner f.tag (depth + 1) run)
      (runs_lack (suc levels) layout depth (records_as (numbered depth number s) behind)) in
      rw (parts, shape) (
        λ e. let p = both.0 e in (λ k q. subst (λ (l : Layout). HasRequired l g) (one_layout inner k (sym is-group ∙ q)) (own.0 p.0), others.0 p.1),
        λ h. both.1 (own.1 (h.0 inner is-group), others.1 h.1),
      )

  exact_entry : (layout : Layout) (depth next c d n : ℕ) (v : List ℕ) {ts : List ℕ} {fs gs : List Told} (may : Here d) (single : NoCount T d)
      (m : Stands T Here (members ts) fs) (own : All (T.Member c) (d ∷ ts)) (once : Once (d ∷ ts)) (g : Stands T Here (entries c d n) gs)
      → opens (layout_rules accepts) layout d ≡ true → Fits (layout_rules accepts) (members_of layout depth 0) (tag_behind next gs) (members ts) fs m
      → Fits (layout_rules accepts) (entries_of layout depth) next (entries c d n) gs g → Exact (members_of layout depth 0) _ fs m
      → Exact (entries_of layout depth) _ gs g
      → Exact (entries_of layout depth) _ (told d v ∷ (fs ++ gs)) (Stands.entry (Stands.field {t = d} {v = v} may single m) own once g)
  unfolding numbered records_as entry_record
  exact_entry layout depth next c d n v {ts = ts} {fs = fs} {gs = gs} may single m own once g o fits-first fits first more levels group number _ x rest l
      (one_field {f = f} {rest = later} same value reads) =
      let cut = reads_split message x rest later fs gs reads in
      let behind : Fields = field cut.next cut.rest in
      let r : Record = entry_record depth (number + 1) f in
      let ms : List Record = records_as (numbered depth (number + 1) m) later in
      let es : List Record = records_as (numbered depth (number + 1) g) behind in
      let parts = records_split message later behind fs (numbered depth (number + 1) m) (numbered depth (number + 1) g) cut.reads_first
      (numbered_each depth (number + 1) m) in
      let tags : (t : ℕ) → has depth t (r ∷ ms) ≡ holds_tag t (d ∷ ts) =
      λ t. members_have message depth (number + 1) t (field f later) cut.next cut.rest (Stands.field {t = d} {v = v} may single m)
      (one_field same value cut.reads_first) in
      let shape = entry_shape levels layout group depth r ms es (own-opens accepts layout depth r refl ∙ ap (opens (layout_rules accepts) layout) same ∙ o)
      (members_not layout depth 0 (tag_behind next gs) (number + 1) later cut.next cut.rest fits-first cut.reads_first)
      (entries_open layout depth (number + 1) next behind x rest fits cut.reads_second) in
      let in_entry = first levels (number + 1) later cut.next cut.rest l cut.reads_first in
      let in-others = more levels group (number + 1) behind x rest l cut.reads_second in
      let fields_of = fields_exact (required_tags layout) group depth (r ∷ ms) in
      let all = else_both (or_else (fields_lack (required_tags layout) group depth (r ∷ ms)) (runs_lack levels layout depth (r ∷ ms)))
      (run_lack layout_demands (suc levels) layout group depth es) in
      let one = else_both (fields_lack (required_tags layout) group depth (r ∷ ms)) (runs_lack levels layout depth (r ∷ ms)) in
      let same_runs = field_shape layout depth (number + 1) levels m f later cut.next cut.rest cut.reads_first in
      rw (parts, shape) (
        λ e. let p = all.0 e in let q = one.0 p.0 in
            (all-numbers (λ t h. sym (tags t) ∙ h) (fields_of.0 q.0), in_entry.0 (sym same_runs ∙ q.1), in-others.0 p.1),
        λ h. all.1 (one.1 (fields_of.1 (all-numbers (λ t k. tags t ∙ k) h.0), same_runs ∙ in_entry.1 h.1), in-others.1 h.2),
      )

  -- each level of what fits
  exact : {part : Part Layout} {next : ℕ} {stretch : Stretch} {fs : List Told} {s : Stands T Here stretch fs}
      → Fits (layout_rules accepts) part next stretch fs s → Exact part stretch fs s
  unfolding layout_rules
  exact (Fits.no_member {level = layout} {depth} {last}) = exact_no_member layout depth last
  exact (Fits.plain {level = layout} {depth} {last} {next} {position} {t} {v} {may = may} {single = single} {s = s} rises g more) =
      exact_field layout depth last position t v may single s (exact more)
  exact (Fits.user {level = layout} {depth} {last} {next} {t} {v} {may = may} {single = single} {s = s} joins more) =
      exact_field layout depth last last t v may single s (exact more)
  exact (Fits.nested {level = layout} {inner} {depth} {last} {next} {position} {t} {may = may} {opening = opening} {i = i} {g = g} {s = s}
      rises o deep leaves inside more) =
      exact_group layout inner depth last position t may opening i g s (group-laid accepts t layout inner o) (omega (arith, deep)) (exact inside) (exact more)
  exact (Fits.no_entry {level = layout} {depth} {next} {c} {d}) = exact_no_entry layout depth c d
  exact (Fits.starts {level = layout} {depth} {next} {c} {d} {n} {v} {may = may} {single = single} {m = m} {own = own} {once = once} {g = g} o first more) =
      exact_entry layout depth next c d n v may single m own once g o first more (exact first) (exact more)

  -- the check of a run that fits finds nothing missing exactly where each entry has what its layout requires
  pub required_exact : {c d n : ℕ} {gs : List Told} (s : Stands T Here (entries c d n) gs) (layout : Layout) (next group : ℕ) (fields : Fields) (x : Field)
      (rest : Fields) → Fits (layout_rules accepts) (entries_of layout 1) next (entries c d n) gs s → ReadsAs message fields gs (field x rest)
      → (run_lack layout_demands 4 layout group 1 (records_as (numbered 1 0 s) fields) ≡ Complete) ↔ HasRequired layout s
  required_exact s layout next group fields x rest fits reads = exact fits 3 group 0 fields x rest refl reads
