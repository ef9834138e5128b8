-- The records of a run have the shape of a run of entries, and those of an entry the shape of a map; both are formed. By induction over the
-- form that reading gives them.
use Rattle.std.specs.Prelude.{◌≡◌, Bool, true, false, ℕ, ◌+◌, eqb, Option, Some, None}
use Rattle.std.proofs.Math.Path.{refl}
use Rattle.std.proofs.Common.{sym, ◌∙◌, arith}
use mathlib.Core.List.{List, [], ◌∷◌, ◌++◌, append_assoc, append-nil}
use borrow.Author.Tests.{eqb-true, eq-eqb}
use Rattle.field_rules.specs.Choice.{pick}
use Rattle.build_records.specs.Records.{stored, value_at}
use Rattle.build_records.specs.declared.Record.{Record}
use Rattle.message_maps.specs.Map.{Map, end, field, entry, joined}
use Rattle.message_lent_rules.specs.Formed.{stands, is_formed, is_run}
use Rattle.message_lent_rules.proofs.MeantLaws.{joined_end}
use Rattle.message_rules.specs.LayoutLaws.{joined_assoc}
use Rattle.build_group_rules.specs.Groups.{Rules, is_delimiter, opens}
use Rattle.build_nesting_laws.specs.Formed.{Part, entries_of, fields_of, Own, Formed, no_entry, next-entry, starts, rises, hangs, user}
use Rattle.build_nesting_laws.specs.Entries.{All, all_none, all_more, entry-starts, Other, entry_other}
use Rattle.message_read_laws.specs.Shapes.{Shapes, no_more, one-own, one_entry, Tagged, put}
use Rattle.message_read_laws.specs.ShapeLaws.{all_first, all_rest, all_left, all_right, shapes_append, shapes_put, not_stands, not_held}
use Rattle.message_read_laws.specs.PutLaws.{run-joined, AllFormed, formed_none, formed_more, all-joined, run_is_formed, new_formed, new-run_formed, put_formed}

-- a level has one delimiter
one_delimiter : (first : Option ℕ) (t u : ℕ) → is_delimiter first t ≡ true → is_delimiter first u ≡ true → t ≡ u
unfolding is_delimiter
one_delimiter None t u a b = let z : ◌≡◌ {A = ℕ} 0 1 = cc in absurd (omega arith)
one_delimiter (Some d) t u a b = sym (eqb-true d t a) ∙ eqb-true d u b

-- a tag of a record that was replaced is the tag of the one that replaced it
tagged-stored : (r : Record) (rs : List Record) → All Tagged (stored r rs) → All Tagged rs
unfolding stored
tagged-stored r [] a = all_none
tagged-stored r (x ∷ rs) a = by_tests (eqb x.depth r.depth) (eqb x.tag r.tag) refl a (tagged-stored r rs)
  where
    by_tests : (d t : Bool) → eqb x.tag r.tag ≡ t → All Tagged (pick d (pick t (r ∷ rs) (x ∷ stored r rs)) (x ∷ stored r rs)) → (All Tagged (stored r rs) → All Tagged rs) → All Tagged (x ∷ rs)
    by_tests true true e a again = let same : x.tag ≡ r.tag = eqb-true _ _ e in all_more {r = x} (record { some = λ z. (all_first a).some (sym same ∙ z) }) (all_rest a)
    by_tests true false e a again = all_more (all_first a) (again (all_rest a))
    by_tests false t e a again = all_more (all_first a) (again (all_rest a))

tagged-first : (r : Record) (rs : List Record) → All Tagged (stored r rs) → r.tag ≡ 0 → ⊥
unfolding stored
tagged-first r [] a = (all_first a).some
tagged-first r (x ∷ rs) a = by_tests (eqb x.depth r.depth) (eqb x.tag r.tag) a (tagged-first r rs)
  where
    by_tests : (d t : Bool) → All Tagged (pick d (pick t (r ∷ rs) (x ∷ stored r rs)) (x ∷ stored r rs)) → (All Tagged (stored r rs) → r.tag ≡ 0 → ⊥) → r.tag ≡ 0 → ⊥
    by_tests true true a again = (all_first a).some
    by_tests true false a again = again (all_rest a)
    by_tests false t a again = again (all_rest a)

module _ (bytes : List ℕ) where
  -- an entry's map
  pub record EntryBuilt (depth number : ℕ) (rs : List Record) : Type 0 where
    pub map : Map
    pub shapes : Shapes bytes depth number 0 0 map rs
    pub formed : is_formed map ≡ true

  -- an entry begins with its first record
  record Headed (depth number : ℕ) (m : Map) (r : Record) (rs : List Record) : Type 0 where
    inner : Map
    is : m ≡ field r.tag (value_at bytes r) inner
    shapes : Shapes bytes depth number r.tag 0 inner rs

  headed : {depth number start entries : ℕ} {m : Map} {r : Record} {rs : List Record} → Shapes bytes depth number start entries m (r ∷ rs) → r.depth ≡ depth → Headed depth number m r rs
  headed (one-own {rest = rest} r o more) e = record { inner = rest; is = refl; shapes = more }
  headed (one_entry r o inner more) e = absurd (omega (arith, o.deep))

  -- fields of an entry
  pub build_start : {depth number : ℕ} (r : Record) → Own depth number r → (r.tag ≡ 0 → ⊥) → EntryBuilt depth number (r ∷ [])
  unfolding joined
  build_start r o some = record { map = field r.tag (value_at bytes r) end; shapes = one-own r o no_more; formed = new_formed r.tag (value_at bytes r) some end (unfold is_formed in refl) (unfold stands in refl) }

  build_rise : {depth number : ℕ} {rs : List Record} (r : Record) → EntryBuilt depth number rs → Own depth number r → (r.tag ≡ 0 → ⊥) → All (Other depth r.tag) rs → EntryBuilt depth number (rs ++ (r ∷ []))
  build_rise r e o some other =
      record {
        map = joined e.map (field r.tag (value_at bytes r) end);
        shapes = shapes_append bytes e.shapes (record { shapes = λ s k. one-own r o no_more });
        formed = new_formed r.tag (value_at bytes r) some e.map e.formed (not_stands bytes r.tag e.shapes (λ z. some (sym z)) (not_held bytes r.tag e.shapes other));
      }

  pub build_user : {depth number : ℕ} {rs : List Record} (r : Record) → EntryBuilt depth number rs → Own depth number r → (r.tag ≡ 0 → ⊥) → EntryBuilt depth number (stored r rs)
  build_user r e o some =
      record {
        map = put r.tag (value_at bytes r) e.map;
        shapes = shapes_put bytes e.shapes r o;
        formed = put_formed r.tag (value_at bytes r) some e.map e.formed (λ h. not_stands bytes r.tag e.shapes (λ z. some (sym z)) h);
      }

  -- one entry more behind a run
  extend_run : (above number start entries : ℕ) (run_map : Map) (run es : List Record) (entry_map inner : Map) (q : Record) (rest : List Record)
      → ((m : Map) (ss : List Record) → Shapes bytes above number start entries m ss → Shapes bytes above number start 0 (joined run_map m) (run ++ ss))
      → Own (above + 1) (entries + 1) q → es ≡ q ∷ rest → entry_map ≡ field q.tag (value_at bytes q) inner → Shapes bytes (above + 1) (entries + 1) q.tag 0 inner rest
      → (m : Map) (ss : List Record) → Shapes bytes above number start (entries + 1) m ss → Shapes bytes above number start 0 (joined (joined run_map (entry start q.tag entry_map end)) m) ((run ++ es) ++ ss)
  extend_run above number start entries run_map run es entry_map inner q rest extends o e f s m ss sh =
      rw (joined_assoc run_map (entry start q.tag entry_map end) m, append_assoc run es ss, e, f) (unfold joined in extends (entry start q.tag (field q.tag (value_at bytes q) inner) m) (q ∷ (rest ++ ss)) (one_entry q o s sh))

  module _ {L : Type 0} (rules : Rules L) (first : (level : L) (tag : ℕ) → opens rules level tag ≡ true → rules.position level tag ≡ Some 0) where
    -- a run's map, behind a count
    pub record RunBuilt (level : L) (depth number start entries : ℕ) (rs : List Record) : Type 0 where
      pub map : Map
      pub extends : (m : Map) (ss : List Record) → Shapes bytes depth number start entries m ss → Shapes bytes depth number start 0 (joined map m) (rs ++ ss)
      pub runs : (d : ℕ) → opens rules level d ≡ true → is_run start d map ≡ true
      pub all : AllFormed map
      pub delimiter : ℕ
      pub is_run_lem : is_run start delimiter map ≡ true
      pub formed : is_formed map ≡ true

    pub run_shapes : {level : L} {depth number start entries : ℕ} {rs : List Record} (b : RunBuilt level depth number start entries rs) → Shapes bytes depth number start 0 b.map rs
    run_shapes {depth = depth} {number = number} {start = start} {rs = rs} b = moved (b.extends end [] no_more)
      where
        moved : Shapes bytes depth number start 0 (joined b.map end) (rs ++ []) → Shapes bytes depth number start 0 b.map rs
        moved s = rw (joined_end b.map, append-nil rs) at s

    -- what is to be shown of each part
    abbrev Built : Part L → List Record → Type 0
    Built (entries_of level depth entries) rs = (above number start : ℕ) → depth ≡ above + 1 → (start ≡ 0 → ⊥) → RunBuilt level above number start entries rs
    Built (fields_of level depth number last) rs = EntryBuilt depth number rs

    build_none : {level : L} {depth : ℕ} → Built (entries_of level depth 0) []
    build_none above number start e some =
        record { map = end; extends = λ m ss s. unfold joined in s; runs = λ d o. unfold is_run in refl; all = formed_none; delimiter = 0; is_run_lem = unfold is_run in refl; formed = unfold is_formed in refl }

    build_next : {level : L} {depth entries last : ℕ} {run entry_records : List Record} → All Tagged (run ++ entry_records) → Built (entries_of level depth entries) run → Formed rules (fields_of level depth (entries + 1) last) entry_records → EntryBuilt depth (entries + 1) entry_records
        → Built (entries_of level depth (entries + 1)) (run ++ entry_records)
    build_next {level} {depth} {entries} {run = run} {entry_records = es} tagged r f e above number start deep some =
        let s = entry-starts rules f in
        let b = r above number start deep some in
        let h = headed (same_list s.is e.shapes) s.own.deep in
        let q = s.first in
        let tag-some : q.tag ≡ 0 → ⊥ = (all_first (rw s.is at (all_right run es tagged))).some in
        let one = entry start q.tag e.map end in
        let runs : (d : ℕ) → opens rules level d ≡ true → is_run start d (joined b.map one) ≡ true =
        λ d o. run-joined start d b.map one (b.runs d o) (unfold is_run in rw (eq-eqb start start refl, eq-eqb q.tag d (one_delimiter (rules.delimiter level) q.tag d (unfold opens in s.delimits) (unfold opens in o)))) in
        let all = all-joined b.all (formed_more {s = start} {d = q.tag} e.formed formed_none) in
        let is_run_lem = runs q.tag s.delimits in
        record {
          map = joined b.map one;
          extends = extend_run above number start entries b.map run es e.map h.inner q s.rest b.extends (record { deep = s.own.deep ∙ deep; numbered = s.own.numbered }) s.is h.is (lifted deep h.shapes);
          runs = runs;
          all = all;
          delimiter = q.tag;
          is_run_lem = is_run_lem;
          formed = run_is_formed start q.tag some tag-some all is_run_lem;
        }
      where
        same_list : {a c : List Record} → a ≡ c → Shapes bytes depth (entries + 1) 0 0 e.map a → Shapes bytes depth (entries + 1) 0 0 e.map c
        same_list p s = rw p at s

        lifted : {m : Map} {start rest-entries : ℕ} {rs : List Record} → depth ≡ above + 1 → Shapes bytes depth (entries + 1) start rest-entries m rs → Shapes bytes (above + 1) (entries + 1) start rest-entries m rs
        lifted p s = rw p at s

    build_hang : {inner : L} {depth number entries : ℕ} {rs run : List Record} (c : Record) → EntryBuilt depth number rs → Own depth number c → (c.tag ≡ 0 → ⊥) → All (Other depth c.tag) rs → RunBuilt inner depth number c.tag entries run → EntryBuilt depth number ((rs ++ (c ∷ [])) ++ run)
    build_hang {depth = depth} {number = number} {rs = rs} {run = run} c e o some other b =
        record {
          map = joined e.map (field c.tag (value_at bytes c) b.map);
          shapes = moved (shapes_append bytes e.shapes (record { shapes = λ s k. one-own c o (run_shapes b) }));
          formed = new-run_formed c.tag (value_at bytes c) some b.delimiter b.map b.is_run_lem b.formed e.map e.formed (not_stands bytes c.tag e.shapes (λ z. some (sym z)) (not_held bytes c.tag e.shapes other));
        }
      where
        moved : {m : Map} → Shapes bytes depth number 0 0 m (rs ++ (c ∷ run)) → Shapes bytes depth number 0 0 m ((rs ++ (c ∷ [])) ++ run)
        moved s = rw (append_assoc rs (c ∷ []) run) s

    pub built : {part : Part L} {rs : List Record} → Formed rules part rs → All Tagged rs → Built part rs
    built no_entry a = build_none
    built (next-entry {run = run} {entry = es} f g) a = build_next a (built f (all_left run es a)) g (built g (all_right run es a))
    built (starts {r = r} o own) a = build_start r own (all_first a).some
    built (rises {entry = es} position {r = r} f p l own) a = build_rise r (built f (all_left es (r ∷ []) a)) own (all_first (all_right es (r ∷ []) a)).some (entry_other rules first position r.tag f p l)
    built (hangs {depth = depth} {number = number} {entry = es} position c {run = run} f p l own w g m) a =
        let front = all_left (es ++ (c ∷ [])) run a in
        let some = (all_first (all_right es (c ∷ []) front)).some in
        build_hang c (built f (all_left es (c ∷ []) front)) own some (entry_other rules first position c.tag f p l) (built m (all_right (es ++ (c ∷ [])) run a) depth number c.tag refl some)
    built (user {entry = es} {r = r} f p a₁ own) a = build_user r (built f (tagged-stored r es a)) own (tagged-first r es a)
