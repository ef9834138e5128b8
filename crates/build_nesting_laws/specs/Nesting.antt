-- A run that was read to its end has records of that form, behind those that stood there before. What is open while reading goes on is
-- such a run whose last entry, or whose last nested run, may still grow; a field that nothing takes closes them.
use Rattle.std.proofs.Math.Path.{◌≡◌, refl}
use Rattle.std.specs.Prelude.{Bool, length, eqb, Option, Some, None, ℕ}
use Rattle.std.proofs.Math.Bool.{true, false}
use mathlib.Core.List.{List, [], ◌∷◌, ◌++◌, append_assoc, append-nil}
use Prim.Native.Nat.{ℕ, zero, suc, ◌+◌, ◌-◌, ◌≤◌, ◌<◌}
use Rattle.std.proofs.Common.{arith, leb-false, ltb-true}
use Rattle.std.proofs.Math.Seq.{take-append_seam, drop-append_seam}
use Rattle.std.proofs.Math.Dec.{leb, ltb}
use Rattle.field_rules.specs.Choice.{pick}
use Rattle.field_rules.specs.Fields.{Fields, unreadable, field}
use Rattle.field_rules.specs.declared.Field.{Field}
use Rattle.build_records.specs.Records.{stored}
use Rattle.build_records.specs.declared.Record.{Record}
use Rattle.build_group_rules.specs.Groups.{Opened, none, opened, Rules, opens, Kind, plain, count, joins, wrong, ends, counting, declared, entry_kind, OpenGroup, Frame, run, entry, Numbers, Move, adds, joins_at, disorders, leaves, numbers_in, nested, in_entry_lem, decide, entry_record, ended, moved, walk}
use Rattle.build_group_rules.specs.Reading.{joined_list, list_store}
use Rattle.build_nesting_laws.specs.Formed.{entries_of, fields_of, Own, Formed, no_entry, next-entry, starts, rises, hangs, user}

own_record : (depth number : ℕ) (f : Field) → Own depth number (entry_record depth number f)
unfolding entry_record
own_record depth number f = record { deep = refl; numbered = refl }

tag_record : (depth number : ℕ) (f : Field) → (entry_record depth number f).tag ≡ f.tag
unfolding entry_record
tag_record depth number f = refl

-- what joins the last entry is stored in it
join_own : (before own : List Record) (r : Record) → joined_list (length before) r (before ++ own) ≡ before ++ stored r own
unfolding joined_list
join_own before own r = rw (take-append_seam before own, drop-append_seam before own)

module _ {L : Type 0} (rules : Rules L) where
  -- what a kind says of its tag
  data Says (level : L) (depth last tag : ℕ) : Kind L → Type 0 where
    says_plain : {position : ℕ} → rules.position level tag ≡ Some position → last < position → Says level depth last tag (plain position)
    says_count : {inner : L} {position : ℕ} → rules.position level tag ≡ Some position → last < position → depth < 4 → rules.group level tag ≡ opened inner → Says level depth last tag (count inner position)
    says_joins : rules.position level tag ≡ None → rules.accepts tag ≡ true → Says level depth last tag joins
    says_wrong : Says level depth last tag wrong
    says_ends : Says level depth last tag ends

  counting_says : (level : L) (depth last tag position : ℕ) → rules.position level tag ≡ Some position → last < position → (o : Opened L) → rules.group level tag ≡ o → Says level depth last tag (counting depth position o)
  unfolding counting
  counting_says level depth last tag position p l none g = says_plain p l
  counting_says level depth last tag position p l (opened inner) g = go (ltb depth 4) refl
    where
      go : (b : Bool) → ltb depth 4 ≡ b → Says level depth last tag (pick b (count inner position) (plain position))
      go true q = says_count p l (ltb-true _ _ q) g
      go false q = says_plain p l

  declared_says : (level : L) (depth last tag : ℕ) (p : Option ℕ) → rules.position level tag ≡ p → Says level depth last tag (declared rules level depth last tag p)
  unfolding declared
  declared_says level depth last tag None e = go (rules.accepts tag) refl
    where
      go : (b : Bool) → rules.accepts tag ≡ b → Says level depth last tag (pick b joins ends)
      go true a = says_joins e a
      go false a = says_ends
  declared_says level depth last tag (Some position) e = go (leb position last) refl
    where
      go : (b : Bool) → leb position last ≡ b → Says level depth last tag (pick b wrong (counting depth position (rules.group level tag)))
      go true q = says_wrong
      go false q = counting_says level depth last tag position e (leb-false _ _ q) (rules.group level tag) refl

  kind_says : (level : L) (depth last tag : ℕ) → Says level depth last tag (entry_kind rules level depth last tag)
  unfolding entry_kind
  kind_says level depth last tag = go (opens rules level tag)
    where
      go : (b : Bool) → Says level depth last tag (pick b ends (declared rules level depth last tag (rules.position level tag)))
      go true = says_ends
      go false = declared_says level depth last tag (rules.position level tag) refl

  module _ (base : List Record) (bottom : OpenGroup L) where
    -- an entry, and a count that rises behind it where a run may hang
    pub record Counted (group : OpenGroup L) (number last position : ℕ) (own : List Record) (c : Record) : Type 0 where
      pub entry_formed : Formed rules (fields_of group.level group.depth number last) own
      pub placed : rules.position group.level c.tag ≡ Some position
      pub rises_to : last < position
      pub count-own : Own group.depth number c
      pub within : group.depth < 4

    -- what is open, and the records so far
    pub data Open : List (Frame L) → List Record → Type 0 where
      first_run : {entries : ℕ} (rs : List Record) → Formed rules (entries_of bottom.level bottom.depth entries) rs
          → Open (run bottom entries ∷ []) (base ++ rs)
      nested-run : {group : OpenGroup L} {inner : L} {number last position entries : ℕ} {stack : List (Frame L)} (c : Record) (before own more : List Record)
          → Open (run group number ∷ stack) before → Counted group (number + 1) last position own c
          → rules.group group.level c.tag ≡ opened inner → Formed rules (entries_of inner (group.depth + 1) entries) more →
          Open (run (nested group c.tag inner) entries ∷ entry group (record { number = number + 1; last = position; start = length before }) ∷ run group (number + 1) ∷ stack)
          ((before ++ (own ++ (c ∷ []))) ++ more)
      in_entry : {group : OpenGroup L} {number last : ℕ} {stack : List (Frame L)} (before own : List Record) → Open (run group number ∷ stack) before
          → Formed rules (fields_of group.level group.depth (number + 1) last) own →
          Open (entry group (record { number = number + 1; last = last; start = length before }) ∷ run group (number + 1) ∷ stack) (before ++ own)

    -- an entry is over, and counts for its run
    close-entry : {group : OpenGroup L} {number last : ℕ} {stack : List (Frame L)} {before : List Record} (own : List Record)
        → Open (run group number ∷ stack) before → Formed rules (fields_of group.level group.depth (number + 1) last) own
        → Open (run group (number + 1) ∷ stack) (before ++ own)
    close-entry own (first_run rs f) e = rw (append_assoc base rs own) (first_run (rs ++ own) (next-entry f e))
    close-entry own (nested-run c before entry-own more o f g m) e = rw (append_assoc (before ++ (entry-own ++ (c ∷ []))) more own) (nested-run c before entry-own (more ++ own) o f g (next-entry m e))

    -- a nested run is over, and belongs to its entry
    close-run : {group : OpenGroup L} {inner : L} {number last position entries : ℕ} {stack : List (Frame L)} (c : Record) (before own more : List Record)
        → Open (run group number ∷ stack) before → Counted group (number + 1) last position own c
        → rules.group group.level c.tag ≡ opened inner → Formed rules (entries_of inner (group.depth + 1) entries) more →
        Open (entry group (record { number = number + 1; last = position; start = length before }) ∷ run group (number + 1) ∷ stack) ((before ++ (own ++ (c ∷ []))) ++ more)
    close-run c before own more o f g m = rw (append_assoc before (own ++ (c ∷ [])) more) (in_entry before ((own ++ (c ∷ [])) ++ more) o (hangs _ c f.entry_formed f.placed f.rises_to f.count-own f.within g m))

    -- what a move leaves open
    data Goes (rs : List Record) (f : Field) : Move L → Type 0 where
      goes-adds : {stack : List (Frame L)} {numbers : Numbers} → Open stack (rs ++ (entry_record numbers.depth numbers.number f ∷ []))
          → Goes rs f (adds stack numbers)
      goes-joins : {stack : List (Frame L)} {start : ℕ} {numbers : Numbers}
          → Open stack (joined_list start (entry_record numbers.depth numbers.number f) rs)
          → Goes rs f (joins_at stack start numbers)
      goes-disorders : {group : ℕ} → Goes rs f (disorders group)
      goes-leaves : Goes rs f leaves

    module _ (f : Field) where
      opens_entry : {group : OpenGroup L} {entries : ℕ} {stack : List (Frame L)} (rs : List Record) → Open (run group entries ∷ stack) rs
          → (otherwise : Move L) → Goes rs f otherwise → (b c : Bool)
          → opens rules group.level f.tag ≡ b →
          Goes rs f (pick b (adds (entry group (record { number = entries + 1; last = 0; start = length rs }) ∷ run group (entries + 1) ∷ stack) (numbers_in group (entries + 1))) (pick c (disorders group.tag) otherwise))
      unfolding entry_record
      opens_entry {group = group} {entries = entries} rs o otherwise d true c e =
          goes-adds (in_entry rs (entry_record group.depth (entries + 1) f ∷ []) o (starts e (own_record group.depth (entries + 1) f)))
      opens_entry rs o otherwise d false true e = goes-disorders
      opens_entry rs o otherwise d false false e = d

      module _ {group : OpenGroup L} {number last : ℕ} {stack : List (Frame L)} (before own : List Record) (o : Open (run group number ∷ stack) before) (fm : Formed rules (fields_of group.level group.depth (number + 1) last) own) where
        open_plain : (position : ℕ) → rules.position group.level f.tag ≡ Some position → last < position →
            Open (entry group (record { number = number + 1; last = position; start = length before }) ∷ run group (number + 1) ∷ stack) ((before ++ own) ++ (entry_record group.depth (number + 1) f ∷ []))
        unfolding entry_record
        open_plain position p l =
            rw (append_assoc before own (entry_record group.depth (number + 1) f ∷ [])) (in_entry before (own ++ (entry_record group.depth (number + 1) f ∷ [])) o (rises position fm p l (own_record group.depth (number + 1) f)))

        open_count : (inner : L) (position : ℕ) → rules.position group.level f.tag ≡ Some position → last < position → group.depth < 4
            → rules.group group.level f.tag ≡ opened inner →
            Open (run (nested group f.tag inner) 0 ∷ entry group (record { number = number + 1; last = position; start = length before }) ∷ run group (number + 1) ∷ stack)
            ((before ++ own) ++ (entry_record group.depth (number + 1) f ∷ []))
        unfolding entry_record
        open_count inner position p l w g =
            let counted = nested-run (entry_record group.depth (number + 1) f) before own [] o (record { entry_formed = fm; placed = p; rises_to = l; count-own = own_record group.depth (number + 1) f; within = w }) g no_entry in
            rw (append_assoc before own (entry_record group.depth (number + 1) f ∷ [])) (rw (append-nil (before ++ (own ++ (entry_record group.depth (number + 1) f ∷ [])))) at counted)

        open_user : rules.position group.level f.tag ≡ None → rules.accepts f.tag ≡ true →
            Open (entry group (record { number = number + 1; last = last; start = length before }) ∷ run group (number + 1) ∷ stack) (joined_list (length before) (entry_record group.depth (number + 1) f) (before ++ own))
        unfolding entry_record
        open_user p a =
            rw (join_own before own (entry_record group.depth (number + 1) f)) (in_entry before (stored (entry_record group.depth (number + 1) f) own) o (user fm p a (own_record group.depth (number + 1) f)))

        takes_field : (otherwise : Move L) → Goes (before ++ own) f otherwise → {k : Kind L} → Says group.level group.depth last f.tag k →
            Goes (before ++ own) f (in_entry_lem group (record { number = number + 1; last = last; start = length before }) (run group (number + 1) ∷ stack) f.tag otherwise k)
        unfolding in_entry_lem
        takes_field otherwise d (says_plain {position} p l) = goes-adds (open_plain position p l)
        takes_field otherwise d (says_count {inner} {position} p l w g) = goes-adds (open_count inner position p l w g)
        takes_field otherwise d (says_joins p a) = goes-joins (open_user p a)
        takes_field otherwise d says_wrong = goes-disorders
        takes_field otherwise d says_ends = d

      step_frame : {frame : Frame L} {below : List (Frame L)} {rs : List Record} → Open (frame ∷ below) rs → ((rs₁ : List Record) → Open below rs₁ → Goes rs₁ f (decide rules (length rs₁) below f.tag)) → Goes rs f (decide rules (length rs) (frame ∷ below) f.tag)
      unfolding decide
      step_frame (first_run {entries} rs fm) later =
          opens_entry (base ++ rs) (first_run rs fm) leaves goes-leaves (opens rules bottom.level f.tag) (eqb entries 0) refl
      step_frame (nested-run {inner = inner} {entries = entries} c before own more o fm g m) later =
          opens_entry ((before ++ (own ++ (c ∷ []))) ++ more) (nested-run c before own more o fm g m) _ (later _ (close-run c before own more o fm g m)) (opens rules inner f.tag) (eqb entries 0) refl
      step_frame (in_entry {group = group} {last = last} before own o fm) later =
          takes_field before own o fm _ (later _ (close-entry own o fm)) (kind_says group.level group.depth last f.tag)

      step : (stack : List (Frame L)) (rs : List Record) → Open stack rs → Goes rs f (decide rules (length rs) stack f.tag)
      step [] rs o = unfold decide in goes-leaves
      step (frame ∷ below) rs o = step_frame o (λ rs₁ o₁. step below rs₁ o₁)

    pub record StillOpen (rs : List Record) : Type 0 where
      pub stack : List (Frame L)
      pub still : Open stack rs

    walk_move : (room : ℕ) (rs : List Record) (f : Field) (rest : Fields) (stack : List (Frame L)) → Open stack rs → (f₁ : Field) (rest₁ : Fields) (room₁ : ℕ) (rs₁ : List Record) →
        ((stack₂ : List (Frame L)) (rs₂ : List Record) → Open stack₂ rs₂ → walk rules list_store room stack₂ rs₂ rest ≡ ended f₁ rest₁ room₁ rs₁ → StillOpen rs₁) →
        {m : Move L} → Goes rs f m → moved list_store room rs f rest (λ stack₂ rs₂. walk rules list_store room stack₂ rs₂ rest) m ≡ ended f₁ rest₁ room₁ rs₁ → StillOpen rs₁
    unfolding moved list_store
    walk_move room rs f rest stack o f₁ rest₁ room₁ rs₁ later (goes-adds o₁) e = later _ _ o₁ e
    walk_move room rs f rest stack o f₁ rest₁ room₁ rs₁ later (goes-joins o₁) e = later _ _ o₁ e
    walk_move room rs f rest stack o f₁ rest₁ room₁ rs₁ later goes-disorders e = let z : ◌≡◌ {A = ℕ} 0 1 = cc in absurd (omega arith)
    walk_move room rs f rest stack o f₁ rest₁ room₁ rs₁ later goes-leaves e =
        let same : rs ≡ rs₁ = cc in
        record { stack = stack; still = rw (← same) o }

    walk_open : (room : ℕ) (stack : List (Frame L)) (rs : List Record) (fields : Fields) → Open stack rs → (f₁ : Field) (rest₁ : Fields) (room₁ : ℕ) (rs₁ : List Record) → walk rules list_store room stack rs fields ≡ ended f₁ rest₁ room₁ rs₁ → StillOpen rs₁
    unfolding walk list_store
    walk_open room stack rs (unreadable cause place) o f₁ rest₁ room₁ rs₁ e = let z : ◌≡◌ {A = ℕ} 0 1 = cc in absurd (omega arith)
    walk_open zero stack rs (field f rest) o f₁ rest₁ room₁ rs₁ e = let z : ◌≡◌ {A = ℕ} 0 1 = cc in absurd (omega arith)
    walk_open (suc room) stack rs (field f rest) o f₁ rest₁ room₁ rs₁ e =
        walk_move room rs f rest stack o f₁ rest₁ room₁ rs₁ (λ stack₂ rs₂ o₂ e₂. walk_open room stack₂ rs₂ rest o₂ f₁ rest₁ room₁ rs₁ e₂) (step f stack rs o) e

    -- the records of a run stand behind those that stood there before, and are of its form
    pub record Read (rs : List Record) : Type 0 where
      pub entries : ℕ
      pub records : List Record
      pub whole : rs ≡ base ++ records
      pub formed : Formed rules (entries_of bottom.level bottom.depth entries) records

    close_frame : {frame : Frame L} {below : List (Frame L)} {rs : List Record} → Open (frame ∷ below) rs → ((rs₁ : List Record) → Open below rs₁ → Read rs₁) → Read rs
    close_frame (first_run rs fm) later = record { entries = _; records = rs; whole = refl; formed = fm }
    close_frame (nested-run c before own more o fm g m) later = later _ (close-run c before own more o fm g m)
    close_frame (in_entry before own o fm) later = later _ (close-entry own o fm)

    some_open : {stack : List (Frame L)} {rs : List Record} → Open stack rs → 1 ≤ length stack
    some_open (first_run rs fm) = omega arith
    some_open (nested-run c before own more o fm g m) = omega arith
    some_open (in_entry before own o fm) = omega arith

    close-all : (stack : List (Frame L)) (rs : List Record) → Open stack rs → Read rs
    close-all [] rs o = absurd (omega (arith, some_open o))
    close-all (frame ∷ below) rs o = close_frame o (λ rs₁ o₁. close-all below rs₁ o₁)

    -- a run that was read to its end
    pub run_formed : (room : ℕ) (fields : Fields) (f : Field) (rest : Fields) (room₁ : ℕ) (rs : List Record)
        → walk rules list_store room (run bottom 0 ∷ []) base fields ≡ ended f rest room₁ rs → Read rs
    run_formed room fields f rest room₁ rs e =
        let begun : Open (run bottom 0 ∷ []) (base ++ []) = first_run [] no_entry in
        let w = walk_open room (run bottom 0 ∷ []) base fields (rw (append-nil base) at begun) f rest room₁ rs e in
        close-all w.stack rs w.still
