-- What the records of a run look like: entries numbered from 1, each of which starts with its delimiter, then declared tags that rise in
-- position, a nested run right behind its count, where fewer than four levels are open, and user tags that join the entry. Depth and entry
-- number are those of the run.
use Rattle.std.specs.Prelude.{◌≡◌, true, List, [], ◌∷◌, ◌++◌, ℕ, ◌+◌, ◌-◌, ◌<◌, Some, None}
use Rattle.build_records.specs.Records.{stored}
use Rattle.build_records.specs.declared.Record.{Record}
use Rattle.build_group_rules.specs.Groups.{opened, Rules, opens}

-- the entries of a level at a depth, so many of them; or an entry of a number whose last declared tag has a position
pub data Part (L : Type 0) : Type 0 where
  entries_of : L → ℕ → ℕ → Part L
  fields_of : L → ℕ → ℕ → ℕ → Part L

-- a record of the entry itself
pub record Own (depth number : ℕ) (r : Record) : Type 0 where
  pub deep : r.depth ≡ depth
  pub numbered : r.number ≡ number

module _ {L : Type 0} (rules : Rules L) where
  pub data Formed : Part L → List Record → Type 0 where
    no_entry : {level : L} {depth : ℕ} → Formed (entries_of level depth 0) []
    next-entry : {level : L} {depth entries last : ℕ} {run entry : List Record} → Formed (entries_of level depth entries) run → Formed (fields_of level depth (entries + 1) last) entry → Formed (entries_of level depth (entries + 1)) (run ++ entry)
    starts : {level : L} {depth number : ℕ} {r : Record} → opens rules level r.tag ≡ true → Own depth number r → Formed (fields_of level depth number 0) (r ∷ [])
    rises : {level : L} {depth number last : ℕ} {entry : List Record} (position : ℕ) {r : Record} → Formed (fields_of level depth number last) entry →
        rules.position level r.tag ≡ Some position → last < position → Own depth number r → Formed (fields_of level depth number position) (entry ++ (r
        ∷ []))
    hangs : {level : L} {depth number last : ℕ} {entry : List Record} (position : ℕ) (count : Record) {inner : L} {entries : ℕ} {run : List Record} →
        Formed (fields_of level depth number last) entry → rules.position level count.tag ≡ Some position → last < position → Own depth number count →
        depth < 4 → rules.group level count.tag ≡ opened inner → Formed (entries_of inner (depth + 1) entries) run →
        Formed (fields_of level depth number position) ((entry ++ (count ∷ [])) ++ run)
    user : {level : L} {depth number last : ℕ} {entry : List Record} {r : Record} → Formed (fields_of level depth number last) entry → rules.position level r.tag ≡ None → rules.accepts r.tag ≡ true → Own depth number r → Formed (fields_of level depth number last) (stored r entry)
