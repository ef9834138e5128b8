-- What the depth and the entry number of a field say of what is open: an entry that took it, or a run that opened its next one. What stands
-- below gives smaller depths, or the same depth and another number.
use Rattle.std.proofs.Math.Path.{◌≡◌, refl, ap}
use Rattle.std.proofs.Common.{sym, ◌∙◌, eq-eqb}
use Rattle.std.specs.Prelude.{◌⊎◌, Bool, List, [], ◌∷◌, ◌++◌, ℕ, suc, ◌+◌, ◌≤◌, ◌<◌, eqb}
use Rattle.std.proofs.Math.Bool.{true, false}
use native.Mathlib.Omega.{arith}
use Rattle.field_rules.specs.Choice.{pick}
use Rattle.field_rules.specs.Fields.{Fields, field}
use Rattle.standard_rules.specs.Standard.{Tables, Told, Stretch, entries, Stands}
use Rattle.field_rules.specs.declared.Field.{Field}
use Rattle.build_group_rules.specs.Groups.{none, opened, Rules, opens, Kind, plain, count, joins, wrong, ends, entry_kind, OpenGroup, OpenEntry, Frame, run, entry, Numbers, Move, adds, disorders, reaching, numbers_in, nested, in_entry_lem, decide}
use Rattle.promise_standard.specs.Groups.{numbered, Rises, Joins}
use Rattle.promise_standard.proofs.GroupTakes.{Takes, over, takes, Says, says_plain, says_count, says_joins, kind_says, given}

-- a depth and number that are above a depth; or not below it and not those of an entry
pub record Above (depth d n : ℕ) : Type 0 where
  pub above : d < depth

pub record Elsewhere (depth number d n : ℕ) : Type 0 where
  pub up_to : d ≤ depth
  pub other : d ≡ depth → n ≡ number → ⊥

-- what holds of the first depth and number, if there is one
pub data Head (P : ℕ → ℕ → Type 0) : List (ℕ × ℕ) → Type 0 where
  head_none : Head P []
  head_some : {n : ℕ × ℕ} {ns : List (ℕ × ℕ)} → P n.0 n.1 → Head P (n ∷ ns)

pub head_map : {P Q : ℕ → ℕ → Type 0} {ns : List (ℕ × ℕ)} → ((d n : ℕ) → P d n → Q d n) → Head P ns → Head Q ns
head_map h head_none = head_none
head_map h (head_some p) = head_some (h _ _ p)

-- members stand at their depth, and so does what comes behind them or it stands above
pub members_head : {T : Tables} {Here : ℕ → Type 0} {stretch : Stretch} {fs : List Told} (depth number : ℕ) (more : List (ℕ × ℕ)) (s : Stands T Here stretch fs) → Head (Above (depth + 1)) more → Head (Above (depth + 1)) (numbered depth number s ++ more)
unfolding numbered
members_head depth number more Stands.no_member h = h
members_head depth number more (Stands.field _ _ s) h = head_some {n = (depth, _)} (record { above = omega arith })
members_head depth number more (Stands.group _ _ i g s) h = head_some {n = (depth, _)} (record { above = omega arith })
members_head depth number more Stands.no_entry h = h
members_head depth number more (Stands.entry (Stands.field _ _ m) _ d g) h = head_some {n = (depth, _)} (record { above = omega arith })
members_head depth number more (Stands.entry (Stands.group _ _ i b m) _ d g) h = head_some {n = (depth, _)} (record { above = omega arith })

-- the next entry has another number
pub entries_head : {T : Tables} {Here : ℕ → Type 0} {c d n : ℕ} {gs : List Told} (depth number : ℕ) (more : List (ℕ × ℕ)) (g : Stands T Here (entries c d n) gs) → Head (Above depth) more → Head (Elsewhere depth number) (numbered depth number g ++ more)
unfolding numbered
entries_head depth number more Stands.no_entry h = head_map (λ d n p. record { up_to = omega (arith, p.above); other = λ e f. omega (arith, p.above) }) h
entries_head depth number more (Stands.entry (Stands.field _ _ m) _ d g) h = head_some {n = (depth, number + 1)} (record { up_to = omega arith; other = λ e f. omega arith })
entries_head depth number more (Stands.entry (Stands.group _ _ i b m) _ d g) h = head_some {n = (depth, number + 1)} (record { up_to = omega arith; other = λ e f. omega arith })

pub entries-start : {T : Tables} {Here : ℕ → Type 0} {c d n : ℕ} {gs : List Told} (depth number : ℕ) (g : Stands T Here (entries c d (suc n)) gs) → (ns : List (ℕ × ℕ)) × (numbered depth number g ≡ (depth, number + 1) ∷ ns)
unfolding numbered
entries-start depth number (Stands.entry (Stands.field _ _ m) _ d g) = (_, refl)
entries-start depth number (Stands.entry (Stands.group _ _ i b m) _ d g) = (_, refl)

module _ {L : Type 0} (rules : Rules L) where
  -- what holds of each depth and number that is given by what is open
  abbrev pub Gives : (ℕ → ℕ → Type 0) → List (Frame L) → Type 0
  Gives P frames =
      (here tag : ℕ) (more : List (Frame L)) (d n : ℕ) → given (decide rules here frames tag) ≡ adds more (record { depth = d; number = n }) → P d n

  module _ (group : OpenGroup L) (number : ℕ) (below : List (Frame L)) where
    given-run : (b c : Bool) (frames : List (Frame L)) (m : Move L)
        → given (pick b (adds frames (numbers_in group (number + 1))) (pick c (disorders group.tag) m))
        ≡ pick b (adds frames (numbers_in group (number + 1))) (pick c (disorders group.tag) (given m))
    unfolding given
    given-run true c frames m = refl
    given-run false true frames m = refl
    given-run false false frames m = refl

    run_decides : (here tag : ℕ) (b : Bool) → opens rules group.level tag ≡ b → given (decide rules here (run group number ∷ below) tag)
        ≡ pick b (adds (entry group (record { number = number + 1; last = 0; start = here }) ∷ run group (number + 1) ∷ below) (numbers_in group (number + 1))) (pick (eqb number 0) (disorders group.tag) (given (decide rules here below tag)))
    unfolding decide
    run_decides here tag b o = rw o (given-run b (eqb number 0) _ _)

    -- a run gives its own depth and the next number, or leaves the tag to what is below
    pub run_gives : Gives (Above group.depth) below → Gives (Elsewhere group.depth number) (run group number ∷ below)
    run_gives g here tag more d n e = by_delimiter (opens rules group.level tag) refl (eqb number 0) refl
      where
        by_delimiter : (b : Bool) → opens rules group.level tag ≡ b → (c : Bool) → eqb number 0 ≡ c → Elsewhere group.depth number d n
        by_delimiter true o c z =
            let m = run_decides here tag true o in
            let same : ◌≡◌ {A = Numbers} (record { depth = d; number = n }) (numbers_in group (number + 1)) = cc in
            let deep : d ≡ group.depth = ap (λ (k : Numbers). k.depth) same in
            let next : n ≡ number + 1 = ap (λ (k : Numbers). k.number) same in
            record { up_to = omega arith; other = λ p q. omega arith }
        by_delimiter false o true z =
            let m : given (decide rules here (run group number ∷ below) tag) ≡ disorders group.tag = run_decides here tag false o ∙ rw z refl in
            let y : ◌≡◌ {A = ℕ} 0 1 = cc in absurd (omega arith)
        by_delimiter false o false z =
            let m : given (decide rules here (run group number ∷ below) tag) ≡ given (decide rules here below tag) = run_decides here tag false o ∙ rw z refl in
            let p = g here tag more d n (sym m ∙ e) in
            record { up_to = omega (arith, p.above); other = λ a b. omega (arith, p.above) }

  module _ (group : OpenGroup L) (own : OpenEntry) (below : List (Frame L)) where
    entry_decides : (here tag : ℕ) (k : Kind L) → entry_kind rules group.level group.depth own.last tag ≡ k
        → given (decide rules here (entry group own ∷ below) tag) ≡ given (in_entry_lem group own below tag (decide rules here below tag) k)
    unfolding decide
    entry_decides here tag k e = rw e

    -- an entry gives its own depth and number, or leaves the tag to what is below
    pub entry_gives : Gives (Elsewhere group.depth own.number) below → Gives (Above (group.depth + 1)) (entry group own ∷ below)
    unfolding in_entry_lem given
    entry_gives g here tag more d n e = by_kind (entry_kind rules group.level group.depth own.last tag) refl
      where
        deep : ◌≡◌ {A = Numbers} (record { depth = d; number = n }) (numbers_in group own.number) → Above (group.depth + 1) d n
        deep same = let depths : d ≡ group.depth = ap (λ (k : Numbers). k.depth) same in record { above = omega arith }

        by_kind : (k : Kind L) → entry_kind rules group.level group.depth own.last tag ≡ k → Above (group.depth + 1) d n
        by_kind (plain p) q = let m = entry_decides here tag (plain p) q in deep cc
        by_kind (count inner p) q = let m = entry_decides here tag (count inner p) q in deep cc
        by_kind joins q = let m = entry_decides here tag joins q in deep cc
        by_kind wrong q = let m = entry_decides here tag wrong q in let y : ◌≡◌ {A = ℕ} 0 1 = cc in absurd (omega arith)
        by_kind ends q = let m = entry_decides here tag ends q in record { above = omega (arith, (g here tag more d n (sym m ∙ e)).up_to) }

    -- what a tag of the entry does to it
    pub data Goes (tag : ℕ) : List (Frame L) → Type 0 where
      goes-plain : {position : ℕ} → Rises rules group.level own.last position tag → (rules.group group.level tag ≡ none) ⊎ (4 ≤ group.depth)
          → Goes tag (entry group (reaching own position) ∷ below)
      goes-joins : Joins rules group.level tag → Goes tag (entry group own ∷ below)
      goes-count : {inner : L} {position : ℕ} → Rises rules group.level own.last position tag → rules.group group.level tag ≡ opened inner
          → group.depth < 4 → Goes tag (run (nested group tag inner) 0 ∷ entry group (reaching own position) ∷ below)

    pub entry-goes : Gives (Elsewhere group.depth own.number) below → (here tag : ℕ) (more : List (Frame L))
        → given (decide rules here (entry group own ∷ below) tag) ≡ adds more (numbers_in group own.number) → Goes tag more
    unfolding in_entry_lem given
    entry-goes g here tag more e =
        by_kind (entry_kind rules group.level group.depth own.last tag) refl (kind_says rules group.level group.depth own.last tag)
      where
        by_kind : (k : Kind L) → entry_kind rules group.level group.depth own.last tag ≡ k
            → Says rules group.level group.depth own.last tag k → Goes tag more
        by_kind (plain p) q (says_plain r o) =
            let m = entry_decides here tag (plain p) q in
            let same : more ≡ entry group (reaching own p) ∷ below = cc in
            rw same (goes-plain r o)
        by_kind (count inner p) q (says_count r o deep) =
            let m = entry_decides here tag (count inner p) q in
            let same : more ≡ run (nested group tag inner) 0 ∷ entry group (reaching own p) ∷ below = cc in
            rw same (goes-count r o deep)
        by_kind joins q (says_joins j) =
            let m = entry_decides here tag joins q in
            let same : more ≡ entry group own ∷ below = cc in
            rw same (goes-joins j)
        by_kind wrong q s = let m = entry_decides here tag wrong q in let y : ◌≡◌ {A = ℕ} 0 1 = cc in absurd (omega arith)
        by_kind ends q s = let m = entry_decides here tag ends q in absurd ((g here tag more group.depth own.number (sym m ∙ e)).other refl refl)

  module _ (group : OpenGroup L) (number : ℕ) (below : List (Frame L)) where
    -- a tag that gets the next number opens an entry
    pub run-goes : Gives (Above group.depth) below → (here tag : ℕ) (more : List (Frame L)) (n : ℕ)
        → given (decide rules here (run group number ∷ below) tag) ≡ adds more (numbers_in group n) → (opens rules group.level tag ≡ true)
        × (more ≡ entry group (record { number = number + 1; last = 0; start = here }) ∷ run group (number + 1) ∷ below)
    run-goes g here tag more n e = by_delimiter (opens rules group.level tag) refl (eqb number 0) refl
      where
        by_delimiter : (b : Bool) → opens rules group.level tag ≡ b → (c : Bool) → eqb number 0 ≡ c → (opens rules group.level tag ≡ true)
            × (more ≡ entry group (record { number = number + 1; last = 0; start = here }) ∷ run group (number + 1) ∷ below)
        by_delimiter true o c z =
            let m = run_decides group number below here tag true o in
            let same : more ≡ entry group (record { number = number + 1; last = 0; start = here }) ∷ run group (number + 1) ∷ below = cc in
            (o, same)
        by_delimiter false o true z =
            let m : given (decide rules here (run group number ∷ below) tag) ≡ disorders group.tag = run_decides group number below here tag false o ∙ rw z refl in
            let y : ◌≡◌ {A = ℕ} 0 1 = cc in absurd (omega arith)
        by_delimiter false o false z =
            let m : given (decide rules here (run group number ∷ below) tag) ≡ given (decide rules here below tag) = run_decides group number below here tag false o ∙ rw z refl in
            absurd (omega (arith, (g here tag more group.depth n (sym m ∙ e)).above))

  module _ (x : Field) (rest : Fields) where
    -- what is taken alike by what is below
    takes_same : {frames : List (Frame L)} {ns : List (ℕ × ℕ)} {f : Field} {later : Fields} (below : List (Frame L)) → ((here : ℕ) → given (decide rules here frames f.tag) ≡ given (decide rules here below f.tag)) → Takes rules x rest frames ns (field f later) → Takes rules x rest below ns (field f later)
    takes_same below same (over here e) = over here (sym (same here) ∙ e)
    takes_same below same (takes here e t) = takes here (sym (same here) ∙ e) t

    -- a depth and number that a field can't have, where what is open would give it just these
    takes_not : {P : ℕ → ℕ → Type 0} {frames : List (Frame L)} {ns : List (ℕ × ℕ)} {f : Field} {later : Fields} (more : ℕ → List (Frame L)) (d n : ℕ)
        → ((here : ℕ) → given (decide rules here frames f.tag) ≡ adds (more here) (record { depth = d; number = n }))
        → Takes rules x rest frames ns (field f later) → Head P ns → (P d n → ⊥) → ⊥
    takes_not more d n same (over here e) h q = let s = same here in let y : ◌≡◌ {A = ℕ} 0 1 = cc in omega arith
    takes_not more d n same (takes here {n = m} e t) (head_some p) q =
        let s = same here in
        let same : ◌≡◌ {A = Numbers} (record { depth = m.0; number = m.1 }) (record { depth = d; number = n }) = cc in
        let depths : m.0 ≡ d = ap (λ (k : Numbers). k.depth) same in
        let numbers : m.1 ≡ n = ap (λ (k : Numbers). k.number) same in
        q (rw (depths, numbers) at p)

    takes_no_disorder : {frames : List (Frame L)} {ns : List (ℕ × ℕ)} {f : Field} {later : Fields} (group : ℕ) → ((here : ℕ) → given (decide rules here frames f.tag) ≡ disorders group) → Takes rules x rest frames ns (field f later) → ⊥
    takes_no_disorder group same (over here e) = let s = same here in let y : ◌≡◌ {A = ℕ} 0 1 = cc in omega arith
    takes_no_disorder group same (takes here e t) = let s = same here in let y : ◌≡◌ {A = ℕ} 0 1 = cc in omega arith

    module _ (group : OpenGroup L) (own : OpenEntry) (below : List (Frame L)) where
      -- a field behind the members of an entry ends it
      pub entry-over : (y : Field) (later : Fields) (ns : List (ℕ × ℕ)) → Head (Elsewhere group.depth own.number) ns
          → Takes rules x rest (entry group own ∷ below) ns (field y later) → (entry_kind rules group.level group.depth own.last y.tag ≡ ends)
          × (Takes rules x rest below ns (field y later))
      unfolding in_entry_lem given
      entry-over y later ns h t =
          by_kind (entry_kind rules group.level group.depth own.last y.tag) refl (kind_says rules group.level group.depth own.last y.tag)
        where
          by_kind : (k : Kind L) → entry_kind rules group.level group.depth own.last y.tag ≡ k
              → Says rules group.level group.depth own.last y.tag k → (entry_kind rules group.level group.depth own.last y.tag ≡ ends)
              × (Takes rules x rest below ns (field y later))
          by_kind (plain p) q s =
              absurd (takes_not _ group.depth own.number (λ here. entry_decides group own below here y.tag (plain p) q) t h (λ e. e.other refl refl))
          by_kind (count inner p) q s =
              absurd (takes_not _ group.depth own.number (λ here. entry_decides group own below here y.tag (count inner p) q) t h (λ e. e.other refl refl))
          by_kind joins q s =
              absurd (takes_not _ group.depth own.number (λ here. entry_decides group own below here y.tag joins q) t h (λ e. e.other refl refl))
          by_kind wrong q s = absurd (takes_no_disorder group.tag (λ here. entry_decides group own below here y.tag wrong q) t)
          by_kind ends q s = (q, takes_same below (λ here. entry_decides group own below here y.tag ends q) t)

    module _ (group : OpenGroup L) (number : ℕ) (below : List (Frame L)) where
      -- a field behind all entries ends the run
      pub run-over : (y : Field) (later : Fields) (ns : List (ℕ × ℕ)) → Head (Above group.depth) ns
          → Takes rules x rest (run group number ∷ below) ns (field y later) → (opens rules group.level y.tag ≡ false)
          × (Takes rules x rest below ns (field y later))
      run-over y later ns h t = by_delimiter (opens rules group.level y.tag) refl (eqb number 0) refl
        where
          by_delimiter : (b : Bool) → opens rules group.level y.tag ≡ b → (c : Bool) → eqb number 0 ≡ c → (opens rules group.level y.tag ≡ false)
              × (Takes rules x rest below ns (field y later))
          by_delimiter true o c z =
              absurd (takes_not _ group.depth (number + 1) (λ here. run_decides group number below here y.tag true o) t h (λ e. omega (arith, e.above)))
          by_delimiter false o true z = absurd (takes_no_disorder group.tag (λ here. run_decides group number below here y.tag false o ∙ rw z refl) t)
          by_delimiter false o false z = (o, takes_same below (λ here. run_decides group number below here y.tag false o ∙ rw z refl) t)

      count-field : (y : Field) (later : Fields) (ns : List (ℕ × ℕ)) → number ≡ 0 → Head (Above group.depth) ns
          → Takes rules x rest (run group number ∷ below) ns (field y later) → ⊥
      count-field y later ns z h t = by_delimiter (opens rules group.level y.tag) refl
        where
          by_delimiter : (b : Bool) → opens rules group.level y.tag ≡ b → ⊥
          by_delimiter true o =
              takes_not _ group.depth (number + 1) (λ here. run_decides group number below here y.tag true o) t h (λ e. omega (arith, e.above))
          by_delimiter false o = takes_no_disorder group.tag (λ here. run_decides group number below here y.tag false o ∙ rw (eq-eqb number 0 z) refl) t

      -- behind a count comes an entry
      pub count_open : {ns : List (ℕ × ℕ)} {fields : Fields} → number ≡ 0 → Head (Above group.depth) ns
          → Takes rules x rest (run group number ∷ below) ns fields → ⊥
      count_open z h (over here e) = count-field x rest [] z h (over here e)
      count_open z h (takes here {n = n} {ns = ns} {f = f} {later = later} e t) = count-field f later (n ∷ ns) z h (takes here e t)

    -- no field stands deeper than what is open
    pub not_deeper : {frames : List (Frame L)} {ns : List (ℕ × ℕ)} {fields : Fields} (depth : ℕ) (n : ℕ × ℕ) → n.0 ≡ depth → Gives (Above depth) frames → Takes rules x rest frames (n ∷ ns) fields → ⊥
    not_deeper depth n e g (takes here d t) = omega (arith, (g here _ _ n.0 n.1 d).above)
