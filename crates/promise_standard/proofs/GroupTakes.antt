-- Reading where each field makes one record more: what the records say of depth and entry number is then what each field did to what was
-- open. A user tag that took the place of another would leave a record less.
use Rattle.std.proofs.Math.Path.{◌≡◌, refl, sym, ap}
use Rattle.std.proofs.Common.{◌∙◌, inl, inr, Option, Some, None, ℕ}
use Rattle.std.specs.Prelude.{◌⊎◌, Bool}
use Rattle.std.proofs.Math.Bool.{true, false}
use mathlib.Core.List.{List, [], ◌∷◌, ◌++◌, append_assoc, append-nil}
use Prim.Native.Nat.{ℕ, zero, suc, ◌+◌, ◌≤◌, ◌<◌}
use native.Mathlib.Omega.{arith}
use Rattle.std.proofs.Math.ListN.{length, length-append}
use Rattle.std.proofs.Math.Dec.{leb, ltb}
use borrow.Author.Tests.{leb-false, ltb-true, ltb-false}
use Rattle.field_rules.specs.Choice.{pick}
use Rattle.field_rules.specs.Fields.{Fields, unreadable, field}
use Rattle.standard_rules.specs.Standard.{Told}
use Rattle.field_rules.specs.declared.Field.{Field}
use Rattle.build_records.specs.declared.Record.{Record}
use Rattle.build_group_rules.specs.Groups.{Opened, none, opened, Rules, opens, Kind, plain, count, joins, wrong, ends, counting, declared, entry_kind, Frame, Numbers, Move, adds, joins_at, disorders, leaves, decide, entry_record, ended, moved, walk}
use Rattle.build_group_rules.specs.Reading.{joined_list, list_store}
use Rattle.promise_standard.specs.Reading.{ReadsAs, no_field, one_field}
use Rattle.promise_standard.specs.Groups.{records_as, Rises, Joins}
use Rattle.promise_standard.specs.GroupOwn.{joined_either}

-- what a tag makes: a user tag that joins an entry makes a record like any other
unfoldable pub given : {L : Type 0} → Move L → Move L
given (adds stack numbers) = adds stack numbers
given (joins_at stack start numbers) = adds stack numbers
given (disorders group) = disorders group
given leaves = leaves

-- fields are taken one by one, each with a depth and an entry number, up to one that nothing takes
pub data Takes {L : Type 0} (rules : Rules L) (x : Field) (rest : Fields) : List (Frame L) → List (ℕ × ℕ) → Fields → Type 0 where
  over : (here : ℕ) {stack : List (Frame L)} → given (decide rules here stack x.tag) ≡ leaves → Takes rules x rest stack [] (field x rest)
  takes : (here : ℕ) {stack more : List (Frame L)} {n : ℕ × ℕ} {ns : List (ℕ × ℕ)} {f : Field} {later : Fields} → given (decide rules here stack f.tag)
      ≡ adds more (record { depth = n.0; number = n.1 })
      → Takes rules x rest more ns later → Takes rules x rest stack (n ∷ ns) (field f later)

module _ {L : Type 0} (rules : Rules L) where
  -- what a kind says of its tag
  pub data Says (level : L) (depth last tag : ℕ) : Kind L → Type 0 where
    says_plain : {position : ℕ} → Rises rules level last position tag → (rules.group level tag ≡ none) ⊎ (4 ≤ depth) → Says level depth last tag (plain position)
    says_count : {inner : L} {position : ℕ} → Rises rules level last position tag → rules.group level tag ≡ opened inner → depth < 4 → Says level depth last tag (count inner position)
    says_joins : Joins rules level tag → Says level depth last tag joins
    says_wrong : Says level depth last tag wrong
    says_ends : (opens rules level tag ≡ false → (rules.position level tag ≡ None) × (rules.accepts tag ≡ false)) → Says level depth last tag ends

  module _ (level : L) (depth last tag : ℕ) where
    counting_says : (position : ℕ) → Rises rules level last position tag → (o : Opened L) → rules.group level tag ≡ o → Says level depth last tag (counting depth position o)
    unfolding counting
    counting_says position r none g = says_plain r (inl g)
    counting_says position r (opened inner) g = by_depth (ltb depth 4) refl
      where
        by_depth : (b : Bool) → ltb depth 4 ≡ b → Says level depth last tag (pick b (count inner position) (plain position))
        by_depth true e = says_count r g (ltb-true _ _ e)
        by_depth false e = says_plain r (inr (ltb-false _ _ e))

    declared_says : opens rules level tag ≡ false → (p : Option ℕ) → rules.position level tag ≡ p → Says level depth last tag (declared rules level depth last tag p)
    unfolding declared
    declared_says o None e = by_user (rules.accepts tag) refl
      where
        by_user : (b : Bool) → rules.accepts tag ≡ b → Says level depth last tag (pick b joins ends)
        by_user true a = says_joins (record { no_delimiter = o; no_position = e; accepted = a })
        by_user false a = says_ends (λ _. (e, a))
    declared_says o (Some position) e = by_order (leb position last) refl
      where
        by_order : (b : Bool) → leb position last ≡ b → Says level depth last tag (pick b wrong (counting depth position (rules.group level tag)))
        by_order true l = says_wrong
        by_order false l = counting_says position (record { no_delimiter = o; placed = e; rises = leb-false _ _ l }) (rules.group level tag) refl

    pub kind_says : Says level depth last tag (entry_kind rules level depth last tag)
    unfolding entry_kind
    kind_says = by_delimiter (opens rules level tag) refl
      where
        by_delimiter : (b : Bool) → opens rules level tag ≡ b → Says level depth last tag (pick b ends (declared rules level depth last tag (rules.position level tag)))
        by_delimiter true o = says_ends (λ n. let z : true ≡ false = cc in let y : ◌≡◌ {A = ℕ} 0 1 = cc in absurd (omega arith))
        by_delimiter false o = declared_says o (rules.position level tag) refl

  -- what was taken of a run that was read to its end
  pub record Taken (frames : List (Frame L)) (done rs : List Record) (fields : Fields) (x : Field) (rest : Fields) : Type 0 where
    pub numbers : List (ℕ × ℕ)
    pub taken : Takes rules x rest frames numbers fields
    pub records : rs ≡ done ++ records_as numbers fields

  grows_move : (room : ℕ) (done : List Record) (f : Field) (later : Fields) (x : Field) (rest : Fields) (left : ℕ) (rs : List Record) → ((stack : List (Frame L)) (done₁ : List Record) → walk rules list_store room stack done₁ later ≡ ended x rest left rs → length rs + suc left ≤ length done₁ + room) →
      (m : Move L) → moved list_store room done f later (λ stack s. walk rules list_store room stack s later) m ≡ ended x rest left rs → length rs + suc left ≤ length done + suc room
  unfolding moved list_store
  grows_move room done f later x rest left rs on (adds stack numbers) e =
      omega (arith, on stack _ e, length-append done (entry_record numbers.depth numbers.number f ∷ []))
  grows_move room done f later x rest left rs on (joins_at stack at numbers) e =
      by_join (joined_either at (entry_record numbers.depth numbers.number f) done) (on stack _ e)
    where
      by_join : (joined_list at (entry_record numbers.depth numbers.number f) done ≡ done ++ (entry_record numbers.depth numbers.number f
          ∷ [])) ⊎ (length (joined_list at (entry_record numbers.depth numbers.number f) done) ≡ length done) →
          length rs + suc left ≤ length (joined_list at (entry_record numbers.depth numbers.number f) done) + room →
          length rs + suc left ≤ length done + suc room
      by_join (inl q) h = omega (arith, ap length q, length-append done (entry_record numbers.depth numbers.number f ∷ []))
      by_join (inr q) h = omega arith
  grows_move room done f later x rest left rs on (disorders group) e = let z : ◌≡◌ {A = ℕ} 0 1 = cc in absurd (omega arith)
  grows_move room done f later x rest left rs on leaves e =
      let records-same : done ≡ rs = cc in
      let room-same : room ≡ left = cc in
      omega (arith, ap length records-same)

  -- each field makes one record at most
  walk_grows : (room : ℕ) (frames : List (Frame L)) (done : List Record) (fields : Fields) (x : Field) (rest : Fields) (left : ℕ) (rs : List Record) → walk rules list_store room frames done fields ≡ ended x rest left rs → length rs + suc left ≤ length done + room
  unfolding walk list_store
  walk_grows room frames done (unreadable cause place) x rest left rs e = let z : ◌≡◌ {A = ℕ} 0 1 = cc in absurd (omega arith)
  walk_grows zero frames done (field f later) x rest left rs e = let z : ◌≡◌ {A = ℕ} 0 1 = cc in absurd (omega arith)
  walk_grows (suc room) frames done (field f later) x rest left rs e =
      grows_move room done f later x rest left rs (λ stack done₁ e₁. walk_grows room stack done₁ later x rest left rs e₁) (decide rules (length done) frames f.tag) e

  takes_one : (frames stack : List (Frame L)) (done rs : List Record) (f : Field) (later : Fields) (x : Field) (rest : Fields) (numbers : Numbers)
      → given (decide rules (length done) frames f.tag) ≡ adds stack numbers
      → Taken stack (done ++ (entry_record numbers.depth numbers.number f ∷ [])) rs later x rest → Taken frames done rs (field f later) x rest
  unfolding records_as
  takes_one frames stack done rs f later x rest numbers d t =
      record { numbers = (numbers.depth, numbers.number) ∷ t.numbers; taken = takes (length done) d t.taken; records = t.records ∙ append_assoc done (entry_record numbers.depth numbers.number f ∷ []) (records_as t.numbers later) }

  takes_move : (room : ℕ) (frames : List (Frame L)) (done : List Record) (f : Field) (later : Fields) (x : Field) (rest : Fields) (left : ℕ)
      (rs : List Record) → length rs + suc left ≡ length done + suc room → ((stack : List (Frame L)) (done₁ : List Record) → length rs + suc left
      ≡ length done₁ + room → walk rules list_store room stack done₁ later ≡ ended x rest left rs → Taken stack done₁ rs later x rest) →
      (m : Move L) → decide rules (length done) frames f.tag ≡ m → moved list_store room done f later (λ stack s. walk rules list_store room stack s later) m ≡ ended x rest left rs → Taken frames done rs (field f later) x rest
  unfolding moved list_store records_as given
  takes_move room frames done f later x rest left rs whole on (adds stack numbers) d e =
      takes_one frames stack done rs f later x rest numbers (ap given d) (on stack _ (omega (arith, length-append done (entry_record numbers.depth numbers.number f ∷ []))) e)
  takes_move room frames done f later x rest left rs whole on (joins_at stack at numbers) d e =
      by_join (joined_either at (entry_record numbers.depth numbers.number f) done)
    where
      by_join : (joined_list at (entry_record numbers.depth numbers.number f) done ≡ done ++ (entry_record numbers.depth numbers.number f ∷ [])) ⊎ (length (joined_list at (entry_record numbers.depth numbers.number f) done) ≡ length done) → Taken frames done rs (field f later) x rest
      by_join (inl q) =
          takes_one frames stack done rs f later x rest numbers (ap given d) (on stack _ (omega (arith, length-append done (entry_record numbers.depth numbers.number f ∷ []))) (rw q at e))
      by_join (inr q) = absurd (omega (arith, walk_grows room stack _ later x rest left rs e))
  takes_move room frames done f later x rest left rs whole on (disorders group) d e = let z : ◌≡◌ {A = ℕ} 0 1 = cc in absurd (omega arith)
  takes_move room frames done f later x rest left rs whole on leaves d e =
      let field-same : f ≡ x = cc in
      let left_there : given (decide rules (length done) frames x.tag) ≡ leaves = ap given (rw field-same at d) in
      let rest-same : later ≡ rest = cc in
      let records-same : done ≡ rs = cc in
      record { numbers = []; taken = rw (field-same, rest-same) (over (length done) left_there); records = sym records-same ∙ sym (append-nil done) }

  -- where there are as many records more as fields were read, each of them was taken
  pub walk-takes : (room : ℕ) (frames : List (Frame L)) (done : List Record) (fields : Fields) (x : Field) (rest : Fields) (left : ℕ) (rs : List Record) →
      length rs + suc left ≡ length done + room → walk rules list_store room frames done fields ≡ ended x rest left rs → Taken frames done rs fields x rest
  unfolding walk list_store
  walk-takes room frames done (unreadable cause place) x rest left rs whole e = let z : ◌≡◌ {A = ℕ} 0 1 = cc in absurd (omega arith)
  walk-takes zero frames done (field f later) x rest left rs whole e = let z : ◌≡◌ {A = ℕ} 0 1 = cc in absurd (omega arith)
  walk-takes (suc room) frames done (field f later) x rest left rs whole e =
      takes_move room frames done f later x rest left rs whole (λ stack done₁ whole₁ e₁. walk-takes room stack done₁ later x rest left rs whole₁ e₁) (decide rules (length done) frames f.tag) refl e

  -- the records say how many were taken, and each depth and number
  pub same_numbers : {x : Field} {rest : Fields} {frames : List (Frame L)} {ms : List (ℕ
      × ℕ)} {fields : Fields} (message : List ℕ) (gs : List Told) (last : Fields) (ns : List (ℕ × ℕ)) → Takes rules x rest frames ms fields →
      ReadsAs message fields gs last → length ns ≡ length gs → records_as ms fields ≡ records_as ns fields → ms ≡ ns
  unfolding records_as entry_record
  same_numbers message _ last [] (over here e) r s q = refl
  same_numbers message _ last (n ∷ ns) (over here e) no_field s q = absurd (omega arith)
  same_numbers message _ last (n ∷ ns) (over here e) (one_field tag value r) s q = let z : ◌≡◌ {A = ℕ} 0 1 = cc in absurd (omega arith)
  same_numbers message _ last [] (takes here e t) r s q = let z : ◌≡◌ {A = ℕ} 0 1 = cc in absurd (omega arith)
  same_numbers message _ last (n ∷ ns) (takes here e t) no_field s q = absurd (omega arith)
  same_numbers {frames = frames} message _ last (n ∷ ns) (takes here {more = others_open} {n = m} {ns = ms} {f = f} {later = later} e t) (one_field tag value r) s q =
      let one : entry_record m.0 m.1 f ≡ entry_record n.0 n.1 f = cc in
      let others : records_as ms later ≡ records_as ns later = cc in
      let depths : m.0 ≡ n.0 = ap (λ (r : Record). r.depth) one in
      let numbers : m.1 ≡ n.1 = ap (λ (r : Record). r.number) one in
      let same : m ≡ n = rw (depths, numbers) refl in
      rw (same, same_numbers {frames = others_open} message _ last ns t r (omega arith) others) refl
