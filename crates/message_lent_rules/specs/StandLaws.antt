-- Where a tag stands in a map, and what a formed map says of its first field or entry.
use Rattle.std.specs.Prelude.{◌≡◌, refl, ◌⊎◌, Bool, true, false, List, ℕ, eqb}
use Rattle.std.proofs.Common.{sym, inl, inr, arith, eq-eqb}
use Rattle.field_rules.specs.Choice.{pick}
use Rattle.message_maps.specs.Map.{Map, end, field, entry, past_leading}
use Rattle.message_lent_rules.specs.Formed.{stands, goes_on, is_formed}
use Rattle.message_lent_rules.specs.LentLaws.{both}

-- tests
pub either : (b : Bool) → (b ≡ true) ⊎ (b ≡ false)
either true = inl refl
either false = inr refl

pub never : {A : Type 0} → ◌≡◌ {A = Bool} true false → A
never e = let z : ◌≡◌ {A = ℕ} 0 1 = cc in absurd (omega arith)

-- a test that nothing but its failure lets through
pub neither : (b x : Bool) → pick b false x ≡ true → (b ≡ false) × (x ≡ true)
neither true x h = never (sym h)
neither false x h = (refl, h)

pub nor : (b x : Bool) → pick b true x ≡ false → (b ≡ false) × (x ≡ false)
nor true x h = never h
nor false x h = (refl, h)

-- what isn't true is false
pub not_so : (b : Bool) → (b ≡ true → ⊥) → b ≡ false
not_so true h = absurd (h refl)
not_so false h = refl

-- a formed map's first field
pub record FieldFormed (t : ℕ) (rest : Map) : Type 0 where
  pub some : eqb t 0 ≡ false
  pub once : stands t (past_leading t rest) ≡ false
  pub rest_formed : is_formed rest ≡ true

pub field_formed : (t : ℕ) (v : List ℕ) (rest : Map) → is_formed (field t v rest) ≡ true → FieldFormed t rest
unfolding is_formed
field_formed t v rest h =
    let a = neither _ _ h in
    let b = neither _ _ a.1 in
    record { some = a.0; once = b.0; rest_formed = b.1 }

pub formed_field : (t : ℕ) (v : List ℕ) (rest : Map) → FieldFormed t rest → is_formed (field t v rest) ≡ true
unfolding is_formed
formed_field t v rest f = rw (f.some, f.once) f.rest_formed

-- its first entry
pub record EntryFormed (s d : ℕ) (own rest : Map) : Type 0 where
  pub some : eqb s 0 ≡ false
  pub delimited : eqb d 0 ≡ false
  pub once : stands s (past_leading s rest) ≡ false
  pub on : goes_on s d rest ≡ true
  pub own_formed : is_formed own ≡ true
  pub rest_formed : is_formed rest ≡ true

pub entry_formed : (s d : ℕ) (own rest : Map) → is_formed (entry s d own rest) ≡ true → EntryFormed s d own rest
unfolding is_formed
entry_formed s d own rest h =
    let a = neither _ _ h in
    let b = neither _ _ a.1 in
    let c = neither _ _ b.1 in
    let e = both _ _ c.1 in
    let f = both _ _ e.1 in
    record { some = a.0; delimited = b.0; once = c.0; on = e.0; own_formed = f.0; rest_formed = f.1 }

pub formed_entry : (s d : ℕ) (own rest : Map) → EntryFormed s d own rest → is_formed (entry s d own rest) ≡ true
unfolding is_formed
formed_entry s d own rest f = rw (f.some, f.delimited, f.once, f.on, f.own_formed) f.rest_formed

-- where a tag stands nowhere, it leads nothing
pub past_none : (u : ℕ) (m : Map) → stands u m ≡ false → stands u (past_leading u m) ≡ false
unfolding stands past_leading
past_none u end h = refl
past_none u (field t v rest) h = h
past_none u (entry s d own rest) h = rw (nor (eqb s u) _ h).0 h

pub goes_none : (u d : ℕ) (m : Map) → stands u m ≡ false → goes_on u d m ≡ true
unfolding stands goes_on
goes_none u d end h = refl
goes_none u d (field t v rest) h = refl
goes_none u d (entry s e own rest) h = rw (nor (eqb s u) _ h).0

-- another field, or another entry, ends what leads
pub behind-field : (u t : ℕ) (v : List ℕ) (rest : Map) → stands u (past_leading u (field t v rest)) ≡ false → (eqb t u ≡ false) × (stands u rest ≡ false)
unfolding stands past_leading
behind-field u t v rest h = nor (eqb t u) _ h

pub past_field : (u t : ℕ) (v : List ℕ) (rest : Map) → eqb t u ≡ false → stands u (past_leading u (field t v rest)) ≡ stands u rest
unfolding stands past_leading
past_field u t v rest e = rw e

pub past_entry : (u s d : ℕ) (own rest : Map) → eqb s u ≡ false → stands u (past_leading u (entry s d own rest)) ≡ stands u rest
unfolding stands past_leading
past_entry u s d own rest e = rw e (rw e)

pub past_same : (u s d : ℕ) (own rest : Map) → eqb s u ≡ true → stands u (past_leading u (entry s d own rest)) ≡ stands u (past_leading u rest)
unfolding stands past_leading
past_same u s d own rest e = rw e

-- a field's own tag stands behind it only where it stands twice
pub field-stands : (t : ℕ) (v : List ℕ) (rest : Map) → stands t (past_leading t (field t v rest)) ≡ true
unfolding stands past_leading
field-stands t v rest = rw (eq-eqb t t refl)
