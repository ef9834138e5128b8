-- A readable field as text: tag text, `=`, value, separator. Reading finds exactly such texts, which is why a field falls, stays
-- within the message, and depends on no byte from its end on.
use Rattle.std.specs.Prelude.{◌≡◌, refl, List, ◌∷◌, ◌++◌, ℕ, ◌+◌, ◌≤◌, length, take, drop}
use Rattle.std.proofs.Common.{sym, ap, ◌∙◌, append_assoc, arith, length-append, take-append-drop, take_at, Option, Some, None, Ok}
use Rattle.std.proofs.Math.Seq.{drop-append-add, take-append_seam}
use Rattle.std.proofs.lemmas.List.{take-append-le}
use Rattle.field_rules.specs.Find.{find_in}
use Rattle.field_rules.proofs.FindLaws.{Absent, Splits, find_splits, find_joins}
use Rattle.field_rules.specs.Number.{tag_of}
use Rattle.field_rules.proofs.NumberLaws.{tag-some}
use Rattle.field_rules.specs.Field.{start_at, field_from, field_bytes}
use Rattle.field_rules.proofs.FieldLaws.{no_equals, no_separator, bad-tag, one_field}
use Rattle.field_rules.specs.declared.Mode.{Mode}
use Rattle.field_rules.specs.declared.Field.{Field}

-- the field that these texts spell at a place
abbrev pub spelt : ℕ → ℕ → List ℕ → List ℕ → Field
spelt at tag text value =
    record { first = at; tag = tag; place = at + (length text + 1); length = length value; next = start_at (at + (length text + 1) + length value + 1) }

-- the bytes s, which stand at a place of a message, start with the text of the field f
pub record Spelled (mode : Mode) (at : ℕ) (s : List ℕ) (f : Field) : Type 0 where
  pub text : List ℕ
  pub value : List ℕ
  pub rest : List ℕ
  pub whole : s ≡ field_bytes mode.separator text value ++ rest
  pub is_tag : tag_of text ≡ Some f.tag
  pub no_equals-before : Absent 61 text
  pub no_separator-before : Absent mode.separator value
  pub is : f ≡ spelt at f.tag text value

after_byte : (p q : List ℕ) (x n : ℕ) → length p ≡ n → drop (n + 1) (p ++ (x ∷ q)) ≡ q
after_byte p q x n h = rw (← h) (drop-append-add p (x ∷ q) 1)

-- the three texts of a field, and what comes after it
opened : (separator : ℕ) (text value rest : List ℕ) → field_bytes separator text value ++ rest ≡ text ++ (61 ∷ (value ++ (separator ∷ rest)))
opened separator text value rest = simp append_assoc

-- behind `=` comes the value
pub value_part : (separator : ℕ) (text value rest : List ℕ) → drop (length text + 1) (field_bytes separator text value ++ rest) ≡ value ++ (separator ∷ rest)
value_part separator text value rest =
    ap (λ (l : List ℕ). drop (length text + 1) l) (opened separator text value rest) ∙ after_byte text (value ++ (separator ∷ rest)) 61 _ refl

pub bytes-size : (separator : ℕ) (text value : List ℕ) → length (field_bytes separator text value) ≡ length text + 1 + length value + 1
bytes-size separator text value = simp length-append (omega arith)

module _ (mode : Mode) (at : ℕ) (s : List ℕ) (f : Field) where
  -- what the text spells is read
  pub spelled-read : Spelled mode at s f → field_from at mode s ≡ Ok f
  spelled-read w =
      let tail : List ℕ = w.value ++ (mode.separator ∷ w.rest) in
      let whole : s ≡ w.text ++ (61 ∷ tail) = w.whole ∙ opened mode.separator w.text w.value w.rest in
      let q : find_in 61 0 s ≡ Some (length w.text) = rw whole (find_joins 61 0 w.text tail w.no_equals-before ∙ ap Some (omega arith)) in
      let d : drop (length w.text + 1) s ≡ tail = rw whole (after_byte w.text tail 61 _ refl) in
      let n : find_in mode.separator 0 (drop (length w.text + 1) s) ≡ Some (length w.value) = rw d (find_joins mode.separator 0 w.value w.rest w.no_separator-before ∙ ap Some (omega arith)) in
      let t : take (length w.text) s ≡ w.text = rw whole (take-append_seam w.text (61 ∷ tail)) in
      one_field at mode s _ _ f.tag q n (ap tag_of t ∙ w.is_tag) ∙ ap Ok (sym w.is)

  -- what is read is spelled by the text
  pub read-spelled : field_from at mode s ≡ Ok f → Spelled mode at s f
  read-spelled h = by_equals (find_in 61 0 s) refl
    where
      by_tag : (q n : ℕ) → find_in 61 0 s ≡ Some q → find_in mode.separator 0 (drop (q + 1) s) ≡ Some n → (g : Option ℕ) → tag_of (take q s) ≡ g → Spelled mode at s f
      by_tag q n e d None t = let r = bad-tag at mode s q n e d t in let z : ◌≡◌ {A = ℕ} 0 1 = cc in absurd (omega arith)
      by_tag q n e d (Some tag) t =
          let r = one_field at mode s q n tag e d t in
          let a : Splits 61 s q = find_splits 61 s q e in
          let after : drop (q + 1) s ≡ a.after = ap (λ (l : List ℕ). drop (q + 1) l) a.whole ∙ after_byte a.before a.after 61 q a.size in
          let b : Splits mode.separator a.after n = find_splits mode.separator a.after n (rw after at d) in
          let text : take q s ≡ a.before = ap (λ (l : List ℕ). take q l) a.whole ∙ take_at a.before (61 ∷ a.after) q a.size in
          let is : f ≡ spelt at tag a.before b.before = rw (a.size, b.size) (cc) in
          record {
            text = a.before;
            value = b.before;
            rest = b.after;
            whole = a.whole ∙ ap (λ (l : List ℕ). a.before ++ (61 ∷ l)) b.whole ∙ sym (opened mode.separator a.before b.before b.after);
            is_tag = rw text at t ∙ ap (λ (g : Field). Some g.tag) (sym is);
            no_equals-before = a.absent;
            no_separator-before = b.absent;
            is = rw is refl;
          }

      by_separator : (q : ℕ) → find_in 61 0 s ≡ Some q → (d : Option ℕ) → find_in mode.separator 0 (drop (q + 1) s) ≡ d → Spelled mode at s f
      by_separator q e None d = let r = no_separator at mode s q e d in let z : ◌≡◌ {A = ℕ} 0 1 = cc in absurd (omega arith)
      by_separator q e (Some n) d = by_tag q n e d (tag_of (take q s)) refl

      by_equals : (e : Option ℕ) → find_in 61 0 s ≡ e → Spelled mode at s f
      by_equals None e = let r = no_equals at mode s e in let z : ◌≡◌ {A = ℕ} 0 1 = cc in absurd (omega arith)
      by_equals (Some q) e = by_separator q e (find_in mode.separator 0 (drop (q + 1) s)) refl

-- Where a field lies: it starts at the place where reading stood, it is at least a digit, `=` and a separator, its value ends where
-- the separator stands, and all of it is within the n bytes that were there.
pub record Lies (at n : ℕ) (f : Field) : Type 0 where
  pub starts : f.first ≡ at
  pub falls : at + 3 ≤ f.next.at
  pub value_after : at + 2 ≤ f.place
  pub ends : f.place + f.length + 1 ≡ f.next.at
  pub within : f.next.at ≤ at + n

spelled-lies : (mode : Mode) (at : ℕ) (s : List ℕ) (f : Field) → Spelled mode at s f → Lies at (length s) f
spelled-lies mode at s f w =
    let e = w.is in
    let some = tag-some w.text f.tag w.is_tag in
    let size : length s ≡ length w.text + 1 + length w.value + 1 + length w.rest = ap length w.whole ∙ simp length-append (omega arith) in
    let first : f.first ≡ at = ap (λ (g : Field). g.first) e in
    let place : f.place ≡ at + (length w.text + 1) = ap (λ (g : Field). g.place) e in
    let count : f.length ≡ length w.value = ap (λ (g : Field). g.length) e in
    let next : f.next.at ≡ at + (length w.text + 1) + length w.value + 1 = ap (λ (g : Field). g.next.at) e in
    record { starts = first; falls = omega arith; value_after = omega arith; ends = omega arith; within = omega arith }

pub field-lies : (mode : Mode) (at : ℕ) (s : List ℕ) (f : Field) → field_from at mode s ≡ Ok f → Lies at (length s) f
field-lies mode at s f h = spelled-lies mode at s f (read-spelled mode at s f h)

-- a list that reaches past the start of another begins with that start
begins : (p q a t : List ℕ) → a ++ t ≡ p ++ q → length p ≤ length a → a ≡ p ++ drop (length p) a
begins p q a t e h =
    let front : take (length p) a ≡ p = sym (take-append-le (length p) a t h) ∙ ap (λ (l : List ℕ). take (length p) l) e ∙ take-append_seam p q in
    sym (take-append-drop (length p) a) ∙ ap (λ (l : List ℕ). l ++ drop (length p) a) front

-- a field that ends within a depends on no byte behind a
pub field_depends : (mode : Mode) (at : ℕ) (a t u : List ℕ) (f : Field) → field_from at mode (a ++ t) ≡ Ok f → f.next.at ≤ at + length a → field_from at mode (a ++ u) ≡ Ok f
field_depends mode at a t u f h l =
    let w : Spelled mode at (a ++ t) f = read-spelled mode at (a ++ t) f h in
    let p : List ℕ = field_bytes mode.separator w.text w.value in
    let fits : length p ≤ length a = omega (arith, bytes-size mode.separator w.text w.value, ap (λ (g : Field). g.next.at) w.is) in
    let cut : a ≡ p ++ drop (length p) a = begins p w.rest a t w.whole fits in
    spelled-read mode at (a ++ u) f
    (record {
      text = w.text;
      value = w.value;
      rest = drop (length p) a ++ u;
      whole = ap (λ (x : List ℕ). x ++ u) cut ∙ append_assoc p (drop (length p) a) u;
      is_tag = w.is_tag;
      no_equals-before = w.no_equals-before;
      no_separator-before = w.no_separator-before;
      is = w.is;
    })
