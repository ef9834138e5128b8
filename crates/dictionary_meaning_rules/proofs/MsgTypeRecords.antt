-- Each message that a dictionary's bytes open has the number of a MsgType.
use Rattle.std.specs.Prelude.{◌≡◌, refl, Bool, true, false, List, ℕ, ◌+◌, ◌-◌, ◌≤◌, ◌<◌, length, get_or, take, drop, eqb, ltb}
use Rattle.std.proofs.Common.{sym, ap, ◌∙◌, arith, length-take, take_all, eqb-true, ltb-true, ltb-false, Option, Some, None}
use Rattle.std.proofs.lemmas.Bool.{eqb-false}
use Rattle.field_rules.specs.Choice.{pick}
use Rattle.dictionary_rules.specs.Record.{low_first, zero_filled, record_body_length, with_tag, with_mark, known_tag, opens_component, opens_message, field_item_lem, component_item_lem, opens_group, record_body, record_at}
use Rattle.dictionary_rules.specs.RecordLaws.{at_end, at_cut, at-wrong, at-whole, length-message}
use Rattle.dictionary_rules.specs.declared.Record.{Record}
use Rattle.dictionary_rules.specs.declared.Record.TheVariants.{OpensMessage, Closes}
use Rattle.dictionary_rules.specs.declared.RecordRead.TheVariants.{Whole}
use Rattle.dictionary_meaning_rules.proofs.MsgTypeText.{Bytes, take-bytes, drop-bytes, NameNumber, filled-number}

tag-body : (tag : ℕ) (x r : Record) → with_tag tag x ≡ Some r → x ≡ r
unfolding with_tag
tag-body tag x r h = go (eqb tag 0) h
  where
    go : (t : Bool) → pick t None (Some x) ≡ Some r → x ≡ r
    go true q = let z : ◌≡◌ {A = ℕ} 0 1 = cc in absurd (omega arith)
    go false q = cc

mark-body : (mark : ℕ) (b : Option Record) (r : Record) → with_mark mark b ≡ Some r → b ≡ Some r
unfolding with_mark
mark-body mark b r h = go (ltb 1 mark) h
  where
    go : (t : Bool) → pick t None b ≡ Some r → b ≡ Some r
    go true q = let z : ◌≡◌ {A = ℕ} 0 1 = cc in absurd (omega arith)
    go false q = q

-- the body of a record that opens a message
record MessageBody (kind : ℕ) (body : List ℕ) (m : ℕ) : Type 0 where
  pub third : kind ≡ 3
  pub some : get_or body 0 0 ≡ 0 → ⊥
  pub filled : zero_filled false body ≡ true
  pub number : m ≡ low_first (take 8 body)

message-body : (kind : ℕ) (body : List ℕ) (m : ℕ) → record_body kind body ≡ Some (OpensMessage m) → MessageBody kind body m
unfolding record_body known_tag opens_component opens_message field_item_lem component_item_lem opens_group
message-body kind body m h = go (eqb kind 1) (eqb kind 2) (eqb kind 3) refl (eqb kind 4) (eqb kind 5) (eqb kind 6) (eqb kind 7) (eqb (get_or body 0 0) 0) refl (zero_filled false body) refl h
  where
    go : (a b c : Bool) → eqb kind 3 ≡ c → (d e f g x : Bool) → eqb (get_or body 0 0) 0 ≡ x → (y : Bool) → zero_filled false body ≡ y →
        pick a (known_tag body) (pick b (opens_component body) (pick c (pick x None (pick y (Some (OpensMessage (low_first (take 8 body)))) None)) (pick d
        (field_item_lem body) (pick e (component_item_lem body) (pick f (opens_group body) (pick g (Some Closes) None)))))) ≡ Some (OpensMessage m) →
        MessageBody kind body m
    go true b c k d e f g x p y q w = let t = tag-body _ _ _ w in let z : ◌≡◌ {A = ℕ} 0 1 = cc in absurd (omega arith)
    go false true c k d e f g x p y q w = let z : ◌≡◌ {A = ℕ} 0 1 = cc in absurd (omega arith)
    go false false true k d e f g true p y q w = let z : ◌≡◌ {A = ℕ} 0 1 = cc in absurd (omega arith)
    go false false true k d e f g false p false q w = let z : ◌≡◌ {A = ℕ} 0 1 = cc in absurd (omega arith)
    go false false true k d e f g false p true q w =
        let same : low_first (take 8 body) ≡ m = cc in
        record { third = eqb-true _ _ k; some = eqb-false _ _ p; filled = q; number = sym same }
    go false false false k true e f g x p y q w = let t = tag-body _ _ _ (mark-body _ _ _ w) in let z : ◌≡◌ {A = ℕ} 0 1 = cc in absurd (omega arith)
    go false false false k false true f g x p y q w = let t = mark-body _ _ _ w in let z : ◌≡◌ {A = ℕ} 0 1 = cc in absurd (omega arith)
    go false false false k false false true g x p y q w = let t = tag-body _ _ _ (mark-body _ _ _ w) in let z : ◌≡◌ {A = ℕ} 0 1 = cc in absurd (omega arith)
    go false false false k false false false true x p y q w = let z : ◌≡◌ {A = ℕ} 0 1 = cc in absurd (omega arith)
    go false false false k false false false false x p y q w = let z : ◌≡◌ {A = ℕ} 0 1 = cc in absurd (omega arith)

-- a message that a record opens has the number of a MsgType
pub message-number : (d : List ℕ) (at m next : ℕ) → Bytes d → record_at d at ≡ Whole (OpensMessage m) next → NameNumber m
message-number d at m next bytes h = in_bytes (ltb at (length d)) refl
  where
    body : List ℕ
    body = take (record_body_length (get_or d at 0)) (drop (at + 1) d)

    by_body : (b : Option Record) → record_body (get_or d at 0) body ≡ b → at < length d → record_body_length (get_or d at 0) ≤ length d - (at + 1) → NameNumber m
    by_body None e l c = let z : ◌≡◌ {A = ℕ} 0 1 = cc (at-wrong d at l c e) in absurd (omega arith)
    by_body (Some x) e l c =
        let w = at-whole d at x l c e in
        let same : x ≡ OpensMessage m = cc in
        let opening = message-body (get_or d at 0) body m (e ∙ ap Some same) in
        let size : length body ≤ 8 = omega (arith, length-take (record_body_length (get_or d at 0)) (drop (at + 1) d), length-message (get_or d at 0) opening.third) in
        rw (opening.number ∙ ap low_first (take_all 8 body size)) (filled-number (take-bytes (record_body_length (get_or d at 0)) (drop-bytes (at + 1) bytes)) size opening.filled opening.some)

    by_length : (t : Bool) → ltb (length d - (at + 1)) (record_body_length (get_or d at 0)) ≡ t → at < length d → NameNumber m
    by_length true e l = let z : ◌≡◌ {A = ℕ} 0 1 = cc (at_cut d at l (ltb-true _ _ e)) in absurd (omega arith)
    by_length false e l = by_body (record_body (get_or d at 0) body) refl l (ltb-false _ _ e)

    in_bytes : (t : Bool) → ltb at (length d) ≡ t → NameNumber m
    in_bytes true e = by_length (ltb (length d - (at + 1)) (record_body_length (get_or d at 0))) refl (ltb-true _ _ e)
    in_bytes false e = let z : ◌≡◌ {A = ℕ} 0 1 = cc (at_end d at (ltb-false _ _ e)) in absurd (omega arith)
