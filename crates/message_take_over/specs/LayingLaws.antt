-- Rows are laid one behind the other: what each call adds, and what is added in turn.
use Rattle.std.specs.Prelude.{◌≡◌, refl, List, [], ◌∷◌, ◌++◌, ℕ, zero, suc, ◌+◌, ◌-◌, ◌*◌, ◌≤◌, ◌<◌, length}
use Rattle.std.proofs.Common.{sym, ap, ◌∙◌, append_assoc, append-nil, arith, length-append}
use Rattle.field_rules.specs.Decimal.{written_at}
use Rattle.field_rules.proofs.DecimalLaws.{written-length}
use Rattle.message_maps.specs.Rows.{Row, row, flat, padded, message_words, message_rows}
use Rattle.message_maps.specs.RowsLaws.{written_next}
use Rattle.message_lent_rules.proofs.MeaningLaws.{flat-length, flat_append}
use Rattle.message_take_over.specs.Taking.{part_heads}
use Rattle.message_take_over.specs.Laying.{rowed, Adds}

pub row_added : (entry exit : List ℕ) (rows k l t x : ℕ) → rows < message_rows → exit ≡ written_at (4 * rows + 1) (k ∷ l ∷ t ∷ x ∷ []) entry → Adds entry exit rows (rows + 1) (row k l t x ∷ [])
unfolding rowed
row_added entry exit rows k l t x few e =
    record { counts = refl; whole = ap length e ∙ written-length _ _ _; adds = behind e }
  where
    behind : exit ≡ written_at (4 * rows + 1) (k ∷ l ∷ t ∷ x ∷ []) entry → (laid : List Row) → length laid ≡ rows → entry ≡ padded message_words (0 ∷ flat laid) → exit ≡ padded message_words (0 ∷ flat (laid ++ (row k l t x ∷ [])))
    behind e laid n q =
        let size : length (flat laid) ≡ 4 * rows = flat-length laid ∙ ap (λ (m : ℕ). 4 * m) n in
        e ∙ ap (written_at (4 * rows + 1) (k ∷ l ∷ t ∷ x ∷ [])) q
        ∙ written_next message_words (4 * rows + 1) (0 ∷ flat laid) (k ∷ l ∷ t ∷ x ∷ []) (omega arith) (omega arith)
        ∙ ap (λ (s : List ℕ). padded message_words (0 ∷ s)) (sym (flat_append laid (row k l t x ∷ []) ∙ (unfold flat in refl)))

pub adds_none : (words : List ℕ) (rows : ℕ) → Adds words words rows rows []
adds_none words rows = record { counts = omega arith; whole = refl; adds = λ laid n e. e ∙ ap rowed (sym (append-nil laid)) }

pub adds_then : {a b c : List ℕ} {i j k : ℕ} {x y : List Row} → Adds a b i j x → Adds b c j k y → Adds a c i k (x ++ y)
adds_then {x = x} {y = y} f g =
    record {
      counts = omega (arith, f.counts, g.counts, length-append x y);
      whole = g.whole ∙ f.whole;
      adds = λ laid n e. g.adds (laid ++ x) (omega (arith, f.counts, length-append laid x)) (f.adds laid n e) ∙ ap rowed (append_assoc laid x y);
    }

-- one head more
heads-last : (n part : ℕ) → part_heads (suc n) part ≡ part_heads n part ++ (row 2 0 (part + n + 1) 0 ∷ [])
unfolding part_heads
heads-last zero part = let e : part + 0 + 1 ≡ part + 1 = omega arith in rw e
heads-last (suc n) part =
    let e : part + 1 + n + 1 ≡ part + suc n + 1 = omega arith in
    ap (λ (rows : List Row). row 2 0 (part + 1) 0 ∷ rows) (heads-last n (part + 1) ∙ ap (λ (p : ℕ). part_heads n (part + 1) ++ (row 2 0 p 0 ∷ [])) e)

pub heads-next : (part at : ℕ) → part ≤ at → part_heads (at + 1 - part) part ≡ part_heads (at - part) part ++ (row 2 0 (at + 1) 0 ∷ [])
heads-next part at h =
    let e : at + 1 - part ≡ suc (at - part) = omega arith in
    let f : part + (at - part) + 1 ≡ at + 1 = omega arith in
    ap (λ (n : ℕ). part_heads n part) e ∙ heads-last (at - part) part ∙ ap (λ (p : ℕ). part_heads (at - part) part ++ (row 2 0 p 0 ∷ [])) f

pub heads-length : (n part : ℕ) → length (part_heads n part) ≡ n
unfolding part_heads
heads-length zero part = refl
heads-length (suc n) part = ap suc (heads-length n (part + 1))

pub heads_added : (a b : List ℕ) (rows next n part : ℕ) → Adds a b rows next (part_heads n part) → next ≡ rows + n
heads_added a b rows next n part added = added.counts ∙ ap (λ (m : ℕ). rows + m) (heads-length n part)

pub heads-none : (part : ℕ) → part_heads (part - part) part ≡ []
unfolding part_heads
heads-none part = let e : part - part ≡ 0 = omega arith in rw e
