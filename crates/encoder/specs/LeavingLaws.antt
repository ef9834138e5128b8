-- The steps by which a message that was found fit is encoded: its 10 is dropped, its 9 is set, it is written, and gets its new 10. What each
-- step leaves is a message again, so that the next finds it.
use Rattle.std.specs.Prelude.{◌≡◌, refl, drop}
use Rattle.std.proofs.Math.Path.{sym, ap}
use Rattle.std.proofs.Common.{◌∙◌, drop_at, le-leb}
use Rattle.std.proofs.Math.Bool.{true}
use mathlib.Core.List.{List, [], ◌∷◌, ◌++◌, append_assoc}
use Prim.Native.Nat.{ℕ, ◌+◌, ◌-◌, ◌≤◌}
use native.Mathlib.Omega.{arith}
use Rattle.std.proofs.Math.ListN.{length, take, length-append}
use Rattle.std.proofs.Math.Seq.{take_at}
use Rattle.field_rules.specs.Decimal.{decimal, written_at}
use Rattle.field_rules.proofs.DecimalLaws.{written_fits}
use Rattle.message_maps.specs.Map.{stored, without_field}
use Rattle.message_lent_rules.specs.Meaning.{Message, words_of, value_bytes_of, message_in}
use Rattle.message_lent_rules.proofs.FormedLaws.{Lends}
use Rattle.message_rules.specs.Changes.{after, part_of, with_part, field_total, value_total, judged, storing, removing}
use Rattle.message_rules.specs.RowChanges.{Blank}
use Rattle.message_rules.specs.BlankLaws.{left-blank}
use Rattle.message_rules.specs.ChangeLaws.{store-on}
use Rattle.message_rules.proofs.FormedLaws.{store_lends, remove_lends, remove-made}
use Rattle.message_rules.specs.declared.Part.{Part}
use Rattle.message_rules.specs.declared.Part.TheVariants.{Header, Trailer}
use Rattle.message_rules.specs.declared.Change.{Change}
use Rattle.message_rules.specs.declared.Change.TheVariants.{Made}
use Rattle.encode_rules.specs.Encoding.{message_text, dropped, measured, sum_digits, summed, encoding, encoded_message}
use Rattle.encode_rows.specs.MessageLaws.{summed-length}
use Rattle.encode_rules.specs.Encode.{left, encoded}
use Rattle.encoder.specs.Leaving.{Encodable}
use Rattle.encoder.specs.SizeLaws.{sum-size, measured-values, measured-fields, encoded-values}
use Rattle.encode_rules.specs.declared.Encoding.TheVariants.{Written as Encoded-Written}

-- digits that are written at the start, and read back
pub digits_back : (digits scratch written : List ℕ) (stop : ℕ) → length digits ≤ length scratch → stop ≡ 0 + length digits → written ≡ written_at 0 digits scratch → take stop written ≡ digits
digits_back digits scratch written stop room e w =
    ap (take stop) (w ∙ written_fits 0 digits scratch (omega arith)) ∙ take_at digits (drop (0 + length digits) scratch) stop (omega arith)

-- a change within the limits is made
judged-made : (words values : List ℕ) (m : Message) → value_total m ≤ 8192 → field_total m ≤ 1024 → judged words values true m ≡ after Made (words_of m) (value_bytes_of m)
unfolding judged
judged-made words values m small few = rw (le-leb _ _ small, le-leb _ _ few)

made : {r s : Change} {w v x y : List ℕ} → after r w v ≡ after s x y → (r ≡ s) × (w ≡ x) × (v ≡ y)
made e = (cc, cc, cc)

module _ (part : Part) (tag : ℕ) (value words values : List ℕ) (m : Message) (lends : Lends words values m) (some : tag ≡ 0 → ⊥)
    (small : value_total (with_part part (stored tag value (part_of part m)) m) ≤ 8192) (few : field_total (with_part part (stored tag value (part_of part m)) m) ≤ 1024)
    (r : Change) (w v : List ℕ) (done : after r w v ≡ storing part tag value words values) where
  stored_is : after r w v ≡ after Made (words_of (with_part part (stored tag value (part_of part m)) m)) (value_bytes_of (with_part part (stored tag value (part_of part m)) m))
  stored_is =
      done ∙ store-on part tag words values value lends.is_message some
      ∙ rw lends.meant (judged-made words values (with_part part (stored tag value (part_of part m)) m) small few)

  pub store-leaves : (w ≡ words_of (with_part part (stored tag value (part_of part m)) m)) × (v ≡ value_bytes_of (with_part part (stored tag value (part_of part m)) m))
  store-leaves = let e = made stored_is in (e.1, e.2)

  pub store-meant : Lends w v (with_part part (stored tag value (part_of part m)) m)
  store-meant =
      let e = made stored_is in
      let l = (store_lends part tag words values value w v (sym done ∙ ap (λ (c : Change). after c w v) e.0)).1 in
      rw lends.meant at l

  pub store-blank : Blank true w v
  store-blank = left-blank true w v _ store-meant.meant store-leaves.0 store-leaves.1

-- the trailer's 10 is dropped
module _ (words values : List ℕ) (m : Message) (lends : Lends words values m) where
  removed-made : (r : Change) (w v : List ℕ) → after r w v ≡ removing Trailer 10 words values → r ≡ Made
  removed-made r w v done = (made (done ∙ remove-made Trailer 10 words values lends.is_message)).0

  pub drop-meant : (r : Change) (w v : List ℕ) → after r w v ≡ removing Trailer 10 words values → Lends w v (dropped m)
  unfolding dropped with_part part_of
  drop-meant r w v done =
      let e = removed-made r w v done in
      let l = (remove_lends Trailer 10 words values w v (sym done ∙ ap (λ (c : Change). after c w v) e)).1 in
      rw lends.meant at l

  pub drop-blank : (r : Change) (w v : List ℕ) → after r w v ≡ removing Trailer 10 words values → Blank true w v
  drop-blank r w v done =
      let e = made (done ∙ remove-made Trailer 10 words values lends.is_message) in
      let x = with_part Trailer (without_field 10 (part_of Trailer (message_in words values))) (message_in words values) in
      let same : message_in w v ≡ x = (drop-meant r w v done).meant ∙ (unfold dropped with_part part_of in rw lends.meant) in
      left-blank true w v x same e.1 e.2

-- the bytes that are written, and the digits among them
module _ (separator : ℕ) (m : Message) where
  -- it has room for what is written
  module _ (words values output : List ℕ) (lends : Lends words values (measured (dropped m))) where
    pub has_room : (n : ℕ) → length (encoding separator m) ≤ n → length (message_text separator (message_in words values)) + 7 ≤ n
    unfolding encoding
    has_room n room = rw lends.meant (omega (arith, summed-length separator (message_text separator (measured (dropped m)))))

    pub writes : length (encoding separator m) ≤ length output → (n : ℕ) (o : List ℕ)
        → n ≡ length (message_text separator (message_in words values)) + 7 → o ≡ written_at 0 (summed separator (message_text separator (message_in words values))) output
        → (n ≡ length (encoding separator m)) × (o ≡ encoding separator m ++ drop (length (encoding separator m)) output)
    unfolding encoding
    writes room n o size done =
        let what = encoding separator m in
        let z : 0 + length what ≡ length what = omega arith in
        let same : o ≡ written_at 0 what output = rw lends.meant at done in
        (rw lends.meant at size ∙ sym (summed-length separator (message_text separator (measured (dropped m)))), same ∙ written_fits 0 what output (omega arith) ∙ rw z)

  pub sum-read : (rest : List ℕ) (size first last : ℕ) → size ≡ length (encoding separator m) → first ≡ size - 4 → last ≡ size - 1
      → take (last - first) (drop first (encoding separator m ++ rest)) ≡ sum_digits (message_text separator (measured (dropped m)))
  unfolding encoding summed
  sum-read rest size first last s f l =
      let text = message_text separator (measured (dropped m)) in
      let digits = sum_digits text in
      let front : List ℕ = text ++ (49 ∷ 48 ∷ 61 ∷ []) in
      let three = sum-size text in
      let total = summed-length separator text in
      let whole : (text ++ (49 ∷ 48 ∷ 61 ∷ (digits ++ (separator ∷ [])))) ++ rest ≡ front ++ (digits ++ (separator ∷ rest)) = simp append_assoc in
      ap (λ (t : List ℕ). take (last - first) (drop first t)) whole
      ∙ ap (take (last - first)) (drop_at front (digits ++ (separator ∷ rest)) first (omega (arith, length-append text (49 ∷ 48 ∷ 61 ∷ []))))
      ∙ take_at digits (separator ∷ rest) (last - first) (omega arith)

-- the steps, of a message that was found fit
module _ (separator : ℕ) (words values output : List ℕ) (body : ℕ) (fit : Encodable separator words values output body) where
  pub after-drop : (r : Change) (w v : List ℕ) → after r w v ≡ removing Trailer 10 words values → Lends w v (dropped (message_in words values))
  after-drop = drop-meant words values (message_in words values) (record { is_message = fit.message; meant = refl })

  pub blank-drop : (r : Change) (w v : List ℕ) → after r w v ≡ removing Trailer 10 words values → Blank true w v
  blank-drop = drop-blank words values (message_in words values) (record { is_message = fit.message; meant = refl })

  module _ (w v : List ℕ) (lends : Lends w v (dropped (message_in words values))) (r : Change) (x y : List ℕ) (done : after r x y ≡ storing Header 9 (decimal body) w v) where
    same : with_part Header (stored 9 (decimal body) (part_of Header (dropped (message_in words values)))) (dropped (message_in words values)) ≡ measured (dropped (message_in words values))
    unfolding with_part part_of measured
    same = rw fit.measured

    pub after-length : Lends x y (measured (dropped (message_in words values)))
    after-length =
        let m = message_in words values in
        rw (← same)
        (store-meant Header 9 (decimal body) w v (dropped m) lends (λ e. omega arith)
        (rw same (omega (arith, measured-values separator m, fit.short))) (rw same (omega (arith, measured-fields separator m, fit.few))) r x y done)

    pub blank-length : Blank true x y
    blank-length =
        let m = message_in words values in
        store-blank Header 9 (decimal body) w v (dropped m) lends (λ e. omega arith)
        (rw same (omega (arith, measured-values separator m, fit.short))) (rw same (omega (arith, measured-fields separator m, fit.few))) r x y done

  pub after-sum : (w v : List ℕ) → Lends w v (measured (dropped (message_in words values))) → (digits : List ℕ) → digits ≡ sum_digits (message_text separator (measured (dropped (message_in words values)))) → (r : Change) (x y : List ℕ)
      → after r x y ≡ storing Trailer 10 digits w v → (x ≡ words_of (encoded_message separator (message_in words values))) × (y ≡ value_bytes_of (encoded_message separator (message_in words values)))
  after-sum w v lends digits sum r x y done =
      let m = message_in words values in
      let same : with_part Trailer (stored 10 digits (part_of Trailer (measured (dropped m)))) (measured (dropped m)) ≡ encoded_message separator m = unfold with_part part_of encoded_message in rw sum in
      let l = store-leaves Trailer 10 digits w v (measured (dropped m)) lends (λ e. omega arith) (rw same (omega (arith, encoded-values separator m, fit.short))) (rw same fit.few) r x y done in
      (l.0 ∙ ap words_of same, l.1 ∙ ap value_bytes_of same)

  pub all_left : (n : ℕ) (w v o : List ℕ) → n ≡ length (encoding separator (message_in words values)) → w ≡ words_of (encoded_message separator (message_in words values)) → v ≡ value_bytes_of (encoded_message separator (message_in words values))
      → o ≡ encoding separator (message_in words values) ++ drop (length (encoding separator (message_in words values))) output → left (Encoded-Written n) w v o ≡ encoded separator (message_in words values) output
  unfolding encoded
  all_left n w v o a b c d = rw (a, b, c, d)
