-- Records that stand for a message within the limits are taken over as that message, and it has the records that were given.
use Rattle.std.specs.Prelude.{◌≡◌, true, ℕ, suc, ◌+◌, ◌-◌, ◌/◌, ◌≤◌, ◌<◌, length}
use Rattle.std.proofs.Math.Path.{refl, sym, ap}
use Rattle.std.proofs.Common.{◌∙◌, arith, length-append, eq-eqb, le-leb}
use mathlib.Core.List.{List, [], ◌∷◌, ◌++◌, append-nil}
use Rattle.build_records.specs.Records.{records_of, between, stride, value_at}
use Rattle.build_records.specs.declared.Record.{Record}
use Rattle.message_maps.specs.Map.{Map, field, entry, values_in}
use Rattle.message_maps.specs.Rows.{Row, row, laid, message_words}
use Rattle.message_lent_rules.specs.Meaning.{Message, parts, words_of, value_bytes_of}
use Rattle.message_lent_rules.specs.Formed.{Formed, Within}
use Rattle.message_lent_rules.proofs.FormedLaws.{layout_lends}
use Rattle.message_take_over.specs.declared.Taken.TheVariants.{Made}
use Rattle.message_take_over.specs.Taking.{is_next, are_next, part_heads, record_rows, rows_behind, rows_of, values_at, laid_out, layout_from, after, judged, taking_over}
use Rattle.message_take_over.specs.TakeLaws.{take-judged}
use Rattle.message_take_over.specs.Derived.{Valued, valued, entry_number, records_in, derived, given, Own, Stands, no_more, own, in_entry, StandFor}
use Rattle.message_take_over.specs.StandLaws.{passed}
use Rattle.message_take_over.specs.GoesLaws.{texts_append, stand_texts, Goes, part-goes}

-- the given records are those of the message
module _ (bytes : List ℕ) where
  given-append : (rs ss : List Record) → given bytes (rs ++ ss) ≡ given bytes rs ++ given bytes ss
  unfolding given
  given-append [] ss = refl
  given-append (r ∷ rs) ss = ap (λ (l : List Valued). valued r.part r.depth r.number r.tag (value_at bytes r) ∷ l) (given-append rs ss)

  given-one : {part depth number : ℕ} (r : Record) → Own bytes part depth number r → valued r.part r.depth r.number r.tag (value_at bytes r) ≡ valued part depth number r.tag (value_at bytes r)
  given-one {part} {depth} {number} r o =
      ap (λ (p : ℕ). valued p r.depth r.number r.tag (value_at bytes r)) o.of
      ∙ ap (λ (d : ℕ). valued part d r.number r.tag (value_at bytes r)) o.deep
      ∙ ap (λ (n : ℕ). valued part depth n r.tag (value_at bytes r)) o.numbered

  -- the records of a field and of an entry that goes on with its run
  field_records : (part depth number start entries t : ℕ) (v : List ℕ) (rest : Map) → records_in part depth number start entries (field t v rest) ≡ valued part depth number t v ∷ records_in part depth number t 0 rest
  unfolding records_in
  field_records part depth number start entries t v rest = refl

  entry_records : (part depth number start entries d : ℕ) (inner rest : Map)
      → records_in part depth number start entries (entry start d inner rest) ≡ records_in part (depth + 1) (entries + 1) 0 0 inner ++ records_in part depth number start (entries + 1) rest
  unfolding records_in entry_number
  entry_records part depth number start entries d inner rest = rw (eq-eqb start start refl)

  given-first : {part depth number : ℕ} (r : Record) (rs : List Record) (l : List Valued) → Own bytes part depth number r → given bytes rs ≡ l → given bytes (r ∷ rs) ≡ valued part depth number r.tag (value_at bytes r) ∷ l
  unfolding given
  given-first r rs l o e = ap (λ (t : List Valued). valued r.part r.depth r.number r.tag (value_at bytes r) ∷ t) e ∙ ap (λ (v : Valued). v ∷ l) (given-one r o)

  pub stand_given : {part depth number start entries : ℕ} {m : Map} {rs : List Record} → Stands bytes part depth number start entries m rs → given bytes rs ≡ records_in part depth number start entries m
  stand_given no_more = unfold records_in given in refl
  stand_given {part} {depth} {number} {start} {entries} (own {rest = rest} {rs = rs} r o more) = given-first r rs _ o (stand_given more) ∙ sym (field_records part depth number start entries r.tag (value_at bytes r) rest)
  stand_given {part} {depth} {number} {start} {entries} (in_entry {inner = inner} {rest = rest} {rs = rs} {ss = ss} r o in-it more) =
      given-append (r ∷ rs) ss
      ∙ ap (λ (l : List Valued). l ++ given bytes ss) (given-first r rs _ o (stand_given in-it) ∙ sym (field_records part (depth + 1) (entries + 1) 0 0 r.tag (value_at bytes r) inner))
      ∙ ap (λ (l : List Valued). records_in part (depth + 1) (entries + 1) 0 0 (field r.tag (value_at bytes r) inner) ++ l) (stand_given more)
      ∙ sym (entry_records part depth number start entries r.tag (field r.tag (value_at bytes r) inner) rest)

  pub given-derived : (m : Message) (rs : List Record) → StandFor bytes m rs → given bytes rs ≡ derived m
  unfolding derived
  given-derived m rs s =
      ap (given bytes) s.all ∙ given-append s.of_header (s.of_body ++ s.of_trailer)
      ∙ ap (λ (l : List Valued). given bytes s.of_header ++ l) (given-append s.of_body s.of_trailer)
      ∙ rw (stand_given s.header, stand_given s.body, stand_given s.trailer)

-- the first record is of a part or a later one, if there is any
pub data Later (part : ℕ) : List Record → Type 0 where
  later-none : Later part []
  later-some : {r : Record} {rs : List Record} → part ≤ r.part → Later part (r ∷ rs)

later-stands : {bytes : List ℕ} {part depth number start entries : ℕ} {m : Map} {rs : List Record} (least : ℕ) (tail : List Record) → least ≤ part → Stands bytes part depth number start entries m rs → Later least tail → Later least (rs ++ tail)
later-stands least tail h no_more l = l
later-stands least tail h (own {rs = rs} r o more) l = later-some {r = r} {rs = rs ++ tail} (omega (arith, o.of))
later-stands least tail h (in_entry {rs = rs} {ss = ss} r o inner more) l = later-some {r = r} {rs = (rs ++ ss) ++ tail} (omega (arith, o.of))

-- a part that is open, and the next
pub heads_open : (n part : ℕ) → part < n → part_heads (n - part) part ≡ row 2 0 (part + 1) 0 ∷ part_heads (n - (part + 1)) (part + 1)
unfolding part_heads
heads_open n part h = let e : n - part ≡ suc (n - (part + 1)) = omega arith in rw e

pub rows_open : (part : ℕ) (before rs : List Record) → part < 3 → Later (part + 1) rs → rows_behind part before rs ≡ row 2 0 (part + 1) 0 ∷ rows_behind (part + 1) before rs
unfolding rows_behind record_rows
rows_open part before [] h later-none = heads_open 3 part h
rows_open part before (r ∷ rs) h (later-some l) = rw (heads_open r.part part (omega arith))

pub next_open : (size part used : ℕ) (before rs : List Record) → Later (part + 1) rs → are_next size part used before rs ≡ are_next size (part + 1) used before rs
unfolding are_next is_next
next_open size part used before [] later-none = refl
next_open size part used before (r ∷ rs) (later-some l) = rw (le-leb part r.part (omega arith), le-leb (part + 1) r.part l)

-- the three parts, one behind the other
module _ (bytes : List ℕ) (m : Message) (h b t : List Record) (f : Formed m) (in_header : Stands bytes 1 0 0 0 0 m.header h) (in_body : Stands bytes 2 0 0 0 0 m.body b) (in_trailer : Stands bytes 3 0 0 0 0 m.trailer t) where
  last : Later 3 t
  last = rw (append-nil t) at (later-stands 3 [] (omega arith) in_trailer later-none)

  behind : Later 2 (b ++ t)
  behind = later-stands 2 t (omega arith) in_body (rw (append-nil t) at (later-stands 2 [] (omega arith) in_trailer later-none))

  headers : Goes bytes 1 (omega arith) [] h (laid 1 m.header)
  headers = part-goes bytes 1 (omega arith) in_header f.header []

  bodies : Goes bytes 2 (omega arith) (passed [] h) b (laid 1 m.body)
  bodies = part-goes bytes 2 (omega arith) in_body f.body (passed [] h)

  trailers : Goes bytes 3 (omega arith) (passed (passed [] h) b) t (laid 1 m.trailer)
  trailers = part-goes bytes 3 (omega arith) in_trailer f.trailer (passed (passed [] h) b)

  pub stand_rows : rows_of (h ++ (b ++ t)) ≡ laid 0 (parts m)
  unfolding rows_of parts laid
  stand_rows =
      let none : rows_behind 3 (passed (passed (passed [] h) b) t) [] ≡ [] = unfold rows_behind part_heads in refl in
      let third : rows_behind 3 (passed (passed [] h) b) t ≡ laid 1 m.trailer ++ [] = ap (rows_behind 3 (passed (passed [] h) b)) (sym (append-nil t)) ∙ trailers.rowed [] ∙ ap (λ (l : List Row). laid 1 m.trailer ++ l) none in
      let second : rows_behind 2 (passed [] h) (b ++ t) ≡ laid 1 m.body ++ (row 2 0 3 0 ∷ (laid 1 m.trailer ++ [])) =
      bodies.rowed t ∙ ap (λ (l : List Row). laid 1 m.body ++ l) (rows_open 2 (passed (passed [] h) b) t (omega arith) last ∙ ap (λ (l : List Row). row 2 0 3 0 ∷ l) third) in
      ap (λ (l : List Row). row 2 0 1 0 ∷ l)
      (headers.rowed (b ++ t) ∙ ap (λ (l : List Row). laid 1 m.header ++ l) (rows_open 1 (passed [] h) (b ++ t) (omega arith) behind ∙ ap (λ (l : List Row). row 2 0 2 0 ∷ l) second))

  pub stand_values : values_at bytes (h ++ (b ++ t)) ≡ values_in (parts m)
  unfolding parts values_in
  stand_values =
      texts_append bytes h (b ++ t) ∙ ap (λ (l : List ℕ). values_at bytes h ++ l) (texts_append bytes b t)
      ∙ rw (stand_texts bytes in_header, stand_texts bytes in_body, stand_texts bytes in_trailer, append-nil (values_in m.trailer))

  pub stand_next : length (values_at bytes (h ++ (b ++ t))) ≤ 8192 → are_next (length bytes) 1 0 [] (h ++ (b ++ t)) ≡ true
  stand_next small =
      let n₁ : length (values_at bytes (h ++ (b ++ t))) ≡ length (values_at bytes h) + length (values_at bytes (b ++ t)) = ap length (texts_append bytes h (b ++ t)) ∙ length-append (values_at bytes h) (values_at bytes (b ++ t)) in
      let n₂ : length (values_at bytes (b ++ t)) ≡ length (values_at bytes b) + length (values_at bytes t) = ap length (texts_append bytes b t) ∙ length-append (values_at bytes b) (values_at bytes t) in
      headers.nexts 0 (b ++ t) (omega (arith, n₁))
      ∙ next_open (length bytes) 1 _ (passed [] h) (b ++ t) behind
      ∙ bodies.nexts (0 + length (values_at bytes h)) t (omega (arith, n₁, n₂))
      ∙ next_open (length bytes) 2 _ (passed (passed [] h) b) t last
      ∙ ap (are_next (length bytes) 3 _ (passed (passed [] h) b)) (sym (append-nil t))
      ∙ trailers.nexts (0 + length (values_at bytes h) + length (values_at bytes b)) [] (omega (arith, n₁, n₂))
      ∙ (unfold are_next in refl)

-- the layout that is made is the message's
pub stand_layout : (bytes : List ℕ) (m : Message) (rs : List Record) → StandFor bytes m rs → Within m → layout_from bytes rs ≡ laid_out (words_of m) (value_bytes_of m)
unfolding layout_from words_of value_bytes_of
stand_layout bytes m rs s w =
    let h = s.of_header in
    let b = s.of_body in
    let t = s.of_trailer in
    let values = stand_values bytes m h b t w.formed s.header s.body s.trailer in
    let next = stand_next bytes m h b t w.formed s.header s.body s.trailer (omega (arith, ap length values, w.small)) in
    rw (s.all, next, stand_rows bytes m h b t w.formed s.header s.body s.trailer, values)

-- what stands for a message within the limits is never refused, and the message is left
pub stand_taken : (records : List ℕ) (count : ℕ) (bytes words values : List ℕ) (m : Message) → length words ≡ message_words → length values ≡ 8192 → count ≤ length records / stride → count ≤ 1024
    → StandFor bytes m (between 0 count (records_of records)) → Within m → taking_over records count bytes words values ≡ after Made (words_of m) (value_bytes_of m)
stand_taken records count bytes words values m whole store held few s w =
    take-judged records count bytes words values whole store held few
    ∙ ap (judged words values) (stand_layout bytes m (between 0 count (records_of records)) s w)
    ∙ (unfold judged in rw (layout_lends m w).is_message)
