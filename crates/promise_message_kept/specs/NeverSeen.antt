-- WHAT STANDS BEHIND THE ROWS AND BEHIND THE VALUES IS NEVER LOOKED AT: on two memories that lay out the same message a call answers the same
-- and finds the same, and where it changes the message and answers 0 it leaves the same words and the same values.
use Rattle.std.specs.Prelude.{◌≡◌, refl, Bool, false, List, ℕ, length, leb, eqb, Result, Ok, Err}
use Rattle.std.proofs.Common.{sym, ◌∙◌, subst}
use Rattle.std.proofs.Math.Bool.{true}
use native.Mathlib.Omega.{arith}
use borrow.Author.Tests.{eq-eqb}
use Rattle.field_rules.specs.Choice.{pick}
use Rattle.build_records.specs.Records.{records_of, between}
use Rattle.message_maps.specs.Map.{without_field, stored}
use Rattle.message_maps.specs.Rows.{message_words}
use Rattle.message_lent_rules.specs.Lent.{is_message}
use Rattle.message_lent_rules.specs.StandLaws.{never}
use Rattle.message_lent_rules.specs.Meaning.{Message, parts, LaysOut, words_of, value_bytes_of, message_in}
use Rattle.message_lent_rules.proofs.MeantLaws.{message-meant}
use Rattle.message_lent_rules.specs.Formed.{Within}
use Rattle.message_lent_rules.proofs.FormedLaws.{lent_formed, lays_message}
use Rattle.message_take_over.specs.Taking.{Layout, laid_out, no_records, layout_from, AfterTaking, judged as judged_taking, taking_over, number_of_taken}
use Rattle.message_take_over.specs.Taking as taking
use Rattle.message_take_over.specs.declared.Taken.TheVariants as was-taken
use Rattle.message_rules.specs.Changes.{After, after, number_of_change, part_of, with_part, field_total, value_total, judged_by, judged, of_message, of_store, emptying, new_message, making, storing, removing}
use Rattle.message_rules.specs.ChangeLaws.{empty-made}
use Rattle.message_rules.specs.Runs.{is_draft, run_in, of_draft, has_untagged, is_whole, hung_run, hanging}
use Rattle.message_rules.specs.LookUps.{part_found, field_found, entry_found}
use Rattle.message_rules.specs.declared.Part.{Part}
use Rattle.message_rules.specs.declared.Change.{Change}
use Rattle.message_rules.specs.declared.Change.TheVariants.{Made, NoMessage, NotStorable, NoRun, TooManyFields}
use Rattle.encode_rules.specs.Encode.{encode_verdict, encoding_of, number_of_encoding}
use Rattle.encode_rules.specs.declared.Encoding.{Encoding}
use Rattle.encode_rules.specs.declared.Encoding.TheVariants as encoding
use Rattle.encoder.specs.VerdictLaws.{encodes, refuses}
use Rattle.encoder.specs.EncodedLaws.{never_written}
use Rattle.promise_message_kept.specs.Calls.{Outcome, changed, taken, written, Call, empty, new, take-over, store, remove, hang, encode, find_part, find_field, find_entry, called, changes}
use Rattle.promise_message_kept.specs.Keeping.{number-made}

-- two outcomes of a call: the same, or the same answer with each memory as it was; that, where 0 is answered, of a look-up alone
pub data Alike (change : Bool) (words values words' values' : List ℕ) : Outcome → Outcome → Type 0 where
  alike_made : (o : Outcome) → Alike change words values words' values' o o
  alike_still : (answer : ℕ) → (change ≡ true → answer ≡ 0 → ⊥)
      → Alike change words values words' values' (record { answer = answer; words = words; values = values }) (record { answer = answer; words = words'; values = values' })

-- the outcomes of a change, and of taking over
pub data Same (words values words' values' : List ℕ) : After → After → Type 0 where
  same-made : (w v : List ℕ) → Same words values words' values' (after Made w v) (after Made w v)
  same-refused : (r : Change) → (r ≡ Made → ⊥) → Same words values words' values' (after r words values) (after r words' values')

data SameTaken (words values words' values' : List ℕ) : AfterTaking → AfterTaking → Type 0 where
  taken_made : (w v : List ℕ) → SameTaken words values words' values' (taking.after was-taken.Made w v) (taking.after was-taken.Made w v)
  taken_none : SameTaken words values words' values' (taking.after was-taken.NoMessage words values) (taking.after was-taken.NoMessage words' values')

-- a refusal isn't 0
module _ (separator : ℕ) (words values : List ℕ) (room : ℕ) where
  not_written : (r : Encoding) → encode_verdict separator words values room ≡ Err r → number_of_encoding r ≡ 0 → ⊥
  unfolding number_of_encoding
  not_written (encoding.Written n) d e = never_written separator words values room n d
  not_written encoding.NoMessage d e = omega arith
  not_written encoding.InvalidSeparator d e = omega arith
  not_written encoding.Incomplete d e = omega arith
  not_written encoding.TooLong d e = omega arith
  not_written encoding.TooManyFields d e = omega arith
  not_written encoding.NoRoom d e = omega arith

module _ (words values words' values' : List ℕ) where
  pub same_by : (b : Bool) {x y x' y' : After} → Same words values words' values' x x' → Same words values words' values' y y' → Same words values words' values' (pick b x y) (pick b x' y')
  same_by true s t = s
  same_by false s t = t

  pub no_message : Same words values words' values' (after NoMessage words values) (after NoMessage words' values')
  no_message = same-refused NoMessage (λ e. let z : ◌≡◌ {A = ℕ} 0 1 = cc in omega arith)

  pub not_storable : Same words values words' values' (after NotStorable words values) (after NotStorable words' values')
  not_storable = same-refused NotStorable (λ e. let z : ◌≡◌ {A = ℕ} 0 1 = cc in omega arith)

  pub same-judged : (size : ℕ) (whole : Bool) (fields : ℕ) (w v : List ℕ) → Same words values words' values' (judged_by words values size whole fields w v) (judged_by words' values' size whole fields w v)
  same-judged size whole fields w v =
      same_by (leb size 8192)
      (same_by whole
      (same_by (leb fields 1024) (same-made w v) (same-refused TooManyFields (λ e. let z : ◌≡◌ {A = ℕ} 0 1 = cc in omega arith)))
      (same-refused NoRun (λ e. let z : ◌≡◌ {A = ℕ} 0 1 = cc in omega arith)))
      not_storable

  message-judged : (whole : Bool) (m : Message) → Same words values words' values' (judged words values whole m) (judged words' values' whole m)
  unfolding judged
  message-judged whole m = same-judged (value_total m) whole (field_total m) (words_of m) (value_bytes_of m)

  pub change_alike : {o p : After} → Same words values words' values' o p → Alike true words values words' values' (changed o) (changed p)
  unfolding changed
  change_alike (same-made w v) = alike_made _
  change_alike (same-refused r refused) = alike_still (number_of_change r) (λ change e. refused (number-made r e))

  taken_by : (b : Bool) {x y x' y' : AfterTaking} → SameTaken words values words' values' x x' → SameTaken words values words' values' y y' → SameTaken words values words' values' (pick b x y) (pick b x' y')
  taken_by true s t = s
  taken_by false s t = t

  taken-judged : (layout : Layout) → SameTaken words values words' values' (judged_taking words values layout) (judged_taking words' values' layout)
  unfolding judged_taking
  taken-judged no_records = taken_none
  taken-judged (laid_out w v) = taken_by (is_message w v) (taken_made w v) taken_none

  taken_alike : {o p : AfterTaking} → SameTaken words values words' values' o p → Alike true words values words' values' (taken o) (taken p)
  unfolding taken number_of_taken
  taken_alike (taken_made w v) = alike_made _
  taken_alike taken_none = alike_still 27 (λ change e. omega arith)

  -- the same message is lent, or none
  module _ (m : Message) (l : LaysOut (parts m) words values) (l' : LaysOut (parts m) words' values') where
    same-message : message_in words values ≡ message_in words' values'
    same-message = message-meant m words values l ∙ sym (message-meant m words' values' l')

    same_test : is_message words values ≡ is_message words' values'
    same_test = by_tests (is_message words values) (is_message words' values') refl refl
      where
        lent : (w v x y : List ℕ) → LaysOut (parts m) w v → LaysOut (parts m) x y → is_message w v ≡ true → is_message x y ≡ true
        lent w v x y k n h =
            let within : Within m = subst Within (message-meant m w v k) (lent_formed w v h) in
            lays_message m x y n within.formed within.few

        by_tests : (a b : Bool) → is_message words values ≡ a → is_message words' values' ≡ b → a ≡ b
        by_tests true b h k = sym (lent words values words' values' l l' h) ∙ k
        by_tests false true h k = sym h ∙ lent words' values' words values l' l k
        by_tests false false h k = refl

    -- what is looked up is the same
    pub part_alike : (part : Part) → part_found part words values ≡ part_found part words' values'
    unfolding part_found
    part_alike part = rw (same_test, same-message)

    pub field_alike : (row tag : ℕ) → field_found row tag words values ≡ field_found row tag words' values'
    unfolding field_found
    field_alike row tag = rw (same_test, same-message)

    pub entry_alike : (row start number : ℕ) → entry_found row start number words values ≡ entry_found row start number words' values'
    unfolding entry_found
    entry_alike row start number = rw (same_test, same-message)

    empty_alike : Same words values words' values' (emptying words values) (emptying words' values')
    empty_alike = rw (empty-made words values l.words_lent l.values-lent, empty-made words' values' l'.words_lent l'.values-lent) (same-made _ _)

    new_alike : (begin_string message_type : List ℕ) → Same words values words' values' (making begin_string message_type words values) (making begin_string message_type words' values')
    unfolding making of_store
    new_alike begin_string message_type =
        rw (eq-eqb (length words) message_words l.words_lent, eq-eqb (length words') message_words l'.words_lent, eq-eqb (length values) 8192 l.values-lent, eq-eqb (length values') 8192 l'.values-lent)
        (message-judged true (new_message begin_string message_type))

    take_alike : (records : List ℕ) (count : ℕ) (bytes : List ℕ) → SameTaken words values words' values' (taking_over records count bytes words values) (taking_over records count bytes words' values')
    unfolding taking_over
    take_alike records count bytes =
        rw (eq-eqb (length words) message_words l.words_lent, eq-eqb (length words') message_words l'.words_lent, eq-eqb (length values) 8192 l.values-lent, eq-eqb (length values') 8192 l'.values-lent)
        (taken_by (leb count (length (records_of records))) (taken_by (leb count 1024) (taken-judged (layout_from bytes (between 0 count (records_of records)))) taken_none) taken_none)

    store_alike : (part : Part) (tag : ℕ) (value : List ℕ) → Same words values words' values' (storing part tag value words values) (storing part tag value words' values')
    unfolding storing of_message
    store_alike part tag value =
        let n = message_in words' values' in
        rw (same_test, same-message) (same_by (is_message words' values') (same_by (eqb tag 0) not_storable (message-judged true (with_part part (stored tag value (part_of part n)) n))) no_message)

    remove_alike : (part : Part) (tag : ℕ) → Same words values words' values' (removing part tag words values) (removing part tag words' values')
    unfolding removing of_message
    remove_alike part tag =
        let n = message_in words' values' in
        rw (same_test, same-message) (same_by (is_message words' values') (message-judged true (with_part part (without_field tag (part_of part n)) n)) no_message)

    hang_alike : (part : Part) (run_words run_values : List ℕ) → Same words values words' values' (hanging part run_words run_values words values) (hanging part run_words run_values words' values')
    unfolding hanging of_message of_draft
    hang_alike part run_words run_values =
        let n = message_in words' values' in
        let run = run_in run_words run_values in
        rw (same_test, same-message)
        (same_by (is_message words' values')
        (same_by (is_draft run_words run_values) (same_by (has_untagged run) not_storable (message-judged (is_whole run) (with_part part (hung_run run (part_of part n)) n))) no_message)
        no_message)

    encode_alike : (separator : ℕ) (output : List ℕ) → Alike true words values words' values' (written (encoding_of separator words values output)) (written (encoding_of separator words' values' output))
    encode_alike separator output = by_verdict (encode_verdict separator words values (length output)) refl
      where
        same-verdict : encode_verdict separator words values (length output) ≡ encode_verdict separator words' values' (length output)
        same-verdict = unfold encode_verdict in rw (same_test, same-message)

        by_verdict : (d : Result ℕ Encoding) → encode_verdict separator words values (length output) ≡ d
            → Alike true words values words' values' (written (encoding_of separator words values output)) (written (encoding_of separator words' values' output))
        by_verdict (Err r) d =
            rw (refuses separator words values output r d, refuses separator words' values' output r (sym same-verdict ∙ d))
            (unfold written in alike_still (number_of_encoding r) (λ change e. not_written separator words values (length output) r d e))
        by_verdict (Ok body) d =
            rw (encodes separator words values output body d, encodes separator words' values' output body (sym same-verdict ∙ d), same-message) (alike_made _)

    -- the law, for each call
    pub never_seen : (c : Call) → Alike (changes c) words values words' values' (called c words values) (called c words' values')
    unfolding called changes
    never_seen empty = change_alike empty_alike
    never_seen (new begin_string message_type) = change_alike (new_alike begin_string message_type)
    never_seen (take-over records count bytes) = taken_alike (take_alike records count bytes)
    never_seen (store part tag value) = change_alike (store_alike part tag value)
    never_seen (remove part tag) = change_alike (remove_alike part tag)
    never_seen (hang part run_words run_values) = change_alike (hang_alike part run_words run_values)
    never_seen (encode separator output) = encode_alike separator output
    never_seen (find_part part) = rw (part_alike part) (alike_still _ (λ change e. never (sym change)))
    never_seen (find_field row tag) = rw (field_alike row tag) (alike_still _ (λ change e. never (sym change)))
    never_seen (find_entry row start number) = rw (entry_alike row start number) (alike_still _ (λ change e. never (sym change)))
