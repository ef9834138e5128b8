-- THE MEMORY OF A MESSAGE: what a call leaves where it answers 0 is a message, every call keeps it one, and no later call on it answers 27.
-- Behind the rows and behind the values a change leaves zeros, so that all that it leaves is fixed by the message.
use Rattle.std.specs.Prelude.{◌≡◌, refl, true, false, List, [], ◌∷◌, ℕ}
use Rattle.std.proofs.Common.{sym, ◌∙◌, subst, ⊎_elim}
use Rattle.message_lent_rules.specs.Lent.{is_message}
use Rattle.message_lent_rules.specs.LentLaws.{message-held}
use Rattle.message_lent_rules.specs.StandLaws.{never}
use Rattle.message_lent_rules.specs.Meaning.{Message, message_in}
use Rattle.message_lent_rules.proofs.FormedLaws.{IsLayout, is_layout_lends}
use Rattle.message_rules.specs.Answered.{NotLent}
use Rattle.message_rules.proofs.FormedLaws.{empty-answered, new-answered, store-answered, remove-answered}
use Rattle.message_rules.proofs.DraftLaws.{hang-answered}
use Rattle.message_rules.specs.Runs.{is_draft}
use Rattle.message_rules.specs.declared.Part.{Part}
use Rattle.promise_message_kept.specs.Calls.{Outcome, Call, empty, new, take-over, store, remove, hang, encode, find_part, find_field, find_entry, called, changes, Fit, called_all}
use Rattle.promise_message_kept.specs.Keeping.{Keeps, change_keeps}
use Rattle.promise_message_kept.specs.TakenKept.{taken-kept}
use Rattle.promise_message_kept.specs.EncodedKept.{encoded-kept}
use Rattle.promise_message_kept.specs.FoundKept.{part-kept, field-kept, entry_kept}

-- a call that changes the message leaves the layout of the message that words and values then mean, with zeros behind it
unfoldable pub Zeroed : Call → List ℕ → List ℕ → Type 0
Zeroed c w v = changes c ≡ true → IsLayout (message_in w v) w v

zeroed_by : (c : Call) (m : Message) (w v : List ℕ) → IsLayout m w v → Zeroed c w v
unfolding Zeroed
zeroed_by c m w v l change = subst (λ (n : Message). IsLayout n w v) (sym (is_layout_lends m w v l).meant) l

-- a look-up changes nothing
unchanged : (c : Call) → changes c ≡ false → (w v : List ℕ) → Zeroed c w v
unfolding Zeroed
unchanged c none w v change = never (sym change ∙ none)

layout_left : (c : Call) (m : Message) (w v : List ℕ) → IsLayout m w v → (is_message w v ≡ true) × Zeroed c w v
layout_left c m w v l = ((is_layout_lends m w v l).is_message, zeroed_by c m w v l)

-- a message that is lent has its lengths
lent_long : (words values : List ℕ) → is_message words values ≡ true → NotLent words values → ⊥
unfolding NotLent
lent_long words values h other = let l = (message-held words values h).laid in other l.whole l.store

-- what is hung is a draft
hung_fit : (part : Part) (run_words run_values : List ℕ) → Fit (hang part run_words run_values) → is_draft run_words run_values ≡ true
unfolding Fit
hung_fit part run_words run_values f = f

pub call_keeps : (c : Call) (words values : List ℕ) → Keeps is_message (Zeroed c) (Fit c) words values (called c words values)
unfolding called
call_keeps empty words values = change_keeps _ _ _ (empty-answered words values) (layout_left empty _) (λ h f other. lent_long words values h other)
call_keeps (new begin_string message_type) words values =
    change_keeps _ _ _ (new-answered words values begin_string message_type) (layout_left (new begin_string message_type) _) (λ h f other. lent_long words values h other)
call_keeps (take-over records count bytes) words values =
    unfold Fit in taken-kept records count bytes words values (Zeroed (take-over records count bytes)) (λ w v l. unfold Zeroed in λ change. l)
call_keeps (store part tag value) words values =
    change_keeps _ _ _ (store-answered part tag words values value) (λ w v l. layout_left (store part tag value) _ w v l.1) (λ h f other. never (sym h ∙ other))
call_keeps (remove part tag) words values =
    change_keeps _ _ _ (remove-answered part tag words values) (λ w v l. layout_left (remove part tag) _ w v l.1) (λ h f other. never (sym h ∙ other))
call_keeps (hang part run_words run_values) words values =
    change_keeps _ _ _ (hang-answered words values run_words run_values part) (λ w v l. layout_left (hang part run_words run_values) _ w v l.2)
    (λ h f other. ⊎_elim (λ q. never (sym h ∙ q)) (λ q. never (sym (hung_fit part run_words run_values f) ∙ q)) other)
call_keeps (encode separator output) words values = encoded-kept separator words values output _ _ (zeroed_by (encode separator output))
call_keeps (find_part part) words values = part-kept words values _ _ (unchanged (find_part part) (unfold changes in refl)) part
call_keeps (find_field row tag) words values = field-kept words values _ _ (unchanged (find_field row tag) (unfold changes in refl)) row tag
call_keeps (find_entry row start number) words values = entry_kept words values _ _ (unchanged (find_entry row start number) (unfold changes in refl)) row start number

-- WHERE A CALL ANSWERS 0 IT LEAVES A MESSAGE
pub made-message : (c : Call) (words values : List ℕ) → (called c words values).answer ≡ 0 → is_message (called c words values).words (called c words values).values ≡ true
made-message c words values = (call_keeps c words values).made

-- A MESSAGE STAYS ONE, WHATEVER A CALL ANSWERS
pub message_kept : (c : Call) (words values : List ℕ) → is_message words values ≡ true → is_message (called c words values).words (called c words values).values ≡ true
message_kept c words values = (call_keeps c words values).kept

-- A CALL ON A MESSAGE DOESN'T ANSWER 27, where what else is lent is fit
pub message-taken : (c : Call) (words values : List ℕ) → is_message words values ≡ true → Fit c → (called c words values).answer ≡ 27 → ⊥
message-taken c words values = (call_keeps c words values).taken

-- WHERE A CALL THAT CHANGES THE MESSAGE ANSWERS 0 IT LEAVES ZEROS BEHIND THE ROWS AND BEHIND THE VALUES
pub message_zeroed : (c : Call) (words values : List ℕ) → changes c ≡ true → (called c words values).answer ≡ 0
    → IsLayout (message_in (called c words values).words (called c words values).values) (called c words values).words (called c words values).values
message_zeroed c words values change made = unfold Zeroed in ((call_keeps c words values).zeros made change)

all-kept : (calls : List Call) (o : Outcome) → is_message o.words o.values ≡ true → is_message (called_all calls o).words (called_all calls o).values ≡ true
unfolding called_all
all-kept [] o h = h
all-kept (c ∷ calls) o h = all-kept calls (called c o.words o.values) (message_kept c o.words o.values h)

-- AFTER AN ANSWER OF 0 NO CALL ON THE SAME MEMORY ANSWERS 27, whatever calls come between
pub never_again : (c : Call) (words values : List ℕ) → (called c words values).answer ≡ 0 → (between : List Call) (d : Call) → Fit d
    → (called d (called_all between (called c words values)).words (called_all between (called c words values)).values).answer ≡ 27 → ⊥
never_again c words values made between d fit =
    message-taken d _ _ (all-kept between (called c words values) (made-message c words values made)) fit
