-- THE MEMORY OF A DRAFT: what a call leaves where it answers 0 is a draft, every call keeps it one, and no later call on it answers 27; so a
-- draft that was made by calls is one that may be hung. Behind the rows and behind the values stand zeros.
use Rattle.std.specs.Prelude.{◌≡◌, true, List, [], ◌∷◌, ℕ}
use Rattle.std.proofs.Common.{sym, ◌∙◌, subst, ⊎_elim}
use Rattle.message_maps.specs.Map.{Map}
use Rattle.message_lent_rules.specs.StandLaws.{never}
use Rattle.message_rules.specs.Runs.{is_draft, run_in}
use Rattle.message_rules.proofs.Drafts.{IsRunLayout, run_layout_lends, run_layout}
use Rattle.message_rules.specs.Answered.{NotLent}
use Rattle.message_rules.proofs.DraftLaws.{start-answered, enter_answered, store-last-answered, hang-last-answered}
use Rattle.promise_message_kept.specs.Calls.{Outcome, DraftCall, start, add-entry, store-last, hang-last, called_draft, FitDraft, called_all_draft}
use Rattle.promise_message_kept.specs.Keeping.{Keeps, change_keeps}

-- the layout of the run that words and values mean, with zeros behind it
unfoldable pub Zeroed : List ℕ → List ℕ → Type 0
Zeroed w v = IsRunLayout (run_in w v) w v

layout_left : (run : Map) (w v : List ℕ) → IsRunLayout run w v → (is_draft w v ≡ true) × Zeroed w v
unfolding Zeroed
layout_left run w v l =
    let lends = run_layout_lends run w v l in
    (lends.is_draft, subst (λ (r : Map). IsRunLayout r w v) (sym lends.meant) l)

lent_long : (words values : List ℕ) → is_draft words values ≡ true → NotLent words values → ⊥
unfolding NotLent
lent_long words values h other = let l = run_layout words values h in other l.words_lent l.values-lent

-- what is hung is a draft
hung_fit : (run_words run_values : List ℕ) → FitDraft (hang-last run_words run_values) → is_draft run_words run_values ≡ true
unfolding FitDraft
hung_fit run_words run_values f = f

pub draft_call_keeps : (c : DraftCall) (words values : List ℕ) → Keeps is_draft Zeroed (FitDraft c) words values (called_draft c words values)
unfolding called_draft
draft_call_keeps start words values = change_keeps _ _ _ (start-answered words values) (layout_left _) (λ h f other. lent_long words values h other)
draft_call_keeps (add-entry s d) words values =
    change_keeps _ _ _ (enter_answered words values s d) (λ w v l. layout_left _ w v l.1) (λ h f other. never (sym h ∙ other))
draft_call_keeps (store-last tag value) words values =
    change_keeps _ _ _ (store-last-answered words values tag value) (λ w v l. layout_left _ w v l.1) (λ h f other. never (sym h ∙ other))
draft_call_keeps (hang-last run_words run_values) words values =
    change_keeps _ _ _ (hang-last-answered words values run_words run_values) (λ w v l. layout_left _ w v l.2)
    (λ h f other. ⊎_elim (λ q. never (sym h ∙ q)) (λ q. never (sym (hung_fit run_words run_values f) ∙ q)) other)

-- WHERE A CALL ANSWERS 0 IT LEAVES A DRAFT, with zeros behind its rows and behind its values
pub made_draft : (c : DraftCall) (words values : List ℕ) → (called_draft c words values).answer ≡ 0 → is_draft (called_draft c words values).words (called_draft c words values).values ≡ true
made_draft c words values = (draft_call_keeps c words values).made

pub draft_zeroed : (c : DraftCall) (words values : List ℕ) → (called_draft c words values).answer ≡ 0
    → IsRunLayout (run_in (called_draft c words values).words (called_draft c words values).values) (called_draft c words values).words (called_draft c words values).values
draft_zeroed c words values made = unfold Zeroed in ((draft_call_keeps c words values).zeros made)

-- A DRAFT STAYS ONE, WHATEVER A CALL ANSWERS
pub draft_kept : (c : DraftCall) (words values : List ℕ) → is_draft words values ≡ true → is_draft (called_draft c words values).words (called_draft c words values).values ≡ true
draft_kept c words values = (draft_call_keeps c words values).kept

-- A CALL ON A DRAFT DOESN'T ANSWER 27, where a run that is to be hung in it is a draft too
pub draft_taken : (c : DraftCall) (words values : List ℕ) → is_draft words values ≡ true → FitDraft c → (called_draft c words values).answer ≡ 27 → ⊥
draft_taken c words values = (draft_call_keeps c words values).taken

all-kept : (calls : List DraftCall) (o : Outcome) → is_draft o.words o.values ≡ true → is_draft (called_all_draft calls o).words (called_all_draft calls o).values ≡ true
unfolding called_all_draft
all-kept [] o h = h
all-kept (c ∷ calls) o h = all-kept calls (called_draft c o.words o.values) (draft_kept c o.words o.values h)

-- AFTER AN ANSWER OF 0 A DRAFT IS LENT, whatever calls come between: none of them answers 27, and it may be hung
pub always_draft : (c : DraftCall) (words values : List ℕ) → (called_draft c words values).answer ≡ 0 → (between : List DraftCall)
    → is_draft (called_all_draft between (called_draft c words values)).words (called_all_draft between (called_draft c words values)).values ≡ true
always_draft c words values made between = all-kept between (called_draft c words values) (made_draft c words values made)

pub never_again_draft : (c : DraftCall) (words values : List ℕ) → (called_draft c words values).answer ≡ 0 → (between : List DraftCall) (d : DraftCall) → FitDraft d
    → (called_draft d (called_all_draft between (called_draft c words values)).words (called_all_draft between (called_draft c words values)).values).answer ≡ 27 → ⊥
never_again_draft c words values made between d fit = draft_taken d _ _ (always_draft c words values made between) fit
