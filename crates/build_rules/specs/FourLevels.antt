-- A message of a dictionary that passes is read to the bottom of its layout: its groups nest four deep at most (35), so wherever reading
-- comes in the run of a count of its body, four levels hold all that is open and all that may open.
use Rattle.std.specs.Prelude.{◌≡◌, Bool, List, [], ◌∷◌, ◌++◌, ℕ}
use Rattle.field_rules.specs.Fields.{Fields}
use Rattle.dictionary_layout_rules.specs.Layout.{Layout, group_of}
use Rattle.dictionary_layout_rules.specs.Layout.{entries as entries-of}
use Rattle.dictionary_layout_rules.specs.Tree.{laid_out, layout_of}
use Rattle.dictionary_rules.specs.Check.{check_of}
use Rattle.dictionary_rules.specs.declared.Checked.TheVariants.{Passes}
use Rattle.dictionary_meaning_rules.specs.Meaning.{dictionary_of}
use Rattle.dictionary_meaning_rules.proofs.TreeBounds.{message_bounded}
use Rattle.build_group_rules.specs.Groups.{count, counting, OpenGroup, OpenEntry, Frame, run, outermost, entry, Store}
use Rattle.build_group_rules.specs.Reading.{opened_as, layout_rules}
use Rattle.build_group_rules.proofs.FourLevels.{ComesTo, WithinFour, run-within, nested-runs}

module _ (bytes : List ℕ) (passes : check_of bytes ≡ Passes) (msg_type : List ℕ) (layout : Layout) (laid : layout_of (dictionary_of bytes) msg_type ≡ laid_out layout) (accepts : ℕ → Bool) {S W : Type 0} (store : Store S W) (tag : ℕ) (inner : Layout) (counts : group_of tag layout ≡ entries-of inner) {room : ℕ} {s : S} {fields : Fields} where
  pub message-within : (later : List (Frame Layout)) → ComesTo (layout_rules accepts) store room (run (outermost tag inner) 0 ∷ []) s fields later
      → WithinFour later
  message-within later comes = run-within accepts store layout (message_bounded bytes passes msg_type layout laid).shallow tag inner counts later comes

  -- so a nested count always starts a nested run
  pub message-runs : (above below : List (Frame Layout)) (group : OpenGroup Layout) (own : OpenEntry)
      → ComesTo (layout_rules accepts) store room (run (outermost tag inner) 0 ∷ []) s fields (above ++ (entry group own ∷ below))
      → (wanted : ℕ) (nested : Layout) → group_of wanted group.level ≡ entries-of nested → (position : ℕ)
      → counting group.depth position (opened_as (group_of wanted group.level)) ≡ count nested position
  message-runs above below group own comes wanted nested e position =
      nested-runs accepts store layout (message_bounded bytes passes msg_type layout laid).shallow tag inner counts above below group own comes wanted nested e position
