-- The framer as bytes: what each call answers, and every byte of store and output that it leaves, for every input.
-- The framer's bytes are the first `used` of the store; a call moves what it keeps to the front and leaves the rest of the store.
use Rattle.std.specs.Prelude.{◌≡◌, Bool, true, List, ◌++◌, ℕ, eqb, ltb, length, take, drop}
use Rattle.field_rules.specs.Choice.{pick}
use Rattle.frame_verdict_rules.specs.Frame.{frame_most}
use Rattle.frame_verdict_rules.specs.Verdict.{verdict_of}
use Rattle.frame_hunter_rules.specs.Hunt.{Framer, framer, fresh_framer, store_size, Took, take_one, Given, accepted, refused, give_chunk, give_end}
use Rattle.frame_hunter_rules.specs.declared.State.{State}
use Rattle.frame_hunter_rules.specs.declared.Answer.{Answer}
use Rattle.frame_hunter_rules.specs.declared.Answer.TheVariants.{Fine, OutputShort, StoreFull, AfterEnd, BadStore}
use Rattle.frame_hunter_rules.specs.declared.Reply.{Reply}
use Rattle.frame_hunter_rules.specs.declared.Taken.{Taken}

-- RULES.md, Numbers
unfoldable pub number_of_hunter : Answer → ℕ
number_of_hunter Fine = 0
number_of_hunter OutputShort = 23
number_of_hunter StoreFull = 25
number_of_hunter AfterEnd = 26
number_of_hunter BadStore = 27

-- ---- framers and bytes

-- the framer that state and store hold
unfoldable pub framer_of : State → List ℕ → Framer
framer_of s store = framer (take s.used store) s.dropped s.ended

-- a framer as a state ..
unfoldable pub state_of : Framer → State
state_of f = record { used = length f.held; dropped = f.dropped; ended = f.ended }

-- .. and its bytes at the front of the store; what stood behind them stays
unfoldable pub stored_over : List ℕ → Framer → List ℕ
stored_over store f = f.held ++ drop (length f.held) store

-- "27: first: store not 16,384 bytes, used length past it"
unfoldable pub unfit : State → ℕ → Bool
unfit s size = pick (eqb size store_size) (ltb store_size s.used) true

-- ---- a chunk and the end

-- what such a call leaves
pub record Left : Type 0 where
  pub reply : Reply
  pub store : List ℕ

unfoldable pub left_by : State → List ℕ → Given → Left
left_by s store (accepted f) = record { reply = record { answer = Fine; state = state_of f }; store = stored_over store f }
left_by s store (refused a) = record { reply = record { answer = a; state = s }; store = store }

unfoldable pub pushed : State → List ℕ → List ℕ → Left
pushed s store chunk = left_by s store (pick (unfit s (length store)) (refused BadStore) (give_chunk chunk (framer_of s store)))

unfoldable pub finished : State → List ℕ → Left
finished s store = left_by s store (pick (unfit s (length store)) (refused BadStore) (give_end (framer_of s store)))

-- ---- a take

-- what a take leaves
pub record Handout : Type 0 where
  pub taken : Taken
  pub store : List ℕ
  pub output : List ℕ

unfoldable pub refused_take_lem : State → Answer → Taken
refused_take_lem s a = record { answer = a; length = 0; state = s }

unfoldable pub unmoved : State → List ℕ → List ℕ → Answer → Handout
unmoved s store output a = record { taken = refused_take_lem s a; store = store; output = output }

-- "A frame .. is written at the start of the output, its length returned, 0 if none is ready; the rest of the output stays."
unfoldable pub moved_by : List ℕ → List ℕ → Took → Handout
moved_by store output t = record {
  taken = record { answer = Fine; length = length t.frame; state = state_of t.after };
  store = stored_over store t.after;
  output = t.frame ++ drop (length t.frame) output;
}

-- "23: output .. under 8,192 bytes at any take"
unfoldable pub took_from : State → List ℕ → List ℕ → Handout
took_from s store output =
    pick (unfit s (length store)) (unmoved s store output BadStore)
    (pick (ltb (length output) frame_most) (unmoved s store output OutputShort) (moved_by store output (take_one verdict_of (framer_of s store))))

-- "Reset gives a fresh, empty state."
unfoldable pub fresh_state : State
fresh_state = state_of fresh_framer

-- ---- the contracts, as the calls and every sequence of calls cite them

-- a push of this chunk, of this state over this store, is answered by r and leaves store'
pub record Pushes (s : State) (store chunk : List ℕ) (r : Reply) (store' : List ℕ) : Type 0 where
  pub reply_is : r ≡ (pushed s store chunk).reply
  pub store_is : store' ≡ (pushed s store chunk).store

-- the end, which only looks at the store, is answered by r
pub record Finishes (s : State) (store : List ℕ) (r : Reply) : Type 0 where
  pub reply_is : r ≡ (finished s store).reply

-- a take with this output is answered by r and leaves store' and output'
pub record Takes (s : State) (store output : List ℕ) (r : Taken) (store' output' : List ℕ) : Type 0 where
  pub taken_is : r ≡ (took_from s store output).taken
  pub store_is : store' ≡ (took_from s store output).store
  pub output_is : output' ≡ (took_from s store output).output
