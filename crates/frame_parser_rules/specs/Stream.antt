-- A stream of whole messages, and the calls that a caller makes of it: each is linked to the next by what the functions' contracts
-- say of state, store and output.
use Rattle.std.specs.Prelude.{◌≡◌, List, [], ◌∷◌, ◌++◌, ℕ, suc, ◌≤◌, ◌<◌, length, take}
use Rattle.standard_rules.specs.Standard.{Tables, Message}
use Rattle.frame_parser_rules.specs.Framer.{answers_with, fresh, held, push_answer, pushed, pushed_store, take_answer, taken, taken_store, taken_output}
use Rattle.frame_parser_rules.specs.declared.State.{State}
use Rattle.frame_parser_rules.specs.declared.Answer.TheVariants as answer

-- ===== the stream =====

pub data Each (P : List ℕ → Type 0) : List (List ℕ) → Type 0 where
  none : Each P []
  also : {message : List ℕ} {messages : List (List ℕ)} → P message → Each P messages → Each P (message ∷ messages)

-- the messages one behind the other
abbrev pub joined : List (List ℕ) → List ℕ
joined [] = []
joined (message ∷ messages) = message ++ joined messages

-- a message of the standard of at most 8,192 bytes
pub record Fits (T : Tables) (bytes : List ℕ) : Type 0 where
  pub message : Message T bytes
  pub size : length bytes ≤ 8192

-- ===== the calls =====

-- a chunk that is accepted
pub record Pushes (state : State) (store chunk : List ℕ) (after : State) (left : List ℕ) : Type 0 where
  pub answers : pushed state store chunk ≡ answers_with after answer.Accepted
  pub leaves : left ≡ pushed_store state store chunk

-- a take with an output of the caller's choice, which is answered with a length, and the bytes of that length in its output
pub record Takes (state : State) (store : List ℕ) (n : ℕ) (handed : List ℕ) (after : State) (left : List ℕ) : Type 0 where
  pub output : List ℕ
  pub answers : taken state store output ≡ answers_with after (answer.Message n)
  pub leaves : left ≡ taken_store state store output
  pub hands : handed ≡ take n (taken_output state store output)

-- all that is ready is taken: takes until one answers 0
pub data Drained : State → List ℕ → List (List ℕ) → State → List ℕ → Type 0 where
  dry : {state after : State} {store left handed : List ℕ} → Takes state store 0 handed after left → Drained state store [] after left
  more : {state between after : State} {store moved left message : List ℕ} {messages : List (List ℕ)} {n : ℕ} → Takes state store (suc n) message between moved → Drained between moved messages after left → Drained state store (message ∷ messages) after left

-- the calling rule. `Run given messages state store`: since a reset the bytes `given` came in accepted chunks of at most 8,192 bytes,
-- cut anyhow, all that is ready being taken after each; `messages` came out.
pub data Run : List ℕ → List (List ℕ) → State → List ℕ → Type 0 where
  begins : {store : List ℕ} → length store ≡ 16384 → Run [] [] fresh store
  chunk : {given : List ℕ} {messages new : List (List ℕ)} {state between after : State} {store filled left : List ℕ} (c : List ℕ) → Run given messages state store → length c ≤ 8192 → Pushes state store c between filled → Drained between filled new after left → Run (given ++ c) (messages ++ new) after left

-- ===== what is promised =====

-- the messages that came out, when the bytes `given` have arrived of the messages `all`
pub record Framed (given : List ℕ) (all messages : List (List ℕ)) (state : State) (store : List ℕ) : Type 0 where
  pub left : List (List ℕ)
  -- message by message, in order
  pub in_order : all ≡ messages ++ left
  -- no byte is lost: what did not come out yet is held
  pub none_lost : given ≡ joined messages ++ held state store
  -- and it is less than the next message: what has arrived whole has come out
  pub at_once : (next : List ℕ) (later : List (List ℕ)) → left ≡ next ∷ later → length (held state store) < length next
  -- 25 never occurs, whatever the next chunk of at most 8,192 bytes is; nor does any other refusal
  pub never_full : (c : List ℕ) → length c ≤ 8192 → push_answer state store c ≡ answer.Accepted
  -- and a further take answers 0
  pub nothing-more : (output : List ℕ) → 8192 ≤ length output → take_answer state store output ≡ answer.Message 0
