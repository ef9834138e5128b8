-- What each export over a lent framer state ensures, word for word as crates/gateway/src/framers.rt has it: one record to an export. What is
-- lent comes first, as it was at entry, then the number answered, then what is left at exit.
use Rattle.std.specs.Prelude.{◌≡◌, List, ℕ}
use Rattle.frame_parser_rules.specs.Framer.{number_of_parser, length_returned, pushed, pushed_store, finished, taken, taken_store, taken_output}
use Rattle.frame_hunter_rules.specs.Bytes.{number_of_hunter, pushed as hunter_pushed, finished as hunter_finished, took_from}
use Rattle.face_told.specs.Told.{told}
use Rattle.face_framers.specs.States.{ported_in, ported_out, ported_fresh, hunter_in, hunter_out, hunter_fresh}
use Rattle.face_framers.specs.declared.PortedState.{PortedState}
use Rattle.face_framers.specs.declared.HunterState.{HunterState}

-- ===== the ported framer =====

-- gateway_ported_push
pub record PortedPush (state : PortedState) (store chunk : List ℕ) (r : ℕ) (state' : PortedState) (store' out' : List ℕ) : Type 0 where
  pub answered : r ≡ number_of_parser (pushed (ported_in state) store chunk).answer
  pub state-left : state' ≡ ported_out state (pushed (ported_in state) store chunk).state
  pub store-left : store' ≡ pushed_store (ported_in state) store chunk
  pub out_left : out' ≡ told 0 (0, 0)

-- gateway_ported_end
pub record PortedEnd (state : PortedState) (store : List ℕ) (r : ℕ) (state' : PortedState) (out' : List ℕ) : Type 0 where
  pub answered : r ≡ number_of_parser (finished (ported_in state) store).answer
  pub state-left : state' ≡ ported_out state (finished (ported_in state) store).state
  pub out_left : out' ≡ told 0 (0, 0)

-- gateway_ported_take
pub record PortedTake (state : PortedState) (store output : List ℕ) (r : ℕ) (state' : PortedState) (store' output' out' : List ℕ) : Type 0 where
  pub answered : r ≡ number_of_parser (taken (ported_in state) store output).answer
  pub state-left : state' ≡ ported_out state (taken (ported_in state) store output).state
  pub store-left : store' ≡ taken_store (ported_in state) store output
  pub output_left : output' ≡ taken_output (ported_in state) store output
  pub out_left : out' ≡ told 0 (length_returned (taken (ported_in state) store output).answer, 0)

-- gateway_ported_reset
pub record PortedReset (r : ℕ) (state' : PortedState) (out' : List ℕ) : Type 0 where
  pub answered : r ≡ 0
  pub state-left : state' ≡ ported_fresh
  pub out_left : out' ≡ told 0 (0, 0)

-- ===== the hunting framer =====

-- gateway_hunter_push
pub record HunterPush (state : HunterState) (store chunk : List ℕ) (r : ℕ) (state' : HunterState) (store' out' : List ℕ) : Type 0 where
  pub answered : r ≡ number_of_hunter (hunter_pushed (hunter_in state) store chunk).reply.answer
  pub state-left : state' ≡ hunter_out state (hunter_pushed (hunter_in state) store chunk).reply.state
  pub store-left : store' ≡ (hunter_pushed (hunter_in state) store chunk).store
  pub out_left : out' ≡ told 0 (0, 0)

-- gateway_hunter_end
pub record HunterEnd (state : HunterState) (store : List ℕ) (r : ℕ) (state' : HunterState) (out' : List ℕ) : Type 0 where
  pub answered : r ≡ number_of_hunter (hunter_finished (hunter_in state) store).reply.answer
  pub state-left : state' ≡ hunter_out state (hunter_finished (hunter_in state) store).reply.state
  pub out_left : out' ≡ told 0 (0, 0)

-- gateway_hunter_take
pub record HunterTake (state : HunterState) (store output : List ℕ) (r : ℕ) (state' : HunterState) (store' output' out' : List ℕ) : Type 0 where
  pub answered : r ≡ number_of_hunter (took_from (hunter_in state) store output).taken.answer
  pub state-left : state' ≡ hunter_out state (took_from (hunter_in state) store output).taken.state
  pub store-left : store' ≡ (took_from (hunter_in state) store output).store
  pub output_left : output' ≡ (took_from (hunter_in state) store output).output
  pub out_left : out' ≡ told 0 ((took_from (hunter_in state) store output).taken.length, 0)

-- gateway_hunter_reset
pub record HunterReset (r : ℕ) (state' : HunterState) (out' : List ℕ) : Type 0 where
  pub answered : r ≡ 0
  pub state-left : state' ≡ hunter_fresh
  pub out_left : out' ≡ told 0 (0, 0)
