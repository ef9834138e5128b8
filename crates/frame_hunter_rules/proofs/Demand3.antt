-- Demand 3, in the words of the rules and of the contracts alone: frames are `IsFrame`, and the calls are linked by what each of them ensures.
use Rattle.std.specs.Prelude.{◌≡◌, Bool, List, ◌++◌, ℕ, ◌+◌, ◌≤◌, ◌<◌, length, drop}
use Rattle.std.proofs.Common.{arith}
use Rattle.std.proofs.lemmas.List.{drop-append-le}
use Rattle.frame_verdict_rules.specs.Frame.{IsFrame, Starts}
use Rattle.frame_verdict_rules.specs.Verdict.{verdict_of}
use Rattle.frame_verdict_rules.proofs.VerdictLaws.{verdict_laws, frame_is, frame_iff}
use Rattle.frame_hunter_rules.specs.Hunt.{IsWhole, NoStraddle, Contains, w-none, w_skip, w_cut, Each, each_none, each_more, joined}
use Rattle.frame_hunter_rules.proofs.Recovery.{Whole, Handed, recovered}
use Rattle.frame_hunter_rules.specs.Calls.{Calls}
use Rattle.frame_hunter_rules.proofs.CallsLaws.{outcome}
use Rattle.frame_hunter_rules.specs.declared.State.{State}

-- "no frame that starts in the damage ends after it": D is the damage, and S the whole stream
unfoldable pub NoneStraddles : List ℕ → List ℕ → Type 0
NoneStraddles D S = (i n : ℕ) → i < length D → Starts (drop i S) n → i + n ≤ length D

within-map : {P Q : List ℕ → Type 0} {s : List ℕ} {gs : List (List ℕ)} → ((g : List ℕ) → P g → Q g) → Contains P s gs → Contains Q s gs
within-map f w-none = w-none
within-map f (w_skip w) = w_skip (within-map f w)
within-map f (w_cut p w) = w_cut (f _ p) (within-map f w)

each_map : {P Q : List ℕ → Type 0} {gs : List (List ℕ)} → ((g : List ℕ) → P g → Q g) → Each P gs → Each Q gs
each_map f each_none = each_none
each_map f (each_more p w) = each_more (f _ p) (each_map f w)

none_straddles : (D T : List ℕ) → NoneStraddles D (D ++ T) → NoStraddle verdict_of D T
unfolding NoneStraddles NoStraddle
none_straddles D T h i n l e = h i n l ((frame_iff (drop i (D ++ T)) n).0 (rw (drop-append-le i D T (omega arith)) e))

-- DEMAND 3. "Let the stream given since a reset be damaged bytes followed by whole frames, where no frame that starts in the damage ends
-- after it. Then every later frame is handed out, in order, once 8,192 bytes from its start have arrived or the stream is ended, however
-- it was cut into chunks of at most 8,192 bytes, all that is ready being taken after each and after the end. All else handed out is a
-- frame lying wholly in the damage." Of the stream D ++ joined Fs, `given` has arrived and `rest` has not; nothing is left to come once
-- the stream is over.
pub demand_3 : {over : Bool} {given : List ℕ} {frames : List (List ℕ)} {s : State} {store : List ℕ} (rest D : List ℕ) (Fs : List (List ℕ)) → Calls over given frames s store →
    given ++ rest ≡ D ++ joined Fs → Whole over rest → Each IsFrame Fs → NoneStraddles D (D ++ joined Fs) → Handed IsFrame over given D Fs frames
demand_3 {over} {given} {frames} rest D Fs calls q w a ns =
    let h : Handed (IsWhole verdict_of) over given D Fs frames = recovered verdict_of verdict_laws rest D Fs (outcome calls).hunted w (each_map (λ g f. (frame_is g).1 f) a) (none_straddles D (joined Fs) ns) q in
    record { inside = h.inside; out = h.out; left = h.left; whole = h.whole; within = within-map (λ g f. (frame_is g).0 f) h.within; parts = h.parts; due = h.due }
