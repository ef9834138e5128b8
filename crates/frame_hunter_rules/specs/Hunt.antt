-- The hunting framer over lists and over any verdict: what a take, a chunk and the end do, and what a run of such calls is.
-- Nothing here knows what a frame looks like; `judge s` is the verdict on the place where the bytes s stand.
use Rattle.std.specs.Prelude.{◌≡◌, Bool, true, false, List, [], ◌∷◌, ◌++◌, ℕ, suc, ◌+◌, ◌%◌, ◌≤◌, ◌<◌, ltb, length, take, drop}
use Rattle.field_rules.specs.Choice.{pick}
use Rattle.frame_verdict_rules.specs.Frame.{frame_most}
use Rattle.frame_verdict_rules.specs.declared.Verdict.{Verdict}
use Rattle.frame_verdict_rules.specs.declared.Verdict.TheVariants.{Frame, Never, Wait}
use Rattle.frame_hunter_rules.specs.declared.Act.{Act}
use Rattle.frame_hunter_rules.specs.declared.Act.TheVariants.{Hand, Pass, Stop}
use Rattle.frame_hunter_rules.specs.declared.Hunted.{Hunted}
use Rattle.frame_hunter_rules.specs.declared.Answer.{Answer}
use Rattle.frame_hunter_rules.specs.declared.Answer.TheVariants.{StoreFull, AfterEnd}

-- ---- one place

-- "a frame that starts there is handed out ..; a byte where no continuation makes one is dropped; any other place waits and ends the
-- take. After the end, waiting places are dropped"
unfoldable pub act_on : Bool → Verdict → Act
act_on ended (Frame n) = Hand n
act_on ended Never = Pass
act_on true Wait = Pass
act_on false Wait = Stop

-- what a take comes to, by what is done at its first place and what it comes to from the next one on
unfoldable pub followed : Act → Hunted → Hunted
followed (Hand n) later = record { passed = 0; length = n }
followed Pass later = record { passed = suc later.passed; length = later.length }
followed Stop later = record { passed = 0; length = 0 }

-- ---- the framer

-- its bytes, how many places were dropped, and whether the end was told
pub record Framer : Type 0 where
  pub held : List ℕ
  pub dropped : ℕ
  pub ended : Bool

abbrev pub framer : List ℕ → ℕ → Bool → Framer
framer h d e = record { held = h; dropped = d; ended = e }

-- "Reset gives a fresh, empty state"
abbrev pub fresh_framer : Framer
fresh_framer = framer [] 0 false

-- "mod 2^64"
abbrev pub count_wrap : ℕ
count_wrap = 18446744073709551616

-- the store's size, which no chunk may pass
abbrev pub store_size : ℕ
store_size = 16384

-- what a take hands out, no byte if no frame is ready, and what it leaves
pub record Took : Type 0 where
  pub frame : List ℕ
  pub after : Framer

-- "The dropped count is the number of places so passed, mod 2^64"
unfoldable pub took_by : Hunted → Framer → Took
took_by h f = record {
  frame = take h.length (drop h.passed f.held);
  after = framer (drop (h.passed + h.length) f.held) ((f.dropped + h.passed) % count_wrap) f.ended;
}

-- what a chunk or the end is answered
pub data Given : Type 0 where
  accepted : Framer → Given
  refused : Answer → Given

-- "26: chunk or end after the end", then "25: chunk would take the store past 16,384 bytes"
unfoldable pub give_chunk : List ℕ → Framer → Given
give_chunk c f =
    pick f.ended (refused AfterEnd)
    (pick (ltb store_size (length f.held + length c)) (refused StoreFull) (accepted (framer (f.held ++ c) f.dropped false)))

unfoldable pub give_end : Framer → Given
give_end f = pick f.ended (refused AfterEnd) (accepted (framer f.held f.dropped true))

-- ---- calls one after the other

module _ (judge : List ℕ → Verdict) where
  -- "Only a take moves, place by place while bytes last"
  unfoldable pub hunt_from : Bool → List ℕ → Hunted
  hunt_from ended [] = record { passed = 0; length = 0 }
  hunt_from ended (x ∷ xs) = followed (act_on ended (judge (x ∷ xs))) (hunt_from ended xs)

  unfoldable pub take_one : Framer → Took
  take_one f = took_by (hunt_from f.ended f.held) f

  -- "all that is ready being taken": takes until one hands out nothing. `fs` are the frames.
  pub data Drained : Framer → List (List ℕ) → Framer → Type 0 where
    dry : {f : Framer} → length (take_one f).frame ≡ 0 → Drained f [] (take_one f).after
    more : {f g : Framer} {fs : List (List ℕ)} → 0 < length (take_one f).frame → Drained (take_one f).after fs g → Drained f ((take_one f).frame ∷ fs) g

  -- The calling rule. `Run s fs f`: since a reset the bytes s were given in chunks of at most 8,192 bytes, cut anyhow, all that is
  -- ready being taken after each; `fs` were handed out, and f is the framer.
  pub data Run : List ℕ → List (List ℕ) → Framer → Type 0 where
    reset : Run [] [] fresh_framer
    chunk : {s : List ℕ} {fs gs : List (List ℕ)} {f g h : Framer} (c : List ℕ) → Run s fs f → length c ≤ frame_most → give_chunk c f ≡ accepted g → Drained g gs h → Run (s ++ c) (fs ++ gs) h

  -- the same, and then the end, after which all that is ready was taken
  pub data Ended : List ℕ → List (List ℕ) → Framer → Type 0 where
    ends : {s : List ℕ} {fs gs : List (List ℕ)} {f g h : Framer} → Run s fs f → give_end f ≡ accepted g → Drained g gs h → Ended s (fs ++ gs) h

  -- ---- the hunt over a whole stream, with no calls

  -- from the bytes s the frames `fs` are handed out, d places are dropped, and r is left
  pub data Hunt (ended : Bool) : List ℕ → List (List ℕ) → ℕ → List ℕ → Type 0 where
    h_empty : Hunt ended [] [] 0 []
    h_stop : {s : List ℕ} → act_on ended (judge s) ≡ Stop → Hunt ended s [] 0 s
    h_hand : {s r : List ℕ} {n d : ℕ} {fs : List (List ℕ)} → act_on ended (judge s) ≡ Hand n → Hunt ended (drop n s) fs d r → Hunt ended s (take n s ∷ fs) d r
    h_pass : {x : ℕ} {xs r : List ℕ} {d : ℕ} {fs : List (List ℕ)} → act_on ended (judge (x ∷ xs)) ≡ Pass → Hunt ended xs fs d r → Hunt ended (x ∷ xs) fs (suc d) r

  -- the verdict on g is a frame of its whole length
  abbrev pub IsWhole : List ℕ → Type 0
  IsWhole g = judge g ≡ Frame (length g)

  -- no frame that starts in the damage D ends after it, where T comes after the damage
  unfoldable pub NoStraddle : List ℕ → List ℕ → Type 0
  NoStraddle D T = (i n : ℕ) → i < length D → judge (drop i D ++ T) ≡ Frame n → i + n ≤ length D

-- ---- frames in a stream

-- the lists `gs`, each with the property, lie in s, in this order and apart
pub data Contains (P : List ℕ → Type 0) : List ℕ → List (List ℕ) → Type 0 where
  w-none : {s : List ℕ} → Contains P s []
  w_skip : {x : ℕ} {s : List ℕ} {gs : List (List ℕ)} → Contains P s gs → Contains P (x ∷ s) gs
  w_cut : {s g : List ℕ} {gs : List (List ℕ)} → P g → Contains P s gs → Contains P (g ++ s) (g ∷ gs)

-- each list has the property
pub data Each (P : List ℕ → Type 0) : List (List ℕ) → Type 0 where
  each_none : Each P []
  each_more : {f : List ℕ} {fs : List (List ℕ)} → P f → Each P fs → Each P (f ∷ fs)

-- the frames one behind the other
abbrev pub joined : List (List ℕ) → List ℕ
joined [] = []
joined (f ∷ fs) = f ++ joined fs
