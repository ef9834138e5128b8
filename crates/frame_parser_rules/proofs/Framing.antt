-- THE FRAMING. A stream of whole messages of the standard of at most 8,192 bytes each, cut anyhow into chunks of at most 8,192 bytes,
-- all that is ready being taken after each, comes out message by message, in order, none lost, and 25 never occurs: `framing` while the
-- stream goes on, `framing-whole` when it has arrived, and `framing-goes_on` that the calling rule can always be kept.
use Rattle.std.specs.Prelude.{◌≡◌, refl, ◌⊎◌, Bool, true, false, List, [], ◌∷◌, ◌++◌, ℕ, suc, ◌+◌, ◌-◌, ◌≤◌, ◌<◌, length, take, drop, leb}
use Rattle.std.proofs.Common.{sym, ◌∙◌, subst, inl, inr, ⊎_elim, append_assoc, append-nil, arith, length-append, take-append-drop, leb-true, leb-false, Some}
use Rattle.std.proofs.Math.Path.{ap}
use Rattle.standard_rules.specs.Standard.{Tables}
use Rattle.field_rules.specs.Decimal.{written_at}
use Rattle.frame_parser_rules.specs.Announced.{announced_in}
use Rattle.frame_parser_rules.specs.Framer.{fresh, held, push_answer, with_chunk, pushed, ready_of, ready_answer, take_answer, take_state, moved_to_front}
use Rattle.frame_parser_rules.proofs.FramerLaws.{take_judges}
use Rattle.frame_parser_rules.proofs.MessageLaws.{message-some, front-message}
use Rattle.frame_parser_rules.proofs.FramingLaws.{Running, running_usable, held-length, chunk-accepted, chunk-runs, chunk-held, take_runs, take-held, take_does, take_did, nothing_ready, whole_ready, part_not_ready, stream_behind}
use Rattle.frame_parser_rules.specs.Stream.{Each, joined, Fits, Pushes, Takes, Drained, dry, more, Run, begins, chunk, Framed}
use Rattle.frame_parser_rules.specs.Stream as stream
use Rattle.frame_parser_rules.specs.declared.State.{State}
use Rattle.frame_parser_rules.specs.declared.Answer.TheVariants.{Accepted, Message}
use Rattle.frame_parser_rules.specs.declared.Outcome.{Outcome}

joined-append : (a b : List (List ℕ)) → joined (a ++ b) ≡ joined a ++ joined b
joined-append [] b = refl
joined-append (message ∷ a) b = ap (λ (l : List ℕ). message ++ l) (joined-append a b) ∙ sym (append_assoc message (joined a) (joined b))

whole_or_part : (n used : ℕ) → (n ≤ used) ⊎ (used < n)
whole_or_part n used = by_test (leb n used) refl
  where
    by_test : (b : Bool) → leb n used ≡ b → (n ≤ used) ⊎ (used < n)
    by_test true e = inl (leb-true n used e)
    by_test false e = inr (leb-false n used e)

first_fits : {T : Tables} {message : List ℕ} {messages : List (List ℕ)} → Each (Fits T) (message ∷ messages) → Fits T message
first_fits (stream.also f fs) = f

-- in the midst of a stream: `given` has arrived of the messages `all`, `rest` is to come, and `messages` came out
record Midst (T : Tables) (given rest : List ℕ) (all messages : List (List ℕ)) (state : State) (store : List ℕ) : Type 0 where
  later : List (List ℕ)
  in_order : all ≡ messages ++ later
  fit : Each (Fits T) later
  running : Running state store
  flows : held state store ++ rest ≡ joined later
  none_lost : given ≡ joined messages ++ held state store
  at_once : (next : List ℕ) (others : List (List ℕ)) → later ≡ next ∷ others → length (held state store) < length next

-- what is left after a take that hands out a message
record Behind (T : Tables) (rest : List ℕ) (all : List (List ℕ)) (front message : List ℕ) (state : State) (store : List ℕ) : Type 0 where
  others : List (List ℕ)
  in_order : all ≡ message ∷ others
  fit : Each (Fits T) others
  running : Running state store
  flows : held state store ++ rest ≡ joined others
  splits : front ≡ message ++ held state store

-- a take answers the length that is ready
answers_ready : {state after : State} {store handed left : List ℕ} {k : ℕ} (r : Running state store) (n : ℕ) → ready_of state.used (announced_in (held state store)) ≡ Some n → n ≤ state.used → Takes state store k handed after left → n ≡ k
answers_ready r n ready enough t = (take_did r n ready enough _ _ _ _ t).0

module _ {T : Tables} {state : State} {store : List ℕ} (r : Running state store) (rest : List ℕ) where
  -- a take that answers 0 leaves all as it was, and no whole message was held
  stays : {handed left : List ℕ} {after : State} (all : List (List ℕ)) → Each (Fits T) all → held state store ++ rest ≡ joined all
      → ready_of state.used (announced_in (held state store)) ≡ Some 0
      → ((next : List ℕ) (others : List (List ℕ)) → all ≡ next ∷ others → state.used < length next)
      → Takes state store 0 handed after left → Midst T (held state store) rest all [] after left
  stays {handed} {left} {after} all fit flows ready short t =
      let did = take_did r 0 ready (omega arith) 0 _ _ _ t in
      let same : held after left ≡ held state store = rw (did.1, did.2) (take-held r 0 ready (omega arith)) in
      record {
        later = all;
        in_order = refl;
        fit = fit;
        running = rw (did.1, did.2) (take_runs r 0 ready (omega arith));
        flows = ap (λ (l : List ℕ). l ++ rest) same ∙ flows;
        none_lost = sym same;
        at_once = λ next others e. omega (arith, ap length same, held-length r, short next others e);
      }

  dried : {handed left : List ℕ} {after : State} (all : List (List ℕ)) → Each (Fits T) all → held state store ++ rest ≡ joined all
      → Takes state store 0 handed after left → Midst T (held state store) rest all [] after left
  dried [] fit flows t =
      stays [] fit flows (nothing_ready r rest flows) (λ next others e. let z : ◌≡◌ {A = ℕ} 0 1 = cc in absurd (omega arith)) t
  dried (message ∷ messages) fit flows t =
      let f = first_fits fit in
      ⊎_elim
      (λ arrived.
      let none : length message ≡ 0 = answers_ready r (length message) (whole_ready r message rest (joined messages) f flows arrived) arrived t in
      absurd (omega (arith, message-some message f.message f.size)))
      (λ missing.
      stays (message ∷ messages) fit flows (part_not_ready r message rest (joined messages) f flows missing)
      (λ next others e. let same : message ≡ next = cc in omega (arith, ap length same)) t)
      (whole_or_part (length message) state.used)

  handed_out : {n : ℕ} {message left : List ℕ} {after : State} (all : List (List ℕ)) → Each (Fits T) all → held state store ++ rest ≡ joined all
      → Takes state store (suc n) message after left → Behind T rest all (held state store) message after left
  handed_out [] fit flows t =
      let none = answers_ready r 0 (nothing_ready r rest flows) (omega arith) t in absurd (omega arith)
  handed_out {message = got} {left = left} {after = after} (message ∷ messages) (stream.also f fit) flows t =
      ⊎_elim
      (λ arrived.
      let ready = whole_ready r message rest (joined messages) f flows arrived in
      let did = take_did r (length message) ready arrived _ _ _ _ t in
      let there : length message ≤ length (held state store) = omega (arith, held-length r) in
      let is : got ≡ message = did.3 ∙ front-message message f.message f.size (held state store) rest (joined messages) flows there in
      let same : held after left ≡ drop (length message) (held state store) = rw (did.1, did.2) (take-held r (length message) ready arrived) in
      record {
        others = messages;
        in_order = ap (λ (m : List ℕ). m ∷ messages) (sym is);
        fit = fit;
        running = rw (did.1, did.2) (take_runs r (length message) ready arrived);
        flows = ap (λ (l : List ℕ). l ++ rest) same ∙ stream_behind r message rest (joined messages) f flows arrived;
        splits = sym (take-append-drop (length message) (held state store))
            ∙ rw (front-message message f.message f.size (held state store) rest (joined messages) flows there, is, same);
      })
      (λ missing.
      let none = answers_ready r 0 (part_not_ready r message rest (joined messages) f flows missing) (omega arith) t in absurd (omega arith))
      (whole_or_part (length message) state.used)

-- takes until one answers 0 hand out whole messages, and keep what is not whole
drains : {T : Tables} {state after : State} {store left : List ℕ} {messages : List (List ℕ)} (rest : List ℕ) (all : List (List ℕ))
    → Running state store → Each (Fits T) all → held state store ++ rest ≡ joined all → Drained state store messages after left
    → Midst T (held state store) rest all messages after left
drains rest all r fit flows (dry t) = dried r rest all fit flows t
drains rest all r fit flows (more {message = message} t d) =
    let b = handed_out r rest all fit flows t in
    let m = drains rest b.others b.running b.fit b.flows d in
    record {
      later = m.later;
      in_order = b.in_order ∙ ap (λ (l : List (List ℕ)). message ∷ l) m.in_order;
      fit = m.fit;
      running = m.running;
      flows = m.flows;
      none_lost = b.splits ∙ ap (λ (l : List ℕ). message ++ l) m.none_lost ∙ sym (append_assoc message _ _);
      at_once = m.at_once;
    }

-- ===== a run =====

-- what is held in the midst is less than a message: a further chunk has room
midst_small : {T : Tables} {given rest : List ℕ} {all messages : List (List ℕ)} {state : State} {store : List ℕ} → Midst T given rest all messages state store → state.used ≤ 8192
midst_small {rest = rest} {state = state} {store = store} m = by_later m.later m.fit m.flows m.at_once
  where
    by_later : {T : Tables} (later : List (List ℕ)) → Each (Fits T) later → held state store ++ rest ≡ joined later → ((next : List ℕ) (others : List (List ℕ)) → later ≡ next ∷ others → length (held state store) < length next) → state.used ≤ 8192
    by_later [] fit flows short = omega (arith, held-length m.running, simp length-append at (ap length flows))
    by_later (message ∷ messages) fit flows short =
        omega (arith, held-length m.running, short message messages refl, (first_fits fit).size)

-- and no whole message: nothing is ready
midst_ready : {T : Tables} {given rest : List ℕ} {all messages : List (List ℕ)} {state : State} {store : List ℕ} → Midst T given rest all messages state store → ready_of state.used (announced_in (held state store)) ≡ Some 0
midst_ready {rest = rest} {state = state} {store = store} m = by_later m.later m.fit m.flows m.at_once
  where
    by_later : {T : Tables} (later : List (List ℕ)) → Each (Fits T) later → held state store ++ rest ≡ joined later → ((next : List ℕ) (others : List (List ℕ)) → later ≡ next ∷ others → length (held state store) < length next) → ready_of state.used (announced_in (held state store)) ≡ Some 0
    by_later [] fit flows short = nothing_ready m.running rest flows
    by_later (message ∷ messages) fit flows short =
        part_not_ready m.running message rest (joined messages) (first_fits fit) flows (omega (arith, held-length m.running, short message messages refl))

answers-nothing : {T : Tables} {given rest : List ℕ} {all messages : List (List ℕ)} {state : State} {store : List ℕ} → Midst T given rest all messages state store → (output : List ℕ) → 8192 ≤ length output → take_answer state store output ≡ Message 0
unfolding ready_answer
answers-nothing {state = state} {store = store} m output long =
    take_judges state store output (running_usable m.running) long m.running.unmarked ∙ ap ready_answer (midst_ready m)

module _ {T : Tables} {given rest : List ℕ} {all messages : List (List ℕ)} {state : State} {store : List ℕ} (m : Midst T given rest all messages state store) (c : List ℕ) (small : length c ≤ 8192) where
  room : state.used + length c ≤ 16384
  room = omega (arith, midst_small m)

  accepts : push_answer state store c ≡ Accepted
  unfolding pushed
  accepts = ap (λ (o : Outcome). o.answer) (sym (chunk-accepted m.running c room).0)

all_there : (messages new : List (List ℕ)) (given before c after : List ℕ) → given ≡ joined messages ++ before → before ++ c ≡ joined new ++ after → given ++ c ≡ joined (messages ++ new) ++ after
all_there messages new given before c after lost still =
    rw (lost, append_assoc, still, joined-append) (sym (append_assoc (joined messages) (joined new) after))

-- before the first chunk
starts : {T : Tables} {store : List ℕ} (rest : List ℕ) (all : List (List ℕ)) → length store ≡ 16384 → Each (Fits T) all → rest ≡ joined all → Midst T [] rest all [] fresh store
unfolding fresh held
starts rest all size fit flows =
    record {
      later = all;
      in_order = refl;
      fit = fit;
      running = record { size = size; within = omega arith; going = refl; unmarked = refl };
      flows = flows;
      none_lost = refl;
      at_once = λ next others e.
          let f = first_fits (rw e at fit) in message-some next f.message f.size;
    }

-- a chunk that was accepted, and what it is in the midst of
record Given (T : Tables) (before c rest : List ℕ) (later : List (List ℕ)) (state : State) (store : List ℕ) : Type 0 where
  running : Running state store
  is_held : held state store ≡ before ++ c
  flows : held state store ++ rest ≡ joined later

gives : {T : Tables} {given : List ℕ} {all messages : List (List ℕ)} {state between : State} {store filled : List ℕ} (c rest : List ℕ) (m : Midst T given (c ++ rest) all messages state store) → length c ≤ 8192 → Pushes state store c between filled → Given T (held state store) c rest m.later between filled
gives {state = state} {between = between} {store = store} {filled = filled} c rest m small p =
    let fits = room m c small in
    let accepted = chunk-accepted m.running c fits in
    let between_is : between ≡ with_chunk state c = sym (ap (λ (o : Outcome). o.state) (accepted.0 ∙ p.answers)) in
    let filled_is : filled ≡ written_at state.used c store = p.leaves ∙ sym accepted.1 in
    let is_held : held between filled ≡ held state store ++ c = rw (between_is, filled_is) (chunk-held m.running c fits) in
    record {
      running = rw (between_is, filled_is) (chunk-runs m.running c fits);
      is_held = is_held;
      flows = ap (λ (l : List ℕ). l ++ rest) is_held ∙ append_assoc (held state store) c rest ∙ m.flows;
    }

-- a chunk more, and all that is ready taken
joins : {T : Tables} {given : List ℕ} {all messages new : List (List ℕ)} {state between after : State} {store filled left : List ℕ} (c rest : List ℕ) (m : Midst T given (c ++ rest) all messages state store) → Given T (held state store) c rest m.later between filled → Midst T (held between filled) rest m.later new after left → Midst T (given ++ c) rest all (messages ++ new) after left
joins {given = given} {messages = messages} {new = new} {state = state} {after = after} {store = store} {left = left} c rest m g n =
    record {
      later = n.later;
      in_order = m.in_order ∙ ap (λ (l : List (List ℕ)). messages ++ l) n.in_order ∙ sym (append_assoc messages new n.later);
      fit = n.fit;
      running = n.running;
      flows = n.flows;
      none_lost = all_there messages new given (held state store) c (held after left) m.none_lost (sym g.is_held ∙ n.none_lost);
      at_once = n.at_once;
    }

-- the run so far is in the midst of its stream
runs : {T : Tables} {given : List ℕ} {messages : List (List ℕ)} {state : State} {store : List ℕ} (rest : List ℕ) (all : List (List ℕ)) → Run given messages state store → Each (Fits T) all → given ++ rest ≡ joined all → Midst T given rest all messages state store
runs rest all (begins size) fit flows = starts rest all size fit flows
runs rest all (chunk {given = given} c run small p d) fit flows =
    let m = runs (c ++ rest) all run fit (sym (append_assoc given c rest) ∙ flows) in
    let g = gives c rest m small p in
    joins c rest m g (drains rest m.later g.running m.fit g.flows d)

-- THE FRAMING, while the stream goes on: `given` has arrived of the messages `all`, and `rest` is to come
pub framing : {T : Tables} {given : List ℕ} {messages : List (List ℕ)} {state : State} {store : List ℕ} (rest : List ℕ) (all : List (List ℕ)) → Run given messages state store → Each (Fits T) all → given ++ rest ≡ joined all → Framed given all messages state store
framing rest all run fit flows =
    let m = runs rest all run fit flows in
    record {
      left = m.later;
      in_order = m.in_order;
      none_lost = m.none_lost;
      at_once = m.at_once;
      never_full = accepts m;
      nothing-more = answers-nothing m;
    }

-- THE FRAMING of a stream that has arrived whole: just its messages came out
pub framing-whole : {T : Tables} {messages : List (List ℕ)} {state : State} {store : List ℕ} (all : List (List ℕ)) → Run (joined all) messages state store → Each (Fits T) all → messages ≡ all
framing-whole {messages = messages} {state = state} {store = store} all run fit =
    let f = framing [] all run fit (append-nil (joined all)) in
    by_left f.left f.in_order f.none_lost f.at_once
  where
    by_left : (left : List (List ℕ)) → all ≡ messages ++ left → joined all ≡ joined messages ++ held state store
        → ((next : List ℕ) (later : List (List ℕ)) → left ≡ next ∷ later → length (held state store) < length next) → messages ≡ all
    by_left [] order lost short = sym (order ∙ append-nil messages)
    by_left (next ∷ later) order lost short =
        let sizes = simp length-append at (ap length (sym (joined-append messages (next ∷ later)) ∙ sym (ap joined order) ∙ lost)) in
        absurd (omega (arith, short next later refl, sizes))

-- ===== the calling rule can always be kept =====

-- a run that took one chunk more
pub record Further (given c : List ℕ) (messages : List (List ℕ)) : Type 0 where
  pub new : List (List ℕ)
  pub state : State
  pub store : List ℕ
  pub run : Run (given ++ c) (messages ++ new) state store

record Dried (state : State) (store : List ℕ) : Type 0 where
  messages : List (List ℕ)
  after : State
  left : List ℕ
  drained : Drained state store messages after left

-- takes with an output of 8,192 bytes or more come to a 0, and are never refused
can_drain : {T : Tables} {state : State} {store : List ℕ} (output rest : List ℕ) (all : List (List ℕ)) → 8192 ≤ length output → Running state store → Each (Fits T) all → held state store ++ rest ≡ joined all → Dried state store
can_drain output rest [] long r fit flows =
    record { messages = []; after = _; left = _; drained = dry (take_does r 0 (nothing_ready r rest flows) (omega arith) output long) }
can_drain {state = state} {store = store} output rest (message ∷ messages) long r (stream.also f fit) flows =
    ⊎_elim
    (λ arrived.
    let ready = whole_ready r message rest (joined messages) f flows arrived in
    let n : ℕ = length message in
    let some : n ≡ suc (n - 1) = omega (arith, message-some message f.message f.size) in
    let still = take-held r n ready arrived in
    let d = can_drain {state = take_state state (Message n)} {store = moved_to_front (drop n (held state store)) store} output rest messages long (take_runs r n ready arrived) fit (ap (λ (l : List ℕ). l ++ rest) still ∙ stream_behind r message rest (joined messages) f flows arrived) in
    record {
      messages = take n (held state store) ∷ d.messages;
      after = d.after;
      left = d.left;
      drained = more (subst (λ (k : ℕ). Takes state store k (take n (held state store)) (take_state state (Message n)) (moved_to_front (drop n (held state store)) store)) some (take_does r n ready arrived output long)) d.drained;
    })
    (λ missing.
    record {
      messages = [];
      after = _;
      left = _;
      drained = dry (take_does r 0 (part_not_ready r message rest (joined messages) f flows missing) (omega arith) output long);
    })
    (whole_or_part (length message) state.used)

-- THE FRAMING goes on: the next chunk is accepted, 25 doesn't occur, and takes with an output that is long enough come to a 0
pub framing-goes_on : {T : Tables} {given : List ℕ} {messages : List (List ℕ)} {state : State} {store : List ℕ} (c rest output : List ℕ) (all : List (List ℕ)) → Run given messages state store → Each (Fits T) all → given ++ (c ++ rest) ≡ joined all → length c ≤ 8192 → 8192 ≤ length output → Further given c messages
framing-goes_on {state = state} {store = store} c rest output all run fit flows small long =
    let m = runs (c ++ rest) all run fit flows in
    let accepted = chunk-accepted m.running c (room m c small) in
    let pushes : Pushes state store c (with_chunk state c) (written_at state.used c store) = record { answers = sym accepted.0; leaves = accepted.1 } in
    let g = gives c rest m small pushes in
    let d = can_drain output rest m.later long g.running m.fit g.flows in
    record { new = d.messages; state = d.after; store = d.left; run = chunk {new = d.messages} {after = d.after} {left = d.left} c run small pushes d.drained }
