-- The laws of prepared memory: one for each way that the code goes, and what stands where a dictionary was prepared: its bytes in the copy,
-- what it names in the index; and on a refusal nothing was written.
use Rattle.std.specs.Prelude.{◌≡◌, Bool, true, false, get_or, set, replicate, eqb, leb, ltb}
use Rattle.std.proofs.Math.Path.{refl, ap}
use Rattle.std.proofs.Common.{◌∙◌, arith, add-one, length-drop, drop-drop, length-take-le}
use mathlib.Core.List.{List, [], ◌∷◌, ◌++◌, append-nil}
use Prim.Native.Nat.{ℕ, ◌+◌, ◌-◌, ◌≤◌, ◌<◌}
use Rattle.std.proofs.Math.ListN.{length, take, drop, length-append, drop_of_length-le}
use Rattle.std.proofs.lemmas.List.{length-replicate}
use Rattle.std.proofs.lemmas.List.Edits.{sets-eq}
use Rattle.std.proofs.Math.Seq.{paste, paste-suc, take_all, take-length, take_at, drop_at, take-append_seam, drop-append-add}
use borrow.Rule.Slice.PartMut.{put_mid}
use borrow.Author.Tests.{eqb-true, eqb-false, ltb-true, ltb-false, leb-true, eq-eqb, ne_eqb, le-ltb, lt-ltb, le-leb}
use Rattle.field_rules.specs.Choice.{pick}
use Rattle.dictionary_chains.specs.Chain.{index_words}
use Rattle.dictionary_rules.specs.Check.{outcome, too_long, check_of, prepared_of, store_of, number_of_check}
use Rattle.dictionary_rules.proofs.Prepared.{check_long, prepared_names}
use Rattle.dictionary_rules.specs.declared.Checked.{Checked}
use Rattle.dictionary_rules.specs.declared.Checked.TheVariants.{Passes, TooLong, BadRecord, NoComponent, UnknownTag, EmptyGroup, TooDeep, Twice, TooManyItems}
use Rattle.dictionary_directory.specs.Directory.{lay_tables}
use Rattle.dictionary_prepared.specs.declared.Preparing.{Preparing}
use Rattle.dictionary_prepared.specs.declared.Preparing.TheVariants.{Ready, NoRoom, Refused}
use Rattle.dictionary_prepared.specs.Memory.{first_stamp, second_stamp, front, head_words, head_for, is_prepared, records_in, index_in, tables_in, index_for, memory_for}
use Rattle.dictionary_prepared.specs.Memory.{Preparation, prepared, by_check, preparation, preparing_of, copy_of, memory_of, number_of_preparing}

-- the words in front of the index, written one by one
stamped : (size : ℕ) (memory : List ℕ) → front ≤ length memory
    → set (set (set memory 0 first_stamp) 1 second_stamp) 2 size ≡ first_stamp ∷ second_stamp ∷ size ∷ drop 3 memory
stamped size memory h = sets-eq (first_stamp ∷ second_stamp ∷ size ∷ []) memory 0 h

-- and the index put behind them
pub head_put : (size : ℕ) (index memory : List ℕ) (n : ℕ) → front ≤ length memory
    → put_mid front n (set (set (set memory 0 first_stamp) 1 second_stamp) 2 size) index ≡ head_for size index ++ drop (front + n) memory
unfolding head_for
head_put size index memory n room =
    rw (stamped size memory room) (ap (λ (l : List ℕ). first_stamp ∷ second_stamp ∷ size ∷ index ++ l) (drop-drop n front memory))

-- or one word more of it
pub head_grows : (start index memory : List ℕ) (i : ℕ)
    → front + length index ≤ length start → memory ≡ paste start front index i → i < length index
    → set memory (front + i) (get_or index i 0) ≡ paste start front index (i + 1)
head_grows start index memory i room e h =
    ap (λ (l : List ℕ). set l (front + i) (get_or index i 0)) e
    ∙ rw add-one (paste-suc start front index i 0 (omega arith) h)

-- and, when none is left, all of it
pub head_done : (size : ℕ) (index memory : List ℕ) (i : ℕ) → front ≤ length memory → length index ≡ i
    → paste (set (set (set memory 0 first_stamp) 1 second_stamp) 2 size) front index i ≡ head_for size index ++ drop (front + i) memory
unfolding head_for
head_done size index memory i room e =
    rw (stamped size memory room, take_all i index (omega arith))
    (ap (λ (l : List ℕ). first_stamp ∷ second_stamp ∷ size ∷ index ++ l)
    (drop-append-add (first_stamp ∷ second_stamp ∷ size ∷ []) (drop front memory) i ∙ drop-drop i front memory))

-- whether memory is prepared, test by test
module _ (copy memory : List ℕ) where
  pub few_words : length memory < head_words → is_prepared copy memory ≡ false
  unfolding is_prepared
  few_words h = rw (lt-ltb (length memory) head_words h)

  module _ (room : head_words ≤ length memory) where
    pub other-first : (get_or memory 0 0 ≡ first_stamp → ⊥) → is_prepared copy memory ≡ false
    unfolding is_prepared
    other-first n = rw (le-ltb (length memory) head_words room, ne_eqb (get_or memory 0 0) first_stamp n)

    module _ (first : get_or memory 0 0 ≡ first_stamp) where
      pub other-second : (get_or memory 1 0 ≡ second_stamp → ⊥) → is_prepared copy memory ≡ false
      unfolding is_prepared
      other-second n =
          rw (le-ltb (length memory) head_words room, eq-eqb (get_or memory 0 0) first_stamp first, ne_eqb (get_or memory 1 0) second_stamp n)

      pub by_length : get_or memory 1 0 ≡ second_stamp → is_prepared copy memory ≡ leb (get_or memory 2 0) (length copy)
      unfolding is_prepared
      by_length second =
          rw (le-ltb (length memory) head_words room, eq-eqb (get_or memory 0 0) first_stamp first, eq-eqb (get_or memory 1 0) second_stamp second)

-- and what follows where it is prepared
record Standing (copy memory : List ℕ) : Type 0 where
  pub room : head_words ≤ length memory
  pub within : get_or memory 2 0 ≤ length copy

standing : (copy memory : List ℕ) → is_prepared copy memory ≡ true → Standing copy memory
unfolding is_prepared
standing copy memory = go (ltb (length memory) head_words) refl (eqb (get_or memory 0 0) first_stamp) (eqb (get_or memory 1 0) second_stamp)
  where
    go : (a : Bool) → ltb (length memory) head_words ≡ a → (b c : Bool)
        → pick a false (pick b (pick c (leb (get_or memory 2 0) (length copy)) false) false) ≡ true → Standing copy memory
    go true e b c h = let z : ◌≡◌ {A = ℕ} 0 1 = cc in absurd (omega arith)
    go false e false c h = let z : ◌≡◌ {A = ℕ} 0 1 = cc in absurd (omega arith)
    go false e true false h = let z : ◌≡◌ {A = ℕ} 0 1 = cc in absurd (omega arith)
    go false e true true h = record { room = ltb-false (length memory) head_words e; within = leb-true (get_or memory 2 0) (length copy) h }

pub prepared-room : (copy memory : List ℕ) → is_prepared copy memory ≡ true → head_words ≤ length memory
prepared-room copy memory h = (standing copy memory h).room

pub prepared_copy : (copy memory : List ℕ) → is_prepared copy memory ≡ true → get_or memory 2 0 ≤ length copy
prepared_copy copy memory h = (standing copy memory h).within

pub index-size : (copy memory : List ℕ) → is_prepared copy memory ≡ true → length (index_in memory) ≡ index_words
unfolding index_in
index-size copy memory h =
    let r = prepared-room copy memory h in
    length-take-le index_words (drop front memory) (omega (arith, r, length-drop front memory))

-- a check that answers 0 passes
pub zero_passes : (checked : Checked) → number_of_check checked ≡ 0 → checked ≡ Passes
unfolding number_of_check
zero_passes Passes e = refl
zero_passes TooLong e = absurd (omega arith)
zero_passes (BadRecord place) e = absurd (omega arith)
zero_passes (NoComponent number) e = absurd (omega arith)
zero_passes (UnknownTag tag) e = absurd (omega arith)
zero_passes (EmptyGroup tag) e = absurd (omega arith)
zero_passes (TooDeep place) e = absurd (omega arith)
zero_passes (Twice place) e = absurd (omega arith)
zero_passes (TooManyItems place) e = absurd (omega arith)

pub passes_short : (d : List ℕ) → check_of d ≡ Passes → length d ≤ 60000
passes_short d passes = go (ltb 60000 (length d)) refl
  where
    go : (t : Bool) → ltb 60000 (length d) ≡ t → length d ≤ 60000
    go false e = ltb-false 60000 (length d) e
    go true e =
        let long : check_of d ≡ TooLong = check_long d (ltb-true 60000 (length d) e) in
        let z : ◌≡◌ {A = ℕ} 0 1 = cc in absurd (omega arith)

pub index-length : (d : List ℕ) → check_of d ≡ Passes → length (index_for d) ≡ index_words
index-length d passes =
    (prepared_names d (replicate index_words 0) (length-replicate {A = ℕ} index_words 0)
    (unfold too_long in le-ltb 60000 (length d) (passes_short d passes))).1.size

pub index-left : (d index : List ℕ) (checked : Checked) → outcome checked index ≡ prepared_of d (replicate index_words 0) → index ≡ index_for d
unfolding store_of
index-left d index checked e = ap store_of e

-- what is left where a dictionary passes
abbrev pub ready_with : List ℕ → List ℕ → List ℕ → Preparation
ready_with d copy memory = prepared Ready (d ++ drop (length d) copy) (memory_for d memory)

-- what `prepare` leaves, test by test
module _ (d copy memory : List ℕ) where
  pub prepare_few : length memory < head_words → preparation d copy memory ≡ prepared NoRoom copy memory
  unfolding preparation
  prepare_few h = rw (lt-ltb (length memory) head_words h)

  module _ (room : head_words ≤ length memory) where
    pub prepare_small : length copy < length d → preparation d copy memory ≡ prepared NoRoom copy memory
    unfolding preparation
    prepare_small h = rw (le-ltb (length memory) head_words room, lt-ltb (length copy) (length d) h)

    module _ (fits : length d ≤ length copy) (checked : Checked) (told : checked ≡ check_of d) where
      reached : preparation d copy memory ≡ by_check d copy memory checked
      unfolding preparation
      reached = rw (le-ltb (length memory) head_words room, le-ltb (length copy) (length d) fits, told)

      pub prepare_refused : (number_of_check checked ≡ 0 → ⊥) → preparation d copy memory ≡ prepared (Refused checked) copy memory
      unfolding by_check
      prepare_refused n = reached ∙ rw (ne_eqb (number_of_check checked) 0 n)

      pub prepare_ready : number_of_check checked ≡ 0 → preparation d copy memory ≡ ready_with d copy memory
      unfolding by_check
      prepare_ready z = reached ∙ rw (eq-eqb (number_of_check checked) 0 z)

-- the copy, the head and the tables that were written are those of the dictionary
pub ready_left : (d copy memory copied words index : List ℕ) → copied ≡ take (length d) d ++ drop (length d) copy
    → words ≡ head_for (length d) index ++ lay_tables d index (drop head_words memory) → index ≡ index_for d → prepared Ready copied words ≡ ready_with d copy memory
unfolding memory_for
ready_left d copy memory copied words index e f g = rw (e, f, g, take-length d)

-- the four ways that a preparation can end, by the answers to its tests
abbrev ended : List ℕ → List ℕ → List ℕ → Bool → Bool → Bool → Preparation
ended d copy memory few small passes =
    pick few (prepared NoRoom copy memory)
    (pick small (prepared NoRoom copy memory) (pick passes (ready_with d copy memory) (prepared (Refused (check_of d)) copy memory)))

-- what follows where a dictionary was prepared
record Made (d copy memory c m : List ℕ) : Type 0 where
  pub passes : check_of d ≡ Passes
  pub copied : c ≡ d ++ drop (length d) copy
  pub headed : m ≡ head_for (length d) (index_for d) ++ lay_tables d (index_for d) (drop head_words memory)

made : (d copy memory c m : List ℕ) → prepared Ready c m ≡ preparation d copy memory → Made d copy memory c m
unfolding preparation by_check memory_for
made d copy memory c m = go (ltb (length memory) head_words) (ltb (length copy) (length d)) (eqb (number_of_check (check_of d)) 0) refl
  where
    go : (few small passes : Bool) → eqb (number_of_check (check_of d)) 0 ≡ passes
        → prepared Ready c m ≡ ended d copy memory few small passes → Made d copy memory c m
    go true small passes e h = let z : ◌≡◌ {A = ℕ} 0 1 = cc in absurd (omega arith)
    go false true passes e h = let z : ◌≡◌ {A = ℕ} 0 1 = cc in absurd (omega arith)
    go false false false e h = let z : ◌≡◌ {A = ℕ} 0 1 = cc in absurd (omega arith)
    go false false true e h =
        record { passes = zero_passes (check_of d) (eqb-true (number_of_check (check_of d)) 0 e); copied = cc; headed = cc }

-- what is read of a head with its index and any words behind
module _ (n size : ℕ) (index rest : List ℕ) (long : length index ≡ n) where
  head_size : get_or (head_for size index ++ rest) 2 0 ≡ size
  unfolding head_for
  head_size = refl

  head_index : take n (drop front (head_for size index ++ rest)) ≡ index
  unfolding head_for
  head_index = take_at index rest n long

  head_rest : (m : List ℕ) → m ≡ head_for size index ++ rest → drop (front + n) m ≡ rest
  unfolding head_for
  head_rest m e = ap (λ (l : List ℕ). drop (front + n) l) e ∙ drop_at (first_stamp ∷ second_stamp ∷ size ∷ index) rest (front + n) (omega arith)

  -- words that are laid over all that stands behind the head
  pub rest-laid : (m : List ℕ) → m ≡ head_for size index ++ rest → (lays : List ℕ → List ℕ) (laid : List ℕ) → laid ≡ lays (take (length m - (front + n)) (drop (front + n) m)) →
      take (front + n) m ++ (laid ++ drop (length m - (front + n)) (drop (front + n) m)) ≡ head_for size index ++ lays rest
  unfolding head_for
  rest-laid m e lays laid f =
      let words : List ℕ = first_stamp ∷ second_stamp ∷ size ∷ index in
      let behind : drop (front + n) m ≡ rest = head_rest m (unfold head_for in e) in
      let many : length m - (front + n) ≡ length rest = omega (arith, ap length e, length-append index rest) in
      let first : take (front + n) m ≡ words = ap (take (front + n)) e ∙ take_at words rest (front + n) (omega arith) in
      rw (first, f, behind, many, take_all (length rest) rest (omega arith), drop_of_length-le rest {i = length rest} (omega arith))
      (ap (λ (l : List ℕ). words ++ l) (append-nil (lays rest)))

  index_read : (m : List ℕ) → m ≡ head_for size index ++ rest → take n (drop front m) ≡ index
  index_read m e = ap (λ (l : List ℕ). take n (drop front l)) e ∙ head_index

  head_stands : (copy : List ℕ) → n ≡ index_words → size ≤ length copy → is_prepared copy (head_for size index ++ rest) ≡ true
  unfolding head_for
  head_stands copy e fits =
      by_length copy (head_for size index ++ rest) (omega (arith, length-append index rest)) refl refl ∙ le-leb size (length copy) fits

module _ (dictionary copy memory c m : List ℕ) (h : prepared Ready c m ≡ preparation dictionary copy memory) where
  it : Made dictionary copy memory c m
  it = made dictionary copy memory c m h

  long : length (index_for dictionary) ≡ index_words
  long = index-length dictionary it.passes

  -- the tables that were laid behind the head
  abbrev behind : List ℕ
  behind = lay_tables dictionary (index_for dictionary) (drop head_words memory)

  pub ready_passes : check_of dictionary ≡ Passes
  ready_passes = it.passes

  -- what was prepared is known as prepared
  pub ready_stands : is_prepared c m ≡ true
  ready_stands =
      rw it.headed
      (head_stands index_words (length dictionary) (index_for dictionary) behind long c refl
      (omega (arith, ap length it.copied, length-append dictionary (drop (length dictionary) copy))))

  -- its records are read back
  pub ready_records : records_in c m ≡ dictionary
  unfolding records_in
  ready_records =
      rw (it.headed, head_size index_words (length dictionary) (index_for dictionary) behind long, it.copied)
      (take-append_seam dictionary (drop (length dictionary) copy))

  -- and so is the index that its check left
  pub ready_index : index_in m ≡ store_of (prepared_of dictionary (replicate index_words 0))
  unfolding index_in
  ready_index = index_read index_words (length dictionary) (index_for dictionary) behind long m it.headed

  -- and the tables stand behind it
  pub ready_tables : tables_in m ≡ lay_tables dictionary (store_of (prepared_of dictionary (replicate index_words 0))) (drop head_words memory)
  unfolding tables_in
  ready_tables = head_rest index_words (length dictionary) (index_for dictionary) behind long m it.headed

-- on a refusal both are as they were
pub refused-same : (dictionary copy memory c m : List ℕ) (p : Preparing) → prepared p c m ≡ preparation dictionary copy memory
    → (p ≡ Ready → ⊥) → (c ≡ copy) × (m ≡ memory)
unfolding preparation by_check
refused-same dictionary copy memory c m p =
    go (ltb (length memory) head_words) (ltb (length copy) (length dictionary)) (eqb (number_of_check (check_of dictionary)) 0)
  where
    go : (few small passes : Bool) → prepared p c m ≡ ended dictionary copy memory few small passes → (p ≡ Ready → ⊥) → (c ≡ copy) × (m ≡ memory)
    go true small passes h n = (cc, cc)
    go false true passes h n = (cc, cc)
    go false false false h n = (cc, cc)
    go false false true h n = absurd (n cc)

-- the number 0 is that of a dictionary which was prepared
pub zero_ready : (d copy memory : List ℕ) → number_of_preparing (preparing_of (preparation d copy memory)) ≡ 0
    → prepared Ready (copy_of (preparation d copy memory)) (memory_of (preparation d copy memory)) ≡ preparation d copy memory
unfolding preparation by_check preparing_of copy_of memory_of number_of_preparing
zero_ready d copy memory z = go (ltb (length memory) head_words) (ltb (length copy) (length d)) (eqb (number_of_check (check_of d)) 0) refl _ _ z
  where
    left : Bool → Bool → Bool → List ℕ → List ℕ → Preparation
    left x y w c m = pick x (prepared NoRoom copy memory) (pick y (prepared NoRoom copy memory) (pick w (prepared Ready c m) (prepared (Refused (check_of d)) copy memory)))

    go : (x y w : Bool) → eqb (number_of_check (check_of d)) 0 ≡ w → (c m : List ℕ) → number_of_preparing (preparing_of (left x y w c m)) ≡ 0 → prepared Ready (copy_of (left x y w c m)) (memory_of (left x y w c m)) ≡ left x y w c m
    go true y w e c m q = absurd (omega arith)
    go false true w e c m q = absurd (omega arith)
    go false false true e c m q = refl
    go false false false e c m q = absurd (eqb-false _ _ e q)
