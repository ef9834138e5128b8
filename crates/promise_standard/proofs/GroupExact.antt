-- The other way round: a group of the standard that is read as exactly its entries fits its layout. By the standard's own structure: each
-- field does to what is open what its depth and entry number say, so the levels that are open are those of the structure.
use Rattle.std.proofs.Math.Path.{◌≡◌, refl}
use Rattle.std.proofs.Common.{sym, ap, ◌∙◌, arith, length-append, None}
use Rattle.std.specs.Prelude.{◌↔◌, Bool, false, ℕ, suc, ◌+◌, ◌≤◌, length, drop}
use mathlib.Core.List.{List, [], ◌∷◌, ◌++◌, append_assoc, append-nil}
use Rattle.std.proofs.Math.Seq.{drop-append_seam}
use Rattle.field_rules.specs.Fields.{Fields, field}
use Rattle.standard_rules.specs.Standard.{Tables, NoCount, All, Told, told, Int, Once, Stretch, members, entries, Stands}
use Rattle.field_rules.specs.declared.Field.{Field}
use Rattle.dictionary_layout_rules.specs.Layout.{Layout}
use Rattle.build_records.specs.declared.Record.{Record}
use Rattle.build_group_rules.specs.Groups.{Rules, opens, Kind, plain, count, ends, entry_kind, OpenGroup, OpenEntry, Frame, run, outermost, entry, reaching, nested, leaves, decide, ended, walk}
use Rattle.build_group_rules.specs.Reading.{layout_rules, list_store}
use Rattle.promise_standard.specs.Reading.{ReadsAs, no_field, one_field}
use Rattle.promise_standard.specs.Groups.{numbered, records_as, tag_behind, entries_of, members_of, Leaves, Fits}
use Rattle.promise_standard.proofs.GroupSteps.{reads_split, numbered_each, records_tell, tell_each}
use Rattle.promise_standard.proofs.GroupReading.{some-fields, layout_group-read}
use Rattle.promise_standard.proofs.GroupTakes.{Takes, takes, Says, says_plain, says_count, says_joins, says_wrong, says_ends, kind_says, walk-takes, same_numbers, given}
use Rattle.promise_standard.proofs.GroupOpen.{Above, Elsewhere, Head, head_none, head_map, members_head, entries_head, entries-start, Gives, run_gives, entry_gives, Goes, goes-plain, goes-joins, goes-count, entry-goes, run-goes, entry-over, run-over, count_open, not_deeper}

module _ {L : Type 0} (rules : Rules L) (message : List ℕ) (x : Field) (rest : Fields) where
  abbrev Untaken : L → ℕ → Type 0
  Untaken level tag = (rules.position level tag ≡ None) × (rules.accepts tag ≡ false)

  -- a tag that ends an entry and does not open the next one is none of the level's, nor an unknown user tag
  ends_untaken : (level : L) (depth last tag : ℕ) → entry_kind rules level depth last tag ≡ ends → opens rules level tag ≡ false → Untaken level tag
  ends_untaken level depth last tag e o = by_says (entry_kind rules level depth last tag) e (kind_says rules level depth last tag)
    where
      by_says : (k : Kind L) → k ≡ ends → Says rules level depth last tag k → Untaken level tag
      by_says _ e (says_plain r g) = let y : ◌≡◌ {A = ℕ} 0 1 = cc in absurd (omega arith)
      by_says _ e (says_count r g d) = let y : ◌≡◌ {A = ℕ} 0 1 = cc in absurd (omega arith)
      by_says _ e (says_joins a) = let y : ◌≡◌ {A = ℕ} 0 1 = cc in absurd (omega arith)
      by_says _ e says_wrong = let y : ◌≡◌ {A = ℕ} 0 1 = cc in absurd (omega arith)
      by_says _ e (says_ends h) = h o

  module _ (T : Tables) (Here : ℕ → Type 0) where
    -- the members of an entry fit, and the field behind them, which ends the entry, is taken by what is below
    record MembersFit (level : L) (depth last : ℕ) {ts : List ℕ} (fs : List Told) (s : Stands T Here (members ts) fs) (below : List (Frame L)) (more : List (ℕ × ℕ)) (y : Field) (later : Fields) : Type 0 where
      fits : Fits rules (members_of level depth last) y.tag (members ts) fs s
      at : ℕ
      ended-there : entry_kind rules level depth at y.tag ≡ ends
      onward : Takes rules x rest below more (field y later)

    -- so do entries, and neither the run nor an entry takes the field behind them
    record EntriesFit (level : L) (depth : ℕ) {c d n : ℕ} (gs : List Told) (s : Stands T Here (entries c d n) gs) (below : List (Frame L)) (more : List (ℕ × ℕ)) (y : Field) (later : Fields) : Type 0 where
      fits : Fits rules (entries_of level depth) y.tag (entries c d n) gs s
      no_delimiter : opens rules level y.tag ≡ false
      untaken : 1 ≤ length gs → Untaken level y.tag
      onward : Takes rules x rest below more (field y later)

    abbrev MembersExact : {ts : List ℕ} → (fs : List Told) → Stands T Here (members ts) fs → Type 0
    MembersExact fs s =
        (group : OpenGroup L) (own : OpenEntry) (below : List (Frame L)) (more : List (ℕ × ℕ)) (fields : Fields) (y : Field) (later : Fields)
        → Gives rules (Elsewhere group.depth own.number) below → Head (Elsewhere group.depth own.number) more
        → ReadsAs message fields fs (field y later) → Takes rules x rest (entry group own ∷ below) (numbered group.depth own.number s ++ more) fields
        → MembersFit group.level group.depth own.last fs s below more y later

    abbrev EntriesExact : {c d n : ℕ} → (gs : List Told) → Stands T Here (entries c d n) gs → Type 0
    EntriesExact gs s =
        (group : OpenGroup L) (number : ℕ) (below : List (Frame L)) (more : List (ℕ × ℕ)) (fields : Fields) (y : Field) (later : Fields)
        → Gives rules (Above group.depth) below → Head (Above group.depth) more
        → ReadsAs message fields gs (field y later) → Takes rules x rest (run group number ∷ below) (numbered group.depth number s ++ more) fields
        → EntriesFit group.level group.depth gs s below more y later

    exact_no_member : MembersExact [] Stands.no_member
    unfolding numbered
    exact_no_member group own below more _ y later gives head no_field t =
        let o = entry-over rules x rest group own below y later more head t in
        record { fits = Fits.no_member; at = own.last; ended-there = o.0; onward = o.1 }

    exact_no_entry : {c d : ℕ} → EntriesExact [] (Stands.no_entry {c = c} {d = d})
    unfolding numbered
    exact_no_entry group number below more _ y later gives head no_field t =
        let o = run-over rules x rest group number below y later more head t in
        record { fits = Fits.no_entry; no_delimiter = o.0; untaken = λ some. absurd (omega arith); onward = o.1 }

    deeper_head : {ns : List (ℕ × ℕ)} (depth number : ℕ) → Head (Elsewhere depth number) ns → Head (Above (depth + 1)) ns
    deeper_head depth number h = head_map (λ d n e. record { above = omega (arith, e.up_to) }) h

    exact_field : {t : ℕ} {v : List ℕ} {ts : List ℕ} {fs : List Told} (may : Here t) (single : NoCount T t) (s : Stands T Here (members ts) fs) → MembersExact fs s → MembersExact (told t v ∷ fs) (Stands.field {t = t} {v = v} may single s)
    unfolding numbered
    exact_field {t} {v} {ts} {fs} may single s inside group own below more _ y later gives head (one_field {f = f} {rest = behind} same value reads) (takes here {more = frames} e taken) =
        by_goes frames (entry-goes rules group own below gives here f.tag frames e) taken
      where
        by_goes : (frames : List (Frame L)) → Goes rules group own below f.tag frames
            → Takes rules x rest frames (numbered group.depth own.number s ++ more) behind
            → MembersFit group.level group.depth own.last (told t v ∷ fs) (Stands.field {t = t} {v = v} may single s) below more y later
        by_goes _ (goes-plain {position} r g) taken =
            let m = inside group (reaching own position) below more behind y later gives head reads taken in
            record { fits = Fits.plain (rw same at r) (rw same at g) m.fits; at = m.at; ended-there = m.ended-there; onward = m.onward }
        by_goes _ (goes-joins j) taken =
            let m = inside group own below more behind y later gives head reads taken in
            record { fits = Fits.user (rw same at j) m.fits; at = m.at; ended-there = m.ended-there; onward = m.onward }
        by_goes _ (goes-count {inner} {position} r g deep) taken =
            absurd (count_open rules x rest (nested group f.tag inner) 0 _ refl (members_head group.depth own.number more s (deeper_head group.depth own.number head)) taken)

    exact_group : {t d n : ℕ} {count : List ℕ} {ts : List ℕ} {gs fs : List Told} (may : Here t) (opening : T.Group t d) (i : Int count (suc n))
        (g : Stands T Here (entries t d (suc n)) gs) (s : Stands T Here (members ts) fs) → EntriesExact gs g → MembersExact fs s →
        MembersExact (told t count ∷ (gs ++ fs)) (Stands.group {t = t} may opening i g s)
    unfolding numbered
    exact_group {t} {d} {n} {count} {ts} {gs} {fs} may opening i g s within inside group own below more _ y later gives head (one_field {f = f} {rest = behind} same value reads) (takes here {more = frames} e taken) =
        by_goes frames (entry-goes rules group own below gives here f.tag frames e) taken
      where
        -- a field that counts no entries has none behind it
        deeper : (position : ℕ)
            → Takes rules x rest (entry group (reaching own position) ∷ below) ((numbered (group.depth + 1) 0 g
            ++ numbered group.depth own.number s) ++ more) behind → MembersFit group.level group.depth own.last (told t count ∷ (gs
            ++ fs)) (Stands.group {t = t} may opening i g s) below more y later
        deeper position taken =
            let first = entries-start (group.depth + 1) 0 g in
            absurd (not_deeper rules x rest (group.depth + 1) _ refl (entry_gives rules group (reaching own position) below gives) (rw first.1 at taken))

        by_goes : (frames : List (Frame L)) → Goes rules group own below f.tag frames
            → Takes rules x rest frames ((numbered (group.depth + 1) 0 g ++ numbered group.depth own.number s) ++ more) behind
            → MembersFit group.level group.depth own.last (told t count ∷ (gs ++ fs)) (Stands.group {t = t} may opening i g s) below more y later
        by_goes _ (goes-plain {position} r o) taken = deeper position taken
        by_goes _ (goes-joins j) taken = deeper own.last taken
        by_goes _ (goes-count {inner} {position} r o deep) taken =
            let cut = reads_split message y later behind gs fs reads in
            let e = within (nested group f.tag inner) 0 (entry group (reaching own position) ∷ below) (numbered group.depth own.number s
            ++ more) behind cut.next cut.rest (entry_gives rules group (reaching own position) below gives) (members_head group.depth
            own.number more s (deeper_head group.depth own.number head)) cut.reads_first (rw (append_assoc (numbered
            (group.depth + 1) 0 g) (numbered group.depth own.number s) more) at taken) in
            let m = inside group (reaching own position) below more (field cut.next cut.rest) y later gives head cut.reads_second e.onward in
            let leaves : Leaves rules inner cut.next.tag = record { no_delimiter = e.no_delimiter; no_position = (e.untaken (some-fields _ d n g refl)).0; not_accepted = (e.untaken (some-fields _ d n g refl)).1 } in
            record { fits = Fits.nested (rw same at r) (rw same at o) deep (rw cut.tag_is at leaves) (rw cut.tag_is at e.fits) m.fits; at = m.at; ended-there = m.ended-there; onward = m.onward }

    -- behind the last entry, if it is the last
    behind-last : (gs : List Told) (next : Field) (y : Field) (level : L) (depth last : ℕ) → next.tag ≡ tag_behind y.tag gs → entry_kind rules level depth last next.tag ≡ ends → opens rules level y.tag ≡ false → (1 ≤ length gs → Untaken level y.tag) → Untaken level y.tag
    unfolding tag_behind
    behind-last [] next y level depth last tag k o h = ends_untaken level depth last y.tag (rw tag at k) o
    behind-last (g ∷ gs) next y level depth last tag k o h = h (omega arith)

    exact_starts : {c d n : ℕ} {v : List ℕ} {ts : List ℕ} {fs gs : List Told} (may : Here d) (single : NoCount T d) (m : Stands T Here (members ts) fs)
        (own : All (T.Member c) (d ∷ ts)) (once : Once (d ∷ ts)) (g : Stands T Here (entries c d n) gs) → MembersExact fs m → EntriesExact gs g →
        EntriesExact (told d v ∷ (fs ++ gs)) (Stands.entry (Stands.field {t = d} {v = v} may single m) own once g)
    unfolding numbered
    exact_starts {c} {d} {n} {v} {ts} {fs} {gs} may single m own once g inside others group number below more _ y later gives head (one_field {f = f} {rest = behind} same value reads) (takes here {more = frames} e taken) =
        let goes = run-goes rules group number below gives here f.tag frames (number + 1) e in
        let cut = reads_split message y later behind fs gs reads in
        let first = numbered group.depth (number + 1) m in
        let theirs = numbered group.depth (number + 1) g in
        let apart = rw (goes.1, append_assoc first theirs more) at taken in
        let a = inside group (record { number = number + 1; last = 0; start = here }) (run group (number + 1) ∷ below) (theirs ++ more) behind cut.next cut.rest (run_gives rules group (number + 1) below gives) (entries_head group.depth (number + 1) more g head) cut.reads_first apart in
        let b = others group (number + 1) below more (field cut.next cut.rest) y later gives head cut.reads_second a.onward in
        record {
          fits = Fits.starts (rw same at goes.0) (rw cut.tag_is at a.fits) b.fits;
          no_delimiter = b.no_delimiter;
          untaken = λ some. behind-last gs cut.next y group.level group.depth a.at cut.tag_is a.ended-there b.no_delimiter b.untaken;
          onward = b.onward;
        }

    -- a delimiter that is a group of the standard has no entries of its own
    exact_group-first : {c d n e k : ℕ} {count : List ℕ} {ts : List ℕ} {hs fs gs : List Told} (may : Here d) (opening : T.Group d e) (i : Int count
        (suc k)) (h : Stands T Here (entries d e (suc k)) hs) (m : Stands T Here (members ts) fs) (own : All (T.Member c) (d ∷ ts)) (once : Once (d
        ∷ ts)) (g : Stands T Here (entries c d n) gs) → EntriesExact ((told d count ∷ (hs ++ fs))
        ++ gs) (Stands.entry (Stands.group {t = d} may opening i h m) own once g)
    unfolding numbered
    exact_group-first may opening i h m own once g group number below more _ y later gives head (one_field {f = f} same value reads) (takes here {more = frames} e taken) =
        let goes = run-goes rules group number below gives here f.tag frames (number + 1) e in
        let first = entries-start (group.depth + 1) 0 h in
        let deeper = entry_gives rules group (record { number = number + 1; last = 0; start = here }) (run group (number + 1) ∷ below) (run_gives rules group (number + 1) below gives) in
        absurd (not_deeper rules x rest {ns = ((first.0 ++ numbered group.depth (number + 1) m) ++ numbered group.depth (number + 1) g) ++ more} (group.depth + 1) (group.depth + 1, 0 + 1) refl deeper (rw (goes.1, first.1) at taken))

    abbrev Exact : (stretch : Stretch) (fs : List Told) → Stands T Here stretch fs → Type 0
    Exact (members ts) fs s = MembersExact fs s
    Exact (entries c d n) fs s = EntriesExact fs s

    exact : {stretch : Stretch} {fs : List Told} (s : Stands T Here stretch fs) → Exact stretch fs s
    exact Stands.no_member = exact_no_member
    exact (Stands.field may single s) = exact_field may single s (exact s)
    exact (Stands.group may opening i g s) = exact_group may opening i g s (exact g) (exact s)
    exact Stands.no_entry = exact_no_entry
    exact (Stands.entry (Stands.field may single m) own once g) = exact_starts may single m own once g (exact m) (exact g)
    exact (Stands.entry (Stands.group may opening i h m) own once g) = exact_group-first may opening i h m own once g

    nothing_gives : (depth : ℕ) → Gives rules (Above depth) []
    unfolding decide given
    nothing_gives depth here tag more d n e = let y : ◌≡◌ {A = ℕ} 0 1 = cc in absurd (omega arith)

    same-behind : (done a b : List Record) → done ++ a ≡ done ++ b → a ≡ b
    same-behind done a b e = sym (drop-append_seam done a) ∙ ap (λ (l : List Record). drop (length done) l) e ∙ drop-append_seam done b

    -- what is read as exactly its entries fits, and the field behind it is none that the group takes
    pub group_fits : {c d n : ℕ} {gs : List Told} (s : Stands T Here (entries c d (suc n)) gs) (group : OpenGroup L) (left : ℕ) (done : List Record) (fields : Fields) → ReadsAs message fields gs (field x rest)
        → walk rules list_store (length gs + suc left) (run group 0 ∷ []) done fields
        ≡ ended x rest left (done ++ records_as (numbered group.depth 0 s) fields)
        → (Fits rules (entries_of group.level group.depth) x.tag (entries c d (suc n)) gs s) × (Leaves rules group.level x.tag)
    group_fits {c} {d} {n} {gs} s group left done fields reads e =
        let records : List Record = records_as (numbered group.depth 0 s) fields in
        let each : length records ≡ length gs = tell_each (records_tell message fields (field x rest) gs (numbered group.depth 0 s) reads (numbered_each group.depth 0 s)) in
        let w = walk-takes rules (length gs + suc left) (run group 0 ∷ []) done fields x rest left (done ++ records) (omega (arith, length-append done records)) e in
        let same : w.numbers ≡ numbered group.depth 0 s = same_numbers rules message gs (field x rest) (numbered group.depth 0 s) w.taken reads (numbered_each group.depth 0 s) (same-behind done _ _ (sym w.records)) in
        let taken : Takes rules x rest (run group 0 ∷ []) (numbered group.depth 0 s ++ []) fields = rw (append-nil (numbered group.depth 0 s), ← same) w.taken in
        let r = exact s group 0 [] [] fields x rest (nothing_gives group.depth) head_none reads taken in
        let untaken = r.untaken (some-fields c d n s refl) in
        (r.fits, record { no_delimiter = r.no_delimiter; no_position = untaken.0; not_accepted = untaken.1 })

-- THE STANDARD, repeating groups: a group of the standard is read as exactly its entries, up to the field behind them, where it fits its layout
-- and that field is none that it takes; and only there.
pub group_exact : {T : Tables} {Here : ℕ → Type 0} {c d n : ℕ} {gs : List Told} (s : Stands T Here (entries c d (suc n)) gs) (message : List ℕ) (accepts : ℕ → Bool) (layout : Layout) (tag left : ℕ) (fields : Fields) (x : Field) (rest : Fields) → ReadsAs message fields gs (field x rest)
    → (walk (layout_rules accepts) list_store (length gs + suc left) (run (outermost tag layout) 0 ∷ []) [] fields
    ≡ ended x rest left (records_as (numbered 1 0 s) fields)) ↔ ((Fits (layout_rules accepts) (entries_of layout 1) x.tag (entries c d (suc n)) gs s)
    × (Leaves (layout_rules accepts) layout x.tag))
group_exact s message accepts layout tag left fields x rest reads =
    (λ e. group_fits (layout_rules accepts) message x rest _ _ s (outermost tag layout) left [] fields reads e, λ f. layout_group-read message accepts s layout tag left fields x rest f.0 f.1 reads)
