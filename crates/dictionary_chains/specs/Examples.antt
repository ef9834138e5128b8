-- Worked examples of the index: tags that share a head, each table under one statement that antt computes. A wrong definition is
-- refused here, whatever code is proved against it.
use Rattle.std.specs.Prelude.{◌≡◌, refl, List, [], ◌∷◌, map, ℕ, ◌+◌, ◌/◌, ◌%◌, take, drop, set, replicate}
use Rattle.dictionary_chains.specs.Chain.{entry_start, index_words, key_of, rank_of, head_of, word_at, entry_at, link_at, branch_of, key_room, most_turns, strayed, climbed, followed, way_of, found, written, branched, number_at, entered_at, entered}
use Rattle.dictionary_chains.specs.declared.Table.{Table}
use Rattle.dictionary_chains.specs.declared.Table.TheVariants.{Tags, Components, MsgTypes}
use Rattle.dictionary_chains.specs.declared.Entry.{Entry}

-- a tag and the place of its record
abbrev tagged : ℕ → ℕ → Entry
tagged place tag = record { place = place; first = tag % 65536; second = tag / 65536; third = 0; fourth = 0 }

-- an index ends behind the entry of the last place
room : index_words ≡ entry_start (number_at 59999) + 6
unfolding number_at
room = refl

-- keys fill the room of their table: the largest is made of the largest words
abbrev filled : Entry
filled = record { place = 0; first = 65535; second = 65535; third = 65535; fourth = 65535 }

rooms : map (λ (table : Table). key_of table filled + 1) (Tags ∷ Components ∷ MsgTypes ∷ []) ≡ map key_room (Tags ∷ Components ∷ MsgTypes ∷ [])
unfolding key_of key_room
rooms = refl

-- branches and tag of an entry
abbrev shown : List ℕ → ℕ → List ℕ
shown index number = take 4 (drop (entry_start number) index)

-- an index where tags hang that leave 5 when divided by 2048: its entries, what is found, also in another table, the place of an entry,
-- also when its tag is entered again, and what is found by other links from it
abbrev told : List ℕ → List (List ℕ) × List ℕ × ℕ × List ℕ × List ℕ
told index = (
  map (shown index) (4 ∷ 9 ∷ 14 ∷ 19 ∷ []),
  map (found Tags index) (5 ∷ 2053 ∷ 4101 ∷ 6149 ∷ 8197 ∷ 10245 ∷ 6 ∷ []),
  found Components index 5,
  map (λ (after : List ℕ). (entry_at after (found Tags after 2053)).place) (index ∷ entered Tags index (tagged 40 2053) ∷ []),
  map (λ (link : ℕ). found Tags (set index (entry_start 9 + 1) link) 6149) (19 ∷ 9 ∷ 4 ∷ 0 ∷ 60004 ∷ []),
)

-- 0, 1, 2 and 3 are left of the tags: the first entry leads to the third by 0 and to the second by 1, and that to the fourth by 1.
-- Each is found, and no other tag of their head. A tag that is entered again keeps its place. Only a link that rises is followed.
trees : told (entered Tags (entered Tags (entered Tags (entered Tags (replicate 6200 0) (tagged 0 5)) (tagged 5 2053)) (tagged 10 4101)) (tagged 15 6149))
    ≡ (
      (14 ∷ 9 ∷ 5 ∷ 0 ∷ []) ∷ (0 ∷ 19 ∷ 2053 ∷ 0 ∷ []) ∷ (0 ∷ 0 ∷ 4101 ∷ 0 ∷ []) ∷ (0 ∷ 0 ∷ 6149 ∷ 0 ∷ []) ∷ [],
      4 ∷ 9 ∷ 14 ∷ 19 ∷ 0 ∷ 0 ∷ 0 ∷ [],
      0,
      5 ∷ 5 ∷ [],
      19 ∷ 0 ∷ 0 ∷ 0 ∷ 0 ∷ [],
    )
unfolding entered entered_at written branched number_at found way_of followed climbed strayed most_turns key_room link_at branch_of entry_at word_at key_of head_of rank_of
trees = refl
