-- Laying tables: what is stored in front of a block. Its laws stand in proofs/LayingFacts.antt.
use Rattle.std.specs.Prelude.{List, ℕ, ◌+◌, ◌/◌, set}
use Rattle.dictionary_directory.specs.Directory.{block_stride}

-- the two words of a block in front of its table are stored, and the one of the directory that leads to it
unfoldable pub headed : List ℕ → ℕ → ℕ → ℕ → ℕ → List ℕ
headed tables slot place size free = set (set (set tables free size) (free + 1) place) slot (free / block_stride)
