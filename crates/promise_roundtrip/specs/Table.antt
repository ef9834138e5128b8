-- P1 to P12 of the rules under one statement. P1 to P11: what a build by the dictionary's bytes answers and leaves, whatever words are
-- lent; P12: what the hunt hands out. Each crate's own table computes its part.
use Rattle.std.specs.Prelude.{◌≡◌, false, List, [], ◌++◌, map, ℕ}
use Rattle.build_config.specs.Settings.{validating}
use Rattle.dictionary_rules.proofs.Examples.{examples}
use Rattle.builder.specs.Build.{build_of}
use Rattle.build_rules.specs.Examples.{Row, table}
use Rattle.builder.proofs.Examples.{answers, expected, all_hold}
use Rattle.frame_verdict_rules.specs.Examples.{p1, p2}
use Rattle.frame_verdict_rules.specs.Verdict.{verdict_of}
use Rattle.frame_hunter_rules.proofs.Examples.{examples as hunted}
use Rattle.frame_hunter_rules.specs.Hunt.{framer, take_one}

-- the rows in the rules' order: P1, P2, P3, P4, P5, P6, P7, P8, P9, P10, P11 with validation on, P11 with validation off; then P12, "26 dropped, P1
-- handed out"
pub all_promised : (words : List ℕ) → (map (λ (row : Row). answers words (build_of row.1 (validating row.0) examples 1024 words)) table ≡ map (λ (row : Row). expected words (row.2, row.3, row.4)) table)
    × (take_one verdict_of (framer (p2 ++ p1) 0 false) ≡ record { frame = p1; after = framer [] 26 false })
all_promised words = (all_hold words, hunted)
