-- The tags that a message is read with: those of the two tables that are kept, or those that are listed, whose tables are laid where they are asked for.
use Rattle.std.proofs.Math.Path.{◌≡◌, refl}
use Rattle.std.proofs.Common.{sym, ap, ◌∙◌, length-append, length-drop, take_at, length-take-le, Option, Some, None}
use Rattle.std.specs.Prelude.{List, ◌++◌, ℕ, ◌+◌, ◌≤◌, length, take, drop}
use native.Mathlib.Omega.{arith}
use Rattle.build_config.specs.declared.Config.{Config}
use Rattle.dictionary_tables_rules.specs.Laid.{table_size, table_of}
use Rattle.dictionary_tables_rules.proofs.Tabled.{table-length}
use Rattle.dictionary_tables_rules.specs.Tags.{fields_of, tags_found}
use Rattle.dictionary_tables_rules.proofs.TagsLaws.{tags_found_lem}
use Rattle.dictionary_directory.specs.Directory.{tags_listed, tags_at, tag_words}
use Rattle.dictionary_directory.proofs.DirectoryLaws.{tags_lie}
use Rattle.builder.specs.declared.Tags.{Tags}
use Rattle.builder.specs.declared.Tags.TheVariants.{Both, Listed}
use Rattle.builder.specs.Reading.{both_of, tags_kept, headers_by, trailers_by}
use Rattle.builder.specs.Through.{message_by, message_kept, message_through}

-- a table that was laid over the first words stands for its tags and lies in the words
pub record TagsLaid (tags after : List ℕ) (size : ℕ) : Type 0 where
  pub stands : tags_found (take size after) ≡ tags
  pub within : size ≤ length after
  pub cut : size ≡ length (take size after)

module _ (tags words after : List ℕ) (size : ℕ) (all : length words ≡ tag_words) (laid : after ≡ table_of (fields_of tags) ++ drop size words) where
  pub tags-laid : size ≡ table_size (fields_of tags) → size ≤ tag_words → TagsLaid tags after size
  tags-laid sized fits =
      let long = table-length (fields_of tags) in
      let more = ap length laid ∙ length-append (table_of (fields_of tags)) (drop size words) in
      let within : size ≤ length after = omega (arith, length-drop size words) in
      record {
        stands = ap tags_found (ap (take size) laid ∙ take_at (table_of (fields_of tags)) (drop size words) size (long ∙ sym sized)) ∙ tags_found_lem tags;
        within = within;
        cut = sym (length-take-le size after within);
      }

-- both tables are kept, or one of them is not
module _ (tables : List ℕ) where
  pub kept-none : None ≡ tags_at tables 0 → Listed ≡ tags_kept tables
  unfolding tags_kept both_of
  kept-none e = rw (← e)

  module _ (from size : ℕ) (header : Some (from, size) ≡ tags_at tables 0) where
    pub kept_half : None ≡ tags_at tables 1 → Listed ≡ tags_kept tables
    unfolding tags_kept both_of
    kept_half e = rw (← header, ← e)

    pub kept-both : (start long : ℕ) → Some (start, long) ≡ tags_at tables 1 → Both from size start long ≡ tags_kept tables
    unfolding tags_kept both_of
    kept-both start long e = rw (← header, ← e)

-- two tables that lie in the words
pub record BothLie (tables : List ℕ) (from size start long : ℕ) : Type 0 where
  pub header : from + size ≤ length tables
  pub trailer : start + long ≤ length tables

module _ (tables : List ℕ) (tags : Tags) (is : tags ≡ tags_kept tables) where
  pub both_lie : (from size start long : ℕ) → tags ≡ Both from size start long → BothLie tables from size start long
  unfolding tags_kept
  both_lie from size start long e = go (tags_at tables 0) (tags_at tables 1) refl refl (sym is ∙ e)
    where
      go : (header trailer : Option (ℕ × ℕ)) → tags_at tables 0 ≡ header → tags_at tables 1 ≡ trailer → both_of header trailer ≡ Both from size start long →
          BothLie tables from size start long
      go (Some (a, b)) (Some (c, d)) h t q =
          unfold both_of in
          let header = tags_lie tables 0 a b h in
          let trailer = tags_lie tables 1 c d t in
          let starts : a ≡ from = cc in
          let sized : b ≡ size = cc in
          let behind : c ≡ start = cc in
          let also : d ≡ long = cc in
          record { header = omega arith; trailer = omega arith }
      go (Some (a, b)) None h t q = unfold both_of in let z : ◌≡◌ {A = ℕ} 0 1 = cc in absurd (omega arith)
      go None trailer h t q = unfold both_of in let z : ◌≡◌ {A = ℕ} 0 1 = cc in absurd (omega arith)

  -- a message is read with these tags
  pub through_tags : (records index : List ℕ) (config : Config) (message : List ℕ) → message_through records index tables config message
      ≡ message_by records index tables config message (headers_by records index tables tags) (trailers_by records index tables tags)
  unfolding tags_kept message_through
  through_tags records index config message = rw is (go (tags_at tables 0) (tags_at tables 1))
    where
      go : (header trailer : Option (ℕ × ℕ)) → message_kept records index tables config message header trailer
          ≡ message_by records index tables config message (headers_by records index tables (both_of header trailer))
          (trailers_by records index tables (both_of header trailer))
      go (Some (from, size)) (Some (start, long)) = unfold message_kept both_of headers_by trailers_by in refl
      go (Some (from, size)) None = unfold message_kept both_of headers_by trailers_by in refl
      go None trailer = unfold message_kept both_of headers_by trailers_by in refl

module _ (records index tables : List ℕ) {tags : Tags} where
  -- of a table that is kept, the words that are cut out
  module _ (from size start long : ℕ) (is : tags ≡ Both from size start long) (n : ℕ) where
    pub headers_kept : n ≡ size → tags_found (take n (drop from tables)) ≡ headers_by records index tables tags
    unfolding headers_by
    headers_kept e = rw (is, e)

    pub trailers-kept : n ≡ long → tags_found (take n (drop start tables)) ≡ trailers_by records index tables tags
    unfolding trailers_by
    trailers-kept e = rw (is, e)

  pub headers_listed : tags ≡ Listed → tags_listed records index 0 ≡ headers_by records index tables tags
  unfolding headers_by
  headers_listed e = rw e

  pub trailers-listed : tags ≡ Listed → tags_listed records index 1 ≡ trailers_by records index tables tags
  unfolding trailers_by
  trailers-listed e = rw e
