-- `tags_of` meets its contract: the tags are those that were listed, or there are none.
use mathlib.Core.Path.{◌≡◌}
use native.Mathlib.Omega.{arith}
use lib.ListN.{replicate}
use Rattle.dictionary_meaning_rules.specs.PlainTags.{listing, plain_tags}
use Rattle.dictionary_directory.proofs.LayingFacts.{tags-taken, tags-none}
use Rattle.dictionary_directory.proofs.tags_of.Goals as goal

pub returns-in-Some : goal.returns-in-Some
returns-in-Some c =
    let listed_here : listing c.plain_tags.result c.plain_tags.new.tags ≡ plain_tags c.args.dictionary.now c.args.index.now c.args.number (replicate 1024 0) = rw c.requires.1 at c.plain_tags.ensures in
    tags-taken _ _ _ _ _ (listed_here) _ c.in-Some.is

pub returns-in-None : goal.returns-in-None
returns-in-None c =
    let listed_here : listing c.plain_tags.result c.plain_tags.new.tags ≡ plain_tags c.args.dictionary.now c.args.index.now c.args.number (replicate 1024 0) = rw c.requires.1 at c.plain_tags.ensures in
    (tags-none _ _ _ _ _ (listed_here) c.in-None.is, omega arith)
