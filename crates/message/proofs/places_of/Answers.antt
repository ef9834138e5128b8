-- `places_of` meets its contract: each place is the one before it and the sizes between.
use mathlib.Core.Path.{◌≡◌}
use Prim.Native.Nat.{◌+◌}
use native.Mathlib.Omega.{arith}
use Rattle.message_rules.specs.RowChanges.{place_of}
use Rattle.message_rules.specs.PlaceLaws.{place-on, place_grows}
use Rattle.message.proofs.places_of.Goals as goal
use Rattle.message.proofs.places_of.Goals.{After-size_between-from}

from_at : (c : After-size_between-from) → c.size_between-from.result ≡ place_of c.args.words.now c.args.cut.from
unfolding place_of
from_at c = c.size_between-from.ensures

pub overflow_add-kept : goal.overflow_add-kept
overflow_add-kept c =
    let kept_at : c.size_between-from.result + c.size_between.result
    ≡ place_of c.args.words.now c.args.cut.kept = omega (
      arith,
      from_at (goal.at.overflow_add-kept c).After-size_between-from,
      c.size_between.ensures,
      place-on c.args.words.now c.args.cut.from c.args.cut.kept c.requires.0,
    ) in
    omega (
      arith,
      kept_at,
      place_grows c.args.words.now c.args.cut.kept c.args.cut.count (omega (arith, c.requires.2, c.requires.3, c.requires.1)),
      c.requires.6,
    )

pub overflow_add-to : goal.overflow_add-to
overflow_add-to c =
    let kept_at : c.size_between-from.result + c.size_between.result
    ≡ place_of c.args.words.now c.args.cut.kept = omega (
      arith,
      from_at (goal.at.overflow_add-to c).After-size_between-from,
      c.size_between.ensures,
      place-on c.args.words.now c.args.cut.from c.args.cut.kept c.requires.0,
    ) in
    let to_at : c.size_between-from.result + c.size_between.result + c.size_between-2.result ≡ place_of c.args.words.now c.args.cut.to = omega (
      arith,
      kept_at,
      c.size_between-2.ensures,
      place-on c.args.words.now c.args.cut.kept c.args.cut.to c.requires.1,
    ) in
    omega (
      arith,
      to_at,
      place_grows c.args.words.now c.args.cut.to c.args.cut.count (omega (arith, c.requires.2, c.requires.3, c.requires.1)),
      c.requires.6,
    )

pub overflow_add-until : goal.overflow_add-until
overflow_add-until c =
    let kept_at : c.size_between-from.result + c.size_between.result
    ≡ place_of c.args.words.now c.args.cut.kept = omega (
      arith,
      from_at (goal.at.overflow_add-until c).After-size_between-from,
      c.size_between.ensures,
      place-on c.args.words.now c.args.cut.from c.args.cut.kept c.requires.0,
    ) in
    let to_at : c.size_between-from.result + c.size_between.result + c.size_between-2.result ≡ place_of c.args.words.now c.args.cut.to = omega (
      arith,
      kept_at,
      c.size_between-2.ensures,
      place-on c.args.words.now c.args.cut.kept c.args.cut.to c.requires.1,
    ) in
    let until-at : c.size_between-from.result + c.size_between.result + c.size_between-2.result + c.size_between-3.result
    ≡ place_of c.args.words.now c.args.cut.until = omega (
      arith,
      to_at,
      c.size_between-3.ensures,
      place-on c.args.words.now c.args.cut.to c.args.cut.until c.requires.2,
    ) in
    omega (
      arith,
      until-at,
      place_grows c.args.words.now c.args.cut.until c.args.cut.count (omega (arith, c.requires.2, c.requires.3, c.requires.1)),
      c.requires.6,
    )

pub overflow_add-used : goal.overflow_add-used
overflow_add-used c =
    let kept_at : c.size_between-from.result + c.size_between.result
    ≡ place_of c.args.words.now c.args.cut.kept = omega (
      arith,
      from_at (goal.at.overflow_add-used c).After-size_between-from,
      c.size_between.ensures,
      place-on c.args.words.now c.args.cut.from c.args.cut.kept c.requires.0,
    ) in
    let to_at : c.size_between-from.result + c.size_between.result + c.size_between-2.result ≡ place_of c.args.words.now c.args.cut.to = omega (
      arith,
      kept_at,
      c.size_between-2.ensures,
      place-on c.args.words.now c.args.cut.kept c.args.cut.to c.requires.1,
    ) in
    let until-at : c.size_between-from.result + c.size_between.result + c.size_between-2.result + c.size_between-3.result
    ≡ place_of c.args.words.now c.args.cut.until = omega (
      arith,
      to_at,
      c.size_between-3.ensures,
      place-on c.args.words.now c.args.cut.to c.args.cut.until c.requires.2,
    ) in
    let count_at : c.size_between-from.result + c.size_between.result + c.size_between-2.result + c.size_between-3.result
    + c.size_between-4.result ≡ place_of c.args.words.now c.args.cut.count = omega (
      arith,
      until-at,
      c.size_between-4.ensures,
      place-on c.args.words.now c.args.cut.until c.args.cut.count c.requires.3,
    ) in
    omega (arith, count_at, c.requires.6)

pub returns : goal.returns
returns c =
    let kept_at : c.size_between-from.result + c.size_between.result
    ≡ place_of c.args.words.now c.args.cut.kept = omega (
      arith,
      from_at (goal.at.returns c).After-size_between-from,
      c.size_between.ensures,
      place-on c.args.words.now c.args.cut.from c.args.cut.kept c.requires.0,
    ) in
    let to_at : c.size_between-from.result + c.size_between.result + c.size_between-2.result ≡ place_of c.args.words.now c.args.cut.to = omega (
      arith,
      kept_at,
      c.size_between-2.ensures,
      place-on c.args.words.now c.args.cut.kept c.args.cut.to c.requires.1,
    ) in
    let until-at : c.size_between-from.result + c.size_between.result + c.size_between-2.result + c.size_between-3.result
    ≡ place_of c.args.words.now c.args.cut.until = omega (
      arith,
      to_at,
      c.size_between-3.ensures,
      place-on c.args.words.now c.args.cut.to c.args.cut.until c.requires.2,
    ) in
    let count_at : c.size_between-from.result + c.size_between.result + c.size_between-2.result + c.size_between-3.result
    + c.size_between-4.result ≡ place_of c.args.words.now c.args.cut.count = omega (
      arith,
      until-at,
      c.size_between-4.ensures,
      place-on c.args.words.now c.args.cut.until c.args.cut.count c.requires.3,
    ) in
    (from_at (goal.at.returns c).After-size_between-from, kept_at, to_at, until-at, count_at)
