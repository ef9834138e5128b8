use mathlib.Core.Path.{refl, sym, ap, ◌∙◌}
use Prim.Native.Nat.{suc, ◌+◌, ◌/◌, ◌<◌, ◌^◌}
use native.Mathlib.Omega.{arith}
use lib.ListN.{length}
use Rattle.build_records.specs.Records.{stride}
use Rattle.build_parts.specs.Parts.{part_record, part_of, part_told, Ends}
use Rattle.build_parts.specs.PartLaws.{stays_at}
use Rattle.build_body_rules.specs.Body.{and_then}
use Rattle.build_body_rules.specs.Kinds.{meant_by}
use Rattle.build_body_rules.proofs.BodyReading.{part_room, left-refused, left-plain, left-run, left_other, stays_on, room_falls}
use Rattle.build_body_rules.specs.Seen.{Covers}
use Rattle.build_body_rules.proofs.SeenLaws.{follows_at, follows_plain, follows_run}
use Rattle.build_body.proofs.read_on.Goals as goal
use Rattle.build_body.proofs.read_on.Goals.{In-Ok}

pub loop-reading-init : goal.loop-reading-init
unfolding part_room
loop-reading-init c = (
  refl,
  stays_at _ _ _ _ _ refl _ _ (record { fits = c.requires.message_len_bound.3; inside = c.requires.message_len_bound.1; starts = c.requires.message_len_bound.2; falls = omega arith }),
  λ trailers. refl,
  refl,
  follows_at _ _ _ _ _ c.requires.covers,
)

pub shape_of-words-in_default : goal.shape_of-words-in_default
shape_of-words-in_default c = c.loop-reading.invariant.0

pub shape_of-seen-in_default : goal.shape_of-seen-in_default
shape_of-seen-in_default c = c.loop-reading.invariant.3

pub returns-in_default : goal.returns-in_default
unfolding part_told and_then part_room
returns-in_default c = record { by_index = λ trailers. sym (c.loop-reading.invariant.2 trailers ∙ left-refused _ _ _ _ _ _ _ _ _ _ c.in_default.is); stays = c.loop-reading.invariant.1 }

pub kind_of-requires : goal.kind_of-requires
kind_of-requires c = c.requires.index_len

-- where reading stands
ends : (c : In-Ok) → Ends c.args.message.now c.args.words.now c.args.from (suc c.args.progress.room) c.in-Ok.field c.in-Ok.so_far
unfolding part_room
ends c = c.loop-reading.invariant.1.ends _ _ c.in-Ok.is

-- what the steps of the body ask
record Asks (c : In-Ok) : Type 0 where
  short : length c.args.message.now < 2 ^ 32
  fits : c.in-Ok.so_far.records + c.in-Ok.so_far.room < length c.loop-reading.words / stride
  words-short : length c.loop-reading.words < 2 ^ 32
  covers : Covers c.loop-reading.seen (part_of c.args.from c.in-Ok.so_far.records c.loop-reading.words)

asks : (c : In-Ok) → Asks c
asks c = let e = ends c in
    record { short = c.requires.message_len_bound.0; fits = omega (arith, e.fits, c.loop-reading.invariant.0); words-short = omega (arith, c.requires.message_len_bound.4, c.loop-reading.invariant.0); covers = c.loop-reading.invariant.4.covers _ _ c.in-Ok.is }

pub read_plain-reading-requires : goal.read_plain-reading-requires
read_plain-reading-requires c = let a = asks (goal.at.read_plain-reading-requires c).In-Ok in
    let e = ends (goal.at.read_plain-reading-requires c).In-Ok in
    record { message_len_bound = (a.short, e.inside, e.starts, a.fits); covers = a.covers }

pub loop-reading-smaller-in-Plain : goal.loop-reading-smaller-in-Plain
loop-reading-smaller-in-Plain c = room_falls _ _ _ _ _ _ _ _ c.in-Ok.is c.read_plain-reading.ensures.stays

pub loop-reading-preserved-in-Plain : goal.loop-reading-preserved-in-Plain
unfolding meant_by part_room part_record
loop-reading-preserved-in-Plain c = (
  c.read_plain-reading.auto.words ∙ c.loop-reading.invariant.0,
  stays_on _ _ _ _ _ _ _ _ c.loop-reading.invariant.0 c.loop-reading.invariant.1.before (ends (goal.at.loop-reading-preserved-in-Plain c).In-Ok).falls c.read_plain-reading.ensures.stays,
  λ trailers. c.loop-reading.invariant.2 trailers
      ∙ left-plain _ _ _ _ _ _ _ _ _ _ _ c.in-Ok.is
      (sym c.kind_of.ensures ∙ ap meant_by c.in-Plain.is) _ _ c.read_plain-reading.ensures.words_after,
  c.read_plain-reading.auto.seen ∙ c.loop-reading.invariant.3,
  follows_plain _ _ _ _ _ _ _ (part_record 2 c.in-Ok.field) _ (asks (goal.at.loop-reading-preserved-in-Plain c).In-Ok).covers c.read_plain-reading.ensures.seen_after _ _ c.read_plain-reading.ensures.words_after,
)

pub read_group-reading-requires : goal.read_group-reading-requires
read_group-reading-requires c = let a = asks (goal.at.read_group-reading-requires c).In-Ok in
    let e = ends (goal.at.read_group-reading-requires c).In-Ok in
    record { message_len_bound = (a.short, e.inside, e.starts, a.fits, a.words-short); index_len = c.requires.index_len; covers = a.covers }

pub loop-reading-smaller : goal.loop-reading-smaller
loop-reading-smaller c = room_falls _ _ _ _ _ _ _ _ c.in-Ok.is c.read_group-reading.ensures.stays

pub loop-reading-preserved : goal.loop-reading-preserved
unfolding meant_by part_room part_record
loop-reading-preserved c = (
  c.read_group-reading.auto.words ∙ c.loop-reading.invariant.0,
  stays_on _ _ _ _ _ _ _ _ c.loop-reading.invariant.0 c.loop-reading.invariant.1.before (ends (goal.at.loop-reading-preserved c).In-Ok).falls c.read_group-reading.ensures.stays,
  λ trailers. c.loop-reading.invariant.2 trailers
      ∙ left-run _ _ _ _ _ _ _ _ _ _ _ c.in-Ok.is _
      (sym c.kind_of.ensures ∙ ap meant_by c.in-Counts.is) _ _ c.read_group-reading.ensures.words_after,
  c.read_group-reading.auto.seen ∙ c.loop-reading.invariant.3,
  follows_run _ _ _ _ _ _ _ (part_record 2 c.in-Ok.field) _ (asks (goal.at.loop-reading-preserved c).In-Ok).covers c.read_group-reading.ensures.seen_after _ _ _ _ _ _ c.read_group-reading.ensures.words_after,
)

pub shape_of-words-in-Other : goal.shape_of-words-in-Other
shape_of-words-in-Other c = c.loop-reading.invariant.0

pub shape_of-seen-in-Other : goal.shape_of-seen-in-Other
shape_of-seen-in-Other c = c.loop-reading.invariant.3

pub returns-in-Other : goal.returns-in-Other
unfolding meant_by part_told and_then part_room
returns-in-Other c = record {
  by_index = λ trailers. sym (c.loop-reading.invariant.2 trailers
      ∙ left_other _ _ _ _ _ _ _ _ _ _ _ c.in-Ok.is (sym c.kind_of.ensures ∙ ap meant_by c.in-Other.is));
  stays = stays_at _ _ _ _ _ c.loop-reading.invariant.1.before _ _ (ends (goal.at.returns-in-Other c).In-Ok);
}
