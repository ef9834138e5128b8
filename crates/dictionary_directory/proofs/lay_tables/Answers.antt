use mathlib.Core.Path.{◌≡◌, refl, sym, ◌∙◌}
use native.Mathlib.Omega.{arith}
use lib.ListN.{length}
use Rattle.dictionary_rules.specs.Record.{record_at}
use Rattle.dictionary_rules.specs.RecordsLaws.{record_falls}
use Rattle.dictionary_rules.specs.declared.RecordRead.TheVariants.{Whole}
use Rattle.dictionary_directory.proofs.LayingFacts.{rest-message, rest-other, lay_short, lay_all}
use Rattle.dictionary_directory.proofs.Arms.{unread, a-message, no_message}
use Rattle.dictionary_directory.proofs.lay_tables.Goals as goal
use Rattle.dictionary_directory.proofs.lay_tables.Goals.{In-Whole}

pub returns-then-tables-lt-DIRECTORY : goal.returns-then-tables-lt-DIRECTORY
returns-then-tables-lt-DIRECTORY c = sym (lay_short _ _ _ c.if-tables-lt-DIRECTORY.true)

pub lay_listed-header-requires : goal.lay_listed-header-requires
lay_listed-header-requires c =
    let clear_kept : length c.clear_directory.new.tables ≡ length c.args.tables.now = c.clear_directory.auto.tables in
    (c.requires, omega (arith, clear_kept, c.if-tables-lt-DIRECTORY.false), omega arith)

pub lay_listed-free-requires : goal.lay_listed-free-requires
lay_listed-free-requires c =
    let clear_kept : length c.clear_directory.new.tables ≡ length c.args.tables.now = c.clear_directory.auto.tables in
    let header-kept : length c.lay_listed-header.new.tables ≡ length c.args.tables.now = c.lay_listed-header.auto.tables ∙ clear_kept in
    (c.requires, omega (arith, header-kept, c.if-tables-lt-DIRECTORY.false), omega arith)

pub loop-read-init : goal.loop-read-init
loop-read-init c =
    let clear_kept : length c.clear_directory.new.tables ≡ length c.args.tables.now = c.clear_directory.auto.tables in
    let header-kept : length c.lay_listed-header.new.tables ≡ length c.args.tables.now = c.lay_listed-header.auto.tables ∙ clear_kept in
    let trailer-kept : length c.lay_listed-free.new.tables ≡ length c.args.tables.now = c.lay_listed-free.auto.tables ∙ header-kept in
    (omega (arith, trailer-kept, c.if-tables-lt-DIRECTORY.false), refl, refl)

read_here : (c : In-Whole) → record_at c.args.dictionary.now c.loop-read.at ≡
    Whole c.in-Whole.read c.in-Whole.next
read_here c = sym c.record_at.ensures ∙ c.in-Whole.is

pub shape_of-tables-in_default : goal.shape_of-tables-in_default
shape_of-tables-in_default c =
    let clear_kept : length c.clear_directory.new.tables ≡ length c.args.tables.now = c.clear_directory.auto.tables in
    let header-kept : length c.lay_listed-header.new.tables ≡ length c.args.tables.now = c.lay_listed-header.auto.tables ∙ clear_kept in
    let trailer-kept : length c.lay_listed-free.new.tables ≡ length c.args.tables.now = c.lay_listed-free.auto.tables ∙ header-kept in
    c.loop-read.invariant.1 ∙ trailer-kept

pub returns-in_default : goal.returns-in_default
returns-in_default c = sym (lay_all _ _ _ c.if-tables-lt-DIRECTORY.false _ _ _ c.clear_directory.ensures c.lay_listed-header.ensures c.lay_listed-free.ensures _ _
    (c.loop-read.invariant.2 ∙ unread _ _ _ _ _ c.record_at.ensures c.in_default.not-Whole))

pub lay_message-free-requires : goal.lay_message-free-requires
lay_message-free-requires c = (c.requires, omega (arith, c.loop-read.invariant.0, c.loop-read.invariant.1))

pub loop-read-smaller-in-OpensMessage : goal.loop-read-smaller-in-OpensMessage
loop-read-smaller-in-OpensMessage c = omega (arith, record_falls _ _ _ _ (read_here (goal.at.loop-read-smaller-in-OpensMessage c).In-Whole))

pub loop-read-preserved-in-OpensMessage : goal.loop-read-preserved-in-OpensMessage
loop-read-preserved-in-OpensMessage c = (
  c.loop-read.invariant.0,
  c.lay_message-free.auto.tables ∙ c.loop-read.invariant.1,
  c.loop-read.invariant.2 ∙ rest-message _ _ _ _ _ _ (read_here (goal.at.loop-read-preserved-in-OpensMessage c).In-Whole) (a-message _ c.in-OpensMessage.is) _ c.lay_message-free.ensures,
)

pub loop-read-smaller : goal.loop-read-smaller
loop-read-smaller c = omega (arith, record_falls _ _ _ _ (read_here (goal.at.loop-read-smaller c).In-Whole))

pub loop-read-preserved : goal.loop-read-preserved
loop-read-preserved c = (c.loop-read.invariant.0, c.loop-read.invariant.1, c.loop-read.invariant.2 ∙ rest-other _ _ _ _ _ _ (read_here (goal.at.loop-read-preserved c).In-Whole) (no_message _ c.in_default-read.not-OpensMessage))
