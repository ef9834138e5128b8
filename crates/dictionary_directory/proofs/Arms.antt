-- What an arm says that stands for several cases: no rows were made, no record can be read, or it opens no message.
use mathlib.Core.Path.{◌≡◌, refl, sym}
use mathlib.Core.Bool.{true, false}
use mathlib.Core.List.{List}
use Prim.Native.Nat.{ℕ, ◌<◌}
use lib.ListN.{replicate}
use Rattle.dictionary_rules.specs.Record.{record_at}
use Rattle.dictionary_rules.specs.declared.Record.{Record}
use Rattle.dictionary_rules.specs.declared.Record.TheVariants.{KnownTag, OpensComponent, OpensMessage, FieldItem, ComponentItem, OpensGroup, Closes}
use Rattle.dictionary_rules.specs.declared.RecordRead.{RecordRead}
use Rattle.dictionary_rules.specs.declared.RecordRead.TheVariants.{Whole, Bad, End}
use Rattle.dictionary_meaning_rules.specs.MessageTable.{Tabling, tabling, placed_table}
use Rattle.dictionary_meaning_rules.specs.declared.MessageTable.{MessageTable}
use Rattle.dictionary_meaning_rules.specs.declared.MessageTable.TheVariants.{Rows, NoMessage, Unprepared}
use Rattle.dictionary_directory.specs.Directory.{longest, Filling, filling, lay_message, is_message, messages_from, lay_messages, laid_alone, laid_over}
use Rattle.dictionary_directory.proofs.LayingFacts.{message-none, message_unprepared, rest_end, rest-bad}
use Rattle.std.proofs.Common.{Some, None}

-- rows that were made are as many as their arm names
pub made_as : {r named : MessageTable} {rows : List ℕ} {made : Tabling} → tabling r rows ≡ made → r ≡ named → tabling named rows ≡ made
made_as e n = cc

-- no rows: nothing is laid
pub unlaid : (d index : List ℕ) (place : ℕ) (tables : List ℕ) (free : ℕ) → place < longest → (r : MessageTable) (rows : List ℕ) →
    tabling r rows ≡ placed_table d index (Some place) (replicate 4096 0) → ((count : ℕ) → r ≡ Rows count → ⊥) →
    lay_message d index place (filling tables free) ≡ filling tables free
unlaid d index place tables free near (Rows count) rows e k = absurd (k count refl)
unlaid d index place tables free near NoMessage rows e k = message-none d index place tables free near rows e
unlaid d index place tables free near Unprepared rows e k = message_unprepared d index place tables free near rows e

-- no rows: no table by itself
pub unlaid_alone : {told : Tabling} (r : MessageTable) (rows : List ℕ) → tabling r rows ≡ told → ((count : ℕ) → r ≡ Rows count → ⊥) → (table : List ℕ) →
    (None ≡ laid_alone told) × (table ≡ laid_over told table)
unfolding laid_alone laid_over
unlaid_alone (Rows count) rows e k table = absurd (k count refl)
unlaid_alone NoMessage rows e k table = rw (← e) (refl, refl)
unlaid_alone Unprepared rows e k table = rw (← e) (refl, refl)

-- no record: all is laid
pub unread : (d index : List ℕ) (at : ℕ) (sofar : Filling) (read : RecordRead) → read ≡ record_at d at → ((r : Record) (next : ℕ) → read ≡ Whole r next → ⊥) →
    lay_messages d index (messages_from d at) sofar ≡ sofar
unread d index at sofar (Whole r next) e k = absurd (k r next refl)
unread d index at sofar Bad e k = rest-bad d index at sofar (sym e)
unread d index at sofar End e k = rest_end d index at sofar (sym e)

pub a-message : {r : Record} (msg_type : ℕ) → r ≡ OpensMessage msg_type → is_message r ≡ true
unfolding is_message
a-message msg_type e = rw e

pub no_message : (r : Record) → ((msg_type : ℕ) → r ≡ OpensMessage msg_type → ⊥) → is_message r ≡ false
unfolding is_message
no_message (OpensMessage msg_type) k = absurd (k msg_type refl)
no_message (KnownTag tag) k = refl
no_message (OpensComponent number) k = refl
no_message (FieldItem tag required) k = refl
no_message (ComponentItem required number) k = refl
no_message (OpensGroup tag required) k = refl
no_message Closes k = refl
