-- `name_of` meets its contract: it reads backwards, and what was read so far is the number of the bytes behind those that are left.
use Rattle.std.proofs.Common.{◌≡◌, take, length}
use Rattle.dictionary_meaning_rules.proofs.MsgTypeLaws.{ReadBack}
use Rattle.dictionary_flattening.proofs.name_of.Given as goal

abbrev pub invariant-loop-byte : goal.invariant-loop-byte
invariant-loop-byte l =
    let left = l.byte-iterator.iter.rest.now in
    record { front : left ≡ take (length left) l.msgtype; read : ReadBack l.msgtype l.number (length left) }
