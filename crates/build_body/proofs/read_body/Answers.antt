-- `read_body` meets its contract: it is read on from its first field, with cells that cover whatever the body holds already.
use Rattle.build_body_rules.proofs.SeenLaws.{covers_first}
use Rattle.build_body.proofs.read_body.Goals as goal

pub read_on-requires : goal.read_on-requires
read_on-requires c = record { message_len_bound = c.requires.message_len_bound; index_len = c.requires.index_len; covers = covers_first _ _ _ }
