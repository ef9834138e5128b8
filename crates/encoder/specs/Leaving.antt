-- What is known of a message that is to be written and changed: it was found fit, and its BodyLength is known.
use Rattle.std.specs.Prelude.{ℕ, ◌≤◌, ◌≡◌, true, List, length}
use Rattle.message_lent_rules.specs.Lent.{is_message}
use Rattle.message_lent_rules.specs.Meaning.{message_in}
use Rattle.message_rules.specs.Changes.{field_total}
use Rattle.encode_rules.specs.Encoding.{dropped, body_length, encoding, encoded_message}

pub record Encodable (separator : ℕ) (words values output : List ℕ) (body : ℕ) : Type 0 where
  pub message : is_message words values ≡ true
  pub measured : body ≡ body_length (dropped (message_in words values))
  pub short : length (encoding separator (message_in words values)) ≤ 8192
  pub few : field_total (encoded_message separator (message_in words values)) ≤ 1024
  pub room : length (encoding separator (message_in words values)) ≤ length output
