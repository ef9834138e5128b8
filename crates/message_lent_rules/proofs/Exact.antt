-- "27 first", exactly: words and values are a message where they lay out a message within the limits, and nowhere else. That message is the
-- only one that they lay out; what stands behind its rows and behind its values is never looked at.
use Rattle.std.specs.Prelude.{◌≡◌, ◌↔◌, true, List, ℕ}
use Rattle.std.proofs.Common.{sym, subst}
use Rattle.message_maps.specs.Map.{Map}
use Rattle.message_maps.specs.Rows.{Row}
use Rattle.message_lent_rules.specs.Lent.{parts_from, rows_of, is_message}
use Rattle.message_lent_rules.specs.LentLaws.{message-held}
use Rattle.message_lent_rules.specs.Meaning.{Message, parts, LaysOut, open_in, outermost, message_in}
use Rattle.message_lent_rules.proofs.MeaningLaws.{laid_means, lent_laid, parts-of}
use Rattle.message_lent_rules.proofs.MeantLaws.{message-meant}
use Rattle.message_lent_rules.specs.Formed.{Within}
use Rattle.message_lent_rules.proofs.FormedLaws.{lent_formed, lays_message}

-- a message within the limits that words and values lay out
pub record MessageLaid (words values : List ℕ) : Type 0 where
  pub message : Message
  pub within : Within message
  pub layout : LaysOut (parts message) words values

-- what is lent as a message lays out the message that it means
pub lent_layout : (words values : List ℕ) → is_message words values ≡ true → LaysOut (parts (message_in words values)) words values
unfolding message_in
lent_layout words values h =
    let held = message-held words values h in
    let map = outermost (open_in (rows_of words) values) in
    let same = parts-of map (subst (λ (r : List Row). parts_from 1 r ≡ true) (laid_means words values held.laid).0 held.parts) in
    subst (λ (m : Map). LaysOut m words values) same (lent_laid words values held.laid)

pub message_exact : (words values : List ℕ) → (is_message words values ≡ true) ↔ MessageLaid words values
message_exact words values = (
  λ h. record { message = message_in words values; within = lent_formed words values h; layout = lent_layout words values h },
  λ l. lays_message l.message words values l.layout l.within.formed l.within.few,
)

-- there is no second one
pub message_only : (words values : List ℕ) (l : MessageLaid words values) → l.message ≡ message_in words values
message_only words values l = sym (message-meant l.message words values l.layout)
