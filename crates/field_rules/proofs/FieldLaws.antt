-- The laws of reading one field: each way that it goes, where a field lies, and that a field depends on no byte from its end on.
use Rattle.std.specs.Prelude.{◌≡◌, List, [], ℕ, ◌+◌, ◌-◌, ◌≤◌, ◌<◌, length, take, drop}
use Rattle.std.proofs.Common.{arith, drop_of_length-le, Some, None, Ok, Err}
use Rattle.std.proofs.Math.ListN.{length-drop}
use Rattle.std.proofs.Math.Seq.{take_all, take-nil}
use Rattle.field_rules.specs.Find.{find_in}
use Rattle.field_rules.specs.Number.{tag_of}
use Rattle.field_rules.specs.Field.{start_at, field_from, field_at, value_of, with_equals, with_separator, with_tag}
use Rattle.field_rules.specs.declared.Mode.{Mode}
use Rattle.field_rules.specs.declared.Cursor.{Cursor}
use Rattle.field_rules.specs.declared.Field.{Field}
use Rattle.field_rules.specs.declared.Cause.TheVariants.{NoEquals, NoSeparator, BadTag}

module _ (at : ℕ) (mode : Mode) (s : List ℕ) where
  pub no_equals : find_in 61 0 s ≡ None → field_from at mode s ≡ Err (NoEquals, at)
  unfolding field_from with_equals
  no_equals h = rw h

  pub no_separator : (q : ℕ) → find_in 61 0 s ≡ Some q → find_in mode.separator 0 (drop (q + 1) s) ≡ None → field_from at mode s ≡ Err (NoSeparator, at)
  unfolding field_from with_equals with_separator
  no_separator q h e = rw (h, e)

  pub bad-tag : (q n : ℕ) → find_in 61 0 s ≡ Some q → find_in mode.separator 0 (drop (q + 1) s) ≡ Some n → tag_of (take q s) ≡ None → field_from at mode s ≡ Err (BadTag, at)
  unfolding field_from with_equals with_separator with_tag
  bad-tag q n h e t = rw (h, e, t)

  pub one_field : (q n t : ℕ) → find_in 61 0 s ≡ Some q → find_in mode.separator 0 (drop (q + 1) s) ≡ Some n → tag_of (take q s) ≡ Some t → field_from at mode s ≡ Ok (record { first = at; tag = t; place = at + (q + 1); length = n; next = start_at (at + (q + 1) + n + 1) })
  unfolding field_from with_equals with_separator with_tag
  one_field q n t h e g = rw (h, e, g)

-- past the end there is no `=`
pub past_end : (mode : Mode) (message : List ℕ) (c : Cursor) → length message ≤ c.at → field_at mode message c ≡ Err (NoEquals, c.at)
unfolding field_at field_from with_equals find_in
past_end mode message c h = rw (drop_of_length-le message h)

-- the value of a field, wherever the message ends
module _ (message : List ℕ) (f : Field) where
  pub value_past : length message < f.place → value_of message f ≡ []
  unfolding value_of
  value_past h = rw (drop_of_length-le message {i = f.place} (omega arith)) (take-nil f.length)

  pub value_cut : length message - f.place < f.length → value_of message f ≡ drop f.place message
  unfolding value_of
  value_cut h = take_all f.length (drop f.place message) (omega (arith, length-drop f.place message))
