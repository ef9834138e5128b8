-- For worked examples here and in other crates: whoever unfolds `reading-fields` computes with stage one, whatever definitions it is made of.
use Rattle.std.specs.Prelude.{ℕ}
use Rattle.field_rules.specs.Find.{find_in}
use Rattle.field_rules.specs.Number.{is_digit, all_digits, worth, number_in, non_zero, tag_of}
use Rattle.field_rules.specs.Field.{field_from, field_at, with_equals, with_separator, with_tag, value_of}
use Rattle.field_rules.specs.Fields.{followed_by, fields_within, fields_from}

unfoldable pub reading-fields : ℕ
unfolding fields_from fields_within followed_by field_at field_from with_equals with_separator with_tag find_in tag_of non_zero number_in is_digit all_digits worth value_of
reading-fields = 0
