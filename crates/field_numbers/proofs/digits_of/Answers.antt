-- `digits_of` meets its contract: between two powers of ten a number has as many digits as the higher one has zeros.
-- Each range is such a pair but for the first, which begins at 0.
use Rattle.std.proofs.Common.{length, sym, refl, ap, arith}
use Rattle.field_rules.proofs.DecimalLaws.{decimal_small}
use Rattle.field_numbers.proofs.Powers.{digits_between}
use Rattle.field_numbers.proofs.digits_of.Goals as goal

pub pointed-requires : goal.pointed-requires
pointed-requires c = record { count_value = sym (ap length (decimal_small _ (omega arith))); power_value = refl }

pub pointed-requires-in-10-to-99 : goal.pointed-requires-in-10-to-99
pointed-requires-in-10-to-99 c = record { count_value = digits_between 1 _ (omega arith) (omega arith); power_value = refl }

pub pointed-requires-in-100-to-999 : goal.pointed-requires-in-100-to-999
pointed-requires-in-100-to-999 c = record { count_value = digits_between 2 _ (omega arith) (omega arith); power_value = refl }

pub pointed-requires-in-1000-to-9999 : goal.pointed-requires-in-1000-to-9999
pointed-requires-in-1000-to-9999 c = record { count_value = digits_between 3 _ (omega arith) (omega arith); power_value = refl }

pub pointed-requires-in-10000-to-99999 : goal.pointed-requires-in-10000-to-99999
pointed-requires-in-10000-to-99999 c = record { count_value = digits_between 4 _ (omega arith) (omega arith); power_value = refl }

pub pointed-requires-in-100000-to-999999 : goal.pointed-requires-in-100000-to-999999
pointed-requires-in-100000-to-999999 c = record { count_value = digits_between 5 _ (omega arith) (omega arith); power_value = refl }

pub pointed-requires-in-1000000-to-9999999 : goal.pointed-requires-in-1000000-to-9999999
pointed-requires-in-1000000-to-9999999 c = record { count_value = digits_between 6 _ (omega arith) (omega arith); power_value = refl }

pub pointed-requires-in-10000000-to-99999999 : goal.pointed-requires-in-10000000-to-99999999
pointed-requires-in-10000000-to-99999999 c = record { count_value = digits_between 7 _ (omega arith) (omega arith); power_value = refl }

pub pointed-requires-in-100000000-to-999999999 : goal.pointed-requires-in-100000000-to-999999999
pointed-requires-in-100000000-to-999999999 c = record { count_value = digits_between 8 _ (omega arith) (omega arith); power_value = refl }

pub pointed-requires-in_default : goal.pointed-requires-in_default
pointed-requires-in_default c = record { count_value = digits_between 9 _ (omega arith) (omega arith); power_value = refl }
