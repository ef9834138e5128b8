-- `measure` meets its contract, by its tests in their order: each asks of the rows what the definition asks of the message.
use mathlib.Core.Path.{◌≡◌, sym, ap, ◌∙◌}
use mathlib.Core.Bool.{false}
use Prim.Native.Nat.{◌+◌, ◌≤◌}
use native.Mathlib.Omega.{arith}
use borrow.Author.Tests.{ltb-true, ltb-false}
use lib.Dec.{ltb}
use lib.ListN.{length}
use Rattle.field_rules.proofs.DecimalLaws.{decimal-length}
use Rattle.field_rules.specs.Separator.{is_refused_separator}
use Rattle.message_lent_rules.specs.Meaning.{message_in}
use Rattle.message_rules.specs.Changes.{field_total}
use Rattle.encode_rules.specs.Encoding.{dropped, body_length, encoding, encoded_message}
use Rattle.encode_rules.specs.Encode.{is_incomplete}
use Rattle.encoder.specs.VerdictLaws.{Parts, both-within, loose_at, taken_fits, judged_incomplete, judged-body, judged-length, judged-fields}
use Rattle.encoder.specs.VerdictLaws.{refused-separator, refused_incomplete, refused_long, refused-many, refused-room, found_fit}
use Rattle.encoder.proofs.measure.Goals as goal
use Rattle.encoder.proofs.measure.Goals.{After-digit_count, After-span_of-tail}
use Rattle.std.proofs.Common.{Ok}

known : (c : After-span_of-tail) → Parts c.args.words.now c.args.values.now c.span_of-head.result c.span_of-tail.result
known c = record { lent = c.requires.values_value; head_is = c.span_of-head.ensures; tail_is = c.span_of-tail.ensures }

pub returns-then-is_refused_separator : goal.returns-then-is_refused_separator
returns-then-is_refused_separator c = sym (refused-separator _ _ (known (goal.at.returns-then-is_refused_separator c).After-span_of-tail).lent _ _ (sym c.is_refused_separator.ensures ∙ c.if-is_refused_separator.true))

pub is_incomplete-requires : goal.is_incomplete-requires
is_incomplete-requires c = record { span_within = both-within _ _ _ _ (known (goal.at.is_incomplete-requires c).After-span_of-tail); loose_value = c.requires.loose_value ∙ loose_at _ _ _ _ (known (goal.at.is_incomplete-requires c).After-span_of-tail) }

pub returns-then-is_incomplete : goal.returns-then-is_incomplete
returns-then-is_incomplete c =
    let separates : is_refused_separator c.args.separator ≡ false = sym c.is_refused_separator.ensures ∙ c.if-is_refused_separator.false in
    sym (refused_incomplete _ _ (known (goal.at.returns-then-is_incomplete c).After-span_of-tail).lent _ _ (separates)
    (sym (judged_incomplete _ _ _ _ (known (goal.at.returns-then-is_incomplete c).After-span_of-tail)) ∙ sym c.is_incomplete.ensures ∙ c.if-is_incomplete.true))

pub body_length-body-requires : goal.body_length-body-requires
body_length-body-requires c = record { span_within = both-within _ _ _ _ (known (goal.at.body_length-body-requires c).After-span_of-tail); tail_bound = taken_fits _ _ _ _ (known (goal.at.body_length-body-requires c).After-span_of-tail) }

pub returns-then-body-gt8192 : goal.returns-then-body-gt8192
returns-then-body-gt8192 c =
    let separates : is_refused_separator c.args.separator ≡ false = sym c.is_refused_separator.ensures ∙ c.if-is_refused_separator.false in
    let complete : is_incomplete (dropped (message_in c.args.words.now c.args.values.now)) ≡ false = sym (judged_incomplete _ _ _ _ (known (goal.at.returns-then-body-gt8192 c).After-span_of-tail)) ∙ sym c.is_incomplete.ensures ∙ c.if-is_incomplete.false in
    let body_is : c.body_length-body.result ≡ body_length (dropped (message_in c.args.words.now c.args.values.now)) = c.body_length-body.ensures ∙ judged-body _ _ _ _ (known (goal.at.returns-then-body-gt8192 c).After-span_of-tail) in
    sym (refused_long _ _ (known (goal.at.returns-then-body-gt8192 c).After-span_of-tail).lent _ _ (separates) (complete)
    (omega (arith, judged-length _ _ _ _ (known (goal.at.returns-then-body-gt8192 c).After-span_of-tail) c.args.separator, body_is, c.if-body-gt8192.true)))

pub field_bytes-begin-requires : goal.field_bytes-begin-requires
field_bytes-begin-requires c = (both-within _ _ _ _ (known (goal.at.field_bytes-begin-requires c).After-span_of-tail)).0

small : (c : After-digit_count) → c.digit_count.result ≤ 10
small c = omega (arith, c.digit_count.ensures, (decimal-length c.body_length-body.result (omega (arith, c.if-body-gt8192.false))).1)

pub overflow_add-length : goal.overflow_add-length
overflow_add-length c = omega (arith, small c, c.field_bytes-begin.ensures.upper_bound)

pub overflow_add-length-2 : goal.overflow_add-length-2
overflow_add-length-2 c = omega (arith, small c, c.field_bytes-begin.ensures.upper_bound, c.if-body-gt8192.false)

pub overflow_add-length-3 : goal.overflow_add-length-3
overflow_add-length-3 c = omega (arith, small c, c.field_bytes-begin.ensures.upper_bound, c.if-body-gt8192.false)

pub returns-then-length-gt8192 : goal.returns-then-length-gt8192
returns-then-length-gt8192 c =
    let separates : is_refused_separator c.args.separator ≡ false = sym c.is_refused_separator.ensures ∙ c.if-is_refused_separator.false in
    let complete : is_incomplete (dropped (message_in c.args.words.now c.args.values.now)) ≡ false = sym (judged_incomplete _ _ _ _ (known (goal.at.returns-then-length-gt8192 c).After-span_of-tail)) ∙ sym c.is_incomplete.ensures ∙ c.if-is_incomplete.false in
    let body_is : c.body_length-body.result ≡ body_length (dropped (message_in c.args.words.now c.args.values.now)) = c.body_length-body.ensures ∙ judged-body _ _ _ _ (known (goal.at.returns-then-length-gt8192 c).After-span_of-tail) in
    let length-is : c.field_bytes-begin.result + c.digit_count.result + c.body_length-body.result + 10
    ≡ length (encoding c.args.separator (message_in c.args.words.now c.args.values.now)) = rw (c.field_bytes-begin.ensures.value, c.digit_count.ensures, body_is)
    (sym (judged-length _ _ _ _ (known (goal.at.returns-then-length-gt8192 c).After-span_of-tail) c.args.separator)) in
    sym (refused_long _ _ (known (goal.at.returns-then-length-gt8192 c).After-span_of-tail).lent _ _ (separates) (complete)
    (omega (arith, length-is, c.if-length-gt8192.true)))

pub passes_limit-requires : goal.passes_limit-requires
passes_limit-requires c = both-within _ _ _ _ (known (goal.at.passes_limit-requires c).After-span_of-tail)

pub returns-then-passes_limit : goal.returns-then-passes_limit
returns-then-passes_limit c =
    let separates : is_refused_separator c.args.separator ≡ false = sym c.is_refused_separator.ensures ∙ c.if-is_refused_separator.false in
    let complete : is_incomplete (dropped (message_in c.args.words.now c.args.values.now)) ≡ false = sym (judged_incomplete _ _ _ _ (known (goal.at.returns-then-passes_limit c).After-span_of-tail)) ∙ sym c.is_incomplete.ensures ∙ c.if-is_incomplete.false in
    let body_is : c.body_length-body.result ≡ body_length (dropped (message_in c.args.words.now c.args.values.now)) = c.body_length-body.ensures ∙ judged-body _ _ _ _ (known (goal.at.returns-then-passes_limit c).After-span_of-tail) in
    let length-is : c.field_bytes-begin.result + c.digit_count.result + c.body_length-body.result + 10
    ≡ length (encoding c.args.separator (message_in c.args.words.now c.args.values.now)) = rw (c.field_bytes-begin.ensures.value, c.digit_count.ensures, body_is)
    (sym (judged-length _ _ _ _ (known (goal.at.returns-then-passes_limit c).After-span_of-tail) c.args.separator)) in
    let short : length (encoding c.args.separator (message_in c.args.words.now c.args.values.now)) ≤ 8192 = omega (arith, length-is, c.if-length-gt8192.false) in
    let fields-are : c.passes_limit.result ≡ ltb 1024 (field_total (encoded_message c.args.separator (message_in c.args.words.now c.args.values.now))) = c.passes_limit.ensures ∙ ap (ltb 1024) (judged-fields _ _ _ _ (known (goal.at.returns-then-passes_limit c).After-span_of-tail) c.args.separator) in
    sym (refused-many _ _ (known (goal.at.returns-then-passes_limit c).After-span_of-tail).lent _ _ (separates) (complete) (short)
    (ltb-true _ _ (sym (fields-are) ∙ c.if-passes_limit.true)))

pub returns-then-room-length : goal.returns-then-room-length
returns-then-room-length c =
    let separates : is_refused_separator c.args.separator ≡ false = sym c.is_refused_separator.ensures ∙ c.if-is_refused_separator.false in
    let complete : is_incomplete (dropped (message_in c.args.words.now c.args.values.now)) ≡ false = sym (judged_incomplete _ _ _ _ (known (goal.at.returns-then-room-length c).After-span_of-tail)) ∙ sym c.is_incomplete.ensures ∙ c.if-is_incomplete.false in
    let body_is : c.body_length-body.result ≡ body_length (dropped (message_in c.args.words.now c.args.values.now)) = c.body_length-body.ensures ∙ judged-body _ _ _ _ (known (goal.at.returns-then-room-length c).After-span_of-tail) in
    let length-is : c.field_bytes-begin.result + c.digit_count.result + c.body_length-body.result + 10
    ≡ length (encoding c.args.separator (message_in c.args.words.now c.args.values.now)) = rw (c.field_bytes-begin.ensures.value, c.digit_count.ensures, body_is)
    (sym (judged-length _ _ _ _ (known (goal.at.returns-then-room-length c).After-span_of-tail) c.args.separator)) in
    let short : length (encoding c.args.separator (message_in c.args.words.now c.args.values.now)) ≤ 8192 = omega (arith, length-is, c.if-length-gt8192.false) in
    let fields-are : c.passes_limit.result ≡ ltb 1024 (field_total (encoded_message c.args.separator (message_in c.args.words.now c.args.values.now))) = c.passes_limit.ensures ∙ ap (ltb 1024) (judged-fields _ _ _ _ (known (goal.at.returns-then-room-length c).After-span_of-tail) c.args.separator) in
    let few : field_total (encoded_message c.args.separator (message_in c.args.words.now c.args.values.now)) ≤ 1024 = ltb-false _ _ (sym (fields-are) ∙ c.if-passes_limit.false) in
    sym (refused-room _ _ (known (goal.at.returns-then-room-length c).After-span_of-tail).lent _ _ (separates) (complete) (short) (few)
    (omega (arith, length-is, c.if-room-length.true)))

pub returns : goal.returns
returns c =
    let separates : is_refused_separator c.args.separator ≡ false = sym c.is_refused_separator.ensures ∙ c.if-is_refused_separator.false in
    let complete : is_incomplete (dropped (message_in c.args.words.now c.args.values.now)) ≡ false = sym (judged_incomplete _ _ _ _ (known (goal.at.returns c).After-span_of-tail)) ∙ sym c.is_incomplete.ensures ∙ c.if-is_incomplete.false in
    let body_is : c.body_length-body.result ≡ body_length (dropped (message_in c.args.words.now c.args.values.now)) = c.body_length-body.ensures ∙ judged-body _ _ _ _ (known (goal.at.returns c).After-span_of-tail) in
    let length-is : c.field_bytes-begin.result + c.digit_count.result + c.body_length-body.result + 10
    ≡ length (encoding c.args.separator (message_in c.args.words.now c.args.values.now)) = rw (c.field_bytes-begin.ensures.value, c.digit_count.ensures, body_is)
    (sym (judged-length _ _ _ _ (known (goal.at.returns c).After-span_of-tail) c.args.separator)) in
    let short : length (encoding c.args.separator (message_in c.args.words.now c.args.values.now)) ≤ 8192 = omega (arith, length-is, c.if-length-gt8192.false) in
    let fields-are : c.passes_limit.result ≡ ltb 1024 (field_total (encoded_message c.args.separator (message_in c.args.words.now c.args.values.now))) = c.passes_limit.ensures ∙ ap (ltb 1024) (judged-fields _ _ _ _ (known (goal.at.returns c).After-span_of-tail) c.args.separator) in
    let few : field_total (encoded_message c.args.separator (message_in c.args.words.now c.args.values.now)) ≤ 1024 = ltb-false _ _ (sym (fields-are) ∙ c.if-passes_limit.false) in
    ap Ok (body_is)
    ∙ sym (found_fit _ _ (known (goal.at.returns c).After-span_of-tail).lent _ _ (separates) (complete) (short) (few)
    (omega (arith, length-is, c.if-room-length.false)))
