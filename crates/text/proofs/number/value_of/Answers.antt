-- `value_of` answers what its bytes stand for: the loop reads one digit more each time, and the limit stops it early.
use mathlib.Core.Path.{sym, ◌∙◌}
use Rattle.model.specs.Refusal.{is_between_of}
use Rattle.text.specs.Numbers.{is_digit_of}
use Rattle.text.proofs.Laws.Numbers.{all_read, no_digit, too-great, one_more}
use Rattle.text.proofs.number.value_of.Goals as goal

pub returns-then-not-is_ascii_digit : goal.returns-then-not-is_ascii_digit
unfolding is_digit_of is_between_of
returns-then-not-is_ascii_digit c = no_digit c.loop-byte.invariant c.loop-byte-test.true (sym c.is_ascii_digit.ensures.value ∙ c.if-not-is_ascii_digit.true)

pub returns-then-value-gt-MAX_NUMBER : goal.returns-then-value-gt-MAX_NUMBER
unfolding is_digit_of is_between_of
returns-then-value-gt-MAX_NUMBER c = too-great c.loop-byte.invariant c.loop-byte-test.true
    (sym c.is_ascii_digit.ensures.value ∙ c.if-not-is_ascii_digit.false) c.from.ensures c.if-value-gt-MAX_NUMBER.true

pub loop-byte-preserved : goal.loop-byte-preserved
unfolding is_digit_of is_between_of
loop-byte-preserved c = one_more c.loop-byte.invariant c.loop-byte-test.true
    (sym c.is_ascii_digit.ensures.value ∙ c.if-not-is_ascii_digit.false) c.from.ensures c.if-value-gt-MAX_NUMBER.false

pub returns : goal.returns
returns c = all_read c.loop-byte.invariant c.loop-byte-test.false
