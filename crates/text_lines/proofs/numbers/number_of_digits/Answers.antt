use Rattle.std.proofs.Common.{◌≡◌, ◌+◌, ◌*◌, sym, ◌∙◌, drop, [], arith, lit<}
use Rattle.std.proofs.Math.ListN.{drop_of_length-le}
use Rattle.text_lines.proofs.Digits.{number_from-zero, number_from-end, none-at, digit-at, beyond-at}
use Rattle.text_lines.proofs.numbers.number_of_digits.Goals as goal

pub loop-byte-init : goal.loop-byte-init
loop-byte-init c = record { small = lit< tt; same = number_from-zero c.args.base c.args.bytes.now }

pub returns-in_err-digit : goal.returns-in_err-digit
returns-in_err-digit c = c.from_residual.ensures ∙ sym (none-at _ _ _ _ c.loop-byte-test.true (sym c.digit_of.ensures ∙ c.in_err-digit.was)) ∙ c.loop-byte.invariant.same

pub returns-in_err-checked_mul : goal.returns-in_err-checked_mul
returns-in_err-checked_mul c =
    c.from_residual-in_err-checked_mul.ensures
    ∙ sym (beyond-at _ _ _ _ c.loop-byte-test.true c.in_ok-digit.digit (sym c.digit_of.ensures ∙ c.in_ok-digit.was) c.requires (omega (arith, c.in_err-checked_mul.ensures)))
    ∙ c.loop-byte.invariant.same

pub returns-in_err-number : goal.returns-in_err-number
returns-in_err-number c =
    c.from_residual-in_err-number.ensures
    ∙ sym (beyond-at _ _ _ _ c.loop-byte-test.true c.in_ok-digit.digit (sym c.digit_of.ensures ∙ c.in_ok-digit.was) c.requires (omega (arith, c.in_ok-checked_mul.ensures, c.in_err-number.ensures)))
    ∙ c.loop-byte.invariant.same

pub loop-byte-preserved : goal.loop-byte-preserved
loop-byte-preserved c =
    let product = c.in_ok-checked_mul.ensures in
    let total = c.in_ok-number.ensures in
    let e : c.in_ok-number.number ≡ c.loop-byte.number * c.args.base + c.in_ok-digit.digit = omega arith in
    record {
      small = omega arith;
      same = rw e (sym (digit-at _ _ _ _ c.loop-byte-test.true c.in_ok-digit.digit (sym c.digit_of.ensures ∙ c.in_ok-digit.was)) ∙ c.loop-byte.invariant.same);
    }

pub returns : goal.returns
returns c =
    let rest : drop c.loop-byte.byte-index c.args.bytes.now ≡ [] = drop_of_length-le c.args.bytes.now c.loop-byte-test.false in
    sym (number_from-end c.args.base c.loop-byte.number c.loop-byte.invariant.small) ∙ (rw rest at c.loop-byte.invariant.same)
