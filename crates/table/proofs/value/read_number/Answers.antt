use Rattle.std.proofs.Common.{sym, ◌∙◌, arith}
use Rattle.table.proofs.Numbers.{number_passed}
use Rattle.table.proofs.value.read_number.Goals as goal

pub returns-in_err-checked_mul : goal.returns-in_err-checked_mul
returns-in_err-checked_mul c = c.from_residual.ensures ∙ number_passed c.args.raw.now c.loop-b.b-index c.loop-b.n _ 65535 c.loop-b.invariant.0 c.loop-b-test.true (sym c.if-not-is_ascii_digit.ensures.value) (omega (arith, c.in_err-checked_mul.ensures))

pub returns-in_err-n : goal.returns-in_err-n
returns-in_err-n c = c.from_residual-in_err-n.ensures ∙ number_passed c.args.raw.now c.loop-b.b-index c.loop-b.n _ 65535 c.loop-b.invariant.0 c.loop-b-test.true (sym c.if-not-is_ascii_digit.ensures.value) (omega (arith, c.in_err-n.ensures, c.in_ok-checked_mul.ensures))
