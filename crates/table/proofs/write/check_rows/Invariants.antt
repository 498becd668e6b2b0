use Rattle.std.proofs.Common.{◌≡◌, ◌+◌, drop}
use Rattle.table.specs.JobTexts.{first_bad}
use Rattle.table.proofs.write.check_rows.Given as goal

abbrev pub invariant-loop-i : goal.invariant-loop-i
invariant-loop-i l = first_bad 2 l.rows ≡ first_bad (l.i + 2) (drop l.i l.rows)
