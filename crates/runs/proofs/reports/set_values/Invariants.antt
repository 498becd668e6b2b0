use Rattle.std.proofs.Common.{◌≡◌, ℕ, ◌<◌, get_or}
use Rattle.job.specs.Rows.{row}
use Rattle.runs.proofs.reports.set_values.Given as goal

abbrev pub invariant-loop-r : goal.invariant-loop-r
invariant-loop-r l = (k : ℕ) → k < l.r → (get_or l.book k (record { value = 0 })).value ≡ (row l.rows k).mark
