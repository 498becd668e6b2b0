use Rattle.std.proofs.Common.{ℕ, List, length}
use Rattle.table.specs.Fields.Mode.{Quoted}
use Rattle.table.proofs.Scans.{Partway}
use Rattle.table.proofs.field.quoted_field.Given as goal

abbrev pub invariant-loop-left : goal.invariant-loop-left
invariant-loop-left l = (v : List ℕ) × Partway Quoted l.text v l.left

abbrev pub decreases-loop-left : goal.decreases-loop-left
decreases-loop-left l = length l.left
