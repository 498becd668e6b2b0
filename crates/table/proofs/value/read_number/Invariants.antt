use Rattle.std.proofs.Common.{◌≡◌, ◌≤◌, drop}
use Rattle.table.specs.Values.{number_of, number_from}
use Rattle.table.proofs.value.read_number.Given as goal

abbrev pub invariant-loop-b : goal.invariant-loop-b
invariant-loop-b l = (number_of l.raw ≡ number_from l.n (drop l.b-index l.raw)) × (l.n ≤ 65535)
