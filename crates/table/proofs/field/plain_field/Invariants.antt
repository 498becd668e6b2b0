use Rattle.std.proofs.Common.{take, drop}
use Rattle.table.specs.Fields.Mode.{Plain}
use Rattle.table.proofs.Scans.{Partway}
use Rattle.table.proofs.field.plain_field.Given as goal

abbrev pub invariant-loop-len : goal.invariant-loop-len
invariant-loop-len l = Partway Plain l.text (take l.len l.text) (drop l.len l.text)
