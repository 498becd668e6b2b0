use Rattle.std.proofs.Common.{◌++◌, codes, take}
use Rattle.std.specs.List.{flat_map}
use Rattle.table.specs.JobTexts.{row_text}
use Rattle.total.proofs.Outputs.{Laid}
use Rattle.table.proofs.write.put_table.Given as goal

abbrev pub invariant-loop-row : goal.invariant-loop-row
invariant-loop-row l = Laid l.fn.out 0 (codes "kind,size,mark\r\n" ++ flat_map row_text (take l.row-index l.rows)) l.out l.at
