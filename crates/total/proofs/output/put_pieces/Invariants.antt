use Rattle.std.proofs.Common.{take}
use Rattle.total.specs.Outputs.{pieced}
use Rattle.total.proofs.Outputs.{Laid}
use Rattle.total.proofs.output.put_pieces.Given as goal

abbrev pub invariant-loop-piece : goal.invariant-loop-piece
invariant-loop-piece l = Laid l.initial.out l.at (pieced (take l.piece-index l.pieces)) l.out l.next
