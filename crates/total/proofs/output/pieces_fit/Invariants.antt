use Rattle.std.proofs.Common.{◌≡◌, ◌+◌, length, take}
use Rattle.total.specs.Outputs.{pieced}
use Rattle.total.proofs.output.pieces_fit.Given as goal

abbrev pub invariant-loop-piece : goal.invariant-loop-piece
invariant-loop-piece l = l.at + length (pieced (take l.piece-index l.pieces)) + l.left ≡ l.size
