use Rattle.std.proofs.Common.{sym, ◌∙◌}
use Rattle.deque.specs.Deques.{rows_in}
use Rattle.deque.proofs.Rings.{length-ring}
use Rattle.deque.proofs.Deque.len.Goals as goal

pub returns-clause-rows : goal.returns-clause-rows
unfolding rows_in
returns-clause-rows c = c.min.ensures ∙ sym (length-ring _ _ _)
