use Rattle.std.proofs.Common.{min, ◌∙◌, ap₂, arith, rules}
use Rattle.deque.specs.Deques.{room, ring, rows_in}
use Rattle.deque.proofs.Rings.{length-ring, popped_bottom}
use Rattle.deque.proofs.Deque.pop_bottom.Goals as goal

pub returns-clause-after : goal.returns-clause-after
unfolding rows_in
returns-clause-after c =
    let d = c.args.self.now in
    ap₂ (ring d.slots) c.slot-self.ensures (omega (arith, length-ring d.slots c.slot-self.result (min d.len room)))
    ∙ popped_bottom d.slots d.bottom (min d.len room) (search rules)
