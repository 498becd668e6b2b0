use Rattle.std.proofs.Common.{◌≡◌, ◌-◌, ◌+◌, min, get_or, Some, ◌∙◌, ap, arith, rules}
use Rattle.deque.specs.Deques.{room, slot, ring, rows_in}
use Rattle.deque.proofs.Rings.{length-ring, popped_top}
use Rattle.deque.proofs.Deque.pop_top.Goals as goal

pub returns : goal.returns
unfolding rows_in
returns c =
    let d = c.args.self.now in
    let n : c.len.result ≡ min d.len room = c.len.ensures.rows ∙ length-ring _ _ _ in
    let popped = popped_top d.slots d.bottom (min d.len room) (search rules) in
    record {
      result = ap (λ k. Some (get_or d.slots k 0)) (c.slot.ensures ∙ ap (λ m. slot (d.bottom + (m - 1))) n) ∙ popped.0;
      after = ap (ring d.slots d.bottom) (omega arith) ∙ popped.1;
      kept = search rules;
    }
