use Rattle.std.proofs.Common.{◌≡◌, min, set, ◌∙◌, ap₂, arith, rules}
use Rattle.std.proofs.lemmas.Bool.Decides.{nat_tests}
use Rattle.deque.specs.Deques.{room, ring, rows_in}
use Rattle.deque.proofs.Rings.{length-ring, ring_with_bottom}
use Rattle.deque.proofs.Deque.push_bottom.Goals as goal

pub returns : goal.returns
unfolding rows_in
returns c =
    let d = c.args.self.now in
    let n : c.len-len.result ≡ min d.len room = c.len-len.ensures.rows ∙ length-ring _ _ _ in
    record {
      result = grind (arith, nat_tests);
      after =
          ap₂ (λ j. ring (set d.slots j c.args.row) j) c.slot-self.ensures (omega arith)
          ∙ ring_with_bottom d.slots d.bottom (min d.len room) c.args.row (omega arith) (omega arith) ∙ grind (arith, nat_tests);
      kept = search rules;
    }
