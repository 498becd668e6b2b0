use Rattle.std.proofs.Common.{◌≡◌, [], ◌∷◌, ◌++◌, get_or, ap, ◌∙◌, arith}
use Rattle.table.specs.Fields.Mode.{Quoted}
use Rattle.table.proofs.Scans.{partway_start, first_more, quoted_more, quoted_twice, past_first}
use Rattle.table.proofs.field.quoted_field.Goals as goal

pub loop-left-init : goal.loop-left-init
loop-left-init c = ([], partway_start Quoted c.args.text.now)

pub loop-left-preserved-then-b-ne34 : goal.loop-left-preserved-then-b-ne34
loop-left-preserved-then-b-ne34 c =
    let so = c.loop-left.invariant in
    (so.0 ++ get_or c.loop-left.left.now 0 0 ∷ [], quoted_more _ _ (first_more _ c.in-len1-up.len_at_least) so.1 c.if-b-ne34.true)

pub loop-left-preserved : goal.loop-left-preserved
loop-left-preserved c =
    let so = c.loop-left.invariant in
    let rest = past_first c.loop-left.left.now in
    let quote : get_or rest 0 0 ≡ 34 = omega arith in
    (so.0 ++ 34 ∷ 34 ∷ [], quoted_twice _ rest (first_more _ c.in-len1-up.len_at_least) so.1 c.if-b-ne34.false (past_first rest) (first_more rest c.in-34.len_at_least ∙ ap (λ b. b ∷ past_first rest) quote))
