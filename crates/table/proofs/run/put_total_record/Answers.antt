use Rattle.std.proofs.Common.{◌≡◌, ◌+◌, ◌≤◌, ◌++◌, length, codes, decimal, sym, ap, ◌∙◌, append_assoc, arith, length-append}
use Rattle.std.proofs.lemmas.Bool.{leb-true}
use Rattle.total.specs.Outputs.{put}
use Rattle.total.proofs.Outputs.{laid_by, laid_put, laid_more}
use Rattle.table.specs.RunTables.{line_end, total_record}
use Rattle.table.proofs.run.put_total_record.Goals as goal

pub returns-clause-after : goal.returns-clause-after
returns-clause-after g c =
    let out = c.args.out.now in
    let at = c.args.at in
    let digits = c.as_bytes.result.now in
    let front = codes ",total," ++ (digits ++ codes ",,,") in
    let text = g.P.Printed.text c.args.total.now in
    let number : digits ≡ decimal c.args.row = c.as_bytes.ensures.value ∙ c.format.ensures.text in
    let whole : (front ++ text) ++ line_end ≡ total_record c.args.row text =
    simp append_assoc (ap (λ d. codes ",total," ++ (d ++ (codes ",,," ++ (text ++ line_end)))) number) in
    let fits = leb-true _ _ (sym c.if-not-has_room_around.ensures) in
    let room : at + length ((front ++ text) ++ line_end) ≤ length out = simp length-append (omega (arith, ap length number)) in
    let first = laid_by out at front _ _ c.in_ok-text.ensures.result c.in_ok-text.ensures.after in
    let more = laid_more first text (omega (arith, length-append (front ++ text) line_end)) _ _ c.in_ok-end.ensures.result c.in_ok-end.ensures.after in
    c.put_bytes.ensures.after ∙ laid_put more line_end room ∙ ap (put out at) whole
