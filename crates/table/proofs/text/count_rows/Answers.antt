use Rattle.std.proofs.Common.{[], ◌∷◌, ◌++◌, Ok, Err, sym, ap, ◌∙◌, arith}
use Rattle.table.specs.Readings.{ok_map, text_left}
use Rattle.table.specs.Texts.{counted}
use Rattle.table.proofs.Progress.{header_shorter}
use Rattle.table.proofs.Tables.{less_left, sofar_start, sofar_end, sofar_bad, sofar_full, sofar_more, was_ok, was_err}
use Rattle.table.proofs.Results.{passed_up}
use Rattle.table.proofs.text.count_rows.Goals as goal

pub loop-record-init : goal.loop-record-init
loop-record-init c =
    let ok = was_ok 1 c.new.result c.in_ok-record-items.record-items c.in_ok-record-items.ensures in
    let header = ap (λ r. Ok (text_left r)) c.into_iter-record-iterator.ensures.into_iter_gives ∙ ap (ok_map text_left) (sym ok) ∙ c.new.ensures in
    (tt, tt, omega (arith, header_shorter c.args.text.now _ header), ([], sofar_start c.args.room c.args.text.now _ c.if-text-gt-MOST_BYTES.false header))

pub returns-in_err-at_line : goal.returns-in_err-at_line
returns-in_err-at_line c =
    let q = was_err _ c.in-Some.record c.in_err-at_line.field-0.0 c.in_err-at_line.ensures in
    let so = c.loop-record.invariant.3 in
    passed_up _ c.from_residual-in_err-at_line.ensures.1 ∙ ap Err q.2 ∙ ap counted (sym (sofar_bad so.1 c.in-Some.ensures.steps q.0 q.1))

pub returns-then-count-room : goal.returns-then-count-room
returns-then-count-room c =
    let row = was_ok _ c.in-Some.record c.in_ok-at_line.field-0 c.in_ok-at_line.ensures in
    let so = c.loop-record.invariant.3 in
    ap counted (sym (sofar_full so.1 c.in-Some.ensures.steps row c.if-count-room.true))

pub loop-record-preserved : goal.loop-record-preserved
loop-record-preserved c =
    let row = was_ok _ c.in-Some.record c.in_ok-at_line.field-0 c.in_ok-at_line.ensures in
    let so = c.loop-record.invariant.3 in (
      tt,
      tt,
      omega (arith, c.loop-record.invariant.2, less_left so.1 c.in-Some.ensures.steps row),
      (so.0 ++ c.in_ok-at_line.field-0 ∷ [], sofar_more so.1 c.in-Some.ensures.steps row c.if-count-room.false),
    )

pub returns : goal.returns
returns c =
    let so = c.loop-record.invariant.3 in
    sym (ap counted (sofar_end so.1 c.in-None.ensures.steps) ∙ ap Ok so.1.len)
