use Rattle.std.proofs.Common.{◌+◌, ◌≤◌, ◌++◌, length, get_or, take, codes, sym, ap, ◌∙◌, subst, append_assoc, arith, length-append}
use Rattle.std.proofs.lemmas.Bool.{leb-true}
use Rattle.std.specs.List.{flat_map}
use Rattle.std.proofs.lemmas.List.Folds.{length-flat_map-take}
use Rattle.total.proofs.Outputs.{Laid, laid_room, laid_more, put_end-room}
use Rattle.table.specs.JobTexts.{row_text}
use Rattle.table.proofs.Pieces.{no_row, joined_next}
use Rattle.table.proofs.write.put_table.Goals as goal
use Rattle.table.proofs.write.put_table.Goals.{After-put_row}

-- the header, the rows before the next, and that one, have room
room : (c : After-put_row) → 0 + length ((codes "kind,size,mark\r\n" ++ flat_map row_text (take c.loop-row.row-index c.args.rows.now)) ++ row_text (get_or c.args.rows.now c.loop-row.row-index no_row)) ≤ length c.args.out.now
room c =
    let rows = c.args.rows.now in
    let i = c.loop-row.row-index in
    let header = codes "kind,size,mark\r\n" in
    let before = flat_map row_text (take i rows) in
    let all = leb-true _ _ (sym c.if-not-table_fits.ensures) in
    omega (
      arith,
      length-append (header ++ before) (row_text (get_or rows i no_row)),
      length-append header before,
      length-append header (flat_map row_text rows),
      length-flat_map-take row_text rows i no_row c.loop-row-test.true,
    )

pub returns-in_err-at-2 : goal.returns-in_err-at-2
returns-in_err-at-2 c =
    let row = row_text (get_or c.args.rows.now c.loop-row.row-index no_row) in
    absurd (put_end-room _ _ row _ (laid_room c.loop-row.invariant row (room (goal.at.returns-in_err-at-2 c).After-put_row)) c.in_err-at-2.ensures.result)

pub loop-row-preserved : goal.loop-row-preserved
loop-row-preserved c =
    let rows = c.args.rows.now in
    let i = c.loop-row.row-index in
    let row = row_text (get_or rows i no_row) in
    let more = laid_more c.loop-row.invariant row (room (goal.at.loop-row-preserved c).After-put_row) c.put_row.new.out c.in_ok-at-2.at c.in_ok-at-2.ensures.result c.in_ok-at-2.ensures.after in
    subst (λ xs. Laid c.args.out.now 0 xs c.put_row.new.out c.in_ok-at-2.at)
    (append_assoc (codes "kind,size,mark\r\n") (flat_map row_text (take i rows)) row ∙ ap (λ xs. codes "kind,size,mark\r\n" ++ xs) (joined_next rows i c.loop-row-test.true)) more
