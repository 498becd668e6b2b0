use Rattle.std.proofs.Common.{◌+◌, ◌≤◌, ◌++◌, length, get_or, take, sym, subst, arith, length-append}
use Rattle.std.proofs.lemmas.Bool.{leb-true}
use Rattle.total.specs.Outputs.{pieced}
use Rattle.total.proofs.Outputs.{no_piece, Laid, laid_room, laid_more, pieced_next, pieces_room, put_end-room}
use Rattle.total.proofs.output.put_pieces.Goals as goal
use Rattle.total.proofs.output.put_pieces.Goals.{After-put_bytes}

-- the pieces before the next, and that one, have room
room : (c : After-put_bytes) → c.args.at + length (pieced (take c.loop-piece.piece-index c.args.pieces.now) ++ (get_or c.args.pieces.now c.loop-piece.piece-index no_piece).now) ≤ length c.args.out.now
room c =
    let all = leb-true _ _ (sym c.if-not-pieces_fit.ensures) in
    simp length-append (omega (arith, pieces_room c.args.pieces.now c.loop-piece.piece-index c.loop-piece-test.true))

pub returns-in_err-next : goal.returns-in_err-next
returns-in_err-next c =
    let one = (goal.at.returns-in_err-next c).After-put_bytes in
    let piece = (get_or c.args.pieces.now c.loop-piece.piece-index no_piece).now in
    absurd (put_end-room _ _ piece _ (laid_room c.loop-piece.invariant piece (room one)) c.in_err-next.ensures.result)

pub loop-piece-preserved : goal.loop-piece-preserved
loop-piece-preserved c =
    let one = (goal.at.loop-piece-preserved c).After-put_bytes in
    let ps = c.args.pieces.now in
    let i = c.loop-piece.piece-index in
    subst (λ xs. Laid c.args.out.now c.args.at xs c.put_bytes.new.out c.in_ok-next.next) (pieced_next ps i c.loop-piece-test.true)
    (laid_more c.loop-piece.invariant (get_or ps i no_piece).now (room one) c.put_bytes.new.out c.in_ok-next.next c.in_ok-next.ensures.result c.in_ok-next.ensures.after)
