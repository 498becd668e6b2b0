use Rattle.std.proofs.Common.{refl, ap, ◌∙◌}
use Rattle.std.proofs.Math.Seq.{map-set_same}
use Rattle.std.proofs.lemmas.List.{map-set}
use Rattle.rules.specs.Boards.{Board, with_task}
use Rattle.board.specs.declared.tables.Progress.{Progress}
use Rattle.board.proofs.Boards.{same_board}
use Rattle.board.proofs.tables.Tables.set_task.Goals as goal

-- the live numbers stay
pub returns : goal.returns
returns c =
    let lives = map-set_same (λ (p : Progress). p.live) _ _ _ _ (ap (λ (p : Progress). p.live) c.in-Some.ensures.value) in
    same_board refl refl (map-set _ _ _ _) lives refl refl ∙ ap (λ (b : Board). with_task b c.args.t c.args.task) c.self.view_is
