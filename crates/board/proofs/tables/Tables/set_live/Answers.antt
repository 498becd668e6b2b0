use Rattle.std.proofs.Common.{refl, ap, ◌∙◌}
use Rattle.std.proofs.Math.Seq.{map-set_same}
use Rattle.std.proofs.lemmas.List.{map-set}
use Rattle.rules.specs.Boards.{Board, with_live}
use Rattle.board.specs.declared.tables.Progress.{Progress}
use Rattle.board.proofs.Boards.{same_board}
use Rattle.board.proofs.tables.Tables.set_live.Goals as goal

-- what has become of the tasks stays
pub returns : goal.returns
returns c =
    let tasks = map-set_same (λ (p : Progress). p.task) _ _ _ _ (ap (λ (p : Progress). p.task) c.in-Some.ensures.value) in
    same_board refl refl tasks (map-set _ _ _ _) refl refl ∙ ap (λ (b : Board). with_live b c.args.f c.args.live) c.self.view_is
