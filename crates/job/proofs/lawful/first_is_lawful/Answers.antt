use Rattle.std.proofs.Common.{◌≡◌, Bool, true, ◌&&◌, eqb, length, sym, ap, ◌∙◌}
use Rattle.job.specs.declared.row.Row.{Row}
use Rattle.job.specs.Rows.{is_finish}
use Rattle.job.specs.Lawful.{known_kind, own_shape}
use Rattle.job.proofs.LawfulRows.{first-lawful}
use Rattle.job.proofs.lawful.first_is_lawful.Goals as goal
use Rattle.job.proofs.lawful.first_is_lawful.Goals.{then-is_whole, else-is_whole}

both : (a b c : Bool) → true ≡ a → true ≡ b → c ≡ (a && (b && c))
both a b c e f = cc

pub returns-then-is_known : goal.returns-then-is_known
returns-then-is_known g c =
    let rows = g.S.JobSource.rows c.args.source.now in
    let first = c.row_at-first.result in
    elim c.if-is_whole.branch [
      | then-is_whole w ↦
          c.has_own_shape.ensures
          ∙ both (is_finish first && eqb first.size c.args.count) (known_kind first) (own_shape first) (sym w.if-is_whole.true ∙ c.is_whole.ensures) (sym c.if-is_known.true ∙ w.value-is ∙ w.is_known.ensures)
          ∙ ap (λ n. (is_finish first && eqb first.size n) && (known_kind first && own_shape first)) c.requires
          ∙ ap (λ (x : Row). (is_finish x && eqb x.size (length rows)) && (known_kind x && own_shape x)) c.row_at-first.ensures
          ∙ first-lawful rows
      | else-is_whole w ↦ cc
    ]
