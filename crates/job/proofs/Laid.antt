-- The rows past the last of a job: nothing is around them. Assumes nothing.
use Rattle.std.proofs.Common.{◌≡◌, ℕ, ◌+◌, ◌≤◌, Bool, true, List, length, None, sym, ap, ◌∙◌, ⊎_elim, arith}
use Rattle.std.proofs.lemmas.List.{get_or_past}
use Rattle.std.proofs.lemmas.Bool.{cases_lt}
use Rattle.job.specs.declared.row.Row.{Row}
use Rattle.job.specs.Rows.{blank, row, end, around, is_finish, is_task}
use Rattle.job.specs.Lawful.{Lawful}
use Rattle.job.specs.Entries.{AroundRow}
use Rattle.job.proofs.Enclosing.{around_is_none}
use Rattle.job.proofs.Nests.{ends_in_job}

module _ (rows : List Row) where
  pub end_past : (r : ℕ) → length rows ≤ r → end rows r ≡ r
  unfolding end
  end_past r l = ap (λ (x : Row). r + x.size) (get_or_past rows r blank l) ∙ (omega arith)

  -- nothing encloses a row past the last
  module _ (law : 1 ≤ length rows → Lawful rows) (r : ℕ) (past : length rows ≤ r) where
    pub around_past : (sort : ℕ → Bool) → around rows sort r ≡ None
    around_past sort =
        around_is_none rows sort r (λ q before y. ⊎_elim
        (λ m. let short = ends_in_job rows (law (omega arith)) q m in omega arith)
        (λ m. omega (arith, end_past q m))
        (cases_lt q (length rows)))

    pub around_row_past : AroundRow rows r None
    around_row_past =
        record {
          near = sym (around_past (λ q. true));
          fin = sym (around_past (λ q. is_finish (row rows q)));
          own = sym (around_past (is_task rows));
        }
