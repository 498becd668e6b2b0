-- What a refusal says. Assumes nothing.
--     place told            the row or the line among what is told, if any
--     job_number r, job_told r      the number of a job's refusal, and what is told with it
use Rattle.std.specs.Prelude.{ℕ, List, [], ◌∷◌, Some, None, Option}
use Rattle.job.specs.declared.refusal.JobRefusal.{JobRefusal}
use Rattle.job.specs.declared.refusal.JobRefusal.TheVariants.{RowCount, Unlawful}

abbrev pub place : List ℕ → Option ℕ
place [] = None
place (p ∷ more) = Some p

abbrev pub job_number : JobRefusal → ℕ
job_number RowCount = 1
job_number (Unlawful r) = 5

abbrev pub job_told : JobRefusal → List ℕ
job_told RowCount = []
job_told (Unlawful r) = r ∷ []
