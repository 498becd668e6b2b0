-- What the refusals of a board's calls say. Assumes nothing.
--     deal_number r, deal_told r      the number of a refusal, and what is told with it
use Rattle.std.specs.Prelude.{ℕ, List, [], ◌∷◌}
use Rattle.job.specs.Refusals.{job_number, job_told}
use Rattle.rules.specs.declared.refusal.DealRefusal.{DealRefusal}
use Rattle.rules.specs.declared.refusal.DealRefusal.TheVariants.{Job, WorkerCount, Figures, ShortBook, NoWorker, Finished, WorkerOut, AtWork, NoVictim, NothingToSteal, NoWork, NotOut}

abbrev pub deal_number : DealRefusal → ℕ
deal_number (Job r) = job_number r
deal_number WorkerCount = 2
deal_number Figures = 3
deal_number ShortBook = 4
deal_number NoWorker = 6
deal_number Finished = 7
deal_number WorkerOut = 8
deal_number (AtWork r) = 9
deal_number NoVictim = 10
deal_number NothingToSteal = 11
deal_number NoWork = 12
deal_number NotOut = 13

abbrev pub deal_told : DealRefusal → List ℕ
deal_told (Job r) = job_told r
deal_told WorkerCount = []
deal_told Figures = []
deal_told ShortBook = []
deal_told NoWorker = []
deal_told Finished = []
deal_told WorkerOut = []
deal_told (AtWork r) = r ∷ []
deal_told NoVictim = []
deal_told NothingToSteal = []
deal_told NoWork = []
deal_told NotOut = []
