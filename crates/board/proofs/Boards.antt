-- Boards that are the same part by part. Assumes nothing.
use Rattle.std.proofs.Common.{◌≡◌}
use Rattle.rules.specs.Boards.{Board}

pub same_board : {a b : Board} → a.rows ≡ b.rows → a.workers ≡ b.workers → a.tasks ≡ b.tasks → a.lives ≡ b.lives → a.figures ≡ b.figures → a.finished ≡ b.finished → a ≡ b
same_board {a} {b} r w t l f d = λ i. record { rows = r i; workers = w i; tasks = t i; lives = l i; figures = f i; finished = d i }
