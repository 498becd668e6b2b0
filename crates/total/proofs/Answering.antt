-- What the filling of a book answers, by how far the call came. Assumes nothing.
use Rattle.std.proofs.Common.{◌≡◌, ℕ, ◌≤◌, leb, List, length, Ok, Err, Result, sym, refl, ap, ◌∙◌, ⊎_elim, arith}
use Rattle.std.proofs.lemmas.Bool.{cond-true, cond-false, cases_Bool, le-leb}
use Rattle.job.specs.declared.row.Row.{Row}
use Rattle.job.specs.declared.refusal.JobRefusal.{JobRefusal}
use Rattle.job.specs.Lawful.{checked, countable}
use Rattle.total.specs.Books.{in_book, filling}

-- a book with a line for each row is refused only for the job
pub fill_all : (rows : List Row) (n : ℕ) → length rows ≤ n → filling rows n ≡ in_book (checked rows)
fill_all rows n l =
    ⊎_elim
    (λ y. cond-true (countable (length rows)) _ _ y ∙ cond-true (leb (length rows) n) _ _ (le-leb (length rows) n l))
    (λ no'. cond-false (countable (length rows)) _ _ no' ∙ sym (ap in_book (cond-false (countable (length rows)) _ _ no')))
    (cases_Bool (countable (length rows)))

pub checked_from : (r : Result (Unit {0}) JobRefusal) → Ok tt ≡ in_book r → r ≡ Ok tt
checked_from (Ok u) e = refl
checked_from (Err f) e = let z : ◌≡◌ {A = ℕ} 0 1 = cc in absurd (omega arith)
