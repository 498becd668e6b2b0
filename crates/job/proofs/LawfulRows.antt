-- A row is lawful: as the check finds it out. Assumes nothing.
use Rattle.std.proofs.Common.{◌≡◌, ℕ, ◌<◌, ◌≤◌, Bool, true, false, not, ◌&&◌, ◌||◌, eqb, leb, List, length, Some, None, sym, refl, ap, ◌∙◌, ⊎_elim, arith}
use Rattle.std.proofs.lemmas.Bool.{ne_eqb, eq-eqb, eqb-true, eqb-false, leb-true, and_parts, or_cases, not-true, both_ways}
use Rattle.job.specs.declared.row.Row.{Row}
use Rattle.job.specs.Rows.{row, is_work, is_finish, is_async, end, around, nearest}
use Rattle.job.specs.Lawful.{whole_job, known_kind, own_shape, ends_by, ends_inside, lawful_row, lowest_unlawful, Lawful}
use Rattle.job.proofs.Below.{first_some, first_none}

and_true : (b : Bool) → (b && true) ≡ b
and_true true = refl
and_true false = refl

-- nothing encloses row 0
pub first-lawful : (rows : List Row) → (whole_job rows && (known_kind (row rows 0) && own_shape (row rows 0))) ≡ lawful_row rows 0
unfolding around
first-lawful rows = ap (λ b. whole_job rows && (known_kind (row rows 0) && b)) (sym (and_true (own_shape (row rows 0))))

pub later_lawful : (rows : List Row) (r p : ℕ) → 0 < r → nearest rows r ≡ Some p → (known_kind (row rows r) && (own_shape (row rows r) && leb (end rows r) (end rows p))) ≡ lawful_row rows r
later_lawful rows r p l e =
    ap (λ o. known_kind (row rows r) && (own_shape (row rows r) && ends_by rows r o)) (sym e)
    ∙ ap (λ b. (not b || whole_job rows) && (known_kind (row rows r) && (own_shape (row rows r) && ends_inside rows r))) (sym (ne_eqb r 0 (λ z. omega arith)))

-- the job ends where row 0 ends
pub whole-end : (rows : List Row) → lawful_row rows 0 ≡ true → end rows 0 ≡ length rows
unfolding end
whole-end rows y =
    let w = and_parts (whole_job rows) _ y in
    let s = and_parts _ (eqb (row rows 0).size (length rows)) w.0 in
    omega (arith, eqb-true (row rows 0).size (length rows) s.1)

-- row 0 of a lawful job is a finish row
pub lawful-first : (rows : List Row) → Lawful rows → is_finish (row rows 0) ≡ true
lawful-first rows law =
    let w = and_parts (whole_job rows) _ (law.each 0 (omega (arith, law.some))) in
    (and_parts (is_finish (row rows 0)) (eqb (row rows 0).size (length rows)) w.0).0

-- the second rule in numbers
pub known : (rows : List Row) (r : ℕ) → lawful_row rows r ≡ true → ((row rows r).kind ≤ 2) × (1 ≤ (row rows r).size)
known rows r y =
    let own = and_parts (not (eqb r 0) || whole_job rows) _ y in
    let kind = and_parts (known_kind (row rows r)) _ own.1 in
    let both = and_parts (leb (row rows r).kind 2) (leb 1 (row rows r).size) kind.0 in
    (leb-true (row rows r).kind 2 both.0, leb-true 1 (row rows r).size both.1)

-- the third rule, of work rows: nothing lies inside one
pub work_alone : (rows : List Row) (r : ℕ) → lawful_row rows r ≡ true → is_work (row rows r) ≡ true → (row rows r).size ≡ 1
work_alone rows r y work =
    let own = and_parts (not (eqb r 0) || whole_job rows) _ y in
    let kind = and_parts (known_kind (row rows r)) _ own.1 in
    let shape = and_parts (own_shape (row rows r)) (ends_inside rows r) kind.1 in
    let both = and_parts (not (is_work (row rows r)) || eqb (row rows r).size 1) _ shape.0 in
    ⊎_elim
    (λ n. absurd (both_ways (is_work (row rows r)) (not-true (is_work (row rows r)) n) work))
    (λ e. eqb-true (row rows r).size 1 e)
    (or_cases (not (is_work (row rows r))) (eqb (row rows r).size 1) both.0)

-- a lawful row counts itself
pub ends-after : (rows : List Row) (r : ℕ) → lawful_row rows r ≡ true → r < end rows r
unfolding end
ends-after rows r y = omega (arith, (known rows r y).1)

-- a row that is neither finish nor async is work
pub work_from : (rows : List Row) (r : ℕ) → lawful_row rows r ≡ true → is_finish (row rows r) ≡ false → is_async (row rows r) ≡ false → is_work (row rows r) ≡ true
work_from rows r y nf na =
    let kind = (row rows r).kind in
    let f = eqb-false kind 1 nf in
    let a = eqb-false kind 2 na in
    eq-eqb kind 0 (omega (arith, (known rows r y).0))

module _ (rows : List Row) where
  pub unlawful_at : (r : ℕ) → r < length rows → lawful_row rows r ≡ false → ((q : ℕ) → q < r → lawful_row rows q ≡ true) → Some r ≡ lowest_unlawful rows
  unfolding lowest_unlawful
  unlawful_at r l n before =
      sym (first_some (λ q. not (lawful_row rows q)) (length rows) r l (ap not n) (λ q u. ap not (before q u)))

  pub unlawful_none : ((q : ℕ) → q < length rows → lawful_row rows q ≡ true) → None ≡ lowest_unlawful rows
  unfolding lowest_unlawful
  unlawful_none all = sym (first_none (λ q. not (lawful_row rows q)) (length rows) (λ q u. ap not (all q u)))
