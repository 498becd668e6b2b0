-- What a lawful job is like: enclosing rows nest. Assumes nothing.
use Rattle.std.proofs.Common.{◌≡◌, ℕ, zero, suc, ◌<◌, ◌≤◌, true, false, not, ◌||◌, eqb, leb, ◌⊎◌, List, length, Some, None, Ok, Err, Option, Result, sym, refl, ap, ◌∙◌, subst, inl, inr, ⊎_elim, arith}
use Rattle.std.proofs.lemmas.Bool.{leb-true, leb-false, and_parts, and_cases, and_from, le-leb, cond_both, cond-true, cond-false, cases_eq, cases_lt, cases_Bool, not-false, not-true}
use Rattle.job.specs.declared.row.Row.{Row}
use Rattle.job.specs.declared.refusal.JobRefusal.{JobRefusal}
use Rattle.job.specs.declared.refusal.JobRefusal.TheVariants.{RowCount}
use Rattle.job.specs.Rows.{most_rows, row, end, nearest}
use Rattle.job.specs.Lawful.{whole_job, known_kind, own_shape, ends_by, ends_inside, lawful_row, lowest_unlawful, countable, row_count, verdict, checked, Judged, Lawful, LowestUnlawful, Nests}
use Rattle.job.proofs.Below.{first_is, first_is_none}
use Rattle.job.proofs.LawfulRows.{whole-end}
use Rattle.job.proofs.Enclosing.{around_is, around_none, encloses_from, encloses_is}

apart : (a b : ℕ) → (a ≡ b → ⊥) → (b < a) ⊎ (a < b)
apart a b ne = ⊎_elim (λ l. inr l) (λ h. inl (omega arith)) (cases_lt a b)

module _ (rows : List Row) (law : (r : ℕ) → r < length rows → lawful_row rows r ≡ true) where
  -- the fourth rule, at a row whose nearest encloser is known
  pub ends-within : (r p : ℕ) → r < length rows → nearest rows r ≡ Some p → end rows r ≤ end rows p
  ends-within r p l e =
      let own = and_parts (not (eqb r 0) || whole_job rows) _ (law r l) in
      let kind = and_parts (known_kind (row rows r)) _ own.1 in
      let shape = and_parts (own_shape (row rows r)) (ends_inside rows r) kind.1 in
      leb-true (end rows r) (end rows p) (subst (λ o. ends_by rows r o ≡ true) e shape.1)

  pub ends-in_order : (k q p : ℕ) → q ≤ k → q < length rows → p < q → q < end rows p → end rows q ≤ end rows p
  ends-in_order zero q p low l before reaches = absurd (omega arith)
  ends-in_order (suc k) q p low l before reaches = go (nearest rows q) refl (λ n m. ends-in_order k n p m)
    where
      go : (o : Option ℕ) → nearest rows q ≡ o → ((n : ℕ) → n ≤ k → n < length rows → p < n → n < end rows p → end rows n ≤ end rows p) → end rows q ≤ end rows p
      go None e up = absurd (omega (arith, around_none rows (λ x. true) q e p before refl))
      go (Some n) e up =
          let near = around_is rows (λ x. true) q n e in
          let inner = ends-within q n l e in
          ⊎_elim
          (λ same. subst (λ x. end rows q ≤ end rows x) (sym same) inner)
          (λ other.
          ⊎_elim
          (λ less. omega (arith, near.between p less before refl))
          (λ more. let outer = up n (omega (arith, near.before)) (omega (arith, near.before)) (omega arith) (omega (arith, near.before)) in omega arith)
          (apart p n other))
          (cases_eq p n)

-- no row ends past the job
pub ends_in_job : (rows : List Row) → Lawful rows → (r : ℕ) → r < length rows → end rows r ≤ length rows
ends_in_job rows law r l =
    let whole = whole-end rows (law.each 0 (omega (arith, law.some))) in
    ⊎_elim
    (λ first. subst (λ k. end rows k ≤ length rows) (sym first) (omega arith))
    (λ later. let inner = ends-in_order rows law.each r r 0 (omega arith) l (omega arith) (omega arith) in omega arith)
    (cases_eq r 0)

pub lawful_nests : (rows : List Row) → Lawful rows → Nests rows
lawful_nests rows law p q r l less in_p in-q =
    let a = encloses_is rows p r in_p in
    let b = encloses_is rows q r in-q in
    let reach : q < end rows p = omega arith in
    let within : q < length rows = omega arith in
    (encloses_from rows p q less reach, ends-in_order rows law.each q q p (omega arith) within less reach)

countable_from : (n : ℕ) → 1 ≤ n → n ≤ most_rows → countable n ≡ true
countable_from n some few = and_from (leb 1 n) (leb n most_rows) (le-leb 1 n some) (le-leb n most_rows few)

counted : (n : ℕ) → countable n ≡ true → (1 ≤ n) × (n ≤ most_rows)
counted n y = let both = and_parts (leb 1 n) (leb n most_rows) y in (leb-true 1 n both.0, leb-true n most_rows both.1)

uncounted : (n : ℕ) → countable n ≡ false → (n < 1) ⊎ (most_rows < n)
uncounted n y =
    ⊎_elim (λ a. inl (leb-false 1 n a)) (λ b. inr (leb-false n most_rows b)) (and_cases (leb 1 n) (leb n most_rows) y)

pub counted_is : (n m : ℕ) → Ok m ≡ row_count n → (m ≡ n) × (1 ≤ n) × (n ≤ most_rows)
counted_is n m e =
    ⊎_elim
    (λ y.
    let same : ◌≡◌ {A = Result ℕ JobRefusal} (Ok m) (Ok n) = e ∙ cond-true (countable n) (Ok n) (Err RowCount) y in
    let both = and_parts (leb 1 n) (leb n most_rows) y in
    (cc, leb-true 1 n both.0, leb-true n most_rows both.1))
    (λ y. let wrong : ◌≡◌ {A = Result ℕ JobRefusal} (Ok m) (Err RowCount) = e ∙ cond-false (countable n) (Ok n) (Err RowCount) y in let z : ◌≡◌ {A = ℕ} 0 1 = cc in absurd (omega arith))
    (cases_Bool (countable n))

module _ (rows : List Row) where
  pub lowest_is : (r : ℕ) → lowest_unlawful rows ≡ Some r → LowestUnlawful rows r
  unfolding lowest_unlawful
  lowest_is r e =
      let f = first_is (λ q. not (lawful_row rows q)) (length rows) r e in
      record { here = f.below; broken = not-true (lawful_row rows r) f.passes; before = λ q l. not-false (lawful_row rows q) (f.before q l) }

  pub lowest_none : 1 ≤ length rows → length rows ≤ most_rows → lowest_unlawful rows ≡ None → Lawful rows
  unfolding lowest_unlawful
  lowest_none some few e =
      record { some = some; few = few; each = λ q l. not-false (lawful_row rows q) (first_is_none (λ k. not (lawful_row rows k)) (length rows) e q l) }

  judged_by : 1 ≤ length rows → length rows ≤ most_rows → (o : Option ℕ) → lowest_unlawful rows ≡ o → Judged rows (verdict o)
  judged_by some few None e = lowest_none some few e
  judged_by some few (Some r) e = lowest_is r e

  -- what the check answers is right
  pub judged : Judged rows (checked rows)
  judged =
      cond_both (countable (length rows)) _ _ (Judged rows)
      (λ y. let n = counted (length rows) y in judged_by n.0 n.1 (lowest_unlawful rows) refl)
      (λ n. uncounted (length rows) n)

  granted_by : (r : Result (Unit {0}) JobRefusal) → Judged rows r → Ok tt ≡ r → Lawful rows
  granted_by (Ok u) j e = j
  granted_by (Err f) j e = let z : ◌≡◌ {A = ℕ} 0 1 = cc in absurd (omega arith)

  pub granted : Ok tt ≡ checked rows → Lawful rows
  granted e = granted_by (checked rows) judged e

  -- the answer by the lowest unlawful row of a job of as many rows as there may be
  pub verdict_is : (m : ℕ) → Ok m ≡ row_count (length rows) → (o : Option ℕ) → o ≡ lowest_unlawful rows → verdict o ≡ checked rows
  verdict_is m e o is =
      let n = counted_is (length rows) m e in
      ap verdict is ∙ sym (cond-true (countable (length rows)) _ _ (countable_from (length rows) n.1 n.2))
