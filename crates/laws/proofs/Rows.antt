-- Rows of a lawful job: what encloses them, and the positions of tasks in them. Assumes nothing.
use Rattle.std.proofs.Common.{◌≡◌, ℕ, ◌+◌, ◌<◌, ◌≤◌, true, false, eqb, ◌⊎◌, List, length, Some, None, Option, sym, refl, ap, ◌∙◌, subst, inl, inr, ⊎_elim, arith}
use Rattle.std.proofs.lemmas.List.{get_or_past}
use Rattle.std.proofs.lemmas.Bool.{cases_Bool, cases_eq, cases_lt, cases_order, both_ways, or_cases, or_left, or_right, eqb-true, eq-eqb}
use Rattle.job.specs.declared.row.Row.{Row}
use Rattle.job.specs.Rows.{blank, row, is_finish, is_async, is_task, end, encloses, nearest, finish, owner, task as task-around}
use Rattle.job.specs.Lawful.{Lawful}
use Rattle.job.proofs.ByNearest.{some-around}
use Rattle.job.proofs.Enclosing.{Nearest, around_is, around-some, encloses_from, encloses_is}
use Rattle.job.proofs.LawfulRows.{lawful-first, ends-after, work_from, work_alone}
use Rattle.job.proofs.Nests.{ends-within, ends-in_order, ends_in_job}
use Rattle.rules.specs.Words.{inside, finish_of, within}
use Rattle.rules.specs.Sound.{has, is_next}

pub has_some : (a : ℕ) (o : Option ℕ) → has a o ≡ true → o ≡ Some a
has_some a None e = absurd (both_ways true (sym e) refl)
has_some a (Some t) e = ap Some (sym (eqb-true a t e))

pub some-has : (a : ℕ) (o : Option ℕ) → o ≡ Some a → has a o ≡ true
some-has a o e = ap (has a) e ∙ eq-eqb a a refl

module _ (rows : List Row) where
  -- rows past the last are blank, and so of no kind but work
  pub finish-here : (r : ℕ) → is_finish (row rows r) ≡ true → r < length rows
  finish-here r y =
      ⊎_elim
      (λ l. l)
      (λ past. let z : ◌≡◌ {A = ℕ} 0 1 = sym (ap (λ (x : Row). x.kind) (get_or_past rows r blank past)) ∙ eqb-true (row rows r).kind 1 y in absurd (omega arith))
      (cases_lt r (length rows))

  pub async_here : (r : ℕ) → is_async (row rows r) ≡ true → r < length rows
  async_here r y =
      ⊎_elim
      (λ l. l)
      (λ past. let z : ◌≡◌ {A = ℕ} 0 2 = sym (ap (λ (x : Row). x.kind) (get_or_past rows r blank past)) ∙ eqb-true (row rows r).kind 2 y in absurd (omega arith))
      (cases_lt r (length rows))

  pub not_both : (r : ℕ) → is_finish (row rows r) ≡ true → is_async (row rows r) ≡ true → ⊥
  not_both r y z = omega (arith, eqb-true (row rows r).kind 1 y, eqb-true (row rows r).kind 2 z)

module _ (rows : List Row) (law : Lawful rows) where
  -- an async row is not row 0
  pub async_later : (r : ℕ) → is_async (row rows r) ≡ true → 0 < r
  async_later r y =
      ⊎_elim
      (λ first. absurd (not_both rows 0 (lawful-first rows law) (subst (λ k. is_async (row rows k) ≡ true) first y)))
      (λ later. omega arith)
      (cases_eq r 0)

  -- a finish row that is a task is row 0
  pub finish-task : (r : ℕ) → is_finish (row rows r) ≡ true → is_task rows r ≡ true → r ≡ 0
  finish-task r y t = ⊎_elim (λ e. eqb-true r 0 e) (λ a. absurd (not_both rows r y a)) (or_cases (eqb r 0) (is_async (row rows r)) t)

  -- a row that encloses another is a finish or an async row
  pub around-kind : (q r : ℕ) → q < r → r < end rows q → is_finish (row rows q) ≡ false → is_async (row rows q) ≡ true
  unfolding end
  around-kind q r l m nf =
      ⊎_elim
      (λ a. a)
      (λ na.
      let here : q < length rows = ⊎_elim (λ x. x) (λ past. absurd (omega (arith, ap (λ (x : Row). x.size) (get_or_past rows q blank past)))) (cases_lt q (length rows)) in
      let alone = work_alone rows q (law.each q here) (work_from rows q (law.each q here) nf na) in
      absurd (omega arith))
      (cases_Bool (is_async (row rows q)))

  -- the nearest rows of a row that others enclose
  pub nearest-some : (r : ℕ) → 0 < r → r < length rows → nearest rows r ≡ Some (inside rows r)
  nearest-some = some-around rows law (λ q. true) refl

  pub finish-some : (r : ℕ) → 0 < r → r < length rows → finish rows r ≡ Some (finish_of rows r)
  finish-some = some-around rows law (λ q. is_finish (row rows q)) (lawful-first rows law)

  pub task-some : (r : ℕ) → 0 < r → r < length rows → task-around rows r ≡ Some (owner rows r)
  task-some = some-around rows law (is_task rows) refl

  -- the finish of a row
  pub finish_is : (r : ℕ) → 0 < r → r < length rows → Nearest rows (λ q. is_finish (row rows q)) r (finish_of rows r)
  finish_is r later here = around_is rows (λ q. is_finish (row rows q)) r (finish_of rows r) (finish-some r later here)

  pub finish_of-here : (r : ℕ) → 0 < r → r < length rows → finish_of rows r < length rows
  finish_of-here r later here = omega (arith, (finish_is r later here).before)

  -- rows nest
  pub ends_inside : (q p : ℕ) → q < length rows → p < q → q < end rows p → end rows q ≤ end rows p
  ends_inside q p = ends-in_order rows law.each q q p (omega arith)

  -- where the row after r is inside r, r is its nearest row
  pub first-inside : (r : ℕ) → r + 1 < end rows r → nearest rows (r + 1) ≡ Some r
  first-inside r l =
      around-some rows (λ q. true) (r + 1) r (record { before = omega arith; reaches = l; sorted = refl; between = λ q a b y. absurd (omega arith) })

  -- what follows a row lies in the same nearest row, unless that ends there too
  pub after-row : (r i : ℕ) → r < length rows → nearest rows r ≡ Some i → end rows r < end rows i → nearest rows (end rows r) ≡ Some i
  after-row r i here near less =
      let first = around_is rows (λ q. true) r i near in
      let past = ends-after rows r (law.each r here) in
      let short = ends_in_job rows law r here in
      around-some rows (λ q. true) (end rows r) i (record {
        before = omega (arith, first.before);
        reaches = less;
        sorted = refl;
        between = λ q a b y. ⊎_elim
            (λ same. subst (λ k. end rows k ≤ end rows r) (sym same) (omega arith))
            (⊎_elim
            (λ low. omega (arith, first.between q a low refl))
            (λ high. ends_inside q r (omega arith) high b))
            (cases_order q r);
      })

  pub next_after : (r i : ℕ) → r < length rows → nearest rows r ≡ Some i → is_next rows i (end rows r) ≡ true
  next_after r i here near =
      let inner = ends-within rows law.each r i here near in
      ⊎_elim
      (λ same. or_left (eqb (end rows r) (end rows i)) (has i (nearest rows (end rows r))) (eq-eqb (end rows r) (end rows i) same))
      (λ other. or_right (eqb (end rows r) (end rows i)) (has i (nearest rows (end rows r))) (some-has i (nearest rows (end rows r)) (after-row r i here near (omega arith))))
      (cases_eq (end rows r) (end rows i))

  -- a finish row f inside or equal to g, and what is around or inside f
  pub within_self : (f : ℕ) → within rows f f ≡ true
  within_self f = or_left (eqb f f) (encloses rows f f) (eq-eqb f f refl)

  pub within_is : (f g : ℕ) → within rows f g ≡ true → (f ≡ g) ⊎ ((g < f) × (f < end rows g))
  within_is f g y = ⊎_elim (λ e. inl (eqb-true f g e)) (λ e. inr (encloses_is rows g f e)) (or_cases (eqb f g) (encloses rows g f) y)

  pub within_from : (f g : ℕ) → g < f → f < end rows g → within rows f g ≡ true
  within_from f g l m = or_right (eqb f g) (encloses rows g f) (encloses_from rows g f l m)

  pub within_deeper : (r i g : ℕ) → r < length rows → nearest rows r ≡ Some i → within rows i g ≡ true → within rows r g ≡ true
  within_deeper r i g here near y =
      let first = around_is rows (λ q. true) r i near in
      ⊎_elim
      (λ same. subst (λ k. within rows r k ≡ true) same (within_from r i first.before first.reaches))
      (λ enc. let inner = ends_inside i g (omega (arith, first.before)) enc.0 enc.1 in within_from r g (omega (arith, first.before, enc.0)) (omega (arith, first.reaches)))
      (within_is i g y)

  pub within_outer : (f i g : ℕ) → nearest rows f ≡ Some i → within rows f g ≡ true → (f ≡ g → ⊥) → within rows i g ≡ true
  within_outer f i g near y ne =
      let first = around_is rows (λ q. true) f i near in
      ⊎_elim
      (λ same. absurd (ne same))
      (λ enc.
      ⊎_elim
      (λ same. subst (λ k. within rows k g ≡ true) (sym same) (within_self g))
      (⊎_elim
      (λ low. absurd (omega (arith, first.between g low enc.0 refl, enc.1)))
      (λ high. within_from i g high (omega (arith, first.before, enc.1))))
      (cases_order i g))
      (within_is f g y)
