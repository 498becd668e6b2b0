-- Positions in the tasks of a lawful job, and how they move. Assumes nothing.
use Rattle.std.proofs.Common.{◌≡◌, ℕ, ◌+◌, ◌<◌, ◌≤◌, true, false, ◌&&◌, eqb, ◌≢◌, ◌⊎◌, List, length, Some, unwrap_or, sym, refl, ap, ◌∙◌, subst, inl, inr, ⊎_elim, arith}
use Rattle.std.proofs.lemmas.Bool.{cases_Bool, cases_eq, both_ways, and_parts, and_from, or_cases, or_left, or_right, eqb-true, eq-eqb}
use Rattle.job.specs.declared.row.Row.{Row}
use Rattle.job.specs.Rows.{row, is_finish, is_async, is_task, end, around, nearest, owner, task as task-around}
use Rattle.job.specs.Lawful.{Lawful}
use Rattle.job.proofs.ByNearest.{around-nearest, around_beyond}
use Rattle.job.proofs.Enclosing.{Nearest, around_is}
use Rattle.job.proofs.LawfulRows.{lawful-first, ends-after}
use Rattle.job.proofs.Nests.{ends-within, ends_in_job}
use Rattle.rules.specs.declared.state.Position.{Position}
use Rattle.rules.specs.Words.{inside, finish_of, begins, onto, into}
use Rattle.rules.specs.Closing.{out_of}
use Rattle.rules.specs.Sound.{has, is_inner, is_next, LawfulPosition}
use Rattle.laws.proofs.Rows.{has_some, some-has, finish-here, finish-task, around-kind, nearest-some, task-some, first-inside, next_after}

zero_owner : (rows : List Row) (f : ℕ) → f ≡ 0 → owner rows f ≡ 0
unfolding around
zero_owner rows f e = ap (owner rows) e

module _ (rows : List Row) (law : Lawful rows) where
  is_inner_self : (t : ℕ) → is_inner rows t t ≡ true
  is_inner_self t = or_left (eqb t t) _ (eq-eqb t t refl)

  is_inner-finish : (t f : ℕ) → is_finish (row rows f) ≡ true → task-around rows f ≡ Some t → is_inner rows t f ≡ true
  is_inner-finish t f y e = or_right (eqb f t) _ (and_from (is_finish (row rows f)) (has t (task-around rows f)) y (some-has t (task-around rows f) e))

  -- work at a task begins lawfully
  pub begins-lawful : (t : ℕ) → t < length rows → is_task rows t ≡ true → LawfulPosition rows (begins t)
  begins-lawful t here y =
      let past = ends-after rows t (law.each t here) in
      record {
        task_here = here;
        is_a_task = y;
        inner_is = is_inner_self t;
        after = omega arith;
        before = omega arith;
        next_is = first_next t past;
      }
    where
      first_next : (r : ℕ) → r < end rows r → is_next rows r (r + 1) ≡ true
      first_next r past =
          ⊎_elim
          (λ same. or_left (eqb (r + 1) (end rows r)) _ (eq-eqb (r + 1) (end rows r) same))
          (λ other. or_right (eqb (r + 1) (end rows r)) _ (some-has r (nearest rows (r + 1)) (first-inside rows law r (omega arith))))
          (cases_eq (r + 1) (end rows r))

  module _ (p : Position) (at : LawfulPosition rows p) where
    -- the inner row is the task itself, or a finish row other than row 0 whose task it is
    pub inner_cases : (p.inner ≡ p.task) ⊎ ((is_finish (row rows p.inner) ≡ true) × (task-around rows p.inner ≡ Some p.task))
    inner_cases =
        ⊎_elim
        (λ e. inl (eqb-true p.inner p.task e))
        (λ e. let both = and_parts (is_finish (row rows p.inner)) _ e in inr (both.0, has_some p.task (task-around rows p.inner) both.1))
        (or_cases (eqb p.inner p.task) (is_finish (row rows p.inner) && has p.task (task-around rows p.inner)) at.inner_is)

    pub inner_here : p.inner < length rows
    inner_here = ⊎_elim (λ e. subst (λ k. k < length rows) (sym e) at.task_here) (λ f. finish-here rows p.inner f.0) inner_cases

    pub next_here : p.next ≤ length rows
    next_here = omega (arith, ends_in_job rows law p.inner inner_here, at.before)

    -- an inner row that is a task is the task
    pub inner_task : is_task rows p.inner ≡ true → p.inner ≡ p.task
    inner_task y =
        ⊎_elim
        (λ e. e)
        (λ f.
        let first = finish-task rows law p.inner f.0 y in
        let none : task-around rows 0 ≡ Some p.task = subst (λ k. task-around rows k ≡ Some p.task) first f.1 in
        absurd (omega (arith, (around_is rows (is_task rows) 0 p.task none).before)))
        inner_cases

    -- the owner of an inner finish row is the task
    pub inner_owner : is_finish (row rows p.inner) ≡ true → owner rows p.inner ≡ p.task
    inner_owner y =
        ⊎_elim
        (λ e.
        let t : is_task rows p.inner ≡ true = subst (λ k. is_task rows k ≡ true) (sym e) at.is_a_task in
        let first = finish-task rows law p.inner y t in
        zero_owner rows p.inner first ∙ sym first ∙ e)
        (λ f. ap (λ o. unwrap_or o 0) f.1)
        inner_cases

    -- an inner row that is no finish row is the task, an async row
    pub inner_async : is_finish (row rows p.inner) ≡ false → (p.inner ≡ p.task) × (is_async (row rows p.task) ≡ true)
    inner_async nf =
        ⊎_elim
        (λ e. (e, ⊎_elim (λ z. absurd (both_ways (is_finish (row rows p.inner)) nf (subst (λ k. is_finish (row rows k) ≡ true) (sym (e ∙ eqb-true p.task 0 z)) (lawful-first rows law)))) (λ a. a) (or_cases (eqb p.task 0) (is_async (row rows p.task)) at.is_a_task)))
        (λ f. absurd (both_ways (is_finish (row rows p.inner)) nf f.0))
        inner_cases

    -- what comes next, where it is not the end of the inner row
    module _ (on : p.next ≢ end rows p.inner) where
      pub next_near : nearest rows p.next ≡ Some p.inner
      next_near =
          ⊎_elim
          (λ e. absurd (on (eqb-true p.next (end rows p.inner) e)))
          (λ e. has_some p.inner (nearest rows p.next) e)
          (or_cases (eqb p.next (end rows p.inner)) (has p.inner (nearest rows p.next)) at.next_is)

      pub next_row : p.next < length rows
      next_row = omega (arith, ends_in_job rows law p.inner inner_here, at.before)

      pub next_later : 0 < p.next
      next_later = omega (arith, at.after)

      -- its task is this task
      pub next_task : task-around rows p.next ≡ Some p.task
      next_task =
          ⊎_elim
          (λ t. around-nearest rows law (is_task rows) p.next p.inner next_row next_near t ∙ ap Some (inner_task t))
          (λ nt. around_beyond rows law (is_task rows) p.next p.inner next_row next_near nt ∙ beyond nt)
          (cases_Bool (is_task rows p.inner))
        where
          beyond : is_task rows p.inner ≡ false → task-around rows p.inner ≡ Some p.task
          beyond nt =
              ⊎_elim
              (λ e. absurd (both_ways (is_task rows p.inner) nt (subst (λ k. is_task rows k ≡ true) (sym e) at.is_a_task)))
              (λ f. f.1)
              inner_cases

      -- a finish row that comes next is entered
      pub into-lawful : is_finish (row rows p.next) ≡ true → LawfulPosition rows (into p.next p)
      into-lawful y =
          let past = ends-after rows p.next (law.each p.next next_row) in
          record {
            task_here = at.task_here;
            is_a_task = at.is_a_task;
            inner_is = is_inner-finish p.task p.next y next_task;
            after = omega arith;
            before = omega arith;
            next_is = first_next past;
          }
        where
          first_next : p.next < end rows p.next → is_next rows p.next (p.next + 1) ≡ true
          first_next past =
              ⊎_elim
              (λ same. or_left (eqb (p.next + 1) (end rows p.next)) _ (eq-eqb (p.next + 1) (end rows p.next) same))
              (λ other. or_right (eqb (p.next + 1) (end rows p.next)) _ (some-has p.next (nearest rows (p.next + 1)) (first-inside rows law p.next (omega arith))))
              (cases_eq (p.next + 1) (end rows p.next))

      -- the row that comes next is passed
      pub onto-lawful : LawfulPosition rows (onto (end rows p.next) p)
      onto-lawful =
          let past = ends-after rows p.next (law.each p.next next_row) in
          let inner = ends-within rows law.each p.next p.inner next_row next_near in
          record {
            task_here = at.task_here;
            is_a_task = at.is_a_task;
            inner_is = at.inner_is;
            after = omega (arith, at.after);
            before = inner;
            next_is = next_after rows law p.next p.inner next_row next_near;
          }

      -- an async row that comes next: its finish is the inner row, or the finish of the task
      pub next_finish : (is_finish (row rows p.inner) ≡ true) → finish_of rows p.next ≡ p.inner
      next_finish y = ap (λ o. unwrap_or o 0) (around-nearest rows law (λ q. is_finish (row rows q)) p.next p.inner next_row next_near y)

      pub next_finish_beyond : (is_finish (row rows p.inner) ≡ false) → finish_of rows p.next ≡ finish_of rows p.inner
      next_finish_beyond n = ap (λ o. unwrap_or o 0) (around_beyond rows law (λ q. is_finish (row rows q)) p.next p.inner next_row next_near n)

    -- at the end of an inner finish row other than row 0
    module _ (y : is_finish (row rows p.inner) ≡ true) (other : p.inner ≢ 0) where
      inner_later : 0 < p.inner
      inner_later = omega arith

      pub inner_near : nearest rows p.inner ≡ Some (inside rows p.inner)
      inner_near = nearest-some rows law p.inner inner_later inner_here

      owned : task-around rows p.inner ≡ Some p.task
      owned =
          ⊎_elim
          (λ e. absurd (other (finish-task rows law p.inner y (subst (λ k. is_task rows k ≡ true) (sym e) at.is_a_task))))
          (λ f. f.1)
          inner_cases

      out_inner : is_inner rows p.task (inside rows p.inner) ≡ true
      out_inner =
          let q = inside rows p.inner in
          let near = around_is rows (λ r. true) p.inner q inner_near in
          ⊎_elim
          (λ t.
          let same : Some q ≡ Some p.task = sym (around-nearest rows law (is_task rows) p.inner q inner_here inner_near t) ∙ owned in
          let e : q ≡ p.task = cc in
          or_left (eqb q p.task) _ (eq-eqb q p.task e))
          (λ nt.
          is_inner-finish p.task q (kind q near nt)
          (sym (around_beyond rows law (is_task rows) p.inner q inner_here inner_near nt) ∙ owned))
          (cases_Bool (is_task rows q))
        where
          kind : (q : ℕ) → Nearest rows (λ r. true) p.inner q → is_task rows q ≡ false → is_finish (row rows q) ≡ true
          kind q near nt =
              ⊎_elim
              (λ f. f)
              (λ nf. absurd (both_ways (is_task rows q) nt (or_right (eqb q 0) (is_async (row rows q)) (around-kind rows law q p.inner near.before near.reaches nf))))
              (cases_Bool (is_finish (row rows q)))

      pub out_lawful : LawfulPosition rows (out_of rows p)
      out_lawful =
          let q = inside rows p.inner in
          let near = around_is rows (λ r. true) p.inner q inner_near in
          let past = ends-after rows p.inner (law.each p.inner inner_here) in
          record {
            task_here = at.task_here;
            is_a_task = at.is_a_task;
            inner_is = out_inner;
            after = omega (arith, near.before);
            before = ends-within rows law.each p.inner q inner_here inner_near;
            next_is = next_after rows law p.inner q inner_here inner_near;
          }

  -- the owner of a finish row lies around it, unless both are row 0
  pub owner-around : (g : ℕ) → g < length rows → 0 < owner rows g → (owner rows g < g) × (g < end rows (owner rows g))
  owner-around g here later =
      ⊎_elim
      (λ first. absurd (omega (arith, zero_owner rows g first)))
      (λ other. let near = around_is rows (is_task rows) g (owner rows g) (task-some rows law g (omega arith) here) in (near.before, near.reaches))
      (cases_eq g 0)
