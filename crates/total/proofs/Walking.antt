-- A walk through a finish row, from its first row to its end, that passes over the finish rows inside. Assumes nothing.
use Rattle.std.proofs.Common.{◌≡◌, ℕ, ◌+◌, ◌-◌, ◌<◌, ◌≤◌, true, false, cond, List, length, Some, sym, ap, ◌∙◌, subst, ⊎_elim, add-one, arith}
use Rattle.std.proofs.lemmas.Bool.{cond-true, cond-false, cases_Bool, cases_eq, cases_order, both_ways}
use Rattle.job.specs.declared.row.Row.{Row}
use Rattle.job.specs.Rows.{row, end, is_finish, finish}
use Rattle.job.specs.Lawful.{Lawful}
use Rattle.job.proofs.Enclosing.{Nearest, around_is, around-some}
use Rattle.job.proofs.LawfulRows.{ends-after}
use Rattle.job.proofs.Nests.{ends-in_order}
use Rattle.total.specs.Serial.{own, with_line, gathered}
use Rattle.total.proofs.Gathering.{own_from, own-near, gathered-own, gathered_skip}

-- the walk through f has come to r: unless f ends there, f is the finish of r
pub record At (rows : List Row) (f r : ℕ) : Type 0 where
  pub after : f < r
  pub within : r ≤ end rows f
  pub here : r < end rows f → finish rows r ≡ Some f

module _ (rows : List Row) (law : Lawful rows) (f : ℕ) (in_job : f < length rows) (fin : is_finish (row rows f) ≡ true) where
  finish_from : (r : ℕ) → f < r → r < end rows f → ((q : ℕ) → f < q → q < r → is_finish (row rows q) ≡ true → end rows q ≤ r) → finish rows r ≡ Some f
  finish_from r l m between =
      around-some rows (λ p. is_finish (row rows p)) r f (record { before = l; reaches = m; sorted = fin; between = between })

  pub at_start : At rows f (f + 1)
  at_start =
      record {
        after = omega arith;
        within = omega (arith, ends-after rows f (law.each f in_job));
        here = λ m. finish_from (f + 1) (omega arith) m (λ q l u y. absurd (omega arith));
      }

  module _ (r : ℕ) (at : At rows f r) (inside : r < end rows f) (short : end rows f ≤ length rows) where
    near : Nearest rows (λ p. is_finish (row rows p)) r f
    near = around_is rows (λ p. is_finish (row rows p)) r f (at.here inside)

    pub owned : own rows f r ≡ true
    owned = own_from rows f r (at.here inside)

    pub at_next : is_finish (row rows r) ≡ false → At rows f (r + 1)
    at_next n =
        record {
          after = omega (arith, at.after);
          within = omega arith;
          here = λ m. finish_from (r + 1) (omega (arith, at.after)) m (λ q l u y.
              ⊎_elim
              (λ same. absurd (both_ways (is_finish (row rows r)) n (subst (λ k. is_finish (row rows k) ≡ true) same y)))
              (λ other. omega (arith, near.between q l (omega arith) y))
              (cases_eq q r));
        }

    pub longer : r < end rows r
    longer = ends-after rows r (law.each r (omega arith))

    pub at_end : At rows f (end rows r)
    at_end =
        record {
          after = omega (arith, at.after, longer);
          within = ends-in_order rows law.each r r f (omega arith) (omega arith) at.after inside;
          here = λ m. finish_from (end rows r) (omega (arith, at.after, longer)) m (λ q l u y.
              ⊎_elim
              (λ same. subst (λ k. end rows k ≤ end rows r) (sym same) (omega arith))
              (⊎_elim
              (λ less. omega (arith, near.between q l less y, longer))
              (λ more. ends-in_order rows law.each q q r (omega arith) (omega arith) more u))
              (cases_order q r));
        }

    -- what lies inside a finish row r has another finish than f
    pub skipped : is_finish (row rows r) ≡ true → (s : ℕ) → r + 1 ≤ s → s < end rows r → own rows f s ≡ false
    skipped y s l m =
        ⊎_elim
        (λ o. absurd (let inner = (own-near rows f s o).between r at.after (omega arith) y in omega arith))
        (λ n. n)
        (cases_Bool (own rows f s))

  module _ {M : Type 0} (nothing : M) (join : M → M → M) (seal : ℕ → M → M) (line : ℕ → M) where
    abbrev sum : ℕ → M
    sum n = gathered nothing join seal rows line f n

    pub sum_next : (r : ℕ) → own rows f r ≡ true → sum (r + 1) ≡ with_line nothing join seal (row rows r) (sum r) (line r)
    sum_next r o = ap sum (add-one r) ∙ gathered-own nothing join seal rows line f r o

    pub sum_skip : (a b : ℕ) → a ≤ b → ((s : ℕ) → a ≤ s → s < b → own rows f s ≡ false) → sum b ≡ sum a
    sum_skip a b l h =
        let split : a + (b - a) ≡ b = omega arith in
        ap sum (sym split) ∙ gathered_skip nothing join seal rows line f a (b - a) (λ s u v. h s u (omega arith))

    pub sum_start : sum (f + 1) ≡ nothing
    sum_start = sum_skip 0 (f + 1) (omega arith) (λ s l m.
        ⊎_elim (λ o. absurd (omega (arith, (own-near rows f s o).before))) (λ n. n) (cases_Bool (own rows f s)))

    pub sum_all : end rows f ≤ length rows → sum (length rows) ≡ sum (end rows f)
    sum_all short = sum_skip (end rows f) (length rows) short (λ s l m.
        ⊎_elim (λ o. absurd (omega (arith, (own-near rows f s o).reaches))) (λ n. n) (cases_Bool (own rows f s)))

    -- one turn: the line of row r is joined, and the walk goes on past it
    pub record Turn (r next : ℕ) : Type 0 where
      pub at : At rows f next
      pub on : r < next
      pub more : sum next ≡ with_line nothing join seal (row rows r) (sum r) (line r)

    pub turn : (r : ℕ) → At rows f r → r < end rows f → end rows f ≤ length rows → Turn r (cond (is_finish (row rows r)) (r + (row rows r).size) (r + 1))
    unfolding end
    turn r at inside short =
        ⊎_elim
        (λ y.
        subst (Turn r) (sym (cond-true (is_finish (row rows r)) (r + (row rows r).size) (r + 1) y)) (record {
          at = at_end r at inside short;
          on = longer r at inside short;
          more = sum_skip (r + 1) (end rows r) (omega (arith, longer r at inside short)) (skipped r at inside short y) ∙ sum_next r (owned r at inside short);
        }))
        (λ n.
        subst (Turn r) (sym (cond-false (is_finish (row rows r)) (r + (row rows r).size) (r + 1) n)) (record {
          at = at_next r at inside short n;
          on = omega arith;
          more = sum_next r (owned r at inside short);
        }))
        (cases_Bool (is_finish (row rows r)))
