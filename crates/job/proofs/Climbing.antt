-- Why the climb from the row before r finds the nearest row that encloses r. Assumes nothing.
use Rattle.std.proofs.Common.{◌≡◌, ℕ, ◌<◌, ◌≤◌, true, List, Some, sym, refl, subst, ⊎_elim, arith}
use Rattle.std.proofs.lemmas.Bool.{cases_eq, cases_order}
use Rattle.job.specs.declared.row.Row.{Row}
use Rattle.job.specs.Rows.{end, nearest}
use Rattle.job.proofs.Enclosing.{around_is, around-some}

-- the climb is at p: all rows between p and r have ended by r
abbrev pub Passed : List Row → ℕ → ℕ → Type 0
Passed rows r p = (q : ℕ) → p < q → q < r → end rows q ≤ r

pub lower : (rows : List Row) (p up : ℕ) → nearest rows p ≡ Some up → up < p
lower rows p up e = (around_is rows (λ k. true) p up e).before

module _ (rows : List Row) (r : ℕ) (whole : r < end rows 0) where
  pub not_first : (p : ℕ) → end rows p ≤ r → 0 < p
  not_first p done =
      ⊎_elim (λ e. let back : end rows 0 ≤ r = subst (λ k. end rows k ≤ r) e done in absurd (omega arith)) (λ ne. omega arith) (cases_eq p 0)

  pub passed_more : (p up : ℕ) → p < r → Passed rows r p → end rows p ≤ r → nearest rows p ≡ Some up → Passed rows r up
  passed_more p up below seen done e q l m =
      let near = around_is rows (λ k. true) p up e in
      ⊎_elim
      (λ same. subst (λ k. end rows k ≤ r) (sym same) done)
      (⊎_elim (λ less. omega (arith, near.between q l less refl)) (λ more. seen q more m))
      (cases_order q p)

  pub passed_all : (p : ℕ) → p < r → Passed rows r p → r < end rows p → nearest rows r ≡ Some p
  passed_all p below seen reaches =
      around-some rows (λ k. true) r p (record { before = below; reaches = reaches; sorted = refl; between = λ q l m y. seen q l m })
