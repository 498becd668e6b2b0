-- The words of a row, by way of its nearest enclosing row, in a lawful job. Assumes nothing.
use Rattle.std.proofs.Common.{◌≡◌, ℕ, ◌<◌, ◌≤◌, Bool, true, false, List, length, Some, None, Option, unwrap_or, sym, refl, ap, ◌∙◌, subst, ⊎_elim, arith}
use Rattle.std.proofs.lemmas.Bool.{cases_order, both_ways}
use Rattle.job.specs.declared.row.Row.{Row}
use Rattle.job.specs.Rows.{end, around, nearest}
use Rattle.job.specs.Lawful.{Lawful}
use Rattle.job.proofs.Enclosing.{Nearest, around_is, around-some, around_none, around_is_none}
use Rattle.job.proofs.LawfulRows.{whole-end}
use Rattle.job.proofs.Nests.{ends-in_order}

module _ (rows : List Row) (law : Lawful rows) where
  -- row 0 encloses every later row of the job, so each has a nearest row of every sort that row 0 is of
  pub some-around : (sort : ℕ → Bool) → sort 0 ≡ true → (r : ℕ) → 0 < r → r < length rows → around rows sort r ≡ Some (unwrap_or (around rows sort r) 0)
  some-around sort first r later here = go (around rows sort r) refl
    where
      go : (o : Option ℕ) → around rows sort r ≡ o → around rows sort r ≡ Some (unwrap_or (around rows sort r) 0)
      go None e =
          let whole = whole-end rows (law.each 0 (omega (arith, law.some))) in
          absurd (omega (arith, around_none rows sort r e 0 later first))
      go (Some p) e = e ∙ sym (ap (λ o. Some (unwrap_or o 0)) e)

  module _ (sort : ℕ → Bool) (r p : ℕ) (here : r < length rows) (near : nearest rows r ≡ Some p) where
    first : Nearest rows (λ q. true) r p
    first = around_is rows (λ q. true) r p near

    -- the nearest row, where it is of the sort
    pub around-nearest : sort p ≡ true → around rows sort r ≡ Some p
    around-nearest y =
        around-some rows sort r p (record { before = first.before; reaches = first.reaches; sorted = y; between = λ q l m s. first.between q l m refl })

    -- else the nearest of the sort that encloses it too
    beyond : (o : Option ℕ) → sort p ≡ false → around rows sort p ≡ o → around rows sort r ≡ o
    beyond None n e = around_is_none rows sort r (λ q l y. ended q l y)
      where
        ended : (q : ℕ) → q < r → sort q ≡ true → end rows q ≤ r
        ended q l y =
            ⊎_elim
            (λ same. absurd (both_ways (sort p) n (subst (λ k. sort k ≡ true) same y)))
            (⊎_elim (λ less. let low = around_none rows sort p e q less y in omega (arith, first.before)) (λ more. first.between q more l refl))
            (cases_order q p)
    beyond (Some q) n e =
        let up = around_is rows sort p q e in
        around-some rows sort r q (record {
          before = omega (arith, up.before, first.before);
          reaches = further q up;
          sorted = up.sorted;
          between = λ k l m y. ⊎_elim
              (λ same. absurd (both_ways (sort p) n (subst (λ j. sort j ≡ true) same y)))
              (⊎_elim (λ less. omega (arith, up.between k l less y, first.before)) (λ more. first.between k more m refl))
              (cases_order k p);
        })
      where
        further : (q : ℕ) → Nearest rows sort p q → r < end rows q
        further q up =
            let inner = ends-in_order rows law.each p p q (omega arith) (omega (arith, first.before)) up.before up.reaches in
            omega (arith, first.reaches)

    pub around_beyond : sort p ≡ false → around rows sort r ≡ around rows sort p
    around_beyond n = beyond (around rows sort p) n refl
