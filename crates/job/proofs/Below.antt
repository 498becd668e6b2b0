-- The last and the first number below a bound that passes a test. Assumes nothing.
use Rattle.std.proofs.Common.{◌≡◌, ℕ, zero, suc, ◌<◌, Bool, true, false, cond, Some, None, Option, sym, refl, ap, ◌∙◌, subst, ⊎_elim, arith}
use Rattle.std.proofs.lemmas.Bool.{cond-true, cond-false, cases_eq, cases_Bool}
use Rattle.job.specs.Rows.{last_below}
use Rattle.job.specs.Lawful.{first_below, or_else}

or_else_none : (a b : Option ℕ) → or_else a b ≡ None → (a ≡ None) × (b ≡ None)
or_else_none None b e = (refl, e)
or_else_none (Some m) b e = let z : ◌≡◌ {A = ℕ} 0 1 = cc in absurd (omega arith)

module _ (t : ℕ → Bool) where
  -- p passes, and nothing between p and n does
  pub record Last (n p : ℕ) : Type 0 where
    pub below : p < n
    pub passes : t p ≡ true
    pub after : (q : ℕ) → p < q → q < n → t q ≡ false

  pub last_some : (n p : ℕ) → Last n p → last_below t n ≡ Some p
  last_some zero p h = absurd (omega (arith, h.below))
  last_some (suc n) p h =
      ⊎_elim
      (λ e. subst (λ m. last_below t (suc n) ≡ Some m) (sym e) (cond-true (t n) (Some n) (last_below t n) (subst (λ m. t m ≡ true) e h.passes)))
      (λ ne. cond-false (t n) (Some n) (last_below t n) (h.after n (omega (arith, h.below)) (omega arith)) ∙ last_some n p (record { below = omega (arith, h.below); passes = h.passes; after = λ q l m. h.after q l (omega arith) }))
      (cases_eq p n)

  pub last_none : (n : ℕ) → ((q : ℕ) → q < n → t q ≡ false) → last_below t n ≡ None
  last_none zero h = refl
  last_none (suc n) h = cond-false (t n) (Some n) (last_below t n) (h n (omega arith)) ∙ last_none n (λ q l. h q (omega arith))

  pub last_is : (n p : ℕ) → last_below t n ≡ Some p → Last n p
  last_is zero p e = let z : ◌≡◌ {A = ℕ} 0 1 = cc in absurd (omega arith)
  last_is (suc n) p e =
      ⊎_elim
      (λ y.
      let s : Some n ≡ Some p = sym (cond-true (t n) (Some n) (last_below t n) y) ∙ e in
      let m : n ≡ p = cc in
      record { below = omega arith; passes = subst (λ k. t k ≡ true) m y; after = λ q l u. absurd (omega arith) })
      (λ y.
      let b = last_is n p (sym (cond-false (t n) (Some n) (last_below t n) y) ∙ e) in
      record {
        below = omega (arith, b.below);
        passes = b.passes;
        after = λ q l u. ⊎_elim (λ k. subst (λ j. t j ≡ false) (sym k) y) (λ k. b.after q l (omega arith)) (cases_eq q n);
      })
      (cases_Bool (t n))

  pub last_is_none : (n : ℕ) → last_below t n ≡ None → (q : ℕ) → q < n → t q ≡ false
  last_is_none zero e q l = absurd (omega arith)
  last_is_none (suc n) e q l =
      ⊎_elim
      (λ y. let s : Some n ≡ None = sym (cond-true (t n) (Some n) (last_below t n) y) ∙ e in let z : ◌≡◌ {A = ℕ} 0 1 = cc in absurd (omega arith))
      (λ y. ⊎_elim (λ k. subst (λ j. t j ≡ false) (sym k) y) (λ k. last_is_none n (sym (cond-false (t n) (Some n) (last_below t n) y) ∙ e) q (omega arith)) (cases_eq q n))
      (cases_Bool (t n))

  pub first_none : (n : ℕ) → ((q : ℕ) → q < n → t q ≡ false) → first_below t n ≡ None
  first_none zero h = refl
  first_none (suc n) h =
      ap (λ o. or_else o (cond (t n) (Some n) None)) (first_none n (λ q l. h q (omega arith))) ∙ cond-false (t n) (Some n) None (h n (omega arith))

  pub first_some : (n p : ℕ) → p < n → t p ≡ true → ((q : ℕ) → q < p → t q ≡ false) → first_below t n ≡ Some p
  first_some zero p l y h = absurd (omega arith)
  first_some (suc n) p l y h =
      ⊎_elim
      (λ e.
      ap (λ o. or_else o (cond (t n) (Some n) None)) (first_none n (λ q u. h q (omega arith)))
      ∙ cond-true (t n) (Some n) None (subst (λ m. t m ≡ true) e y)
      ∙ ap Some (sym e))
      (λ ne. ap (λ o. or_else o (cond (t n) (Some n) None)) (first_some n p (omega arith) y h))
      (cases_eq p n)

  pub first_is_none : (n : ℕ) → first_below t n ≡ None → (q : ℕ) → q < n → t q ≡ false
  first_is_none zero e q l = absurd (omega arith)
  first_is_none (suc n) e q l =
      let both = or_else_none (first_below t n) (cond (t n) (Some n) None) e in
      ⊎_elim (λ k. subst (λ j. t j ≡ false) (sym k) (passed n both.1)) (λ k. first_is_none n both.0 q (omega arith)) (cases_eq q n)
    where
      passed : (m : ℕ) → cond (t m) (Some m) None ≡ None → t m ≡ false
      passed m f =
          ⊎_elim
          (λ y. let s : Some m ≡ None = sym (cond-true (t m) (Some m) None y) ∙ f in let z : ◌≡◌ {A = ℕ} 0 1 = cc in absurd (omega arith))
          (λ y. y)
          (cases_Bool (t m))

  -- p passes, and nothing below it does
  pub record First (n p : ℕ) : Type 0 where
    pub below : p < n
    pub passes : t p ≡ true
    pub before : (q : ℕ) → q < p → t q ≡ false

  pub first_is : (n p : ℕ) → first_below t n ≡ Some p → First n p
  first_is zero p e = let z : ◌≡◌ {A = ℕ} 0 1 = cc in absurd (omega arith)
  first_is (suc n) p e = go (first_below t n) refl (first_is n p)
    where
      found : (m : ℕ) → cond (t m) (Some m) None ≡ Some p → (m ≡ p) × (t m ≡ true)
      found m f =
          ⊎_elim
          (λ y. let s : Some m ≡ Some p = sym (cond-true (t m) (Some m) None y) ∙ f in let k : m ≡ p = cc in (k, y))
          (λ y. let s : None ≡ Some p = sym (cond-false (t m) (Some m) None y) ∙ f in let z : ◌≡◌ {A = ℕ} 0 1 = cc in absurd (omega arith))
          (cases_Bool (t m))

      go : (o : Option ℕ) → first_below t n ≡ o → (first_below t n ≡ Some p → First n p) → First (suc n) p
      go None e' up =
          let h = found n (sym (ap (λ o. or_else o (cond (t n) (Some n) None)) e') ∙ e) in
          record {
            below = omega arith;
            passes = subst (λ k. t k ≡ true) h.0 h.1;
            before = λ q l. first_is_none n e' q (omega arith);
          }
      go (Some m) e' up =
          let h = up (e' ∙ sym (ap (λ o. or_else o (cond (t n) (Some n) None)) e') ∙ e) in
          record { below = omega (arith, h.below); passes = h.passes; before = h.before }
