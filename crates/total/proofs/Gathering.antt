-- What a finish row gathers from its own rows. Assumes nothing.
use Rattle.std.proofs.Common.{◌≡◌, ℕ, zero, suc, ◌+◌, ◌<◌, ◌≤◌, true, false, ◌⊎◌, List, Some, None, Option, sym, refl, ap, ◌∙◌, inl, inr, ⊎_elim, add-zero, add-suc, arith}
use Rattle.std.proofs.lemmas.Bool.{cond-true, cond-false, cases_Bool, eqb-true, eq-eqb, both_ways}
use Rattle.job.specs.declared.row.Row.{Row}
use Rattle.job.specs.Rows.{row, is_work, is_finish, finish}
use Rattle.job.proofs.Enclosing.{Nearest, around_is}
use Rattle.total.specs.Serial.{is_at, own, with_line, gathered}

is_at-some : (f : ℕ) (o : Option ℕ) → is_at f o ≡ true → o ≡ Some f
is_at-some f None e = absurd (both_ways false refl e)
is_at-some f (Some g) e = ap Some (sym (eqb-true f g e))

module _ (rows : List Row) where
  pub own_is : (f r : ℕ) → own rows f r ≡ true → finish rows r ≡ Some f
  own_is f r e = is_at-some f (finish rows r) e

  pub own_from : (f r : ℕ) → finish rows r ≡ Some f → own rows f r ≡ true
  own_from f r e = ap (is_at f) e ∙ eq-eqb f f refl

  pub own-near : (f r : ℕ) → own rows f r ≡ true → Nearest rows (λ p. is_finish (row rows p)) r f
  own-near f r e = around_is rows (λ p. is_finish (row rows p)) r f (own_is f r e)

-- the line of a row that is neither work nor finish brings nothing
abbrev pub Brings : Row → Type 0
Brings x = (is_work x ≡ true) ⊎ (is_finish x ≡ true)

module _ {M : Type 0} (nothing : M) (join : M → M → M) (seal : ℕ → M → M) where
  pub with_same : (x : Row) (sum a b : M) → (Brings x → a ≡ b) → with_line nothing join seal x sum a ≡ with_line nothing join seal x sum b
  with_same x sum a b e =
      ⊎_elim
      (λ w. ap (with_line nothing join seal x sum) (e (inl w)))
      (λ nw. ⊎_elim
      (λ f. ap (with_line nothing join seal x sum) (e (inr f)))
      (λ nf. idle a nw nf ∙ sym (idle b nw nf))
      (cases_Bool (is_finish x)))
      (cases_Bool (is_work x))
    where
      idle : (l : M) → is_work x ≡ false → is_finish x ≡ false → with_line nothing join seal x sum l ≡ sum
      idle l nw nf = cond-false (is_work x) _ _ nw ∙ cond-false (is_finish x) _ _ nf

  module _ (rows : List Row) where
    pub gathered-own : (line : ℕ → M) (f r : ℕ) → own rows f r ≡ true → gathered nothing join seal rows line f (suc r) ≡ with_line nothing join seal (row rows r) (gathered nothing join seal rows line f r) (line r)
    gathered-own line f r y = cond-true (own rows f r) _ _ y

    pub gathered_other : (line : ℕ → M) (f r : ℕ) → own rows f r ≡ false → gathered nothing join seal rows line f (suc r) ≡ gathered nothing join seal rows line f r
    gathered_other line f r n = cond-false (own rows f r) _ _ n

    -- rows of other finishes bring nothing
    pub gathered_skip : (line : ℕ → M) (f a k : ℕ) → ((r : ℕ) → a ≤ r → r < a + k → own rows f r ≡ false) → gathered nothing join seal rows line f (a + k) ≡ gathered nothing join seal rows line f a
    gathered_skip line f a zero h = ap (gathered nothing join seal rows line f) (add-zero a)
    gathered_skip line f a (suc k) h =
        ap (gathered nothing join seal rows line f) (add-suc a k)
        ∙ gathered_other line f (a + k) (h (a + k) (omega arith) (omega arith))
        ∙ gathered_skip line f a k (λ r l m. h r l (omega arith))

    pub gathered_same : (l₁ l₂ : ℕ → M) (f n : ℕ) → ((r : ℕ) → r < n → own rows f r ≡ true → Brings (row rows r) → l₁ r ≡ l₂ r) → gathered nothing join seal rows l₁ f n ≡ gathered nothing join seal rows l₂ f n
    gathered_same l₁ l₂ f zero h = refl
    gathered_same l₁ l₂ f (suc r) h =
        let before = gathered_same l₁ l₂ f r (λ q l y b. h q (omega arith) y b) in
        ⊎_elim
        (λ y.
        gathered-own l₁ f r y
        ∙ ap (λ s. with_line nothing join seal (row rows r) s (l₁ r)) before
        ∙ with_same (row rows r) _ (l₁ r) (l₂ r) (h r (omega arith) y)
        ∙ sym (gathered-own l₂ f r y))
        (λ n. gathered_other l₁ f r n ∙ before ∙ sym (gathered_other l₂ f r n))
        (cases_Bool (own rows f r))
