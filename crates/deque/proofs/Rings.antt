-- Rows round a ring of slots. Assumes nothing.
use Rattle.std.proofs.Common.{◌≡◌, ℕ, zero, suc, ◌+◌, ◌-◌, ◌%◌, ◌<◌, ◌≤◌, ◌≢◌, List, ◌∷◌, length, get_or, set, Some, sym, refl, ap, ◌∙◌, ap₂, add-one, arith}
use Rattle.std.proofs.lemmas.List.{get_or-set_same, get_or-set_other}
use Rattle.deque.specs.Queues.{above_bottom, top, top_over, below_top, below_top_over}
use Rattle.deque.specs.Deques.{room, slot, ring}

module _ (slots : List ℕ) where
  pub length-ring : (at n : ℕ) → length (ring slots at n) ≡ n
  length-ring at zero = refl
  length-ring at (suc n) = ap suc (length-ring (at + 1) n)

  -- only the slot counts
  pub ring-slot : (at to n : ℕ) → slot at ≡ slot to → ring slots at n ≡ ring slots to n
  ring-slot at to zero e = refl
  ring-slot at to (suc n) e = ap₂ (λ s rest. get_or slots s 0 ∷ rest) e (ring-slot (at + 1) (to + 1) n (omega arith))

  -- a write to a slot outside changes nothing
  pub ring-set : (j x at n : ℕ) → ((i : ℕ) → i < n → slot (at + i) ≢ j) → ring (set slots j x) at n ≡ ring slots at n
  ring-set j x at zero out = refl
  ring-set j x at (suc n) out =
      ap₂ ◌∷◌
      (get_or-set_other slots j (slot at) x 0 (λ e. out 0 (omega arith) (omega (arith, e))))
      (ring-set j x (at + 1) n (λ i l e. out (suc i) (omega arith) (omega (arith, e))))

  pub ring-top : (at n : ℕ) → top_over (get_or slots (slot at) 0) (ring slots (at + 1) n) ≡ get_or slots (slot (at + n)) 0
  ring-top at zero = ap (λ k. get_or slots (slot k) 0) (omega arith)
  ring-top at (suc n) = ring-top (at + 1) n ∙ ap (λ k. get_or slots (slot k) 0) (omega arith)

  pub ring_below : (at n : ℕ) → below_top_over (get_or slots (slot at) 0) (ring slots (at + 1) n) ≡ ring slots at n
  ring_below at zero = refl
  ring_below at (suc n) = ap (get_or slots (slot at) 0 ∷◌) (ring_below (at + 1) n)

-- what a deque answers and leaves, by how many rows it has
module _ (slots : List ℕ) (at : ℕ) where
  pub popped_bottom : (n : ℕ) → 1 ≤ n → ring slots ((at + 1) % 1024) (n - 1) ≡ above_bottom (ring slots at n)
  popped_bottom zero l = absurd (omega arith)
  popped_bottom (suc n) l =
      ring-slot slots ((at + 1) % 1024) (at + 1) (suc n - 1) (omega arith) ∙ ap (ring slots (at + 1)) (omega arith)

  pub popped_top : (n : ℕ) → 1 ≤ n → (Some (get_or slots ((at + (n - 1)) % 1024) 0) ≡ top (ring slots at n)) × (ring slots at (n - 1) ≡ below_top (ring slots at n))
  popped_top zero some = absurd (omega arith)
  popped_top (suc n) some =
      let less : suc n - 1 ≡ n = omega arith in (
        ap (λ k. Some (get_or slots ((at + k) % 1024) 0)) less ∙ ap Some (sym (ring-top slots at n)),
        ap (ring slots at) less ∙ sym (ring_below slots at n),
      )

  pub ring_with_bottom : (n x : ℕ) → n < room → length slots ≡ room → ring (set slots ((at + 1023) % 1024) x) ((at + 1023) % 1024) (n + 1) ≡ x ∷ ring slots at n
  ring_with_bottom n x few sized =
      let j = (at + 1023) % 1024 in
      let low : j < 1024 = omega arith in
      let own : slot j ≡ j = omega arith in
      ap (ring (set slots j x) j) (add-one n)
      ∙ ap₂ ◌∷◌
      (ap (λ s. get_or (set slots j x) s 0) own ∙ get_or-set_same slots j x 0 (omega arith))
      (ring-set slots j x (j + 1) n (λ i l e. omega (arith, e)) ∙ ring-slot slots (j + 1) at n (omega arith))
