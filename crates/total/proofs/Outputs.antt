-- What is put into an output. Assumes nothing.
use Rattle.std.proofs.Common.{◌≡◌, ℕ, ◌+◌, ◌<◌, ◌≤◌, List, [], ◌++◌, length, get_or, Bor, take, drop, Ok, Err, sym, refl, ap, ◌∙◌, ap₂, ⊎_elim, append_assoc, add-zero, add_assoc, arith, length-append, length-drop, take-append-drop, length-take}
use Rattle.std.proofs.lemmas.List.{take_at, drop_at, drop-drop, take_more, flat_map_more}
use Rattle.std.proofs.lemmas.List.Folds.{length-flat_map-take}
use Rattle.std.proofs.lemmas.Bool.{le-leb, lt-leb, leb-true, cond-true, cond-false, cond_both, cases_lt}
use Rattle.total.specs.declared.output.OutputRefusal.{OutputRefusal}
use Rattle.total.specs.declared.output.OutputRefusal.TheVariants.{TooShort}
use Rattle.total.specs.Outputs.{fits, put, put_end, pieced}

module _ (out : List ℕ) (at : ℕ) (bytes : List ℕ) where
  pub put-fits : at + length bytes ≤ length out → put out at bytes ≡ take at out ++ (bytes ++ drop (at + length bytes) out)
  put-fits h = cond-true _ _ _ (le-leb _ _ h)

  pub put_end-fits : at + length bytes ≤ length out → put_end out at bytes ≡ Ok (at + length bytes)
  put_end-fits h = cond-true _ _ _ (le-leb _ _ h)

  pub put_end_short : length out < at + length bytes → put_end out at bytes ≡ Err TooShort
  put_end_short h = cond-false _ _ _ (lt-leb _ _ h)

  -- the way back, for what an `Ok` tells
  pub put_end_ok : (end : ℕ) → put_end out at bytes ≡ Ok end → (at + length bytes ≤ length out) × (end ≡ at + length bytes)
  put_end_ok end e =
      ⊎_elim
      (λ short. let p = put_end_short short in grind arith)
      (λ room. let p = put_end-fits room in (room, grind arith))
      (cases_lt (length out) (at + length bytes))

  pub length-put : length (put out at bytes) ≡ length out
  length-put =
      cond_both (fits out at bytes) _ _ (λ l. length l ≡ length out)
      (λ e. simp (length-append, length-take, length-drop) (omega (arith, leb-true _ _ e)))
      (λ e. refl)

-- no bytes change nothing
pub put_none : (out : List ℕ) (at : ℕ) → put out at [] ≡ out
put_none out at =
    cond_both (fits out at []) _ _ (λ l. l ≡ out)
    (λ e. ap (λ n. take at out ++ drop n out) (add-zero at) ∙ take-append-drop at out)
    (λ e. refl)

module _ (out : List ℕ) (at : ℕ) (xs ys : List ℕ) where
  end-append : at + length xs + length ys ≡ at + length (xs ++ ys)
  end-append = rw length-append (add_assoc _ _ _)

  -- and where all fits it writes the same
  pub put-append : at + length (xs ++ ys) ≤ length out → put (put out at xs) (at + length xs) ys ≡ put out at (xs ++ ys)
  put-append h =
      let mid = at + length xs in
      let front = take at out ++ xs in
      let room : mid + length ys ≤ length out = omega (arith, end-append) in
      let first : put out at xs ≡ front ++ drop mid out = put-fits out at xs (omega arith) ∙ sym (append_assoc (take at out) xs _) in
      let long : length front ≡ mid = simp (length-append, length-take) (omega arith) in
      let before : take mid (put out at xs) ≡ front = ap (take mid) first ∙ take_at front _ mid long in
      let past : drop mid (put out at xs) ≡ drop mid out = ap (drop mid) first ∙ drop_at front _ mid long in
      let behind : drop (mid + length ys) (put out at xs) ≡ drop (at + length (xs ++ ys)) out =
      sym (drop-drop (length ys) mid _) ∙ ap (drop (length ys)) past ∙ drop-drop (length ys) mid out ∙ ap (λ n. drop n out) end-append in
      put-fits (put out at xs) mid ys (omega (arith, length-put out at xs))
      ∙ ap₂ (λ a b. a ++ (ys ++ b)) before behind
      ∙ (simp append_assoc)
      ∙ sym (put-fits out at (xs ++ ys) h)

-- bytes that have room are not refused
pub put_end-room : (out : List ℕ) (at : ℕ) (bytes : List ℕ) (e : OutputRefusal) → at + length bytes ≤ length out → Err e ≡ put_end out at bytes → ⊥
put_end-room out at bytes e room was = let p = put_end-fits out at bytes room in let z : ◌≡◌ {A = ℕ} 0 1 = cc in omega arith

-- xs were put from a place on, up to the place after them
pub record Laid (out : List ℕ) (at : ℕ) (xs after : List ℕ) (end : ℕ) : Type 0 where
  pub is : after ≡ put out at xs
  pub ends : end ≡ at + length xs

pub laid_none : (out : List ℕ) (at : ℕ) → Laid out at [] out at
laid_none out at = record { is = sym (put_none out at); ends = sym (add-zero at) }

pub laid_by : (out : List ℕ) (at : ℕ) (xs after : List ℕ) (end : ℕ) → Ok end ≡ put_end out at xs → after ≡ put out at xs → Laid out at xs after end
laid_by out at xs after end e a = record { is = a; ends = (put_end_ok out at xs end (sym e)).1 }

-- ys put after them
module _ {out : List ℕ} {at : ℕ} {xs mid : List ℕ} {m : ℕ} (laid : Laid out at xs mid m) (ys : List ℕ) (room : at + length (xs ++ ys) ≤ length out) where
  pub laid_room : m + length ys ≤ length mid
  laid_room = omega (arith, laid.ends, ap length laid.is, length-put out at xs, length-append xs ys)

  pub laid_put : put mid m ys ≡ put out at (xs ++ ys)
  laid_put = ap (λ p. put p m ys) laid.is ∙ ap (λ k. put (put out at xs) k ys) laid.ends ∙ put-append out at xs ys room

  pub laid_more : (after : List ℕ) (end : ℕ) → Ok end ≡ put_end mid m ys → after ≡ put mid m ys → Laid out at (xs ++ ys) after end
  laid_more after end e a =
      let last = laid_by mid m ys after end e a in
      record { is = a ∙ laid_put; ends = omega (arith, laid.ends, last.ends, length-append xs ys) }

-- what is read past the last piece
abbrev pub no_piece : Bor (List ℕ)
no_piece = record { ref_ptr = (0, 0); now = [] }

module _ (ps : List (Bor (List ℕ))) (i : ℕ) (inside : i < length ps) where
  -- the pieces before the next, and that one
  pub pieced_next : pieced (take i ps) ++ (get_or ps i no_piece).now ≡ pieced (take (i + 1) ps)
  pieced_next = flat_map_more (λ (p : Bor (List ℕ)). p.now) [] (take i ps) (get_or ps i no_piece) ∙ ap pieced (sym (take_more ps i no_piece inside))

  pub pieces_room : length (pieced (take i ps)) + length (get_or ps i no_piece).now ≤ length (pieced ps)
  pieces_room = length-flat_map-take (λ (p : Bor (List ℕ)). p.now) ps i no_piece inside
