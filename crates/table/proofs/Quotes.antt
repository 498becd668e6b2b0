-- A value with a quote is neither a word nor a number, so a doubled quote need not be undone.
use Rattle.std.proofs.Common.{◌≡◌, ℕ, suc, ◌+◌, ◌-◌, ◌*◌, ◌≤◌, Bool, true, false, cond, not, ◌&&◌, eqb, leb, List, [], ◌∷◌, length, get_or, None, codes, sym, refl, ap, ◌∙◌, ⊎_elim, arith}
use Rattle.std.proofs.lemmas.Slice.Eq.{HasBytesAt, text_from_reads}
use Rattle.std.proofs.lemmas.Bool.{true≢false, cond-false, and_parts, and_left, and_right, ne_eqb, eqb-true, leb-true, cases_Bool}
use Rattle.table.specs.Fields.{unescaped}
use Rattle.table.specs.Values.{reads_from, is_word, kind_of, digit, number_from, number_of, size_of, mark_of, within}

abbrev pub quoteless : List ℕ → Bool
quoteless [] = true
quoteless (b ∷ v) = not (eqb b 34) && quoteless v

-- with no quote there is nothing to undo
unescaped_none : (v : List ℕ) → quoteless v ≡ true → unescaped v ≡ v
unescaped_none [] h = refl
unescaped_none (b ∷ []) h = refl
unescaped_none (b ∷ c ∷ v) h =
    let parts = and_parts (not (eqb b 34)) (quoteless (c ∷ v)) h in
    cond-false _ _ _ (and_left _ _ (plain (eqb b 34) parts.0)) ∙ ap (λ l. b ∷ l) (unescaped_none (c ∷ v) parts.1)
  where
    plain : (t : Bool) → not t ≡ true → t ≡ false
    plain true e = sym e
    plain false e = refl

-- and a quote stays where it is one of two
quoted_kept : (v : List ℕ) → quoteless v ≡ false → quoteless (unescaped v) ≡ false
quoted_kept [] h = h
quoted_kept (b ∷ []) h = h
quoted_kept (b ∷ c ∷ v) h = by_first (quoted_kept (c ∷ v)) (eqb b 34) refl (eqb c 34)
  where
    by_first : (quoteless (c ∷ v) ≡ false → quoteless (unescaped (c ∷ v)) ≡ false) → (t : Bool) → eqb b 34 ≡ t → (u : Bool) → quoteless (cond (t && u) (b ∷ unescaped v) (b ∷ unescaped (c ∷ v))) ≡ false
    by_first more true e true = and_left _ _ (ap not e)
    by_first more true e false = and_left _ _ (ap not e)
    by_first more false e u = and_right _ _ (more (sym (ap (λ t. not t && quoteless (c ∷ v)) e) ∙ h))

-- what is one and the same for each value with a quote does not see a doubled quote
pub same_unescaped : {X : Type 0} (F : List ℕ → X) (z : X) → ((v : List ℕ) → quoteless v ≡ false → F v ≡ z) → (raw : List ℕ) → F (unescaped raw) ≡ F raw
same_unescaped F z h raw =
    ⊎_elim
    (λ free. ap F (unescaped_none raw free))
    (λ held. h (unescaped raw) (quoted_kept raw held) ∙ sym (h raw held))
    (cases_Bool (quoteless raw))

-- a word that passes is the word
reads : (v : List ℕ) (i : ℕ) (w : List ℕ) → reads_from v i w ≡ true → HasBytesAt v i w
reads v i [] h = tt
reads v i (b ∷ w) h = let parts = and_parts (eqb (get_or v i 0) b) (reads_from v (suc i) w) h in (eqb-true _ _ parts.0, reads v (suc i) w parts.1)

pub word_is : (v w : List ℕ) → is_word v w ≡ true → v ≡ w
word_is v w h = let parts = and_parts (eqb (length v) (length w)) (reads_from v 0 w) h in text_from_reads v w (eqb-true _ _ parts.0) (reads v 0 w parts.1)

pub no_word : (v w : List ℕ) → quoteless w ≡ true → quoteless v ≡ false → is_word v w ≡ false
no_word v w free held = ⊎_elim (λ e. absurd (true≢false (sym free ∙ ap quoteless (sym (word_is v w e)) ∙ held))) (λ e. e) (cases_Bool (is_word v w))

no_kind : (v : List ℕ) → quoteless v ≡ false → kind_of v ≡ None
no_kind v held = cond-false _ _ _ (no_word v (codes "work") refl held) ∙ cond-false _ _ _ (no_word v (codes "finish") refl held) ∙ cond-false _ _ _ (no_word v (codes "async") refl held)

no_digits : (n : ℕ) (v : List ℕ) → quoteless v ≡ false → number_from n v ≡ None
no_digits n [] held = absurd (true≢false held)
no_digits n (b ∷ v) held = by_digit (no_digits (n * 10 + (b - 48)) v) (digit b) refl
  where
    by_digit : (quoteless v ≡ false → number_from (n * 10 + (b - 48)) v ≡ None) → (t : Bool) → digit b ≡ t → cond t (number_from (n * 10 + (b - 48)) v) None ≡ None
    by_digit more true e =
        let low : 48 ≤ b = leb-true 48 b (and_parts (leb 48 b) (leb b 57) e).0 in
        let plain : eqb b 34 ≡ false = ne_eqb b 34 (λ q. omega arith) in
        more (sym (ap (λ t. not t && quoteless v) plain) ∙ held)
    by_digit more false e = refl

no_number : (v : List ℕ) → quoteless v ≡ false → number_of v ≡ None
no_number v held = either_way _ (no_digits 0 v held)
  where
    either_way : (t : Bool) → number_from 0 v ≡ None → cond t None (number_from 0 v) ≡ None
    either_way true e = refl
    either_way false e = e

-- what the reader compares, as it is written
pub kind_as_written : (raw : List ℕ) → kind_of (unescaped raw) ≡ kind_of raw
kind_as_written = same_unescaped kind_of None no_kind

pub size_as_written : (raw : List ℕ) → size_of (unescaped raw) ≡ size_of raw
size_as_written = same_unescaped size_of None (λ v held. ap (within 1 1024) (no_number v held))

pub mark_as_written : (raw : List ℕ) → mark_of (unescaped raw) ≡ mark_of raw
mark_as_written = same_unescaped mark_of None (λ v held. ap (within 0 255) (no_number v held))

pub word_as_written : (w raw : List ℕ) → quoteless w ≡ true → is_word (unescaped raw) w ≡ is_word raw w
word_as_written w raw free = same_unescaped (λ v. is_word v w) false (λ v held. no_word v w free held) raw
