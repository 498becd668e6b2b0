-- A row that a source gives, and the row that the definitions read. Assumes nothing.
use Rattle.std.proofs.Common.{◌≡◌, ℕ, zero, suc, List, [], ◌∷◌, get_or, Some, None, arith}
use Rattle.std.specs.List.{slice_get}

pub read_some : {X : Type 0} (xs : List X) (i : ℕ) (x d : X) → slice_get xs i ≡ Some x → x ≡ get_or xs i d
read_some [] i x d e = let z : ◌≡◌ {A = ℕ} 0 1 = cc in absurd (omega arith)
read_some (y ∷ ys) zero x d e = cc
read_some (y ∷ ys) (suc i) x d e = read_some ys i x d e

pub read_none : {X : Type 0} (xs : List X) (i : ℕ) (d : X) → slice_get xs i ≡ None → d ≡ get_or xs i d
read_none [] i d e = cc
read_none (y ∷ ys) zero d e = let z : ◌≡◌ {A = ℕ} 0 1 = cc in absurd (omega arith)
read_none (y ∷ ys) (suc i) d e = read_none ys i d e
