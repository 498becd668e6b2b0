-- What is known from a result: of the option that it stands for, and at the exit of a `?`.
use Rattle.std.proofs.Common.{◌≡◌, Some, None, Ok, Err, Option, Result, refl, ap}
use Rattle.std.specs.Option.{ok_or}
use Rattle.std.specs.Result.{IsErrAnd}

module _ {X E : Type 0} where
  pub ok_or-ok : {x : X} (d : E) (o : Option X) → Ok x ≡ ok_or o d → o ≡ Some x
  ok_or-ok d None h = cc
  ok_or-ok d (Some y) h = cc

  pub ok_or-err : {e : E} (d : E) (o : Option X) → Err e ≡ ok_or o d → (o ≡ None) × (e ≡ d)
  ok_or-err d None h = (refl, cc)
  ok_or-err d (Some y) h = cc

  pub passed_up : (r : Result X E) {f : E} → IsErrAnd r (λ e. e ≡ f) → r ≡ Err f
  passed_up (Ok x) h = absurd h
  passed_up (Err e) h = ap Err h
