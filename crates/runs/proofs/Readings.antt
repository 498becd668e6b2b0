-- What is known of the row table after a text was read into it. Assumes nothing.
use Rattle.std.proofs.Common.{◌≡◌, ℕ, ◌+◌, ◌≤◌, List, ◌++◌, length, take, drop, Ok, Err, Result, sym, refl, ap, ◌∙◌, arith}
use Rattle.std.proofs.lemmas.List.{take_at, length-append}
use Rattle.job.specs.declared.row.Row.{Row}
use Rattle.total.specs.Outputs.{put, put_end}
use Rattle.total.specs.declared.output.OutputRefusal.{OutputRefusal}
use Rattle.total.proofs.Outputs.{put-append, put-fits, put_end_ok}
use Rattle.table.specs.RunTables.{run_header}
use Rattle.table.specs.Texts.{counted, written}

-- the rows that were read stand at the front
pub record Front {E : Type 0} (r : Result (List Row) E) (count : ℕ) (after : List Row) : Type 0 where
  pub rows : List Row
  pub is : r ≡ Ok rows
  pub front : take count after ≡ rows
  pub within : count ≤ length after

pub read-front : {E : Type 0} (r : Result (List Row) E) (count : ℕ) (after old : List Row) → Ok count ≡ counted r → after ≡ written r old → Front r count after
read-front (Ok rs) count after old e a =
    let long : count ≡ length rs = cc in
    record {
      rows = rs;
      is = refl;
      front = ap (take count) a ∙ take_at rs (drop (length rs) old) count (sym long);
      within = omega (arith, ap length a, length-append rs (drop (length rs) old));
    }
read-front (Err f) count after old e a = let z : ◌≡◌ {A = ℕ} 0 1 = cc in absurd (omega arith)

pub read-refused : {E : Type 0} (r : Result (List Row) E) (e : E) → Err e ≡ counted r → r ≡ Err e
read-refused (Ok rs) e was = let z : ◌≡◌ {A = ℕ} 0 1 = cc in absurd (omega arith)
read-refused (Err f) e was = cc

-- the header, and then the rest
pub header_then : (out mid after body : List ℕ) (m end : ℕ) → m ≡ 37 → mid ≡ put out 0 run_header → end ≡ m + length body → after ≡ put mid m body → end ≤ length out → take end after ≡ run_header ++ body
header_then out mid after body m end e h p a fits =
    let long : length (run_header ++ body) ≡ 37 + length body = length-append run_header body in
    let room : 0 + length (run_header ++ body) ≤ length out = omega arith in
    let all : after ≡ put out 0 (run_header ++ body) = a ∙ ap (λ o. put o m body) h ∙ ap (λ k. put (put out 0 run_header) k body) e ∙ put-append out 0 run_header body room in
    ap (take end) (all ∙ put-fits out 0 (run_header ++ body) room) ∙ take_at (run_header ++ body) (drop (0 + length (run_header ++ body)) out) end (omega arith)

-- where the header ends
pub header : (out : List ℕ) (m : ℕ) (r : Result ℕ OutputRefusal) → r ≡ put_end out 0 run_header → r ≡ Ok m → m ≡ 37
header out m r e is = (put_end_ok out 0 run_header m (sym e ∙ is)).1
