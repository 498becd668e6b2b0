-- Every board of every run is sound. Assumes nothing.
use Rattle.std.proofs.Common.{ℕ, List, [], ◌∷◌, length, sym, subst}
use Rattle.rules.specs.Boards.{Board}
use Rattle.rules.specs.Loads.{loaded, board_after, load}
use Rattle.rules.specs.Runs.{Call, steps, takes, hands_in, gives_back, done, history, Run}
use Rattle.rules.specs.Sound.{Sound}
use Rattle.laws.specs.SoundRuns.{Throughout, SoundRuns}
use Rattle.laws.proofs.Loading.{granted_is, loaded_sound}
use Rattle.laws.proofs.SlipCalls.{take_sound, hand_in_sound, give_back_sound}
use Rattle.laws.proofs.Steps.{deals_sound}

module _ {M : Type 0} (nothing : M) (join : M → M → M) (seal : ℕ → M → M) where
  pub done_sound : (b : Board) → Sound b → (book : List M) (c : Call M) → Sound (done nothing join seal b book c).board
  done_sound b h book (steps w v) = deals_sound b h (length book) w v
  done_sound b h book (takes w) = take_sound b h w
  done_sound b h book (hands_in slip x) = hand_in_sound nothing join b h book slip x
  done_sound b h book (gives_back slip) = give_back_sound b h slip

  pub history_sound : (b : Board) → Sound b → (book : List M) (cs : List (Call M)) → Throughout Sound (history nothing join seal b book cs)
  history_sound b h book [] = tt
  history_sound b h book (c ∷ cs) =
      let next = done_sound b h book c in
      (next, history_sound (done nothing join seal b book c).board next (done nothing join seal b book c).book cs)

  pub load_sound : (run : Run nothing join seal) → Sound (load nothing run.before run.rows run.lines run.workers run.figures).board
  load_sound run =
      subst (λ a. Sound (board_after a (loaded run.rows run.workers run.figures) run.before)) (sym run.granted)
      (loaded_sound run.rows (length run.lines) run.workers run.figures (granted_is run.rows (length run.lines) run.workers run.figures run.granted))

  pub sound_runs : SoundRuns nothing join seal
  sound_runs run =
      let start = load nothing run.before run.rows run.lines run.workers run.figures in
      (load_sound run, history_sound start.board (load_sound run) start.book run.calls)
