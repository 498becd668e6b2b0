-- Runs: a granted load, and then any list of calls. Assumes nothing.
--     Call M                     a step, a take, a hand in or a give back, with any number, slip or value
--     Said                       what a call answered
--     Moment M                   what a call answered, and the board and the book after it
--     done b book c              the moment after call c
--     history b book cs          the moments of a list of calls, first to last
--     Run M                      a granted load and the calls after it; the book's lines are meanings
use Rattle.std.specs.Prelude.{◌≡◌, ℕ, Bool, List, [], ◌∷◌, Ok, Result}
use Rattle.job.specs.declared.row.Row.{Row}
use Rattle.rules.specs.declared.answer.Answer.{Answer}
use Rattle.rules.specs.declared.refusal.DealRefusal.{DealRefusal}
use Rattle.rules.specs.declared.state.Figures.{Figures}
use Rattle.rules.specs.Boards.{Board}
use Rattle.rules.specs.Loads.{load}
use Rattle.rules.specs.Slips.{Slip, take, hand_in, give_back}
use Rattle.rules.specs.Steps.{Outcome, step}

pub data Call (M : Type 0) : Type 0 where
  steps : ℕ → ℕ → Call M
  takes : ℕ → Call M
  hands_in : Slip → M → Call M
  gives_back : Slip → Call M

pub data Said : Type 0 where
  stepped : Result Answer DealRefusal → Said
  took : Result Slip DealRefusal → Said
  handed_in : Result (Unit {0}) (DealRefusal × Slip) → Said
  gave_back : Bool → Said

pub record Moment (M : Type 0) : Type 0 where
  pub said : Said
  pub board : Board
  pub book : List M

abbrev pub after_step : {M : Type 0} → Outcome (Result Answer DealRefusal) M → Moment M
after_step o = record { said = stepped o.answer; board = o.board; book = o.book }

abbrev pub after_hand_in : {M : Type 0} → Outcome (Result (Unit {0}) (DealRefusal × Slip)) M → Moment M
after_hand_in o = record { said = handed_in o.answer; board = o.board; book = o.book }

module _ {M : Type 0} (nothing : M) (join : M → M → M) (seal : ℕ → M → M) where
  abbrev pub done : Board → List M → Call M → Moment M
  done b book (steps w v) = after_step (step nothing join seal b book w v)
  done b book (takes w) = record { said = took (take b w).answer; board = (take b w).board; book = book }
  done b book (hands_in slip x) = after_hand_in (hand_in nothing join b book slip x)
  done b book (gives_back slip) = record { said = gave_back (give_back b slip).answer; board = (give_back b slip).board; book = book }

  abbrev pub history : Board → List M → List (Call M) → List (Moment M)
  history b book [] = []
  history b book (c ∷ cs) = let m = done b book c in m ∷ history m.board m.book cs

  -- any board may be loaded anew
  pub record Run : Type 0 where
    pub before : Board
    pub rows : List Row
    pub lines : List M
    pub workers : ℕ
    pub figures : Figures
    pub granted : (load nothing before rows lines workers figures).answer ≡ Ok tt
    pub calls : List (Call M)

  abbrev pub moments : Run → List (Moment M)
  moments run =
      let start = load nothing run.before run.rows run.lines run.workers run.figures in
      history start.board start.book run.calls
