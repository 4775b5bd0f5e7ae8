-- Runs that go on.
use Rattle.std.proofs.Common.{◌++◌, List, [], ◌∷◌, subst, refl}
use Rattle.i3c_base.specs.declared.device.Setup.{Setup}
use Rattle.i3c_base.specs.State.{Board, IsStart, State}
use Rattle.i3c_step.specs.declared.events.Event.{Event}
use Rattle.i3c_step.specs.declared.replies.Reply.{Reply}
use Rattle.i3c_step.specs.Step.{Step}
use Rattle.i3c_step.specs.Runs.{IsLegalRun, IsRun}

-- a run goes on by one step
run_more : (old : State) (events : List Event) (replies : List Reply) (mid : State) (event : Event) (reply : Reply) (new : State) → IsRun old events replies mid → Step mid event reply new
    → IsRun old (events ++ event ∷ []) (replies ++ reply ∷ []) new
run_more old [] [] mid event reply new r s = (new, subst (λ m. Step m event reply new) r s, refl)
run_more old (e ∷ es) (x ∷ xs) mid event reply new r s = (r.0, r.1, run_more r.0 es xs mid event reply new r.2 s)
run_more old [] (x ∷ xs) mid event reply new r s = absurd r
run_more old (e ∷ es) [] mid event reply new r s = absurd r

-- a legal run is empty at a start
pub legal_none : (main : Setup) (board : Board) (start : State) → IsStart main board start → IsLegalRun main board [] [] start
legal_none main board start begins = (start, begins, refl)

-- a legal run goes on by one step
pub legal_more : (main : Setup) (board : Board) (events : List Event) (replies : List Reply) (mid : State) (event : Event) (reply : Reply) (new : State)
    → IsLegalRun main board events replies mid → Step mid event reply new → IsLegalRun main board (events ++ event ∷ []) (replies ++ reply ∷ []) new
legal_more main board events replies mid event reply new r s = (r.0, r.1, run_more r.0 events replies mid event reply new r.2 s)
