-- What each step keeps holds along runs and histories.
use Rattle.std.proofs.Common.{◌≡◌, List, [], ◌∷◌, ◌++◌, sym, ◌∙◌, subst, append_assoc, append-nil}
use Rattle.i3c_base.specs.State.{State}
use Rattle.i3c_step.specs.declared.events.Event.{Event}
use Rattle.i3c_step.specs.declared.replies.Reply.{Reply}
use Rattle.i3c_step.specs.Step.{Step}
use Rattle.i3c_step.specs.Runs.{IsRun}
use Rattle.i3c_step.specs.History.{History, IsLegal, Moment, events_of, reached, replies_of}

-- each step keeps P
abbrev pub IsKeptBySteps : (State → Type 0) → Type 0
IsKeptBySteps P = (old : State) (event : Event) (reply : Reply) (new : State) → Step old event reply new → P old → P new

pub run_keeps : (P : State → Type 0) → IsKeptBySteps P → (old : State) (events : List Event) (replies : List Reply) (new : State)
    → IsRun old events replies new → P old → P new
run_keeps P keeps old [] [] new run h = subst P (sym run) h
run_keeps P keeps old (event ∷ events) (reply ∷ replies) new run h = run_keeps P keeps run.0 events replies new run.2 (keeps old event reply run.0 run.1 h)
run_keeps P keeps old [] (reply ∷ replies) new run h = absurd run
run_keeps P keeps old (event ∷ events) [] new run h = absurd run

pub history_keeps : (P : State → Type 0) → IsKeptBySteps P → (start : State) (h : History) → IsLegal start h → P start → P (reached start h)
history_keeps P keeps start [] legal p = p
history_keeps P keeps start (m ∷ earlier) legal p =
    keeps (reached start earlier) m.event m.reply m.after legal.0 (history_keeps P keeps start earlier legal.1 p)

-- a history goes on by a run
history_more : (start : State) (h : History) (events : List Event) (replies : List Reply) (new : State) → IsLegal start h → IsRun (reached start h) events replies new
    → (more : History) × IsLegal start more × (reached start more ≡ new) × (events_of more ≡ events_of h ++ events) × (replies_of more ≡ replies_of h ++ replies)
history_more start h [] [] new legal run = (h, legal, sym run, sym (append-nil (events_of h)), sym (append-nil (replies_of h)))
history_more start h (event ∷ events) (reply ∷ replies) new legal run =
    let m : Moment = record { event = event; reply = reply; after = run.0 } in
    let r = history_more start (m ∷ h) events replies new (run.1, legal) run.2 in
    (r.0, r.1, r.2, r.3 ∙ append_assoc (events_of h) (event ∷ []) events, r.4 ∙ append_assoc (replies_of h) (reply ∷ []) replies)
history_more start h [] (reply ∷ replies) new legal run = absurd run
history_more start h (event ∷ events) [] new legal run = absurd run

pub runs_are_histories : (start : State) (events : List Event) (replies : List Reply) (new : State) → IsRun start events replies new
    → (h : History) × IsLegal start h × (reached start h ≡ new) × (events_of h ≡ events) × (replies_of h ≡ replies)
runs_are_histories start events replies new run = history_more start [] events replies new tt run
