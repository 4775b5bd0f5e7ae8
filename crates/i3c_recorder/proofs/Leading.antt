-- Runs that go on.
use Rattle.std.proofs.Common.{◌≡◌, List, [], ◌∷◌, ◌++◌, refl, ap, subst}
use Rattle.i3c_base.specs.State.{State}
use Rattle.i3c_step.specs.Step.{Step}
use Rattle.i3c_recorder.specs.declared.entry.Entry.{Entry}
use Rattle.i3c_recorder.specs.KeptRuns.{Leads, events_of}

pub events_append : (es fs : List Entry) → events_of (es ++ fs) ≡ events_of es ++ events_of fs
events_append [] fs = refl
events_append (e ∷ es) fs = ap (λ xs. e.event ∷ xs) (events_append es fs)

pub leads_append : (start : State) (run : List Entry) (mid : State) (more : List Entry) (new : State) → Leads start run mid → Leads mid more new → Leads start (run ++ more) new
leads_append start [] mid more new h k = subst (λ st. Leads st more new) h k
leads_append start (e ∷ run) mid more new h k = (h.0, h.1, leads_append h.0 run mid more new h.2 k)

-- a run goes on by one step
pub leads_more : (start : State) (run : List Entry) (mid : State) (e : Entry) (new : State) → Leads start run mid → Step mid e.event e.reply new → Leads start (run ++ e ∷ []) new
leads_more start run mid e new h s = leads_append start run mid (e ∷ []) new h (new, s, refl)
