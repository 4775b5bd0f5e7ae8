-- The view tells what the invariant holds.
use Rattle.std.proofs.Common.{subst}
use Rattle.i3c_recorder.specs.KeptRuns.{IsBegun, Leads}
use Rattle.i3c_recorder.specs.Values.{Recorded}
use Rattle.i3c_recorder.proofs.recorder.Recorder.keeps.Goals as goal

pub returns-clause-begun : goal.returns-clause-begun
returns-clause-begun c = subst (λ (r : Recorded). IsBegun r.start) c.self.view_is c.self.invariant.begun

pub returns-clause-leads : goal.returns-clause-leads
returns-clause-leads c = subst (λ (r : Recorded). Leads r.start r.run r.state) c.self.view_is c.self.invariant.legal
