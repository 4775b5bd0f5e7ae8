use Rattle.std.proofs.Common.{sym, subst}
use Rattle.i3c_recorder.specs.KeptRuns.{IsLegalTo}
use Rattle.i3c_recorder.specs.declared.entry.Entry.{Entry}
use Rattle.std.specs.Prelude.{List}
use Rattle.i3c_stress.proofs.stress_bus.end.Goals as goal

pub returns-in-Ok : goal.returns-in-Ok
returns-in-Ok g c =
    let closes = c.in-Ok.ensures.closed.1 in
    let takes = closes.takes in
    record {
      end = takes.end.state;
      legal = subst (λ (run : List Entry). IsLegalTo run takes.end.state) (sym takes.ran) takes.legal;
      framed = sym closes.held.1;
      recorded = takes.recorded;
      waits = takes.waits;
    }
