use Rattle.std.proofs.Common.{◌∙◌, ap, sym}
use Rattle.i3c_monitor.specs.Trace.{rest_told, to_come}
use Rattle.i3c_monitor.proofs.TraceLaws.{header_first, told_too}
use Rattle.i3c_monitor.proofs.monitor.Monitor.take.Goals as goal

pub returns-in-Some-clause-told : goal.returns-in-Some-clause-told
returns-in-Some-clause-told c =
    let self = c.args.self.now in
    told_too c.take_behind.result (to_come self) _ (to_come c.take_behind.new.self) c.take_behind.ensures.told
    (ap (λ symbols. rest_told self.codes self.mode self.frames self.before 0 symbols) c.requires
    ∙ header_first self.codes self.mode self.frames self.before c.args.symbol.now c.args.rest.now c.in-Some.header (sym c.in-Some.ensures))
