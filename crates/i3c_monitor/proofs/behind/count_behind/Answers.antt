use Rattle.std.proofs.Common.{◌∙◌, ap, length, unwrap_or}
use Rattle.i3c_monitor.proofs.TraceLaws.{or_len}
use Rattle.i3c_monitor.proofs.behind.count_behind.Goals as goal

pub returns : goal.returns
returns c = c.unwrap_or.ensures ∙ ap (λ end. unwrap_or end (length c.args.symbols.now)) c.first_end.ensures ∙ or_len c.args.symbols.now
