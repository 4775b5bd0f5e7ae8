use Rattle.std.proofs.Common.{◌≡◌, ◌++◌}
use Rattle.i3c_runner.specs.Expecting.{lasting_text, still_lasting, unmet_with}
use Rattle.i3c_runner.proofs.lasting.test_all.Given as goal

-- those so far were tested
abbrev pub invariant-loop-one : goal.invariant-loop-one
invariant-loop-one l = (l.still.items ≡ still_lasting l.fn.bus.state l.fn.names l.fn.before l.yielded)
    × (l.text ≡ l.initial.text ++ lasting_text l.fn.bus.state l.fn.names l.fn.before l.yielded)
    × (l.unmet ≡ unmet_with l.fn.bus.state l.fn.names l.fn.before l.yielded l.initial.unmet)
