use Rattle.std.proofs.Common.{◌≡◌, ◌++◌, OnOk, subst, sym}
use Rattle.i3c_wave.specs.Dump.{preamble}
use Rattle.i3c_wave.proofs.wave.Wave.push_preamble.Goals as goal

pub returns-in-Full : goal.returns-in-Full
returns-in-Full c = subst (λ content. OnOk c.push.result (c.push.new.self ≡ c.args.text.now ++ preamble content)) (sym c.in-Full.is) c.push.ensures.appended

pub returns-in-Wires : goal.returns-in-Wires
returns-in-Wires c =
    subst (λ content. OnOk c.push-in-Wires.result (c.push-in-Wires.new.self ≡ c.args.text.now ++ preamble content)) (sym c.in-Wires.is) c.push-in-Wires.ensures.appended
