-- One contender more.
use Rattle.std.proofs.Common.{◌≡◌, ℕ, ap, arith, get_or}
use Rattle.i3c_wires.proofs.TurnLaws.{alike_all, alike_more, alike_none}
use Rattle.i3c_wires.proofs.turns.differing.Goals as goal

pub loop-contender-init : goal.loop-contender-init
loop-contender-init c = alike_none c.args.keys.now c.args.width c.args.first

pub loop-contender-preserved : goal.loop-contender-preserved
loop-contender-preserved c =
    let keys = c.args.keys.now in
    let at = c.contender-item.is in
    let key : c.contender-item.result.1 ≡ (get_or keys c.loop-contender.contender-index c.contender-item.result).1 = ap (λ (e : ℕ × ℕ). e.1) at in
    alike_more keys c.args.width c.args.first c.loop-contender.contender-index c.loop-contender.turns c.contender-item.result
    (omega arith) at
    (omega (arith, key, c.requires.fit c.loop-contender.contender-index c.contender-item.result (omega arith))) c.requires.first_fits c.loop-contender.invariant

pub returns : goal.returns
returns c = record {
  alike = alike_all c.args.keys.now c.args.width c.args.first c.loop-contender.contender-index c.loop-contender.turns (omega arith) c.loop-contender.invariant;
  within = c.loop-contender.invariant.within;
}
