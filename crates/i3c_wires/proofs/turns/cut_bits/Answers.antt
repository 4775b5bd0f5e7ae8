-- One contender more.
use Rattle.std.proofs.Common.{◌-◌, suc, ap, arith, refl}
use Rattle.i3c_wires.specs.Masks.{is_at}
use Rattle.i3c_wires.proofs.TurnLaws.{none_within, uncut_all, uncut_more, uncut_none}
use Rattle.i3c_wires.proofs.turns.cut_bits.Goals as goal

pub returns-then-is_empty : goal.returns-then-is_empty
returns-then-is_empty c =
    let uncut = c.if-is_empty.ensures.uncut.0 refl in record {
      uncut = λ left l none k d m. ap (is_at (c.args.width - suc left)) (uncut _);
      within = none_within c.args.width;
    }

pub loop-contender-init : goal.loop-contender-init
loop-contender-init c = uncut_none c.args.cuts.now c.args.keys.now c.args.width

pub loop-contender-preserved : goal.loop-contender-preserved
loop-contender-preserved c =
    let keys = c.args.keys.now in
    let at = c.contender-item.is in
    uncut_more c.args.cuts.now keys c.args.width c.loop-contender.contender-index c.loop-contender.turns c.cut_bit-turns.result c.contender-item.result
    (omega arith) at c.cut_bit-turns.ensures.uncut c.cut_bit-turns.ensures.within c.loop-contender.invariant

pub returns : goal.returns
returns c = record {
  uncut = uncut_all c.args.cuts.now c.args.keys.now c.args.width c.loop-contender.contender-index c.loop-contender.turns (omega arith) c.loop-contender.invariant;
  within = c.loop-contender.invariant.within;
}
