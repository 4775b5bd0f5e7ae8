use Rattle.std.proofs.Common.{◌-◌, ◌/◌, ◌^◌, arith, subst, sym}
use Rattle.std.specs.Int.RustNames.{bit_or}
use Rattle.i3c_device.specs.Reading.{IsDrivenFrom}
use Rattle.i3c_device.proofs.ReadLaws.{driven_gone, driven_part}
use Rattle.i3c_device.proofs.places.driven_from.Goals as goal

pub returns-then-bit-at : goal.returns-then-bit-at
returns-then-bit-at c = subst (λ cut. IsDrivenFrom c.args.own cut c.args.at 255) (sym c.in-Some.is) (driven_gone c.args.own c.in-Some.bit c.args.at c.if-bit-at.true)

pub returns-then-whole : goal.returns-then-whole
returns-then-whole c =
    subst (λ cut. IsDrivenFrom c.args.own cut c.args.at (bit_or c.args.own (255 / 2 ^ (c.in-Some.bit - c.args.at)))) (sym c.in-Some.is)
    (driven_part c.args.own c.in-Some.bit c.args.at (c.in-Some.bit - c.args.at) (omega (arith, c.if-bit-at.false)) c.if-whole.true)
