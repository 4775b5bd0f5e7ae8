use Rattle.std.proofs.Common.{◌==◌, ◌∙◌, if◌then◌else◌, ap, arith, sym}
use Rattle.i3c_device.specs.Sets.{has}
use Rattle.i3c_device.proofs.SetLaws.{put_in, put_out}
use Rattle.i3c_device.proofs.slot_set.SlotSet.with.Goals as goal

pub returns-then-is_in : goal.returns-then-is_in
returns-then-is_in c s l =
    put_in c.args.self.bits c.args.index s (omega (arith, c.requires)) ∙ ap (λ b. if s == c.args.index then b else has c.args.self s) (sym c.if-is_in.true)

pub returns-else-is_in : goal.returns-else-is_in
returns-else-is_in c s l =
    put_out c.args.self.bits c.args.index s (omega (arith, c.requires)) (omega (arith, l)) ∙ ap (λ b. if s == c.args.index then b else has c.args.self s) (sym c.if-is_in.false)
