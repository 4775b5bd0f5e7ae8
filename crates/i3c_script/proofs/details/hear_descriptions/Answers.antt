use Rattle.std.proofs.Common.{◌≡◌, ◌∙◌, ap, arith, subst, sym}
use Rattle.std.proofs.lemmas.Grind.{common_steps}
use Rattle.i3c_base.specs.State.{device_at}
use Rattle.i3c_script.specs.Hearing.{all_heard}
use Rattle.i3c_script.specs.Pieces.{description_pieces, descriptions_pieces}
use Rattle.i3c_script.proofs.Hearing.{heard_more}
use Rattle.i3c_script.proofs.Showing.{descriptions_more, descriptions_none}
use Rattle.i3c_script.proofs.details.hear_descriptions.Goals as goal

pub loop-number-init : goal.loop-number-init
loop-number-init g c = sym (ap (all_heard g.L.Listener.heard c.args.listener.now) (descriptions_none g.N.Naming.kept c.args.bus.now.state c.args.names.now))

pub loop-number-preserved : goal.loop-number-preserved
loop-number-preserved g c =
    let heard = g.L.Listener.heard in
    let kept = g.N.Naming.kept in
    let names = c.args.names.now in
    let st = c.args.bus.now.state in
    let same : c.unwrap-slot.result ≡ c.loop-number.number = grind (arith, common_steps) in
    let told : c.hear_slot.new.listener ≡ all_heard heard c.loop-number.listener (description_pieces (kept.in_slot names c.loop-number.number) (device_at st c.loop-number.number)) =
    subst (λ s. c.hear_slot.new.listener ≡ all_heard heard c.loop-number.listener (description_pieces (kept.in_slot names s) (device_at st s))) same c.in_ok-hear_slot.ensures in
    heard_more heard c.args.listener.now c.loop-number.listener c.hear_slot.new.listener (descriptions_pieces kept st names c.loop-number.number) (description_pieces (kept.in_slot names c.loop-number.number) (device_at st c.loop-number.number)) c.loop-number.invariant told ∙ ap (all_heard heard c.args.listener.now) (sym (descriptions_more kept st names c.loop-number.number))
