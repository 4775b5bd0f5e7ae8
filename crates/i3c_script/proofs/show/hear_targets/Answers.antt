use Rattle.std.proofs.Common.{◌≡◌, ◌∙◌, ap, arith, subst, sym}
use Rattle.std.proofs.lemmas.Grind.{common_steps}
use Rattle.i3c_script.specs.Hearing.{all_heard}
use Rattle.i3c_script.specs.Pieces.{target_pieces, targets_pieces}
use Rattle.i3c_script.proofs.Hearing.{heard_more}
use Rattle.i3c_script.proofs.Showing.{targets_more, targets_none}
use Rattle.i3c_script.proofs.show.hear_targets.Goals as goal

pub loop-number-init : goal.loop-number-init
loop-number-init g c = sym (ap (all_heard g.L.Listener.heard c.args.listener.now) (targets_none g.N.Naming.kept c.args.names.now))

pub loop-number-preserved : goal.loop-number-preserved
loop-number-preserved g c =
    let heard = g.L.Listener.heard in
    let kept = g.N.Naming.kept in
    let names = c.args.names.now in
    let same : c.unwrap-address.result ≡ c.loop-number.number = grind (arith, common_steps) in
    let told : c.hear_target.new.listener ≡ all_heard heard c.loop-number.listener (target_pieces (kept.at_address names c.loop-number.number) c.loop-number.number) =
    subst (λ a. c.hear_target.new.listener ≡ all_heard heard c.loop-number.listener (target_pieces (kept.at_address names a) a)) same c.in_ok-hear_target.ensures in
    heard_more heard c.args.listener.now c.loop-number.listener c.hear_target.new.listener (targets_pieces kept names c.loop-number.number) (target_pieces (kept.at_address names c.loop-number.number) c.loop-number.number) c.loop-number.invariant told ∙ ap (all_heard heard c.args.listener.now) (sym (targets_more kept names c.loop-number.number))
