use Rattle.std.proofs.Common.{refl, arith, rules, subst}
use Rattle.std.proofs.lemmas.Option.{slice_get_read}
use Rattle.i3c_shared.specs.Ports.{IsAt}
use Rattle.i3c_shared.proofs.Covering.{no_port, no_port_next}
use Rattle.i3c_shared.proofs.intake.has_port.Goals as goal

pub returns-then-eq : goal.returns-then-eq
returns-then-eq c = (λ t. (c.loop-port.port-index, c.port-item.result, subst (λ l. IsAt l c.loop-port.port-index c.port-item.result) c.deref-port-items.ensures.value (slice_get_read _ _ c.loop-port.port-index _ refl (search arith) c.port-item.is), search rules), λ h. refl)

pub loop-port-preserved : goal.loop-port-preserved
loop-port-preserved c =
    no_port_next _ c.loop-port.port-index c.args.slot c.port-item.result c.loop-port.invariant (subst (λ l. IsAt l c.loop-port.port-index c.port-item.result) c.deref-port-items.ensures.value (slice_get_read _ _ c.loop-port.port-index _ refl (search arith) c.port-item.is)) (λ is. search rules)

pub returns : goal.returns
returns c = (λ t. search rules, λ h. absurd (no_port _ c.loop-port.port-index c.args.slot c.loop-port.invariant (search arith) h))
