use Rattle.std.proofs.Common.{◌∙◌, ◌≡◌, refl, arith, length, take, drop, ◌++◌}
use Rattle.std.proofs.lemmas.Option.{slice_get-get_or}
use Rattle.i3c_shared.proofs.Covering.{all_begun, covers_all, covers_next, covers_none, covers_same, taken_all}
use Rattle.i3c_shared.proofs.intake.covers_all.Goals as goal

pub loop-port-init : goal.loop-port-init
loop-port-init c = (refl, covers_none _ _)

pub loop-port-preserved : goal.loop-port-preserved
loop-port-preserved c = (
  c.covers_one-whole.ensures.rings ∙ c.loop-port.invariant.0,
  covers_next _ _ _ _ _ _ _ _ c.loop-port.invariant.1 (slice_get-get_or c.loop-port.port-items c.loop-port.port-index c.port-item.result (search arith)) c.covers_one-whole.ensures.port (rw (← c.loop-port.invariant.0) c.covers_one-whole.ensures.prefix) (rw (← c.loop-port.invariant.0) c.covers_one-whole.ensures.whole),
)

pub returns-clause-ports : goal.returns-clause-ports
returns-clause-ports c =
    let all : take c.args.ports.now.len (c.loop-port.port-items ++ drop (length c.loop-port.port-items) c.args.ports.now.items) ≡ c.loop-port.port-items = taken_all _ _ c.args.ports.now.len (search arith) in
    rw (all, ← c.deref_mut-port-items.ensures.value) (covers_same _ _ _ _ _ c.loop-port.invariant.1 c.loop-port-test.false)

pub returns-clause-whole : goal.returns-clause-whole
returns-clause-whole c = λ whole. rw (← c.deref_mut-port-items.ensures.value) (covers_all _ _ _ _ _ c.loop-port.invariant.1 c.loop-port-test.false whole)

pub returns-clause-prefix : goal.returns-clause-prefix
returns-clause-prefix c = rw (← c.deref_mut-port-items.ensures.value) (all_begun _ _ _ _ _ c.loop-port.invariant.1 c.loop-port-test.false)
