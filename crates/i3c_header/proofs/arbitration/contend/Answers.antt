-- One request more, under its place.
use Rattle.std.proofs.Common.{◌≡◌, IfOk, arith, subst, ◌∙◌}
use Rattle.i3c_header.proofs.KeyLaws.{keyed_next, keyed_room}
use Rattle.i3c_header.proofs.arbitration.contend.Goals as goal

pub push-requires : goal.push-requires
push-requires g c =
    let l = keyed_room c.args.requests.now c.loop-index.index c.loop-index.keys.items c.loop-index.invariant c.loop-index-test.true in
    (omega arith, omega (arith, l))

pub loop-index-preserved : goal.loop-index-preserved
loop-index-preserved g c =
    let place : c.unwrap-place.result ≡ c.loop-index.index = subst (λ r. IfOk r (λ a. a ≡ c.loop-index.index)) c.unwrap-place.ensures c.new.ensures.same in
    keyed_next c.args.requests.now c.loop-index.index c.loop-index.keys.items c.push.new.self.items c.index-requests-index.result c.unwrap-place.result c.from.result
    c.loop-index.invariant c.loop-index-test.true c.index-requests-index.is place (c.from.ensures ∙ c.key.ensures) (omega arith) c.push.ensures.items
