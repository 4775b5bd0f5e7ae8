-- One slot more, until none is left.
use Rattle.std.proofs.Common.{arith}
use Rattle.i3c_device.proofs.FirstLaws.{requests_all, requests_more, requests_none}
use Rattle.i3c_device.proofs.driven_requests.enter_requests.Goals as goal

pub loop-index-init : goal.loop-index-init
loop-index-init c = requests_none c.args.among c.args.keys.now c.args.requests.now.items c.requires.none

pub push-requires : goal.push-requires
push-requires c = let start = c.loop-index.invariant.after c.in-Some.index c.in-Some.ensures.taken.0 c.in-Some.ensures.taken.1 in omega (arith, start, c.loop-index.invariant.short, c.in-Some.ensures.taken.0)

pub loop-index-preserved : goal.loop-index-preserved
loop-index-preserved c =
    requests_more c.args.among c.loop-index.left c.take_lowest.new.self c.args.keys.now c.loop-index.passed c.in-Some.index c.loop-index.requests.items c.push.new.self.items c.request_of.result c.loop-index.invariant
    c.in-Some.ensures.taken.0 c.in-Some.ensures.taken.1 c.in-Some.ensures.taken.2 c.in-Some.ensures.taken.3 c.request_of.ensures c.push.ensures.items

pub returns-clause-sound : goal.returns-clause-sound
returns-clause-sound c = c.loop-index.invariant.sound

pub returns-clause-complete : goal.returns-clause-complete
returns-clause-complete c = requests_all c.args.among c.loop-index.left c.args.keys.now c.loop-index.passed c.loop-index.requests.items c.loop-index.invariant c.in_default.ensures.taken

pub returns-clause-short : goal.returns-clause-short
returns-clause-short c = omega (arith, c.loop-index.invariant.short, c.loop-index.invariant.low)
