use Rattle.std.proofs.Common.{◌≡◌, ◌+◌, arith, subst}
use Rattle.i3c_handoff.specs.Offers.{IsTornByte}
use Rattle.i3c_handoff.proofs.offers.offer.Goals as goal

pub returns-clause-read : goal.returns-clause-read
returns-clause-read c st has =
    let next : c.args.bits_before + 18 + 1 ≡ c.args.bits_before + 19 = omega arith in
    subst (λ first. IsTornByte st c.args.to c.args.cuts.now first c.torn_byte.result) next (c.torn_byte.ensures st has)
