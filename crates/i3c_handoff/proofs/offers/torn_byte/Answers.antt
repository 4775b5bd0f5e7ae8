-- Bit after bit, as long as somebody is left.
use Rattle.std.proofs.Common.{ℕ, ◌+◌, inl, inr, arith, subst, sym}
use Rattle.std.proofs.lemmas.Bool.{cases_eq}
use Rattle.i3c_base.specs.Cutting.{lost_by}
use Rattle.i3c_base.specs.State.{HasDevices, State, with_active}
use Rattle.i3c_base.specs.Frames.{IsLowestWilling}
use Rattle.i3c_handoff.proofs.OfferLaws.{Driven, none_takes, some_takes, torn_at, torn_last}
use Rattle.i3c_handoff.proofs.offers.torn_byte.Goals as goal
use Rattle.i3c_handoff.proofs.offers.torn_byte.Goals.{At-loop-bit}

pub loop-bit-preserved : goal.loop-bit-preserved
loop-bit-preserved c k l = elim (cases_eq k c.loop-bit.bit) [
  | inl e ↦ subst (λ n. (s : ℕ) × IsLowestWilling (with_active c.args.devices.now c.args.active) c.args.to (lost_by c.args.cuts.now (c.args.sent + 1 + n)) s) (sym e) (c.in-Some._driver, c.in-Some.ensures)
  | inr ne ↦ c.loop-bit.invariant k (omega arith)
]

-- somebody is left on the bus for each bit so far
left : (c : At-loop-bit) (st : State) → HasDevices st c.args.devices.now c.args.active → Driven st c.args.to c.args.cuts.now (c.args.sent + 1) c.loop-bit.bit
left c st has k l =
    let found = c.loop-bit.invariant k l in
    some_takes st c.args.to (lost_by c.args.cuts.now (c.args.sent + 1 + k)) c.args.devices.now c.args.active found.0 has found.1

pub returns-in_default : goal.returns-in_default
returns-in_default c st has =
    torn_at st c.args.to c.args.cuts.now (c.args.sent + 1) c.address_byte-own.result c.loop-bit.bit c.address_byte-own.ensures c.address_byte-own.type_inv c.loop-bit-test.true
    (left (goal.at.returns-in_default c).At-loop-bit st has)
    (none_takes st c.args.to (lost_by c.args.cuts.now (c.args.sent + 1 + c.loop-bit.bit)) c.args.devices.now c.args.active has c.in_default.ensures)

pub returns : goal.returns
returns c st has =
    torn_last st c.args.to c.args.cuts.now (c.args.sent + 1) c.address_byte-own.result c.address_byte-own.ensures c.address_byte-own.type_inv
    (λ k l. left (goal.at.returns c).At-loop-bit st has k (omega arith))
