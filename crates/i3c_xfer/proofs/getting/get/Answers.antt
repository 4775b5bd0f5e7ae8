use Rattle.std.proofs.Common.{◌≡◌, ◌+◌, ◌*◌, ◌<◌, ◌∙◌, ℕ, get_or, length, arith, refl, subst}
use Rattle.std.proofs.lemmas.Bool.{both_ways}
use Rattle.i3c_base.specs.Cutting.{lost_by}
use Rattle.i3c_base.specs.Frames.{AllLostAt, SomeLeftAt, told_bytes, told_length}
use Rattle.i3c_base.specs.State.{HasDevices, State, entry_at}
use Rattle.i3c_xfer.specs.Transfers.{AreDrivenBy}
use Rattle.i3c_xfer.proofs.TransferLaws.{all_lost, and_there, any_there, driven_there, left_there}
use Rattle.i3c_xfer.proofs.getting.get.Goals as goal
use Rattle.i3c_xfer.proofs.getting.get.Goals.{After-tell-bytes}

-- the header is acknowledged
heard : (c : After-tell-bytes) (st : State) → HasDevices st c.args.devices.now c.args.active → SomeLeftAt st c.args.to (lost_by c.args.cuts.now (c.args.bits_before + 18))
heard c st has = left_there st c.args.to (lost_by c.args.cuts.now (c.args.bits_before + 18)) c.args.devices.now c.args.active has (c.is_heard.ensures.0 c.if-not-is_heard.false)

-- the lines give what the devices drive
driven : (c : After-tell-bytes) (st : State) → HasDevices st c.args.devices.now c.args.active
    → AreDrivenBy (told_bytes c.args.what) c.args.count st c.args.to c.args.cuts.now (c.args.bits_before + 19) c.tell-bytes.result
driven c st has =
    let next : c.args.bits_before + 18 + 1 ≡ c.args.bits_before + 19 = omega arith in
    subst (λ count. AreDrivenBy (told_bytes c.args.what) count st c.args.to c.args.cuts.now (c.args.bits_before + 19) c.tell-bytes.result) c.tell-bytes.ensures.long
    (subst (λ first. AreDrivenBy (told_bytes c.args.what) (length c.tell-bytes.result) st c.args.to c.args.cuts.now first c.tell-bytes.result) next
    (driven_there (told_bytes c.args.what) (length c.tell-bytes.result) st c.args.to c.args.cuts.now (c.args.bits_before + 18 + 1) c.args.devices.now c.args.active c.tell-bytes.result has c.tell-bytes.ensures.told))

small : (c : After-tell-bytes) (k : ℕ) → k < c.args.count → get_or c.tell-bytes.result k 0 < 256
small c k l = c.tell-bytes.ensures.bytes k 0 (omega (arith, l, c.tell-bytes.ensures.long))

-- the last bit of all
ends : (c : After-tell-bytes) (st : State) → c.args.count ≡ told_length c.args.what (entry_at st c.args.to) → c.args.bits_before + 18 + 9 * c.args.count ≡ c.args.bits_before + (18 + 9 * told_length c.args.what (entry_at st c.args.to))
ends c st e = omega (arith, e)

pub returns-then-not-is_heard-clause-gets : goal.returns-then-not-is_heard-clause-gets
returns-then-not-is_heard-clause-gets c st has e = (
  refl,
  all_lost st c.args.to (lost_by c.args.cuts.now (c.args.bits_before + 18)) c.args.devices.now c.args.active has (λ h. both_ways _ c.if-not-is_heard.true (c.is_heard.ensures.1 h)),
  refl,
)

pub returns-then-is_heard-clause-gets : goal.returns-then-is_heard-clause-gets
returns-then-is_heard-clause-gets c st has e =
    let at = (goal.at.returns-then-is_heard-clause-gets c).After-tell-bytes in
    let last = c.args.bits_before + (18 + 9 * told_length c.args.what (entry_at st c.args.to)) in (
      (
        subst (λ bit. SomeLeftAt st c.args.to (lost_by c.args.cuts.now bit)) (ends at st e)
            (left_there st c.args.to (lost_by c.args.cuts.now (c.args.bits_before + 18 + 9 * c.args.count)) c.args.devices.now c.args.active has (c.is_heard-2.ensures.0 c.if-is_heard.true)),
        c.tell-bytes.ensures.long ∙ e,
        c.tell-bytes.ensures.bytes,
        λ left k l. and_there (told_bytes c.args.what) c.args.count st c.args.to c.args.cuts.now (c.args.bits_before + 19) last c.tell-bytes.result (omega (arith, e)) (driven at st has) (small at) left k
            (omega (arith, l, c.tell-bytes.ensures.long)),
      ),
      refl,
    )

pub returns-else-is_heard-clause-gets : goal.returns-else-is_heard-clause-gets
returns-else-is_heard-clause-gets c st has e =
    let at = (goal.at.returns-else-is_heard-clause-gets c).After-tell-bytes in (
      subst (λ bit. AllLostAt st c.args.to (lost_by c.args.cuts.now bit)) (ends at st e)
          (all_lost st c.args.to (lost_by c.args.cuts.now (c.args.bits_before + 18 + 9 * c.args.count)) c.args.devices.now c.args.active has (λ h. both_ways _ c.if-is_heard.false (c.is_heard-2.ensures.1 h))),
      any_there st c.args.to (lost_by c.args.cuts.now (c.args.bits_before + 18)) (heard at st has),
      refl,
    )

pub returns-then-is_heard-clause-acknowledged : goal.returns-then-is_heard-clause-acknowledged
returns-then-is_heard-clause-acknowledged c st has = (λ _. heard (goal.at.returns-then-is_heard-clause-acknowledged c).After-tell-bytes st has, λ _. refl)

pub returns-else-is_heard-clause-acknowledged : goal.returns-else-is_heard-clause-acknowledged
returns-else-is_heard-clause-acknowledged c st has = (λ _. heard (goal.at.returns-else-is_heard-clause-acknowledged c).After-tell-bytes st has, λ _. refl)

pub returns-then-is_heard-clause-told : goal.returns-then-is_heard-clause-told
returns-then-is_heard-clause-told c st has = (driven (goal.at.returns-then-is_heard-clause-told c).After-tell-bytes st has, c.tell-bytes.ensures.long, c.tell-bytes.ensures.bytes)

pub returns-else-is_heard-clause-told : goal.returns-else-is_heard-clause-told
returns-else-is_heard-clause-told c st has = (driven (goal.at.returns-else-is_heard-clause-told c).After-tell-bytes st has, c.tell-bytes.ensures.long, c.tell-bytes.ensures.bytes)
