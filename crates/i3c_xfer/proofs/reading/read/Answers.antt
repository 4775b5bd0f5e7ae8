use Rattle.std.proofs.Common.{◌≡◌, ◌+◌, ◌*◌, ◌<◌, ◌≤◌, ◌∙◌, All, None, length, arith, ap, inr, refl, subst, sym}
use Rattle.std.proofs.lemmas.Bool.{both_ways}
use Rattle.std.proofs.Common.{length-take-le}
use Rattle.std.proofs.lemmas.List.Elements.{All-take}
use Rattle.i3c_base.specs.declared.datum.Direction.{Direction}
use Rattle.i3c_base.specs.declared.device.TheConstants.{REGISTERS}
use Rattle.i3c_base.specs.Cutting.{lost_by}
use Rattle.i3c_base.specs.Frames.{AllLostAt, SomeLeftAt, transfer_length}
use Rattle.i3c_base.specs.State.{HasDevices, State, legacy_target_at}
use Rattle.i3c_device.specs.Reading.{registers_of}
use Rattle.i3c_xfer.specs.Transfers.{AreDriven, AreDrivenBy}
use Rattle.i3c_xfer.proofs.TransferLaws.{all_lost, and_there, any_there, devices_length, driven_first, driven_there, left_there, legacy_there}
use Rattle.i3c_xfer.proofs.reading.read.Goals as goal
use Rattle.i3c_xfer.proofs.reading.read.Goals.{After-is_heard, After-new-bytes}

-- no legacy target is there
free : (c : After-is_heard) (st : State) → st.legacy ≡ c.args.legacy.now → legacy_target_at st c.args.to ≡ None
free c st e = legacy_there st c.args.to c.args.legacy.now c.get.result e c.get.ensures ∙ c.in_default.is

-- the header is acknowledged
heard : (c : After-new-bytes) (st : State) → HasDevices st c.args.devices.now c.args.active → SomeLeftAt st c.args.to (lost_by c.args.cuts.now (c.args.bits_before + 9))
heard c st has = left_there st c.args.to (lost_by c.args.cuts.now (c.args.bits_before + 9)) c.args.devices.now c.args.active has (c.is_heard.ensures.0 c.if-not-is_heard.false)

-- nor does one where bytes were read
alone : (c : After-new-bytes) (st : State) → st.legacy ≡ c.args.legacy.now → legacy_target_at st c.args.to ≡ None
alone c st e = legacy_there st c.args.to c.args.legacy.now c.get.result e c.get.ensures ∙ c.in_default.is

few : (c : After-new-bytes) → c.get-count.result ≤ REGISTERS
few c = omega (arith, c.get-count.ensures.same, c.get-count.ensures.few)

count : (c : After-new-bytes) → length c.new-bytes.result ≡ c.get-count.result
count c = ap length c.new-bytes.ensures ∙ length-take-le c.get-count.result c.read-registers.result (omega (arith, few c, c.read-registers.ensures.long))

-- as many bytes as may be read
many : (c : After-new-bytes) (st : State) → HasDevices st c.args.devices.now c.args.active → st.legacy ≡ c.args.legacy.now → length c.new-bytes.result ≡ transfer_length st Direction.Read c.args.to
many c st has e =
    count c ∙ (c.get-count.ensures.same ∙ (c.least_length.ensures ∙ sym (devices_length st Direction.Read c.args.to c.args.devices.now c.args.active has (alone c st e))))

-- the lines give what the devices drive
driven : (c : After-new-bytes) (st : State) → HasDevices st c.args.devices.now c.args.active
    → AreDrivenBy registers_of (length c.new-bytes.result) st c.args.to c.args.cuts.now (c.args.bits_before + 10) c.new-bytes.result
driven c st has =
    let next : c.args.bits_before + 9 + 1 ≡ c.args.bits_before + 10 = omega arith in
    subst (λ bytes. AreDrivenBy registers_of (length bytes) st c.args.to c.args.cuts.now (c.args.bits_before + 10) bytes) (sym c.new-bytes.ensures)
    (driven_first registers_of REGISTERS c.get-count.result st c.args.to c.args.cuts.now (c.args.bits_before + 10) c.read-registers.result (few c) c.read-registers.ensures.long
    (subst (λ first. AreDrivenBy registers_of REGISTERS st c.args.to c.args.cuts.now first c.read-registers.result) next
    (driven_there registers_of REGISTERS st c.args.to c.args.cuts.now (c.args.bits_before + 9 + 1) c.args.devices.now c.args.active c.read-registers.result has c.read-registers.ensures.read)))

small : (c : After-new-bytes) → All (λ byte. byte < 256) c.new-bytes.result
small c = subst (All (λ byte. byte < 256)) (sym c.new-bytes.ensures) (All-take (λ byte. byte < 256) c.get-count.result c.read-registers.result c.read-registers.ensures.bytes)

all : (c : After-new-bytes) (st : State) → HasDevices st c.args.devices.now c.args.active → st.legacy ≡ c.args.legacy.now → AreDriven st c.args.to c.args.cuts.now (c.args.bits_before + 10) c.new-bytes.result
all c st has e = (driven c st has, many c st has e, small c)

-- the last bit of all
ends : (c : After-new-bytes) → c.args.bits_before + 9 + 9 * c.get-count.result ≡ c.args.bits_before + (9 + 9 * length c.new-bytes.result)
ends c = omega (arith, count c)

pub returns-then-not-is_heard-clause-reads : goal.returns-then-not-is_heard-clause-reads
returns-then-not-is_heard-clause-reads c st has e = (
  refl,
  (
    free (goal.at.returns-then-not-is_heard-clause-reads c).After-is_heard st e,
    all_lost st c.args.to (lost_by c.args.cuts.now (c.args.bits_before + 9)) c.args.devices.now c.args.active has (λ h. both_ways _ c.if-not-is_heard.true (c.is_heard.ensures.1 h)),
  ),
  refl,
)

pub returns-then-is_heard-clause-reads : goal.returns-then-is_heard-clause-reads
returns-then-is_heard-clause-reads c st has e =
    let at = (goal.at.returns-then-is_heard-clause-reads c).After-new-bytes in (
      inr (
        alone at st e,
        subst (λ bit. SomeLeftAt st c.args.to (lost_by c.args.cuts.now bit)) (ends at)
            (left_there st c.args.to (lost_by c.args.cuts.now (c.args.bits_before + 9 + 9 * c.get-count.result)) c.args.devices.now c.args.active has (c.is_heard-2.ensures.0 c.if-is_heard.true)),
        many at st has e,
        small at,
        λ left k l. and_there registers_of (length c.new-bytes.result) st c.args.to c.args.cuts.now (c.args.bits_before + 10) (c.args.bits_before + (9 + 9 * length c.new-bytes.result)) c.new-bytes.result (omega arith) (driven at st has)
            (λ j m. small at j 0 m) left k l,
      ),
      refl,
    )

pub returns-else-is_heard-clause-reads : goal.returns-else-is_heard-clause-reads
returns-else-is_heard-clause-reads c st has e =
    let at = (goal.at.returns-else-is_heard-clause-reads c).After-new-bytes in (
      (
        alone at st e,
        subst (λ bit. AllLostAt st c.args.to (lost_by c.args.cuts.now bit)) (ends at)
            (all_lost st c.args.to (lost_by c.args.cuts.now (c.args.bits_before + 9 + 9 * c.get-count.result)) c.args.devices.now c.args.active has (λ h. both_ways _ c.if-is_heard.false (c.is_heard-2.ensures.1 h))),
      ),
      any_there st c.args.to (lost_by c.args.cuts.now (c.args.bits_before + 9)) (heard at st has),
      refl,
    )

pub returns-then-is_heard-clause-bits : goal.returns-then-is_heard-clause-bits
returns-then-is_heard-clause-bits c st has e = ap (λ n. 9 + 9 * n) (many (goal.at.returns-then-is_heard-clause-bits c).After-new-bytes st has e)

pub returns-else-is_heard-clause-bits : goal.returns-else-is_heard-clause-bits
returns-else-is_heard-clause-bits c st has e = ap (λ n. 9 + 9 * n) (many (goal.at.returns-else-is_heard-clause-bits c).After-new-bytes st has e)

pub returns-then-is_heard-clause-acknowledged : goal.returns-then-is_heard-clause-acknowledged
returns-then-is_heard-clause-acknowledged c st has e = (λ _. inr (heard (goal.at.returns-then-is_heard-clause-acknowledged c).After-new-bytes st has), λ _. refl)

pub returns-else-is_heard-clause-acknowledged : goal.returns-else-is_heard-clause-acknowledged
returns-else-is_heard-clause-acknowledged c st has e = (λ _. inr (heard (goal.at.returns-else-is_heard-clause-acknowledged c).After-new-bytes st has), λ _. refl)

pub returns-then-is_heard-clause-read : goal.returns-then-is_heard-clause-read
returns-then-is_heard-clause-read c st has e = let at = (goal.at.returns-then-is_heard-clause-read c).After-new-bytes in (alone at st e, all at st has e)

pub returns-else-is_heard-clause-read : goal.returns-else-is_heard-clause-read
returns-else-is_heard-clause-read c st has e = let at = (goal.at.returns-else-is_heard-clause-read c).After-new-bytes in (alone at st e, all at st has e)
