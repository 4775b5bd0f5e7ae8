-- The winner of the contest is the first request, and the slots with its key drive it.
use Rattle.std.proofs.Common.{All, MatchOption, refl, subst, sym, ◌∙◌}
use Rattle.i3c_header.specs.Keys.{IsFirstOf, IsLawful}
use Rattle.i3c_base.specs.Serve.{NobodyDrives}
use Rattle.i3c_base.specs.State.{with_active}
use Rattle.i3c_device.specs.Walks.{IsFirstDriven}
use Rattle.i3c_device.proofs.FirstLaws.{AreDriving, all_lawful, are_driving, first_driven, nobody_drives}
use Rattle.i3c_device.proofs.devices.Devices.contest.Goals as goal
use Rattle.i3c_device.proofs.devices.Devices.contest.Goals.{After-deref}

driving_of : (c : After-deref) → AreDriving (with_active c.args.self.now c.args.active) c.driving-driving.result c.marks-marks.result.now.keys
driving_of c =
    are_driving c.self.inside.enabled c.self.inside.occupants c.args.self.now c.args.active c.marks-marks.result.now.keys c.driving-driving.result c.self.view_is c.marks-marks.ensures.marks.keys
    c.driving-driving.ensures.slots c.driving-driving.ensures.asking

pub arbitrate-requires-clause-lawful : goal.arbitrate-requires-clause-lawful
arbitrate-requires-clause-lawful c =
    subst (All IsLawful) (sym c.deref.ensures.0)
    (all_lawful (with_active c.args.self.now c.args.active) c.driving-driving.result c.marks-marks.result.now.keys c.enter_requests.new.requests.items (driving_of c) c.enter_requests.ensures.complete c.enter_requests.ensures.sound)

pub returns-clause-first : goal.returns-clause-first
returns-clause-first c =
    first_driven (with_active c.args.self.now c.args.active) c.driving-driving.result c.marks-marks.result.now.keys c.enter_requests.new.requests.items (driving_of (goal.at.returns-clause-first c).After-deref) c.enter_requests.ensures.complete
    c.enter_requests.ensures.sound c.in_ok-winner.winner _ c.slots_with-drivers.result (subst (λ rs. IsFirstOf rs c.in_ok-winner.winner) c.deref.ensures.0 c.in_ok-winner.ensures) refl c.slots_with-drivers.ensures

pub returns-in_err-winner-clause-first : goal.returns-in_err-winner-clause-first
returns-in_err-winner-clause-first c =
    let all = with_active c.args.self.now c.args.active in
    subst (λ first. MatchOption first (NobodyDrives all) (IsFirstDriven all)) (sym c.from_residual.ensures)
    (nobody_drives all c.driving-driving.result c.marks-marks.result.now.keys c.enter_requests.new.requests.items (driving_of (goal.at.returns-in_err-winner-clause-first c).After-deref) c.enter_requests.ensures.complete
    (sym c.deref.ensures.0 ∙ c.in_err-winner.ensures))
