use Rattle.std.proofs.Common.{ap, option_map, sym}
use Rattle.i3c_base.specs.State.{legacy_target_of}
use Rattle.i3c_model.proofs.Starts.{filled_more, filled_skip, targets_all}
use Rattle.i3c_model.proofs.starting.targets.Goals as goal
use Rattle.i3c_model.proofs.starting.targets.Goals.{in-Some+in_ok-insert, in_default-lvr_at}

pub loop-value-preserved : goal.loop-value-preserved
loop-value-preserved c = elim c.match-lvr_at.branch [
  | in-Some+in_ok-insert w ↦ rw w.targets-is
      (filled_more (option_map legacy_target_of) c.args.legacies.now.legacy c.loop-value.value c.in-Ok.address (legacy_target_of w.in-Some.lvr) c.loop-value.targets w.insert.new.self c.loop-value.invariant c.lvr_at.ensures.all_places
      c.in-Ok.ensures.same (ap (option_map legacy_target_of) (sym w.in-Some.ensures.same)) w.in_ok-insert.ensures.updates)
  | in_default-lvr_at w ↦ rw w.targets-is
      (filled_skip (option_map legacy_target_of) c.args.legacies.now.legacy c.loop-value.value c.in-Ok.address c.loop-value.targets c.loop-value.invariant c.lvr_at.ensures.all_places c.in-Ok.ensures.same
      (ap (option_map legacy_target_of) (sym w.in_default-lvr_at.ensures.same)))
]

pub returns-clause-targets : goal.returns-clause-targets
returns-clause-targets c = targets_all c.args.legacies.now.legacy c.loop-value.value c.loop-value.targets c.loop-value-test.false c.loop-value.auto.value-end c.loop-value.invariant
