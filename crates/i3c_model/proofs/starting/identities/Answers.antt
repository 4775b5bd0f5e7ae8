use Rattle.std.proofs.Common.{sym}
use Rattle.i3c_model.proofs.Starts.{filled_more, filled_skip, identities_all, same_place}
use Rattle.i3c_model.proofs.starting.identities.Goals as goal
use Rattle.i3c_model.proofs.starting.identities.Goals.{in-Some+in_ok-insert, in_default-declared_at}

pub loop-value-preserved : goal.loop-value-preserved
loop-value-preserved c = elim c.match-declared_at.branch [
  | in-Some+in_ok-insert w ↦ rw w.identities-is
      (filled_more same_place c.args.legacies.now.declared c.loop-value.value c.in-Ok.address w.in-Some.identity c.loop-value.identities w.insert.new.self c.loop-value.invariant c.declared_at.ensures.all_places
      c.in-Ok.ensures.same (sym w.in-Some.ensures.same) w.in_ok-insert.ensures.updates)
  | in_default-declared_at w ↦ rw w.identities-is
      (filled_skip same_place c.args.legacies.now.declared c.loop-value.value c.in-Ok.address c.loop-value.identities c.loop-value.invariant c.declared_at.ensures.all_places c.in-Ok.ensures.same (sym w.in_default-declared_at.ensures.same))
]

pub returns-clause-identities : goal.returns-clause-identities
returns-clause-identities c = identities_all c.args.legacies.now.declared c.loop-value.value c.loop-value.identities c.loop-value-test.false c.loop-value.auto.value-end c.loop-value.invariant
