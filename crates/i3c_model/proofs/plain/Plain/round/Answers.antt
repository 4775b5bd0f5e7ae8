use Rattle.std.proofs.Common.{ap, ◌∙◌}
use Rattle.i3c_base.specs.Cutting.{lost_by}
use Rattle.i3c_base.specs.Serve.{emptied}
use Rattle.i3c_model.proofs.Stepping.{address_for}
use Rattle.i3c_model.proofs.Taking.{done_follows, nobody_follows}
use Rattle.i3c_model.proofs.plain.Plain.round.Goals as goal

pub returns-then-is_over-clause-chosen : goal.returns-then-is_over-clause-chosen
returns-then-is_over-clause-chosen c =
    done_follows c.args.self.now c.args.cuts.now c.args.choice c.empty.new.self ((c.in-Some.pick, c.in-Some.ensures.0), c.if-is_over.ensures.lawful, c.empty.ensures) c.if-is_over.ensures.chosen

pub returns-in_default-winner-clause-chosen : goal.returns-in_default-winner-clause-chosen
returns-in_default-winner-clause-chosen c =
    nobody_follows c.args.self.now c.args.cuts.now c.args.choice c.empty-in_default-winner.new.self
    ((c.in-Some.pick, c.in-Some.ensures.0), c.if-is_over.ensures.lawful, c.in_default-winner.ensures.lawful, c.empty-in_default-winner.ensures) c.if-is_over.ensures.chosen c.in_default-winner.ensures.chosen

pub returns-then-is_over-clause-rounds : goal.returns-then-is_over-clause-rounds
returns-then-is_over-clause-rounds c = ((c.in-Some.pick, c.in-Some.ensures.0), c.if-is_over.ensures.lawful, c.empty.ensures)

pub returns-in_default-winner-clause-rounds : goal.returns-in_default-winner-clause-rounds
returns-in_default-winner-clause-rounds c = ((c.in-Some.pick, c.in-Some.ensures.0), c.if-is_over.ensures.lawful, c.in_default-winner.ensures.lawful, c.empty-in_default-winner.ensures)

pub returns-clause-rounds : goal.returns-clause-rounds
returns-clause-rounds c = (
  (c.in-Some.pick, c.in-Some.ensures.0),
  c.in-Some-winner.ensures.lawful,
  address_for c.args.self.now c.in-Some-winner.identity c.in-Some.pick c.address_kept.result c.unwrap_or-address.result c.in-Some.ensures c.address_kept.ensures.kept c.unwrap_or-address.ensures,
  c.empty-2.ensures ∙ ap (emptied (lost_by c.args.cuts.now 73)) c.in_ok-assign.ensures.done,
)
