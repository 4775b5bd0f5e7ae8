use Rattle.std.proofs.Common.{length}
use Rattle.i3c_explore.specs.Parts.{opening}
use Rattle.i3c_explore.proofs.Owning.{own_alone}
use Rattle.i3c_explore.proofs.Making.{makes_alike}
use Rattle.i3c_explore.proofs.Marking.{alike_ok}
use Rattle.i3c_explore.specs.Owners.{own}
use Rattle.i3c_explore.proofs.expand.expand_all.Goals as goal

pub returns-clause-made : goal.returns-clause-made
returns-clause-made g c =
    let tracks = c.args.tracks.now in let lines = opening c.args.part tracks in let owners = c.none-owners.result in
    makes_alike g.M.Machine.steps g.M.Machine.last g.M.Machine.breaks tracks c.args.part (own owners (length tracks) 0 lines) (λ _. lines) c.args.layer.now c.args.limits c.expand_turns.result
    (own_alone owners (length tracks) lines c.none-owners.ensures) c.expand_turns.ensures.made

pub returns-clause-noted : goal.returns-clause-noted
returns-clause-noted g c =
    let tracks = c.args.tracks.now in let lines = opening c.args.part tracks in let owners = c.none-owners.result in
    alike_ok g.M.Machine.notes g.M.Machine.quiet (own owners (length tracks) 0 lines) (λ _. lines) c.args.layer.now (length c.args.layer.now) c.args.noted.items c.expand_turns.result
    (own_alone owners (length tracks) lines c.none-owners.ensures) c.expand_turns.ensures.noted
