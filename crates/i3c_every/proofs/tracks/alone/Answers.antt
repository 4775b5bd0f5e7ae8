use Rattle.std.proofs.Common.{◌∙◌, ◌++◌, ◌∷◌, [], ap, List}
use Rattle.i3c_explore.specs.declared.node.Node.{Node}
use Rattle.i3c_every.proofs.Between.{all_alone, some_alone}
use Rattle.i3c_every.proofs.tracks.alone.Goals as goal

pub returns-clause-told : goal.returns-clause-told
returns-clause-told g c = all_alone g.M.Machine.steps (g.M.Answering.answers c.args.rules.now) c.args.tracks.now c.args.met.now c.in_ok-start_of.field-0 c.deref.result.now c.args.line.now c.answers_at.result c.in_ok-start_of.ensures
    (c.deref.ensures.value ∙ c.in_ok-push.ensures.items ∙ ap (λ (l : List (Node g.row.M.Denot)). l ++ c.in_ok-start_of.field-0 ∷ []) c.new-nodes.ensures.items) c.answers_at.ensures

pub returns-clause-some : goal.returns-clause-some
returns-clause-some g c = some_alone g.M.Machine.steps (g.M.Answering.answers c.args.rules.now) c.args.tracks.now c.args.met.now c.args.line.now c.answers_at.result (returns-clause-told g c)
