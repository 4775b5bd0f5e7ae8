use Rattle.std.proofs.Common.{◌∙◌, ◌++◌, ap, refl, sym}
use Rattle.i3c_runner.specs.Viewed.{kept}
use Rattle.i3c_runner.proofs.viewed.ViewedRun.take_sent.Goals as goal

pub returns-then-are_same-clause-sent : goal.returns-then-are_same-clause-sent
returns-then-are_same-clause-sent c =
    let before = c.args.self.now.before.items in
    let joined = c.deref-3.ensures.value ∙ c.in-Ok-extend_from_slice.ensures.items ∙ ap (λ wire. before ++ wire) c.deref.ensures.value in
    sym c.in-Ok-copy_wire.ensures.copied ∙ sym c.deref-2.ensures.value ∙ c.if-are_same.ensures.0 refl ∙ c.last_of.ensures ∙ ap kept joined
