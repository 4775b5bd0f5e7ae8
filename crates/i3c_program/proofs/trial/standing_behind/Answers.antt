use Rattle.std.proofs.Common.{◌∙◌, ◌++◌, ap, refl, subst, sym}
use Rattle.i3c_program.specs.declared.standing.Broken.{Broken}
use Rattle.i3c_program.specs.declared.standing.Standing.{Standing}
use Rattle.i3c_program.specs.Sessions.{StandsAt}
use Rattle.i3c_program.proofs.trial.standing_behind.Goals as goal

pub returns : goal.returns
returns c =
    let broken : Broken = record { behind = c.new.result; number = c.in-Some.number; there = c.push.new.self } in
    let there = c.in_ok-push.ensures.appended ∙ ap (λ t. t ++ c.there.result.now) c.new-there.ensures ∙ c.there.ensures in
    subst (λ unmet. StandsAt unmet c.args.reply.now.there (Standing.Broken broken)) (sym c.in-Some.is ∙ c.unmet.ensures) (broken, refl, c.new.ensures.items, refl, there)
