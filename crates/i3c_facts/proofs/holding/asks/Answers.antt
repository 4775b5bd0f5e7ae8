use Rattle.std.proofs.Common.{◌∙◌, arith}
use Rattle.std.proofs.lemmas.Grind.{common_steps}
use Rattle.i3c_facts.proofs.AskLaws.{asking_is}
use Rattle.i3c_facts.proofs.holding.asks.Goals as goal

pub returns-in-Some : goal.returns-in-Some
returns-in-Some c =
    let slot = c.args.slot in
    asking_is c.args.bus.now.state c.in-Some.field-0-0 slot c.contains.result c.in-Some.ensures.0 (c.contains.ensures ∙ c.in-Some.ensures.1 slot (grind (arith, common_steps)))
