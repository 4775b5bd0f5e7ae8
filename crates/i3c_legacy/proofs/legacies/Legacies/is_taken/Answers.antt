use Rattle.std.proofs.Common.{◌∙◌, ap}
use Rattle.i3c_legacy.specs.Declaring.{is_taken}
use Rattle.i3c_legacy.proofs.legacies.Legacies.is_taken.Goals as goal

pub returns : goal.returns
returns c = c.has.ensures ∙ (c.self.invariant.set c.args.address ∙ ap (λ b. is_taken b c.args.address) c.self.view_is)
