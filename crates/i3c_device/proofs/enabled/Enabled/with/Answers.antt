use Rattle.std.proofs.Common.{◌||◌, ◌&&◌, ap, ◌∙◌}
use Rattle.i3c_base.specs.Numbers.{kind_set}
use Rattle.i3c_device.specs.Enabling.{kinds_in}
use Rattle.i3c_device.specs.Sets.{has}
use Rattle.i3c_device.proofs.EnabledLaws.{kinds_more}
use Rattle.i3c_device.proofs.enabled.Enabled.with.Goals as goal

pub returns : goal.returns
returns c s low =
    let here = has c.args.among s in
    let had = kinds_in c.args.self s in
    kinds_more here had (kind_set c.args.kinds) _
    (c.or.ensures s low ∙ ap (λ b. had.interrupt || b) (c.only_if.ensures s ∙ ap (λ is_so. is_so && here) c.may_interrupt.ensures))
    (c.or-2.ensures s low ∙ ap (λ b. had.role || b) (c.only_if-2.ensures s ∙ ap (λ is_so. is_so && here) c.may_ask_role.ensures))
    (c.or-3.ensures s low ∙ ap (λ b. had.join || b) (c.only_if-3.ensures s ∙ ap (λ is_so. is_so && here) c.may_join.ensures))
