use Rattle.std.proofs.Common.{not, ◌&&◌, ap, ◌∙◌}
use Rattle.i3c_base.specs.Numbers.{kind_set}
use Rattle.i3c_device.specs.Enabling.{kinds_in}
use Rattle.i3c_device.specs.Sets.{has}
use Rattle.i3c_device.proofs.EnabledLaws.{kinds_less}
use Rattle.i3c_device.proofs.enabled.Enabled.without.Goals as goal

pub returns : goal.returns
returns c s low =
    let here = has c.args.among s in
    let had = kinds_in c.args.self s in
    kinds_less here had (kind_set c.args.kinds) _
    (c.without.ensures s low ∙ ap (λ b. had.interrupt && not b) (c.only_if.ensures s ∙ ap (λ is_so. is_so && here) c.may_interrupt.ensures))
    (c.without-2.ensures s low ∙ ap (λ b. had.role && not b) (c.only_if-2.ensures s ∙ ap (λ is_so. is_so && here) c.may_ask_role.ensures))
    (c.without-3.ensures s low ∙ ap (λ b. had.join && not b) (c.only_if-3.ensures s ∙ ap (λ is_so. is_so && here) c.may_join.ensures))
