use Rattle.std.proofs.Common.{IfSome, rules, subst, take}
use Rattle.i3c_frame.specs.Texts.{HasText}
use Rattle.i3c_frame.proofs.FirstLaws.{parts_behind}
use Rattle.i3c_frame.proofs.firsts.with_rest.Goals as goal

pub returns : goal.returns
returns c =
    let text = c.args.text.now in
    let symbol = c.in_ok-symbol.field-0 in
    (search rules, parts_behind text c.args.separator symbol c.requires.within (subst (λ found. IfSome found (HasText (take c.args.separator text))) c.in_ok-symbol.was c.requires.front) c.requires.parted)
