use Rattle.std.proofs.Common.{ap}
use Rattle.i3c_base.specs.Cutting.{is_by}
use Rattle.i3c_model.proofs.plain.Plain.is_any_unaddressed.Goals as goal

-- without cuts nobody is lost
pub returns : goal.returns
returns c =
    let left = c.is_any_unaddressed_left.ensures in
    ((λ h. let some = left.0 h in (some.0, some.1, some.2)), (λ some. left.1 (some.0, some.1, some.2, ap (is_by 0) (c.new-uncut.ensures.uncut some.0))))
