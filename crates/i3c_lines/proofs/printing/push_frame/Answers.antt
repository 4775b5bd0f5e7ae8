use Rattle.std.proofs.Common.{◌≡◌, ◌++◌, OnOk, subst, sym}
use Rattle.i3c_lines.specs.Printing.{frame_tokens, spaced}
use Rattle.i3c_lines.proofs.printing.push_frame.Goals as goal

pub returns-in-SetNew : goal.returns-in-SetNew
returns-in-SetNew c =
    subst (λ frame. OnOk c.push_setting-in-SetNew.result (c.push_setting-in-SetNew.new.text ≡ c.args.text.now ++ spaced (frame_tokens frame))) (sym c.in-SetNew.is) c.push_setting-in-SetNew.ensures
