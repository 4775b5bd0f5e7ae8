use Rattle.std.proofs.Common.{◌∙◌, ◌++◌, ap, codes}
use Rattle.i3c_text.specs.Hex.{byte_text}
use Rattle.i3c_script.specs.Printed.{identity_text}
use Rattle.i3c_script.proofs.Texts.{four, on_ok}
use Rattle.i3c_script.proofs.printed.print_assigned.Goals as goal

pub returns : goal.returns
returns c =
    on_ok c.print_identity.result
    (four c.args.text.now (codes "assigned ") (byte_text c.args.address) (codes " ") (identity_text c.args.identity.now) c.push.new.self c.push_byte.new.self c.push-2.new.self c.print_identity.new.text c.in_ok-push.ensures.appended (c.in_ok-push_byte.ensures ∙ ap (λ a. c.push.new.self ++ byte_text a) c.get.ensures.same) c.in_ok-push-2.ensures.appended)
    c.print_identity.ensures
