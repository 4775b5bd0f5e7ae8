use Rattle.std.proofs.Common.{◌≡◌, [], ◌∷◌, ◌++◌, codes, subst}
use Rattle.i3c_text.specs.Hex.{byte_text}
use Rattle.i3c_script.specs.Printed.{byte_or_none}
use Rattle.i3c_script.proofs.Showing.{told_behind}
use Rattle.i3c_script.proofs.printed.print_recorded.Goals as goal

pub returns : goal.returns
returns c =
    told_behind c.print_last_byte.result c.args.text.now c.push.new.self c.push_byte.new.self c.print_last_byte.new.text (codes " at ") (byte_text c.args.at) (codes " byte " ++ (byte_or_none c.args.byte ++ 10 ∷ []))
    c.in_ok-push.ensures.appended (subst (λ a. c.push_byte.new.self ≡ c.push.new.self ++ byte_text a) c.get.ensures.same c.in_ok-push_byte.ensures) c.print_last_byte.ensures
