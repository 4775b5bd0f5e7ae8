use Rattle.std.proofs.Common.{◌++◌, codes}
use Rattle.i3c_text.specs.Hex.{byte_text, hex_text}
use Rattle.i3c_script.proofs.Showing.{told_behind, told_both}
use Rattle.i3c_script.proofs.printed.print_registers.Goals as goal

pub returns : goal.returns
returns c =
    let identity = c.args.identity.now in
    let r = c.print_register-2.result in
    let new = c.print_register-2.new.text in
    told_behind r c.args.text.now c.push.new.self c.push_pid.new.self new (codes " pid ") (hex_text 12 identity.pid) (codes " bcr " ++ (byte_text identity.bcr.0 ++ (codes " dcr " ++ byte_text identity.dcr.0))) c.in_ok-push.ensures.appended c.in_ok-push_pid.ensures
    (told_both r c.push_pid.new.self c.print_register.new.text new (codes " bcr ") (byte_text identity.bcr.0) (codes " dcr " ++ byte_text identity.dcr.0) c.in_ok-print_register.ensures c.print_register-2.ensures)
