use Rattle.std.proofs.Common.{◌≡◌, ◌++◌, OnOk, codes, subst}
use Rattle.i3c_text.specs.Hex.{hex_text}
use Rattle.i3c_monitor.specs.Lines.{taken_text, words_text}
use Rattle.i3c_monitor.proofs.PieceLaws.{four}
use Rattle.i3c_monitor.proofs.printing.push_round.Goals as goal

pub returns : goal.returns
returns c =
    four c.push-2.result c.args.text.now (codes "round ") (hex_text 16 c.args.identity) (words_text (codes " ") c.args.byte) (taken_text c.args.taken)
    c.push.new.self c.push_hex.new.self c.push_byte.new.text c.push-2.new.self
    c.in_ok-push.ensures.appended c.in_ok-push_hex.ensures c.in_ok-push_byte.ensures
    (subst (λ words. OnOk c.push-2.result (c.push-2.new.self ≡ c.push_byte.new.text ++ words)) c.taken_text.ensures c.push-2.ensures.appended)
