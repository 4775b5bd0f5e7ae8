use Rattle.std.proofs.Common.{[], ◌∷◌, codes}
use Rattle.std.proofs.lemmas.Result.{on_ok_weaker}
use Rattle.i3c_text.specs.Hex.{byte_text}
use Rattle.i3c_lines.specs.Printing.{identity_tokens}
use Rattle.i3c_lines.proofs.PrintedLines.{spaced_behind}
use Rattle.i3c_lines.proofs.printing.push_declare.Goals as goal

pub returns : goal.returns
returns c =
    on_ok_weaker c.push_identity.result (spaced_behind _ c.push_addressed.new.text _ (codes "declare") (byte_text c.args.address ∷ []) (identity_tokens c.args.identity.now) c.in_ok-push_addressed.ensures)
    c.push_identity.ensures
