use Rattle.std.proofs.Common.{◌∷◌, []}
use Rattle.i3c_lines.specs.Parsing.{left_tokens}
use Rattle.i3c_lines.proofs.FaultLaws.{fault_behind, next_among}
use Rattle.i3c_lines.proofs.form_faults.behind_all.Goals as goal

pub returns-then-is_token : goal.returns-then-is_token
returns-then-is_token c =
    fault_behind c.args.first.now (c.in-Some.token.now ∷ []) (left_tokens c.args.tokens.now) (left_tokens c.next.new.self) c.names_misfit.result c.in-Some.ensures c.names_misfit.ensures

pub returns : goal.returns
returns c =
    let all = left_tokens c.args.tokens.now in
    c.surplus.ensures c.args.first.now all (next_among c.in-Some.token.now all (left_tokens c.next.new.self) c.in-Some.ensures)
