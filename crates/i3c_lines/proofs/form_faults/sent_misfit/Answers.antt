use Rattle.std.proofs.Common.{◌∷◌, []}
use Rattle.i3c_lines.specs.Parsing.{left_tokens}
use Rattle.i3c_lines.proofs.FaultLaws.{fault_behind, next_among}
use Rattle.i3c_lines.proofs.form_faults.sent_misfit.Goals as goal

pub returns-in-Some-misfit_at : goal.returns-in-Some-misfit_at
returns-in-Some-misfit_at c =
    let all = left_tokens c.args.tokens.now in
    c.in-Some-misfit_at.ensures c.args.first.now all (next_among c.in-Some.token.now all (left_tokens c.next.new.self) c.in-Some.ensures)

pub returns-in-Some-shape_of : goal.returns-in-Some-shape_of
returns-in-Some-shape_of c =
    fault_behind c.args.first.now (c.in-Some.token.now ∷ []) (left_tokens c.args.tokens.now) (left_tokens c.next.new.self) c.misfit.result c.in-Some.ensures c.misfit.ensures
