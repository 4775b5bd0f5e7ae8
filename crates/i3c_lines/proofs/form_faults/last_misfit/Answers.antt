use Rattle.std.proofs.Common.{◌∷◌, []}
use Rattle.i3c_lines.specs.Parsing.{left_tokens}
use Rattle.i3c_lines.proofs.FaultLaws.{among_behind, next_among}
use Rattle.i3c_lines.proofs.form_faults.last_misfit.Goals as goal

pub returns-in_default-optional : goal.returns-in_default-optional
returns-in_default-optional c =
    let all = left_tokens c.args.tokens.now in
    c.surplus.ensures c.args.first.now all (next_among c.in-Some.token.now all (left_tokens c.next.new.self) c.in-Some.ensures)

pub returns-in-Some-misfit_at : goal.returns-in-Some-misfit_at
returns-in-Some-misfit_at c =
    let all = left_tokens c.args.tokens.now in
    c.in-Some-misfit_at.ensures c.args.first.now all (next_among c.in-Some.token.now all (left_tokens c.next.new.self) c.in-Some.ensures)

pub returns-in-Some-next : goal.returns-in-Some-next
returns-in-Some-next c =
    let all = left_tokens c.args.tokens.now in
    let rest = left_tokens c.next.new.self in
    c.surplus-in-Some-next.ensures c.args.first.now all
    (among_behind c.in-Some-next.token.now (c.in-Some.token.now ∷ []) all rest c.in-Some.ensures
    (next_among c.in-Some-next.token.now rest (left_tokens c.next-2.new.self) c.in-Some-next.ensures))
