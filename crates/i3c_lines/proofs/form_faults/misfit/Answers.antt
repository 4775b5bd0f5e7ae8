use Rattle.std.proofs.Common.{◌++◌, ◌∷◌, []}
use Rattle.i3c_lines.specs.Parsing.{left_tokens}
use Rattle.i3c_lines.proofs.FaultLaws.{among_behind, fault_behind, front_more, next_among}
use Rattle.i3c_lines.proofs.form_faults.misfit.Goals as goal

pub returns-in-Some-misfit_at : goal.returns-in-Some-misfit_at
returns-in-Some-misfit_at c =
    let inv = c.loop-field.invariant in
    let all = left_tokens c.args.tokens.now in
    let here = left_tokens c.loop-field.tokens in
    let token = c.in-Some.token.now in
    c.in-Some-misfit_at.ensures c.args.first.now all (among_behind token inv.0 all here inv.1 (next_among token here (left_tokens c.next.new.self) c.in-Some.ensures))

pub loop-field-preserved : goal.loop-field-preserved
loop-field-preserved c =
    let inv = c.loop-field.invariant in
    let token = c.in-Some.token.now in
    (inv.0 ++ token ∷ [], front_more token inv.0 (left_tokens c.args.tokens.now) (left_tokens c.loop-field.tokens) (left_tokens c.next.new.self) inv.1 c.in-Some.ensures, inv.2)

pub returns-in_default-optional : goal.returns-in_default-optional
returns-in_default-optional c =
    let inv = c.loop-field.invariant in
    fault_behind c.args.first.now inv.0 (left_tokens c.args.tokens.now) (left_tokens c.loop-field.tokens) c.last_misfit.result inv.1 c.last_misfit.ensures
