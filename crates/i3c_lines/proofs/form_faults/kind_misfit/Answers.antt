use Rattle.std.proofs.Common.{◌++◌, ◌∷◌, []}
use Rattle.i3c_lines.specs.Parsing.{left_tokens}
use Rattle.i3c_lines.proofs.FaultLaws.{among_behind, fault_behind, front_more, next_among}
use Rattle.i3c_lines.proofs.form_faults.kind_misfit.Goals as goal

pub loop-token-init : goal.loop-token-init
loop-token-init c = (c.in-Some.token.now ∷ [], c.in-Some.ensures)

pub loop-token-preserved : goal.loop-token-preserved
loop-token-preserved c =
    let inv = c.loop-token.invariant in
    let token = c.in-Some-next.token.now in
    (inv.0 ++ token ∷ [], front_more token inv.0 (left_tokens c.args.tokens.now) (left_tokens c.loop-token.tokens) (left_tokens c.next-in-loop-token.new.self) inv.1 c.in-Some-next.ensures)

pub returns-then-is_token : goal.returns-then-is_token
returns-then-is_token c =
    fault_behind c.args.first.now (c.in-Some.token.now ∷ []) (left_tokens c.args.tokens.now) (left_tokens c.next.new.self) c.behind_all.result c.in-Some.ensures c.behind_all.ensures

pub returns-in_default-accept : goal.returns-in_default-accept
returns-in_default-accept c =
    fault_behind c.args.first.now (c.in-Some.token.now ∷ []) (left_tokens c.args.tokens.now) (left_tokens c.next.new.self) c.last_misfit.result c.in-Some.ensures c.last_misfit.ensures

pub returns-then-is_token-2 : goal.returns-then-is_token-2
returns-then-is_token-2 c =
    let inv = c.loop-token.invariant in
    let token = c.in-Some-next.token.now in
    let all = left_tokens c.args.tokens.now in
    let rest = left_tokens c.next-in-loop-token.new.self in
    fault_behind c.args.first.now (inv.0 ++ token ∷ []) all rest c.names_misfit.result (front_more token inv.0 all (left_tokens c.loop-token.tokens) rest inv.1 c.in-Some-next.ensures) c.names_misfit.ensures

pub returns-in-Some-misfit_at : goal.returns-in-Some-misfit_at
returns-in-Some-misfit_at c =
    let inv = c.loop-token.invariant in
    let token = c.in-Some-next.token.now in
    let all = left_tokens c.args.tokens.now in
    let here = left_tokens c.loop-token.tokens in
    c.in-Some-misfit_at.ensures c.args.first.now all (among_behind token inv.0 all here inv.1 (next_among token here (left_tokens c.next-in-loop-token.new.self) c.in-Some-next.ensures))

pub returns-in-None : goal.returns-in-None
returns-in-None c =
    let inv = c.loop-token.invariant in
    let token = c.in-Some-next.token.now in
    let here = left_tokens c.loop-token.tokens in
    among_behind token inv.0 (left_tokens c.args.tokens.now) here inv.1 (next_among token here (left_tokens c.next-in-loop-token.new.self) c.in-Some-next.ensures)
