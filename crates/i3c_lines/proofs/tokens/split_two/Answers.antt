use Rattle.std.proofs.Common.{◌≡◌, ◌∙◌, ap, drop, rules, sym}
use Rattle.i3c_lines.specs.Parsing.{joined}
use Rattle.i3c_lines.proofs.SplitLaws.{drop_joined}
use Rattle.i3c_lines.proofs.tokens.split_two.Goals as goal

pub returns-in_err-rest-clause-none : goal.returns-in_err-rest-clause-none
returns-in_err-rest-clause-none c none token rest two e =
    let behind : c.in_ok-token.rest.now ≡ drop 2 c.args.line.now = search rules in
    c.in_err-rest.ensures rest (behind ∙ ap (drop 2) e ∙ ap (λ n. drop n (joined token rest)) (sym two) ∙ drop_joined token rest)
