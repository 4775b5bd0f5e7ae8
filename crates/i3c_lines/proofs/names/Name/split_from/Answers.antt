use Rattle.std.proofs.Common.{◌≡◌, ◌∙◌, ◌-◌, All, ap, arith, drop, length, length-drop, subst}
use Rattle.std.proofs.lemmas.List.{take_all}
use Rattle.i3c_lines.specs.Tokens.{IsNameLetter}
use Rattle.i3c_lines.proofs.SplitLaws.{drop_joined, name_ends}
use Rattle.i3c_lines.proofs.names.Name.split_from.Goals as goal

pub returns-then-name-eq0-clause-none : goal.returns-then-name-eq0-clause-none
returns-then-name-eq0-clause-none c none token rest is e =
    let name = c.leading-name.result in
    let ends = name_ends c.args.line.now token rest name.length is e c.leading-name.ensures.within (subst (λ ls. All IsNameLetter ls) c.leading-name.ensures.first c.leading-name.ensures.letters) c.leading-name.ensures.longest in
    omega (arith, ends, is.0, c.if-name-eq0.true)

pub returns-in_err-rest-clause-none : goal.returns-in_err-rest-clause-none
returns-in_err-rest-clause-none c none token rest is e =
    let name = c.leading-name.result in
    let ends = name_ends c.args.line.now token rest name.length is e c.leading-name.ensures.within (subst (λ ls. All IsNameLetter ls) c.leading-name.ensures.first c.leading-name.ensures.letters) c.leading-name.ensures.longest in
    let line = c.args.line.now in
    let n : c.from.result ≡ length token = c.from.ensures ∙ ends in
    c.in_err-rest.ensures rest
    (take_all (length line - c.from.result) (drop c.from.result line) (omega (arith, length-drop c.from.result line))
    ∙ ap (λ k. drop k line) n
    ∙ ap (drop (length token)) e
    ∙ drop_joined token rest)
