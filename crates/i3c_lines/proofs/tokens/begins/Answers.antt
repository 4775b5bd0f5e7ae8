use Rattle.std.proofs.Common.{◌≡◌, ◌∙◌, ◌<◌, ◌++◌, ap, arith, drop, get_or, inl, inr, length, sym, take}
use Rattle.std.proofs.lemmas.Bool.{cases_eq}
use Rattle.std.proofs.lemmas.List.{ext_get_or, get_or-take, length-take-le, take-append-drop}
use Rattle.i3c_lines.proofs.tokens.begins.Goals as goal

pub loop-index-preserved : goal.loop-index-preserved
loop-index-preserved c k l = elim (cases_eq k c.loop-index.index) [
  | inl e ↦ ap (λ i. get_or c.args.text.now i 0) e ∙ (c.if-text-index.false ∙ sym (ap (λ i. get_or c.args.start.now i 0) e))
  | inr ne ↦ c.loop-index.invariant k (omega (arith, l, ne))
]

pub returns-clause-begins : goal.returns-clause-begins
returns-clause-begins c t =
    let text = c.args.text.now in
    let start = c.args.start.now in
    let long : length (take (length start) text) ≡ length start = length-take-le (length start) text c.if-text-start.false in
    let same : take (length start) text ≡ start = ext_get_or 0 (take (length start) text) start long (λ k l.
    let low : k < length start = omega (arith, l, long) in
    get_or-take (length start) text k 0 low ∙ c.loop-index.invariant k (omega (arith, low, c.loop-index-test.false))) in
    sym (take-append-drop (length start) text) ∙ ap (λ front. front ++ drop (length start) text) same
