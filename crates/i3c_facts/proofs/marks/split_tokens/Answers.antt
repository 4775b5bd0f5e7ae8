-- All tokens of the line came into the empty list.
use Rattle.std.proofs.Common.{◌≡◌, ◌∙◌, ◌++◌, OnOk, ap, subst, rules, tests}
use Rattle.std.specs.List.{slice_split}
use Rattle.std.specs.Slice.Iter.{split_steps}
use lib.Dec.{eqb}
use Rattle.std.proofs.lemmas.Iterator.Adapters.{fact_from_extend}
use Rattle.std.proofs.lemmas.Iterator.Splits.{YieldsList-from_slice_split}
use Rattle.i3c_facts.specs.Forms.{texts}
use Rattle.i3c_facts.proofs.TokenLaws.{tokens_split}
use Rattle.i3c_facts.proofs.marks.split_tokens.Goals as goal

pub returns : goal.returns
returns c =
    subst (λ ws. texts c.extend.new.self.items ≡ ws) (tokens_split c.args.line.now)
    (subst (λ r. OnOk r (texts c.extend.new.self.items ≡ slice_split (λ byte. eqb byte 32) c.args.line.now)) c.in_ok-extend.was
    (fact_from_extend {steps = split_steps _} {all = slice_split (λ byte. eqb byte 32) c.args.line.now} (λ w. w.now) c.extend.result c.extend.ensures.ran
    (λ it b. YieldsList-from_slice_split {s = it} _ _ c.args.line.now (ap (λ s. s.rest.now) b ∙ c.split.ensures.rest) (ap (λ s. s.done) b ∙ c.split.ensures.done) (ap (λ s. s.pred) b ∙ c.split.ensures.closure) (λ x r q k. search (rules, tests)))
    (λ xs e h. ap texts (h.0 ∙ ap (λ ys. ys ++ xs) (c.reserve.ensures.items ∙ c.new-tokens.ensures.items)) ∙ e)))
