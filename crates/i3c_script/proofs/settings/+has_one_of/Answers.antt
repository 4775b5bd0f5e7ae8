-- The first slot is in the set, or one of the others is.
use Rattle.std.proofs.Common.{◌∙◌, ◌||◌, ap, sym}
use Rattle.std.specs.List.{list_any}
use Rattle.i3c_script.proofs.settings.+has_one_of.Goals as goal

pub returns-then-is_in : goal.returns-then-is_in
returns-then-is_in t c = λ f same.
    let rest = c.in-Some.rest.now in
    sym (ap (list_any f) c.in-Some.ensures.cases.0 ∙ ap (λ b. b || list_any f rest) (sym (same c.in-Some.first.now c.is_in.ensures.in_range) ∙ sym c.is_in.ensures.same ∙ c.if-is_in.true))

pub returns : goal.returns
returns t c = λ f same.
    let rest = c.in-Some.rest.now in
    c.has_one_of.ensures f same
    ∙ sym (ap (list_any f) c.in-Some.ensures.cases.0 ∙ ap (λ b. b || list_any f rest) (sym (same c.in-Some.first.now c.is_in.ensures.in_range) ∙ sym c.is_in.ensures.same ∙ c.if-is_in.false))
