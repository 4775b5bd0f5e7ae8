use Rattle.std.proofs.Common.{ap, sym, ◌∙◌}
use Rattle.std.proofs.lemmas.Bool.{eqb-false}
use Rattle.i3c_base.specs.State.{State}
use Rattle.i3c_model.proofs.Requests.{none_driven, wanted_alone, wanted_asked}
use Rattle.i3c_model.proofs.plain.Plain.driven.Goals as goal

pub returns-in-Some-clause-asked : goal.returns-in-Some-clause-asked
returns-in-Some-clause-asked c = wanted_asked c.args.self.now c.args.slot _ c.wants.result (λ e. eqb-false c.args.slot c.self.inside.active (sym c.eq.ensures ∙ c.if-eq.false) (e ∙ ap (λ (st : State). st.active) (sym c.self.view_is))) (sym c.in-Some.ensures) c.wants.ensures.asked

pub returns-in-Some-clause-alone : goal.returns-in-Some-clause-alone
returns-in-Some-clause-alone c = wanted_alone c.args.self.now c.args.slot _ c.wants.result (λ e. eqb-false c.args.slot c.self.inside.active (sym c.eq.ensures ∙ c.if-eq.false) (e ∙ ap (λ (st : State). st.active) (sym c.self.view_is))) (sym c.in-Some.ensures) c.wants.ensures.alone

pub returns-in-None-clause-asked : goal.returns-in-None-clause-asked
returns-in-None-clause-asked c = λ q. none_driven c.args.self.now c.args.slot q (sym c.in-None.ensures)
