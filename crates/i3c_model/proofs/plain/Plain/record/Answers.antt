use Rattle.std.proofs.Common.{◌≡◌, ap, length, rules, ◌∙◌}
use Rattle.i3c_base.specs.State.{State}
use Rattle.i3c_model.proofs.Framing.{recorded_served}
use Rattle.i3c_model.proofs.plain.Plain.record.Goals as goal

pub returns-clause-serves : goal.returns-clause-serves
returns-clause-serves c =
    let count : c.len.result ≡ length c.self.inside.records.items = search rules in
    recorded_served c.args.self.now c.args.at _ _ c.byte_read-byte.result c.keep.new.self c.answer.new.self c.len.result c.requires.first c.in-Some.ensures c.byte_read-byte.ensures c.in_ok-keep.ensures.kept c.answer.ensures
    (count ∙ ap (λ (st : State). length st.records) c.self.view_is)
