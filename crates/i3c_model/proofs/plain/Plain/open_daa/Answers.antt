use Rattle.std.proofs.Common.{true, rules, refl, ◌∙◌, ◌+◌}
use Rattle.std.proofs.lemmas.Map.Made.{map_same_pairs}
use Rattle.i3c_base.specs.Cutting.{lost_by}
use Rattle.i3c_base.specs.Round.{hears, opened}
use Rattle.i3c_base.specs.Serve.{emptied, refuse_all}
use Rattle.i3c_step.specs.Step.{Becomes}
use Rattle.i3c_model.proofs.Framing.{refused_frame}
use Rattle.i3c_model.proofs.States.{each_there, within_fewer}
use Rattle.i3c_model.proofs.plain.Plain.open_daa.Goals as goal

pub invariant_of-self : goal.invariant_of-self
invariant_of-self c = within_fewer c.self.inside _ (refl, refl) c.retain.ensures.no_new_key (λ k h. h) c.self.invariant

pub returns : goal.returns
returns c =
    let st = c.args.self.now in
    let each = map_same_pairs _ hears _ (λ k v b w f q. search rules) _ _ c.retain.ensures.filtered in
    let e = each_there c.self.inside st c.self.view_is c.self.invariant c.retain.new.self (λ s. hears) (λ s. hears) (λ s d at. refl) each in
    let lost = lost_by c.args.cuts.now (c.header_bits-last.result + 9) in
    let serves = c.refuse_first-served.ensures.serves lost in
    refused_frame st c.args.cuts.now c.refuse_first-served.result c.header_bits-last.result 9 (Becomes opened) (opened st) c.empty.new.self c.refuse_first-served.ensures.sent serves
    (c.header_bits-last.ensures.sent refuse_all lost c.refuse_first-served.result st serves) refl (c.empty.ensures ∙ (λ t. emptied lost (record (c.self.view_is t) { devices = e t; in_session = true })))
