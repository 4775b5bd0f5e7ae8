use Rattle.std.proofs.Common.{◌∙◌, ap, refl, subst, sym}
use Rattle.i3c_program.specs.Sessions.{HasChanged, StandsAt}
use Rattle.i3c_program.proofs.trial.Trial.hear.Goals as goal

pub returns : goal.returns
returns c =
    let reply = c.reply_in-reply.ensures in
    let asking = c.asking.ensures ∙ ap (λ r. r.asking) reply in (
      record {
        step = c.in-Some.step.now;
        newest = sym c.in-Some.ensures;
        asked = c.in_ok-changed.ensures.asked ∙ asking;
        change = subst (λ names. HasChanged c.args.self.now.asked.items names c.in_ok-changed.changed) asking c.in_ok-changed.ensures.changed;
        stands = subst (λ r. StandsAt r.unmet r.there c.in_ok-self.field-0) reply c.in_ok-self.ensures;
        order = refl;
        kept = (refl, refl, refl, (refl, refl));
      },
      refl,
    )
