-- A closed bus's raises are all posts, and a present device's raises are refused, recorded or waiting.
use Rattle.std.proofs.Common.{◌≡◌, length, ap, sym, ◌∙◌}
use Rattle.std.specs.Prelude.{Some}
use Rattle.i3c_base.specs.State.{State, device_at}
use Rattle.i3c_step.specs.History.{reached}
use Rattle.i3c_shared.proofs.Balanced.{accounted}
use Rattle.i3c_shared.proofs.laws.posts_are_accounted_for.Goals as goal

pub returns : goal.returns
returns c old role ports run records waiting closes start h is k p d at end there =
    let here : device_at (reached start h) p.slot ≡ Some d = ap (λ (st : State). device_at st p.slot) is.reached ∙ there in
    ap length (sym (closes.all k p at end))
    ∙ accounted p.slot start h run d.waiting is.events is.replies
    (c.raises_stay_in_order.ensures is.main is.board start h is.begun is.legal is.distinct p.slot d here)
    (c.stays_begin_by_attachments.ensures start h is.legal p.slot d here)
