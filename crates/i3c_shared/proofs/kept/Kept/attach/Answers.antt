use Rattle.std.proofs.Common.{◌∙◌, sym, refl}
use Rattle.i3c_shared.proofs.Booked.{put_booked}
use Rattle.i3c_shared.proofs.Growing.{puts_out_is, with_reply}
use Rattle.i3c_shared.proofs.Replies.{attach_replies}
use Rattle.i3c_shared.proofs.kept.Kept.attach.Goals as goal

pub returns : goal.returns
returns g c =
    let e = c.in-Ok-attach.ensures in
    rw (← c.self.view_is, c.new-2.ensures) (
      sym c.is_awaited.ensures ∙ c.if-is_awaited.false,
      record {
        slot = refl;
        fresh = c.in-Ok.ensures.producer.0;
        taken = e.0;
        grows = with_reply _ _ _ _ _ c.in-Ok-attached.ensures e.1;
        ring = c.in-Ok.ring;
        pair = c.in-Ok.ensures.pair;
        put = puts_out_is _ _ _ _ _ e.2 c.in-Ok-attached.ensures;
        parked = refl;
      },
    )

pub invariant_of-self-in_default-attached : goal.invariant_of-self-in_default-attached
invariant_of-self-in_default-attached g c = let e = c.in-Ok-attach.ensures in put_booked _ _ _ _ c.args.slot c.args.setup c.in-Ok.ring c.in-Ok-attach.reply c.self.invariant e.1 e.2

pub invariant_of-self-2 : goal.invariant_of-self-2
invariant_of-self-2 g c = let e = c.in-Ok-attach.ensures in put_booked _ _ _ _ c.args.slot c.args.setup c.in-Ok.ring c.in-Ok-attach.reply c.self.invariant e.1 e.2

pub attached-requires : goal.attached-requires
attached-requires g c = attach_replies _ c.args.slot c.args.setup _ _ c.in-Ok-attach.ensures.1.makes.step
