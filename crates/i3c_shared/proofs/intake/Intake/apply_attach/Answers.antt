use Rattle.std.proofs.Common.{◌∙◌, ◌<◌, sym, refl, length, arith}
use Rattle.i3c_shared.proofs.Fitting.{fits_granted, fits_refused, put_count}
use Rattle.i3c_shared.specs.Values.{Log}
use Rattle.i3c_shared.proofs.Growing.{puts_no, puts_yes}
use Rattle.i3c_shared.proofs.intake.Intake.apply_attach.Goals as goal

pub invariant_of-self : goal.invariant_of-self
invariant_of-self c =
    let done = sym c.is_attached.ensures ∙ c.if-is_attached.true in
    let low : c.args.slot < length c.self.inside.rings.items = search arith in
    rw c.put_out.ensures (record {
      size = put_count _ _ _ ∙ c.self.invariant.size;
      fits = fits_granted c.self.inside.rings.items _ _ c.args.slot c.args.setup c.apply-reply.result c.args.ring c.apply-reply.ensures.run done low c.requires.fresh.0 c.requires.fresh.1 c.self.invariant.fits;
    })

pub invariant_of-self-else-is_attached : goal.invariant_of-self-else-is_attached
invariant_of-self-else-is_attached c = record {
  size = c.self.invariant.size;
  fits = fits_refused _ _ _ c.args.slot c.args.setup c.apply-reply.result c.apply-reply.ensures.run (sym c.is_attached.ensures ∙ c.if-is_attached.false) c.self.invariant.fits;
}

pub returns-then-is_attached : goal.returns-then-is_attached
returns-then-is_attached c =
    let taken : Log = record { start = c.apply-reply.new.self.start; state = c.apply-reply.new.self.state; run = c.apply-reply.new.self.run; rings = c.self.inside.rings.items } in (
      taken,
      rw (← c.self.view_is) (record { step = c.apply-reply.ensures.step; run = c.apply-reply.ensures.run; start = c.apply-reply.ensures.start; rings = refl }),
      puts_yes taken c.args.slot c.args.ring c.apply-reply.result c.put_out.new.rings.items (sym c.is_attached.ensures ∙ c.if-is_attached.true) c.put_out.ensures,
    )

pub returns : goal.returns
returns c =
    let taken : Log = record { start = c.apply-reply.new.self.start; state = c.apply-reply.new.self.state; run = c.apply-reply.new.self.run; rings = c.self.inside.rings.items } in (
      taken,
      rw (← c.self.view_is) (record { step = c.apply-reply.ensures.step; run = c.apply-reply.ensures.run; start = c.apply-reply.ensures.start; rings = refl }),
      puts_no taken c.args.slot c.args.ring c.apply-reply.result (sym c.is_attached.ensures ∙ c.if-is_attached.false),
    )
