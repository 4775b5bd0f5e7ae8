-- Equal cuts are of one mask, and alike at each slot.
use Rattle.std.proofs.Common.{◌≡◌, ◌∙◌, sym, ap, arith, length, nat_eq}
use Rattle.std.specs.Option.{option_eq}
use Rattle.std.proofs.lemmas.Bool.{not-true}
use Rattle.i3c_base.specs.declared.range.TheConstants.{SLOTS}
use Rattle.i3c_base.proofs.CutLaws.{length-masked_from}
use Rattle.i3c_base.proofs.CutTests.{alike, one_mask, other_at, other_cuts}
use Rattle.i3c_base.proofs.cuts.CutsPartialEq.eq.Goals as goal

pub returns-then-self-other : goal.returns-then-self-other
returns-then-self-other c = other_cuts c.args.self.now c.args.other.now (λ e. c.if-self-other.true
    (one_mask SLOTS c.self.inside.cut c.other.inside.cut c.self.inside.bits c.other.inside.bits c.self.invariant c.other.invariant c.self.told c.other.told (c.self.view_is ∙ (e ∙ sym c.other.view_is))))

pub returns-then-ne : goal.returns-then-ne
returns-then-ne c = other_at c.args.self.now c.args.other.now c.from_index-slot.result
    (sym (not-true _ (sym c.ne.ensures ∙ c.if-ne.true)) ∙ (λ t. option_eq nat_eq (c.at.ensures t) (c.at-in-loop-index.ensures t)))

pub returns : goal.returns
returns c =
    let long : length c.args.self.now ≡ SLOTS = sym (ap length c.self.view_is) ∙ (length-masked_from 0 c.self.inside.cut c.self.inside.bits ∙ c.self.told) in
    let too_long : length c.args.other.now ≡ SLOTS = sym (ap length c.other.view_is) ∙ (length-masked_from 0 c.other.inside.cut c.other.inside.bits ∙ c.other.told) in
    alike c.args.self.now c.args.other.now (long ∙ sym too_long) (λ s l. c.loop-index.invariant s (omega (arith, long)))
