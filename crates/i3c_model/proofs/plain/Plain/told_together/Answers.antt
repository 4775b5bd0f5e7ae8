use Rattle.std.proofs.Common.{◌≡◌, refl, ap, length, ◌∙◌, subst, arith, replicate}
use Rattle.std.proofs.lemmas.List.{length-take-le}
use Rattle.i3c_base.specs.Cutting.{lost_by}
use Rattle.i3c_model.proofs.Told.{AreTold, told_first, told_more, told_start}
use Rattle.i3c_model.proofs.plain.Plain.told_together.Goals as goal

pub loop-k-init : goal.loop-k-init
loop-k-init c = told_start c.args.self.now c.args.what c.args.at (lost_by c.args.cuts.now c.args.last) (replicate 16 0) refl

pub loop-k-preserved : goal.loop-k-preserved
loop-k-preserved c = told_more c.args.self.now c.args.what c.args.at (lost_by c.args.cuts.now c.args.last) c.loop-k.k c.loop-k.bytes c.byte_together.result (omega (arith, c.loop-k-test.true, c.told_length-count.ensures.few)) c.loop-k.invariant c.byte_together.ensures

pub returns-clause-together : goal.returns-clause-together
returns-clause-together c = λ k l.
    let st = c.args.self.now in
    let lost = lost_by c.args.cuts.now c.args.last in
    let count = c.told_length-count.result in
    let ended : c.loop-k.k ≡ count = omega (arith, c.loop-k-test.false, c.loop-k.auto.k-end) in
    let few = c.told_length-count.ensures.few in
    let long : length c.new.result ≡ count = ap length c.new.ensures ∙ length-take-le count c.loop-k.bytes (omega (arith, few, c.loop-k.invariant.0)) in
    let told = subst (λ n. AreTold st c.args.what c.args.at lost n c.loop-k.bytes) ended c.loop-k.invariant in
    rw c.new.ensures (told_first st c.args.what c.args.at lost count c.loop-k.bytes told k (omega (arith, l, long)))
