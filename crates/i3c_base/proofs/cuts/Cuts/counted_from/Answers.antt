-- Each bit is counted from the later one, and the mask stays.
use Rattle.std.proofs.Common.{ℕ, ◌≡◌, ◌-◌, ◌++◌, ◌∙◌, ap, refl, arith, drop, get_or, set, length-set}
use Rattle.std.specs.Prelude.{map}
use Rattle.std.proofs.lemmas.List.{append-nil, take_all, drop_all, get_or_default}
use Rattle.std.proofs.lemmas.List.Edits.{map_over_more}
use Rattle.i3c_base.specs.Places.{masked_from}
use Rattle.i3c_base.specs.Cutting.{counted_from}
use Rattle.i3c_base.proofs.CutLaws.{masked_from-map}
use Rattle.i3c_base.proofs.cuts.Cuts.counted_from.Goals as goal

pub loop-bit-init : goal.loop-bit-init
loop-bit-init c = record { long = c.self.told; counted = refl }

pub loop-bit-preserved : goal.loop-bit-preserved
loop-bit-preserved c =
    let i : ℕ = c.loop-bit.bit-index in
    let long = c.loop-bit.invariant.long in
    record {
      long = length-set c.loop-bit.bit-items i c.saturating_sub.result ∙ long;
      counted = ap (λ v. set c.loop-bit.bit-items i v) c.saturating_sub.ensures
          ∙ map_over_more (λ n. n - c.args.first) c.self.inside.bits c.loop-bit.bit-items i (get_or c.loop-bit.bit-items i 0) (omega arith) c.loop-bit.invariant.counted
          (get_or_default c.loop-bit.bit-items i 0 (get_or c.loop-bit.bit-items i 0) (omega (arith, long)));
    }

pub returns : goal.returns
returns c =
    let all : c.loop-bit.bit-items ≡ map (λ n. n - c.args.first) c.self.inside.bits =
    c.loop-bit.invariant.counted ∙ (ap (λ xs. map (λ n. n - c.args.first) xs ++ drop c.loop-bit.bit-index c.self.inside.bits) (take_all c.loop-bit.bit-index c.self.inside.bits (omega arith))
    ∙ (ap (λ xs. map (λ n. n - c.args.first) c.self.inside.bits ++ xs) (drop_all c.loop-bit.bit-index c.self.inside.bits (omega arith)) ∙ append-nil (map (λ n. n - c.args.first) c.self.inside.bits))) in
    ap (λ bits. masked_from 0 c.self.inside.cut bits) all
    ∙ (masked_from-map (λ n. n - c.args.first) 0 c.self.inside.cut c.self.inside.bits ∙ ap (counted_from c.args.first) c.self.view_is)
