use Rattle.std.proofs.Common.{◌≡◌, ◌∙◌, Some, ap, arith, drop, length, refl, subst, sym}
use Rattle.std.specs.List.{slice_get}
use Rattle.std.proofs.lemmas.List.{take_at}
use Rattle.std.proofs.lemmas.Option.{slice_get_within}
use Rattle.std.proofs.lemmas.Grind.{common_steps}
use Rattle.i3c_explore.specs.Layers.{IsRestarted}
use Rattle.i3c_explore.proofs.Lists.{left_more, written_more}
use Rattle.i3c_explore.proofs.block.restart_all.Goals as goal

pub loop-node-preserved : goal.loop-node-preserved
loop-node-preserved g c =
    let was = c.loop-node.invariant in
    let first = c.deref_mut-node-items.result.now in let xs = c.loop-node.node-items in let i = c.loop-node.node-index in record {
      length = grind (arith, common_steps, was.length);
      restarted = λ k lt. written_more (λ old new. IsRestarted c.args.count old new) first xs i c.node-item.result c.restart.new.node (omega arith) c.node-item.is (subst (λ old. IsRestarted c.args.count old c.restart.new.node) (sym c.node-item.is) c.in_ok-restart.ensures) was.restarted was.left k (omega arith);
      left = λ k le. left_more first xs i c.restart.new.node was.left k (omega arith);
    }

pub returns-clause-restarted : goal.returns-clause-restarted
returns-clause-restarted g c n k found =
    let was = c.loop-node.invariant in let xs = c.loop-node.node-items in let first = c.deref_mut-node-items.result.now in
    let whole = take_at xs (drop (length xs) c.args.nodes.now.items) c.args.nodes.now.len (was.length ∙ c.deref_mut-node-items.ensures.len) in
    let here : slice_get xs k ≡ Some n = subst (λ l. slice_get l k ≡ Some n) whole found in
    let within = slice_get_within xs k n here in
    let (old, at, again) = was.restarted k (omega arith) n here in
    (old, subst (λ l. slice_get l k ≡ Some old) c.deref_mut-node-items.ensures.value at, again)

pub returns-clause-length : goal.returns-clause-length
returns-clause-length g c =
    let was = c.loop-node.invariant in let xs = c.loop-node.node-items in
    let whole = take_at xs (drop (length xs) c.args.nodes.now.items) c.args.nodes.now.len (was.length ∙ c.deref_mut-node-items.ensures.len) in
    ap length whole ∙ was.length ∙ ap length c.deref_mut-node-items.ensures.value

pub loop-node-init : goal.loop-node-init
loop-node-init g c = record {
  length = refl;
  restarted = λ k lt. absurd (omega arith);
  left = λ k le. refl;
}
