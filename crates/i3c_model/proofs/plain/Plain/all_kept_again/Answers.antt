use Rattle.std.proofs.Common.{option_and_then, refl, arith}
use Rattle.i3c_base.specs.State.{entry_at, kept_again}
use Rattle.i3c_model.proofs.Clearing.{kept_more}
use Rattle.i3c_model.proofs.plain.Plain.all_kept_again.Goals as goal

pub loop-index-preserved : goal.loop-index-preserved
loop-index-preserved c =
    kept_more (λ a. option_and_then (kept_again c.args.self.now.declared c.args.self.now.given c.args.own a) (entry_at c.args.self.now a)) c.loop-index.index c.loop-index.kept _ c.kept_again.result c.loop-index.invariant
    (omega (arith, c.loop-index-test.true)) c.kept_again.ensures refl
