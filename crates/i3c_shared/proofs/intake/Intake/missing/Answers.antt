use Rattle.std.proofs.Common.{◌∙◌, sym, subst}
use Rattle.std.proofs.lemmas.Bool.{false≢true}
use Rattle.i3c_shared.specs.Ports.{IsMissing}
use Rattle.i3c_shared.proofs.Missing.{missing_next}
use Rattle.i3c_shared.proofs.intake.Intake.missing.Goals as goal

pub loop-index-preserved : goal.loop-index-preserved
loop-index-preserved c =
    missing_next _ _ c.loop-index.index c.loop-index.invariant (λ m. false≢true (sym c.if-is_missing.false ∙ c.is_missing.ensures.1 (subst (λ k. IsMissing c.args.self.now.log.rings c.args.ports.now.items k) (sym c.from_index-slot.ensures) m)))
