-- A line that isn't broken leads on.
use Rattle.std.proofs.Common.{◌≡◌, ◌∙◌, ◌⊎◌, inl, inr, subst, sym}
use Rattle.i3c_explore.specs.declared.ran.Ran.{Ran}
use Rattle.i3c_scene.specs.Scenes.{Seen}
use Rattle.i3c_scene.specs.Trying.{LineSteps}
use Rattle.i3c_scene.proofs.scene.Scene.after.Goals as goal

not_broken : (ran : Ran) → (ran ≡ Ran.Held) ⊎ (ran ≡ Ran.Noted) → ran ≡ Ran.Broken → ⊥
not_broken ran (inl held) broken = absurd cc
not_broken ran (inr noted) broken = absurd cc

pub returns : goal.returns
returns c = record {
  leads = subst (λ (s : Seen). LineSteps c.args.self.now c.args.line.now c.args.way s) (sym (c.in_ok-scene-in-Held.ensures ∙ c.deref-live.ensures)) (c.in_ok-run.ensures.leads (not_broken c.in_ok-run.field-0 c.in-Held.is));
  broken = λ none. absurd cc;
}
