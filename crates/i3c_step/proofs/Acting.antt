-- Steps that no test refuses.
use Rattle.std.proofs.Common.{◌≡◌, Option, Some, None, MatchOption, ◌⊎◌, inr, sym}
use Rattle.std.proofs.lemmas.Option.{none-some}
use Rattle.i3c_base.specs.State.{State}
use Rattle.i3c_step.specs.declared.events.Event.{Event}
use Rattle.i3c_step.specs.declared.replies.Refusal.{Refusal}
use Rattle.i3c_step.specs.declared.replies.Reply.{Reply}
use Rattle.i3c_step.specs.Step.{Acts, IsShort, Step, checks, first_refusal}

-- what isn't refused acts
pub acting : (old : State) (event : Event) (reply : Reply) (new : State) → first_refusal (checks old event) ≡ None → Acts old event reply new → Step old event reply new
acting old event reply new none acts = go (first_refusal (checks old event)) none
  where
    go : (o : Option Refusal) → o ≡ None → MatchOption o (IsShort old event reply new ⊎ Acts old event reply new) (λ why. (reply ≡ Reply.Refused why) × (new ≡ old))
    go None e = inr acts
    go (Some why) e = absurd (none-some why (sym e))
