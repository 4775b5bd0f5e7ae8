-- What functions promise that read reasons, and claims one after another.
use Rattle.std.specs.Prelude.{◌≡◌, ℕ, List, [], ◌∷◌, ◌++◌, Option, MatchOption}
use Rattle.i3c_legacy.specs.declared.faults.DeclareFault.{DeclareFault}
use Rattle.i3c_legacy.specs.declared.faults.LegacyFault.{LegacyFault}
use Rattle.i3c_step.specs.declared.replies.Refusal.{Refusal as BusRefusal}
use Rattle.i3c_lines.specs.declared.refusals.Refusal.{Refusal}
use Rattle.i3c_facts.specs.declared.facts.Claim.{Claim}
use Rattle.i3c_facts.specs.Forms.{AreClaims}

-- claims are appended exactly if these parts are claims
abbrev pub Extends : List (List (List ℕ)) → List Claim → List Claim → Option (Unit {0}) → Type 0
Extends parts old new read =
    MatchOption read ((claims : List Claim) → AreClaims parts claims → ⊥) (λ _. (claims : List Claim) × AreClaims parts claims × (new ≡ old ++ claims))

-- the refusals that are printed as one token: of two that are printed as the same, one
abbrev pub plain_reasons : List Refusal
plain_reasons =
    Refusal.BadLine ∷ Refusal.NoBus ∷ Refusal.BusMade ∷ Refusal.NameTaken ∷ Refusal.NoName ∷ Refusal.NoEnd ∷ Refusal.Legacy LegacyFault.LegacyAddress ∷ Refusal.Legacy LegacyFault.LegacyTwice ∷ Refusal.Legacy LegacyFault.TooManyLegacy ∷ Refusal.Declare DeclareFault.IdentityTwice ∷ Refusal.Declare DeclareFault.TooManyDeclared ∷ Refusal.Bus BusRefusal.SessionOpen ∷ Refusal.Bus BusRefusal.NoSession ∷ Refusal.Bus BusRefusal.ActiveStays ∷ Refusal.Bus BusRefusal.SlotTaken ∷ Refusal.Bus BusRefusal.NoDevice ∷ Refusal.Bus BusRefusal.IsActive ∷ Refusal.Bus BusRefusal.NoAddress ∷ Refusal.Bus BusRefusal.HasAddress ∷ Refusal.Bus BusRefusal.NotCapable ∷ Refusal.Bus BusRefusal.ByteMismatch ∷ Refusal.Bus BusRefusal.Masked ∷ Refusal.Bus BusRefusal.Full ∷ Refusal.Bus BusRefusal.ListStale ∷ Refusal.Bus BusRefusal.TooLong ∷ Refusal.NotActive ∷ []
