-- Blocks that are parted at one.
use Rattle.std.proofs.Common.{◌≡◌, ◌∙◌, ◌<◌, ◌+◌, ◌++◌, ◌∷◌, [], ℕ, Bool, List, ap, append_assoc, arith, drop, length, subst, sym, take}
use Rattle.std.proofs.lemmas.List.{length-append, length-take, take-append-drop}
use Rattle.std.specs.Global.{Vec}
use Rattle.i3c_explore.specs.declared.limits.Limits.{Limits}
use Rattle.i3c_tracks.specs.declared.plan.Plan.{Plan}
use Rattle.i3c_tracks.specs.Planning.{IsPlan}
use Rattle.i3c_program.specs.declared.scenario.NoScenario.{NoScenario}
use Rattle.i3c_program.specs.declared.scenario.Parted.{Parted}
use Rattle.i3c_program.specs.Scenarios.{AreParted, ArePartedAt, HasNoScenario, IsNotBehind, IsOnly}

-- what was cut off behind the one, and that one taken from the rest
pub parts_at : {X : Type 0} (blocks front left rest : List X) (block : X) (at : ℕ) → at < length blocks → left ≡ take (at + 1) blocks → rest ≡ drop (at + 1) blocks → left ≡ front ++ block ∷ [] → (blocks ≡ front ++ block ∷ rest) × (length front ≡ at)
parts_at blocks front left rest block at inside first behind last = (
  sym (take-append-drop (at + 1) blocks) ∙ (λ i. (sym first ∙ last) i ++ sym behind i) ∙ append_assoc front (block ∷ []) rest,
  omega (arith, inside, length-take (at + 1) blocks, ap length (sym first ∙ last), length-append front (block ∷ [])),
)

-- why a file is no scenario, where what is in front of its block doesn't lead on
pub not_behind : (file : List (Vec ℕ)) (limits : Limits) (plan : Plan) (parted : Parted) (why : NoScenario) → IsPlan file plan → AreParted plan parted.front.items parted.block parted.rest.items → IsNotBehind parted.front.items plan.start limits why → HasNoScenario file limits why
not_behind file limits plan parted NoScenario.Memory is are not = tt
not_behind file limits plan parted NoScenario.Breaks is are not = (plan, parted.front.items, parted.block, parted.rest.items, is, are, not)
not_behind file limits plan parted NoScenario.Most is are not = (plan, parted.front.items, parted.block, parted.rest.items, is, are, not)
not_behind file limits plan parted NoScenario.NotOneBlock is are not = absurd not
not_behind file limits plan parted (NoScenario.Refused refusal) is are not = absurd not

-- the blocks of a plan are those that were parted at the one that a line opened
pub are_parted : (plan : Plan) (parted : Parted) (opened : List Bool) (at : ℕ) → opened ≡ plan.opened.items → IsOnly opened at → ArePartedAt plan.blocks.items at parted → AreParted plan parted.front.items parted.block parted.rest.items
are_parted plan parted opened at same only (blocks, place) = record { blocks = blocks; only = subst (λ n. IsOnly plan.opened.items n) (sym place) (subst (λ opened. IsOnly opened at) same only) }
