-- Nothing is declared where no identity is stored.
use Rattle.std.proofs.Common.{◌≡◌, ◌∙◌, Bool, ap, false, length, not, refl, sym, true}
use Rattle.std.proofs.lemmas.Bool.{eq-eqb, eqb-true}
use Rattle.i3c_base.specs.State.{Board}
use Rattle.i3c_legacy.proofs.DeclaredLaws.{free_none, none_free}
use Rattle.i3c_legacy.proofs.legacies.Legacies.has_declared.Goals as goal

negated : (b : Bool) → not b ≡ false → b ≡ true
negated true e = refl
negated false e = sym e

pub returns : goal.returns
returns c =
    let inside = c.self.inside in (
      λ none a. rw (ap (λ (b : Board). b.declared) (sym c.self.view_is)) (none_free inside.targets.items inside.identities.items inside.addresses.0 inside.addresses.0 c.self.invariant
          (eqb-true (length inside.identities.items) 0 (sym c.is_empty.ensures ∙ negated c.is_empty.result none)) a),
      λ free. ap not (c.is_empty.ensures ∙ eq-eqb (length inside.identities.items) 0 (free_none inside.targets.items inside.identities.items inside.addresses.0 inside.addresses.0 c.self.invariant
          (λ a. rw (ap (λ (b : Board). b.declared) c.self.view_is) (free a)))),
    )
