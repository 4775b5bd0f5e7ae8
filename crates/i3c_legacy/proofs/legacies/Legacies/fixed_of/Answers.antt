-- The address of the identity's row, where it has one.
use Rattle.std.proofs.Common.{◌∙◌, ap, sym}
use Rattle.i3c_base.specs.State.{Board, fixed_of}
use Rattle.i3c_legacy.proofs.DeclaredLaws.{no_row_fixed, row_fixed, row_static}
use Rattle.i3c_legacy.proofs.legacies.Legacies.fixed_of.Goals as goal

pub returns-in-Some : goal.returns-in-Some
returns-in-Some c =
    let inside = c.self.inside in
    let within = rw c.as_slice-identities.ensures.value at c.in-Some.ensures.0 in
    record {
      same = rw c.as_slice-identities.ensures.value (sym (ap (λ (b : Board). fixed_of b.declared c.args.identity.now) (sym c.self.view_is)
          ∙ row_fixed inside.targets.items inside.identities.items inside.addresses.0 inside.addresses.0 c.self.invariant c.in-Some.index c.args.identity.now c.index-identities-index.result within (rw c.as_slice-identities.ensures.value at c.in-Some.ensures.1)));
      static_alone = rw c.as_slice-identities.ensures.value (row_static inside.targets.items inside.identities.items inside.addresses.0 inside.addresses.0 c.self.invariant c.in-Some.index c.index-identities-index.result within);
    }

pub returns-in-None-clause-same : goal.returns-in-None-clause-same
returns-in-None-clause-same c =
    let inside = c.self.inside in
    sym (ap (λ (b : Board). fixed_of b.declared c.args.identity.now) (sym c.self.view_is)
    ∙ no_row_fixed inside.targets.items inside.identities.items inside.addresses.0 inside.addresses.0 c.self.invariant c.args.identity.now (rw c.as_slice-identities.ensures.value at c.in-None.ensures))
