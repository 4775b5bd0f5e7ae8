-- A row may be put at an address that may be picked, or that is kept for its identity.
use Rattle.std.proofs.Common.{◌≡◌, ◌∙◌, ℕ, Option, Some, false, ap, inl, inr, refl, set, sym}
use Rattle.i3c_base.specs.State.{kept_entry_of}
use Rattle.i3c_bus.proofs.setdasa_setnewda.enter.Goals as goal

pub put-requires : goal.put-requires
put-requires c = elim c.requires.given [ inl p ↦ inl p | inr k ↦ inr (c.args.identity.now, refl, k) ]

pub returns : goal.returns
returns c =
    c.put.ensures ∙ ap (λ (f : Option ℕ). record c.args.table.now { given = set c.args.table.now.given c.args.address (Some (record (kept_entry_of c.args.table.now.declared c.args.identity.now) { fixed = f })); listed = false }) (sym c.requires.fixed.1)
