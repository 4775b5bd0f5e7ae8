use Rattle.std.proofs.Common.{◌≡◌, ◌++◌, ◌∷◌, [], ◌∙◌, ap, arith, rules}
use Rattle.std.specs.Prelude.{None}
use Rattle.std.proofs.lemmas.List.{replicate-append-replicate}
use Rattle.i3c_base.specs.declared.range.TheConstants.{SLOTS}
use Rattle.i3c_shared.specs.Beginning.{no_rings}
use Rattle.i3c_shared.proofs.intake.first_rings.Goals as goal

pub returns : goal.returns
unfolding no_rings
returns c =
    let all : c.loop.counter ≡ SLOTS = omega arith in
    rw (c.put_out.ensures, c.loop.invariant, all) (search rules)

pub loop-preserved : goal.loop-preserved
loop-preserved c = rw c.push_reserved.ensures.items (ap (λ l. l ++ None ∷ []) c.loop.invariant ∙ replicate-append-replicate c.loop.counter 1 None)
