-- The view tells what the invariant holds.
use Rattle.std.proofs.Common.{subst}
use Rattle.i3c_shared.specs.Taking.{IsKept}
use Rattle.i3c_shared.specs.Values.{KeptValue}
use Rattle.i3c_shared.proofs.kept.Kept.keeps.Goals as goal

pub returns : goal.returns
returns g c = subst (λ (k : KeptValue). IsKept k.log k.books) c.self.view_is (record {
  begun = c.keeps.ensures.begun;
  leads = c.keeps.ensures.leads;
  fits = c.keeps.ensures.fits;
  booked = c.self.invariant;
})
