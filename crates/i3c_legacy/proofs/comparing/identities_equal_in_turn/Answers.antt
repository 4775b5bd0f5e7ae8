-- Two lists of identities are the same where their slices are.
use Rattle.std.proofs.Common.{◌≡◌, Decides, rules}
use Rattle.std.proofs.lemmas.Slice.Eq.{slice_eq-Decides}
use Rattle.i3c_legacy.specs.declared.legacies.DeclaredIdentity.{DeclaredIdentity}
use Rattle.i3c_legacy.specs.contracts.legacies.DeclaredIdentityPartialEq.TheImpl.{eq-value}
use Rattle.i3c_legacy.proofs.comparing.identities_equal_in_turn.Goals as goal

same_identity : (a b : DeclaredIdentity) → Decides (eq-value.it a b) (a ≡ b)
same_identity a b = search rules

pub returns : goal.returns
returns c = slice_eq-Decides same_identity c.args.identities.now c.args.others.now c.eq.result c.eq.ensures
