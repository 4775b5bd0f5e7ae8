-- Cuts are the same where the bits of each slot are.
use Rattle.std.proofs.Common.{◌≡◌, ℕ, Decides, Option, nat_eq, rules}
use Rattle.std.specs.Option.{option_eq}
use Rattle.std.proofs.lemmas.Slice.Eq.{slice_eq-Decides}
use Rattle.i3c_scene.proofs.scene.are_same_cuts.Goals as goal

same_cut : (a b : Option ℕ) → Decides (option_eq nat_eq a b) (a ≡ b)
same_cut a b = search rules

pub returns : goal.returns
returns c held = (slice_eq-Decides same_cut c.args.cuts.now c.args.others.now c.eq.result c.eq.ensures).0 held
