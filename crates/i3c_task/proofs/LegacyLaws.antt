-- The addresses that texts name, one text after another.
use Rattle.std.proofs.Common.{◌≡◌, ◌⊎◌, ℕ, true, List}
use Rattle.i3c_base.specs.Sets.{is_in}
use Rattle.i3c_task.specs.Options.{AllName, IsNamed}

-- what a set has of these texts, where some are left
pub record Left (texts rest : List (List ℕ)) (set : ℕ) : Type 0 where
  pub to : AllName rest → AllName texts
  pub from : AllName texts → AllName rest
  pub more : (a : ℕ) → IsNamed rest a → IsNamed texts a
  pub has : (a : ℕ) → IsNamed texts a → (is_in set a ≡ true) ⊎ IsNamed rest a
  pub no_more : (a : ℕ) → is_in set a ≡ true → IsNamed texts a
