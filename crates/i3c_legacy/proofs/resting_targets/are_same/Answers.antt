-- Both have the same targets where the lists are one, or where each one's are among the other's.
use Rattle.std.proofs.Common.{◌≡◌, ◌∙◌, ap, refl, sym}
use Rattle.std.proofs.lemmas.Bool.{false≢true}
use Rattle.i3c_legacy.specs.Rows.{places}
use Rattle.i3c_legacy.specs.declared.legacy_targets.Placed.{Placed}
use Rattle.i3c_legacy.proofs.SameLaws.{among_same, same_places}
use Rattle.i3c_legacy.proofs.WriteLaws.{place_of}
use Rattle.i3c_legacy.proofs.resting_targets.are_same.Goals as goal

one_placed : (p q : Placed) → p.address ≡ q.address → p.target ≡ q.target → p ≡ q
one_placed p q a t = λ k. record { address = a k; target = t k }

pub returns-then-are_equal : goal.returns-then-are_equal
returns-then-are_equal c = (λ _. ap (places place_of (λ p. p.target)) (c.if-are_equal.ensures.0 refl), λ _. refl)

pub returns-then-are_among : goal.returns-then-are_among
returns-then-are_among c = (
  λ back. same_places place_of (λ p. p.target) one_placed c.args.placed.now c.args.others.now c.requires.placed c.requires.others (c.if-are_among.ensures.0 refl) (c.are_among-then-are_among.ensures.0 back),
  λ same. c.are_among-then-are_among.ensures.1 (among_same place_of (λ p. p.target) one_placed c.args.others.now c.args.placed.now c.requires.others c.requires.placed (sym same)),
)

pub returns-else-are_among : goal.returns-else-are_among
returns-else-are_among c = (
  λ t. absurd (false≢true (sym c.if-are_among.false ∙ t)),
  λ same. c.are_among.ensures.1 (among_same place_of (λ p. p.target) one_placed c.args.placed.now c.args.others.now c.requires.placed c.requires.others same),
)
