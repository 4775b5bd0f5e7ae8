-- Both have the same targets where the lists are one, or where each one's are among the other's.
use Rattle.std.proofs.Common.{◌≡◌, ◌∙◌, ap, refl, sym}
use Rattle.std.proofs.lemmas.Bool.{false≢true}
use Rattle.i3c_legacy.specs.declared.legacies.Declared.{Declared}
use Rattle.i3c_legacy.proofs.SameLaws.{among_same, same_places}
use Rattle.i3c_legacy.proofs.LegacyLaws.{address_of, lvrs_of}
use Rattle.i3c_legacy.proofs.comparing.are_same_targets.Goals as goal

one_target : (p q : Declared) → p.address ≡ q.address → p.lvr ≡ q.lvr → p ≡ q
one_target p q a t = λ k. record { address = a k; lvr = t k }

pub returns-then-are_equal_targets : goal.returns-then-are_equal_targets
returns-then-are_equal_targets c = (λ _. ap lvrs_of (c.if-are_equal_targets.ensures.0 refl), λ _. refl)

pub returns-then-targets_among : goal.returns-then-targets_among
returns-then-targets_among c = (
  λ back. same_places address_of (λ p. p.lvr) one_target c.args.targets.now c.args.others.now c.requires.targets c.requires.others (c.if-targets_among.ensures.0 refl) (c.targets_among-then-targets_among.ensures.0 back),
  λ same. c.targets_among-then-targets_among.ensures.1 (among_same address_of (λ p. p.lvr) one_target c.args.others.now c.args.targets.now c.requires.others c.requires.targets (sym same)),
)

pub returns-else-targets_among : goal.returns-else-targets_among
returns-else-targets_among c = (
  λ t. absurd (false≢true (sym c.if-targets_among.false ∙ t)),
  λ same. c.targets_among.ensures.1 (among_same address_of (λ p. p.lvr) one_target c.args.targets.now c.args.others.now c.requires.targets c.requires.others same),
)
