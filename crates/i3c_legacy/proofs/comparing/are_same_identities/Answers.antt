-- Both have the same identities where the lists are one, or where each one's are among the other's.
use Rattle.std.proofs.Common.{◌≡◌, ◌∙◌, ap, refl, sym}
use Rattle.std.proofs.lemmas.Bool.{false≢true}
use Rattle.i3c_legacy.specs.declared.legacies.DeclaredIdentity.{DeclaredIdentity}
use Rattle.i3c_legacy.proofs.SameLaws.{among_same, same_places}
use Rattle.i3c_legacy.proofs.LegacyLaws.{home_of, identities_of}
use Rattle.i3c_legacy.proofs.comparing.are_same_identities.Goals as goal

one_identity : (p q : DeclaredIdentity) → p.address ≡ q.address → p.identity ≡ q.identity → p ≡ q
one_identity p q a t = λ k. record { address = a k; identity = t k }

pub returns-then-are_equal_identities : goal.returns-then-are_equal_identities
returns-then-are_equal_identities c = (λ _. ap identities_of (c.if-are_equal_identities.ensures.0 refl), λ _. refl)

pub returns-then-identities_among : goal.returns-then-identities_among
returns-then-identities_among c = (
  λ back. same_places home_of (λ p. p.identity) one_identity c.args.identities.now c.args.others.now c.requires.identities c.requires.others (c.if-identities_among.ensures.0 refl) (c.identities_among-then-identities_among.ensures.0 back),
  λ same. c.identities_among-then-identities_among.ensures.1 (among_same home_of (λ p. p.identity) one_identity c.args.others.now c.args.identities.now c.requires.others c.requires.identities (sym same)),
)

pub returns-else-identities_among : goal.returns-else-identities_among
returns-else-identities_among c = (
  λ t. absurd (false≢true (sym c.if-identities_among.false ∙ t)),
  λ same. c.identities_among.ensures.1 (among_same home_of (λ p. p.identity) one_identity c.args.identities.now c.args.others.now c.requires.identities c.requires.others same),
)
