use Rattle.std.proofs.Common.{◌≡◌, ◌≢◌, ◌∙◌, ◌<◌, ap, false, is_some, length, refl, sym, arith}
use Rattle.std.proofs.lemmas.Bool.{eqb-true, eqb-false}
use Rattle.i3c_base.specs.State.{Board, fixed_of}
use Rattle.i3c_legacy.specs.declared.legacies.TheConstants.{DECLARED}
use Rattle.i3c_legacy.specs.Boards.{board_of}
use Rattle.i3c_legacy.specs.Declaring.{first_declare_fault, is_taken}
use Rattle.i3c_legacy.proofs.BoardLaws.{with_identity}
use Rattle.i3c_legacy.proofs.DeclaredLaws.{board_of_identity, declared_identity}
use Rattle.i3c_legacy.proofs.LegacyLaws.{counted, declare_full, home_of, identities_of, no_declare_fault}
use Rattle.i3c_legacy.proofs.legacies.Legacies.declare.Goals as goal

pub returns-then-is_full-clause-fault : goal.returns-then-is_full-clause-fault
returns-then-is_full-clause-fault c =
    let inside = c.self.inside in
    let free : is_taken (board_of inside.targets.items inside.identities.items) c.args.address ≡ false = ap (λ b. is_taken b c.args.address) c.self.view_is ∙ sym c.if-is_taken.ensures in
    let identities = inside.identities.items in
    let new : is_some (fixed_of (identities_of identities) c.args.identity) ≡ false =
    ap (λ (b : Board). is_some (fixed_of b.declared c.args.identity)) c.self.view_is ∙ (ap is_some (sym c.fixed_of.ensures.same) ∙ sym c.if-is_some.ensures) in
    ap (λ b. first_declare_fault b c.args.address c.args.identity) (sym c.self.view_is)
    ∙ declare_full (board_of inside.targets.items identities) c.args.address (length identities) c.args.identity (sym c.if-not-is_static.ensures)
    free new (counted home_of (λ d. d.identity) identities (identities_of identities) c.self.invariant.identities_apart refl)
    (eqb-true _ _ (sym c.if-is_full.ensures.value))

pub invariant_of-self : goal.invariant_of-self
invariant_of-self c =
    let inside = c.self.inside in
    let free : is_taken (board_of inside.targets.items inside.identities.items) c.args.address ≡ false = ap (λ b. is_taken b c.args.address) c.self.view_is ∙ sym c.if-is_taken.ensures in
    let new : is_some (fixed_of (identities_of inside.identities.items) c.args.identity) ≡ false =
    ap (λ (b : Board). is_some (fixed_of b.declared c.args.identity)) c.self.view_is ∙ (ap is_some (sym c.fixed_of.ensures.same) ∙ sym c.if-is_some.ensures) in
    let more : length inside.identities.items ≢ DECLARED = eqb-false _ _ (sym c.if-is_full.ensures.value) in
    let fits = c.if-is_full.ensures.fits in
    let room : length inside.identities.items < DECLARED = omega (arith, more, fits) in
    rw c.push.ensures.items (declared_identity inside.targets.items inside.identities.items inside.addresses.0 c.with-self-inside.result.0 c.self.invariant (record { address = c.args.address; identity = c.args.identity })
    (sym c.if-not-is_static.ensures) free new room c.with-self-inside.ensures.in_it c.with-self-inside.ensures.others)

pub returns-clause-fault : goal.returns-clause-fault
returns-clause-fault c =
    let inside = c.self.inside in
    let free : is_taken (board_of inside.targets.items inside.identities.items) c.args.address ≡ false = ap (λ b. is_taken b c.args.address) c.self.view_is ∙ sym c.if-is_taken.ensures in
    let identities = inside.identities.items in
    let new : is_some (fixed_of (identities_of identities) c.args.identity) ≡ false =
    ap (λ (b : Board). is_some (fixed_of b.declared c.args.identity)) c.self.view_is ∙ (ap is_some (sym c.fixed_of.ensures.same) ∙ sym c.if-is_some.ensures) in
    let more : length identities ≢ DECLARED = eqb-false _ _ (sym c.if-is_full.ensures.value) in
    let fits = c.if-is_full.ensures.fits in
    let room : length identities < DECLARED = omega (arith, more, fits) in
    ap (λ b. first_declare_fault b c.args.address c.args.identity) (sym c.self.view_is)
    ∙ no_declare_fault (board_of inside.targets.items identities) c.args.address (length identities) c.args.identity (sym c.if-not-is_static.ensures)
    free new (counted home_of (λ d. d.identity) identities (identities_of identities) c.self.invariant.identities_apart refl) room

pub returns-clause-declared : goal.returns-clause-declared
returns-clause-declared c =
    let inside = c.self.inside in
    let free : is_taken (board_of inside.targets.items inside.identities.items) c.args.address ≡ false = ap (λ b. is_taken b c.args.address) c.self.view_is ∙ sym c.if-is_taken.ensures in
    rw c.push.ensures.items (board_of_identity inside.targets.items inside.identities.items inside.addresses.0 inside.addresses.0 c.self.invariant (record { address = c.args.address; identity = c.args.identity })
    (sym c.if-not-is_static.ensures) free ∙ ap (λ b. with_identity b c.args.address c.args.identity) c.self.view_is)
