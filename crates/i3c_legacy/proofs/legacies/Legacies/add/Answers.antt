use Rattle.std.proofs.Common.{false, ◌≡◌, ◌≢◌, ◌∙◌, ◌<◌, ap, length, refl, sym, arith}
use Rattle.std.proofs.lemmas.Bool.{eqb-true, eqb-false}
use Rattle.i3c_legacy.specs.declared.legacies.TheConstants.{LEGACIES}
use Rattle.i3c_legacy.specs.Boards.{board_of}
use Rattle.i3c_legacy.specs.Declaring.{first_fault, is_taken}
use Rattle.i3c_legacy.proofs.BoardLaws.{with_target}
use Rattle.i3c_legacy.proofs.DeclaredLaws.{board_of_target, declared_target}
use Rattle.i3c_legacy.proofs.LegacyLaws.{address_of, counted, lvrs_of, no_fault, no_room}
use Rattle.i3c_legacy.proofs.legacies.Legacies.add.Goals as goal

pub returns-then-is_full-clause-fault : goal.returns-then-is_full-clause-fault
returns-then-is_full-clause-fault c =
    let inside = c.self.inside in
    let free : is_taken (board_of inside.targets.items inside.identities.items) c.args.address ≡ false = ap (λ b. is_taken b c.args.address) c.self.view_is ∙ sym c.if-is_taken.ensures in
    let targets = inside.targets.items in
    ap (λ b. first_fault b c.args.address) (sym c.self.view_is)
    ∙ no_room (board_of targets inside.identities.items) c.args.address (length targets) (sym c.if-not-is_static.ensures)
    free (counted address_of (λ d. d.lvr) targets (lvrs_of targets) c.self.invariant.targets_apart refl)
    (eqb-true _ _ (sym c.if-is_full.ensures.value))

pub invariant_of-self : goal.invariant_of-self
invariant_of-self c =
    let inside = c.self.inside in
    let free : is_taken (board_of inside.targets.items inside.identities.items) c.args.address ≡ false = ap (λ b. is_taken b c.args.address) c.self.view_is ∙ sym c.if-is_taken.ensures in
    let more : length inside.targets.items ≢ LEGACIES = eqb-false _ _ (sym c.if-is_full.ensures.value) in
    let fits = c.if-is_full.ensures.fits in
    let room : length inside.targets.items < LEGACIES = omega (arith, more, fits) in
    rw c.push.ensures.items (declared_target inside.targets.items inside.identities.items inside.addresses.0 c.with-self-inside.result.0 c.self.invariant (record { address = c.args.address; lvr = c.args.lvr })
    (sym c.if-not-is_static.ensures) free room c.with-self-inside.ensures.in_it c.with-self-inside.ensures.others)

pub returns-clause-fault : goal.returns-clause-fault
returns-clause-fault c =
    let inside = c.self.inside in
    let free : is_taken (board_of inside.targets.items inside.identities.items) c.args.address ≡ false = ap (λ b. is_taken b c.args.address) c.self.view_is ∙ sym c.if-is_taken.ensures in
    let targets = inside.targets.items in
    let more : length targets ≢ LEGACIES = eqb-false _ _ (sym c.if-is_full.ensures.value) in
    let fits = c.if-is_full.ensures.fits in
    let room : length targets < LEGACIES = omega (arith, more, fits) in
    ap (λ b. first_fault b c.args.address) (sym c.self.view_is)
    ∙ no_fault (board_of targets inside.identities.items) c.args.address (length targets) (sym c.if-not-is_static.ensures)
    free (counted address_of (λ d. d.lvr) targets (lvrs_of targets) c.self.invariant.targets_apart refl) room

pub returns-clause-added : goal.returns-clause-added
returns-clause-added c =
    let inside = c.self.inside in
    let free : is_taken (board_of inside.targets.items inside.identities.items) c.args.address ≡ false = ap (λ b. is_taken b c.args.address) c.self.view_is ∙ sym c.if-is_taken.ensures in
    rw c.push.ensures.items (board_of_target inside.targets.items inside.identities.items inside.addresses.0 inside.addresses.0 c.self.invariant (record { address = c.args.address; lvr = c.args.lvr })
    (sym c.if-not-is_static.ensures) free ∙ ap (λ b. with_target b c.args.address c.args.lvr) c.self.view_is)
