use Rattle.std.proofs.Common.{◌≡◌, Some, ap, get_or, subst, sym}
use Rattle.i3c_base.specs.State.{Board, IsBoard, declared_in}
use Rattle.i3c_legacy.proofs.FixedLaws.{fixed_found}
use Rattle.i3c_legacy.proofs.LegacyLaws.{found, home_of, long, missing}
use Rattle.i3c_legacy.proofs.legacies.Legacies.declared_at.Goals as goal

pub returns-in-Some : goal.returns-in-Some
returns-in-Some c =
    let view = ap (λ (b : Board). b.declared) c.self.view_is in
    let board : IsBoard c.args.self.now = subst IsBoard c.self.view_is c.self.invariant.board in
    let identity = (get_or c.self.inside.identities.items c.in-Some.index c.index-identities-index.result).identity in
    let there : Some identity ≡ declared_in c.args.self.now.declared c.args.address = found home_of (λ d. d.identity) c.self.inside.identities.items c.args.self.now.declared c.in-Some.index c.args.address c.index-identities-index.result c.self.invariant.identities_apart view
    (rw c.as_slice-identities.ensures.value at c.in-Some.ensures.0) (rw c.as_slice-identities.ensures.value at c.in-Some.ensures.1) in
    record {
      same = rw c.as_slice-identities.ensures.value there;
      fixed = rw c.as_slice-identities.ensures.value (board.static c.args.address identity (sym there), fixed_found c.args.self.now identity c.args.address board (sym there));
      all_places = long home_of (λ d. d.identity) c.self.inside.identities.items c.args.self.now.declared view;
    }

pub returns-in-None : goal.returns-in-None
returns-in-None c =
    let view = ap (λ (b : Board). b.declared) c.self.view_is in
    record {
      same = missing home_of (λ d. d.identity) c.self.inside.identities.items c.args.self.now.declared c.args.address c.self.invariant.identities_apart view (rw c.as_slice-identities.ensures.value at c.in-None.ensures);
      fixed = tt;
      all_places = long home_of (λ d. d.identity) c.self.inside.identities.items c.args.self.now.declared view;
    }
