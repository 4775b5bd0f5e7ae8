-- The address that was kept for the identity is released, where it is another one; then the new one is kept.
use Rattle.std.proofs.Common.{◌≡◌, ◌∙◌, ◌==◌, ℕ, List, Option, Some, None, true, false, ap, inl, inr, set, subst, sym, option_map}
use Rattle.std.proofs.lemmas.Bool.{both_ways, eqb-true, false≢true}
use Rattle.std.proofs.lemmas.List.{set-set}
use Rattle.i3c_base.specs.Covered.{Table}
use Rattle.i3c_base.specs.Frames.{released_at}
use Rattle.i3c_base.specs.State.{Entry, IsFree, IsKeptIn, IsPickableIn, entry_in, is_the, kept_entry_of, known_in, released}
use Rattle.i3c_base.proofs.Lookups.{set_at}
use Rattle.i3c_bus.specs.Statics.{IsFixedAt}
use Rattle.i3c_bus.proofs.setdasa_setnewda.settle.Goals as goal

-- an address without an entry has none where another one is released
still_free : (given : List (Option Entry)) (known a : ℕ) → IsFree given a → IsFree (released_at (Some known) given) a
still_free given known a free = elim (set_at given known a (option_map released (entry_in given known)) None) [
  | inl h ↦ h.1 ∙ ap (option_map released) (ap (entry_in given) (sym h.0) ∙ free)
  | inr h ↦ h ∙ free
]

pub enter-requires-clause-given : goal.enter-requires-clause-given
enter-requires-clause-given c = elim c.requires.given [
  | inl p ↦ inl p
  | inr k ↦ absurd (false≢true (subst (λ o. is_the c.args.new o ≡ true) (sym c.in_default.ensures.known) k))
]

pub enter-requires-then-eq-clause-given : goal.enter-requires-then-eq-clause-given
enter-requires-then-eq-clause-given c =
    inr (subst (IsKeptIn c.args.table.now.given c.args.identity.now) (eqb-true c.in-Some.known c.args.new (sym c.eq.ensures ∙ c.if-eq.true)) c.in-Some.ensures.kept)

pub enter-requires-2-clause-given : goal.enter-requires-2-clause-given
enter-requires-2-clause-given c = elim c.requires.given [
  | inl p ↦ inl (subst (λ (t : Table). IsPickableIn t.given t.legacy t.declared c.args.new) (sym c.release.ensures)
      (p.0, still_free c.args.table.now.given c.in-Some.known c.args.new p.1, p.2, p.3))
  | inr k ↦ absurd (both_ways (c.in-Some.known == c.args.new) (sym c.eq.ensures ∙ c.if-eq.false) (subst (λ o. is_the c.args.new o ≡ true) (sym c.in-Some.ensures.known) k))
]

pub enter-requires-2-clause-fixed : goal.enter-requires-2-clause-fixed
enter-requires-2-clause-fixed c = subst (λ (t : Table). IsFixedAt t.declared c.args.identity.now c.args.fixed) (sym c.release.ensures) c.requires.fixed

pub returns-then-eq : goal.returns-then-eq
returns-then-eq c =
    let same : c.in-Some.known ≡ c.args.new = eqb-true c.in-Some.known c.args.new (sym c.eq.ensures ∙ c.if-eq.true) in
    let known : known_in c.args.table.now.given c.args.identity.now ≡ Some c.args.new = sym c.in-Some.ensures.known ∙ ap Some same in
    let entry : Option Entry = Some (kept_entry_of c.args.table.now.declared c.args.identity.now) in
    let given : set (released_at (known_in c.args.table.now.given c.args.identity.now) c.args.table.now.given) c.args.new entry ≡ set c.args.table.now.given c.args.new entry =
    ap (λ o. set (released_at o c.args.table.now.given) c.args.new entry) known ∙ set-set c.args.table.now.given c.args.new (option_map released (entry_in c.args.table.now.given c.args.new)) entry in
    c.enter-then-eq.ensures ∙ ap (λ g. record c.args.table.now { given = g; listed = false }) (sym given)

pub returns : goal.returns
returns c =
    c.enter-2.ensures
    ∙ (ap (λ (t : Table). record t { given = set t.given c.args.new (Some (kept_entry_of t.declared c.args.identity.now)); listed = false }) c.release.ensures
    ∙ ap (λ o. record c.args.table.now { given = set (released_at o c.args.table.now.given) c.args.new (Some (kept_entry_of c.args.table.now.declared c.args.identity.now)); listed = false }) c.in-Some.ensures.known)
