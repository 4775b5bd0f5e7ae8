-- What a program that waited sees, one node after another.
use Rattle.std.proofs.Common.{◌≡◌, ◌≢◌, ◌⊎◌, ◌∙◌, ◌<◌, ◌≤◌, ◌+◌, ℕ, List, [], ◌∷◌, ◌++◌, Contains, arith, get_or, inl, inr, length, refl, subst, sym}
use Rattle.std.proofs.lemmas.Bool.Decides.{eqb_tells}
use Rattle.std.proofs.lemmas.List.{get_or_read_under}
use Rattle.std.proofs.lemmas.List.Elements.{Contains-push}
use Rattle.i3c_explore.specs.declared.node.Node.{Node}
use Rattle.i3c_orders.specs.declared.choice.Step.{Step}
use Rattle.i3c_every.specs.Seen.{AreSeen, HasTurnsOf, IsSeenAdded, IsSeenAt}
use Rattle.i3c_every.specs.declared.met.Met.{Met}
use Rattle.i3c_every.specs.declared.told.Told.{Told}
use Rattle.i3c_every.proofs.Adding.{adds_from, adds_kept, none_in}

module _ {S A : Type 0} (sees : S → A → Type 0) where
  pub not_added : (node : Node S) (old : List (Step (Met S) (Told A))) → node.order.items ≡ [] → IsSeenAdded sees node old old
  not_added node old none = record { from = λ step at. inl at; kept = λ step at. at; all = λ ran. absurd (ran none) }

  pub added : (node : Node S) (one : Step (Met S) (Told A)) (old new : List (Step (Met S) (Told A))) → IsSeenAt sees node one → HasTurnsOf node one → new ≡ old ++ one ∷ [] → IsSeenAdded sees node old new
  added node one old new own turns more = record {
    from = λ step at. go step (adds_from one step old new (inl more) at);
    kept = λ step at. adds_kept one step old new (inl more) at;
    all = λ ran. (one, subst (λ (l : List (Step (Met S) (Told A))). Contains l one) (sym more) (Contains-push old one), own);
  }
    where
      go : (step : Step (Met S) (Told A)) → Contains old step ⊎ (step ≡ one) → Contains old step ⊎ (IsSeenAt sees node step × HasTurnsOf node step)
      go step (inl before) = inl before
      go step (inr is) = inr (subst (λ (s : Step (Met S) (Told A)). IsSeenAt sees node s) (sym is) own, subst (λ (s : Step (Met S) (Told A)). HasTurnsOf node s) (sym is) turns)

  -- what is seen at the first nodes was added
  pub record IsUpTo (nodes : List (Node S)) (count : ℕ) (steps : List (Step (Met S) (Told A))) : Type 0 where
    pub from : (step : Step (Met S) (Told A)) → Contains steps step → (node : Node S) × Contains nodes node × IsSeenAt sees node step × HasTurnsOf node step
    pub all : (k : ℕ) (node : Node S) → k < count → get_or nodes k node ≡ node → node.order.items ≢ [] → (step : Step (Met S) (Told A)) × Contains steps step × IsSeenAt sees node step

  pub up_first : (nodes : List (Node S)) (steps : List (Step (Met S) (Told A))) → steps ≡ [] → IsUpTo nodes 0 steps
  up_first nodes steps none = record { from = λ step at. absurd (none_in steps step none at); all = λ k node few at ran. absurd (omega (arith, few)) }

  pub up_next : (nodes : List (Node S)) (count : ℕ) (own : Node S) (old new : List (Step (Met S) (Told A))) → count < length nodes → own ≡ get_or nodes count own → IsUpTo nodes count old → IsSeenAdded sees own old new → IsUpTo nodes (count + 1) new
  up_next nodes count own old new within is was more = record {
    from = λ step at. go step (more.from step at);
    all = λ k node few at ran. elim (eqb_tells k count) [
      | inl (_, same) ↦ (
          let one : own ≡ node = one_node k node same at in
          let (step, there, seen) = more.all (subst (λ (n : Node S). n.order.items ≢ []) (sym one) ran) in
          (step, there, subst (λ (n : Node S). IsSeenAt sees n step) one seen)
          )
      | inr (_, other) ↦ (let (step, there, seen) = was.all k node (omega (arith, few, other)) at ran in (step, more.kept step there, seen))
    ];
  }
    where
      go : (step : Step (Met S) (Told A)) → Contains old step ⊎ (IsSeenAt sees own step × HasTurnsOf own step) → (node : Node S) × Contains nodes node × IsSeenAt sees node step × HasTurnsOf node step
      go step (inl before) = was.from step before
      go step (inr (seen, turns)) = (own, (count, within, sym is), seen, turns)

      one_node : (k : ℕ) (node : Node S) → k ≡ count → get_or nodes k node ≡ node → own ≡ node
      one_node k node same at = get_or_read_under nodes count (length nodes) own node is within refl ∙ subst (λ (j : ℕ). get_or nodes j node ≡ node) same at

  pub up_all : (nodes : List (Node S)) (count : ℕ) (steps : List (Step (Met S) (Told A))) → length nodes ≤ count → IsUpTo nodes count steps → AreSeen sees nodes steps
  up_all nodes count steps past was = record { from = was.from; all = λ node (k, within, at) ran. was.all k node (omega (arith, within, past)) at ran }
