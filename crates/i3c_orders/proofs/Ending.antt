-- The end of a path.
use Rattle.std.proofs.Common.{◌≡◌, ◌∷◌, ◌-◌, ◌+◌, ◌≤◌, [], ℕ, zero, suc, List, MatchOption, Err, Some, None, length, take, sym, ap, arith, subst}
use Rattle.std.proofs.lemmas.Option.{same_Some, slice_get_past}
use Rattle.std.specs.List.{slice_get}
use Rattle.i3c_orders.specs.declared.choice.Choice.{Choice}
use Rattle.i3c_orders.specs.declared.choice.Step.{Step}
use Rattle.i3c_orders.specs.declared.orders.SendFault.{SendFault}
use Rattle.i3c_orders.specs.Paths.{Answers, IsAnswered, IsSent, IsUnsent, Tree, last_step, state_behind, tree}

module _ {L S A : Type 0} where
  none_there : (choice : Choice L S A) → None ≡ Some choice → ⊥
  none_there choice e = cc

  -- the newest step of a path's beginning is that of its last choice
  pub newest_is : (path : List (Choice L S A)) (n : ℕ) (choice : Choice L S A) → slice_get path n ≡ Some choice → last_step (take (suc n) path) ≡ Some choice.taken
  newest_is [] n choice is = absurd (none_there choice is)
  newest_is (first ∷ path) zero choice is = ap (λ (c : Choice L S A). Some c.taken) (same_Some first choice is)
  newest_is (first ∷ []) (suc n) choice is = absurd (none_there choice is)
  newest_is (first ∷ next ∷ path) (suc n) choice is = newest_is (next ∷ path) n choice is

  end_at : (start : S) (path : List (Choice L S A)) (n : ℕ) (choice : Choice L S A) → n + 1 ≡ length path → slice_get path n ≡ Some choice → state_behind start path ≡ choice.taken.state
  end_at start [] n choice last is = absurd (none_there choice is)
  end_at start (first ∷ []) zero choice last is = ap (λ (c : Choice L S A). c.taken.state) (same_Some first choice is)
  end_at start (first ∷ []) (suc n) choice last is = absurd (none_there choice is)
  end_at start (first ∷ next ∷ path) zero choice last is = absurd (omega (arith, last))
  end_at start (first ∷ next ∷ path) (suc n) choice last is = end_at first.taken.state (next ∷ path) n choice (omega (arith, last)) is

  -- the state behind a path is that of its last choice
  pub end_is : (start : S) (path : List (Choice L S A)) (choice : Choice L S A) → slice_get path (length path - 1) ≡ Some choice → state_behind start path ≡ choice.taken.state
  end_is start [] choice is = absurd (none_there choice is)
  end_is start (first ∷ path) choice is = end_at start (first ∷ path) (length (first ∷ path) - 1) choice (omega arith) is

  -- a line along the path is the one that is there
  pub replayed : (gives : S → L → List (Step S A) → Type 0) (start : S) (path : List (Choice L S A)) (at : ℕ) (line : L) (choice : Choice L S A) → slice_get path at ≡ Some choice → choice.line ≡ line
      → IsAnswered gives (tree start path at) line (tree start path (at + 1))
  replayed gives start path at line choice there same =
      subst (λ o. MatchOption o (IsSent gives (tree start path at) line (tree start path (at + 1))) (λ one. (one.line ≡ line) × (tree start path (at + 1) ≡ tree start path (suc at)))) (sym there)
      (same, ap (tree start path) (omega arith))

  -- behind the path there is none
  pub answered : (gives : S → L → List (Step S A) → Type 0) (start : S) (path : List (Choice L S A)) (at : ℕ) (line : L) (new : Tree L S A) → length path ≤ at → IsSent gives (tree start path at) line new
      → IsAnswered gives (tree start path at) line new
  answered gives start path at line new past sent =
      subst (λ o. MatchOption o (IsSent gives (tree start path at) line new) (λ one. (one.line ≡ line) × (new ≡ tree start path (suc at)))) (sym (slice_get_past path at past)) sent

  -- a line that isn't answered changes nothing
  pub unanswered : {F : Type 0} (gives : S → L → List (Step S A) → Type 0) (fails : S → L → F → Type 0) (start : S) (path new : List (Choice L S A)) (at : ℕ) (line : L) (fault : SendFault F) → at ≤ length path → length path ≤ at → new ≡ path
      → IsUnsent fails (state_behind start path) line fault → Answers gives fails (tree start path at) line (Err fault) (tree start new at)
  unanswered gives fails start path new at line SendFault.Differs le ge same unsent = absurd unsent
  unanswered gives fails start path new at line SendFault.Memory le ge same unsent = (omega (arith, le, ge), ap (λ p. tree start p at) same)
  unanswered gives fails start path new at line (SendFault.Failed fault) le ge same unsent = (omega (arith, le, ge), unsent, ap (λ p. tree start p at) same)
