-- The next path.
use Rattle.std.proofs.Common.{◌≡◌, ◌++◌, ◌∷◌, ◌∙◌, [], List, ap, inl, inr, refl}
use Rattle.i3c_orders.specs.declared.choice.Choice.{Choice}
use Rattle.i3c_orders.specs.Paths.{BeginAlike, IsOver, Retreats}

-- behind choices that stay, another answer is taken
pub retreats : {L S A : Type 0} (before : List (Choice L S A)) (choice : Choice L S A) (over : List (Choice L S A)) (other : Choice L S A) → IsOver over → other.line ≡ choice.line → choice.left.items ≡ other.left.items ++ other.taken ∷ []
    → Retreats (before ++ choice ∷ over) (before ++ other ∷ [])
retreats [] choice over other is line left = inr (is, refl, line, left)
retreats (first ∷ before) choice over other is line left = inl (refl, retreats before choice over other is line left)

-- up to that choice the two paths are one
pub begin_alike : {L S A : Type 0} (old new : List (Choice L S A)) → Retreats old new → BeginAlike old new
begin_alike [] new back = absurd back
begin_alike (choice ∷ path) [] back = absurd back
begin_alike (choice ∷ path) (other ∷ new) (inl (is, back)) =
    let more = begin_alike path new back in
    record {
      same = choice ∷ more.same;
      first = more.first;
      behind = more.behind;
      next = more.next;
      old = ap (λ p. choice ∷ p) more.old;
      new = ap (λ c. c ∷ new) is ∙ ap (λ p. choice ∷ p) more.new;
      line = more.line;
    }
begin_alike (choice ∷ path) (other ∷ new) (inr (over, none, line, left)) =
    record { same = []; first = choice; behind = path; next = other; old = refl; new = ap (λ p. other ∷ p) none; line = line }
