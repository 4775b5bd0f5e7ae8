-- The layers that are made by the same lines.
use Rattle.std.proofs.Common.{◌≡◌, ◌∙◌, ◌≤◌, ℕ, List, Err, IfOk, Ok, Result, ap, arith, length, subst, sym}
use Rattle.std.specs.Global.{Vec}
use Rattle.i3c_explore.specs.declared.layer.Layer.{Layer}
use Rattle.i3c_explore.specs.declared.limits.Limits.{Limits}
use Rattle.i3c_explore.specs.declared.node.Node.{Node}
use Rattle.i3c_explore.specs.declared.stop.Stop.{Stop}
use Rattle.i3c_explore.specs.Explorations.{IsMadeBy, MakesBy, MakesNext}
use Rattle.i3c_explore.specs.Nexts.{IsNextOf}
use Rattle.i3c_explore.specs.Parts.{Part, opening}
use Rattle.i3c_explore.specs.Runs.{IsWithin, runs_from}
use Rattle.i3c_explore.specs.Stops.{StopsBehind}
use Rattle.i3c_explore.proofs.Nexts.{next_alike}
use Rattle.i3c_explore.proofs.Running.{runs_alike}

pub makes_alike : {S L : Type 0} (steps : S → L → ℕ → S → Type 0) (last : S → L → ℕ) (breaks : S → L → ℕ → Type 0) (tracks : List (Vec L)) (part : Part) (one other : ℕ → ℕ → List L) (layer : List (Node S)) (limits : Limits) (result : Result (Layer S) Stop)
    → ((k t : ℕ) → one k t ≡ other k t) → MakesBy steps last breaks tracks part one layer limits result → MakesBy steps last breaks tracks part other layer limits result
makes_alike steps last breaks tracks part one other layer limits (Ok next) same made = record {
  follows = next_alike steps tracks (opening part tracks) one other layer 0 (length layer) next.nodes.items same made.follows;
  within = subst (λ (k : ℕ). IsWithin limits next k) (runs_alike last one other (length tracks) layer (length layer) same) made.within;
  few = subst (λ (k : ℕ). length next.nodes.items ≤ k) (runs_alike last one other (length tracks) layer (length layer) same) made.few;
}
makes_alike steps last breaks tracks part one other layer limits (Err stop) same stops =
    subst (λ (k : ℕ). StopsBehind breaks tracks part layer limits k stop) (runs_alike last one other (length tracks) layer (length layer) same) stops

-- of the same layer, by the same part
pub makes_as : {S L : Type 0} (steps : S → L → ℕ → S → Type 0) (last : S → L → ℕ) (breaks : S → L → ℕ → Type 0) (tracks : List (Vec L)) (chosen part : Part) (slice layer : List (Node S)) (limits left : Limits) (result : Result (Layer S) Stop)
    → chosen ≡ part → slice ≡ layer → limits ≡ left → MakesNext steps last breaks tracks chosen slice limits result → MakesNext steps last breaks tracks part layer left result
makes_as {S} steps last breaks tracks chosen part slice layer limits left result is same alike makes =
    subst (λ (l : Limits). MakesNext steps last breaks tracks part layer l result) alike
    (subst (λ (l : List (Node S)). MakesNext steps last breaks tracks part l limits result) same (subst (λ (p : Part). MakesNext steps last breaks tracks p slice limits result) is makes))

-- each part of what is known of a layer, if one was made
pub made_follow : {S L : Type 0} (steps : S → L → ℕ → S → Type 0) (last : S → L → ℕ) (tracks : List (Vec L)) (part : Part) (ran : ℕ → ℕ → List L) (layer : List (Node S)) (limits : Limits) (result : Result (Layer S) Stop)
    → IfOk result (IsMadeBy steps last tracks part ran layer limits) → IfOk result (λ (next : Layer S). IsNextOf steps tracks (opening part tracks) ran layer 0 (length layer) next.nodes.items)
made_follow steps last tracks part ran layer limits (Ok next) made = made.follows
made_follow steps last tracks part ran layer limits (Err stop) made = tt

pub made_within : {S L : Type 0} (steps : S → L → ℕ → S → Type 0) (last : S → L → ℕ) (tracks : List (Vec L)) (part : Part) (ran : ℕ → ℕ → List L) (layer : List (Node S)) (limits : Limits) (result : Result (Layer S) Stop)
    → IfOk result (IsMadeBy steps last tracks part ran layer limits) → IfOk result (λ (next : Layer S). IsWithin limits next (runs_from last ran (length tracks) layer (length layer)))
made_within steps last tracks part ran layer limits (Ok next) made = made.within
made_within steps last tracks part ran layer limits (Err stop) made = tt

pub made_few : {S L : Type 0} (steps : S → L → ℕ → S → Type 0) (last : S → L → ℕ) (tracks : List (Vec L)) (part : Part) (ran : ℕ → ℕ → List L) (layer : List (Node S)) (limits : Limits) (result : Result (Layer S) Stop)
    → IfOk result (IsMadeBy steps last tracks part ran layer limits) → IfOk result (λ (next : Layer S). length next.nodes.items ≤ runs_from last ran (length tracks) layer (length layer))
made_few steps last tracks part ran layer limits (Ok next) made = made.few
made_few steps last tracks part ran layer limits (Err stop) made = tt

-- of a layer with the same nodes and limits
pub made_again : {S L : Type 0} (steps : S → L → ℕ → S → Type 0) (last : S → L → ℕ) (tracks : List (Vec L)) (part : Part) (ran : ℕ → ℕ → List L) (layer : List (Node S)) (limits : Limits) (next new : Layer S)
    → new.nodes ≡ next.nodes → new.limits ≡ next.limits → IsMadeBy steps last tracks part ran layer limits next → IsMadeBy steps last tracks part ran layer limits new
made_again {S} steps last tracks part ran layer limits next new nodes left made =
    let was = made.within in let same = ap (λ (v : Vec (Node S)). length v.items) nodes in let few = made.few in record {
      follows = subst (λ (v : Vec (Node S)). IsNextOf steps tracks (opening part tracks) ran layer 0 (length layer) v.items) (sym nodes) made.follows;
      within = record {
        steps = let e = ap (λ (l : Limits). l.steps) left in let w = was.steps in omega arith;
        states = ap (λ (l : Limits). l.states) left ∙ was.states;
        narrow = let w = was.narrow in omega arith;
      };
      few = omega arith;
    }
