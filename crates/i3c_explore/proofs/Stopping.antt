-- Why an exploration ends: there was no memory, or a limit is exceeded.
use Rattle.std.proofs.Common.{◌≡◌, ◌∙◌, ◌<◌, ◌≤◌, ◌+◌, ℕ, Bool, false, List, Err, IfErr, Ok, Result, ap, arith, inl, inr, length, subst, sym}
use Rattle.std.specs.Global.{Vec}
use Rattle.std.specs.Prelude.{IsTrue, ◌↔◌}
use Rattle.std.specs.List.{Contains}
use Rattle.std.specs.Result.{IsErrAnd}
use Rattle.std.proofs.lemmas.Bool.{false≢true}
use Rattle.std.proofs.lemmas.Bool.Decides.{leb_tells}
use Rattle.i3c_explore.specs.declared.layer.Layer.{Layer}
use Rattle.i3c_explore.specs.declared.limits.Limits.{Limits}
use Rattle.i3c_explore.specs.declared.node.Node.{Node}
use Rattle.i3c_explore.specs.declared.stop.Stop.{Stop}
use Rattle.i3c_explore.specs.declared.stop.Stop.TheVariants.{Breaks, Memory, Most}
use Rattle.i3c_explore.specs.Parts.{Part, opening}
use Rattle.i3c_explore.specs.Runs.{IsCharged, IsWithin}
use Rattle.i3c_explore.specs.Stops.{Exceeds, IsFull, StopsAt, StopsBehind}

-- a call that found no memory ends what it is called for
pub memory_ends : {A : Type 0} (Q : Result A Stop → Type 0) (result : Result A Stop) → Q (Err Memory) → IsErrAnd result (λ stop. stop ≡ Memory) → Q result
memory_ends Q (Ok value) holds never = absurd never
memory_ends Q (Err stop) holds is = subst (λ (s : Stop). Q (Err s)) (sym is) holds

pub memory_stops : {A : Type 0} (P : Stop → Type 0) (result : Result A Stop) → P Memory → IsErrAnd result (λ stop. stop ≡ Memory) → IfErr result P
memory_stops {A} P result = memory_ends (λ (r : Result A Stop). IfErr r P) result

-- where no step is left, one more run exceeds the limit
pub no_step : (limits : Limits) (held : ℕ) (taken : Bool) → (IsTrue taken ↔ 0 < limits.steps) → taken ≡ false → Exceeds limits held 1
no_step limits held taken left not = elim (leb_tells 1 limits.steps) [
  | inl (_, some) ↦ absurd (false≢true (sym not ∙ left.1 some))
  | inr (_, none) ↦ inl (omega arith)
]

-- what exceeds that which is left of some limits exceeds them, with what was taken
exceeds_more : (limits left : Limits) (held now done more runs : ℕ) → left.steps + done ≡ limits.steps → left.states ≡ limits.states → now ≤ held + done → done + more ≤ runs → Exceeds left now more → Exceeds limits held runs
exceeds_more limits left held now done more runs steps states few le over = elim over [ inl steps_over ↦ inl (omega arith) | inr states_over ↦ inr (omega arith) ]

-- a full layer has no room for what one more run leads to
pub full_stops : {S L : Type 0} (breaks : S → L → ℕ → Type 0) (lines : ℕ → List L) (node : Node S) (layer taken : Layer S) (stop : Stop) → taken.limits.states ≡ layer.limits.states → length taken.nodes.items ≡ length layer.nodes.items
    → IsFull taken stop → StopsAt breaks lines node layer 1 stop
full_stops breaks lines node layer taken Memory states same full = tt
full_stops breaks lines node layer taken Most states same full = inr (omega arith)
full_stops breaks lines node layer taken (Breaks order) states same full = absurd full

-- what stops lines behind other lines of a node stops all of them
pub stops_more : {S L : Type 0} (breaks : S → L → ℕ → Type 0) (lines : ℕ → List L) (node : Node S) (old mid : Layer S) (done more runs : ℕ) (stop : Stop) → IsCharged old mid done → length mid.nodes.items ≤ length old.nodes.items + done → done + more ≤ runs
    → StopsAt breaks lines node mid more stop → StopsAt breaks lines node old runs stop
stops_more breaks lines node old mid done more runs Memory charged few le stops = tt
stops_more breaks lines node old mid done more runs Most charged few le over =
    exceeds_more old.limits mid.limits (length old.nodes.items) (length mid.nodes.items) done more runs charged.steps charged.states few le over
stops_more breaks lines node old mid done more runs (Breaks order) charged few le broken = broken

-- the same of a layer with the same nodes and limits
pub stops_from : {S L : Type 0} (breaks : S → L → ℕ → Type 0) (lines : ℕ → List L) (node : Node S) (old same : Layer S) (runs : ℕ) (stop : Stop) → same.nodes ≡ old.nodes → same.limits ≡ old.limits → StopsAt breaks lines node same runs stop → StopsAt breaks lines node old runs stop
stops_from breaks lines node old same runs Memory nodes limits stops = tt
stops_from {S} breaks lines node old same runs Most nodes limits over =
    let sized = ap (λ (v : Vec (Node S)). length v.items) nodes in let left = ap (λ (l : Limits). l.steps) limits in
    exceeds_more old.limits same.limits (length old.nodes.items) (length same.nodes.items) 0 runs runs (omega arith) (ap (λ (l : Limits). l.states) limits) (omega arith) (omega arith) over
stops_from breaks lines node old same runs (Breaks order) nodes limits broken = broken

-- what stops the lines of a node stops those of the layer that has it
pub stops_behind : {S L : Type 0} (breaks : S → L → ℕ → Type 0) (tracks : List (Vec L)) (part : Part) (layer : List (Node S)) (limits : Limits) (node : Node S) (next : Layer S) (done more runs : ℕ) (stop : Stop)
    → Contains layer node → IsWithin limits next done → length next.nodes.items ≤ done → done + more ≤ runs → StopsAt breaks (opening part tracks) node next more stop → StopsBehind breaks tracks part layer limits runs stop
stops_behind breaks tracks part layer limits node next done more runs Memory at within few le stops = tt
stops_behind breaks tracks part layer limits node next done more runs Most at within few le over =
    exceeds_more limits next.limits 0 (length next.nodes.items) done more runs within.steps within.states (omega arith) le over
stops_behind breaks tracks part layer limits node next done more runs (Breaks order) at within few le broken = (node, at, broken)
