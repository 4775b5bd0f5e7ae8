-- What lines that are run from a node put into a layer, one line after another.
use Rattle.std.proofs.Common.{◌≡◌, ◌∙◌, ◌+◌, ℕ, [], List, Option, None, ap, arith, length, subst, sym}
use Rattle.std.specs.Global.{Vec}
use Rattle.std.specs.List.{slice_get, slice_index}
use Rattle.i3c_explore.specs.declared.layer.Layer.{Layer}
use Rattle.i3c_explore.specs.declared.limits.Limits.{Limits}
use Rattle.i3c_explore.specs.declared.node.Node.{Node}
use Rattle.i3c_explore.specs.Explorations.{Grows}
use Rattle.i3c_explore.specs.Layers.{AreFrom, Keeps}
use Rattle.i3c_explore.specs.Runs.{ways_of}
use Rattle.i3c_explore.specs.Shares.{Gains, by_track}
use Rattle.i3c_explore.proofs.Counting.{gains_no_line}
use Rattle.i3c_explore.proofs.Expanding.{from_more, from_same, keeps_both}
use Rattle.i3c_explore.proofs.Owning.{gains_as}
use Rattle.i3c_explore.proofs.Running.{charged_more, charged_none}

-- nothing is put
pub grows_none : {S L : Type 0} (steps : S → L → ℕ → S → Type 0) (lines : ℕ → List L) (tracks : List (Vec L)) (node : Node S) (layer : Layer S) (made : List (List ℕ × List (List ℕ)) → List (List ℕ × List (List ℕ)))
    → Gains steps tracks node layer.nodes.items layer.nodes.items made → Grows steps lines tracks node layer layer made 0
grows_none steps lines tracks node layer made gains = record {
  keeps = λ places state has. has;
  from = from_same steps lines node layer.nodes.items;
  counted = gains;
  charged = charged_none layer;
  few = omega arith;
}

-- more is put behind what was put
pub grows_both : {S L : Type 0} (steps : S → L → ℕ → S → Type 0) (lines : ℕ → List L) (tracks : List (Vec L)) (node : Node S) (old mid new : Layer S) (one other made : List (List ℕ × List (List ℕ)) → List (List ℕ × List (List ℕ))) (runs more : ℕ)
    → Grows steps lines tracks node old mid one runs → Grows steps lines tracks node mid new other more → Gains steps tracks node old.nodes.items new.nodes.items made → Grows steps lines tracks node old new made (runs + more)
grows_both steps lines tracks node old mid new one other made runs more first second gains =
    let a = first.few in let b = second.few in record {
      keeps = keeps_both old.nodes.items mid.nodes.items new.nodes.items first.keeps second.keeps;
      from = from_more steps lines node old.nodes.items mid.nodes.items new.nodes.items first.from second.from;
      counted = gains;
      charged = charged_more old mid new runs more first.charged second.charged;
      few = omega arith;
    }

-- the same behind a layer with the same nodes and limits
pub grows_from : {S L : Type 0} (steps : S → L → ℕ → S → Type 0) (lines : ℕ → List L) (tracks : List (Vec L)) (node : Node S) (old same new : Layer S) (made : List (List ℕ × List (List ℕ)) → List (List ℕ × List (List ℕ))) (runs : ℕ)
    → same.nodes ≡ old.nodes → same.limits ≡ old.limits → Grows steps lines tracks node same new made runs → Grows steps lines tracks node old new made runs
grows_from {S} steps lines tracks node old same new made runs nodes limits grown =
    let sized = ap (λ (v : Vec (Node S)). length v.items) nodes in let charged = grown.charged in let few = grown.few in
    let steps_same = ap (λ (l : Limits). l.steps) limits in let states_same = ap (λ (l : Limits). l.states) limits in record {
      keeps = subst (λ (v : Vec (Node S)). Keeps v.items new.nodes.items) nodes grown.keeps;
      from = subst (λ (v : Vec (Node S)). AreFrom steps lines node v.items new.nodes.items) nodes grown.from;
      counted = subst (λ (v : Vec (Node S)). Gains steps tracks node v.items new.nodes.items made) nodes grown.counted;
      charged = record {
        steps = charged.steps ∙ steps_same;
        states = charged.states ∙ states_same;
        narrow = λ le. let e = charged.narrow (omega arith) in omega arith;
      };
      few = omega arith;
    }

-- what the next line of a track puts, where these are the lines of the track
pub grows_as : {S L : Type 0} (steps : S → L → ℕ → S → Type 0) (all : ℕ → List L) (last : S → L → ℕ) (tracks : List (Vec L)) (lines others : ℕ → List L) (node : Node S) (old new : Layer S) (t : ℕ) → lines t ≡ others t
    → Grows steps all tracks node old new (by_track lines node.places.items t) (ways_of last node.state (slice_get (lines t) (slice_index node.places.items t)))
    → Grows steps all tracks node old new (by_track others node.places.items t) (ways_of last node.state (slice_get (others t) (slice_index node.places.items t)))
grows_as {S} {L} steps all last tracks lines others node old new t same grown =
    let runs = ap (λ (l : List L). ways_of last node.state (slice_get l (slice_index node.places.items t))) same in let few = grown.few in let charged = grown.charged in let spent = charged.steps in record {
      keeps = grown.keeps;
      from = grown.from;
      counted = gains_as steps tracks lines others node old.nodes.items new.nodes.items t same grown.counted;
      charged = record { steps = omega arith; states = charged.states; narrow = charged.narrow };
      few = omega arith;
    }

-- a track without a line puts nothing
pub grows_idle : {S L : Type 0} (steps : S → L → ℕ → S → Type 0) (all : ℕ → List L) (last : S → L → ℕ) (tracks : List (Vec L)) (lines : ℕ → List L) (node : Node S) (layer : Layer S) (t : ℕ) → lines t ≡ []
    → Grows steps all tracks node layer layer (by_track lines node.places.items t) (ways_of last node.state (slice_get (lines t) (slice_index node.places.items t)))
grows_idle {S} {L} steps all last tracks lines node layer t none =
    let here : slice_get (lines t) (slice_index node.places.items t) ≡ None = ap (λ (l : List L). slice_get l (slice_index node.places.items t)) none in
    let idle : 0 ≡ ways_of last node.state (slice_get (lines t) (slice_index node.places.items t)) = sym (ap (λ (o : Option L). ways_of last node.state o) here) in
    let made = by_track lines node.places.items t in
    subst (λ (k : ℕ). Grows steps all tracks node layer layer made k) idle (grows_none steps all tracks node layer made (gains_no_line steps tracks lines node layer.nodes.items t here))
