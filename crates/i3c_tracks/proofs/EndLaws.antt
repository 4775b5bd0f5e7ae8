-- Ends that are told one after another.
use Rattle.std.proofs.Common.{◌≡◌, ◌∙◌, ◌+◌, ◌++◌, ℕ, Bool, suc, List, Some, ap, arith, refl, subst}
use Rattle.std.specs.Global.{Vec}
use Rattle.std.specs.Prelude.{slice_get}
use Rattle.std.proofs.lemmas.List.{append_assoc}
use Rattle.i3c_explore.specs.declared.node.Node.{Node}
use Rattle.i3c_scene.specs.declared.line.Line.{Line}
use Rattle.i3c_scene.specs.Scenes.{Seen}
use Rattle.i3c_tracks.specs.Ends.{AreEndTexts, IsEndText}

pub ends_more : (lines : List (Vec ℕ)) (blocks : List (Vec (Vec Line))) (opened : List Bool) (counted : Bool) (ends : List (Node Seen)) (k : ℕ) (end : Node Seen) (start old new earlier own : List ℕ)
    → AreEndTexts lines blocks opened counted ends k earlier → old ≡ start ++ earlier → slice_get ends k ≡ Some end → IsEndText lines blocks opened counted (k + 1) end own → new ≡ old ++ own
    → (said : List ℕ) × AreEndTexts lines blocks opened counted ends (k + 1) said × (new ≡ start ++ said)
ends_more lines blocks opened counted ends k end start old new earlier own told before there is put =
    let next : k + 1 ≡ suc k = omega arith in
    let back : suc k ≡ k + 1 = omega arith in
    let more : AreEndTexts lines blocks opened counted ends (suc k) (earlier ++ own) = (earlier, own, end, told, there, subst (λ (n : ℕ). IsEndText lines blocks opened counted n end own) next is, refl) in
    (earlier ++ own, subst (λ (n : ℕ). AreEndTexts lines blocks opened counted ends n (earlier ++ own)) back more, put ∙ ap (λ (t : List ℕ). t ++ own) before ∙ append_assoc start earlier own)
