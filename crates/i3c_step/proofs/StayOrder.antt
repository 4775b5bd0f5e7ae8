-- The raises of a present stay, in order.
use Rattle.std.proofs.lemmas.Bool.{cond-false, cond-true}
use Rattle.std.proofs.Common.{◌≡◌, ℕ, true, false, ◌&&◌, List, [], ◌∷◌, ◌++◌, Option, Some, None, is_some, sym, refl, ap, ◌∙◌, append_assoc}
use Rattle.std.proofs.lemmas.Option.{none-some}
use Rattle.std.specs.List.{Contains}
use Rattle.i3c_base.specs.declared.device.Setup.{Setup}
use Rattle.i3c_base.specs.declared.device.Waiting.{Waiting}
use Rattle.i3c_base.specs.State.{Board, Device, IsStart, State, device_at}
use Rattle.i3c_step.specs.History.{AllDistinct, History, IsLegal, Moment, reached}
use Rattle.i3c_step.specs.Stays.{accepted_at, accepted_in_stay, recorded_in_stay, recorded_since, stays}
use Rattle.i3c_step.proofs.Fates.{Fate}
use Rattle.i3c_step.proofs.Numbering.{IsLawful, IsLawful-earlier, IsLawful-start, last_facts}
use Rattle.i3c_step.proofs.Recording.{Contains-first}
use Rattle.i3c_step.proofs.Unserved.{waiting_in}

none_contained : (ws : List Waiting) → ((w : Waiting) → Contains ws w → ⊥) → ws ≡ []
none_contained [] h = refl
none_contained (w ∷ ws) h = absurd (h w (Contains-first w ws))

last_part : (xs ys : List Waiting) → xs ++ ys ≡ [] → ys ≡ []
last_part [] ys e = e
last_part (x ∷ xs) ys e = cc

-- where a device came, nothing waits
nothing_waits : (old : State) (m : Moment) (s : ℕ) (d : Device) → Fate old m s → device_at old s ≡ None → device_at m.after s ≡ Some d → d.waiting ≡ []
nothing_waits old m s d f none p =
    let accepted : accepted_at m s ≡ [] = none_contained (accepted_at m s) (λ w c. let a = f.accepted w c in none-some a.device (sym none ∙ a.there)) in
    let before : waiting_in (device_at old s) ≡ [] = ap waiting_in none in
    let moved : recorded_since old m.after s ++ f.left ≡ [] = sym f.moves ∙ (λ k. before k ++ accepted k) in
    f.rests d p ∙ last_part (recorded_since old m.after s) f.left moved

stay_order : (start : State) (h : History) → IsLawful start h → (s : ℕ) (d : Device) → device_at (reached start h) s ≡ Some d
    → accepted_in_stay start h s ≡ recorded_in_stay start h s ++ d.waiting
stay_order start [] law s d p = sym (law.empty s d p)
stay_order start (m ∷ earlier) law s d p = go (λ e there. stay_order start earlier (IsLawful-earlier start m earlier law) s e there) (device_at old s) refl
  where
    old : State
    old = reached start earlier

    f : Fate old m s
    f = (last_facts start m earlier law).fates s

    before : List Waiting
    before = recorded_in_stay start earlier s

    since : List Waiting
    since = recorded_since old m.after s

    go : ((e : Device) → device_at old s ≡ Some e → accepted_in_stay start earlier s ≡ before ++ e.waiting) → (o : Option Device) → device_at old s ≡ o
        → accepted_in_stay start (m ∷ earlier) s ≡ recorded_in_stay start (m ∷ earlier) s ++ d.waiting
    go earlier_stay None none =
        let b : stays old m.after s ≡ false = ap (λ (o : Option Device). is_some o && is_some (device_at m.after s)) none in
        cond-false (stays old m.after s) _ [] b
        ∙ (sym (nothing_waits old m s d f none p) ∙ ap (λ (ws : List Waiting). ws ++ d.waiting) (sym (cond-false (stays old m.after s) (before ++ since) [] b)))
    go earlier_stay (Some e) there =
        let b : stays old m.after s ≡ true = ap (λ (o : Option Device). is_some o && is_some (device_at m.after s)) there ∙ ap is_some p in
        let same : e.waiting ++ accepted_at m s ≡ since ++ d.waiting =
        ap (λ ws. ws ++ accepted_at m s) (sym (ap waiting_in there)) ∙ (f.moves ∙ ap (λ ws. since ++ ws) (sym (f.rests d p))) in
        cond-true (stays old m.after s) _ [] b
        ∙ (ap (λ (ws : List Waiting). ws ++ accepted_at m s) (earlier_stay e there)
        ∙ (append_assoc before e.waiting (accepted_at m s)
        ∙ (ap (λ (ws : List Waiting). before ++ ws) same
        ∙ (sym (append_assoc before since d.waiting)
        ∙ ap (λ (ws : List Waiting). ws ++ d.waiting) (sym (cond-true (stays old m.after s) (before ++ since) [] b))))))

pub stays_in_order : (main : Setup) (board : Board) (start : State) (h : History)
    → IsStart main board start → IsLegal start h → AllDistinct start h
    → (s : ℕ) (d : Device) → device_at (reached start h) s ≡ Some d → accepted_in_stay start h s ≡ recorded_in_stay start h s ++ d.waiting
stays_in_order main board start h begins legal distinct s d p = stay_order start h (IsLawful-start main board start h begins legal distinct) s d p
