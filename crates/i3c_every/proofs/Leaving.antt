-- What was tried of a program's runs that leaves a run where it sent its next line before.
use Rattle.std.proofs.Common.{◌≡◌, ◌⊎◌, ◌∙◌, inl, inr, ℕ, List, Option, None, refl, subst, sym}
use Rattle.std.specs.Global.{Vec}
use Rattle.i3c_orders.specs.declared.choice.Step.{Step}
use Rattle.i3c_orders.specs.Marks.{AreCovered, AreFollowed, GoesOn, GoesOnElsewhere, IsPreorder}
use Rattle.i3c_orders.specs.Runs.{state_after, told_by}
use Rattle.i3c_every.specs.declared.met.Met.{Met}
use Rattle.i3c_every.specs.declared.sent.Sent.{Sent}
use Rattle.i3c_every.specs.declared.told.Told.{Told}
use Rattle.i3c_every.specs.Every.{IsDetermined, MayMeet, MayRun}
use Rattle.i3c_every.specs.Marked.{AllMeet, MeetsAll, MeetsAllElsewhere}
use Rattle.i3c_every.specs.Meeting.{AreMet, HasSameState}
use Rattle.i3c_every.proofs.Covering.{each_met, so_alike}

pub preorder : {S : Type 0} → IsPreorder {S = Met S} HasSameState
preorder {S} = record {
  reflexive = λ one. (refl, refl);
  transitive = λ one two three (state, places) (leads, stands). (state ∙ leads, places ∙ stands);
}

module _ {S L P A : Type 0} (steps : S → L → ℕ → S → Type 0) (answers : S → P → ℕ → A → S → Type 0) (sees : S → A → Type 0) (tracks : List (Vec L)) (program : List (Told A) → Option (Sent P)) (start : Met S) (tried : List (List (Step (Met S) (Told A)))) where
  -- where a run goes on with each answer of its line, the line met each order
  meets_all : (run : List (Step (Met S) (Told A))) → GoesOn (AreMet steps answers sees tracks) program start tried run → MeetsAll steps answers sees tracks program start tried run
  meets_all run on = record {
    sent = on.line;
    asks = on.asks;
    each = λ order may way. let (step, at, told) = each_met steps answers sees tracks (state_after start run) on.line on.steps on.given order may way in (step, told, on.each step at);
  }

  pub all_meet : AreCovered (AreMet steps answers sees tracks) HasSameState program start tried → AllMeet steps answers sees tracks program start tried
  all_meet covered run begins = go (covered run begins)
    where
      go : (program (told_by run) ≡ None) ⊎ (GoesOn (AreMet steps answers sees tracks) program start tried run ⊎ GoesOnElsewhere (AreMet steps answers sees tracks) HasSameState program start tried run)
          → (program (told_by run) ≡ None) ⊎ (MeetsAll steps answers sees tracks program start tried run ⊎ MeetsAllElsewhere steps answers sees tracks program start tried run)
      go (inl over) = inl over
      go (inr (inl on)) = inr (inl (meets_all run on))
      go (inr (inr away)) = inr (inr (record { other = away.other; same = away.same; futures = away.futures; met = meets_all away.other away.on }))

  -- what a program may be told in a state is among what its line is told in an equal one, if the machine is determined
  pub all_followed : IsDetermined steps answers sees → AreFollowed (AreMet steps answers sees tracks) HasSameState (MayMeet steps answers sees tracks)
  all_followed determined one other sent told new all (states, places) (order, may, (way, is)) met =
      let (step, at, its) = each_met steps answers sees tracks other sent all met order (subst (λ (p : List ℕ). MayRun tracks p sent order) (sym places) may) way in
      let (answer, state, stands) = so_alike steps answers sees tracks program start tried determined other one sent order way step (record { answer = told; state = new }) states places its is in
      (step, at, answer, (state, stands))
