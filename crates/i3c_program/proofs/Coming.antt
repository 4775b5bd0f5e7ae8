-- What lines come to, by what the calls inside say.
use Rattle.std.proofs.Common.{◌≡◌, inl, inr, List, ℕ, Ok, Err, refl, subst}
use Rattle.std.specs.List.{slice_get}
use Rattle.i3c_every.specs.declared.met.Met.{Met}
use Rattle.i3c_every.specs.declared.sent.Sent.{Sent}
use Rattle.i3c_every.specs.declared.told.Told.{Told}
use Rattle.i3c_explore.specs.declared.stop.Stop.{Stop}
use Rattle.i3c_orders.specs.declared.orders.SendFault.{SendFault}
use Rattle.i3c_orders.specs.Paths.{Answers as SendsSo, Tree, due_of}
use Rattle.i3c_scene.specs.declared.runner.Runner.{Runner}
use Rattle.i3c_scene.specs.Replying.{Replied}
use Rattle.i3c_scene.specs.Scenes.{Seen}
use Rattle.i3c_program.specs.declared.came.Came.{Came}
use Rattle.i3c_program.specs.declared.trial.Trial.{Trial}
use Rattle.i3c_program.specs.Sessions.{EndsBy, HearsChosen, IsStopped, Sends, fails, gives, is_new}

-- on which bus lines run changes nothing of what an end comes to
pub ends_so : (old : Trial) (runner : Runner) (stop : Stop) (came : Came) (new : Trial) → EndsBy (record old { runner = runner }) stop came new → EndsBy old stop came new
ends_so old runner Stop.Memory came new none = none
ends_so old runner Stop.Most came new ends = ends
ends_so old runner (Stop.Breaks order) came new (is, broken) = (is, record { broken = broken.broken; stands = broken.stands; turns = broken.turns; found = broken.found; run = broken.run; kept = broken.kept })

module _ (old : Trial) (sent : Sent (List ℕ)) (runner : Runner) (orders : Tree (Sent (List ℕ)) (Met Seen) (Told Replied)) where
  pub chosen_comes : (came : Came) (new : Trial) → SendsSo (gives old) (fails old) old.orders sent (Ok tt) orders → HearsChosen (is_new (due_of (slice_get old.orders.path old.orders.at))) (record old { runner = runner; orders = orders }) came new
      → Sends old sent came new
  chosen_comes came new answered chosen = inl (record old { runner = runner; orders = orders }, answered, refl, (refl, refl, refl, refl, refl, (refl, refl)), chosen)

  pub differs_comes : (came : Came) (new : Trial) → SendsSo (gives old) (fails old) old.orders sent (Err SendFault.Differs) orders → came ≡ Came.Differs → IsStopped (record old { runner = runner; orders = orders }) new → Sends old sent came new
  differs_comes came new (choice, there, other, same) is stopped =
      inr (inl ((choice, there, other, refl), is, subst (λ (t : Tree (Sent (List ℕ)) (Met Seen) (Told Replied)). IsStopped (record old { runner = runner; orders = t }) new) same stopped))

  pub failed_comes : (stop : Stop) (came : Came) (new : Trial) → SendsSo (gives old) (fails old) old.orders sent (Err (SendFault.Failed stop)) orders → EndsBy (record old { runner = runner; orders = orders }) stop came new → Sends old sent came new
  failed_comes stop came new (last, failed, same) by =
      inr (inr (stop, (last, failed, refl), ends_so old runner stop came new (subst (λ (t : Tree (Sent (List ℕ)) (Met Seen) (Told Replied)). EndsBy (record old { runner = runner; orders = t }) stop came new) same by)))
