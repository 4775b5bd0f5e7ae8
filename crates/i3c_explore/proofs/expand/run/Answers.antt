use Rattle.std.proofs.Common.{◌∙◌, arith, inl, inr, length, refl, rules, subst, sym}
use Rattle.i3c_explore.specs.Layers.{IsSuccessor, advanced}
use Rattle.i3c_explore.proofs.Counting.{turn_added}
use Rattle.i3c_explore.proofs.NextLines.{successor_of}
use Rattle.i3c_explore.proofs.Putting.{behind_from, behind_put, has_moved, put_adds, put_has, put_keeps}
use Rattle.i3c_explore.proofs.Stopping.{full_stops, no_step}
use Rattle.i3c_explore.proofs.expand.run.Given.{Over}
use Rattle.i3c_explore.proofs.expand.run.Goals.{In-Ok-put}
use Rattle.i3c_explore.proofs.expand.run.Goals as goal

stepped : (g : Over) (c : In-Ok-put g) → g.M.Machine.steps c.args.node.now.state c.args.line.now c.args.turn.way (g.M.Machine.shown c.run_line.new.runner)
stepped g c = c.in-Ok.ensures.leads

pub returns-in-Ok-put-clause-grown : goal.returns-in-Ok-put-clause-grown
returns-in-Ok-put-clause-grown g c lines next =
    let old = c.args.next.now.nodes.items in let new = c.put.new.self.nodes.items in let put = c.in-Ok-put.ensures.put in let end = g.M.Machine.shown c.run_line.new.runner in
    let steps = g.M.Machine.steps in let node = c.args.node.now in
    let is = behind_put old new node c.args.turn end put in
    let step = subst (λ state. steps node.state c.args.line.now c.args.turn.way state) (sym put.state) (stepped g c) in
    let spent = c.in-Ok-put.ensures.charged in let taken = c.step.ensures.taken (search rules) in let states = c.step.ensures.states in record {
      keeps = put_keeps old new put.made is;
      from = λ n in_new. elim (behind_from old new node c.args.turn end put n in_new) [
        | inl before ↦ inl before
        | inr (same, order) ↦ inr (subst (λ m. IsSuccessor steps lines node m) (sym same)
            (successor_of steps lines node put.made c.args.turn c.args.line.now end next (stepped g c) put.state put.places order))
      ];
      counted = turn_added steps c.args.tracks.now old new node put.made c.args.turn c.args.line.now c.requires.within c.requires.next step put.places put.orders is;
      charged = record {
        steps = let e = spent.steps in omega arith;
        states = spent.states ∙ states;
        narrow = λ le. let e = spent.narrow (omega arith) in omega arith;
      };
      few = put_adds old new put.made is;
    }

pub returns-in-Ok-put-clause-ran : goal.returns-in-Ok-put-clause-ran
returns-in-Ok-put-clause-ran g c =
    let old = c.args.next.now.nodes.items in let new = c.put.new.self.nodes.items in let put = c.in-Ok-put.ensures.put in let end = g.M.Machine.shown c.run_line.new.runner in (
      end,
      stepped g c,
      has_moved new put.made.places.items (advanced c.args.turn.track c.args.node.now.places.items) put.made.state end put.places put.state
          (put_has old new put.made (behind_put old new c.args.node.now c.args.turn end put)),
    )

pub run_line-requires : goal.run_line-requires
run_line-requires g c = record { within = c.requires.within; again = c.requires.again }

pub put-requires : goal.put-requires
put-requires g c = record { within = c.requires.within; fits = c.requires.fits }

pub returns-in-Ok-put-clause-near : goal.returns-in-Ok-put-clause-near
returns-in-Ok-put-clause-near g c = c.in-Ok.ensures.near

pub returns-then-not-step-clause-stopped : goal.returns-then-not-step-clause-stopped
returns-then-not-step-clause-stopped g c lines next = no_step c.args.next.now.limits (length c.args.next.now.nodes.items) c.step.result c.step.ensures.left c.if-not-step.true

pub returns-in-Err-clause-stopped : goal.returns-in-Err-clause-stopped
returns-in-Err-clause-stopped g c lines next = c.in-Err.ensures.stopped lines c.args.next.now next

pub returns-in-Err-put-clause-stopped : goal.returns-in-Err-put-clause-stopped
returns-in-Err-put-clause-stopped g c lines next =
    full_stops g.M.Machine.breaks lines c.args.node.now c.args.next.now (record c.args.next.now { limits = c.step.new.self; noted = c.run_line.new.noted }) c.in-Err-put.stop c.step.ensures.states refl c.in-Err-put.ensures.full
