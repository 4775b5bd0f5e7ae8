-- Frames to all, which are always done.
use Rattle.std.proofs.Common.{◌≡◌, ℕ, ◌+◌, Some, refl, sym, ap, ◌∙◌, subst, arith}
use Rattle.i3c_base.specs.declared.answers.Answer.{Answer}
use Rattle.i3c_base.specs.declared.requests.Fixed.{Fixed}
use Rattle.i3c_base.specs.declared.requests.Served.{Served}
use Rattle.i3c_base.specs.Cutting.{CutList, Lost as LostDevices, lost_by}
use Rattle.i3c_base.specs.Serve.{Frame, IsWordBits, Serves, emptied, header_bits}
use Rattle.i3c_base.specs.State.{State}
use Rattle.i3c_step.specs.declared.replies.Reply.{Reply}
use Rattle.i3c_step.specs.Step.{Announces, Becomes}
use Rattle.i3c_model.specs.declared.plain.Choice.{Choice}
use Rattle.i3c_model.specs.declared.plain.Choice.TheVariants.{Heard, Lost, Silent}
use Rattle.i3c_model.specs.Choosing.{Follows, MayStandFor, ServesAsChosen, of_own_part, of_request, stands_for}
use Rattle.i3c_model.proofs.Framing.{frame_of}
use Rattle.i3c_model.proofs.Taking.{follows, never_silent, request_taken, taken_heard, torn_from, torn_in}

-- a frame of `bits` bits, which leaves the bus that f says
module _ (old : State) (bits : ℕ) (f : State → State) (policy : Fixed) (cuts : CutList) (choice : Choice) (served : Served) (word header : ℕ) (mid new : State)
    (word_sent : (lost : LostDevices) (other : Served) (next : State) → Serves old policy lost other next → IsWordBits old other word)
    (header_sent : (lost : LostDevices) (other : Served) (next : State) → Serves old policy lost other next → header ≡ header_bits other)
    (serves : Serves old policy (lost_by cuts (word + header + bits)) served mid) (served_as : ServesAsChosen old policy (lost_by cuts (word + header + bits)) choice served)
    (left : new ≡ emptied (lost_by cuts (word + header + bits)) (f mid)) where
  abbrev Comes : Reply → State → Type 0
  Comes = Announces old bits f policy cuts

  abbrev reply : Reply
  reply = Reply.Framed (record { served = served; answer = Answer.Done })

  announces : Announces old bits f policy cuts reply new
  announces =
      let headers = header_sent (lost_by cuts (word + header + bits)) served mid serves in (
        served,
        refl,
        frame_of old policy cuts served (header_bits served + bits) word (word + header + bits) (Becomes f) mid (f mid) new (omega (arith, headers)) (word_sent (lost_by cuts (word + header + bits)) served mid serves) serves refl left,
      )

  tear : (place : ℕ) → served ≡ Served.Recorded place → choice ≡ Lost → MayStandFor Comes of_request Lost → (next : State) × Serves old policy (lost_by cuts (word + header + bits)) Served.Torn next
  tear place is e l =
      let torn : l.2.0 ≡ Served.Torn = torn_from l.2.0 (sym (ap (stands_for of_request) l.2.1) ∙ l.3) in
      torn_in old policy cuts place word header bits bits (lost_by cuts (word + header + bits)) served mid (Becomes f) l.1 word_sent header_sent serves is (subst (λ x. Frame old policy cuts x (header_bits x + bits) (Becomes f) l.1) torn l.2.2) (omega arith)

  done : (c : Choice) → MayStandFor Comes of_own_part c → Some Heard ≡ Some c
  done c l = sym (ap (stands_for of_own_part) l.2.1) ∙ l.3

  -- it is a frame to all, and follows the choice
  pub announced : Announces old bits f policy cuts (Reply.Framed (record { served = served; answer = Answer.Done })) new × Follows (Announces old bits f policy cuts) choice (Reply.Framed (record { served = served; answer = Answer.Done }))
  announced = (
    announces,
    follows Comes choice reply
        (request_taken (MayStandFor Comes of_request) old policy (lost_by cuts (word + header + bits)) choice served served_as (λ c e. (reply, new, announces, e)) tear (λ l. never_silent l.2.0 (sym (ap (stands_for of_request) l.2.1) ∙ l.3)))
        (taken_heard (MayStandFor Comes of_own_part) choice (λ c l. let e : Some Heard ≡ Some Lost = done Lost l in cc) (λ c l. let e : Some Heard ≡ Some Silent = done Silent l in cc)),
  )
