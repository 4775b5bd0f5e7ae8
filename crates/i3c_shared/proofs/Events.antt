-- Frames are neither raises nor attachments.
use Rattle.i3c_base.specs.declared.requests.Fixed.{Fixed}
use Rattle.i3c_base.specs.Cutting.{CutList}
use Rattle.i3c_step.specs.declared.events.Command.{Command}
use Rattle.i3c_step.specs.declared.events.Command.TheVariants.{Serve, Enec, Disec, Reset, SendList, ReadFrom, WriteTo, SetStatic, SetNew, Get, SetLength}
use Rattle.i3c_step.specs.Commands.{event_of}
use Rattle.i3c_shared.specs.Taking.{IsOther}

pub frames_are_other : (m : Command) (policy : Fixed) (cuts : CutList) → IsOther (event_of m policy cuts)
frames_are_other Serve policy cuts = tt
frames_are_other (Enec to kinds) policy cuts = tt
frames_are_other (Disec to kinds) policy cuts = tt
frames_are_other Reset policy cuts = tt
frames_are_other SendList policy cuts = tt
frames_are_other (ReadFrom a) policy cuts = tt
frames_are_other (WriteTo a bytes) policy cuts = tt
frames_are_other (SetStatic f to) policy cuts = tt
frames_are_other (SetNew a to) policy cuts = tt
frames_are_other (Get what a) policy cuts = tt
frames_are_other (SetLength way most to) policy cuts = tt
