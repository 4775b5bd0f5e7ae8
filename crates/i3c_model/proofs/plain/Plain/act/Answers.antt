use Rattle.std.proofs.Common.{◌≡◌, None, subst}
use Rattle.i3c_step.specs.Step.{checks, first_refusal}
use Rattle.i3c_model.proofs.Lengths.{write_short}
use Rattle.i3c_model.proofs.plain.Plain.act.Goals as goal

pub write-requires : goal.write-requires
write-requires c =
    let none = subst (λ e. first_refusal (checks c.args.self.now e) ≡ None) c.in-WriteTo.is c.requires.allowed in
    record { short = rw c.as_slice.ensures.value (write_short c.args.self.now c.in-WriteTo.cuts c.in-WriteTo.at c.in-WriteTo.bytes.items none) }

pub returns-in_ok-serve-in-Serve-clause-chosen : goal.returns-in_ok-serve-in-Serve-clause-chosen
returns-in_ok-serve-in-Serve-clause-chosen c = rw c.in-Serve.is c.in_ok-serve-in-Serve.ensures.chosen

pub returns-in_ok-round-in-Round-clause-chosen : goal.returns-in_ok-round-in-Round-clause-chosen
returns-in_ok-round-in-Round-clause-chosen c = rw c.in-Round.is c.in_ok-round-in-Round.ensures.chosen

pub returns-in-Enec-clause-chosen : goal.returns-in-Enec-clause-chosen
returns-in-Enec-clause-chosen c = rw c.in-Enec.is c.rekind.ensures.chosen

pub returns-in-Disec-clause-chosen : goal.returns-in-Disec-clause-chosen
returns-in-Disec-clause-chosen c = rw c.in-Disec.is c.rekind-in-Disec.ensures.chosen

pub returns-in-Reset-clause-chosen : goal.returns-in-Reset-clause-chosen
returns-in-Reset-clause-chosen c = rw c.in-Reset.is c.reset.ensures.chosen

pub returns-in-SendList-clause-chosen : goal.returns-in-SendList-clause-chosen
returns-in-SendList-clause-chosen c = rw c.in-SendList.is c.send_list.ensures.chosen

pub returns-in-HandOver-clause-acts : goal.returns-in-HandOver-clause-acts
returns-in-HandOver-clause-acts c = rw c.in-HandOver.is c.hand_over.ensures.acts

pub returns-in-HandOver-clause-chosen : goal.returns-in-HandOver-clause-chosen
returns-in-HandOver-clause-chosen c = rw c.in-HandOver.is c.hand_over.ensures.chosen

pub returns-in-ReadFrom-clause-chosen : goal.returns-in-ReadFrom-clause-chosen
returns-in-ReadFrom-clause-chosen c = rw c.in-ReadFrom.is c.read.ensures.chosen

pub returns-in-WriteTo-clause-chosen : goal.returns-in-WriteTo-clause-chosen
returns-in-WriteTo-clause-chosen c = rw c.in-WriteTo.is (rw c.as_slice.ensures.value at c.write.ensures.chosen)

pub returns-in-Enec-clause-acts : goal.returns-in-Enec-clause-acts
returns-in-Enec-clause-acts c = rw c.in-Enec.is c.rekind.ensures.rekinds

pub returns-in-Enec-clause-memory : goal.returns-in-Enec-clause-memory
returns-in-Enec-clause-memory c = rw c.in-Enec.is c.rekind.ensures.memory

pub returns-in-Disec-clause-acts : goal.returns-in-Disec-clause-acts
returns-in-Disec-clause-acts c = rw c.in-Disec.is c.rekind-in-Disec.ensures.rekinds

pub returns-in-Disec-clause-memory : goal.returns-in-Disec-clause-memory
returns-in-Disec-clause-memory c = rw c.in-Disec.is c.rekind-in-Disec.ensures.memory

pub returns-in-Reset-clause-acts : goal.returns-in-Reset-clause-acts
returns-in-Reset-clause-acts c = rw c.in-Reset.is c.reset.ensures.announces

pub returns-in-Reset-clause-memory : goal.returns-in-Reset-clause-memory
returns-in-Reset-clause-memory c = rw c.in-Reset.is c.reset.ensures.memory

pub returns-in-SendList-clause-acts : goal.returns-in-SendList-clause-acts
returns-in-SendList-clause-acts c = rw c.in-SendList.is c.send_list.ensures.announces

pub returns-in-SendList-clause-memory : goal.returns-in-SendList-clause-memory
returns-in-SendList-clause-memory c = rw c.in-SendList.is c.send_list.ensures.memory

pub returns-in-ReadFrom-clause-acts : goal.returns-in-ReadFrom-clause-acts
returns-in-ReadFrom-clause-acts c = rw c.in-ReadFrom.is c.read.ensures.reads

pub returns-in-ReadFrom-clause-memory : goal.returns-in-ReadFrom-clause-memory
returns-in-ReadFrom-clause-memory c = rw c.in-ReadFrom.is c.read.ensures.memory

pub returns-in-WriteTo-clause-acts : goal.returns-in-WriteTo-clause-acts
returns-in-WriteTo-clause-acts c = rw c.in-WriteTo.is (rw c.as_slice.ensures.value at c.write.ensures.writes)

pub returns-in-WriteTo-clause-memory : goal.returns-in-WriteTo-clause-memory
returns-in-WriteTo-clause-memory c = rw c.in-WriteTo.is c.write.ensures.memory

pub returns-in-HandOver-clause-handed : goal.returns-in-HandOver-clause-handed
returns-in-HandOver-clause-handed c = rw c.in-HandOver.is c.hand_over.ensures.handed

pub returns-in-SetStatic-clause-chosen : goal.returns-in-SetStatic-clause-chosen
returns-in-SetStatic-clause-chosen c = rw c.in-SetStatic.is c.set_static.ensures.chosen

pub returns-in-SetNew-clause-chosen : goal.returns-in-SetNew-clause-chosen
returns-in-SetNew-clause-chosen c = rw c.in-SetNew.is c.set_new.ensures.chosen

pub returns-in-Get-clause-chosen : goal.returns-in-Get-clause-chosen
returns-in-Get-clause-chosen c = rw c.in-Get.is c.get_datum.ensures.chosen

pub returns-in-Get-clause-acts : goal.returns-in-Get-clause-acts
returns-in-Get-clause-acts c = rw c.in-Get.is c.get_datum.ensures.gets

pub returns-in-Get-clause-memory : goal.returns-in-Get-clause-memory
returns-in-Get-clause-memory c = rw c.in-Get.is c.get_datum.ensures.memory

pub returns-in-SetLength-clause-chosen : goal.returns-in-SetLength-clause-chosen
returns-in-SetLength-clause-chosen c = rw c.in-SetLength.is c.set_length.ensures.chosen

pub returns-in-SetLength-clause-acts : goal.returns-in-SetLength-clause-acts
returns-in-SetLength-clause-acts c = rw c.in-SetLength.is c.set_length.ensures.sets

pub returns-in-SetLength-clause-memory : goal.returns-in-SetLength-clause-memory
returns-in-SetLength-clause-memory c = rw c.in-SetLength.is c.set_length.ensures.memory
