-- Kinds are changed by words, and an opening and a reset slot by slot.
use Rattle.std.proofs.Common.{◌≡◌, ◌⊎◌, ℕ, List, Option, if◌then◌else◌, inl, inr, ◌∙◌, ap, get_or, None, option_map, sym}
use Rattle.i3c_base.specs.declared.datum.Direction.{Direction}
use Rattle.i3c_base.specs.State.{Device}
use Rattle.i3c_word.specs.declared.Word.{Word}
use Rattle.i3c_ccc.specs.declared.codes.Code.{Code}
use Rattle.i3c_ccc.specs.declared.codes.Code.TheVariants.{SetLength, SetLengthDirect}
use Rattle.i3c_device.specs.Hearing.{named_length, set_length, set_new, set_static}
use Rattle.i3c_base.specs.Frames.{reaches_at, unaddressed_device, with_kinds, without_kinds}
use Rattle.i3c_base.specs.Numbers.{kind_set}
use Rattle.i3c_base.specs.Round.{hears}
use Rattle.i3c_device.specs.Walks.{heard_at}
use Rattle.i3c_device.proofs.Blindness.{blind_length, blind_new, blind_opening, blind_reset, blind_static}
use Rattle.i3c_device.proofs.SeenLaws.{narrowed_seen}
use Rattle.i3c_device.proofs.SeenWalks.{disabled_alike, enabled_alike, kinds_heard, reached_alike, unheard_alike, unseen_slots}
use Rattle.i3c_device.proofs.devices.Devices.hear.Goals as goal

pub returns-in-Enec : goal.returns-in-Enec
returns-in-Enec c =
    kinds_heard c.self.inside.enabled c.with-self-inside.result (λ had. with_kinds had (kind_set c.named.result)) c.args.active c.args.to.now c.reached-reached.result c.self.inside.occupants c.args.self.now
    (unseen_slots c.self.inside.enabled c.self.inside.occupants c.args.self.now c.reached-reached.ensures.slots c.self.view_is) c.self.view_is c.reached-reached.ensures.reached c.with-self-inside.ensures
    ∙ enabled_alike c.args.active c.args.to.now c.args.code c.args.words.now (kind_set c.named.result) c.args.self.now c.named.ensures c.in-Enec.is

pub returns-in-Disec : goal.returns-in-Disec
returns-in-Disec c =
    kinds_heard c.self.inside.enabled c.without-self-inside.result (λ had. without_kinds had (kind_set c.named-in-Disec.result)) c.args.active c.args.to.now c.reached-reached.result c.self.inside.occupants c.args.self.now
    (unseen_slots c.self.inside.enabled c.self.inside.occupants c.args.self.now c.reached-reached.ensures.slots c.self.view_is) c.self.view_is c.reached-reached.ensures.reached c.without-self-inside.ensures
    ∙ disabled_alike c.args.active c.args.to.now c.args.code c.args.words.now (kind_set c.named-in-Disec.result) c.args.self.now c.named-in-Disec.ensures c.in-Disec.is

pub returns-in-Entdaa : goal.returns-in-Entdaa
returns-in-Entdaa c =
    narrowed_seen c.self.inside.enabled (λ s place. option_map hears place) (heard_at c.args.active c.args.to.now c.args.code c.args.words.now) c.reached-reached.result c.self.inside.occupants c.each.new.self c.args.self.now
    c.each.ensures.slots blind_opening c.self.view_is c.each.ensures.changed
    (λ s l. reached_alike hears c.args.active c.args.to.now c.reached-reached.result s (get_or c.args.self.now s None) (c.reached-reached.ensures.reached s l)
    ∙ ap (λ code. heard_at c.args.active c.args.to.now code c.args.words.now s (get_or c.args.self.now s None)) (sym c.in-Entdaa.is))

pub returns-in-Rstdaa : goal.returns-in-Rstdaa
returns-in-Rstdaa c =
    narrowed_seen c.self.inside.enabled (λ s place. option_map unaddressed_device place) (heard_at c.args.active c.args.to.now c.args.code c.args.words.now) c.reached-reached.result c.self.inside.occupants c.each-in-Rstdaa.new.self
    c.args.self.now c.each-in-Rstdaa.ensures.slots blind_reset c.self.view_is c.each-in-Rstdaa.ensures.changed
    (λ s l. reached_alike unaddressed_device c.args.active c.args.to.now c.reached-reached.result s (get_or c.args.self.now s None) (c.reached-reached.ensures.reached s l)
    ∙ ap (λ code. heard_at c.args.active c.args.to.now code c.args.words.now s (get_or c.args.self.now s None)) (sym c.in-Rstdaa.is))

pub returns-in-Setdasa : goal.returns-in-Setdasa
returns-in-Setdasa c =
    narrowed_seen c.self.inside.enabled (λ s place. option_map (set_static c.named_address-address.result) place) (heard_at c.args.active c.args.to.now c.args.code c.args.words.now) c.reached-reached.result c.self.inside.occupants
    c.each-in-Setdasa.new.self c.args.self.now c.each-in-Setdasa.ensures.slots (blind_static c.named_address-address.result) c.self.view_is c.each-in-Setdasa.ensures.changed
    (λ s l. reached_alike (set_static c.named_address-address.result) c.args.active c.args.to.now c.reached-reached.result s (get_or c.args.self.now s None) (c.reached-reached.ensures.reached s l)
    ∙ (ap (λ (x : Option ℕ). option_map (λ d. if reaches_at c.args.active c.args.to.now s d then set_static x d else d) (get_or c.args.self.now s None)) c.named_address-address.ensures.named
    ∙ ap (λ code. heard_at c.args.active c.args.to.now code c.args.words.now s (get_or c.args.self.now s None)) (sym c.in-Setdasa.is)))

pub returns-in-Setnewda : goal.returns-in-Setnewda
returns-in-Setnewda c =
    narrowed_seen c.self.inside.enabled (λ s place. option_map (set_new c.named_address-address-in-Setnewda.result) place) (heard_at c.args.active c.args.to.now c.args.code c.args.words.now) c.reached-reached.result c.self.inside.occupants
    c.each-in-Setnewda.new.self c.args.self.now c.each-in-Setnewda.ensures.slots (blind_new c.named_address-address-in-Setnewda.result) c.self.view_is c.each-in-Setnewda.ensures.changed
    (λ s l. reached_alike (set_new c.named_address-address-in-Setnewda.result) c.args.active c.args.to.now c.reached-reached.result s (get_or c.args.self.now s None) (c.reached-reached.ensures.reached s l)
    ∙ (ap (λ (x : Option ℕ). option_map (λ d. if reaches_at c.args.active c.args.to.now s d then set_new x d else d) (get_or c.args.self.now s None)) c.named_address-address-in-Setnewda.ensures.named
    ∙ ap (λ code. heard_at c.args.active c.args.to.now code c.args.words.now s (get_or c.args.self.now s None)) (sym c.in-Setnewda.is)))

-- the length of a command to all and of one to a device
length_alike : (active : ℕ) (to : Option ℕ) (code : Code) (words : List Word) (s : ℕ) (o : Option Device) (way : Direction) → (code ≡ SetLength way) ⊎ (code ≡ SetLengthDirect way)
    → option_map (λ d. if reaches_at active to s d then set_length way (named_length words) d else d) o ≡ heard_at active to code words s o
length_alike active to code words s o way (inl e) = ap (λ k. heard_at active to k words s o) (sym e)
length_alike active to code words s o way (inr e) = ap (λ k. heard_at active to k words s o) (sym e)

pub returns-in-SetLength : goal.returns-in-SetLength
returns-in-SetLength c =
    narrowed_seen c.self.inside.enabled (λ s place. option_map (set_length c.in-SetLength.way c.named_length-most.result) place) (heard_at c.args.active c.args.to.now c.args.code c.args.words.now) c.reached-reached.result c.self.inside.occupants
    c.each-in-SetLength.new.self c.args.self.now c.each-in-SetLength.ensures.slots (blind_length c.in-SetLength.way c.named_length-most.result) c.self.view_is c.each-in-SetLength.ensures.changed
    (λ s l. reached_alike (set_length c.in-SetLength.way c.named_length-most.result) c.args.active c.args.to.now c.reached-reached.result s (get_or c.args.self.now s None) (c.reached-reached.ensures.reached s l)
    ∙ (ap (λ (x : Option ℕ). option_map (λ d. if reaches_at c.args.active c.args.to.now s d then set_length c.in-SetLength.way x d else d) (get_or c.args.self.now s None)) c.named_length-most.ensures
    ∙ length_alike c.args.active c.args.to.now c.args.code c.args.words.now s (get_or c.args.self.now s None) c.in-SetLength.way c.in-SetLength.is))

pub returns-in-Deftgts : goal.returns-in-Deftgts
returns-in-Deftgts c = unheard_alike c.args.active c.args.to.now c.args.code c.args.words.now c.args.self.now c.in-Deftgts.is
