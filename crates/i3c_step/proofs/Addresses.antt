-- The invariant on addresses, and that each step keeps it.
use Rattle.std.proofs.lemmas.Bool.{and_parts, both_ways, cases_eq, cases_lt, cond-false, cond-true, eq-eqb, eqb-true, false≢true, leb-true, ne_eqb, not-false}
use Rattle.std.proofs.lemmas.List.{get_or-set_other, get_or_past, length-set}
use Rattle.std.proofs.Common.{◌≡◌, ℕ, ◌∷◌, [], ◌++◌, zero, suc, Bool, true, false, not, ◌&&◌, ◌==◌, if◌then◌else◌, is_none, nat_le, ◌||◌, List, length, get_or, set, ◌≤◌, ◌<◌, arith, Option, Some, None, option_map, ◌⊎◌, inl, inr, sym, refl, ap, ◌∙◌, subst}
use Rattle.std.proofs.lemmas.Option.{none-some, same_Some}
use Rattle.i3c_base.specs.declared.identity.Identity.{Identity}
use Rattle.i3c_base.specs.declared.identity.Lvr.{Lvr}
use Rattle.i3c_base.specs.Cutting.{CutList, Lost, lost_by}
use Rattle.i3c_step.specs.declared.events.Event.{Event}
use Rattle.i3c_step.specs.declared.events.Event.TheVariants.{Attach, DropOff, Raise, AskJoin, AskRole, Serve, Enec, Disec, Reset, SendList, ReadFrom, WriteTo, SetStatic, SetNew, Get, SetLength, OpenDaa, Round, EndDaa, HandOver}
use Rattle.i3c_base.specs.declared.requests.Fixed.{Fixed}
use Rattle.i3c_base.specs.declared.requests.Request.{Request}
use Rattle.i3c_step.specs.declared.replies.Reply.{Reply}
use Rattle.i3c_base.specs.declared.answers.RoundReply.{RoundReply}
use Rattle.i3c_base.specs.declared.requests.Served.{Served}
use Rattle.i3c_base.specs.declared.requests.Served.TheVariants.{Quiet, Recorded, Refused, Torn, Joining, WantsRole}
use Rattle.i3c_base.specs.declared.device.Setup.{Setup}
use Rattle.i3c_base.specs.Numbers.{same_identity}
use Rattle.i3c_base.specs.State.{Board, Device, Entry, IsPickable, IsStart, IsUsable, State, addressed, attached, change, declared_at, declared_in, device_at, each, entry_at, entry_in, entry_of, fixed_of, has_address, in_slot, is_the, is_usable, kept_again, kept_entry_of, kept_of, known_in, legacy_target_at, legacy_target_of, legacy_targets_of, no_devices, no_entries, raised_at, released, unaddressed, unkept}
use Rattle.i3c_base.specs.declared.range.TheConstants.{ADDRESSES}
use Rattle.i3c_base.specs.Local.{attach, drop_off, raise}
use Rattle.i3c_base.specs.declared.datum.Direction.{Direction}
use Rattle.i3c_base.specs.Frames.{Rekinds, active_has, handed, legacy_written, list, moved, overwritten, reaches, readdressed, rekinded, released_at, reset, takes_static, unaddressed_device, with_new, with_static, written, limited, with_length}
use Rattle.i3c_base.specs.Numbers.{KindSet}
use Rattle.i3c_base.specs.declared.answers.Answer.{Answer}
use Rattle.i3c_base.specs.Serve.{Frame, Serves, drives, each_driver, emptied, without_front, without_join, without_role}
use Rattle.i3c_base.specs.Round.{IsAddressFor, Rounds, assigned, ended, hears, opened, unhearing, winner, wins}
use Rattle.i3c_step.specs.Step.{Acts, Becomes, Step, checks, first_refusal, is_kept_for, is_pickable}
use Rattle.i3c_step.specs.Sound.{Addresses, HasDeclared, IsFor}
use Rattle.i3c_step.proofs.Handing.{declined, granted}
use Rattle.i3c_step.proofs.Follows.{Follows-serves}
use Rattle.i3c_step.proofs.Steps.{no_test, step_cases}
use Rattle.i3c_step.proofs.Transfers.{gets_keep, lengths_keep, limited_by, reads_keep, writes_keep}
use Rattle.i3c_base.proofs.Lookups.{attach_from, changed_at, length-changed, change_from, drop_off_from, each_from, emptied_from, length-no_entries, length-taken_over, no_devices_at, no_entries_at, option_map_from, set_at, set_from, set_in, taken_over_at}
use Rattle.i3c_base.proofs.StaticLaws.{declared_at_fixed, is_the-true, kept_again_declared, kept_at_known, same_identity-true}
use Rattle.i3c_step.proofs.Maps.{cond_kept_from}

-- device d had its identity and address in the same slot before
pub record WasThere (old : State) (s a : ℕ) (d : Device) : Type 0 where
  pub was : Device
  pub there : device_at old s ≡ Some was
  pub address : was.address ≡ Some a
  pub identity : was.identity ≡ d.identity

-- f says what e says, and is kept for the same identity, for the one that is declared at its static address, or for none
pub record IsRest (declared : List (Option Identity)) (e f : Entry) : Type 0 where
  pub bcr : f.bcr ≡ e.bcr
  pub dcr : f.dcr ≡ e.dcr
  pub fixed : (x : ℕ) → f.fixed ≡ Some x → e.fixed ≡ Some x
  pub kept : (j : Identity) → f.kept ≡ Some j → (e.kept ≡ Some j) ⊎ ((x : ℕ) × (e.fixed ≡ Some x) × (declared_in declared x ≡ Some j))

-- f has no other static address than e
abbrev pub KeepsFixed : Entry → Entry → Type 0
KeepsFixed e f = (x : ℕ) → f.fixed ≡ Some x → e.fixed ≡ Some x

-- an entry with the same static address keeps it
fixed_same : (e f : Entry) → e.fixed ≡ f.fixed → KeepsFixed e f
fixed_same e f same x p = same ∙ p

-- a static address that was declared still is
declared_from : (declared more : List (Option Identity)) (e f : Entry) → more ≡ declared → KeepsFixed e f → HasDeclared declared e → HasDeclared more f
declared_from declared more e f same keeps h x p = let d = h x (keeps x p) in (d.0, ap (λ ds. declared_in ds x) same ∙ d.1)

pub IsRest-refl : (declared : List (Option Identity)) (e : Entry) → IsRest declared e e
IsRest-refl declared e = record { bcr = refl; dcr = refl; fixed = λ x p. p; kept = λ j k. inl k }

IsRest-unkept : (declared : List (Option Identity)) (e : Entry) → IsRest declared e (unkept e)
IsRest-unkept declared e = record { bcr = refl; dcr = refl; fixed = λ x p. p; kept = λ j k. absurd (none-some j k) }

IsRest-released : (declared : List (Option Identity)) (e : Entry) → IsRest declared e (released e)
IsRest-released declared e = record { bcr = refl; dcr = refl; fixed = λ x p. absurd (none-some x p); kept = λ j k. absurd (none-some j k) }

-- the device in slot s was there with its identity and its static address, or has the static address of its identity
abbrev pub IsPlacedFrom : State → ℕ → Device → Type 0
IsPlacedFrom old s d =
    ((x : Device) × (device_at old s ≡ Some x) × (x.identity ≡ d.identity) × (x.fixed ≡ d.fixed)) ⊎ (d.fixed ≡ fixed_of old.declared d.identity)

-- no device, table entry or kept address came new
pub record NoneNew (old new : State) : Type 0 where
  pub devices : (s a : ℕ) (d : Device) → device_at new s ≡ Some d → d.address ≡ Some a → WasThere old s a d
  pub entries : (s a : ℕ) (d : Device) (e : Entry) → device_at new s ≡ Some d → d.address ≡ Some a → entry_at old a ≡ Some e → (f : Entry) × (entry_at new a ≡ Some f) × IsRest old.declared e f
  pub given : (a : ℕ) (f : Entry) → entry_at new a ≡ Some f → (e : Entry) × (entry_at old a ≡ Some e) × KeepsFixed e f
  pub legacy : (a : ℕ) → legacy_target_at old a ≡ None → legacy_target_at new a ≡ None
  pub placed : (s : ℕ) (d : Device) → device_at new s ≡ Some d → IsPlacedFrom old s d
  pub declared : new.declared ≡ old.declared
  pub long : length new.given ≡ length old.given

IsFor-rest : (declared : List (Option Identity)) (i j : Identity) (e f : Entry) → i ≡ j → IsFor declared i e → IsRest declared e f → IsFor declared j f
IsFor-rest declared i j e f same h r = subst (λ k. IsFor declared k f) same (record {
  bcr = r.bcr ∙ h.bcr;
  dcr = r.dcr ∙ h.dcr;
  kept = λ k l. elim (r.kept k l) [ inl x ↦ h.kept k x | inr x ↦ sym (same_Some i k (sym (h.fixed x.0 x.1) ∙ x.2)) ];
  fixed = λ x p. h.fixed x (r.fixed x p);
})

-- the static address stays that of the identity
placed_from : (old : State) (s : ℕ) (d : Device) → Addresses old → IsPlacedFrom old s d → d.fixed ≡ fixed_of old.declared d.identity
placed_from old s d inv h = elim h [ inl x ↦ sym x.3 ∙ (inv.placed s x.0 x.1 ∙ ap (fixed_of old.declared) x.2) | inr e ↦ e ]

pub Addresses-none_new : (old new : State) → NoneNew old new → Addresses old → Addresses new
Addresses-none_new old new n inv = record {
  used = λ s a d p q.
      let w = n.devices s a d p q in
      let u = inv.used s a w.was w.there w.address in
      let e = n.entries s a d u.0 p q u.1 in
      (e.0, e.1, subst (λ ds. IsFor ds d.identity e.0) (sym n.declared) (IsFor-rest old.declared w.was.identity d.identity u.0 e.0 w.identity u.2 e.2));
  alike = λ s t a d e p q x y. let w = n.devices s a d p x in let v = n.devices t a e q y in
      sym w.identity ∙ (inv.alike s t a w.was v.was w.there v.there w.address v.address ∙ v.identity);
  free = λ a f g. let e = n.given a f g in n.legacy a (inv.free a e.0 e.1);
  undeclared = λ a f g. let e = n.given a f g in ap (λ ds. declared_in ds a) n.declared ∙ inv.undeclared a e.0 e.1;
  placed = λ s d p. placed_from old s d inv (n.placed s d p) ∙ ap (λ ds. fixed_of ds d.identity) (sym n.declared);
  lone = λ a i e. n.legacy a (inv.lone a i (ap (λ ds. declared_in ds a) (sym n.declared) ∙ e));
  static = λ a i e. inv.static a i (ap (λ ds. declared_in ds a) (sym n.declared) ∙ e);
  fixed = λ a f g. let e = n.given a f g in declared_from old.declared new.declared e.0 f n.declared e.2 (inv.fixed a e.0 e.1);
  long = n.long ∙ inv.long;
}

-- a device keeps its identity and its static address, and its dynamic one or has none
pub record IsSteady (new old : Device) : Type 0 where
  pub identity : new.identity ≡ old.identity
  pub fixed : new.fixed ≡ old.fixed
  pub address : (a : ℕ) → new.address ≡ Some a → old.address ≡ Some a

pub IsSteady-if : (b : Bool) (d e : Device) → IsSteady e d → IsSteady (if b then e else d) d
IsSteady-if true d e h = h
IsSteady-if false d e h = record { identity = refl; fixed = refl; address = λ a p. p }

pub WasThere-each : (f : ℕ → Device → Device) (st : State) → ((s : ℕ) (d : Device) → IsSteady (f s d) d)
    → (s a : ℕ) (d : Device) → device_at (each f st) s ≡ Some d → d.address ≡ Some a → WasThere st s a d
WasThere-each f st steady s a d p q =
    let from = each_from f st s d p in
    record {
      was = from.0;
      there = from.1;
      address = (steady s from.0).address a (ap (λ x. x.address) from.2 ∙ q);
      identity = sym (steady s from.0).identity ∙ ap (λ x. x.identity) from.2;
    }

-- the places of devices, each of which was there
abbrev ArePlaced : State → State → Type 0
ArePlaced old new = (s : ℕ) (d : Device) → device_at new s ≡ Some d → IsPlacedFrom old s d

ArePlaced-each : (f : ℕ → Device → Device) (st : State) → ((s : ℕ) (d : Device) → IsSteady (f s d) d) → ArePlaced st (each f st)
ArePlaced-each f st steady s d p =
    let from = each_from f st s d p in
    let kept = steady s from.0 in
    inl (from.0, from.1, sym kept.identity ∙ ap (λ x. x.identity) from.2, sym kept.fixed ∙ ap (λ x. x.fixed) from.2)

pub NoneNew-from : (old new : State) → ((s a : ℕ) (d : Device) → device_at new s ≡ Some d → d.address ≡ Some a → WasThere old s a d) → ArePlaced old new
    → new.given ≡ old.given → ((a : ℕ) → legacy_target_at old a ≡ None → legacy_target_at new a ≡ None) → new.declared ≡ old.declared → NoneNew old new
NoneNew-from old new devices placed given legacy declared = record {
  devices = devices;
  entries = λ s a d e p q g. (e, ap (λ places. get_or places a None) given ∙ g, IsRest-refl old.declared e);
  given = λ a f g. (f, sym (ap (λ places. get_or places a None) given) ∙ g, fixed_same f f refl);
  legacy = legacy;
  placed = placed;
  declared = declared;
  long = ap length given;
}

-- devices that are in their slots as they were
there_placed : (old new : State) → ((s : ℕ) (d : Device) → device_at new s ≡ Some d → device_at old s ≡ Some d) → ArePlaced old new
there_placed old new h s d p = inl (d, h s d p, refl, refl)

pub NoneNew-refl : (st : State) → NoneNew st st
NoneNew-refl st = NoneNew-from st st (λ s a d p q. record { was = d; there = p; address = q; identity = refl })
    (there_placed st st (λ s d p. p)) refl (λ a l. l) refl

pub NoneNew-each : (f : ℕ → Device → Device) (st : State) → ((s : ℕ) (d : Device) → IsSteady (f s d) d) → NoneNew st (each f st)
NoneNew-each f st steady = NoneNew-from st (each f st) (WasThere-each f st steady) (ArePlaced-each f st steady) refl (λ a l. l) refl

pub NoneNew-change : (s : ℕ) (f : Device → Device) (st : State) → ((d : Device) → IsSteady (f d) d) → NoneNew st (change s f st)
NoneNew-change s f st steady = NoneNew-from st (change s f st) was placed refl (λ a l. l) refl
  where
    placed : ArePlaced st (change s f st)
    placed t d p =
        let from = change_from s f st t d p in
        let kept = IsSteady-if (t == s) from.0 (f from.0) (steady from.0) in
        inl (from.0, from.1, sym kept.identity ∙ ap (λ x. x.identity) from.2, sym kept.fixed ∙ ap (λ x. x.fixed) from.2)

    was : (t a : ℕ) (d : Device) → device_at (change s f st) t ≡ Some d → d.address ≡ Some a → WasThere st t a d
    was t a d p q =
        let from = change_from s f st t d p in
        let kept = IsSteady-if (t == s) from.0 (f from.0) (steady from.0) in
        record {
          was = from.0;
          there = from.1;
          address = kept.address a (ap (λ x. x.address) from.2 ∙ q);
          identity = sym kept.identity ∙ ap (λ x. x.identity) from.2;
        }

pub NoneNew-drop_off : (s : ℕ) (st : State) → NoneNew st (drop_off s st)
NoneNew-drop_off s st = NoneNew-from st (drop_off s st)
    (λ t a d p q. record { was = d; there = (drop_off_from s st t d p).1; address = q; identity = refl })
    (there_placed st (drop_off s st) (λ t d p. (drop_off_from s st t d p).1)) refl (λ a l. l) refl

pub NoneNew-emptied : (lost : Lost) (st : State) → NoneNew st (emptied lost st)
NoneNew-emptied lost st = NoneNew-from st (emptied lost st)
    (λ s a d p q. record { was = d; there = (emptied_from lost st s d p).1; address = q; identity = refl })
    (there_placed st (emptied lost st) (λ s d p. (emptied_from lost st s d p).1)) refl (λ a l. l) refl

pub NoneNew-attach : (s : ℕ) (setup : Setup) (st : State) → NoneNew st (attach s setup st)
NoneNew-attach s setup st = NoneNew-from st (attach s setup st) was placed refl (λ a l. l) refl
  where
    placed : ArePlaced st (attach s setup st)
    placed t d p = elim (attach_from s setup st t d p) [
      | inl e ↦ inr (ap (λ (x : Device). x.fixed) (sym e.1) ∙ ap (λ (x : Device). fixed_of st.declared x.identity) e.1)
      | inr e ↦ inl (d, e, refl, refl)
    ]

    was : (t a : ℕ) (d : Device) → device_at (attach s setup st) t ≡ Some d → d.address ≡ Some a → WasThere st t a d
    was t a d p q = elim (attach_from s setup st t d p) [
      | inl e ↦ absurd (none-some a (ap (λ x. x.address) e.1 ∙ q))
      | inr e ↦ record { was = d; there = e; address = q; identity = refl }
    ]

pub NoneNew-opened : (st : State) → NoneNew st (opened st)
NoneNew-opened st =
    let steady : (s : ℕ) (d : Device) → IsSteady (hears d) d = λ s d. IsSteady-if (is_none d.address) d (record d { hearing = true }) (record { identity = refl; fixed = refl; address = λ a p. p }) in
    NoneNew-from st (opened st) (WasThere-each (λ s d. hears d) st steady) (ArePlaced-each (λ s d. hears d) st steady) refl (λ a l. l) refl

pub NoneNew-ended : (st : State) → NoneNew st (ended st)
NoneNew-ended st =
    let steady : (s : ℕ) (d : Device) → IsSteady (unhearing d) d = λ s d. record { identity = refl; fixed = refl; address = λ a p. p } in
    NoneNew-from st (ended st) (WasThere-each (λ s d. unhearing d) st steady) (ArePlaced-each (λ s d. unhearing d) st steady) refl (λ a l. l) refl

-- a raise brings no address
pub NoneNew-raise : (s : ℕ) (byte : Option ℕ) (st : State) → NoneNew st (raise s byte st)
NoneNew-raise s byte st =
    let more : Device → Device = λ d. record d { waiting = d.waiting ++ record { number = suc (raised_at st s); byte = byte } ∷ [] } in
    let n = NoneNew-change s more st (λ d. record { identity = refl; fixed = refl; address = λ a p. p }) in
    NoneNew-from st (raise s byte st) n.devices n.placed refl (λ a l. l) refl

-- a change of enabled kinds brings no address
NoneNew-rekinded : (to : Option ℕ) (f : KindSet → KindSet) (st : State) → NoneNew st (rekinded to f st)
NoneNew-rekinded to f st =
    NoneNew-each (λ s d. if reaches st to s d then record d { kinds = f d.kinds } else d) st
    (λ s d. IsSteady-if (reaches st to s d) d (record d { kinds = f d.kinds }) (record { identity = refl; fixed = refl; address = λ a p. p }))

pub NoneNew-rekinds : (to : Option ℕ) (f : KindSet → KindSet) (answer : Answer) (lost : Lost) (mid done : State) → Rekinds to f answer lost mid done → NoneNew mid done
NoneNew-rekinds None f answer lost mid done h = subst (NoneNew mid) (sym h.1) (NoneNew-rekinded None f mid)
NoneNew-rekinds (Some a) f answer lost mid done h = elim h [
  | inl e ↦ subst (NoneNew mid) (sym e.2) (NoneNew-rekinded (Some a) f mid)
  | inr e ↦ subst (NoneNew mid) (sym e.2) (NoneNew-refl mid)
]

-- a write changes registers, and no legacy target comes by it
pub NoneNew-written : (a : ℕ) (bytes : List ℕ) (st : State) → NoneNew st (written a bytes st)
NoneNew-written a bytes st =
    let n = NoneNew-each (λ s d. if reaches st (Some a) s d then record d { registers = overwritten bytes d.registers } else d) st
    (λ s d. IsSteady-if (reaches st (Some a) s d) d (record d { registers = overwritten bytes d.registers }) (record { identity = refl; fixed = refl; address = λ b p. p })) in
    NoneNew-from st (written a bytes st) n.devices n.placed refl (λ b none. elim (set_at st.legacy a b (legacy_written bytes (legacy_target_at st a)) None) [
      | inl e ↦ e.1 ∙ ap (legacy_written bytes) (ap (legacy_target_at st) (sym e.0) ∙ none)
      | inr e ↦ e ∙ none
    ]) refl

pub NoneNew-with_length : (to : Option ℕ) (way : Direction) (most : ℕ) (st : State) → NoneNew st (with_length to way most st)
NoneNew-with_length to way most st = NoneNew-each (λ s d. if reaches st to s d then limited way most d else d) st
    (λ s d. IsSteady-if (reaches st to s d) d (limited way most d)
    (limited_by (λ x. IsSteady x d) way most d (record { identity = refl; fixed = refl; address = λ b p. p }) (record { identity = refl; fixed = refl; address = λ b p. p })))

pub NoneNew-driver : (r : Request) (f : Device → Device) (st : State) → ((d : Device) → IsSteady (f d) d) → NoneNew st (each_driver r f st)
NoneNew-driver r f st steady = NoneNew-each (λ s d. if drives st r s then f d else d) st (λ s d. IsSteady-if (drives st r s) d (f d) (steady d))

-- serving brings no address
pub NoneNew-serves : (st : State) (policy : Fixed) (lost : Lost) (served : Served) (new : State) → Serves st policy lost served new → NoneNew st new
NoneNew-serves st policy lost Quiet new h = subst (NoneNew st) (sym h.1) (NoneNew-refl st)
NoneNew-serves st policy lost Refused new h = subst (NoneNew st) (sym h.1) (NoneNew-refl st)
NoneNew-serves st policy lost Joining new h = subst (NoneNew st) (sym h.2) (NoneNew-driver Request.Join without_join st (λ d. record { identity = refl; fixed = refl; address = λ a p. p }))
NoneNew-serves st policy lost (WantsRole a) new h = subst (NoneNew st) (sym h.2) (NoneNew-driver (Request.Role a) without_role st (λ d. record { identity = refl; fixed = refl; address = λ a p. p }))
NoneNew-serves st policy lost (Recorded place) new h = subst (NoneNew st) (sym h.left)
    (let n : NoneNew st (each_driver (Request.Interrupt h.at) without_front st) = NoneNew-driver (Request.Interrupt h.at) without_front st (λ d. record { identity = refl; fixed = refl; address = λ a p. p }) in
    NoneNew-from st _ n.devices n.placed refl (λ a l. l) refl)
NoneNew-serves st policy lost Torn new h = subst (NoneNew st) (sym h.left)
    (NoneNew-driver (Request.Interrupt h.at) without_front st (λ d. record { identity = refl; fixed = refl; address = λ a p. p }))

-- a frame keeps the invariant if its own part does
pub Addresses-frame : (old : State) (policy : Fixed) (cuts : CutList) (served : Served) (rest : ℕ) (Own : Lost → State → State → Type 0) (new : State)
    → ((lost : Lost) (mid done : State) → Own lost mid done → NoneNew mid done) → Frame old policy cuts served rest Own new → Addresses old → Addresses new
Addresses-frame old policy cuts served rest Own new own frame inv =
    let mid : Addresses frame.mid = Addresses-none_new old frame.mid (NoneNew-serves old policy _ served frame.mid frame.serves) inv in
    let done : Addresses frame.done = Addresses-none_new frame.mid frame.done (own _ frame.mid frame.done frame.own) mid in
    subst Addresses (sym frame.left) (Addresses-none_new frame.done _ (NoneNew-emptied _ frame.done) done)

-- serving leaves the table, and which addresses the active controller has
pub record IsSettled (old mid : State) : Type 0 where
  pub given : mid.given ≡ old.given
  pub legacy : mid.legacy ≡ old.legacy
  pub declared : mid.declared ≡ old.declared
  pub active : (a : ℕ) → active_has old a ≡ false → active_has mid a ≡ false

abbrev AreSameTables : State → State → Type 0
AreSameTables old mid = (mid.given ≡ old.given) × (mid.legacy ≡ old.legacy) × (mid.declared ≡ old.declared)

same_tables : (old mid : State) → mid ≡ old → AreSameTables old mid
same_tables old mid e = (ap (λ (st : State). st.given) e, ap (λ (st : State). st.legacy) e, ap (λ (st : State). st.declared) e)

tables_served : (st : State) (policy : Fixed) (lost : Lost) (served : Served) (new : State) → Serves st policy lost served new → AreSameTables st new
tables_served st policy lost Quiet new h = same_tables st new h.1
tables_served st policy lost Refused new h = same_tables st new h.1
tables_served st policy lost Joining new h = same_tables (each_driver Request.Join without_join st) new h.2
tables_served st policy lost (WantsRole a) new h = same_tables (each_driver (Request.Role a) without_role st) new h.2
tables_served st policy lost (Recorded place) new h =
    (ap (λ (s : State). s.given) h.left, ap (λ (s : State). s.legacy) h.left, ap (λ (s : State). s.declared) h.left)
tables_served st policy lost Torn new h = same_tables (each_driver (Request.Interrupt h.at) without_front st) new h.left

-- a device that has an address had it before
active_served : (old mid : State) (a : ℕ) → NoneNew old mid → mid.active ≡ old.active → active_has old a ≡ false → active_has mid a ≡ false
active_served old mid a none same free = go (device_at mid mid.active) refl
  where
    has : (o : Option ℕ) → is_the a o ≡ true → o ≡ Some a
    has None h = absurd (false≢true h)
    has (Some x) h = ap Some (eqb-true x a h)

    was : (d : Device) → device_at mid mid.active ≡ Some d → (b : Bool) → has_address a d ≡ b → b ≡ false
    was d p true e =
        let w = none.devices mid.active a d p (has d.address e) in
        let there : device_at old old.active ≡ Some w.was = ap (device_at old) (sym same) ∙ w.there in
        absurd (both_ways (active_has old a) free (ap (in_slot (has_address a)) there ∙ (ap (is_the a) w.address ∙ eq-eqb a a refl)))
    was d p false e = refl

    go : (o : Option Device) → device_at mid mid.active ≡ o → in_slot (has_address a) (device_at mid mid.active) ≡ false
    go None e = ap (in_slot (has_address a)) e
    go (Some d) e = ap (in_slot (has_address a)) e ∙ was d e (has_address a d) refl

pub settled_served : (old : State) (policy : Fixed) (lost : Lost) (served : Served) (mid : State) → Serves old policy lost served mid → IsSettled old mid
settled_served old policy lost served mid h =
    let tables = tables_served old policy lost served mid h in
    record {
      given = tables.0;
      legacy = tables.1;
      declared = tables.2;
      active = λ a. active_served old mid a (NoneNew-serves old policy lost served mid h) (Follows-serves old policy lost served mid h).active;
    }

-- a frame keeps the invariant if its own part does so after it has served
Addresses-own : (old : State) (policy : Fixed) (cuts : CutList) (served : Served) (rest : ℕ) (Own : Lost → State → State → Type 0) (new : State)
    → ((lost : Lost) (mid done : State) → IsSettled old mid → Own lost mid done → Addresses mid → Addresses done) → Frame old policy cuts served rest Own new → Addresses old → Addresses new
Addresses-own old policy cuts served rest Own new own frame inv =
    let mid : Addresses frame.mid = Addresses-none_new old frame.mid (NoneNew-serves old policy _ served frame.mid frame.serves) inv in
    let done : Addresses frame.done = own _ frame.mid frame.done (settled_served old policy _ served frame.mid frame.serves) frame.own mid in
    subst Addresses (sym frame.left) (Addresses-none_new frame.done _ (NoneNew-emptied _ frame.done) done)

-- what makes a an address for the identity i: its users have i, no legacy target has it, nobody is declared there, and it has
-- a place in the table
pub record Suits (st : State) (i : Identity) (a : ℕ) : Type 0 where
  users : (s : ℕ) (d : Device) → device_at st s ≡ Some d → d.address ≡ Some a → d.identity ≡ i
  free : legacy_target_at st a ≡ None
  undeclared : declared_at st a ≡ None
  low : a < length st.given

kept_from : (o : Option Entry) (i : Identity) → kept_of o ≡ Some i → (e : Entry) × (o ≡ Some e) × (e.kept ≡ Some i)
kept_from None i h = absurd (none-some i h)
kept_from (Some e) i h = (e, refl, h)

entry_low : (st : State) (a : ℕ) (e : Entry) → entry_at st a ≡ Some e → a < length st.given
entry_low st a e h = elim (cases_lt a (length st.given)) [ inl l ↦ l | inr past ↦ absurd (none-some e (sym (get_or_past st.given a None past) ∙ h)) ]

-- an address that is kept for the identity does, and one that may be picked does for each
Suits-kept : (st : State) (i : Identity) (a : ℕ) → Addresses st → kept_of (entry_at st a) ≡ Some i → Suits st i a
Suits-kept st i a inv kept =
    let k = kept_from (entry_at st a) i kept in
    record {
      users = λ s d p q.
          let u = inv.used s a d p q in
          let same : k.0 ≡ u.0 = same_Some k.0 u.0 (sym k.1 ∙ u.1) in
          sym (u.2.kept i (ap (λ (e : Entry). e.kept) (sym same) ∙ k.2));
      free = inv.free a k.0 k.1;
      undeclared = inv.undeclared a k.0 k.1;
      low = entry_low st a k.0 k.1;
    }

Suits-pickable : (st : State) (i : Identity) (a : ℕ) → Addresses st → IsPickable st a → Suits st i a
Suits-pickable st i a inv pick = record {
  users = λ s d p q. let u = inv.used s a d p q in absurd (none-some u.0 (sym pick.1 ∙ u.1));
  free = pick.2;
  undeclared = pick.3;
  low = let l : a ≤ 0x77 = pick.0.1 in let n : length st.given ≡ ADDRESSES = inv.long in omega arith;
}

Suits-address : (st : State) (i : Identity) (a : ℕ) → Addresses st → IsAddressFor st i a → Suits st i a
Suits-address st i a inv h = elim h [ inl kept ↦ Suits-kept st i a inv kept.0 | inr pick ↦ Suits-pickable st i a inv pick.1.0 ]

or-cases : (b c : Bool) → (b || c) ≡ true → (b ≡ true) ⊎ (c ≡ true)
or-cases true c h = inl refl
or-cases false c h = inr h

or-false : (b c : Bool) → (b || c) ≡ false → (b ≡ false) × (c ≡ false)
or-false true c h = absurd (false≢true (sym h))
or-false false c h = (refl, h)

none_at : {A : Type 0} (o : Option A) → is_none o ≡ true → o ≡ None
none_at None h = refl
none_at (Some x) h = absurd (false≢true h)

-- an address that the test finds usable is
usable_is : (a : ℕ) → is_usable a ≡ true → IsUsable a
usable_is a h =
    let p = and_parts (nat_le 0x08 a) (nat_le a 0x77 && (not (a == 0x3E) && (not (a == 0x5E) && (not (a == 0x6E) && not (a == 0x76))))) h in
    let q = and_parts (nat_le a 0x77) (not (a == 0x3E) && (not (a == 0x5E) && (not (a == 0x6E) && not (a == 0x76)))) p.1 in
    let r = and_parts (not (a == 0x3E)) (not (a == 0x5E) && (not (a == 0x6E) && not (a == 0x76))) q.1 in
    let u = and_parts (not (a == 0x5E)) (not (a == 0x6E) && not (a == 0x76)) r.1 in
    let v = and_parts (not (a == 0x6E)) (not (a == 0x76)) u.1 in
    (leb-true 0x08 a p.0, leb-true a 0x77 q.0, other 0x3E r.0, other 0x5E u.0, other 0x6E v.0, other 0x76 v.1)
  where
    other : (k : ℕ) → not (a == k) ≡ true → a ≡ k → ⊥
    other k e same = both_ways (not (a == k)) (ap not (eq-eqb a k same)) e

-- an address that may be picked by the test may be picked after serving
pub pickable_settled : (old mid : State) (a : ℕ) → IsSettled old mid → is_pickable old a ≡ true → IsPickable mid a
pickable_settled old mid a same h =
    let p = and_parts (is_usable a) (is_none (entry_at old a) && (is_none (legacy_target_at old a) && is_none (declared_at old a))) h in
    let q = and_parts (is_none (entry_at old a)) (is_none (legacy_target_at old a) && is_none (declared_at old a)) p.1 in
    let r = and_parts (is_none (legacy_target_at old a)) (is_none (declared_at old a)) q.1 in (
      usable_is a p.0,
      ap (λ es. entry_in es a) same.given ∙ none_at (entry_at old a) q.0,
      ap (λ ts. get_or ts a None) same.legacy ∙ none_at (legacy_target_at old a) r.0,
      ap (λ ds. declared_in ds a) same.declared ∙ none_at (declared_at old a) r.1,
    )

-- an address that SETDASA may give suits the declared identity
pub Suits-static : (old mid : State) (a : ℕ) (i : Identity) → IsSettled old mid → (is_pickable old a || is_kept_for old (Some i) a) ≡ true → Addresses mid → Suits mid i a
Suits-static old mid a i same h inv = elim (or-cases (is_pickable old a) (is_kept_for old (Some i) a) h) [
  | inl p ↦ Suits-pickable mid i a inv (pickable_settled old mid a same p)
  | inr k ↦ Suits-kept mid i a inv (ap (λ es. kept_of (entry_in es a)) same.given ∙ kept_at_known old.given i a (is_the-true a (known_in old.given i) k))
]

-- devices of the identity i were given the address a, which entered the table; the rest was there before
record Gives (st after : State) (i : Identity) (a : ℕ) : Type 0 where
  from : (s b : ℕ) (d : Device) → device_at after s ≡ Some d → d.address ≡ Some b → ((b ≡ a) × (d.identity ≡ i)) ⊎ WasThere st s b d
  here : entry_at after a ≡ Some (kept_entry_of st.declared i)
  rest : (b : ℕ) (e : Entry) → (b ≡ a → ⊥) → entry_at st b ≡ Some e → (f : Entry) × (entry_at after b ≡ Some f) × IsRest st.declared e f
  back : (b : ℕ) (f : Entry) → (b ≡ a → ⊥) → entry_at after b ≡ Some f → (e : Entry) × (entry_at st b ≡ Some e) × KeepsFixed e f
  placed : ArePlaced st after
  legacy : after.legacy ≡ st.legacy
  declared : after.declared ≡ st.declared
  long : length after.given ≡ length st.given

-- that keeps the invariant, where the address suits the identity
Addresses-gives : (st after : State) (i : Identity) (a : ℕ) → Suits st i a → Gives st after i a → Addresses st → Addresses after
Addresses-gives st after i a suits gives inv = record {
  used = λ s b d p q. elim (gives.from s b d p q) [
    | inl e ↦ new b d.identity e.0 e.1
    | inr w ↦ elim (cases_eq b a) [
      | inl e ↦ new b d.identity e (sym w.identity ∙ suits.users s w.was w.there (w.address ∙ ap Some e))
      | inr n ↦
          let u = inv.used s b w.was w.there w.address in
          let f = gives.rest b u.0 n u.1 in
          (f.0, f.1, subst (λ ds. IsFor ds d.identity f.0) (sym gives.declared) (IsFor-rest st.declared w.was.identity d.identity u.0 f.0 w.identity u.2 f.2))
    ]
  ];
  alike = λ s t b d e p q x y. elim (gives.from s b d p x) [
    | inl w ↦ elim (gives.from t b e q y) [
      | inl v ↦ w.1 ∙ sym v.1
      | inr v ↦ w.1 ∙ (sym (suits.users t v.was v.there (v.address ∙ ap Some w.0)) ∙ v.identity)
    ]
    | inr w ↦ elim (gives.from t b e q y) [
      | inl v ↦ sym w.identity ∙ (suits.users s w.was w.there (w.address ∙ ap Some v.0) ∙ sym v.1)
      | inr v ↦ sym w.identity ∙ (inv.alike s t b w.was v.was w.there v.there w.address v.address ∙ v.identity)
    ]
  ];
  free = λ b e g. ap (λ places. get_or places b None) gives.legacy ∙ elim (cases_eq b a) [
    | inl f ↦ ap (legacy_target_at st) f ∙ suits.free
    | inr n ↦ let k = gives.back b e n g in inv.free b k.0 k.1
  ];
  undeclared = λ b e g. ap (λ places. declared_in places b) gives.declared ∙ elim (cases_eq b a) [
    | inl f ↦ ap (declared_at st) f ∙ suits.undeclared
    | inr n ↦ let k = gives.back b e n g in inv.undeclared b k.0 k.1
  ];
  placed = λ s d p. placed_from st s d inv (gives.placed s d p) ∙ ap (λ ds. fixed_of ds d.identity) (sym gives.declared);
  lone = λ b j e. ap (λ places. get_or places b None) gives.legacy ∙ inv.lone b j (ap (λ ds. declared_in ds b) (sym gives.declared) ∙ e);
  static = λ b j e. inv.static b j (ap (λ ds. declared_in ds b) (sym gives.declared) ∙ e);
  fixed = λ b f g. elim (cases_eq b a) [
    | inl e ↦
        let same : kept_entry_of st.declared i ≡ f = same_Some _ f (sym gives.here ∙ (sym (ap (entry_at after) e) ∙ g)) in
        λ x p. (i, ap (λ ds. declared_in ds x) gives.declared ∙ declared_at_fixed st.declared i x (ap (λ (k : Entry). k.fixed) same ∙ p))
    | inr n ↦ let k = gives.back b f n g in declared_from st.declared after.declared k.0 f gives.declared k.2 (inv.fixed b k.0 k.1)
  ];
  long = gives.long ∙ inv.long;
}
  where
    new : (b : ℕ) (j : Identity) → b ≡ a → j ≡ i → (e : Entry) × (entry_at after b ≡ Some e) × IsFor after.declared j e
    new b j e f = (
      kept_entry_of st.declared i,
      ap (entry_at after) e ∙ gives.here,
      subst (λ ds. IsFor ds j (kept_entry_of st.declared i)) (sym gives.declared) (record {
        bcr = ap (λ (k : Identity). k.bcr) (sym f);
        dcr = ap (λ (k : Identity). k.dcr) (sym f);
        kept = λ k l. sym (same_Some i k l) ∙ sym f;
        fixed = λ x p. declared_at_fixed st.declared i x p ∙ ap Some (sym f);
      }),
    )

-- a device with the address b after an assignment is a winner, or was there
assigned_from : (lost : Lost) (i : Identity) (a : ℕ) (st : State) (s b : ℕ) (d : Device)
    → device_at (assigned lost i a st) s ≡ Some d → d.address ≡ Some b → ((b ≡ a) × (d.identity ≡ i)) ⊎ WasThere st s b d
assigned_from lost i a st s b d p q =
    let from = each_from (λ t x. if wins lost i t x then winner a x else x) st s d p in
    go from.0 from.1 (wins lost i s from.0) refl from.2
  where
    go : (x : Device) → device_at st s ≡ Some x → (t : Bool) → wins lost i s x ≡ t → (if t then winner a x else x) ≡ d → ((b ≡ a) × (d.identity ≡ i)) ⊎ WasThere st s b d
    go x there true won e =
        let parts = and_parts x.hearing (not (lost s) && same_identity x.identity i) won in
        let id = and_parts (not (lost s)) (same_identity x.identity i) parts.1 in
        inl (sym (same_Some a b (ap (λ y. y.address) e ∙ q)), ap (λ y. y.identity) (sym e) ∙ same_identity-true x.identity i id.1)
    go x there false won e = inr (record { was = x; there = there; address = ap (λ y. y.address) e ∙ q; identity = ap (λ y. y.identity) e })

IsSteady-winner : (b : Bool) (a : ℕ) (d : Device) → ((if b then winner a d else d).identity ≡ d.identity) × ((if b then winner a d else d).fixed ≡ d.fixed)
IsSteady-winner true a d = (refl, refl)
IsSteady-winner false a d = (refl, refl)

-- devices that get an address stay in their slots
placed_each : (f : ℕ → Device → Device) (st : State) → ((s : ℕ) (d : Device) → ((f s d).identity ≡ d.identity) × ((f s d).fixed ≡ d.fixed)) → ArePlaced st (each f st)
placed_each f st same s d p =
    let x = each_from f st s d p in
    inl (x.0, x.1, sym (same s x.0).0 ∙ ap (λ (y : Device). y.identity) x.2, sym (same s x.0).1 ∙ ap (λ (y : Device). y.fixed) x.2)

-- the entry of an address that is put into the table, and all others
put_here : (given : List (Option Entry)) (a : ℕ) (e : Entry) → a < length given → entry_in (set given a (Some e)) a ≡ Some e
put_here given a e low = set_in given a a (Some e) None low ∙ cond-true (a == a) _ _ (eq-eqb a a refl)

put_other : (given : List (Option Entry)) (a b : ℕ) (e : Entry) → a < length given → (b ≡ a → ⊥) → entry_in (set given a (Some e)) b ≡ entry_in given b
put_other given a b e low n = set_in given a b (Some e) None low ∙ cond-false (b == a) _ _ (ne_eqb b a n)

-- an assignment keeps the invariant
pub Addresses-assigned : (lost : Lost) (i : Identity) (a : ℕ) (st : State) → IsAddressFor st i a → Addresses st → Addresses (assigned lost i a st)
Addresses-assigned lost i a st for inv = let suits = Suits-address st i a inv for in Addresses-gives st (assigned lost i a st) i a suits (record {
  from = assigned_from lost i a st;
  here = put_here st.given a (kept_entry_of st.declared i) suits.low;
  rest = λ b e n g. (e, put_other st.given a b (kept_entry_of st.declared i) suits.low n ∙ g, IsRest-refl st.declared e);
  back = λ b f n g. (f, sym (put_other st.given a b (kept_entry_of st.declared i) suits.low n) ∙ g, fixed_same f f refl);
  placed = placed_each (λ s d. if wins lost i s d then winner a d else d) st (λ s d. IsSteady-winner (wins lost i s d) a d);
  legacy = refl;
  declared = refl;
  long = length-set st.given a (Some (kept_entry_of st.declared i));
}) inv

-- an entry before an address is released, and after it
released_rest : (declared : List (Option Identity)) (o : Option ℕ) (given : List (Option Entry)) (b : ℕ) (e : Entry) → entry_in given b ≡ Some e
    → (f : Entry) × (entry_in (released_at o given) b ≡ Some f) × IsRest declared e f
released_rest declared None given b e g = (e, g, IsRest-refl declared e)
released_rest declared (Some a) given b e g = elim (set_at given a b (option_map released (entry_in given a)) None) [
  | inl h ↦ (released e, h.1 ∙ ap (option_map released) (ap (entry_in given) (sym h.0) ∙ g), IsRest-released declared e)
  | inr h ↦ (e, h ∙ g, IsRest-refl declared e)
]

released_back : (o : Option ℕ) (given : List (Option Entry)) (b : ℕ) (f : Entry) → entry_in (released_at o given) b ≡ Some f → (e : Entry) × (entry_in given b ≡ Some e) × KeepsFixed e f
released_back None given b f g = (f, g, fixed_same f f refl)
released_back (Some a) given b f g = elim (set_at given a b (option_map released (entry_in given a)) None) [
  | inl h ↦
      let x = option_map_from released (entry_in given a) f (sym h.1 ∙ g) in
      (x.0, ap (entry_in given) h.0 ∙ x.1, λ y p. absurd (none-some y (ap (λ (k : Entry). k.fixed) x.2 ∙ p)))
  | inr h ↦ (f, sym h ∙ g, fixed_same f f refl)
]

length-released : (o : Option ℕ) (given : List (Option Entry)) → length (released_at o given) ≡ length given
length-released None given = refl
length-released (Some a) given = length-set given a (option_map released (entry_in given a))

-- a device with the address b after SETDASA took it, or was there
static_from : (f : ℕ) (i : Identity) (a : ℕ) (st : State) → declared_at st f ≡ Some i → Addresses st → (s b : ℕ) (d : Device)
    → device_at (with_static f i a st) s ≡ Some d → d.address ≡ Some b → ((b ≡ a) × (d.identity ≡ i)) ⊎ WasThere st s b d
static_from f i a st declared inv s b d p q =
    let from = each_from (λ t x. if takes_static st.active f t x then winner a x else x) st s d p in
    go from.0 from.1 (takes_static st.active f s from.0) refl from.2
  where
    static : (o : Option ℕ) → is_the f o ≡ true → o ≡ Some f
    static None h = absurd (false≢true h)
    static (Some x) h = ap Some (eqb-true x f h)

    go : (x : Device) → device_at st s ≡ Some x → (t : Bool) → takes_static st.active f s x ≡ t → (if t then winner a x else x) ≡ d → ((b ≡ a) × (d.identity ≡ i)) ⊎ WasThere st s b d
    go x there true takes e =
        let parts = and_parts (not (s == st.active)) (is_none x.address && is_the f x.fixed) takes in
        let fixed = static x.fixed (and_parts (is_none x.address) (is_the f x.fixed) parts.1).1 in
        let its : declared_at st f ≡ Some x.identity = declared_at_fixed st.declared x.identity f (sym (inv.placed s x there) ∙ fixed) in
        inl (sym (same_Some a b (ap (λ y. y.address) e ∙ q)), ap (λ y. y.identity) (sym e) ∙ same_Some x.identity i (sym its ∙ declared))
    go x there false takes e = inr (record { was = x; there = there; address = ap (λ y. y.address) e ∙ q; identity = ap (λ y. y.identity) e })

-- SETDASA keeps the invariant
pub Addresses-with_static : (f : ℕ) (i : Identity) (a : ℕ) (st : State) → declared_at st f ≡ Some i → Suits st i a → Addresses st → Addresses (with_static f i a st)
Addresses-with_static f i a st declared suits inv = Addresses-gives st (with_static f i a st) i a suits (record {
  from = static_from f i a st declared inv;
  here = put_here before a (kept_entry_of st.declared i) low;
  rest = λ b e n g. let r = released_rest st.declared (known_in st.given i) st.given b e g in (r.0, put_other before a b (kept_entry_of st.declared i) low n ∙ r.1, r.2);
  back = λ b g n h. released_back (known_in st.given i) st.given b g (sym (put_other before a b (kept_entry_of st.declared i) low n) ∙ h);
  placed = placed_each (λ s d. if takes_static st.active f s d then winner a d else d) st (λ s d. IsSteady-winner (takes_static st.active f s d) a d);
  legacy = refl;
  declared = refl;
  long = length-set before a (Some (kept_entry_of st.declared i)) ∙ length-released (known_in st.given i) st.given;
}) inv
  where
    before : List (Option Entry)
    before = released_at (known_in st.given i) st.given

    low : a < length before
    low = subst (λ n. a < n) (sym (length-released (known_in st.given i) st.given)) suits.low

-- the entries of a table in which one entry has moved to an address that had none
moved_at : (given : List (Option Entry)) (old a b : ℕ) → a < length given → entry_in (moved old a given) b ≡ (if b == a then entry_in given old else entry_in (set given old None) b)
moved_at given old a b low = set_in (set given old None) a b (entry_in given old) None (subst (λ n. a < n) (sym (length-set given old None)) low)

moved_other : (given : List (Option Entry)) (old a b : ℕ) → a < length given → (b ≡ a → ⊥) → (b ≡ old → ⊥) → entry_in (moved old a given) b ≡ entry_in given b
moved_other given old a b low n m = moved_at given old a b low ∙ (cond-false (b == a) _ _ (ne_eqb b a n) ∙ get_or-set_other given old b None None m)

-- a device with the address b after SETNEWDA had the old one, or was there
with_new_from : (old a : ℕ) (st : State) → active_has st old ≡ false → (s b : ℕ) (d : Device)
    → device_at (with_new old a st) s ≡ Some d → d.address ≡ Some b → ((b ≡ a) × WasThere st s old d) ⊎ ((b ≡ old → ⊥) × WasThere st s b d)
with_new_from old a st other s b d p q =
    let from = each_from (λ t x. if reaches st (Some old) t x then readdressed a x else x) st s d p in
    go from.0 from.1 (reaches st (Some old) s from.0) refl from.2
  where
    has : (o : Option ℕ) → is_the old o ≡ true → o ≡ Some old
    has None h = absurd (false≢true h)
    has (Some x) h = ap Some (eqb-true x old h)

    reached : (x : Device) → device_at st s ≡ Some x → x.address ≡ Some old → reaches st (Some old) s x ≡ true
    reached x there e = elim (cases_eq s st.active) [
      | inl same ↦ absurd (both_ways (active_has st old) other (ap (in_slot (has_address old)) (ap (device_at st) (sym same) ∙ there) ∙ (ap (is_the old) e ∙ eq-eqb old old refl)))
      | inr n ↦ ap (λ c. not c && has_address old x) (ne_eqb s st.active n) ∙ (ap (is_the old) e ∙ eq-eqb old old refl)
    ]

    go : (x : Device) → device_at st s ≡ Some x → (t : Bool) → reaches st (Some old) s x ≡ t → (if t then readdressed a x else x) ≡ d
        → ((b ≡ a) × WasThere st s old d) ⊎ ((b ≡ old → ⊥) × WasThere st s b d)
    go x there true hears e =
        let parts = and_parts (not (s == st.active)) (has_address old x) hears in
        inl (sym (same_Some a b (ap (λ y. y.address) e ∙ q)), record { was = x; there = there; address = has x.address parts.1; identity = ap (λ y. y.identity) e })
    go x there false hears e =
        let address = ap (λ (y : Device). y.address) e ∙ q in
        inr ((λ same. both_ways (reaches st (Some old) s x) hears (reached x there (address ∙ ap Some same))), record { was = x; there = there; address = address; identity = ap (λ y. y.identity) e })

IsSteady-readdressed : (b : Bool) (a : ℕ) (d : Device) → ((if b then readdressed a d else d).identity ≡ d.identity) × ((if b then readdressed a d else d).fixed ≡ d.fixed)
IsSteady-readdressed true a d = (refl, refl)
IsSteady-readdressed false a d = (refl, refl)

-- SETNEWDA keeps the invariant
pub Addresses-with_new : (old a : ℕ) (st : State) → active_has st old ≡ false → IsPickable st a → Addresses st → Addresses (with_new old a st)
Addresses-with_new old a st other pick inv = record {
  used = λ s b d p q. elim (with_new_from old a st other s b d p q) [
    | inl w ↦ let u = inv.used s old w.1.was w.1.there w.1.address in (u.0, ap (entry_in (moved old a st.given)) w.0 ∙ (here ∙ u.1), IsFor-rest st.declared _ d.identity u.0 u.0 w.1.identity u.2 (IsRest-refl st.declared u.0))
    | inr w ↦ let u = inv.used s b w.1.was w.1.there w.1.address in
        (u.0, moved_other st.given old a b low (λ e. none-some u.0 (sym pick.1 ∙ (ap (entry_at st) (sym e) ∙ u.1))) w.0 ∙ u.1, IsFor-rest st.declared _ d.identity u.0 u.0 w.1.identity u.2 (IsRest-refl st.declared u.0))
  ];
  alike = λ s t b d e p q x y. elim (with_new_from old a st other s b d p x) [
    | inl w ↦ elim (with_new_from old a st other t b e q y) [
      | inl v ↦ sym w.1.identity ∙ (inv.alike s t old w.1.was v.1.was w.1.there v.1.there w.1.address v.1.address ∙ v.1.identity)
      | inr v ↦ absurd (unused t v.1.was v.1.there (v.1.address ∙ ap Some w.0))
    ]
    | inr w ↦ elim (with_new_from old a st other t b e q y) [
      | inl v ↦ absurd (unused s w.1.was w.1.there (w.1.address ∙ ap Some v.0))
      | inr v ↦ sym w.1.identity ∙ (inv.alike s t b w.1.was v.1.was w.1.there v.1.there w.1.address v.1.address ∙ v.1.identity)
    ]
  ];
  free = λ b e g. elim (cases_eq b a) [ inl same ↦ ap (legacy_target_at st) same ∙ pick.2 | inr n ↦ let k = back b e n g in inv.free b k.0 k.1 ];
  undeclared = λ b e g. elim (cases_eq b a) [ inl same ↦ ap (declared_at st) same ∙ pick.3 | inr n ↦ let k = back b e n g in inv.undeclared b k.0 k.1 ];
  placed = λ s d p. placed_from st s d inv (placed_each (λ t x. if reaches st (Some old) t x then readdressed a x else x) st (λ t x. IsSteady-readdressed (reaches st (Some old) t x) a x) s d p);
  lone = inv.lone;
  static = inv.static;
  fixed = λ b e g. elim (cases_eq b a) [
    | inl same ↦ inv.fixed old e (sym here ∙ (sym (ap (entry_in (moved old a st.given)) same) ∙ g))
    | inr n ↦ let k = back b e n g in declared_from st.declared st.declared k.0 e refl k.2 (inv.fixed b k.0 k.1)
  ];
  long = length-set (set st.given old None) a (entry_at st old) ∙ (length-set st.given old None ∙ inv.long);
}
  where
    low : a < length st.given
    low = let l : a ≤ 0x77 = pick.0.1 in let n : length st.given ≡ ADDRESSES = inv.long in omega arith

    here : entry_in (moved old a st.given) a ≡ entry_at st old
    here = moved_at st.given old a a low ∙ cond-true (a == a) _ _ (eq-eqb a a refl)

    unused : (s : ℕ) (d : Device) → device_at st s ≡ Some d → d.address ≡ Some a → ⊥
    unused s d p q = let u = inv.used s a d p q in none-some u.0 (sym pick.1 ∙ u.1)

    back : (b : ℕ) (e : Entry) → (b ≡ a → ⊥) → entry_in (moved old a st.given) b ≡ Some e → (k : Entry) × (entry_at st b ≡ Some k) × KeepsFixed k e
    back b e n g =
        let g' : entry_in (set st.given old None) b ≡ Some e = sym (moved_at st.given old a b low ∙ cond-false (b == a) _ _ (ne_eqb b a n)) ∙ g in
        elim (set_at st.given old b None None) [ inl h ↦ absurd (none-some e (sym h.1 ∙ g')) | inr h ↦ (e, sym h ∙ g', fixed_same e e refl) ]

pub Addresses-emptied : (lost : Lost) (st : State) → Addresses st → Addresses (emptied lost st)
Addresses-emptied lost st inv = Addresses-none_new st (emptied lost st) (NoneNew-emptied lost st) inv

-- a round keeps it
pub Addresses-round : (old : State) (cuts : CutList) (answer : RoundReply) (new : State) → Rounds old cuts answer new → Addresses old → Addresses new
Addresses-round old cuts RoundReply.NoAddress new h inv = subst Addresses (sym h.1) inv
Addresses-round old cuts RoundReply.Done new h inv = subst Addresses (sym h.2) (Addresses-emptied _ old inv)
Addresses-round old cuts RoundReply.Nobody new h inv = subst Addresses (sym h.3) (Addresses-emptied _ old inv)
Addresses-round old cuts (RoundReply.Assigned a i) new h inv =
    subst Addresses (sym h.3) (Addresses-emptied (lost_by cuts 73) _ (Addresses-assigned (lost_by cuts 73) i a old h.2 inv))

-- a reset leaves the active controller's address and its entry
pub NoneNew-reset : (st : State) → NoneNew st (reset st)
NoneNew-reset st = record {
  devices = λ s a d p q. let x = each_from f st s d p in was s a d x.0 x.1 q (s == st.active) refl x.2;
  entries = λ s a d e p q g. let x = each_from f st s d p in
      (unkept e, at a ∙ (cond-true (active_has st a) _ _ (held s a d x.0 x.1 q (s == st.active) refl x.2) ∙ ap (option_map unkept) g), IsRest-unkept st.declared e);
  given = λ a e g. from (active_has st a) (entry_at st a) e (sym (at a) ∙ g);
  legacy = λ a l. l;
  placed = ArePlaced-each f st (λ s d. steady (s == st.active) d);
  declared = refl;
  long = length-changed h st.given;
}
  where
    f : ℕ → Device → Device
    f s d = if s == st.active then without_role d else unaddressed_device d

    h : ℕ → Option Entry → Option Entry
    h a place = if active_has st a then option_map unkept place else None

    steady : (b : Bool) (d : Device) → IsSteady (if b then without_role d else unaddressed_device d) d
    steady true d = record { identity = refl; fixed = refl; address = λ a p. p }
    steady false d = record { identity = refl; fixed = refl; address = λ a p. absurd (none-some a p) }

    none : (b : Bool) → (if b then option_map unkept None else None) ≡ None
    none true = refl
    none false = refl

    at : (a : ℕ) → entry_at (reset st) a ≡ h a (entry_at st a)
    at a = changed_at h st.given a None (none (active_has st a))

    was : (s a : ℕ) (d x : Device) → device_at st s ≡ Some x → d.address ≡ Some a → (b : Bool) → (s == st.active) ≡ b → (if s == st.active then without_role x else unaddressed_device x) ≡ d → WasThere st s a d
    was s a d x there q true e k =
        let same : without_role x ≡ d = sym (cond-true (s == st.active) _ _ e) ∙ k in
        record { was = x; there = there; address = ap (λ (y : Device). y.address) same ∙ q; identity = ap (λ (y : Device). y.identity) same }
    was s a d x there q false e k =
        let same : unaddressed_device x ≡ d = sym (cond-false (s == st.active) _ _ e) ∙ k in absurd (none-some a (ap (λ (y : Device). y.address) same ∙ q))

    held : (s a : ℕ) (d x : Device) → device_at st s ≡ Some x → d.address ≡ Some a → (b : Bool) → (s == st.active) ≡ b → (if s == st.active then without_role x else unaddressed_device x) ≡ d → active_has st a ≡ true
    held s a d x there q true e k =
        let same : without_role x ≡ d = sym (cond-true (s == st.active) _ _ e) ∙ k in
        let here : device_at st st.active ≡ Some x = ap (device_at st) (sym (eqb-true s st.active e)) ∙ there in
        ap (in_slot (has_address a)) here ∙ (ap (is_the a) (ap (λ (y : Device). y.address) same ∙ q) ∙ eq-eqb a a refl)
    held s a d x there q false e k =
        let same : unaddressed_device x ≡ d = sym (cond-false (s == st.active) _ _ e) ∙ k in absurd (none-some a (ap (λ (y : Device). y.address) same ∙ q))

    from : (b : Bool) (o : Option Entry) (e : Entry) → (if b then option_map unkept o else None) ≡ Some e → (k : Entry) × (o ≡ Some k) × KeepsFixed k e
    from true None e g = absurd (none-some e g)
    from true (Some k) e g = (k, refl, fixed_same k e (ap (λ (y : Entry). y.fixed) (same_Some (unkept k) e g)))
    from false o e g = absurd (none-some e g)

-- a list changes nothing of it
pub NoneNew-list : (st : State) → NoneNew st (list st)
NoneNew-list st = NoneNew-from st (list st) (λ s a d p q. record { was = d; there = p; address = q; identity = refl }) (there_placed st (list st) (λ s d p. p)) refl (λ a l. l) refl

-- a role that is handed over leaves the given addresses, kept for declared identities alone
pub NoneNew-handed : (s own : ℕ) (st : State) → NoneNew st (handed s own st)
NoneNew-handed s own st = record {
  devices = (NoneNew-change s without_role st (λ d. record { identity = refl; fixed = refl; address = λ a p. p })).devices;
  entries = λ t a d e p q g. (again a e, taken_over_at st.declared own st.given a ∙ ap (option_map (again a)) g, rest a e);
  given = λ a f g. let x = option_map_from (again a) (entry_at st a) f (sym (taken_over_at st.declared own st.given a) ∙ g) in (x.0, x.1, fixed_same x.0 f (ap (λ (y : Entry). y.fixed) x.2));
  legacy = λ a l. l;
  placed = (NoneNew-change s without_role st (λ d. record { identity = refl; fixed = refl; address = λ a p. p })).placed;
  declared = refl;
  long = length-taken_over st.declared own st.given;
}
  where
    again : ℕ → Entry → Entry
    again a e = record e { kept = kept_again st.declared st.given own a e }

    rest : (a : ℕ) (e : Entry) → IsRest st.declared e (again a e)
    rest a e = record { bcr = refl; dcr = refl; fixed = λ x p. p; kept = λ j k. inr (kept_again_declared st.declared st.given own a e j k) }

-- what a frame's own part leaves has no new address
NoneNew-becomes : (f : State → State) → ((st : State) → NoneNew st (f st)) → (lost : Lost) (mid done : State) → Becomes f lost mid done → NoneNew mid done
NoneNew-becomes f h lost mid done e = subst (NoneNew mid) (sym e) (h mid)

-- each event that acts keeps the invariant
Addresses-acts : (old : State) (event : Event) (reply : Reply) (new : State) → first_refusal (checks old event) ≡ None → Acts old event reply new → Addresses old → Addresses new
Addresses-acts old (Attach s setup) reply new free h inv = subst Addresses (sym h.1) (Addresses-none_new old _ (NoneNew-attach s setup old) inv)
Addresses-acts old (DropOff s) reply new free h inv = subst Addresses (sym h.1) (Addresses-none_new old _ (NoneNew-drop_off s old) inv)
Addresses-acts old (AskJoin s) reply new free h inv =
    subst Addresses (sym h.1) (Addresses-none_new old _ (NoneNew-change s (λ d. record d { join_wish = true }) old (λ d. record { identity = refl; fixed = refl; address = λ a p. p })) inv)
Addresses-acts old (Raise s byte) reply new free h inv = subst Addresses (sym h.1) (Addresses-none_new old _ (NoneNew-raise s byte old) inv)
Addresses-acts old (Serve policy cuts) reply new free h inv =
    Addresses-frame old policy cuts _ _ _ new (λ lost mid done e. subst (NoneNew mid) (sym e) (NoneNew-refl mid)) h.2 inv
Addresses-acts old (Enec to kinds policy cuts) reply new free h inv = Addresses-frame old policy cuts _ _ _ new (NoneNew-rekinds to _ _) h.2 inv
Addresses-acts old (Disec to kinds policy cuts) reply new free h inv = Addresses-frame old policy cuts _ _ _ new (NoneNew-rekinds to _ _) h.2 inv
Addresses-acts old (AskRole s) reply new free h inv =
    subst Addresses (sym h.1) (Addresses-none_new old _ (NoneNew-change s (λ d. record d { role_wish = true }) old (λ d. record { identity = refl; fixed = refl; address = λ a p. p })) inv)
Addresses-acts old (Reset policy cuts) reply new free h inv = Addresses-frame old policy cuts _ _ _ new (NoneNew-becomes reset NoneNew-reset) h.2 inv
Addresses-acts old (SendList policy cuts) reply new free h inv = Addresses-frame old policy cuts _ _ _ new (NoneNew-becomes list NoneNew-list) h.2 inv
Addresses-acts old (ReadFrom a policy cuts) reply new free h inv = Addresses-frame old policy cuts _ _ _ new (reads_keep NoneNew NoneNew-refl a h.0.answer) h.2 inv
Addresses-acts old (WriteTo a bytes policy cuts) reply new free h inv =
    Addresses-frame old policy cuts _ _ _ new (writes_keep NoneNew a bytes.items NoneNew-refl (NoneNew-written a bytes.items) h.0.answer) h.2 inv
Addresses-acts old (SetStatic f to policy cuts) reply new free h inv = Addresses-own old policy cuts _ _ _ new (λ lost mid done same own known. elim own [
  | inl e ↦
      let declared : declared_at old f ≡ Some e.2.0 = ap (λ ds. declared_in ds f) (sym same.declared) ∙ e.2.1 in
      let given = not-false _ (no_test 3 (checks old (SetStatic f to policy cuts)) free) in
      subst Addresses (sym e.2.2) (Addresses-with_static f e.2.0 to mid e.2.1 (Suits-static old mid to e.2.0 same (subst (λ o. (is_pickable old to || is_kept_for old o to) ≡ true) declared given) known) known)
  | inr e ↦ subst Addresses (sym e.2) known
]) h.2 inv
Addresses-acts old (SetNew a to policy cuts) reply new free h inv = Addresses-own old policy cuts _ _ _ new (λ lost mid done same own known. elim own [
  | inl e ↦
      let other = same.active a (or-false (is_none (entry_at old a)) (active_has old a) (no_test 2 (checks old (SetNew a to policy cuts)) free)).1 in
      let pick = pickable_settled old mid to same (not-false _ (no_test 3 (checks old (SetNew a to policy cuts)) free)) in
      subst Addresses (sym e.2) (Addresses-with_new a to mid other pick known)
  | inr e ↦ subst Addresses (sym e.2) known
]) h.2 inv
Addresses-acts old (Get what a policy cuts) reply new free h inv = Addresses-frame old policy cuts _ _ _ new (gets_keep NoneNew NoneNew-refl what a h.0.answer) h.2 inv
Addresses-acts old (SetLength way most to policy cuts) reply new free h inv =
    Addresses-frame old policy cuts _ _ _ new (lengths_keep NoneNew to way most NoneNew-refl (NoneNew-with_length to way most) h.0.answer) h.2 inv
Addresses-acts old (OpenDaa cuts) reply new free h inv = Addresses-frame old _ cuts _ _ _ new (NoneNew-becomes opened NoneNew-opened) h.2 inv
Addresses-acts old (Round cuts) reply new free h inv = Addresses-round old cuts h.0 new h.2 inv
Addresses-acts old (HandOver to cuts) reply new free h inv = elim h [
  | inl g ↦
      let x = granted old to cuts reply new g in
      subst Addresses (sym x.after) (Addresses-emptied (lost_by cuts x.last) (handed x.slot to old) (Addresses-none_new old (handed x.slot to old) (NoneNew-handed x.slot to old) inv))
  | inr g ↦ let x = declined old to cuts reply new g in subst Addresses (sym x.1) (Addresses-emptied (lost_by cuts x.0) old inv)
]
Addresses-acts old EndDaa reply new free h inv = subst Addresses (sym h.1) (Addresses-none_new old _ (NoneNew-ended old) inv)

-- each step keeps it
pub Addresses-step : (old : State) (event : Event) (reply : Reply) (new : State) → Step old event reply new → Addresses old → Addresses new
Addresses-step old event reply new h inv = step_cases old event reply new h (λ idle e. subst Addresses (sym e) inv) (λ free acts. Addresses-acts old event reply new free acts inv)

-- the start's only device, and its only entry
pub start_device : (main : Setup) (board : Board) (a s : ℕ) (d : Device) → device_at (addressed 0 a main.identity (unaddressed main board)) s ≡ Some d
    → (s ≡ 0) × (d ≡ record (attached (fixed_of board.declared main.identity) main) { address = Some a })
start_device main board a s d p =
    let first : Device = attached (fixed_of board.declared main.identity) main in
    let w = change_from 0 (λ (x : Device). record x { address = Some a }) (unaddressed main board) s d p in
    elim (set_from no_devices 0 s (Some first) w.0 w.1) [
      | inl e ↦ (e.0, sym w.2 ∙ (cond-true (s == 0) _ _ (eq-eqb s 0 e.0) ∙ ap (λ (x : Device). record x { address = Some a }) (sym (same_Some first w.0 e.1))))
      | inr e ↦ absurd (none-some w.0 (sym (no_devices_at s) ∙ e))
    ]

-- where a board has no legacy target, the bus has none
no_target_there : (lvrs : List (Option Lvr)) (a : ℕ) → get_or lvrs a None ≡ None → get_or (legacy_targets_of lvrs) a None ≡ None
no_target_there [] a h = refl
no_target_there (lvr ∷ rest) zero h = ap (option_map legacy_target_of) h
no_target_there (lvr ∷ rest) (suc a) h = no_target_there rest a h

-- a start has it
pub Addresses-start : (main : Setup) (board : Board) (start : State) → IsStart main board start → Addresses start
Addresses-start main board start h = subst Addresses (sym h.2) (record {
  used = λ s b d p q. let f = from s b d p q in (
    first,
    entry b ∙ cond-true (b == h.0) _ None (eq-eqb b h.0 f.1),
    record {
      bcr = ap (λ (i : Identity). i.bcr) (sym f.0);
      dcr = ap (λ (i : Identity). i.dcr) (sym f.0);
      kept = λ j k. absurd (none-some j k);
      fixed = λ x k. declared_at_fixed board.declared main.identity x k ∙ ap Some (sym f.0);
    },
  );
  alike = λ s t a d e p q x y. (from s a d p x).0 ∙ sym (from t a e q y).0;
  free = λ a e g. ap (λ k. get_or (legacy_targets_of board.legacy) k None) (here a e g) ∙ h.1.0.2;
  undeclared = λ a e g. ap (declared_in board.declared) (here a e g) ∙ h.1.0.3;
  placed = λ s d p. let e = (start_device main board h.0 s d p).1 in
      ap (λ (x : Device). x.fixed) e ∙ ap (λ (x : Device). fixed_of board.declared x.identity) (sym e);
  lone = λ a i e. no_target_there board.legacy a (h.3.apart a i e);
  static = h.3.static;
  fixed = λ a e g x p.
      let same : first ≡ e = same_Some first e (cond_kept_from (a == h.0) _ e (sym (entry a) ∙ g)).1 in
      (main.identity, declared_at_fixed board.declared main.identity x (ap (λ (k : Entry). k.fixed) same ∙ p));
  long = length-set no_entries h.0 (Some first) ∙ length-no_entries;
})
  where
    first : Entry
    first = entry_of board.declared main.identity

    low : h.0 < length no_entries
    low = let l : h.0 ≤ 0x77 = h.1.0.0.1 in let n : length no_entries ≡ ADDRESSES = length-no_entries in omega arith

    entry : (b : ℕ) → entry_at (addressed 0 h.0 main.identity (unaddressed main board)) b ≡ (if b == h.0 then Some first else None)
    entry b = set_in no_entries h.0 b (Some first) None low ∙ ap (λ o. if b == h.0 then Some first else o) (no_entries_at b)

    here : (a : ℕ) (e : Entry) → entry_at (addressed 0 h.0 main.identity (unaddressed main board)) a ≡ Some e → a ≡ h.0
    here a e g = eqb-true a h.0 (cond_kept_from (a == h.0) _ e (sym (entry a) ∙ g)).0

    from : (s b : ℕ) (d : Device) → device_at (addressed 0 h.0 main.identity (unaddressed main board)) s ≡ Some d → d.address ≡ Some b → (d.identity ≡ main.identity) × (b ≡ h.0)
    from s b d p q = let e = (start_device main board h.0 s d p).1 in
        (ap (λ (x : Device). x.identity) e, sym (same_Some h.0 b (ap (λ (x : Device). x.address) (sym e) ∙ q)))
