-- What happens to devices whichever of their kinds are enabled.
use Rattle.std.proofs.Common.{◌≡◌, ℕ, Bool, true, false, if◌then◌else◌, ◌&&◌, List, Option, Some, None, is_none, is_some, option_map, refl}
use Rattle.i3c_base.specs.declared.requests.Request.{Request}
use Rattle.i3c_base.specs.declared.requests.Request.TheVariants.{Interrupt, Join, Role}
use Rattle.i3c_base.specs.declared.datum.Direction.{Direction}
use Rattle.i3c_base.specs.Frames.{overwritten, readdressed, unaddressed_device, limited, reaches_at, written_at}
use Rattle.i3c_base.specs.Round.{hears, unhearing, winner}
use Rattle.i3c_base.specs.Serve.{without_role}
use Rattle.i3c_base.specs.Local.{with_raise, wishing_join, wishing_role}
use Rattle.i3c_device.specs.Enabling.{under}
use Rattle.i3c_device.specs.Hearing.{set_length, set_new, set_static}
use Rattle.i3c_device.specs.Walks.{taken_from}
use Rattle.i3c_device.proofs.SeenLaws.{IsBlind}

-- wishes, a raise, a reset and a session's end
pub blind_join : IsBlind (λ s place. option_map wishing_join place)
blind_join kinds s None = refl
blind_join kinds s (Some d) = refl

pub blind_role : IsBlind (λ s place. option_map wishing_role place)
blind_role kinds s None = refl
blind_role kinds s (Some d) = refl

pub blind_no_role : IsBlind (λ s place. option_map without_role place)
blind_no_role kinds s None = refl
blind_no_role kinds s (Some d) = refl

pub blind_raise : (number : ℕ) (byte : Option ℕ) → IsBlind (λ s place. option_map (with_raise number byte) place)
blind_raise number byte kinds s None = refl
blind_raise number byte kinds s (Some d) = refl

pub blind_reset : IsBlind (λ s place. option_map unaddressed_device place)
blind_reset kinds s None = refl
blind_reset kinds s (Some d) = refl

pub blind_end : IsBlind (λ s place. option_map unhearing place)
blind_end kinds s None = refl
blind_end kinds s (Some d) = refl

-- a session's opening
pub blind_opening : IsBlind (λ s place. option_map hears place)
blind_opening kinds s None = refl
blind_opening kinds s (Some d) = go (is_none d.address)
  where
    go : (b : Bool) → Some (under kinds (if b then record d { hearing = true } else d)) ≡ Some (if b then record (under kinds d) { hearing = true } else under kinds d)
    go true = refl
    go false = refl

-- an accepted request
pub blind_accept : (r : Request) → IsBlind (λ s place. taken_from r place)
blind_accept r kinds s None = refl
blind_accept Join kinds s (Some d) = refl
blind_accept (Role a) kinds s (Some d) = refl
blind_accept (Interrupt a) kinds s (Some d) = refl

-- an address that was taken, another one, and a write
pub blind_won : (a : ℕ) → IsBlind (λ s place. option_map (winner a) place)
blind_won a kinds s None = refl
blind_won a kinds s (Some d) = refl

pub blind_readdress : (a : ℕ) → IsBlind (λ s place. option_map (readdressed a) place)
blind_readdress a kinds s None = refl
blind_readdress a kinds s (Some d) = refl

pub blind_limit : (way : Direction) (most : ℕ) → IsBlind (λ s place. option_map (limited way most) place)
blind_limit way most kinds s None = refl
blind_limit Direction.Write most kinds s (Some d) = refl
blind_limit Direction.Read most kinds s (Some d) = refl

-- words that name an address or a length
pub blind_static : (a : Option ℕ) → IsBlind (λ s place. option_map (set_static a) place)
blind_static a kinds s None = refl
blind_static None kinds s (Some d) = refl
blind_static (Some a) kinds s (Some d) = go (is_none d.address && is_some d.fixed)
  where
    go : (b : Bool) → Some (under kinds (if b then winner a d else d)) ≡ Some (if b then winner a (under kinds d) else under kinds d)
    go true = refl
    go false = refl

pub blind_new : (a : Option ℕ) → IsBlind (λ s place. option_map (set_new a) place)
blind_new a kinds s None = refl
blind_new None kinds s (Some d) = refl
blind_new (Some a) kinds s (Some d) = go (is_some d.address)
  where
    go : (b : Bool) → Some (under kinds (if b then readdressed a d else d)) ≡ Some (if b then readdressed a (under kinds d) else under kinds d)
    go true = refl
    go false = refl

pub blind_length : (way : Direction) (most : Option ℕ) → IsBlind (λ s place. option_map (set_length way most) place)
blind_length way most kinds s None = refl
blind_length way None kinds s (Some d) = refl
blind_length Direction.Write (Some most) kinds s (Some d) = refl
blind_length Direction.Read (Some most) kinds s (Some d) = refl

pub blind_write : (active a : ℕ) (bytes : List ℕ) → IsBlind (λ s place. option_map (written_at active a bytes s) place)
blind_write active a bytes kinds s None = refl
blind_write active a bytes kinds s (Some d) = go (reaches_at active (Some a) s d)
  where
    go : (b : Bool) → Some (under kinds (if b then record d { registers = overwritten bytes d.registers } else d)) ≡ Some (if b then record (under kinds d) { registers = overwritten bytes d.registers } else under kinds d)
    go true = refl
    go false = refl

-- a device that is gone
pub blind_loss : IsBlind (λ s place. None)
blind_loss kinds s o = refl
