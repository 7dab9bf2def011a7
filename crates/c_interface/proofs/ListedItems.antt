-- Open items in the caller's buffer.
use Rattle.std.proofs.Common.{◌≡◌, ◌∙◌, ℕ, ◌<◌, ◌≤◌, Bool, true, false, List, [], ◌∷◌, length, Option, Some, None, inl, inr, refl, ap, arith}
use Rattle.page_ranges.specs.Statuses.{status_number}
use Rattle.page_ranges.specs.declared.statuses.Status.TheVariants.{Success, BufferTooSmall, NotFound}
use Rattle.guid_handles.specs.HandleTables.{carries, written_over}
use Rattle.open_agents.specs.declared.items.OpenItem.{OpenItem}
use Rattle.open_agents.specs.OpenItems.{items_on}
use Rattle.boot_core.specs.Machines.{State}
use Rattle.boot_core.specs.Questions.{WritesItems}
use Rattle.c_interface.specs.Buffers.{front_filled}
use Rattle.c_interface.specs.Questions.{ReturnsItems}

written_front : {T : Type 0} (xs out : List T) → written_over xs out ≡ front_filled xs out
written_front [] [] = refl
written_front [] (y ∷ ys) = refl
written_front (x ∷ xs) [] = refl
written_front (x ∷ xs) (y ∷ ys) = ap (λ rest. x ∷ rest) (written_front xs ys)

pub refused : (carried : Bool) (items : List OpenItem) (count status : ℕ) (buffer : List OpenItem) → carried ≡ false → status ≡ status_number NotFound → ReturnsItems carried items count buffer status count buffer
refused carried items count status buffer c s = rw c (s, refl, refl)

pub too_small : (carried : Bool) (items : List OpenItem) (count needed status : ℕ) (buffer : List OpenItem) → carried ≡ true → needed ≡ length items → length buffer < needed → status ≡ status_number BufferTooSmall →
    ReturnsItems carried items count buffer status needed buffer
too_small carried items count needed status buffer c n l s = rw c (n, inr (omega (arith, n, l), s, refl))

pub filled : (carried : Bool) (items : List OpenItem) (count needed status : ℕ) (buffer new : List OpenItem) → carried ≡ true → needed ≡ length items → needed ≤ length buffer → status ≡ status_number Success → new ≡ written_over items buffer →
    ReturnsItems carried items count buffer status needed new
filled carried items count needed status buffer new c n l s w = rw c (n, inl (omega (arith, n, l), s, w ∙ written_front items buffer))

-- the items are written where the handle carries the GUID
pub written : (s : State) (handle : ℕ) (guid : List ℕ) (out : List OpenItem) (count : Option ℕ) (new : List OpenItem) → carries s.parts.lists.handles guid handle ≡ true → WritesItems s.parts.lists handle guid out count new → new ≡ written_over (items_on s.parts.lists.opens handle guid) out
written s handle guid out (Some count) new t w = w.2
written s handle guid out None new t w = let e = w.0 in absurd cc
