-- A core that is moved into a box keeps its pool in the same memory.
use Rattle.std.proofs.Common.{◌≡◌, ℕ, Option, Some, None, IfSome, IfOk, MatchOption, sym, subst}
use Rattle.std.specs.Option.{ok_or}
use Rattle.boot_core.specs.Machines.{prepared_placements}
use Rattle.c_interface.specs.EfiCores.{EfiCoreValue, preparing_core}
use Rattle.c_interface.specs.Making.{LiesFrom}
use Rattle.boot_services_c.specs.Cores.{CoreHeap}
use Rattle.boot_services_c.specs.MadeCores.{HoldsOver}
use Rattle.boot_services_c.specs.Places.{Held}
use Rattle.boot_services_c.specs.declared.place.Place.{Place}

module _ (first : ℕ) (core : EfiCoreValue CoreHeap) (lies : LiesFrom first core) where
  held : (h : Held) → MatchOption h ⊥ (λ handle. handle.core ≡ preparing_core prepared_placements core) → HoldsOver first h
  held None h = h
  held (Some handle) e = subst (LiesFrom first) (sym e) lies

  pub made_over : (o : Option Place) (status : ℕ) → IfSome o (λ place. MatchOption place.held ⊥ (λ handle. handle.core ≡ preparing_core prepared_placements core)) → IfOk (ok_or o status) (λ place. HoldsOver first place.held)
  made_over None status h = tt
  made_over (Some place) status h = held place.held h
