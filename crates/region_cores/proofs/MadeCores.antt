-- A core that is put behind a pointer is the one that was made.
use Rattle.std.proofs.Common.{◌≡◌, ℕ, List, Option, Some, None, IfSome, IfOk, MatchOption, Ok, sym, subst}
use Rattle.std.specs.Option.{ok_or}
use Rattle.c_machines.specs.declared.drivers.DriverTable.{DriverTable}
use Rattle.c_interface.specs.EfiCores.{EfiCoreValue}
use Rattle.c_interface.specs.Making.{LiesFrom, MakesCore}
use Rattle.region_cores.specs.Cores.{CoreHeap}
use Rattle.region_cores.specs.MadeCores.{Holds, HoldsOver, MakesPlace, Refuses}
use Rattle.region_cores.specs.Places.{Held}
use Rattle.region_cores.specs.declared.place.Place.{Place}

module _ (size : ℕ) (records : List ℕ) (granule : ℕ) (tables : List DriverTable) (core : EfiCoreValue CoreHeap) (is : MakesCore {A = CoreHeap} size records granule tables (Ok core)) where
  held : (h : Held) → MatchOption h ⊥ (λ handle. handle.core ≡ core) → Holds size records granule tables h
  held None h = h
  held (Some handle) e = subst (λ (k : EfiCoreValue CoreHeap). MakesCore {A = CoreHeap} size records granule tables (Ok k)) (sym e) is

  pub made : (o : Option Place) (status : ℕ) → IfSome o (λ place. MatchOption place.held ⊥ (λ handle. handle.core ≡ core)) → Refuses size records granule tables status → MakesPlace size records granule tables (ok_or o status)
  made None status h refused = refused
  made (Some place) status h refused = held place.held h

-- and where pages are asked for, its pool lies in them
module _ (core : EfiCoreValue CoreHeap) where
  held_over : (first : ℕ) (h : Held) → LiesFrom first core → MatchOption h ⊥ (λ handle. handle.core ≡ core) → HoldsOver first h
  held_over first None lies h = h
  held_over first (Some handle) lies e = subst (LiesFrom first) (sym e) lies

  pub made_over : {R : Type 0} (pages : Option (R × ℕ)) (o : Option Place) (status : ℕ) → IfSome pages (λ p. LiesFrom p.1 core) → IfSome o (λ place. MatchOption place.held ⊥ (λ handle. handle.core ≡ core)) →
      IfOk (ok_or o status) (λ place. IfSome pages (λ p. HoldsOver p.1 place.held))
  made_over pages None status lies h = tt
  made_over None (Some place) status lies h = tt
  made_over (Some p) (Some place) status lies h = held_over p.1 place.held lies h
