-- Cores that the caller holds by a pointer.
use Rattle.std.specs.Borrow.{Fml}
use Rattle.std.specs.Ptr.{Ptr, points_to}
use base.Fml.{ftrue}
use base.Stored.{Coded}
use Rattle.std.specs.Coded.{coded_option}
use Rattle.std.specs.declared.option.Option.{Option}
use Rattle.std.specs.declared.option.Option.TheVariants.{None, Some}
use Rattle.region_cores.specs.declared.handle.Rafkudin.{Rafkudin}
use Rattle.region_cores.specs.contracts.handle.Rafkudin.{the_row}

-- the core that a pointer of the caller's owns
abbrev pub Held : Type 0
Held = Option Rafkudin

-- how the logic stores it
abbrev pub held_code : Coded Held
held_code = coded_option the_row.coded

-- The core that is held lies at p.
abbrev pub held_at : Ptr → Held → Fml
held_at p None = ftrue
held_at p (Some r) = points_to the_row p r
