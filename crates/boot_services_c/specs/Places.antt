-- Cores that the caller holds by a pointer.
use Rattle.std.specs.Borrow.{Fml}
use Rattle.std.specs.Ptr.{Ptr, if_non_null}
use base.Fml.{ftrue, fex}
use base.Stored.{Coded}
use Rattle.std.specs.Coded.{coded_option}
use Rattle.std.specs.declared.alloc.Global.{Global}
use Rattle.std.specs.declared.option.Option.{Option}
use Rattle.std.specs.declared.option.Option.TheVariants.{None, Some}
use Rattle.boot_services_c.specs.Blocks.{block_of}
use Rattle.boot_services_c.specs.declared.handle.Rafkudin.{Rafkudin}
use Rattle.boot_services_c.specs.contracts.handle.Rafkudin.{the_row}

-- the core that a pointer of the caller's owns
abbrev pub Held : Type 0
Held = Option Rafkudin

-- how the logic stores it
abbrev pub held_code : Coded Held
held_code = coded_option the_row.coded

-- The core that is held lies at p.
abbrev pub held_at : Global → Ptr → Held → Fml
held_at alloc p None = ftrue
held_at alloc p (Some r) = block_of the_row alloc p r

-- what the caller gives up with p: any core that lies there in a block of its own; with a null
-- pointer nothing
abbrev pub freed_at : Global → Ptr → Fml
freed_at alloc p = if_non_null p (fex Rafkudin (block_of the_row alloc p))
