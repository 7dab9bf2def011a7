-- How a handle lends its core.
use Rattle.std.specs.Borrow.{Lends, MutBor, Fml}
use Rattle.boot_services_c.specs.Cores.{CoreRow, Core}
use Rattle.boot_services_c.specs.declared.handle.Rafkudin.{Rafkudin}
use Rattle.boot_services_c.specs.contracts.handle.Rafkudin.{the_row}

-- the handle with another core
abbrev pub with_core : Rafkudin → Core → Rafkudin
with_core r c = record r { core = c }

-- When the loan ends, the handle has the core that was last behind it.
abbrev pub LendsCore : MutBor Rafkudin → MutBor Core → Fml
LendsCore handle loan = Lends the_row CoreRow handle loan (with_core handle.now)
