-- A core in a region.
use Rattle.region_cores.specs.Cores as cores

-- the value of a core
abbrev pub Core : Type 0
Core = cores.Core
