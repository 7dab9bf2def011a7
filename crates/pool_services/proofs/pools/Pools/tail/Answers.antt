use Rattle.std.proofs.Common.{◌≡◌, ◌+◌, ◌≤◌, ◌^◌, ℕ, List, length, Option, Some, None, IfSome, option_map, Bor, sym}
use Rattle.pool_services.specs.Extents.{Extent, AreExtents, tail_at}
use Rattle.pool_services.specs.Spots.{extents_of}
use Rattle.pool_services.proofs.PoolBytes.{tail-within}
use Rattle.pool_services.proofs.pools.Pools.tail.Goals as goal

bounded : (address : ℕ) (es : List Extent) (r : Option (Bor (List ℕ))) → AreExtents es → option_map (λ s. s.now) r ≡ tail_at address es → IfSome r (λ s. address + length s.now ≤ 2 ^ 64)
bounded address es None a e = tt
bounded address es (Some s) a e = tail-within address es s.now a (sym e)

pub returns-clause-within : goal.returns-clause-within
returns-clause-within g c = bounded c.args.address (extents_of c.self.inside.extents) c.tail.result c.tail.ensures.apart c.tail.ensures.bytes
