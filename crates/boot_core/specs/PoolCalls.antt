-- What a read of the pool's bytes returns through a call, with a buffer that the core makes.
use Rattle.std.specs.Prelude.{◌≡◌, ℕ, ◌<◌, ◌≤◌, List, [], length, take, Some}
use Rattle.page_ranges.specs.declared.statuses.Status.{Status}
use Rattle.page_ranges.specs.declared.statuses.Status.TheVariants.{Success, InvalidParameter, OutOfResources}
use Rattle.pool_services.specs.Extents.{Extent, tail_at}
use Rattle.pool_services.specs.PoolRules.{IsInBlock}

-- What is returned of a read of a number of bytes from an address on, with the bytes. Memory for
-- the core's own buffer may run out where there are bytes to be read, and nowhere else.
abbrev pub AnswersRead : List Extent → ℕ → ℕ → Status → List ℕ → Type 0
AnswersRead es address size Success bytes =
    (whole : List ℕ) × (tail_at address es ≡ Some whole) × (size ≤ length whole)
    × (bytes ≡ take size whole)
AnswersRead es address size InvalidParameter bytes = (¬ IsInBlock address size es) × (bytes ≡ [])
AnswersRead es address size OutOfResources bytes =
    (0 < size) × IsInBlock address size es × (bytes ≡ [])
AnswersRead es address size status bytes = ⊥
