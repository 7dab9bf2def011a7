-- The pages of a machine are in no granule that AllocatePages placed, and the calls of the pool keep such granules whole.
use Rattle.std.proofs.Common.{◌≡◌, ℕ, List, length, Option, Some, None, Result, Ok, Err, refl, sym, subst}
use Rattle.page_ranges.specs.declared.ranges.PageRange.{PageRange}
use Rattle.page_ranges.specs.declared.ranges.Run.{Run}
use Rattle.page_ranges.specs.declared.statuses.Status.{Status}
use Rattle.page_ranges.specs.declared.statuses.Status.TheVariants.{InvalidParameter, OutOfResources}
use Rattle.page_ranges.specs.Runs.{pages_of, IsValidMachine}
use Rattle.page_services.specs.PageRules.{Book, Choice, HasWholeGranules, IsInGranules, pool_request}
use Rattle.page_services.proofs.Choices.{Permits}
use Rattle.page_services.proofs.Granules.{given_back_granules, given_granules, placed_granules, reserved_granules}
use Rattle.pool_services.specs.Extents.{Extent, Place, AreExtents, ended, pages_for}
use Rattle.pool_services.specs.PoolRules.{Answer, AllocatesPool, FillsPool, FreesPool, IsPut, OwnsExtents, given_if}
use Rattle.pool_services.proofs.KeptPools.{all-given, ended-owned}

pub machine-granules : (granule : ℕ) (rs : List Run) → IsValidMachine rs → HasWholeGranules granule (pages_of rs)
machine-granules granule rs valid = given_granules granule (pages_of rs) (all-given rs valid.given)

put-granules : (Chosen : Choice) → Permits Chosen → (b new_b : Book) (es new : List Extent) (t size : ℕ) (answer : Answer) (o : Option Place) → IsPut Chosen o b es t size answer new_b new → IsInGranules b → IsInGranules new_b
put-granules Chosen permits b new_b es new t size answer (Some p) (d, c, g, n) is = subst IsInGranules (sym g) is
put-granules Chosen permits b new_b es new t size answer None (start, c, d, g, n) is =
    let r = pool_request b.granule t (pages_for size) in
    subst IsInGranules (sym g) (reserved_granules _ _ _ _ _ (placed_granules b r start (permits b r start answer.1 c) is))

pub allocated-granules : (Chosen : Choice) → Permits Chosen → (b : Book) (es : List Extent) (t size : ℕ) (result : Result Answer Status) (new_b : Book) (new : List Extent) →
    AllocatesPool Chosen b es t size result new_b new → IsInGranules b → IsInGranules new_b
allocated-granules Chosen permits b es t size (Ok answer) new_b new (good, s, put) is = put-granules Chosen permits b new_b es new t size answer _ put is
allocated-granules Chosen permits b es t size (Err InvalidParameter) new_b new h is = subst IsInGranules (sym h.1) is
allocated-granules Chosen permits b es t size (Err OutOfResources) new_b new h is = subst IsInGranules (sym h.2) is
allocated-granules Chosen permits b es t size (Err status) new_b new h is = absurd h

pub filled-granules : (Chosen : Choice) → Permits Chosen → (b : Book) (es : List Extent) (t : ℕ) (bytes : List ℕ) (result : Result Answer Status) (new_b : Book) (new : List Extent) →
    FillsPool Chosen b es t bytes result new_b new → IsInGranules b → IsInGranules new_b
filled-granules Chosen permits b es t bytes (Ok answer) new_b new (placed, h, n) is = allocated-granules Chosen permits b es t (length bytes) (Ok answer) new_b placed h is
filled-granules Chosen permits b es t bytes (Err e) new_b new h is = allocated-granules Chosen permits b es t (length bytes) (Err e) new_b new h is

ended-granules : (b : Book) (es : List Extent) (p : Place) (o : Option PageRange) → AreExtents es → OwnsExtents b.memory es → ended p es ≡ o → IsInGranules b → IsInGranules (given_if o b)
ended-granules b es p None a owns e is = is
ended-granules b es p (Some range) a owns e is = given_back_granules range b (ended-owned b.memory es p range a owns e).1 is

pub freed-block-granules : (b : Book) (es : List Extent) (address : ℕ) (result : Result (Unit {0}) Status) (new_b : Book) (new : List Extent) → AreExtents es → OwnsExtents b.memory es →
    FreesPool b es address result new_b new → IsInGranules b → IsInGranules new_b
freed-block-granules b es address (Ok done) new_b new a owns (p, s, g, n) is = subst IsInGranules (sym g) (ended-granules b es p (ended p es) a owns refl is)
freed-block-granules b es address (Err InvalidParameter) new_b new a owns h is = subst IsInGranules (sym h.1) is
freed-block-granules b es address (Err OutOfResources) new_b new a owns (p, range, s, t, z, g, n) is = subst IsInGranules (sym g) is
freed-block-granules b es address (Err status) new_b new a owns h is = absurd h
