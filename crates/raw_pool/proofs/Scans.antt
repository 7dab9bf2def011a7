-- Walks along the free list of a store.
use Rattle.std.proofs.Common.{◌≡◌, ℕ, ◌<◌, ◌≤◌, subst, sym}
use Rattle.std.specs.List.{AllByRecursion}
use Rattle.raw_pool.specs.Bytes.{Bytes}
use Rattle.raw_pool.specs.FreeList.{FreeRun, IsRun, link, marked}
use Rattle.raw_pool.specs.Searches.{IsStore, Scan, runs_of}
use Rattle.raw_pool.proofs.Runs.{AreRising, rising-runs}
use Rattle.raw_pool.proofs.Links.{Here, here, RunHere, run_here, scan-start, scan-more, scan_done}

pub rising : (bytes marks : Bytes) (cells head : ℕ) → IsStore bytes marks cells head → AreRising 0 cells (runs_of bytes marks cells)
rising bytes marks cells head s = rising-runs bytes.set cells 0 (marked 0 marks.set) s.laid.apart

pub store_scan : (P : FreeRun → Type 0) (bytes marks : Bytes) (cells head : ℕ) → IsStore bytes marks cells head → Scan P bytes.set cells head (runs_of bytes marks cells) cells head
store_scan P bytes marks cells head s = scan-start P bytes.set cells head (runs_of bytes marks cells) s.laid.linked

pub store_here : (P : FreeRun → Type 0) (bytes marks : Bytes) (cells head last next : ℕ) → IsStore bytes marks cells head → Scan P bytes.set cells head (runs_of bytes marks cells) last next → next < cells →
    RunHere bytes.set cells head next
store_here P bytes marks cells head last next s c l = run_here P bytes.set cells head 0 (runs_of bytes marks cells) last next c l (rising bytes marks cells head s)

pub store_step : (P : FreeRun → Type 0) (bytes marks : Bytes) (cells head last next to : ℕ) → Scan P bytes.set cells head (runs_of bytes marks cells) last next → next < cells →
    ((run : FreeRun) → next ≡ run.first → IsRun bytes.set run → P run) → to ≡ link bytes.set cells head next → Scan P bytes.set cells head (runs_of bytes marks cells) next to
store_step P bytes marks cells head last next to c l p e =
    let h : Here bytes.set cells head c.after next = here bytes.set cells head c.after next l c.linked in
    subst (λ (k : ℕ). Scan P bytes.set cells head (runs_of bytes marks cells) next k) (sym e) (scan-more P bytes.set cells head (runs_of bytes marks cells) last next c h (p h.run h.first h.run_is))

pub store_done : (P : FreeRun → Type 0) (bytes marks : Bytes) (cells head last next : ℕ) → IsStore bytes marks cells head → Scan P bytes.set cells head (runs_of bytes marks cells) last next → cells ≤ next →
    AllByRecursion P (runs_of bytes marks cells)
store_done P bytes marks cells head last next s c l = scan_done P bytes.set cells head 0 (runs_of bytes marks cells) last next c l (rising bytes marks cells head s)
