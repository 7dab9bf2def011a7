-- One search and no second tactic after it: a body that is wrong is then refused sooner.
use Rattle.std.proofs.Common.{◌≡◌, ◌∙◌, ℕ, true, List, [], ap, rules, subst, sym}
use Rattle.page_ranges.specs.Granules.{IsGranule}
use Rattle.page_ranges.specs.declared.ranges.Run.{Run}
use Rattle.page_ranges.specs.Runs.{pages_of}
use Rattle.page_ranges.specs.Memory.{Page}
use Rattle.descriptor_table.specs.Reserves.{Table}
use Rattle.page_services.specs.PageRules.{Book, HasWholeGranules, new_book}
use Rattle.pool_services.proofs.PoolGranules.{machine-granules}
use Rattle.pool_services.specs.Extents.{Extent}
use Rattle.boot_machines.specs.Machines.{IsMachine, MachineValue}
use Rattle.boot_core.specs.Machines.{Parts, AreSound, FollowsCalls, all_calls, first_state, parts_of}
use Rattle.boot_core.proofs.Follows.{first_follows}
use Rattle.boot_core.proofs.Soundness.{first_sound}
use Rattle.boot_core.proofs.services.Services.with_pools.Goals as goal

-- the table of some runs, which has memory reserved for no change
abbrev new_table : List Run → Table
new_table runs = record { pages = pages_of runs; reserved = 0 }

pub invariant_of-result : goal.invariant_of-result
invariant_of-result g c =
    let machine : MachineValue = c.args.machine in
    let table : c.in_ok-table.table ≡ new_table machine.runs = c.in_ok-table.ensures ∙ ap new_table c.runs.ensures.runs in
    let book : c.new.result ≡ new_book machine.granule (new_table machine.runs) =
    c.new.ensures ∙ ap (λ (n : ℕ). new_book n c.in_ok-table.table) c.granule.ensures.granule ∙ ap (new_book machine.granule) table in
    let is : parts_of c.new.result c.args.pools.extents c.new-2.result ≡ (first_state machine).parts =
    ap (λ (b : Book). parts_of b c.args.pools.extents c.new-2.result) book ∙ ap (λ (es : List Extent). parts_of (first_state machine).parts.book es c.new-2.result) c.requires ∙ ap (parts_of (first_state machine).parts.book []) c.new-2.ensures in
    let valid : IsMachine machine = record { runs = c.runs.ensures.valid; granule = subst IsGranule c.granule.ensures.granule c.granule.ensures.valid } in (
      subst (λ (p : Parts). FollowsCalls p all_calls) (sym is) (first_follows machine),
      subst AreSound (sym is) (first_sound true machine valid),
    )

pub new-requires-clause-whole : goal.new-requires-clause-whole
new-requires-clause-whole g c =
    subst (λ (m : List Page). HasWholeGranules c.granule.result m) (sym (ap (λ (t : Table). t.pages) c.in_ok-table.ensures ∙ ap pages_of c.runs.ensures.runs)) (machine-granules c.granule.result c.args.machine.runs c.runs.ensures.valid)

pub returns : goal.returns
returns c = search rules
