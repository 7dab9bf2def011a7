use Rattle.std.proofs.Common.{arith}
use Rattle.page_ranges.specs.Runs.{IsInRun}
use Rattle.descriptor_table.specs.Leaves.{runs_in}
use Rattle.descriptor_table.specs.PageTests.{Passes}
use Rattle.descriptor_table.proofs.Finding.{below_end}
use Rattle.descriptor_table.proofs.leaf_searches.holds_all.Goals as goal

pub returns : goal.returns
returns g c =
    let range = c.args.range in
    let run = c.in-Some.run'.now in
    let here : IsInRun run range.first = record { low = omega arith; high = omega arith } in
    λ t k l u.
    below_end (Passes c.args.test) (runs_in c.args.leaves.now) range.first range.first run c.requires c.in-Some.ensures here (λ j a b. absurd (omega (arith, a, b))) (λ j. (c.passes.ensures j).0 t) k l (omega (arith, u))
