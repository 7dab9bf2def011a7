use Rattle.std.proofs.Common.{◌≡◌, ◌∙◌, ap, map, length, arith, min}
use Rattle.std.proofs.Math.Nat.{min-le_left, min-le_right}
use Rattle.c_machines.specs.Guids.{standard_guid}
use Rattle.c_interface.proofs.ReturnedLists.{guid_laid, filled_whole, length_guids}
use Rattle.c_interface.proofs.lists.copy_guids.Goals as goal

pub loop-index-preserved : goal.loop-index-preserved
loop-index-preserved c =
    let guids = length c.args.guids.now in
    let room = length c.args.buffer.now in
    let left = min-le_left guids room in
    let right = min-le_right guids room in
    guid_laid c.loop-index.index c.args.guids.now c.args.buffer.now c.loop-index.buffer c.index-guids-index.result c.new.result (omega (arith, c.loop-index-test.true, c.min-count.ensures, left)) (omega (arith, c.loop-index-test.true, c.min-count.ensures, right)) c.index-guids-index.is c.new.ensures c.loop-index.invariant

pub returns : goal.returns
returns c =
    let ended : c.loop-index.index ≡ c.min-count.result = omega (arith, c.loop-index-test.false, c.loop-index.auto.index-end) in
    c.loop-index.invariant ∙ filled_whole c.loop-index.index (map standard_guid c.args.guids.now) c.args.buffer.now (ended ∙ c.min-count.ensures ∙ ap (λ n. min n (length c.args.buffer.now)) (length_guids c.args.guids.now))
