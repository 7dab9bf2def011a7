use Rattle.std.proofs.Common.{nat_le, length, ◌+◌, ◌-◌, ◌*◌, ◌/◌, ap, sym, arith, ◌∙◌}
use Rattle.pool_services.specs.declared.rooms.Room.{Room}
use Rattle.pool_services.proofs.ExtentLists.{half-passing, passing-place}
use Rattle.pool_services.proofs.RoomLists.{rooms-in-order, rooms-parted, rooms-place}
use Rattle.pool_services.proofs.searches.count_half.Goals as goal

pub returns-then-rooms-lt2-clause-place : goal.returns-then-rooms-lt2-clause-place
returns-then-rooms-lt2-clause-place c es a e =
    c.count_each.ensures.count
    ∙ passing-place (λ (r : Room). nat_le r.first c.args.page) c.args.rooms.now (rooms-parted c.args.page c.args.rooms.now es a e)
    ∙ rooms-place c.args.page c.args.rooms.now es e

pub returns-clause-place : goal.returns-clause-place
returns-clause-place c es a e =
    let rs = c.args.rooms.now in let half = length rs / 2 in let passed = half * c.from.result in
    ap (λ n. passed + n) c.count_each-2.ensures.count
    ∙ sym (half-passing (λ (r : Room). nat_le r.first c.args.page) half c.from.result (passed + (length rs - half) - passed) rs c.index-rooms-half.result (rooms-in-order c.args.page rs es a e) (omega (arith, c.if-rooms-lt2.false)) (omega arith) c.from.ensures (omega arith))
    ∙ passing-place (λ (r : Room). nat_le r.first c.args.page) rs (rooms-parted c.args.page rs es a e)
    ∙ rooms-place c.args.page rs es e
