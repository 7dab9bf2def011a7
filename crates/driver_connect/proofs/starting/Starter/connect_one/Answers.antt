use Rattle.std.proofs.Common.{◌≡◌, ◌-◌, map, arith}
use Rattle.driver_connect.specs.Connecting.{made_after}
use Rattle.driver_connect.proofs.Pending.{few_noted, one_alone, one_and_made}
use Rattle.driver_connect.proofs.starting.Starter.connect_one.Goals as goal
use Rattle.driver_connect.proofs.starting.Starter.connect_one.Goals.{then-next-gt0+in_ok-made+in_ok-note_pending, else-next-gt0}

pub returns-clause-progress : goal.returns-clause-progress
returns-clause-progress g c =
    let drivers = map g.D.Driver.meaning c.args.self.now.drivers.now in
    elim c.if-next-gt0.branch [
      | then-next-gt0+in_ok-made+in_ok-note_pending w ↦
          let last : c.last_number-last.result ≡ c.args.connecting.now.handles.last_number = rw (← c.connecting.view_is) c.last_number-last.ensures in
          let made : w.in_ok-made.made.items ≡ made_after c.last_number-last.result c.run_passes.new.connecting.handles = rw (← c.connecting-2.view_is) w.in_ok-made.ensures in
          rw w.pending-is (one_and_made drivers c.args.self.now.notify.now c.args.pending.now.items c.args.next c.args.named.now c.args.connecting.now c.run_passes.new.connecting
          c.last_number-last.result _ _ w.if-next-gt0.true c.in_ok-starts.ensures.ends.1 last made w.in_ok-note_pending.ensures)
      | else-next-gt0 w ↦
          rw w.pending-is (one_alone drivers c.args.self.now.notify.now c.args.pending.now.items c.args.next c.args.named.now c.args.connecting.now c.run_passes.new.connecting
          w.if-next-gt0.false c.in_ok-starts.ensures.ends.1)
    ]

pub returns-clause-fewer : goal.returns-clause-fewer
returns-clause-fewer g c = elim c.if-next-gt0.branch [
  | then-next-gt0+in_ok-made+in_ok-note_pending w ↦
      let last : c.last_number-last.result ≡ c.args.connecting.now.handles.last_number = rw (← c.connecting.view_is) c.last_number-last.ensures in
      rw w.pending-is (few_noted (c.args.next.levels - 1) c.last_number-last.result c.args.pending.now.items w.note_pending.new.pending.items w.in_ok-made.made.items
      c.args.connecting.now.handles c.run_passes.new.connecting.handles (rw (← c.connecting.view_is) c.all-before.ensures.proper) c.run_passes.ensures.goes_on.handles
      last (rw (← c.connecting-2.view_is) w.in_ok-made.ensures) w.in_ok-note_pending.ensures)
  | else-next-gt0 w ↦ rw w.pending-is (omega (arith, c.in_ok-starts.ensures.grows.handles))
]
