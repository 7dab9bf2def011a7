use Rattle.std.proofs.Common.{◌≡◌, ◌++◌, [], ◌∷◌, length, length-append, ap, map, sym, ◌∙◌, rules, arith}
use Rattle.std.specs.Prelude.{option_to_list}
use Rattle.driver_connect.specs.Pending.{all_connected}
use Rattle.driver_connect.proofs.GoingOn.{goes_further}
use Rattle.driver_connect.proofs.Pending.{last_connected}
use Rattle.driver_connect.proofs.starting.Starter.connect_levels.Goals as goal

pub loop-next-init : goal.loop-next-init
loop-next-init g c = record {
  progress = rw c.new-pending.ensures.items at c.in_ok-is_carried_out.ensures.progress;
  limit = c.in_ok-is_carried_out.ensures.limit;
  grows = c.in_ok-is_carried_out.ensures.grows;
  goes_on = c.connect_one.ensures.goes_on;
  room = search rules;
}

pub loop-next-preserved : goal.loop-next-preserved
loop-next-preserved g c =
    let drivers = map g.D.Driver.meaning c.args.self.now.drivers.now in
    let rest = c.pop.new.self.items in
    let popped : c.loop-next.pending.items ≡ rest ++ (c.in-Some.next ∷ []) = c.pop.ensures.items ∙ ap (λ o. rest ++ option_to_list o) c.in-Some.is in
    record {
      progress =
          c.in_ok-connect_one.ensures.progress ∙ sym (last_connected drivers c.args.self.now.notify.now rest c.in-Some.next c.loop-next.connecting)
          ∙ ap (λ xs. all_connected drivers c.args.self.now.notify.now xs c.loop-next.connecting) (sym popped) ∙ c.loop-next.invariant.progress;
      limit = c.in_ok-connect_one.ensures.limit;
      grows = search rules;
      goes_on = goes_further _ _ _ c.loop-next.invariant.goes_on c.connect_one-in-Some.ensures.goes_on;
      room = search rules;
    }

pub loop-next-smaller : goal.loop-next-smaller
loop-next-smaller g c =
    let rest = c.pop.new.self.items in
    let popped : c.loop-next.pending.items ≡ rest ++ (c.in-Some.next ∷ []) = c.pop.ensures.items ∙ ap (λ o. rest ++ option_to_list o) c.in-Some.is in
    let long = ap length popped ∙ length-append rest (c.in-Some.next ∷ []) in
    omega (arith, long, c.loop-next.invariant.limit, c.in_ok-connect_one.ensures.limit, c.in_ok-connect_one.ensures.fewer)

pub returns-in_err-connect_one-clause-goes_on : goal.returns-in_err-connect_one-clause-goes_on
returns-in_err-connect_one-clause-goes_on g c = goes_further _ _ _ c.loop-next.invariant.goes_on c.connect_one-in-Some.ensures.goes_on
