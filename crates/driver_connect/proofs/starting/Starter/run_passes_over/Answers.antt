use Rattle.std.proofs.Common.{◌≡◌, ◌<◌, ◌≤◌, ◌==◌, ◌++◌, true, false, length, sym, rules, arith, vec_len}
use Rattle.driver_connect.specs.Sites.{passed, site_at}
use Rattle.driver_connect.proofs.GoingOn.{goes_nowhere, goes_further}
use Rattle.driver_connect.proofs.Passes.{passes_end, passes_more, grows_further, room_stays}
use Rattle.driver_connect.proofs.Whole.{passes_done}
use Rattle.driver_connect.proofs.starting.Starter.run_passes_over.Goals as goal

pub loop-k-init : goal.loop-k-init
loop-k-init g c = record {
  whole = search rules;
  count = search rules;
  grows = search rules;
  goes_on = goes_nowhere c.args.connecting.now;
  room = c.requires;
}

pub returns-in_err-pass-clause-goes_on : goal.returns-in_err-pass-clause-goes_on
returns-in_err-pass-clause-goes_on g c = goes_further _ _ _ c.loop-k.invariant.goes_on c.run_pass.ensures.goes_on

pub returns-in_err-extend_from_slice-clause-goes_on : goal.returns-in_err-extend_from_slice-clause-goes_on
returns-in_err-extend_from_slice-clause-goes_on g c = goes_further _ _ _ c.loop-k.invariant.goes_on c.run_pass.ensures.goes_on

pub returns-then-is_empty-clause-goes_on : goal.returns-then-is_empty-clause-goes_on
returns-then-is_empty-clause-goes_on g c = goes_further _ _ _ c.loop-k.invariant.goes_on c.run_pass.ensures.goes_on

pub returns-then-is_empty-clause-ends : goal.returns-then-is_empty-clause-ends
returns-then-is_empty-clause-ends g c =
    let made = passed c.in_ok-pass.pass.starts.items c.in_ok-pass.pass.left.items c.run_pass.new.connecting in
    let n : vec_len c.in_ok-pass.pass.starts ≡ length c.in_ok-pass.pass.starts.items = c.in_ok-pass.pass.starts.ok.0 in
    let z : (length c.in_ok-pass.pass.starts.items == 0) ≡ true = rw (← n) (sym c.if-is_empty.ensures) in
    let l : c.loop-k.k < length c.args.agents.items = omega (arith, c.loop-k.invariant.count) in
    let s : c.extend_from_slice.new.self.items ≡ c.loop-k.starts.items ++ c.in_ok-pass.pass.starts.items = search rules in
    rw s (passes_end (site_at g.D.Driver.meaning c.args.self.now c.args.controller) c.loop-k.starts.items c.loop-k.left.items (length c.args.agents.items) c.loop-k.k c.loop-k.connecting _ made (rw c.as_slice.ensures.value at c.in_ok-pass.ensures.whole) l z c.loop-k.invariant.whole)

pub loop-k-preserved : goal.loop-k-preserved
loop-k-preserved g c =
    let made = passed c.in_ok-pass.pass.starts.items c.in_ok-pass.pass.left.items c.run_pass.new.connecting in
    let n : vec_len c.in_ok-pass.pass.starts ≡ length c.in_ok-pass.pass.starts.items = c.in_ok-pass.pass.starts.ok.0 in
    let z : (length c.in_ok-pass.pass.starts.items == 0) ≡ false = rw (← n) (sym c.if-is_empty.ensures) in
    let l : c.loop-k.k < length c.args.agents.items = omega (arith, c.loop-k.invariant.count) in
    let s : c.extend_from_slice.new.self.items ≡ c.loop-k.starts.items ++ c.in_ok-pass.pass.starts.items = search rules in
    record {
      whole = rw s (passes_more (site_at g.D.Driver.meaning c.args.self.now c.args.controller) c.loop-k.starts.items c.loop-k.left.items (length c.args.agents.items) c.loop-k.k c.loop-k.connecting _ made (rw c.as_slice.ensures.value at c.in_ok-pass.ensures.whole) l z c.loop-k.invariant.whole);
      count = c.loop-k.invariant.count;
      grows = grows_further _ _ _ c.loop-k.invariant.grows c.in_ok-pass.ensures.grows;
      goes_on = goes_further _ _ _ c.loop-k.invariant.goes_on c.run_pass.ensures.goes_on;
      room = room_stays _ _ c.loop-k.invariant.room c.in_ok-pass.ensures.grows;
    }

pub returns-clause-ends : goal.returns-clause-ends
returns-clause-ends g c =
    let l : length c.args.agents.items ≤ c.loop-k.k = omega (arith, c.loop-k.invariant.count) in
    passes_done (site_at g.D.Driver.meaning c.args.self.now c.args.controller) c.loop-k.starts.items c.loop-k.left.items (length c.args.agents.items) c.loop-k.k c.loop-k.connecting _ l c.loop-k.invariant.whole
