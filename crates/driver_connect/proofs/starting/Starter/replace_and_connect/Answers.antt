use Rattle.std.proofs.Common.{◌≡◌, None, is_some, false, true, sym, ap, ◌∙◌, arith}
use Rattle.guid_handles.specs.HandleTables.{interface_at}
use Rattle.driver_connect.proofs.starting.Starter.replace_and_connect.Goals as goal

pub unreachable-requires : goal.unreachable-requires
unreachable-requires g c =
    let e : None ≡ interface_at c.args.handles.now c.args.replacement.now.handle c.args.replacement.now.guid = sym c.in_default.is ∙ c.installed.ensures.interface in
    let k : false ≡ true = ap is_some e ∙ c.requires.there in
    cc

pub connect_below-requires-clause-numbers : goal.connect_below-requires-clause-numbers
connect_below-requires-clause-numbers g c = rw c.replace.ensures c.requires.numbers

pub connect_below-requires-clause-stamps : goal.connect_below-requires-clause-stamps
connect_below-requires-clause-stamps g c = rw c.replace.ensures c.requires.stamps

pub returns-in-Ok-clause-ok : goal.returns-in-Ok-clause-ok
returns-in-Ok-clause-ok g c = rw c.replace.ensures at c.in-Ok.ensures.ok

pub returns-in-Ok-clause-numbers : goal.returns-in-Ok-clause-numbers
returns-in-Ok-clause-numbers g c = rw c.replace.ensures at c.connect_below.ensures.numbers

pub returns-in-Ok-clause-stamps : goal.returns-in-Ok-clause-stamps
returns-in-Ok-clause-stamps g c = let l = rw c.replace.ensures at c.connect_below.ensures.stamps in omega (arith, l)

pub restore-requires : goal.restore-requires
restore-requires g c = (
  c.args.handles.now,
  record {
    table = c.in-Some.ensures.table;
    there = sym c.in-Some.ensures.interface;
    last = sym c.last_stamp-last_stamp.ensures.stamp;
    value = c.args.replacement.now.value;
    replaced = c.in-Err.ensures.err.0 ∙ c.replace.ensures;
  },
)

pub returns-in-Err-clause-err : goal.returns-in-Err-clause-err
returns-in-Err-clause-err g c = (
  c.restore.ensures c.args.handles.now (record {
    table = c.in-Some.ensures.table;
    there = sym c.in-Some.ensures.interface;
    last = sym c.last_stamp-last_stamp.ensures.stamp;
    value = c.args.replacement.now.value;
    replaced = c.in-Err.ensures.err.0 ∙ c.replace.ensures;
  }),
  c.in-Err.ensures.err.1,
)

pub returns-in-Err-clause-numbers : goal.returns-in-Err-clause-numbers
returns-in-Err-clause-numbers g c = let same = (returns-in-Err-clause-err g c).0 in rw same (omega arith)

pub returns-in-Err-clause-stamps : goal.returns-in-Err-clause-stamps
returns-in-Err-clause-stamps g c = let same = (returns-in-Err-clause-err g c).0 in rw same (omega arith)
