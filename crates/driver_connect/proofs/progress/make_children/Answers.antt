use Rattle.std.proofs.Common.{rules, refl, arith}
use Rattle.std.proofs.lemmas.Grind.{common_steps}
use Rattle.driver_connect.proofs.GoingOn.{made_none, made_further}
use Rattle.driver_connect.proofs.Passes.{grows_same}
use Rattle.driver_connect.proofs.progress.make_children.Goals as goal

pub loop-child-init : goal.loop-child-init
loop-child-init g c = record {
  handles = refl;
  grows = grows_same c.args.handles.now;
  room = c.requires.room;
  children = c.requires.children;
  made = made_none c.args.handles.now;
  places = c.requires.places;
}

pub returns-in_err-make_child-clause-made : goal.returns-in_err-make_child-clause-made
returns-in_err-make_child-clause-made g c = made_further _ _ _ c.loop-child.invariant.made c.make_child.ensures.made

pub loop-child-preserved : goal.loop-child-preserved
loop-child-preserved g c = record {
  handles = grind (arith, common_steps);
  grows = search rules;
  room = search rules;
  children = grind (arith, common_steps);
  made = made_further _ _ _ c.loop-child.invariant.made c.make_child.ensures.made;
  places = grind (arith, common_steps);
}
