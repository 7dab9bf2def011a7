use Rattle.std.proofs.Common.{add-one, refl, sym, ◌∙◌, arith}
use Rattle.std.proofs.Math.Seq.{drop-cons}
use Rattle.std.proofs.lemmas.List.{at_drop_all}
use Rattle.std.specs.List.{find}
use Rattle.guid_handles.specs.Slots.{is_key_of}
use Rattle.guid_handles.proofs.searches.find_key.Goals as goal

pub loop-key-init : goal.loop-key-init
loop-key-init g c = refl

pub returns-then-is_key_of : goal.returns-then-is_key_of
returns-then-is_key_of g c =
    sym (c.loop-key.invariant ∙ rw (drop-cons c.args.keys.now c.loop-key.key-index 0 c.loop-key-test.true, ← c.is_key_of.ensures, c.if-is_key_of.true) refl)

pub loop-key-preserved : goal.loop-key-preserved
loop-key-preserved g c =
    c.loop-key.invariant ∙ rw (add-one, drop-cons c.args.keys.now c.loop-key.key-index 0 c.loop-key-test.true, ← c.is_key_of.ensures, c.if-is_key_of.false) refl

pub returns : goal.returns
returns g c = sym (c.loop-key.invariant ∙ at_drop_all (find (is_key_of c.args.records.now.slots c.args.guid)) c.args.keys.now c.loop-key.key-index c.loop-key-test.false)

pub bounds-keys-key-index : goal.bounds-keys-key-index
bounds-keys-key-index g c = c.loop-key-test.true

pub offset_bounds-keys-key-index : goal.offset_bounds-keys-key-index
offset_bounds-keys-key-index g c = omega (arith, c.loop-key-test.true)

pub loop-key-smaller : goal.loop-key-smaller
loop-key-smaller g c = omega (arith, c.loop-key-test.true)
