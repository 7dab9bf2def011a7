use Rattle.std.proofs.Common.{arith}
use Rattle.std.proofs.lemmas.List.{get_or-drop}
use Rattle.guid_handles.proofs.guids.low_word.Goals as goal

pub returns : goal.returns
returns c =
    let b = c.args.b.now in
    omega (arith, c.from_be_bytes.ensures, get_or-drop 8 b 0 0, get_or-drop 8 b 1 0, get_or-drop 8 b 2 0, get_or-drop 8 b 3 0, get_or-drop 8 b 4 0, get_or-drop 8 b 5 0, get_or-drop 8 b 6 0, get_or-drop 8 b 7 0)
