use Rattle.std.proofs.Common.{sym, ap, ◌∙◌, arith}
use Rattle.std.proofs.lemmas.List.{length-take-le}
use Rattle.device_path_locate.specs.Locating.{whole_bytes}
use Rattle.device_path_locate.proofs.PathMatches.{path_there, whole_read}
use Rattle.device_path_locate.proofs.matches.whole_at.Goals as goal

pub slice_bounds-result-end : goal.slice_bounds-result-end
slice_bounds-result-end g c =
    let r = whole_read c.in_ok-bytes.bytes.now c.in_ok-span.span c.in_ok-span.ensures in
    sym (length-take-le c.in_ok-span.span.whole c.in_ok-bytes.bytes.now (omega (arith, r.within)))

pub returns : goal.returns
returns g c =
    let r = whole_read c.in_ok-bytes.bytes.now c.in_ok-span.span c.in_ok-span.ensures in
    r.taken ∙ ap whole_bytes (path_there c.in_ok-bytes.bytes.now c.args.address c.args.pools.now.extents c.in_ok-bytes.ensures.bytes)
