use Rattle.std.proofs.Common.{◌≡◌, ◌∙◌, ◌<◌, false, true, None, Some, option_and_then, option_map, inl, inr, refl, sym, ap, arith}
use Rattle.std.proofs.lemmas.Bool.Decides.{Decides-eqb}
use Rattle.std.proofs.lemmas.List.{take_rest}
use Rattle.std.proofs.lemmas.Slice.Eq.{starts_is}
use Rattle.device_path_locate.specs.DevicePaths.{end_of_path, path_in, size_of, span_of}
use Rattle.device_path_locate.specs.Locating.{matched_size}
use Rattle.device_path_locate.proofs.PathMatches.{spanned}
use Rattle.device_path_locate.proofs.SharedFronts.{boundary, ended, if_some, is_none, matched, read_part}
use Rattle.device_path_locate.proofs.Walks.{started}
use Rattle.device_path_locate.proofs.prefixes.matched_size.Goals.{then-size-from-via-then-size-from, then-size-from-via-else-size-from+then-not-starts_with}
use Rattle.device_path_locate.proofs.prefixes.matched_size.Goals as goal

pub slice_bounds-read_path-start : goal.slice_bounds-read_path-start
slice_bounds-read_path-start c =
    let b = started c.args.nodes.now c.args.marks.now c.args.from c.common_front-size.result _ c.last_mark-start.ensures c.requires.marked c.requires.boundary c.if-size-from.false in
    omega (arith, b.1)

pub slice_bounds-read_path-count : goal.slice_bounds-read_path-count
slice_bounds-read_path-count c =
    let b = started c.args.nodes.now c.args.marks.now c.args.from c.common_front-size.result _ c.last_mark-start.ensures c.requires.marked c.requires.boundary c.if-size-from.false in
    omega (arith, b.1)

pub returns-then-size-from-clause-found : goal.returns-then-size-from-clause-found
returns-then-size-from-clause-found c = λ ns all z.
    let bytes = c.args.bytes.now in
    let k = c.common_front-size.result in
    let end = ended bytes c.args.nodes.now c.args.from k c.requires.boundary c.common_front-size.ensures ns all z in
    elim c.then-size-from.branch [
      | then-size-from-via-then-size-from w ↦ inr (refl, if_some (λ size. size < c.args.from) (option_and_then (matched_size ns) (path_in bytes)) (λ size e. omega (arith, (end size e).at, w.if-size-from.true)))
      | then-size-from-via-else-size-from+then-not-starts_with w ↦ inl (is_none _ (λ size e.
          let n = end size e in
          let s = starts_is Decides-eqb _ end_of_path w.starts_with.result w.starts_with.ensures.value in
          let y : true ≡ false = sym (s.1 n.rest (take_rest bytes k ∙ n.ends)) ∙ w.if-not-starts_with.true in
          cc))
    ]

pub returns-in_err-span-clause-found : goal.returns-in_err-span-clause-found
returns-in_err-span-clause-found c = λ ns all z.
    let bytes = c.args.bytes.now in
    let b = started c.args.nodes.now c.args.marks.now c.args.from c.common_front-size.result _ c.last_mark-start.ensures c.requires.marked c.requires.boundary c.if-size-from.false in
    let end = ended bytes c.args.nodes.now c.last_mark-start.result c.common_front-size.result b.0 c.common_front-size.ensures ns all z in
    inl (c.from_residual.ensures ∙ is_none _ (λ size e.
    let r = (end size e).read b.1 in
    let y : None ≡ Some (span_of r.0) = sym c.in_err-span.was ∙ c.read_path.ensures ∙ ap (option_map span_of) r.1 in
    absurd cc))

pub returns-then-span-size-clause-found : goal.returns-then-span-size-clause-found
returns-then-span-size-clause-found c = λ ns all z.
    let bytes = c.args.bytes.now in
    let b = started c.args.nodes.now c.args.marks.now c.args.from c.common_front-size.result _ c.last_mark-start.ensures c.requires.marked c.requires.boundary c.if-size-from.false in
    let k = c.common_front-size.result in
    let s = starts_is Decides-eqb _ end_of_path c.starts_with.result c.starts_with.ensures.value in
    let ends = sym (take_rest bytes k) ∙ s.0 c.if-not-starts_with.false in
    let p = spanned (path_in (read_part bytes c.last_mark-start.result k)) c.in_ok-span.span c.in_ok-span.ensures in
    inl (sym (matched bytes c.args.nodes.now c.last_mark-start.result k b.0 c.common_front-size.ensures b.1 _ ends p.0 p.1 (sym (ap (λ x. x.whole) p.2) ∙ c.if-span-size.true) ns all z))

pub returns-then-span-size-clause-boundary : goal.returns-then-span-size-clause-boundary
returns-then-span-size-clause-boundary c =
    let bytes = c.args.bytes.now in
    let b = started c.args.nodes.now c.args.marks.now c.args.from c.common_front-size.result _ c.last_mark-start.ensures c.requires.marked c.requires.boundary c.if-size-from.false in
    let k = c.common_front-size.result in
    let s = starts_is Decides-eqb _ end_of_path c.starts_with.result c.starts_with.ensures.value in
    let ends = sym (take_rest bytes k) ∙ s.0 c.if-not-starts_with.false in
    let p = spanned (path_in (read_part bytes c.last_mark-start.result k)) c.in_ok-span.span c.in_ok-span.ensures in
    boundary bytes c.args.nodes.now c.last_mark-start.result k b.0 c.common_front-size.ensures b.1 _ ends p.0 p.1 (sym (ap (λ x. x.whole) p.2) ∙ c.if-span-size.true)

pub returns-else-span-size-clause-found : goal.returns-else-span-size-clause-found
returns-else-span-size-clause-found c = λ ns all z.
    let bytes = c.args.bytes.now in
    let b = started c.args.nodes.now c.args.marks.now c.args.from c.common_front-size.result _ c.last_mark-start.ensures c.requires.marked c.requires.boundary c.if-size-from.false in
    let k = c.common_front-size.result in
    let end = ended bytes c.args.nodes.now c.last_mark-start.result k b.0 c.common_front-size.ensures ns all z in
    let p = spanned (path_in (read_part bytes c.last_mark-start.result k)) c.in_ok-span.span c.in_ok-span.ensures in
    inl (is_none _ (λ size e.
    let r = (end size e).read b.1 in
    let y : Some p.0 ≡ Some r.0 = sym p.1 ∙ r.1 in
    let x : p.0 ≡ r.0 = cc in
    absurd (c.if-span-size.false (ap (λ x. x.whole) p.2 ∙ ap size_of x ∙ r.2))))
