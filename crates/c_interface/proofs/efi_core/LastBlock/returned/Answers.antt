use Rattle.std.proofs.Common.{◌≤◌, length, sym, ap, subst, inl, arith, ◌∙◌}
use Rattle.c_interface.specs.Buffers.{front_filled}
use Rattle.c_interface.specs.Served.{ReturnsBlock}
use Rattle.c_interface.proofs.efi_core.LastBlock.returned.Goals as goal

pub returns : goal.returns
returns g c =
    let bytes = c.in-Text.text.items in
    let long = ap length (sym c.as_slice.ensures.value) ∙ c.as_slice.ensures.len in
    let fits : length bytes ≤ length c.args.buffer.now = omega (arith, long, c.len-2.ensures, c.if-buffer-len.false) in
    subst (λ left. ReturnsBlock left c.args.buffer.now c.args.size.now c.number-2.result c.copy_to_front.new.buffer c.len.result) (sym c.in-Text.is)
    (c.len.ensures ∙ sym long, inl (fits, c.number-2.ensures, c.copy_to_front.ensures ∙ ap (λ text. front_filled text c.args.buffer.now) c.as_slice.ensures.value))
