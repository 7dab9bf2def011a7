use Rattle.std.proofs.Common.{◌≡◌, ◌++◌, OnOk, string_bytes, subst}
use Rattle.placement_certificate.specs.Certificates.{CertificateValue}
use Rattle.certificate_blocks.specs.BlockText.{block_text}
use Rattle.certificate_blocks.proofs.BlockTexts.{block_printed}
use Rattle.text_lines.proofs.Written.{on_ok}
use Rattle.certificate_blocks.proofs.printing.print_block.Goals as goal

pub returns : goal.returns
returns g c =
    let inside = c.certificate.inside in
    subst (λ (v : CertificateValue). OnOk c.print_answer.result (string_bytes c.print_answer.new.text ≡ string_bytes c.args.text.now ++ block_text c.args.map.now c.args.request.now v)) c.certificate.view_is
    (on_ok c.print_answer.result
    (block_printed c.args.map.now c.args.request.now (record { bounds = inside.bounds.items; answer = inside.answer }) _ _ _ _ _ _ c.in_ok-writeln.ensures.bytes c.in_ok-print_map.ensures c.in_ok-print_request.ensures (rw c.as_slice.ensures.value at c.in_ok-print_bounds.ensures))
    c.print_answer.ensures)
