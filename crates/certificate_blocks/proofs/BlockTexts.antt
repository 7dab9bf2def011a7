-- The text of a block, part by part.
use Rattle.std.proofs.Common.{◌≡◌, ℕ, List, ◌∷◌, ◌++◌, flat_map, codes, ap, sym, ◌∙◌, append_assoc}
use Rattle.std.proofs.lemmas.Grind.{flat_map-append}
use Rattle.page_ranges.specs.declared.ranges.Descriptor.{Descriptor}
use Rattle.placement_certificate.specs.declared.certificates.Request.{Request}
use Rattle.placement_certificate.specs.Certificates.{CertificateValue}
use Rattle.text_lines.specs.Printed.{line_feed}
use Rattle.certificate_blocks.specs.BlockText.{map_lines, request_words, bound_lines, answer_lines, printed_line, block_text}

-- the text of lines
abbrev pub printed : List (List (List ℕ)) → List ℕ
printed lines = flat_map printed_line lines

nested : (h o p q s t : List ℕ) → ((((o ++ h) ++ p) ++ q) ++ s) ++ t ≡ o ++ (h ++ ((p ++ (q ++ s)) ++ t))
nested h o p q s t = simp append_assoc

module _ (entries : List Descriptor) (r : Request) (c : CertificateValue) where
  abbrev head : List ℕ
  head = codes "certificate" ++ line_feed

  parts : block_text entries r c ≡ head ++ ((printed (map_lines entries) ++ (printed_line (request_words r) ++ printed (bound_lines c.bounds))) ++ printed (answer_lines c.answer))
  unfolding block_text
  parts =
      ap (λ (t : List ℕ). head ++ t) (flat_map-append printed_line (map_lines entries ++ (request_words r ∷ bound_lines c.bounds)) (answer_lines c.answer))
      ∙ ap (λ (t : List ℕ). head ++ (t ++ printed (answer_lines c.answer))) (flat_map-append printed_line (map_lines entries) (request_words r ∷ bound_lines c.bounds))

  pub block_printed : (old start first second third new : List ℕ) → start ≡ old ++ head → first ≡ start ++ printed (map_lines entries) → second ≡ first ++ printed_line (request_words r) → third ≡ second ++ printed (bound_lines c.bounds) → new ≡ third ++ printed (answer_lines c.answer) → new ≡ old ++ block_text entries r c
  block_printed old start first second third new d e f g h =
      let all = nested head old (printed (map_lines entries)) (printed_line (request_words r)) (printed (bound_lines c.bounds)) (printed (answer_lines c.answer)) in
      h
      ∙ ap (λ (t : List ℕ). t ++ printed (answer_lines c.answer)) (g ∙ ap (λ (t : List ℕ). t ++ printed (bound_lines c.bounds)) (f ∙ ap (λ (t : List ℕ). t ++ printed_line (request_words r)) (e ∙ ap (λ (t : List ℕ). t ++ printed (map_lines entries)) d)))
      ∙ all
      ∙ ap (λ (t : List ℕ). old ++ t) (sym parts)
