use Rattle.std.proofs.Common.{◌≡◌, ◌+◌, ◌++◌, List, [], ◌∷◌, ℕ, take, ap, sym, ◌∙◌, append_assoc, append-nil, arith}
use Rattle.std.specs.List.{flat_map}
use Rattle.std.specs.Prelude.{string_bytes}
use Rattle.std.proofs.lemmas.Grind.{flat_map-append}
use Rattle.std.proofs.lemmas.List.{take_more}
use Rattle.page_ranges.specs.declared.ranges.Descriptor.{Descriptor}
use Rattle.page_ranges.proofs.Members.{member_all}
use Rattle.map_keys.specs.Records.{IsRecordEntry}
use Rattle.reply_texts.specs.PrintedText.{descriptor_line}
use Rattle.reply_texts.proofs.replies.print_entries.Goals as goal

pub print_descriptor-requires : goal.print_descriptor-requires
print_descriptor-requires g c =
    let is = member_all IsRecordEntry c.args.entries.now c.entry-item.result c.requires (c.loop-entry.entry-index, c.loop-entry-test.true, sym c.entry-item.is) in
    omega (arith, is.some, is.within)

pub loop-entry-preserved : goal.loop-entry-preserved
loop-entry-preserved g c =
    let i = c.loop-entry.entry-index in
    let entries = c.args.entries.now in
    let d = c.entry-item.result in
    let before = string_bytes c.args.text.now in
    let front = flat_map descriptor_line (take i entries) in
    let one : take (i + 1) entries ≡ take i entries ++ d ∷ [] = take_more entries i d c.loop-entry-test.true ∙ ap (λ (e : Descriptor). take i entries ++ e ∷ []) (sym c.entry-item.is) in
    let more : flat_map descriptor_line (take (i + 1) entries) ≡ front ++ descriptor_line d = ap (flat_map descriptor_line) one ∙ flat_map-append descriptor_line (take i entries) (d ∷ []) ∙ ap (λ (rest : List ℕ). front ++ rest) (append-nil (descriptor_line d)) in
    c.in_ok-print_descriptor.ensures
    ∙ ap (λ (text : List ℕ). text ++ descriptor_line d) c.loop-entry.invariant
    ∙ append_assoc before front (descriptor_line d)
    ∙ ap (λ (rest : List ℕ). before ++ rest) (sym more)
