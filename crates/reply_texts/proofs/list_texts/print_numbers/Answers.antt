use Rattle.std.proofs.Common.{◌++◌, List, ℕ, take, get_or, ap, sym, ◌∙◌, append_assoc, string_bytes}
use Rattle.std.specs.Fmt.{decimal}
use Rattle.reply_texts.specs.ListTexts.{numbers_text, separator_at}
use Rattle.reply_texts.proofs.JoinedTexts.{one_more}
use Rattle.reply_texts.proofs.list_texts.print_numbers.Goals as goal

pub loop-index-preserved : goal.loop-index-preserved
loop-index-preserved g c =
    let i = c.loop-index.index in
    let item = decimal (get_or c.args.numbers.now i 0) in
    let before = string_bytes c.args.text.now in
    let front = numbers_text (take i c.args.numbers.now) in
    c.in_ok-write.ensures.bytes
    ∙ ap (λ (s : List ℕ). string_bytes c.loop-index.text ++ (s ++ item)) c.separator_at-separator.ensures
    ∙ ap (λ (text : List ℕ). text ++ (separator_at i ++ item)) c.loop-index.invariant
    ∙ append_assoc before front (separator_at i ++ item)
    ∙ ap (λ (rest : List ℕ). before ++ rest) (sym (one_more decimal c.args.numbers.now i 0 c.loop-index-test.true))
