use Rattle.std.proofs.Common.{◌≡◌, ◌++◌, List, ℕ, take, get_or, ap, sym, ◌∙◌, append_assoc, string_bytes}
use Rattle.uuid.specs.Text.{hyphenated_text, lower}
use Rattle.reply_texts.specs.ListTexts.{guids_text, separator_at}
use Rattle.reply_texts.proofs.JoinedTexts.{one_more}
use Rattle.reply_texts.proofs.list_texts.print_guids.Goals as goal

pub loop-index-preserved : goal.loop-index-preserved
loop-index-preserved g c =
    let i = c.loop-index.index in
    let guid = get_or c.args.guids.now i c.index-guids-index.result in
    let item = hyphenated_text lower guid in
    let name : c.encode_lower-name.result.now ≡ item = c.encode_lower-name.ensures.text ∙ ap (hyphenated_text lower) (c.hyphenated.ensures ∙ c.index-guids-index.is) in
    let before = string_bytes c.args.text.now in
    let front = guids_text (take i c.args.guids.now) in
    c.in_ok-write.ensures.bytes
    ∙ ap (λ (s : List ℕ). string_bytes c.loop-index.text ++ (s ++ c.encode_lower-name.result.now)) c.separator_at-separator.ensures
    ∙ ap (λ (s : List ℕ). string_bytes c.loop-index.text ++ (separator_at i ++ s)) name
    ∙ ap (λ (text : List ℕ). text ++ (separator_at i ++ item)) c.loop-index.invariant
    ∙ append_assoc before front (separator_at i ++ item)
    ∙ ap (λ (rest : List ℕ). before ++ rest) (sym (one_more (hyphenated_text lower) c.args.guids.now i c.index-guids-index.result c.loop-index-test.true))
