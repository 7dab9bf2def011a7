use Rattle.std.proofs.Common.{rules, tests, ◌≡◌, ◌==◌, ◌++◌, [], List, ℕ, Bor, length, map, not, ap, ◌∙◌}
use Rattle.std.proofs.lemmas.Iterator.{items_from_drains}
use Rattle.std.proofs.lemmas.Iterator.Consumers.{YieldsList-at, YieldsList-from_filter}
use Rattle.std.proofs.lemmas.Iterator.Splits.{YieldsList-from_slice_split}
use Rattle.text_lines.specs.Words.{is_blank}
use Rattle.text_lines.proofs.words.words_of.Goals as goal

pub returns : goal.returns
returns g c =
    let none : c.reserve.new.self.items ≡ [] = c.in_ok-reserve.ensures.items ∙ c.new-words.ensures.items in
    let (it, xs, b, p, d) = c.in_ok-extend.ensures.ran in
    ap (λ ws. map (λ (word : Bor (List ℕ)). word.now) ws) (p.0 ∙ ap (λ ws. ws ++ xs) none)
    ∙ items_from_drains xs (d.1.0, d.1.1, λ w. (d.0, d.1.2)) (YieldsList-at b (YieldsList-from_filter _ (λ word. not (length word == 0)) (YieldsList-from_slice_split _ is_blank c.args.line.now (cc) (cc) (cc) (λ x r q k. search (rules, tests))) c.filter.ensures.closure (λ x r q k. search (rules, tests))))
