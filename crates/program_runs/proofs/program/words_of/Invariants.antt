use Rattle.std.proofs.Common.{◌≡◌, ℕ, List, take, map, Bor, String, Global, string_bytes}
use Rattle.program_runs.proofs.program.words_of.Given as goal

abbrev pub invariant-loop-text : goal.invariant-loop-text
invariant-loop-text l = map (λ (word : Bor (List ℕ)). word.now) l.words.items ≡ map (λ (text : String Global). string_bytes text) (take l.text-index l.texts)
