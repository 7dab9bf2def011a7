use Rattle.std.proofs.Common.{◌≡◌, ℕ, List, length, set, length-set, drop, sym, ◌∙◌}
use Rattle.std.proofs.lemmas.List.{take_at}
use Rattle.raw_pool.proofs.Puts.{put-over}
use Rattle.raw_pool.proofs.raw_bytes.RawBytes.overwrite.Goals as goal

pub returns-clause-set : goal.returns-clause-set
returns-clause-set c =
    let all : List ℕ = c.args.self.now.set in
    let one : List ℕ = set all c.args.at c.args.byte in
    let long : length one ≡ c.args.self.now.len = length-set all c.args.at c.args.byte ∙ sym c.args.self.now.ok.0 in
    rw c.bytes_mut.ensures.value
    (take_at one (drop (length one) all) c.args.self.now.len long ∙ put-over all c.args.at c.args.byte c.requires)
