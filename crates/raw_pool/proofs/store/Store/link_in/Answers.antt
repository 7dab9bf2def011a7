use Rattle.std.proofs.Common.{ℕ, List, ◌+◌, ◌*◌, sym, ap, ◌∙◌, arith}
use Rattle.raw_pool.specs.Bytes.{word}
use Rattle.raw_pool.proofs.Links.{link-run}
use Rattle.raw_pool.proofs.store.Store.link_in.Goals as goal

pub returns : goal.returns
returns g c =
    c.word_in.ensures ∙ ap (λ (xs : List ℕ). word xs (32 * c.args.run + 8)) c.requires.bytes
    ∙ sym (link-run c.args.self.now.region.bytes.set c.args.self.now.cells c.args.self.now.head c.args.run (omega arith))
