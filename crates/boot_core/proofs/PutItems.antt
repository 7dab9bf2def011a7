-- Open items that are put into a pool block.
use Rattle.std.proofs.Common.{◌≡◌, ℕ, ◌<◌, ◌==◌, false, true≢false, List, [], ◌∷◌, Ok, length, sym, subst, ◌∙◌, inl, inr, arith}
use Rattle.std.proofs.lemmas.Bool.{cases_eq, eq-eqb}
use Rattle.page_services.specs.PageRules.{Choice}
use Rattle.pool_services.specs.PoolRules.{FillsPool}
use Rattle.open_agents.specs.declared.items.OpenItem.{OpenItem}
use Rattle.protocol_services.specs.ListBytes.{item_bytes}
use Rattle.boot_replies.specs.declared.replies.PoolList.{PoolList}
use Rattle.boot_replies.specs.Certified.{list_type}
use Rattle.boot_core.specs.Machines.{Parts}
use Rattle.boot_core.specs.PoolLists.{PutsItems}

-- a number that is not 0
pub some_of : (n : ℕ) → (n == 0) ≡ false → 0 < n
some_of n e = elim (cases_eq n 0) [
  | inl none ↦ absurd (true≢false (sym (eq-eqb n 0 none) ∙ e))
  | inr some ↦ omega (arith, some)
]

-- the bytes of some items fill a block, and the lists of the protocol services stay
pub puts_items : {A : Type 0} (Chosen : Choice) (old : Parts) (items : List OpenItem) (returned : PoolList A) (new : Parts) (bytes : List ℕ) → 0 < length items → bytes ≡ item_bytes items →
    FillsPool Chosen old.book old.pools list_type bytes (Ok (returned.address, returned.certificate)) new.book new.pools → new.lists ≡ old.lists → PutsItems Chosen old items returned new
puts_items Chosen old [] returned new bytes some e fills same = absurd (omega (arith, some))
puts_items Chosen old (i ∷ items) returned new bytes some e fills same =
    (subst (λ (bs : List ℕ). FillsPool Chosen old.book old.pools list_type bs (Ok (returned.address, returned.certificate)) new.book new.pools) e fills, same)
