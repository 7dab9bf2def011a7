use Rattle.std.proofs.Common.{◌∙◌, sym, refl}
use Rattle.pool_services.specs.Extents.{Extent, has_tail, with_blocks, written_in}
use Rattle.pool_services.proofs.PoolPages.{replaced-type}
use Rattle.pool_services.proofs.laws.written_keeps_pool_law.Goals as goal

pub returns : goal.returns
returns c m es address bytes owns k =
    owns k ∙ sym (replaced-type k (has_tail address) (λ (e : Extent). with_blocks (written_in e.first address bytes e.blocks) e) es (λ e. refl) (λ e. refl))
