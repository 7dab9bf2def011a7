use Rattle.std.proofs.Common.{◌∙◌, true, refl, sym, ap, subst}
use Rattle.page_ranges.specs.MemoryMap.{memory_map}
use Rattle.boot_replies.specs.Certified.{certified, map_before}
use Rattle.c_interface.specs.EfiCores.{EfiCoreValue, LeavesBlock}
use Rattle.c_interface.proofs.Blocks.{kept_block}
use Rattle.c_interface.proofs.efi_core.EfiCore.make_certified.Goals as goal

pub returns : goal.returns
returns g c =
    let certifies = ap (λ (x : EfiCoreValue g.row.A.Denot). x.certifies) c.self.view_is in
    let last = ap (λ (x : EfiCoreValue g.row.A.Denot). x.last) c.self.view_is in
    let book = c.self.inside.core.state.parts.book in
    let entries = memory_map book.memory in
    let asked = c.args.call.now in
    let answer = c.call-reply.result in
    let left = c.block_of.result in
    let block = subst (λ granule. LeavesBlock true (map_before true book.granule entries asked) (certified granule asked answer) left) c.granule-granule.ensures
    (kept_block book.granule entries asked (certified c.granule-granule.result asked answer) c.map_before-before.result left c.block_of.ensures c.map_before-before.ensures) in
    rw (← c.self.view_is) (record {
      step = c.call-reply.ensures.step;
      given = c.call-reply.ensures.given;
      certifies = refl;
      keeps_replies = refl;
      block = subst (λ k. LeavesBlock k (map_before k book.granule entries asked) (certified book.granule asked answer) left) (sym (certifies ∙ c.requires.certifies)) block;
      last = last ∙ c.requires.nothing;
    })
