use Rattle.std.proofs.Common.{IfSome, Ok, inr, refl, sym, subst}
use Rattle.c_interface.specs.EfiCores.{EfiCoreValue}
use Rattle.c_interface.specs.Making.{LiesFrom, MakesCore}
use Rattle.region_cores.specs.Cores.{CoreHeap}
use Rattle.region_cores.specs.MadeCores.{Refuses}
use Rattle.region_cores.proofs.MadeCores.{made, made_over}
use Rattle.region_cores.proofs.making.make.Goals.{in-None+in_ok-core-in-None, in-Some-pages+in-Ok+in_ok-core-in-Some-pages}
use Rattle.region_cores.proofs.making.make.Goals as goal

pub returns-clause-makes : goal.returns-clause-makes
returns-clause-makes c =
    let size = c.args.descriptor_size in
    let records = c.args.records.now in
    let granule = c.args.granule in
    let tables = c.args.drivers.now in
    let tabled = sym c.if-not-are_tables.ensures in
    let refused : Refuses size records granule tables c.number-2.result = inr (c.number-2.ensures, tabled) in
    let is : MakesCore {A = CoreHeap} size records granule tables (Ok c.match-pages.core) = elim c.match-pages.branch [
      | in-None+in_ok-core-in-None w ↦ subst (λ (k : EfiCoreValue CoreHeap). MakesCore {A = CoreHeap} size records granule tables (Ok k)) (sym w.core-is) w.in_ok-core-in-None.ensures.makes
      | in-Some-pages+in-Ok+in_ok-core-in-Some-pages w ↦ subst (λ (k : EfiCoreValue CoreHeap). MakesCore {A = CoreHeap} size records granule tables (Ok k)) (sym w.core-is) w.in_ok-core-in-Some-pages.ensures.makes
    ] in
    rw c.ok_or.ensures.value (made size records granule tables c.match-pages.core is c.pointer_to.result c.number-2.result c.pointer_to.ensures refused)

pub returns-clause-over : goal.returns-clause-over
returns-clause-over c =
    let lies : IfSome c.args.pages (λ p. LiesFrom p.1 c.match-pages.core) = elim c.match-pages.branch [
      | in-None+in_ok-core-in-None w ↦ rw w.in-None.is tt
      | in-Some-pages+in-Ok+in_ok-core-in-Some-pages w ↦ rw (w.in-Some-pages.is, w.core-is) (_, w.in_ok-core-in-Some-pages.ensures.memory, refl)
    ] in
    rw c.ok_or.ensures.value (made_over c.match-pages.core c.args.pages c.pointer_to.result c.number-2.result lies c.pointer_to.ensures)
