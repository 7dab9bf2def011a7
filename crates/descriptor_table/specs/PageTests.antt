-- What may be asked of a page.
use Rattle.std.specs.Prelude.{Option}
use Rattle.page_ranges.specs.Memory.{Page, IsConventional, IsOwnedBy}
use Rattle.descriptor_table.specs.declared.searches.PageTest.{PageTest}
use Rattle.descriptor_table.specs.declared.searches.PageTest.TheVariants.{Conventional, OwnedBy}

abbrev pub Passes : PageTest → Option Page → Type 0
Passes Conventional x = IsConventional x
Passes (OwnedBy owner) x = IsOwnedBy owner x
