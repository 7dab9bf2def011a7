use Rattle.std.proofs.Common.{rules, ◌==◌, not, ℕ}
use Rattle.guid_handles.proofs.Retained.{filter_retained}
use Rattle.guid_handles.proofs.short_list.ShortList.remove.Goals as goal

pub returns : goal.returns
returns g c = rw (← c.self.view_is) (filter_retained _ (λ (k : ℕ). not (k == c.args.number)) _ (λ x b f y k. search rules) _ _ c.retain.ensures.filtered)
