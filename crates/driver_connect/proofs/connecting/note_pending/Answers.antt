use Rattle.std.proofs.Common.{◌≡◌, ◌++◌, [], ◌∷◌, length, length-append, ap, ◌∙◌, arith}
use Rattle.std.specs.Prelude.{option_to_list}
use Rattle.driver_connect.specs.Pending.{first_last}
use Rattle.driver_connect.proofs.Pending.{moved_last}
use Rattle.driver_connect.proofs.connecting.note_pending.Goals as goal

pub loop-handle-preserved : goal.loop-handle-preserved
loop-handle-preserved g c =
    let popped : c.loop-handle.made.items ≡ c.pop.new.self.items ++ (c.in-Some.handle ∷ []) = c.pop.ensures.items ∙ ap (λ o. c.pop.new.self.items ++ option_to_list o) c.in-Some.is in
    ap (λ xs. xs ++ first_last c.args.levels c.pop.new.self.items) c.in_ok-push.ensures.items
    ∙ moved_last c.args.levels c.loop-handle.pending.items c.pop.new.self.items c.in-Some.handle c.loop-handle.made.items popped ∙ c.loop-handle.invariant

pub loop-handle-smaller : goal.loop-handle-smaller
loop-handle-smaller g c =
    let popped : c.loop-handle.made.items ≡ c.pop.new.self.items ++ (c.in-Some.handle ∷ []) = c.pop.ensures.items ∙ ap (λ o. c.pop.new.self.items ++ option_to_list o) c.in-Some.is in
    let long = ap length popped ∙ length-append c.pop.new.self.items (c.in-Some.handle ∷ []) in
    omega (arith, long)
