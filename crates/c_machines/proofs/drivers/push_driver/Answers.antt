use Rattle.std.proofs.Common.{◌≡◌, ◌∙◌, ℕ, Bool, List, [], ◌∷◌, ◌++◌, length, map, slice_set, sym, ap, subst, arith}
use Rattle.std.proofs.lemmas.List.{map-append}
use Rattle.c_machines.specs.DriverTables.{DriverRecord, driver_in, fits, read_if, returned}
use Rattle.c_machines.proofs.Behind.{set_behind}
use Rattle.c_machines.proofs.Elements.{passed}
use Rattle.c_machines.proofs.drivers.push_driver.Goals as goal

pub returns-then-fill : goal.returns-then-fill
returns-then-fill g c =
    let table = c.args.table.now in let old = c.args.drivers.now.items in let all = c.push_empty.new.drivers.items in let filled = c.fill.new.driver in
    let (good, same) = passed (fits table) (driver_in table) (returned filled) (subst (λ (b : Bool). read_if b (returned filled) ≡ read_if (fits table) (driver_in table)) c.if-fill.true c.fill.ensures) in
    let (count, front) = c.in_ok-push_empty.ensures.ok in
    let at : c.len-at.result ≡ length old = omega (arith, c.len-at.ensures) in
    let behind : slice_set all c.len-at.result filled ≡ old ++ filled ∷ [] = subst (λ (n : ℕ). slice_set all n filled ≡ old ++ filled ∷ []) (sym at) (set_behind old all filled count front) in
    (good, ap (map returned) behind ∙ map-append returned old (filled ∷ []) ∙ ap (λ (d : DriverRecord). map returned old ++ d ∷ []) same)
