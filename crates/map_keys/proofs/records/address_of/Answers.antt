use Rattle.std.proofs.Common.{◌≡◌, ℕ, ◌*◌, ◌/◌, ◌%◌, ap, ◌∙◌, arith}
use Rattle.std.specs.Prelude.{bit_or}
use Rattle.std.specs.Int.Bits.{or_zero_r}
use Rattle.map_keys.proofs.records.address_of.Goals as goal

pub returns : goal.returns
returns c =
    let n = c.args.page in
    let low : n * 4096 % 18446744073709551616 ≡ n * 4096 = omega (arith, c.requires) in
    let high : n / 4503599627370496 ≡ 0 = omega (arith, c.requires) in
    c.rotate_left.ensures ∙ ap (λ (k : ℕ). bit_or k (n / 4503599627370496)) low ∙ ap (bit_or (n * 4096)) high ∙ or_zero_r (n * 4096)
