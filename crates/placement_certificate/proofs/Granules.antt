-- Multiples of a granule.
use Rattle.std.proofs.Common.{◌≡◌, ℕ, ◌+◌, ◌%◌, ◌<◌, ◌≤◌, arith}
use Rattle.page_ranges.specs.Granules.{IsGranule}
use Rattle.page_ranges.proofs.WholeGranules.{for_granules}
use Rattle.placement_certificate.specs.Search.{multiple_to}

pub granule_most : (g : ℕ) → IsGranule g → g ≤ 16
granule_most g is = for_granules (λ g. g ≤ 16) (omega arith) (omega arith) g is

module _ (g : ℕ) (granule : IsGranule g) where
  pub multiple_to_whole : (n : ℕ) → multiple_to n g % g ≡ 0
  multiple_to_whole n = for_granules (λ g. multiple_to n g % g ≡ 0) (omega arith) (omega arith) g granule

  pub multiple_to_most : (n : ℕ) → multiple_to n g ≤ n
  multiple_to_most n = omega arith

  -- no multiple up to the number is higher
  pub multiple_to_highest : (n q : ℕ) → q % g ≡ 0 → q ≤ n → q ≤ multiple_to n g
  multiple_to_highest n q whole most = for_granules (λ g. q % g ≡ 0 → q ≤ multiple_to n g) (λ w. omega arith) (λ w. omega arith) g granule whole

  -- the next multiple
  pub next_multiple : (p q : ℕ) → p % g ≡ 0 → q % g ≡ 0 → p < q → p + g ≤ q
  next_multiple p q low high l = for_granules (λ g. p % g ≡ 0 → q % g ≡ 0 → p + g ≤ q) (λ a b. omega arith) (λ a b. omega arith) g granule low high

  pub next_whole : (p : ℕ) → p % g ≡ 0 → (p + g) % g ≡ 0
  next_whole p whole = for_granules (λ g. p % g ≡ 0 → (p + g) % g ≡ 0) (λ w. omega arith) (λ w. omega arith) g granule whole
