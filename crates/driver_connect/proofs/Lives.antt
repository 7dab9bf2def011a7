-- Lifetimes that calls ask for, of a value with two lists in it.
use Rattle.std.proofs.Common.{[], ◌++◌}
use base.Fml.{Lft}
use contract.BorrowLft.{◌⊑◌, ⊑_meet, ⊑_static}

once : (κ lives : Lft) → κ ⊑ lives → κ ⊑ lives ++ []
once κ lives low = ⊑_meet κ lives [] low (⊑_static κ)

-- a list
abbrev listed : Lft → Lft
listed lives = (lives ++ []) ++ (lives ++ [])

of_list : (κ lives : Lft) → κ ⊑ lives → κ ⊑ listed lives
of_list κ lives low = let one = once κ lives low in ⊑_meet κ (lives ++ []) (lives ++ []) one one

pub of_two_lists : (κ lives : Lft) → κ ⊑ lives → κ ⊑ (lives ++ []) ++ (listed lives ++ (listed lives ++ []))
of_two_lists κ lives low =
    let list = of_list κ lives low in ⊑_meet κ (lives ++ []) (listed lives ++ (listed lives ++ [])) (once κ lives low) (⊑_meet κ (listed lives) (listed lives ++ []) list (once κ (listed lives) list))
