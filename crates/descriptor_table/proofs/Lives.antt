-- Lifetimes that calls ask for, of an allocator, of a list that is on it and of a leaf.
use Rattle.std.proofs.Common.{[], ◌++◌}
use base.Fml.{Lft}
use contract.BorrowLft.{◌⊑◌, ⊑_meet, ⊑_static}

pub once : (κ lives : Lft) → κ ⊑ lives → κ ⊑ lives ++ []
once κ lives low = ⊑_meet κ lives [] low (⊑_static κ)

pub twice : (κ lives : Lft) → κ ⊑ lives → κ ⊑ (lives ++ []) ++ (lives ++ [])
twice κ lives low = ⊑_meet κ (lives ++ []) (lives ++ []) (once κ lives low) (once κ lives low)

pub of_leaf : (κ lives : Lft) → κ ⊑ lives → κ ⊑ (lives ++ []) ++ (((lives ++ []) ++ (lives ++ [])) ++ [])
of_leaf κ lives low = ⊑_meet κ (lives ++ []) (((lives ++ []) ++ (lives ++ [])) ++ []) (once κ lives low) (once κ ((lives ++ []) ++ (lives ++ [])) (twice κ lives low))
