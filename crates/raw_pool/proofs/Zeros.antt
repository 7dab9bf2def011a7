-- The array of zeros that is copied into memory of which no byte is set. Assumes `Logic`.
use mathlib.Core.Path.{refl}
use mathlib.Core.List.{List, [], ◌∷◌, ◌++◌}
use Prim.Native.Nat.{ℕ, ◌+◌}
use seplogic.Ra.Ura.{Ura}
use lib.Dec.{T, lit<}
use lib.ListN.{replicate}
use base.Fraction.{full_share}
use base.Fml.{fat}
use base.Logic.{ent, sep}
use mir.Syntax.{w8}
use mir.Val.{Val, WT, has_ty, vint}
use types.Logic.{Logic, sem}
use types.Kit.{Item, Goal, Seq, ‵, ◌$◌, ◌∵◌, !, qed, by, move, use1, use2, done}
use borrow.Table.OneValue.{part_in}
use denote.Array.{Array, Array-Lawful, Array-repeat, array_val}
use denote.Builtin.{u8}
use denote.Laws.{Is, shows}
use denote.Memory.{part_at}
use denote.Plain.{uint_copy, uint_Lawful, uint_Makes}
use denote.Steps.{facts, owned}
use Rattle.raw_pool.specs.Ownership.{byte_row}
use Rattle.raw_pool.proofs.PageRows.{bytes_joined}

abbrev pub zeros : Val
zeros = array_val (replicate 32 (vint w8 0))

abbrev pub Typed : Type 0
Typed = T (has_ty (byte_row 32) zeros) × WT zeros

-- it is an array of 32 bytes
pub zeros_typed : {M : Type 1} {𝓤 : Ura M} {𝓛 : Logic 𝓤} {K : Type 0} {Γ : List (Item 𝓤)} {G : Goal 𝓤 𝓛.H} → K → (Typed → Seq K 𝓛 Γ G) → Seq K 𝓛 Γ G
zeros_typed {𝓛 = 𝓛} t k =
    owned t u8 (Is u8) (uint_Makes 𝓛 w8) 0 (vint w8 0 ∷ []) (refl, lit< tt) $
    use1 𝓛 (‵ ((Array u8 32).own_val (replicate 32 0) (zeros ∷ []))) (Array-repeat 𝓛 u8 (uint_copy 𝓛 w8) 32 0 (vint w8 0)) $
    facts t (Array u8 32) (Is (Array u8 32)) (shows 𝓛 (Array u8 32)) (replicate 32 0) (zeros ∷ []) (λ is. k ((Array-Lawful 𝓛 u8 (uint_Lawful 𝓛 w8) 32).typed (replicate 32 0) (zeros ∷ []) is).0)

module _ {M : Type 1} {𝓤 : Ura M} (𝓛 : Logic 𝓤) where
  open 𝓛 use {H}

  -- where it lies there are 32 bytes
  pub zeros_in : (b o : ℕ) → ent 𝓤 (H.at full_share (byte_row 32) b o zeros) (sem 𝓛 (part_at (Array u8 32) full_share (replicate 32 0) b o))
  zeros_in b o =
      qed 𝓛 (‵ (fat full_share (byte_row 32) b o zeros) ∷ []) ∵ owned ! u8 (Is u8) (uint_Makes 𝓛 w8) 0 (vint w8 0 ∷ []) (refl, lit< tt) $
      use1 𝓛 (‵ ((Array u8 32).own_val (replicate 32 0) (zeros ∷ []))) (Array-repeat 𝓛 u8 (uint_copy 𝓛 w8) 32 0 (vint w8 0)) $ move ! (1 ∷ 0 ∷ []) $
      use2 𝓛 (‵ (part_at (Array u8 32) full_share (replicate 32 0) b o)) (part_in 𝓛 (Array u8 32) refl full_share (replicate 32 0) b o zeros) $ done !

  -- the same behind bytes
  pub zeros_joined : (b o n : ℕ) (xs : List ℕ) → ent 𝓤 (sep 𝓤 (sem 𝓛 (part_at (Array u8 n) full_share xs b o)) (H.at full_share (byte_row 32) b (n + o) zeros)) (sem 𝓛 (part_at (Array u8 (n + 32)) full_share (xs ++ replicate 32 0) b o))
  zeros_joined b o n xs =
      qed 𝓛 (‵ (part_at (Array u8 n) full_share xs b o) ∷ ‵ (fat full_share (byte_row 32) b (n + o) zeros) ∷ []) ∵ move ! (1 ∷ []) $
      use1 𝓛 (‵ (part_at (Array u8 32) full_share (replicate 32 0) b (n + o))) (zeros_in b (n + o)) $ move ! (1 ∷ 0 ∷ []) $ by ! (bytes_joined 𝓛 b o n 32 xs (replicate 32 0))
