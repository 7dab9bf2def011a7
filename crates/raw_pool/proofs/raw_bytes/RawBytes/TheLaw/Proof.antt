-- A `&` to a row of bytes lends those that are set, and not the memory behind them. Assumes `Logic`.
use mathlib.Core.List.{List}
use Prim.Native.Nat.{ℕ, ◌-◌}
use seplogic.Ra.Ura.{Ura}
use mir.Syntax.{w8}
use base.Fraction.{full_share}
use base.Fml.{Lft}
use types.Logic.{Logic}
use denote.Array.{Array, Array-row_laws}
use denote.Builtin.{u8}
use denote.Copied.{uint_Copied}
use denote.RawPtr.{Ptr, block_ptr, null_ptr, lies_at, room_for, ◌+ₚ◌}
use denote.Shares.{Shares-Array}
use denote.Param.Shared.{copy_shared}
use denote.Struct.Field.{RawPtr-field, usize-field}
use denote.Struct.Laws.{RawPtr-copy, usize-copy, u8-copy}
use denote.Struct.Lending.{lent_at_shr_laws, Lends, Lends-false, Lends-lies, Lends-first, of_Lends}
use Rattle.raw_pool.specs.Ownership.{byte_row, row_owned, row_lent}
use Rattle.raw_pool.specs.contracts.raw_bytes.RawBytes as C
use Rattle.raw_pool.proofs.raw_bytes.RawBytes.TheLaw.Statement.{statement}

Lends-row : {M : Type 1} {𝓤 : Ura M} (𝓛 : Logic 𝓤) (l : Lft) (p : Ptr) (n room : ℕ) (xs : List ℕ) → Lends 𝓛 (row_owned p n room xs) (row_lent p n xs) l
Lends-row 𝓛 l null_ptr n room xs = Lends-false 𝓛 (row_lent null_ptr n xs) l
Lends-row 𝓛 l (block_ptr b o) n room xs =
    let p : Ptr = block_ptr b o in
    Lends-first 𝓛 (lies_at (Array u8 n) full_share p xs) (room_for (byte_row (room - n)) (p +ₚ n)) (row_lent p n xs) l
    (Lends-lies 𝓛 (Array u8 n) l p xs (Shares-Array 𝓛 u8 tt n l ((uint_Copied 𝓛 w8).shares full_share l) xs))

pub shares : statement
shares = of_Lends C.struct C.the_codes C.the_heap C.the_lent (λ d p. lent_at_shr_laws (Array u8 d.len) (Array-row_laws u8 u8-copy.shr_laws d.len) d.ptr d.set)
    (copy_shared RawPtr-field RawPtr-copy, (copy_shared usize-field usize-copy, tt)) (λ M 𝓤 𝓛 d p. Lends-row 𝓛 C.the_row.lives d.ptr d.len d.room d.set)
