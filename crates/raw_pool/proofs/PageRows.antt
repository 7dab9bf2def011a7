-- Rows of bytes of which none is set, and rows as memory. Assumes `Logic`.
use mathlib.Core.Path.{◌≡◌, refl, sym}
use Prim.Native.Nat.{ℕ, ◌+◌, ◌-◌, ◌≤◌, ◌<◌, ◌^◌}
use native.Mathlib.Omega.{arith}
use mathlib.Core.List.{List, [], ◌∷◌, ◌++◌}
use lib.ListN.{length, length-append}
use seplogic.Ra.Ura.{Ura}
use base.Fraction.{full_share}
use mir.Syntax.{w8, ty_int}
use mir.Val.{vint}
use base.Logic.{ent, sep}
use base.Fml.{fat, froom, fsep, feq}
use types.Logic.{Logic, sem}
use types.Kit.{‵, ◌⊛◌, ◌$◌, ◌∵◌, !, qed, by, move, keep, drop, use1, use2, split, rewrite, fsplit, fjoin, feq_i, feq_l, done}
use denote.Array.{Array}
use denote.Builtin.{u8}
use denote.Memory.{part_at}
use denote.Plain.{uint_in}
use denote.RawPtr.{Ptr, block_ptr}
use denote.RawPtr.Bytes.{bytes, bytes_apart, bytes_glue, bytes-room, bytes_whole}
use denote.RawPtr.Room.{past_bytes, room_cut, room_glue}
use denote.Steps.{nothing}
use Rattle.raw_pool.specs.Ownership.{byte_row}
use Rattle.raw_pool.specs.declared.raw_bytes.RawBytes.{RawBytes}
use Rattle.raw_pool.proofs.RawSteps.{memory}

-- a row of n bytes of which none is set
abbrev pub bare : Ptr → (n : ℕ) → n < 2 ^ 63 → RawBytes
bare p n low = record { ptr = p; len = 0; room = n; set = []; ok = (refl, omega arith, low) }

module _ {M : Type 1} {𝓤 : Ura M} (𝓛 : Logic 𝓤) (b o : ℕ) where
  open 𝓛 use {H}

  pub none_set : (n : ℕ) (low : n < 2 ^ 63) → ent 𝓤 (H.room (byte_row n) b o) (sem 𝓛 (memory (bare (block_ptr b o) n low) b o))
  none_set n low =
      let all : n ≡ n - 0 = omega arith in let here : o ≡ o + 0 = omega arith in
      qed 𝓛 (‵ (froom (byte_row n) b o) ∷ []) ∵ rewrite ! 0 (λ (j : ℕ). ‵ (froom (byte_row j) b o)) all refl $ rewrite ! 0 (λ (j : ℕ). ‵ (froom (byte_row (n - 0)) b j)) here refl $
      nothing ! $ feq_i ! ℕ 0 0 refl $ fjoin ! $ use1 𝓛 (‵ (part_at (Array u8 0) full_share [] b o)) (bytes_whole 𝓛 full_share 0 [] b o) $ fjoin ! $ done !

  -- memory behind n bytes, for k bytes and for those behind these
  pub behind_bytes : (n k room : ℕ) → n + k ≤ room → ent 𝓤 (H.room (byte_row (room - n)) b (o + n)) (sep 𝓤 (H.room (byte_row k) b (n + o)) (H.room (byte_row (room - (n + k))) b (o + (n + k))))
  behind_bytes n k room fits =
      let all : room - n ≡ k + (room - (n + k)) = omega arith in let here : o + n ≡ n + o = omega arith in let next : o + n + k ≡ o + (n + k) = omega arith in
      qed 𝓛 (‵ (froom (byte_row (room - n)) b (o + n)) ∷ []) ∵ rewrite ! 0 (λ (j : ℕ). ‵ (froom (byte_row j) b (o + n))) all refl $
      use1 𝓛 (‵ (froom (byte_row k) b (o + n)) ⊛ ‵ (froom (byte_row (room - (n + k))) b _)) (room_cut 𝓛 (ty_int w8) k (room - (n + k)) b (o + n)) $ split ! $
      rewrite ! 0 (λ (j : ℕ). ‵ (froom (byte_row k) b j)) here refl $ rewrite ! 1 (λ (j : ℕ). ‵ (froom (byte_row (room - (n + k))) b j)) (past_bytes k (o + n)) refl $
      rewrite ! 1 (λ (j : ℕ). ‵ (froom (byte_row (room - (n + k))) b j)) next refl $ done !

  -- the same for one byte
  pub behind_byte : (n room : ℕ) → n < room → ent 𝓤 (H.room (byte_row (room - n)) b (o + n)) (sep 𝓤 (H.room (ty_int w8) b (n + o)) (H.room (byte_row (room - (n + 1))) b (o + (n + 1))))
  behind_byte n room fits =
      qed 𝓛 (‵ (froom (byte_row (room - n)) b (o + n)) ∷ []) ∵
      use1 𝓛 (‵ (froom (byte_row 1) b (n + o)) ⊛ ‵ (froom (byte_row (room - (n + 1))) b (o + (n + 1)))) (behind_bytes n 1 room (omega arith)) $ split ! $
      use1 𝓛 (‵ (froom (ty_int w8) b (n + o)) ⊛ ‵ (froom (byte_row 0) b (n + o + 1))) (𝓛.laws.room_uncons (ty_int w8) 0 b (n + o)) $ split ! $ keep ! (0 ∷ 2 ∷ []) $ done !

  -- bytes behind bytes
  pub bytes_joined : (n k : ℕ) (xs ys : List ℕ) → ent 𝓤 (sep 𝓤 (sem 𝓛 (part_at (Array u8 n) full_share xs b o)) (sem 𝓛 (part_at (Array u8 k) full_share ys b (n + o)))) (sem 𝓛 (part_at (Array u8 (n + k)) full_share (xs ++ ys) b o))
  bytes_joined n k xs ys =
      qed 𝓛 (‵ (part_at (Array u8 n) full_share xs b o) ∷ ‵ (part_at (Array u8 k) full_share ys b (n + o)) ∷ []) ∵
      use1 𝓛 (‵ (fsep (feq ℕ (length xs) n) (bytes full_share xs b o))) (bytes_apart 𝓛 full_share n xs b o) $ fsplit ! $ feq_l ! (λ l. move ! (1 ∷ []) $
      use1 𝓛 (‵ (fsep (feq ℕ (length ys) k) (bytes full_share ys b (n + o)))) (bytes_apart 𝓛 full_share k ys b (n + o)) $ fsplit ! $ feq_l ! (λ m.
      let here : n + o ≡ o + length xs = omega arith in let both = length-append xs ys in let long : length (xs ++ ys) ≡ n + k = omega arith in
      rewrite ! 0 (λ (j : ℕ). ‵ (bytes full_share ys b j)) here refl $ move ! (1 ∷ 0 ∷ []) $ use2 𝓛 (‵ (bytes full_share (xs ++ ys) b o)) (bytes_glue 𝓛 full_share xs ys b o) $
      feq_i ! ℕ (length (xs ++ ys)) (n + k) long $ fjoin ! $ use1 𝓛 (‵ (part_at (Array u8 (n + k)) full_share (xs ++ ys) b o)) (bytes_whole 𝓛 full_share (n + k) (xs ++ ys) b o) $ done !))

  -- a byte behind bytes
  pub byte_joined : (n byte : ℕ) (xs : List ℕ) → ent 𝓤 (sep 𝓤 (sem 𝓛 (part_at (Array u8 n) full_share xs b o)) (H.at full_share (ty_int w8) b (n + o) (vint w8 byte))) (sem 𝓛 (part_at (Array u8 (n + 1)) full_share (xs ++ byte ∷ []) b o))
  byte_joined n byte xs =
      qed 𝓛 (‵ (part_at (Array u8 n) full_share xs b o) ∷ ‵ (fat full_share (ty_int w8) b (n + o) (vint w8 byte)) ∷ []) ∵ move ! (1 ∷ []) $
      use1 𝓛 (‵ (part_at u8 full_share byte b (n + o))) (uint_in 𝓛 full_share w8 byte b (n + o)) $ nothing ! $ move ! (1 ∷ 0 ∷ []) $ fjoin ! $
      feq_i ! ℕ (length (byte ∷ [])) 1 refl $ fjoin ! $ use1 𝓛 (‵ (part_at (Array u8 1) full_share (byte ∷ []) b (n + o))) (bytes_whole 𝓛 full_share 1 (byte ∷ []) b (n + o)) $
      move ! (1 ∷ 0 ∷ []) $ by ! (bytes_joined n 1 xs (byte ∷ []))

  glued : (m k : ℕ) → ent 𝓤 (sep 𝓤 (H.room (byte_row m) b o) (H.room (byte_row k) b (o + m))) (H.room (byte_row (m + k)) b o)
  glued m k = qed 𝓛 (‵ (froom (byte_row m) b o) ∷ ‵ (froom (byte_row k) b (o + m)) ∷ []) ∵ rewrite ! 1 (λ (j : ℕ). ‵ (froom (byte_row k) b j)) (sym (past_bytes m o)) refl $ by ! (room_glue 𝓛 (ty_int w8) m k b o)

  -- the bytes that are set are memory like what lies behind them
  pub unset : (d : RawBytes) → ent 𝓤 (sem 𝓛 (memory d b o)) (H.room (byte_row d.room) b o)
  unset d =
      let le = d.ok.1 in let all : d.len + (d.room - d.len) ≡ d.room = omega arith in
      qed 𝓛 (‵ (memory d b o) ∷ []) ∵ fsplit ! $ use1 𝓛 (‵ (fsep (feq ℕ (length d.set) d.len) (bytes full_share d.set b o))) (bytes_apart 𝓛 full_share d.len d.set b o) $ fsplit ! $ drop ! $
      use1 𝓛 (‵ (froom (byte_row (length d.set)) b o)) (bytes-room 𝓛 d.set b o) $ rewrite ! 0 (λ (j : ℕ). ‵ (froom (byte_row j) b o)) (sym d.ok.0) refl $
      use2 𝓛 (‵ (froom (byte_row (d.len + (d.room - d.len))) b o)) (glued d.len (d.room - d.len)) $ rewrite ! 0 (λ (j : ℕ). ‵ (froom (byte_row j) b o)) all refl $ done !
