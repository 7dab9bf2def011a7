-- What a row of bytes behind a raw pointer owns is taken apart and made, and a `&mut` to one is opened and closed. Assumes `Logic`.
--     memory d b o         the bytes of d that are set, and the memory behind them, in the block b from the offset o on
--     row_had, row_made    what is owned of a row: its two machine words, and that memory
--     row_opens, row_closes       the same behind a `&mut`
--     seen                 what a `&` to a row shows: the two words, and a `&` to each byte that is set
use mathlib.Core.Path.{◌≡◌, refl, sym, ap, ◌∙◌}
use Prim.Native.Nat.{ℕ, ◌+◌, ◌-◌, ◌<◌, ◌^◌}
use mathlib.Core.List.{List, [], ◌∷◌, ◌++◌}
use seplogic.Ra.Ura.{Ura}
use base.Fraction.{full_share}
use mir.Syntax.{w64}
use mir.Val.{Val, vint, vptr, vstruct, vcons, vnil, of_list}
use base.Logic.{ent, sep, id⊢, never}
use base.Stored.{Gv}
use base.Fml.{Lft, GName, Share, Fml, fsep, froom, flft, fobs, fauth, fbor, fobor, fhide}
use types.Logic.{Logic, sem}
use types.Kit.{Goal, Soaks, Step, step, Seq, Item, ‵, ◌⊛◌, ◌$◌, ◌∵◌, !, qed, move, keep, drop, use1, split, rewrite, fsplit, fjoin, fpick, fpack, feq_l, feq_i, flt_l, flt_i, done}
use types.SemTy.{Body}
use denote.RattleType.{RattleType, Valss}
use denote.Memory.{cell_at, mem, part_at, hidden_shr}
use denote.Array.{Array}
use denote.Builtin.{u8, usize}
use denote.Opens.{unhide}
use denote.RawPtr.{Ptr, RawPtr, block_ptr, null_ptr, ptr_val, in_a_block}
use denote.Steps.{opens, closes, nothing}
use denote.Struct.Struct.{Struct, within}
use denote.Struct.Lending.{lent_out}
use denote.Struct.Owning.{shape}
use Rattle.raw_pool.specs.Ownership.{byte_row, row_owned, row_lent}
use Rattle.raw_pool.specs.declared.raw_bytes.RawBytes.{RawBytes}
use Rattle.raw_pool.specs.contracts.raw_bytes.RawBytes as C

abbrev pub words_val : Ptr → ℕ → Val
words_val p n = vstruct (vcons (ptr_val p) (vcons (vint w64 n) vnil))

abbrev pub row_val : ℕ → ℕ → ℕ → Val
row_val b o n = words_val (block_ptr b o) n

-- the two words, as a plain struct
abbrev pub Words : RattleType
Words = Struct (shape C.the_type)

abbrev pub memory : RawBytes → ℕ → ℕ → Fml
memory d b o = fsep (part_at (Array u8 d.len) full_share d.set b o) (froom (byte_row (d.room - d.len)) b (o + d.len))

module _ {M : Type 1} {𝓤 : Ura M} {𝓛 : Logic 𝓤} {K : Type 0} {Γ : List (Item 𝓤)} {G : Goal 𝓤 𝓛.H} where
  pub row_had : K → (d : RawBytes) (vs : List Val)
      → ((b o : ℕ) → d.ptr ≡ block_ptr b o → vs ≡ row_val b o d.len ∷ [] → d.len < 2 ^ 64 → Seq K 𝓛 (‵ (memory d b o) ∷ Γ) G)
      → Seq K 𝓛 (‵ (C.the_row.own_val d vs) ∷ Γ) G
  row_had t d vs k =
      fsplit t $ fpick t (λ vss. fsplit t $ feq_l t (λ all. fsplit t $ feq_l t (λ e₀. fsplit t $ fsplit t $ feq_l t (λ e₁. flt_l t (λ fits. drop t $
      in_a_block t d.ptr (λ p. row_owned p d.len d.room d.set) (id⊢ 𝓤 (never 𝓤)) (λ b o e.
      k b o e (all ∙ ((λ i. vstruct (of_list (e₀ i ++ (e₁ i ++ []))) ∷ []) ∙ ap (λ (p : Ptr). words_val p d.len ∷ []) e)) fits))))))

  pub row_made : K → (d : RawBytes) (b o : ℕ) → d.ptr ≡ block_ptr b o → d.len < 2 ^ 64
      → Step K 𝓛 (‵ (C.the_row.own_val d (row_val b o d.len ∷ [])) ∷ Γ) G (‵ (memory d b o) ∷ Γ) G
  row_made t d b o at fits = step (λ s.
      nothing t $ flt_i t d.len (2 ^ 64) fits $ feq_i t (List Val) (vint w64 d.len ∷ []) (vint w64 d.len ∷ []) refl $ fjoin t $ fjoin t $
      feq_i t (List Val) (vptr b o ∷ []) (vptr b o ∷ []) refl $ fjoin t $ feq_i t (List Val) (row_val b o d.len ∷ []) (row_val b o d.len ∷ []) refl $ fjoin t $
      fpack t (Valss (shape C.the_type).fields) (within (shape C.the_type) (block_ptr b o, (d.len, tt)) (row_val b o d.len ∷ [])) (vptr b o ∷ [], (vint w64 d.len ∷ [], tt)) $ fjoin t $
      rewrite t 0 (λ (p : Ptr). ‵ (fsep (Words.own_val (p, (d.len, tt)) (row_val b o d.len ∷ [])) (row_owned p d.len d.room d.set))) (sym at) refl $ s)

module _ {M : Type 1} {𝓤 : Ura M} {𝓛 : Logic 𝓤} {K : Type 0} {Γ : List (Item 𝓤)} {G : Goal 𝓤 𝓛.H} where
  -- [the memory; the two words; the open borrow; obs; auth]
  pub row_opens : K → Soaks G → {κ : Lft} {q : Share} {γ : GName} (d : RawBytes) (rb ro : ℕ)
      → ((b o : ℕ) → d.ptr ≡ block_ptr b o → d.len < 2 ^ 64
      → Seq K 𝓛 (‵ (memory d b o) ∷ ‵ (cell_at full_share C.the_row.mir (row_val b o d.len ∷ []) rb ro) ∷ ‵ (fobor κ q (Body (mem C.the_row) rb ro γ)) ∷ ‵ (fobs γ (C.the_row.coded.code d)) ∷ ‵ (fauth γ (C.the_row.coded.code d)) ∷ Γ) G)
      → Seq K 𝓛 (‵ (fobs γ (C.the_row.coded.code d)) ∷ ‵ (fbor κ (Body (mem C.the_row) rb ro γ)) ∷ ‵ (flft κ q) ∷ Γ) G
  row_opens t z d rb ro k =
      opens t z C.the_row {h = d} rb ro (λ vs. move t (1 ∷ []) $ row_had t d vs (λ b o e is fits.
      rewrite t 1 (λ (ws : List Val). ‵ (cell_at full_share C.the_row.mir ws rb ro)) is refl $ k b o e fits))

  pub row_closes : K → Soaks G → {κ : Lft} {q : Share} {u v : Gv} {γ : GName} (d : RawBytes) (b o rb ro : ℕ) → d.ptr ≡ block_ptr b o → d.len < 2 ^ 64
      → Step K 𝓛 (‵ (fobs γ (C.the_row.coded.code d)) ∷ ‵ (fbor κ (Body (mem C.the_row) rb ro γ)) ∷ ‵ (flft κ q) ∷ Γ) G
      (‵ (memory d b o) ∷ ‵ (cell_at full_share C.the_row.mir (row_val b o d.len ∷ []) rb ro) ∷ ‵ (fobor κ q (Body (mem C.the_row) rb ro γ)) ∷ ‵ (fobs γ u) ∷ ‵ (fauth γ v) ∷ Γ) G
  row_closes t z d b o rb ro at fits = step (λ s. row_made t d b o at fits $ move t (1 ∷ 0 ∷ []) $ closes t z C.the_row d (row_val b o d.len ∷ []) rb ro $ s)

module _ {M : Type 1} {𝓤 : Ura M} (𝓛 : Logic 𝓤) (κ : Lft) where
  pub seen : (d : RawBytes) (b o : ℕ) → ent 𝓤 (sem 𝓛 (hidden_shr C.the_row κ d b o)) (sep 𝓤 (sem 𝓛 (hidden_shr RawPtr κ d.ptr b (o + 0))) (sep 𝓤 (sem 𝓛 (hidden_shr usize κ d.len b (o + 8))) (sem 𝓛 (row_lent d.ptr d.len d.set κ))))
  seen d b o = qed 𝓛 (‵ (hidden_shr C.the_row κ d b o) ∷ []) ∵
      use1 𝓛 (‵ (hidden_shr Words κ (d.ptr, (d.len, tt)) b o) ⊛ ‵ (fhide (C.the_lent d d.ptr κ))) (lent_out 𝓛 C.struct C.the_codes C.the_heap C.the_lent κ d b o) $ split ! $
      unhide ! $ fsplit ! $ fsplit ! $ move ! (1 ∷ []) $ fsplit ! $ keep ! (2 ∷ 0 ∷ 4 ∷ []) $ done !

  pub none_at_null : (n : ℕ) (xs : List ℕ) → ent 𝓤 (sem 𝓛 (row_lent null_ptr n xs κ)) (never 𝓤)
  none_at_null n xs = qed 𝓛 (‵ (row_lent null_ptr n xs κ) ∷ []) ∵ fsplit ! $ keep ! (0 ∷ []) $ done !
