-- What lies in a slot, and how the thread's token opens and shuts one that is seen through a `&`. Assumes `Logic`.
use Rattle.std.proofs.Common.{◌≡◌, ℕ, List, [], ◌∷◌, IfSome, None, Some, T, refl}
use seplogic.Ra.Ura.{Ura}
use mir.Syntax.{Ty}
use mir.Val.{Val}
use base.Fraction.{full_share}
use base.Logic.{sep, wand, apply∗}
use base.Fml.{Lft, Share, Fml, Incl-refl, ftrue, fsep, fex, fat, flft, ftok}
use base.Mask.{every, less}
use types.Logic.{Logic, sem}
use types.Kit.{Item, Goal, Seq, Step, Soaks, step, ‵, raw, ◌⊛◌, later, ◌$◌, move, drop, use1, use2, use3, split, join, fsplit, fjoin, fpick, fpack, rewrite, await}
use types.Na.{na_acc_in}
use denote.RattleType.{RattleType}
use denote.Exit.{Last, left, yes}
use denote.Param.Mute.{blank}
use denote.Laws.{Lawful}
use denote.Memory.{cell_at, hidden_shr, lone}
use denote.Opens.{unhide}
use denote.Param.{layout}
use denote.Steps.{nothing}
use denote.Struct.Members.{Member}
use Rattle.core.specs.contracts.option.Option as option
use Rattle.core.proofs.option.Option.TheLaws.{the_row_laws as option_laws}
use Rattle.core.proofs.cell.Inside.{Good, round, wraps, unwraps}
use Rattle.linked_list_allocator.specs.Ownership.{fields_with}
use Rattle.raw_pool.specs.PagePlaces.{Place}
use Rattle.raw_pool.specs.PageCells.{cells_place}
use Rattle.raw_pool.specs.contracts.pages.cells.Cells as cells
use Rattle.raw_pool.proofs.pages.cells.Cells.TheLaws as cells_laws
use Rattle.raw_pool.specs.contracts.pages.slot.Slot as slot
use Rattle.raw_pool.specs.contracts.pages.slot.Slot.TheInside as inside

-- the type of what a slot has, as a row and as a member of a struct
abbrev pub Held : RattleType
Held = option.the_row cells.the_row

abbrev held : Member
held = record { row = Held; ty = layout Held }

abbrev pub Fields : RattleType
Fields = inside.the_row

abbrev pub slot_type : Ty
slot_type = lone Fields.mir

-- cells, if there are any, that lie at a place
abbrev pub At : Place → Held.Denot → Type 0
At p x = IfSome x (λ c. cells_place c ≡ p)

abbrev located : Place → Fields.Denot → Fml
located p i = fex (At p i.cells) (λ _. ftrue)

abbrev pub contents : Place → List Val → Fml
contents p vs = fex Fields.Denot (λ i. fsep (Fields.own_val i vs) (located p i))

pub held_Lawful : {M : Type 1} {𝓤 : Ura M} (𝓛 : Logic 𝓤) → Lawful 𝓛 Held
held_Lawful 𝓛 = (option_laws cells.the_row cells_laws.the_row_laws).lawful 𝓛

pub quiet : (x : Held.Denot) (f : Last (Held.exit yes) x) → T (blank (left (Held.exit yes) x f))
quiet None f = tt
quiet (Some c) f = tt

-- the token without the slot, and what gives it back for the slot's contents
abbrev pub Opened : {M : Type 1} {𝓤 : Ura M} (𝓛 : Logic 𝓤) → Place → ℕ → ℕ → Lft → Share → Item 𝓤
Opened {𝓤 = 𝓤} 𝓛 p b o κ q =
    ‵ (ftok (less every (b, o))) ⊛ raw (wand 𝓤 (sep 𝓤 (sem 𝓛 (fields_with Fields (located p) b o)) (𝓛.A.tok (less every (b, o)))) (𝓛.H.⇛ (sep 𝓤 (𝓛.A.lft κ q) (𝓛.A.tok every))))

module _ {M : Type 1} {𝓤 : Ura M} {𝓛 : Logic 𝓤} {K : Type 0} {Γ : List (Item 𝓤)} {G : Goal 𝓤 𝓛.H} (p : Place) where
  open 𝓛 use {H, A}

  pub contents_out : K → (vs : List Val) → ((x : Held.Denot) (v : Val) → At p x → Good (layout Held) v → vs ≡ round v ∷ [] → Seq K 𝓛 (‵ (Held.own_val x (v ∷ [])) ∷ Γ) G) → Seq K 𝓛 (‵ (contents p vs) ∷ Γ) G
  contents_out t vs k = fpick t (λ i. fsplit t $ move t (1 ∷ []) $ fpick t (λ lies. drop t $ unwraps held t (held_Lawful 𝓛) [] [] i.cells vs (λ v typed e. k i.cells v lies typed e)))

  pub contents_in : K → (x : Held.Denot) (v : Val) → At p x → Step K 𝓛 (‵ (contents p (round v ∷ [])) ∷ Γ) G (‵ (Held.own_val x (v ∷ [])) ∷ Γ) G
  contents_in t x v lies = step (λ s.
      let i : Fields.Denot = record { cells = x } in
      use1 𝓛 (‵ (Fields.own_val i (round v ∷ []))) (wraps held 𝓛 [] [] x v) $ nothing t $ fpack t (At p x) (λ _. ftrue) lies $ move t (1 ∷ 0 ∷ []) $ fjoin t $
      fpack t Fields.Denot (λ j. fsep (Fields.own_val j (round v ∷ [])) (located p j)) i $ s)

module _ {M : Type 1} {𝓤 : Ura M} {𝓛 : Logic 𝓤} {K : Type 0} {Γ : List (Item 𝓤)} {G : Goal 𝓤 𝓛.H} (p : Place) (b o : ℕ) where
  open 𝓛 use {H, A}

  pub opens : K → Soaks G → {κ : Lft} {q : Share}
      → ((x : Held.Denot) (v : Val) → At p x → Good (layout Held) v → Seq K 𝓛 (‵ (fat full_share slot_type b o (round v)) ∷ ‵ (Held.own_val x (v ∷ [])) ∷ Opened 𝓛 p b o κ q ∷ Γ) G)
      → Seq K 𝓛 (‵ (hidden_shr slot.the_row κ p b o) ∷ ‵ (flft κ q) ∷ ‵ (ftok every) ∷ Γ) G
  opens t z {κ} {q} k =
      let P : Fml = fields_with Fields (located p) b o in
      unhide t $ use3 𝓛 (later (‵ P ⊛ Opened 𝓛 p b o κ q)) (na_acc_in 𝓛 κ ((κ, q) ∷ []) every (b, o) P (Incl-refl κ) refl) $ await t z $ split t $
      fpick t (λ vs. fsplit t $ move t (1 ∷ []) $ contents_out p t vs (λ x v lies typed e.
      rewrite t 1 (λ (us : List Val). ‵ (cell_at full_share Fields.mir us b o)) e refl $ move t (1 ∷ []) $
      use1 𝓛 (‵ (fat full_share slot_type b o (round v))) (𝓛.laws.raw_at full_share slot_type b o (round v)) $ k x v lies typed))

  pub shuts : K → Soaks G → {κ : Lft} {q : Share} (x : Held.Denot) (v : Val) → At p x
      → Step K 𝓛 (‵ (flft κ q) ∷ ‵ (ftok every) ∷ Γ) G (‵ (fat full_share slot_type b o (round v)) ∷ ‵ (Held.own_val x (v ∷ [])) ∷ Opened 𝓛 p b o κ q ∷ Γ) G
  shuts t z {κ} {q} x v lies = step (λ s.
      let P : Fml = fields_with Fields (located p) b o in
      use1 𝓛 (‵ (cell_at full_share Fields.mir (round v ∷ []) b o)) (𝓛.laws.at_raw full_share slot_type b o (round v)) $ move t (1 ∷ []) $ contents_in p t x v lies $ move t (1 ∷ 0 ∷ []) $ fjoin t $
      fpack t (List Val) (λ us. fsep (cell_at full_share Fields.mir us b o) (contents p us)) (round v ∷ []) $ move t (1 ∷ []) $ split t $ move t (2 ∷ 0 ∷ []) $ join t $
      use2 𝓛 (later (‵ (flft κ q) ⊛ ‵ (ftok every))) (apply∗ 𝓤 (sep 𝓤 (sem 𝓛 P) (A.tok (less every (b, o)))) (H.⇛ (sep 𝓤 (A.lft κ q) (A.tok every)))) $ await t z $ split t $ s)
