-- The handle owns what the block owns.
use Rattle.std.proofs.Common.{[], ◌∷◌, refl}
use Rattle.std.proofs.raw_atomic.Walks.{proved}
use base.Fml.{ftrue}
use denote.Signature.{Slot, plain}
use denote.Steps.{nothing}
use denote.Triple.Walked.{Stays, stay_dropped, says, ends_at}
use types.Kit.{‵, ◌⊛◌, ◌$◌, ◌∵◌, !, qed, by, done, split, join, group, keep, suffices}
use Rattle.std.proofs.alloc.Calls.{Goes-blank}
use Rattle.std.specs.contracts.alloc.Global.{the_row as Heap}
use Rattle.std.specs.contracts.impls.GlobalAllocator.TheImpl.{ghosts}
use Rattle.boot_services_c.specs.contracts.blocks.Block as block
use Rattle.boot_services_c.specs.contracts.handle.Rafkudin as handle
use Rattle.boot_services_c.specs.declared.handle.Rafkudin.{Rafkudin}
use Rattle.boot_services_c.specs.Cores.{CoreRow}
use Rattle.boot_services_c.proofs.Moves.{word, is_word, moved}
use Rattle.boot_services_c.specs.contracts.handle.Rafkudin.new as f
use Rattle.boot_services_c.proofs.handle.Rafkudin.new.Statement.{statement}
use Rattle.boot_services_c.proofs.handle.Rafkudin.new.Code as code

abbrev taken : Slot 0
taken = plain (λ _. block.the_row CoreRow Heap ghosts)

abbrev stayed : Stays f.ended.signature.params f.ended.kept
stayed = (stay_dropped taken f.ended.kept.0, tt)

pub new_spec : {M : Type 1} → statement M
new_spec 𝓤 𝓛 𝓜 𝓡 wired = let c = f.clauses 𝓛 𝓜.mem 𝓡.returns in
    proved 𝓛 f.ended stayed c 𝓜 𝓡 (Goes-blank 𝓛 0 taken f.ended.kept.0 (λ κs x w. tt), tt) f.Key.name code.function (code.unfolded 𝓤 𝓛.H 𝓜 𝓡 wired)
    (λ κs. ((λ x. word x.start x.heap ∷ []), tt)) (λ κs. ((λ x vs is. is_word x.start x.heap vs is.0), tt)) (λ κs qs bounds a _ are.
    let x = a.0 in let v = word x.start x.heap in let made : Rafkudin = record { start = x.start; heap = x.heap; core = x.value } in let Made = handle.the_row.own_val made (v ∷ []) in
    qed 𝓛 ((‵ ftrue ⊛ ‵ Made ⊛ ‵ ftrue) ∷ ‵ ftrue ∷ []) ∵ split ! $ keep ! (1 ∷ []) $ split ! $ keep ! (0 ∷ []) $
    by ! (moved 𝓛 _ _ _ _ x.start x.heap Made _ (
    qed 𝓛 (‵ Made ∷ []) ∵ suffices ! _ (ends_at 𝓛 f.ended stayed c ((κs, qs, bounds, a, (v ∷ [], tt)), tt) v made (tt, tt) (tt, tt)) $
    says ! refl $ nothing ! $ nothing ! $ join ! $ nothing ! $ group ! 3 $ done !)))
