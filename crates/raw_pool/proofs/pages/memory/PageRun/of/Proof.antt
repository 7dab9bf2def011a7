-- `of` makes memory of a row. Assumes `Logic`.
use Rattle.std.proofs.Common.{◌≡◌, ℕ, ◌*◌, ◌^◌, ◌<◌, List, [], ◌∷◌, ◌++◌, refl, subst, w64}
use mir.Syntax.{Fn}
use mir.Val.{Val, vint}
use base.Logic.{SProp, emp}
use base.Fml.{froom}
use prog.Wp.{Env, WpFn}
use contract.Monad.{fact, fact_i}
use contract.Running.{tables}
use types.Kit.{‵, raw, ◌⊛◌, prop, ◌$◌, ◌∵◌, !, qed, by, move, drop, use0, use1, split, regoal, rewrite, fsplit, fjoin}
use types.Part.{whole, sub, agg}
use types.Run.{stop, fld, of_opd, no_more, and_then, returns, enter}
use types.ByLocal.{alloc_all, pass_all, free_all, look_at, get, get_in, sets, env}
use denote.RattleType.{owns}
use denote.RawPtr.{Ptr, block_ptr}
use denote.Signature.{types_at}
use denote.Steps.{nothing, heard}
use denote.Triple.Entry.{alive}
use denote.Triple.Walked.{Stays, stay_dropped, walk_of, Goes-dropped}
use Rattle.core.proofs.alloc.Calls.{Goes-blank}
use Rattle.std.proofs.raw_atomic.Walks.{proved_at, leaves}
use Rattle.linked_list_allocator.proofs.Walks.{slot_at}
use Rattle.linked_list_allocator.proofs.Values.{sized_val, sized_own, sized_made}
use Rattle.raw_pool.specs.Ownership.{byte_row}
use Rattle.raw_pool.specs.declared.raw_bytes.RawBytes.{RawBytes}
use Rattle.raw_pool.proofs.RawSteps.{row_val, row_had}
use Rattle.raw_pool.proofs.PageRows.{unset}
use Rattle.raw_pool.specs.contracts.pages.memory.PageRun as region
use Rattle.raw_pool.specs.contracts.pages.memory.PageRun.of.{ended, clauses}
use Rattle.raw_pool.specs.contracts.pages.memory.PageRun.of.Key.{name as #self}
use Rattle.raw_pool.proofs.pages.memory.PageRun.of.Statement.{statement}
use Rattle.raw_pool.proofs.pages.memory.PageRun.of.Code as compiled

pub of_spec : {M : Type 1} → statement M
of_spec 𝓤 𝓛 𝓜 𝓡 wired =
    let H = 𝓛.H in let T = ended in let c = clauses 𝓛 𝓜.mem 𝓡.returns in let fn : Fn = compiled.function in
    let stays : Stays T.signature.params T.kept = (stay_dropped (slot_at 0 T.signature.params) T.kept.0, (stay_dropped (slot_at 1 T.signature.params) T.kept.1.0, tt)) in
    let C = (tables 𝓤 H 𝓜 𝓡 𝓡.env).C in let Λ = (tables 𝓤 H 𝓜 𝓡 𝓡.env).Λ in
    proved_at 𝓛 T stays c 𝓜 𝓡 (Goes-blank 𝓛 0 (slot_at 0 T.signature.params) T.kept.0 (λ κs x f. tt), (Goes-dropped 𝓛 0 (slot_at 1 T.signature.params) T.kept.1.0 (λ κs x f. refl), tt)) #self fn (compiled.unfolded 𝓤 H 𝓜 𝓡 wired) (λ z are.
    let Post : Val → SProp 𝓤 = (walk_of 𝓛 T stays c).post z in
    let a = z.0.3 in let vss = z.0.4 in let r : RawBytes = a.0 in let n : ℕ = a.1.0 in let fits = are.1.0.1 in
    let Asked : Type 0 = r.room ≡ 4096 * n in
    qed 𝓛 ((raw (alive 𝓛 T.signature z.0.0 z.0.1) ⊛ ‵ (owns (types_at T.signature.params z.0.0) a vss)) ∷ raw (fact 𝓤 Asked) ∷ []) ∵
    move ! (1 ∷ []) $ heard ! Asked (λ asked. split ! $ move ! (1 ∷ []) $
    fsplit ! $ row_had ! r vss.0 (λ b o at₁ e₁ fits₁. move ! (1 ∷ []) $ drop ! $
    let few : 4096 * n < 2 ^ 63 = subst (λ (j : ℕ). j < 2 ^ 63) asked r.ok.2 in let start : Ptr = block_ptr b o in
    use1 𝓛 (‵ (froom (byte_row r.room) b o)) (unset 𝓛 b o r) $
    rewrite ! 0 (λ (j : ℕ). ‵ (froom (byte_row j) b o)) asked refl $
    regoal ! (λ (us : List Val). prop (WpFn 𝓤 H C Λ fn us Post)) (λ i. e₁ i ++ (are.1.0.0 i ++ [])) refl $
    enter ! C Λ fn (row_val b o r.len ∷ vint w64 n ∷ []) Post $
    alloc_all ! (λ l. pass_all ! refl ((tt, (tt, (record { fits = fits₁ }, tt))), ((tt, record { fits = fits }), tt)) $ let En : Env 𝓤 𝓛.H = env fn.locals l in
    sets ! (of_opd ! (get_in ! (fld ! refl (stop !)) (sub ! 0 refl (whole !)))) refl (tt, tt) $
    sets ! (agg ! (and_then ! (get ! refl) (and_then ! (get ! refl) (no_more !)))) refl (tt, (tt, (record { fits = fits }, tt))) $
    returns ! (look_at ! 0 refl) $ free_all ! refl $
    -- [the memory; the tokens]
    let x : (region.the_row).Denot = record { start = start; pages = n; few = few } in
    use0 𝓛 (‵ (sized_own start n (sized_val start n ∷ []))) (sized_made 𝓛 start n fits) $ fjoin ! $ use0 𝓛 (raw (fact 𝓤 (n ≡ n))) (fact_i 𝓤 (n ≡ n) (emp 𝓤) refl) $
    nothing ! $ nothing ! $ fjoin ! $ nothing ! $ fjoin ! $ move ! (3 ∷ 0 ∷ 2 ∷ 1 ∷ []) $
    by ! (leaves 𝓛 T stays c z (sized_val start n) x (tt, (tt, tt)) (tt, (tt, tt)))))))
