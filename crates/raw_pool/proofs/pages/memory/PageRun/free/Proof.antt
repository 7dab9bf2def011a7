-- `free` takes the pages of a run as free ones. Assumes `Logic`.
use Rattle.std.proofs.Common.{◌≡◌, ℕ, ◌*◌, ◌^◌, ◌<◌, List, [], ◌∷◌, ◌++◌, replicate, refl, ap, ◌∙◌}
use Rattle.std.proofs.lemmas.List.{length-replicate}
use mir.Syntax.{Fn}
use mir.Val.{Val}
use base.Logic.{SProp, emp, never, id⊢}
use base.Fml.{ftrue}
use prog.Wp.{Env, WpFn}
use contract.Monad.{fact, fact_i}
use contract.Running.{tables}
use types.Kit.{‵, raw, ◌⊛◌, prop, ◌$◌, ◌∵◌, !, qed, by, move, drop, use0, use1, split, regoal, fsplit, fjoin}
use types.Part.{whole, sub, agg}
use types.Run.{stop, fld, of_opd, no_more, and_then, returns, enter}
use types.ByLocal.{alloc_all, pass_all, free_all, look_at, get, get_in, sets, env}
use denote.RattleType.{owns}
use denote.RawPtr.{Ptr, block_ptr, in_a_block, room_for}
use denote.Signature.{types_at}
use denote.Steps.{nothing}
use denote.Triple.Entry.{alive}
use denote.Triple.Walked.{Stays, stay_dropped, walk_of}
use Rattle.core.proofs.alloc.Calls.{Goes-blank}
use Rattle.std.proofs.raw_atomic.Walks.{proved_at, leaves}
use Rattle.linked_list_allocator.proofs.Walks.{slot_at}
use Rattle.linked_list_allocator.proofs.Values.{list_val, list_own, list_made, sized_val, sized_told}
use Rattle.raw_pool.specs.Ownership.{byte_row}
use Rattle.raw_pool.specs.PagePlaces.{Place}
use Rattle.raw_pool.specs.PageOwnership.{free_from}
use Rattle.raw_pool.proofs.PageUnits.{run_in}
use Rattle.raw_pool.specs.contracts.pages.memory.FreePages as free
use Rattle.raw_pool.specs.contracts.pages.memory.PageRun.free.{ended, clauses}
use Rattle.raw_pool.specs.contracts.pages.memory.PageRun.free.Key.{name as #self}
use Rattle.raw_pool.proofs.pages.memory.PageRun.free.Statement.{statement}
use Rattle.raw_pool.proofs.pages.memory.PageRun.free.Code as compiled

pub free_spec : {M : Type 1} → statement M
free_spec 𝓤 𝓛 𝓜 𝓡 wired =
    let H = 𝓛.H in let T = ended in let c = clauses 𝓛 𝓜.mem 𝓡.returns in let fn : Fn = compiled.function in
    let stays : Stays T.signature.params T.kept = (stay_dropped (slot_at 0 T.signature.params) T.kept.0, tt) in
    let C = (tables 𝓤 H 𝓜 𝓡 𝓡.env).C in let Λ = (tables 𝓤 H 𝓜 𝓡 𝓡.env).Λ in
    proved_at 𝓛 T stays c 𝓜 𝓡 (Goes-blank 𝓛 0 (slot_at 0 T.signature.params) T.kept.0 (λ κs x f. tt), tt) #self fn (compiled.unfolded 𝓤 H 𝓜 𝓡 wired) (λ z are.
    let Post : Val → SProp 𝓤 = (walk_of 𝓛 T stays c).post z in
    let a = z.0.3 in let vss = z.0.4 in let x = a.0 in let n : ℕ = x.pages in
    let known = sized_told x.start n vss.0 are.0.0 in let fits = known.1 in
    qed 𝓛 ((raw (alive 𝓛 T.signature z.0.0 z.0.1) ⊛ ‵ (owns (types_at T.signature.params z.0.0) a vss)) ∷ ‵ ftrue ∷ []) ∵ move ! (1 ∷ []) $ drop ! $ split ! $ move ! (1 ∷ []) $
    fsplit ! $ fsplit ! $ drop ! $ move ! (1 ∷ []) $ drop ! $ in_a_block ! x.start (λ p. room_for (byte_row (4096 * n)) p) (id⊢ 𝓤 (never 𝓤)) (λ b o at.
    let few : 4096 * n < 2 ^ 63 = x.few in let start : Ptr = block_ptr b o in
    use1 𝓛 (‵ (free_from b o (replicate n 0))) (run_in 𝓛 b o n) $
    regoal ! (λ (us : List Val). prop (WpFn 𝓤 H C Λ fn us Post)) (λ i. (known.0 ∙ ap (λ (q : Ptr). sized_val q n ∷ []) at) i ++ []) refl $
    enter ! C Λ fn (sized_val start n ∷ []) Post $
    alloc_all ! (λ l. pass_all ! refl ((tt, (tt, (record { fits = fits }, tt))), tt) $ let En : Env 𝓤 𝓛.H = env fn.locals l in
    sets ! (of_opd ! (get_in ! (fld ! refl (stop !)) (sub ! 0 refl (whole !)))) refl (tt, tt) $
    sets ! (agg ! (and_then ! (get ! refl) (no_more !))) refl (tt, (tt, tt)) $
    returns ! (look_at ! 0 refl) $ free_all ! refl $
    let p : Place = record { object = b; start = o; pages = n } in
    let y : (free.the_row).Denot = record { start = start; place = p; marks = replicate n 0; placed = ((refl, few), length-replicate {A = ℕ} n 0) } in
    use0 𝓛 (‵ (list_own start (list_val start ∷ []))) (list_made 𝓛 start tt) $ fjoin ! $
    let All : Type 0 = (n ≡ n) × (replicate {A = ℕ} n 0 ≡ replicate n 0) in use0 𝓛 (raw (fact 𝓤 All)) (fact_i 𝓤 All (emp 𝓤) (refl, refl)) $
    nothing ! $ nothing ! $ fjoin ! $ move ! (3 ∷ 0 ∷ 2 ∷ 1 ∷ []) $
    by ! (leaves 𝓛 T stays c z (list_val start) y (tt, tt) (tt, tt)))))
